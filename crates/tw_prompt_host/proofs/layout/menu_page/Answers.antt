use Rattle.std.proofs.Common.{◌≡◌, ◌++◌, ◌-◌, ◌%◌, ◌<◌, length, map, refl, ap, sym, ◌∙◌, arith, rules}
use Rattle.std.proofs.lemmas.List.{map-append}
use Rattle.tw_host.specs.CandidateView.{candidate_view}
use Rattle.tw_host.specs.ElementView.{element_view}
use Rattle.tw_prompt_host.specs.MenuLayout.{page_cell, cells_from, menu_texts}
use Rattle.tw_prompt_host.proofs.LayoutLemmas.{cells-more, text-there}
use Rattle.tw_prompt_host.proofs.layout.menu_page.Goals as goal

pub loop-at-preserved : goal.loop-at-preserved
loop-at-preserved c =
    let style = c.args.style in
    let candidates = c.args.candidates.now in
    let chosen = c.args.chosen in
    let at = c.loop-at.at in
    let start = chosen - chosen % c.page_len-page.result in
    let cell = page_cell style (menu_texts (map candidate_view candidates)) start chosen in
    let inside : at < length candidates = search rules in
    let one : map element_view c.in_ok-cell.cell.items ≡ cell at =
    c.in_ok-cell.ensures ∙ rw (
      c.as_str-in-loop-at.ensures.value,
      c.in_ok-text.ensures,
      c.as_str.ensures.value,
      ← text-there candidates at c.index-candidates-at.result inside,
      c.gap-before.ensures,
      c.row_len-in_row.ensures.value,
      c.widest-width.ensures,
    ) refl in
    record {
      low = omega (arith, c.loop-at.invariant.low);
      cells =
          ap (map element_view) c.in_ok-append.ensures.items ∙ map-append element_view c.loop-at.elements.items _
          ∙ ap (λ elements. elements ++ map element_view c.in_ok-cell.cell.items) c.loop-at.invariant.cells
          ∙ ap (λ elements. cells_from cell start (at - start) ++ elements) one
          ∙ sym (cells-more cell start at (at - start) c.loop-at.invariant.low refl);
    }
