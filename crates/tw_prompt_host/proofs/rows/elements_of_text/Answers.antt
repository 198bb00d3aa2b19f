use Rattle.std.proofs.Common.{◌≡◌, ◌++◌, ◌∷◌, [], Some, map, arith, rules, ap, sym, ◌∙◌}
use Rattle.std.proofs.lemmas.List.{map-append}
use Rattle.std.proofs.lemmas.Str.Pattern.{split_parts}
use Rattle.tw_host.specs.ElementView.{element_view, Text}
use Rattle.tw_hosts.specs.Settling.{screen_view}
use Rattle.tw_prompt_host.specs.Rows.{elements_of_text, next_row, row_behind, row_view}
use Rattle.tw_prompt_host.proofs.RowLemmas.{behind-step, elements-feed, no-feed, shown-step}
use Rattle.tw_prompt_host.proofs.rows.elements_of_text.Goals as goal

pub loop-piece-preserved : goal.loop-piece-preserved
loop-piece-preserved c =
    let screen = screen_view c.args.screen.now in
    let continuation = c.args.continuation.now in
    let set = c.args.set in
    let row = row_view c.loop-piece.row in
    let rest = c.loop-piece.rest.now in
    let piece = c.in-Some.piece.now in
    let more = c.in-Some.more.now in
    let shown = map element_view c.loop-piece.elements.items in
    let between = map element_view c.in_ok-break_elements.field-0.items in
    let left = elements_of_text screen continuation set next_row more in
    let begun = c.in_ok-break_elements.ensures.row in
    let parts = split_parts 10 rest (Some (c.in-Some.piece, c.in-Some.more)) c.in-Some.ensures.cases (omega arith) in
    let is : elements_of_text screen continuation set row rest ≡ Text piece ∷ (between ++ left) =
    ap (elements_of_text screen continuation set row) parts.0 ∙ elements-feed screen continuation set row piece more (no-feed piece parts.1)
    ∙ ap (λ elements. Text piece ∷ (elements ++ left)) (sym c.in_ok-break_elements.ensures.elements) in
    let first : map element_view c.push.new.self.items ≡ shown ++ Text piece ∷ [] = search (rules, map-append) in
    let new : map element_view c.append.new.self.items ≡ (shown ++ Text piece ∷ []) ++ between =
    ap (map element_view) c.in_ok-append.ensures.items ∙ map-append element_view c.push.new.self.items _
    ∙ ap (λ elements. elements ++ between) first in
    record {
      utf8 = search rules;
      shown = ap (λ r. map element_view c.append.new.self.items ++ elements_of_text screen continuation set r more) begun
          ∙ shown-step shown (Text piece ∷ []) between left _ _ _ is new c.loop-piece.invariant.shown;
      behind = ap (λ r. row_behind r more) begun ∙ behind-step row rest piece more _ parts.0 c.loop-piece.invariant.behind;
    }
