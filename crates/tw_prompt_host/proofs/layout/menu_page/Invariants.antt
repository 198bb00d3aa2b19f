-- The elements so far are the cells so far.
use Rattle.std.proofs.Common.{◌≡◌, ◌-◌, ◌≤◌, map}
use Rattle.tw_host.specs.CandidateView.{candidate_view}
use Rattle.tw_host.specs.ElementView.{element_view}
use Rattle.tw_prompt_host.specs.MenuLayout.{page_cell, cells_from, menu_texts}
use Rattle.tw_prompt_host.proofs.layout.menu_page.Given as goal

abbrev pub invariant-loop-at : goal.invariant-loop-at
invariant-loop-at l = record {
  low : l.start ≤ l.at;
  cells : map element_view l.elements.items ≡ cells_from (page_cell l.style (menu_texts (map candidate_view l.candidates)) l.start l.chosen) l.start (l.at - l.start);
}
