-- The elements so far, and those that are left in rows, are all in rows.
use Rattle.std.proofs.Common.{◌≡◌, ◌++◌, drop, map, None}
use Rattle.tw_host.specs.ElementView.{element_view}
use Rattle.tw_hosts.specs.Settling.{screen_view}
use Rattle.tw_prompt_host.specs.Rows.{elements_from, empty_first_row, row_view}
use Rattle.tw_prompt_host.proofs.rows.elements_in_rows.Given as goal

abbrev pub invariant-loop-element : goal.invariant-loop-element
invariant-loop-element l =
    map element_view l.shown.items ++ elements_from (screen_view l.screen) l.continuation l.set (row_view l.row) (map element_view (drop l.element-index l.elements))
    ≡ elements_from (screen_view l.screen) l.continuation None empty_first_row (map element_view l.elements)
