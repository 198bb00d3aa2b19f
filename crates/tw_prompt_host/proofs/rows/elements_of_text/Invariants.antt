-- The elements so far, and those of the rest in rows, are those of the whole text in rows.
use Rattle.std.proofs.Common.{◌≡◌, ◌++◌, length, map}
use Rattle.std.specs.Str.{IsUtf8}
use Rattle.tw_host.specs.ElementView.{element_view}
use Rattle.tw_hosts.specs.Settling.{screen_view}
use Rattle.tw_prompt_host.specs.Rows.{elements_of_rows, row_behind, row_view, rows_of_text}
use Rattle.tw_prompt_host.proofs.rows.elements_of_text.Given as goal

abbrev pub invariant-loop-piece : goal.invariant-loop-piece
invariant-loop-piece l = record {
  utf8 : IsUtf8 l.rest;
  shown : map element_view l.elements.items ++ elements_of_rows (screen_view l.screen) l.continuation l.set (row_view l.row) (rows_of_text l.rest)
      ≡ elements_of_rows (screen_view l.screen) l.continuation l.set (row_view l.fn.row) (rows_of_text l.fn.text);
  behind : row_behind (row_view l.row) l.rest ≡ row_behind (row_view l.fn.row) l.fn.text;
}

abbrev pub decreases-loop-piece : goal.decreases-loop-piece
decreases-loop-piece l = length l.rest
