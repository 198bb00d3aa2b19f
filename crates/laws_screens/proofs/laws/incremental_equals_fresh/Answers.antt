use Rattle.std.proofs.Common.{length, arith}
use Rattle.laws_screens.proofs.DrawnSheets.{rows-is}
use Rattle.tw_surface.proofs.BatchLemmas.{beginning}
use Rattle.laws_screens.proofs.FreshCharacters.{one_fresh}
use Rattle.laws_screens.proofs.PlainScenes.{plain_is_measured}
use Rattle.laws_screens.proofs.PlainStations.{counted_rows, every_painting, last_painting, stacked}
use Rattle.laws_screens.proofs.PlainTexts.{text_of_lines-lines, one_line, lines_of_joined}
use Rattle.laws_screens.proofs.laws.incremental_equals_fresh.Goals as goal

pub returns : goal.returns
returns c = record {
  painted = every_painting;
  beginning = beginning;
  closed = last_painting;
  stacked = stacked;
  rows_counted = counted_rows;
  lines = (text_of_lines-lines, one_line, lines_of_joined);
  rows = λ w line two. rows-is w (length line) (omega arith);
  one = one_fresh;
  measured = plain_is_measured;
}
