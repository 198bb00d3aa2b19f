-- So many steps have been made, whether a letter stands there is known, and what is sought is sought from there on.
use Rattle.std.proofs.Common.{◌≡◌, ◌+◌, ◌-◌, length}
use Rattle.tw_line.specs.Extremes.{least_from}
use Rattle.tw_line.specs.Movements.{after_move}
use Rattle.tw_key_parts.specs.ClusterSteps.{is_last_letter, is_letter_after, last_letter, cluster_steps}
use Rattle.tw_key_parts.proofs.steps.last_letter.Given as goal

abbrev pub invariant-loop-count : goal.invariant-loop-count
invariant-loop-count l = record {
  moved : l.at ≡ after_move (cluster_steps l.way l.count) l.editor;
  here : l.is_letter ≡ is_letter_after l.way l.editor l.count;
  rest : last_letter l.way l.from l.editor ≡ least_from (is_last_letter l.way l.editor) l.count (l.from + length l.editor.line - l.count);
}
