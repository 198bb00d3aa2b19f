-- `count` steps have been made, and the number of steps is sought from there on.
use Rattle.std.proofs.Common.{◌≡◌, ◌-◌, length, unwrap_or}
use Rattle.tw_line.specs.Extremes.{least_from}
use Rattle.tw_line.specs.Movements.{after_move}
use Rattle.tw_key_parts.specs.ClusterSteps.{cluster_steps}
use Rattle.tw_key_parts.specs.RowKeys.{is_reached_by, steps_to}
use Rattle.tw_key_parts.proofs.row_keys.steps_to.Given as goal

abbrev pub invariant-loop-count : goal.invariant-loop-count
invariant-loop-count l = let end = length l.editor.line in record {
  moved : l.walker ≡ after_move (cluster_steps l.way l.count) l.editor;
  rest : steps_to l.way l.to l.editor ≡ unwrap_or (least_from (is_reached_by l.way l.to l.editor) l.count (end - l.count)) end;
}
