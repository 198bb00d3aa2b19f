-- So many steps have been made, and what is sought is sought from there on.
use Rattle.std.proofs.Common.{◌≡◌, ◌+◌, ◌-◌, length}
use Rattle.tw_line.specs.Extremes.{least_from}
use Rattle.tw_line.specs.Movements.{after_move}
use Rattle.tw_key_parts.specs.CharacterSearch.{is_character_after, steps_to_character}
use Rattle.tw_key_parts.specs.ClusterSteps.{cluster_steps}
use Rattle.tw_key_parts.proofs.character_search.steps_to_character.Given as goal

abbrev pub invariant-loop-count : goal.invariant-loop-count
invariant-loop-count l = record {
  moved : l.at ≡ after_move (cluster_steps l.way l.count) l.editor;
  rest : steps_to_character l.way l.c l.editor ≡ least_from (is_character_after l.way l.c l.editor) l.count (length l.editor.line + 1 - l.count);
}
