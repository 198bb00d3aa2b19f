use Rattle.tw_key_parts.proofs.EditedLineLemmas.{line_is_kept, step_back_is_undone}
use Rattle.tw_key_parts.proofs.laws.walks.Goals as goal

pub returns-clause-kept : goal.returns-clause-kept
returns-clause-kept c = line_is_kept

pub returns-clause-undone : goal.returns-clause-undone
returns-clause-undone c = step_back_is_undone
