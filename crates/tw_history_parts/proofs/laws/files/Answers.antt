use Rattle.tw_history_parts.proofs.FileLemmas.{end_is_read}
use Rattle.tw_history_parts.proofs.laws.files.Goals as goal

pub returns-clause-end : goal.returns-clause-end
returns-clause-end c = end_is_read
