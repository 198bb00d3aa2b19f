use Rattle.tw_prompt_host.proofs.RowLemmas.{printable_is_shown}
use Rattle.tw_prompt_host.proofs.laws.rows.Goals as goal

pub returns-clause-shown : goal.returns-clause-shown
returns-clause-shown c = printable_is_shown
