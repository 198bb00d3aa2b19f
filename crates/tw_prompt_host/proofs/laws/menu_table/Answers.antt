use Rattle.std.proofs.Common.{refl}
use Rattle.tw_prompt_host.proofs.laws.menu_table.Goals as goal

pub returns : goal.returns
returns c = refl
