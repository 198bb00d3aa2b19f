use Rattle.std.proofs.lemmas.Result.{IfOk-weaker}
use Rattle.tw_history_parts.proofs.RecentLemmas.{opened_keeps}
use Rattle.tw_history_parts.proofs.written.WrittenHistory+RecentHistory+File.open.Goals as goal

pub returns-in-Ok-clause-kept : goal.returns-in-Ok-clause-kept
returns-in-Ok-clause-kept c = IfOk-weaker c.take_up.result _ _ (λ it opened. opened_keeps c.args.lines it opened) c.take_up.ensures.opened
