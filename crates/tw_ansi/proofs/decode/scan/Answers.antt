use Rattle.tw_ansi.proofs.Tokens.{takes, takes_no_more, is_there}
use Rattle.tw_ansi.proofs.decode.scan.Goals as goal

pub returns-clause-takes : goal.returns-clause-takes
returns-clause-takes c = takes c.args.is_last c.args.bytes.now _ c.token_at.ensures

pub returns-clause-within : goal.returns-clause-within
returns-clause-within c = takes_no_more c.args.is_last c.args.bytes.now _ c.token_at.ensures

pub returns-clause-ends : goal.returns-clause-ends
returns-clause-ends c = λ last. is_there c.args.is_last c.args.bytes.now _ c.token_at.ensures c.requires last
