use Rattle.tw_host.proofs.KeyTableLemmas as by
use Rattle.tw_host.proofs.laws.key_table.Goals as goal

pub returns-clause-same_key : goal.returns-clause-same_key
returns-clause-same_key c = by.same_key

pub returns-clause-distinct : goal.returns-clause-distinct
returns-clause-distinct c = by.distinct

pub returns-clause-found : goal.returns-clause-found
returns-clause-found c = by.found

pub returns-clause-not_typed : goal.returns-clause-not_typed
returns-clause-not_typed c = by.not_typed
