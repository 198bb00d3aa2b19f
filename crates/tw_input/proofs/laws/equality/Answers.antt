use Rattle.tw_input.proofs.EqualityLemmas.{key_codes_equal, key_events_equal}
use Rattle.tw_input.proofs.laws.equality.Goals as goal

pub returns-clause-key_code : goal.returns-clause-key_code
returns-clause-key_code c = key_codes_equal

pub returns-clause-key_event : goal.returns-clause-key_event
returns-clause-key_event c = key_events_equal
