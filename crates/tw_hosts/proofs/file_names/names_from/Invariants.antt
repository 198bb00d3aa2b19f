-- What was offered so far are the candidates among the entries so far.
use Rattle.std.proofs.Common.{◌≡◌, map, take}
use Rattle.tw_host.specs.CandidateView.{candidate_view}
use Rattle.tw_hosts.specs.FileNames.{names_from}
use Rattle.tw_hosts.proofs.file_names.names_from.Given as goal

abbrev pub invariant-loop-entry : goal.invariant-loop-entry
invariant-loop-entry l = map candidate_view l.candidates.items ≡ names_from (take l.entry-index l.entries) l.cursor l.text
