-- The texts so far are those of the candidates so far.
use Rattle.std.proofs.Common.{◌≡◌, map, string_bytes, take}
use Rattle.tw_host.specs.CandidateView.{candidate_view}
use Rattle.tw_hosts.specs.SharedCandidate.{candidate_texts}
use Rattle.tw_hosts.proofs.shared.candidate_texts.Given as goal

abbrev pub invariant-loop-candidate : goal.invariant-loop-candidate
invariant-loop-candidate l = map string_bytes l.texts.items ≡ candidate_texts (map candidate_view (take l.candidate-index l.candidates))
