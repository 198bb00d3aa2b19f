-- The copies so far are those of the candidates so far.
use Rattle.std.proofs.Common.{◌≡◌, map, take}
use Rattle.tw_host.specs.CandidateView.{candidate_view}
use Rattle.tw_host.proofs.host.copy_candidates.Given as goal

abbrev pub invariant-loop-candidate : goal.invariant-loop-candidate
invariant-loop-candidate l = map candidate_view l.copies.items ≡ map candidate_view (take l.candidate-index l.candidates)
