-- A cycle goes to its next candidate.
use Rattle.std.proofs.Common.{◌≡◌, ℕ, ◌+◌, ◌%◌, ◌<◌, List, length, map, get_or, slice_get, Some, option_map, refl, sym, ap, ◌∙◌, arith}
use Rattle.std.proofs.Math.Nat.{mod-lt}
use Rattle.std.proofs.lemmas.List.{length-map}
use Rattle.std.proofs.lemmas.Option.{slice_get-map, slice_get_read}
use Rattle.tw_line.specs.Cut.{Cut}
use Rattle.tw_host.specs.CandidateView.{candidate_view, completed_by}
use Rattle.tw_session.specs.Completion.{next_in, Advances, FailsToAdvance, IsMisfit}
use Rattle.tw_session.specs.EditState.{CycleView}
use Rattle.tw_session.specs.declared.error.Error.{Error}
use Rattle.tw_host.specs.declared.host.CompletionCandidate.{CompletionCandidate}

module _ (items : List CompletionCandidate) (index at : ℕ) (original : Cut) (c : CompletionCandidate) (low : index < length items) (on : at ≡ (index + 1) % length items) (there : c ≡ get_or items at c) where
  -- a cycle of these candidates
  abbrev cycle_at : ℕ → CycleView
  cycle_at i = record { candidates = map candidate_view items; index = i; original = original }

  -- its next index
  next-is : next_in (cycle_at index) ≡ at
  next-is = rw (length-map items candidate_view) (sym on)

  -- its next candidate
  next-there : slice_get (map candidate_view items) (next_in (cycle_at index)) ≡ Some (candidate_view c)
  next-there =
      let below : at < length items = rw on (mod-lt (index + 1) (omega arith)) in
      rw next-is (slice_get-map candidate_view items at ∙ ap (option_map candidate_view) (slice_get_read items (length items) at c refl below there))

  -- the candidate fits
  pub advances : (line : Cut) → completed_by (candidate_view c) original ≡ Some line → Advances (cycle_at index) (cycle_at at) line
  advances line fits = record { cycle = ap cycle_at (sym next-is); next = candidate_view c; there = next-there; fits = fits }

  -- the candidate is not put in
  pub fails_to_advance : (e : Error) → IsMisfit (candidate_view c) original e → FailsToAdvance (cycle_at index) (cycle_at index) e
  fails_to_advance e misfit = record { same = refl; next = candidate_view c; there = next-there; misfit = misfit }
