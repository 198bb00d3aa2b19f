-- What it takes for a candidate to fit.
use Rattle.std.proofs.Common.{◌≡◌, ℕ, ◌+◌, ◌-◌, ◌<◌, ◌≤◌, true, false, List, ◌++◌, length, take, drop, append_assoc, refl, arith}
use Rattle.std.proofs.lemmas.Bool.{and_parts, leb-true, le-leb, false_from_ne_true}
use Rattle.std.specs.Str.{IsCharBoundary}
use Rattle.tw_line.specs.Cut.{Cut, cut_at}
use Rattle.tw_host.specs.CandidateView.{CandidateView, fits, line_with, landing}
use Rattle.tw_line.proofs.BoundaryLemmas.{is_boundary-from, IsCharBoundary-from}
use Rattle.tw_session.proofs.LandingLemmas.{boundary_behind, boundary_before, boundary_was_before, boundary_inside, boundary_was_inside}

-- the parts of the test, as facts
pub record IsFitting (cut : Cut) (c : CandidateView) : Type 0 where
  pub ordered : c.start ≤ c.end
  pub within : c.end ≤ length cut.line
  pub from : IsCharBoundary cut.line c.start
  pub to : IsCharBoundary cut.line c.end
  pub low : c.end ≤ cut.cursor + length c.text + c.start
  pub lands : IsCharBoundary (line_with cut c) (landing cut c)

-- with its parts the test passes
fits-from : (cut : Cut) (c : CandidateView) → IsFitting cut c → fits cut c ≡ true
unfolding fits
fits-from cut c h =
    rw (le-leb _ _ h.ordered, le-leb _ _ h.within, is_boundary-from _ _ h.from, is_boundary-from _ _ h.to, le-leb _ _ h.low, is_boundary-from _ _ h.lands) refl

-- where the test passes, the parts are facts
pub IsFitting-from : (cut : Cut) (c : CandidateView) → fits cut c ≡ true → IsFitting cut c
unfolding fits
IsFitting-from cut c passes =
    let within = and_parts _ _ passes in
    let from = and_parts _ _ within.1 in
    let to = and_parts _ _ from.1 in
    let low = and_parts _ _ to.1 in
    let lands = and_parts _ _ low.1 in
    record {
      ordered = leb-true _ _ within.0;
      within = leb-true _ _ from.0;
      from = IsCharBoundary-from _ _ to.0;
      to = IsCharBoundary-from _ _ low.0;
      low = leb-true _ _ lands.0;
      lands = IsCharBoundary-from _ _ lands.1;
    }

-- where not all of them are, the test fails
pub fits-false : (cut : Cut) (c : CandidateView) → (IsFitting cut c → ⊥) → fits cut c ≡ false
fits-false cut c misfit = false_from_ne_true _ (λ passes. misfit (IsFitting-from cut c passes))

module _ (line text : List ℕ) (start end cursor : ℕ) where
  -- the line with its cursor
  abbrev cut : Cut
  cut = cut_at line cursor

  -- the candidate
  abbrev candidate : CandidateView
  candidate = record { start = start; end = end; text = text }

  module _ (ordered : start ≤ end) (from : IsCharBoundary line start) (to : IsCharBoundary line end) where
    -- a landing that is a boundary
    fits_landing : (at : ℕ) → end + at ≡ cursor + length text + start → IsCharBoundary (line_with cut candidate) at → fits cut candidate ≡ true
    fits_landing at landed stands =
        let same : cursor + length text + start - end ≡ at = omega arith in
        fits-from cut candidate (record { ordered = ordered; within = to.0; from = from; to = to; low = omega arith; lands = rw same stands })

    -- a landing that is none
    misfits_landing : (at : ℕ) → end + at ≡ cursor + length text + start → (IsCharBoundary (line_with cut candidate) at → ⊥) → fits cut candidate ≡ false
    misfits_landing at landed none =
        let same : cursor + length text + start - end ≡ at = omega arith in
        fits-false cut candidate (λ f. none (rw same at f.lands))

    -- the cursor stands after the range, or at its end
    pub fits_behind : end ≤ cursor → IsCharBoundary line cursor → fits cut candidate ≡ true
    fits_behind low stands = fits_landing (cursor + length text + start - end) (omega arith) (boundary_behind line text start end ordered to.0 cursor low stands)

    -- the landing is a boundary before the text
    pub fits_before : (at : ℕ) → end + at ≡ cursor + length text + start → at < start → IsCharBoundary line at → fits cut candidate ≡ true
    fits_before at landed before stands = fits_landing at landed (boundary_before line text start end ordered to.0 at before stands)

    -- the landing is a boundary of the text
    pub fits_inside : (at : ℕ) → end + at ≡ cursor + length text + start → cursor < end → start ≤ at → IsCharBoundary text (at - start) → fits cut candidate ≡ true
    fits_inside at landed high inside stands = fits_landing at landed (boundary_inside line text start end ordered to.0 at inside (omega arith) stands)

    -- the landing is before the text, and no boundary
    pub misfits_before : (at : ℕ) → end + at ≡ cursor + length text + start → at < start → (IsCharBoundary line at → ⊥) → fits cut candidate ≡ false
    misfits_before at landed before none = misfits_landing at landed (λ stands. none (boundary_was_before line text start end ordered to.0 at before stands))

    -- the landing is in the text, and no boundary
    pub misfits_inside : (at : ℕ) → end + at ≡ cursor + length text + start → cursor < end → start ≤ at → (IsCharBoundary text (at - start) → ⊥) → fits cut candidate ≡ false
    misfits_inside at landed high inside none =
        misfits_landing at landed (λ stands. none (boundary_was_inside line text start end ordered to.0 at inside (omega arith) stands))

-- where the cursor lands in the new line, which is put together from its parts
pub lands-in : (cut : Cut) (c : CandidateView) (line : List ℕ) (at : ℕ) → fits cut c ≡ true → line ≡ (take c.start cut.line ++ c.text) ++ drop c.end cut.line → at ≡ landing cut c → IsCharBoundary line at
lands-in cut c line at passes together lands =
    rw (lands, together, append_assoc) (IsFitting-from cut c passes).lands
