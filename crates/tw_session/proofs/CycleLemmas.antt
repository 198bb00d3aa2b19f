-- Completions put in the candidates that fit, in turn.
use Rattle.std.proofs.Common.{◌≡◌, ℕ, zero, suc, ◌+◌, ◌-◌, ◌%◌, ◌<◌, ◌≤◌, true, List, [], length, get_or, replicate, slice_get, Some, None, Ok, IsOkAnd, refl, subst, ap, ◌∙◌, arith}
use Rattle.std.specs.List.{list_all}
use Rattle.std.proofs.Math.Nat.{mod-lt, mod-eq_of_lt, mod-add-mod}
use Rattle.std.proofs.lemmas.Bool.{lt-ltb}
use Rattle.std.proofs.lemmas.List.Sums.{AllPass-from_list_all}
use Rattle.std.proofs.lemmas.Option.{slice_get-get_or}
use Rattle.tw_line.specs.Cut.{Cut, cut_at}
use Rattle.tw_host.specs.CandidateView.{CandidateView, fits, line_with, landing, completed_by}
use Rattle.tw_host.specs.ActionView.{Complete}
use Rattle.tw_host.specs.HostRules.{HostRules}
use Rattle.tw_session.specs.EditState.{EditState, ModeView, Inactive, Editing, Cancelled, Accepted, Searching}
use Rattle.tw_session.specs.Search.{IsSearching, search_left_in}
use Rattle.tw_session.specs.Completion.{completion_step}
use Rattle.tw_session.specs.Steps.{apply}
use Rattle.tw_session.specs.HistoryLaws.{apply_all}
use Rattle.tw_session.specs.CompletionLaws.{GoesRound}
use Rattle.tw_session.proofs.WalkLemmas.{IsOkAnd-step}

-- without a search none is left
search_left-plain : (s : EditState) (mode : ModeView) → ¬ (IsSearching mode) → search_left_in s mode ≡ s
search_left-plain s Inactive plain = refl
search_left-plain s Editing plain = refl
search_left-plain s Cancelled plain = refl
search_left-plain s Accepted plain = refl
search_left-plain s (Searching style direction matching) plain = absurd (plain tt)

module _ {V : Type 0} (rules : HostRules V) (v : V) (s : EditState) (candidates : List CandidateView) (there : rules.candidates v s.cut ≡ candidates)
    (plain : ¬ (IsSearching s.mode)) (some : 2 ≤ length candidates) (fit : list_all (fits s.cut) candidates ≡ true) where
  -- the candidate at an index
  abbrev at : ℕ → CandidateView
  at i = get_or candidates i (record { start = 0; end = 0; text = [] })

  -- the cut text that it makes
  abbrev made : ℕ → Cut
  made i = cut_at (line_with s.cut (at i)) (landing s.cut (at i))

  -- the state once it has come in
  abbrev standing : ℕ → EditState
  standing i = record s { cut = made i; cycle = Some (record { candidates = candidates; index = i; original = s.cut }) }

  -- each candidate makes its cut text
  makes : (i : ℕ) → i < length candidates → completed_by (at i) s.cut ≡ Some (made i)
  makes i low =
      let passes : fits s.cut (at i) ≡ true = AllPass-from_list_all (fits s.cut) candidates fit i _ low in
      rw passes refl

  -- the candidate stands in the list
  stands : (i : ℕ) → i < length candidates → slice_get candidates i ≡ Some (at i)
  stands i low = slice_get-get_or candidates i _ low

  -- the first completion
  apply-first : s.cycle ≡ None → apply rules v Complete s ≡ Ok (standing 0)
  unfolding apply completion_step
  apply-first none = rw (search_left-plain s s.mode plain, none, there, stands 0 (omega arith), makes 0 (omega arith), lt-ltb 1 (length candidates) some) refl

  -- a further completion
  apply-next_step : (i : ℕ) → apply rules v Complete (standing i) ≡ Ok (standing ((i + 1) % length candidates))
  unfolding apply completion_step
  apply-next_step i =
      let low : (i + 1) % length candidates < length candidates = mod-lt (i + 1) (omega arith) in
      rw (search_left-plain (standing i) s.mode plain, stands _ low, makes _ low) refl

  -- the candidate at an index has come in
  abbrev MakesAt : ℕ → EditState → Type 0
  MakesAt i t = (c : CandidateView) × (slice_get candidates i ≡ Some c) × (completed_by c s.cut ≡ Some t.cut)

  -- k completions more
  round : (k i : ℕ) → i < length candidates → IsOkAnd (apply_all rules v (replicate k Complete) (standing i)) (MakesAt ((i + k) % length candidates))
  round zero i low =
      let none : i + 0 ≡ i = omega arith in
      let same : (i + 0) % length candidates ≡ i = ap (λ n. n % length candidates) none ∙ mod-eq_of_lt low in
      (at i, rw same (stands i low), makes i low)
  round (suc k) i low =
      let below : (i + 1) % length candidates < length candidates = mod-lt (i + 1) (omega arith) in
      let further : (i + 1) + k ≡ i + suc k = omega arith in
      let same : ((i + 1) % length candidates + k) % length candidates ≡ (i + suc k) % length candidates =
      mod-add-mod (i + 1) (length candidates) k ∙ ap (λ n. n % length candidates) further in
      IsOkAnd-step rules v Complete (replicate k Complete) (standing i) (standing ((i + 1) % length candidates)) (MakesAt ((i + suc k) % length candidates)) (apply-next_step i)
      (subst (λ n. IsOkAnd (apply_all rules v (replicate k Complete) (standing ((i + 1) % length candidates))) (MakesAt n)) same (round k ((i + 1) % length candidates) below))

-- the law
pub goes_round : {V : Type 0} (rules : HostRules V) (v : V) → GoesRound rules v
goes_round rules v s zero none plain some fit one = absurd (omega arith)
goes_round rules v s (suc k) none plain some fit one =
    let more : suc k - 1 ≡ 0 + k = omega arith in
    IsOkAnd-step rules v Complete (replicate k Complete) s _ _ (apply-first rules v s (rules.candidates v s.cut) refl plain some fit none)
    (rw more (round rules v s (rules.candidates v s.cut) refl plain some fit k 0 (omega arith)))
