-- A law of completions, over the definitions alone.
use Rattle.std.specs.Prelude.{◌≡◌, ℕ, ◌-◌, ◌%◌, ◌≤◌, true, length, replicate, slice_get, Some, None, IsOkAnd}
use Rattle.std.specs.List.{list_all}
use Rattle.tw_host.specs.CandidateView.{CandidateView, fits, completed_by}
use Rattle.tw_host.specs.ActionView.{Complete}
use Rattle.tw_host.specs.HostRules.{HostRules}
use Rattle.tw_session.specs.EditState.{EditState}
use Rattle.tw_session.specs.Search.{IsSearching}
use Rattle.tw_session.specs.HistoryLaws.{apply_all}

module _ {V : Type 0} (rules : HostRules V) (v : V) where
  -- k completions give the original cut text with one of the candidates that fit, in turn
  abbrev pub GoesRound : Type 0
  GoesRound = (s : EditState) (k : ℕ) → s.cycle ≡ None → ¬ (IsSearching s.mode)
      → 2 ≤ length (rules.candidates v s.cut) → list_all (fits s.cut) (rules.candidates v s.cut) ≡ true → 1 ≤ k
      → IsOkAnd (apply_all rules v (replicate k Complete) s) (λ t. (c : CandidateView)
      × (slice_get (rules.candidates v s.cut) ((k - 1) % length (rules.candidates v s.cut)) ≡ Some c)
      × (completed_by c s.cut ≡ Some t.cut))
