-- Steps back through the history and as many steps forth give the typed line, and leave the history.
use Rattle.std.proofs.Common.{◌≡◌, ℕ, zero, suc, ◌+◌, ◌-◌, ◌<◌, ◌≤◌, List, [], ◌∷◌, ◌++◌, length, replicate, Some, None, Ok, IsOkAnd, refl, sym, ap, ◌∙◌, arith}
use Rattle.std.proofs.lemmas.Option.{slice_get-get_or, slice_get_past}
use Rattle.tw_line.specs.Cut.{Cut, at_end}
use Rattle.tw_line.specs.NearestMatch.{line_at, last_index, last_line}
use Rattle.tw_host.specs.ActionView.{ActionView, HistoryPrevious, HistoryNext}
use Rattle.tw_host.specs.HostRules.{HostRules}
use Rattle.tw_session.specs.EditState.{EditState, ModeView, Inactive, Editing, Cancelled, Accepted, Searching}
use Rattle.tw_session.specs.Walk.{previous_step, next_step}
use Rattle.tw_session.specs.Search.{IsSearching}
use Rattle.tw_session.specs.Steps.{apply, history_step, without_cycle}
use Rattle.tw_session.specs.HistoryLaws.{apply_all, LeavesHistory, WalksBack}
use Rattle.tw_line.specs.declared.history.SearchDirection.{SearchDirection}
use Rattle.tw_line.specs.declared.history.SearchDirection.TheVariants.{Backwards, Forwards}

-- a step through the history in a mode without a search
history_step-plain : (lines : List (List ℕ)) (direction : SearchDirection) (step : EditState → EditState) (s : EditState) (mode : ModeView) → ¬ (IsSearching mode) → history_step lines direction step s mode ≡ step s
history_step-plain lines direction step s Inactive plain = refl
history_step-plain lines direction step s Editing plain = refl
history_step-plain lines direction step s Cancelled plain = refl
history_step-plain lines direction step s Accepted plain = refl
history_step-plain lines direction step s (Searching style before matching) plain = absurd (plain tt)

-- the last index of a list of lines that is not empty
last_index-some : (lines : List (List ℕ)) → 1 ≤ length lines → last_index lines ≡ Some (length lines - 1)
last_index-some [] some = absurd (omega arith)
last_index-some (x ∷ lines) some = refl

-- and after it there is no line
pub length-last : (lines : List (List ℕ)) (last : ℕ) → last_index lines ≡ Some last → length lines ≡ last + 1
length-last [] last e = absurd cc
length-last (x ∷ lines) last e =
    let same : length (x ∷ lines) - 1 ≡ last = cc in
    omega arith

-- without one there is none
pub length-none : (lines : List (List ℕ)) → last_index lines ≡ None → length lines ≡ 0
length-none [] e = refl
length-none (x ∷ lines) e = absurd cc

-- the state on a walk: a line of the history stands in place of the typed one, which is kept, and nothing is completed
abbrev held : EditState → Cut → ℕ → EditState
held s cut i = record s { cut = cut; history_index = Some i; typed_line = Some s.cut.line; cycle = None }

-- the first step back
previous_step-first : (lines : List (List ℕ)) (s : EditState) → s.history_index ≡ None → 1 ≤ length lines → without_cycle (previous_step lines s) ≡ held s (at_end (line_at lines (length lines - 1))) (length lines - 1)
unfolding previous_step
previous_step-first lines s typed some =
    rw (typed, last_index-some lines some, slice_get-get_or lines (length lines - 1) [] (omega arith)) refl

-- a further step back
previous_step-held : (lines : List (List ℕ)) (s : EditState) (cut : Cut) (i : ℕ) → suc i ≤ length lines → without_cycle (previous_step lines (held s cut (suc i))) ≡ held s (at_end (line_at lines i)) i
unfolding previous_step
previous_step-held lines s cut i low =
    let e : suc i - 1 ≡ i = omega arith in
    rw (e, slice_get-get_or lines i [] low) refl

-- a step forth to a line
next_step-held : (lines : List (List ℕ)) (s : EditState) (cut : Cut) (i : ℕ) → suc i < length lines → without_cycle (next_step lines (held s cut i)) ≡ held s (at_end (line_at lines (suc i))) (suc i)
unfolding next_step
next_step-held lines s cut i low =
    let e : i + 1 ≡ suc i = omega arith in
    rw (e, slice_get-get_or lines (suc i) [] low) refl

-- the state after a walk: the typed line stands again, and the history is left
abbrev move_step : EditState → EditState
move_step s = record s { cut = at_end s.cut.line; history_index = None; typed_line = None; cycle = None }

-- the step forth after the last line leaves the history
next_step-last : (lines : List (List ℕ)) (s : EditState) (cut : Cut) (i : ℕ) → length lines ≤ suc i → without_cycle (next_step lines (held s cut i)) ≡ move_step s
unfolding next_step
next_step-last lines s cut i high =
    let e : i + 1 ≡ suc i = omega arith in
    rw (e, slice_get_past lines (suc i) high) refl

module _ {V : Type 0} (rules : HostRules V) (v : V) where
  -- a step back is applied
  apply-previous_step : (s : EditState) → ¬ (IsSearching s.mode) → apply rules v HistoryPrevious s ≡ Ok (without_cycle (previous_step (rules.lines v) s))
  unfolding apply
  apply-previous_step s plain = ap (λ (t : EditState). Ok (without_cycle t)) (history_step-plain (rules.lines v) Backwards (previous_step (rules.lines v)) s s.mode plain)

  -- a step forth is applied
  apply-next_step : (s : EditState) → ¬ (IsSearching s.mode) → apply rules v HistoryNext s ≡ Ok (without_cycle (next_step (rules.lines v) s))
  unfolding apply
  apply-next_step s plain = ap (λ (t : EditState). Ok (without_cycle t)) (history_step-plain (rules.lines v) Forwards (next_step (rules.lines v)) s s.mode plain)

  -- what a list of actions leads to, where the first one leads to t
  pub IsOkAnd-step : (a : ActionView) (actions : List ActionView) (s t : EditState) (P : EditState → Type 0) → apply rules v a s ≡ Ok t → IsOkAnd (apply_all rules v actions t) P → IsOkAnd (apply_all rules v (a ∷ actions) s) P
  IsOkAnd-step a actions s t P e rest = rw e rest

  module _ (s : EditState) (plain : ¬ (IsSearching s.mode)) (P : EditState → Type 0) (ends : P (move_step s)) where
    -- the steps forth from a line of the history
    forth : (i p : ℕ) (cut : Cut) → 1 ≤ i → p + i ≡ length (rules.lines v) → IsOkAnd (apply_all rules v (replicate i HistoryNext) (held s cut p)) P
    forth zero p cut some counts = absurd (omega arith)
    forth (suc zero) p cut some counts =
        let on = ap Ok (next_step-last (rules.lines v) s cut p (omega arith)) in
        IsOkAnd-step HistoryNext [] (held s cut p) _ _ (apply-next_step (held s cut p) plain ∙ on) ends
    forth (suc (suc i)) p cut some counts =
        let on = ap Ok (next_step-held (rules.lines v) s cut p (omega arith)) in
        IsOkAnd-step HistoryNext (replicate (suc i) HistoryNext) (held s cut p) _ _ (apply-next_step (held s cut p) plain ∙ on)
        (forth (suc i) (suc p) _ (omega arith) (omega arith))

    -- the steps back from a line of the history, and then the steps forth
    back : (j i p : ℕ) (cut : Cut) → 1 ≤ i → j ≤ p → p < length (rules.lines v) → p + i ≡ length (rules.lines v) + j
        → IsOkAnd (apply_all rules v (replicate j HistoryPrevious ++ replicate i HistoryNext) (held s cut p)) P
    back zero i p cut some low high counts = forth i p cut some (omega arith)
    back (suc j) i zero cut some low high counts = absurd (omega arith)
    back (suc j) i (suc p) cut some low high counts =
        let on = ap Ok (previous_step-held (rules.lines v) s cut p (omega arith)) in
        IsOkAnd-step HistoryPrevious (replicate j HistoryPrevious ++ replicate i HistoryNext) (held s cut (suc p)) _ _ (apply-previous_step (held s cut (suc p)) plain ∙ on)
        (back j i p _ some (omega arith) (omega arith) (omega arith))

    -- a whole walk
    walk : (k : ℕ) → s.history_index ≡ None → 1 ≤ k → k ≤ length (rules.lines v) → IsOkAnd (apply_all rules v (replicate k HistoryPrevious ++ replicate k HistoryNext) s) P
    walk zero typed some low = absurd (omega arith)
    walk (suc k) typed some low =
        let lines = rules.lines v in
        let on = ap Ok (previous_step-first lines s typed (omega arith)) in
        IsOkAnd-step HistoryPrevious (replicate k HistoryPrevious ++ replicate (suc k) HistoryNext) s _ _ (apply-previous_step s plain ∙ on)
        (back k (suc k) (length lines - 1) _ (omega arith) (omega arith) (omega arith) (omega arith))

  -- the law of walks
  pub walks : WalksBack rules v
  walks s k typed plain some low = walk s plain (λ t. t.cut ≡ at_end s.cut.line) refl k typed some low

  -- the first step of a second walk
  first_again : (s : EditState) → ¬ (IsSearching s.mode) → 1 ≤ length (rules.lines v) → IsOkAnd (apply rules v HistoryPrevious (move_step s)) (λ u. Some u.cut.line ≡ last_line (rules.lines v))
  first_again s plain some =
      let lines = rules.lines v in
      let on = apply-previous_step (move_step s) plain ∙ ap Ok (previous_step-first lines (move_step s) refl some) in
      rw on (sym (slice_get-get_or lines (length lines - 1) [] (omega arith)))

  -- a walk leaves the history
  pub leaves : LeavesHistory rules v
  leaves s k typed plain some low =
      walk s plain (λ t. (t.history_index ≡ None) × (t.typed_line ≡ None) × IsOkAnd (apply rules v HistoryPrevious t) (λ u. Some u.cut.line ≡ last_line (rules.lines v)))
      (refl, refl, first_again s plain (omega arith)) k typed some low
