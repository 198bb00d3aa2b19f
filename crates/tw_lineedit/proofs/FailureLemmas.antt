-- What the count of failures tells.
use Rattle.std.proofs.Common.{◌≡◌, ℕ, ◌+◌, ◌<◌, ◌≤◌, ◌==◌, cond, Bool, true, false, refl, inl, inr, Err, arith, ◌⊎◌}
use Rattle.std.proofs.lemmas.Bool.{eqb-true}
use Rattle.tw_terminal.specs.TerminalState.{count_up}
use Rattle.tw_lineedit.specs.Frame.{Frame}
use Rattle.tw_lineedit.specs.Run.{Ending, Moment}
use Rattle.tw_lineedit.specs.Reading.{FailsIn, FailuresTell}
use Rattle.tw_session.specs.declared.error.Error.{Error}
use Rattle.tw_session.specs.declared.error.Error.TheVariants.{Memory, Terminal}

-- the count rose, or could not
abbrev Rose : ℕ → ℕ → Type 0
Rose old new = (old < new) ⊎ (old ≡ 18446744073709551615)

-- a count that may rise
le_count_by : (b : Bool) (n : ℕ) → n ≤ cond b n (n + 1)
le_count_by true n = omega arith
le_count_by false n = omega arith

-- a failure never lowers the count
pub le_count : (n : ℕ) → n ≤ count_up n
le_count n = le_count_by (n == 18446744073709551615) n

-- the count by whether it could rise
rose_by : (b : Bool) (n m : ℕ) → (n == 18446744073709551615) ≡ b → cond b n (n + 1) ≤ m → Rose n m
rose_by true n m e h = inr (eqb-true n 18446744073709551615 e)
rose_by false n m e h = inl (omega arith)

-- a count with one failure more
rose : (n m : ℕ) → count_up n ≤ m → Rose n m
rose n m h = rose_by (n == 18446744073709551615) n m refl h

-- one failure
pub rose_once : (n m : ℕ) → m ≡ count_up n → Rose n m
rose_once n m h = rose n m (omega arith)

-- two failures
rose_twice : (n m : ℕ) → m ≡ count_up (count_up n) → Rose n m
rose_twice n m e = rose n m (let l : count_up n ≤ count_up (count_up n) = le_count (count_up n) in omega arith)

-- what a refusal tells of the count
pub told : {V : Type 0} (A : Type 0) (run : Ending V) (Starves Faults Halts : Moment V → Type 0) (f g : Frame V) (e : Error) → FailsIn run Starves Faults Halts f g e → FailuresTell {A = A} (Err e) f.terminal.failures g.terminal.failures
told A run Starves Faults Halts f g (Memory x) h = h.4
told A run Starves Faults Halts f g (Terminal x) (m, h) = elim h [
  | inl a ↦ rose_once f.terminal.failures g.terminal.failures a.2
  | inr other ↦ elim other [
    | inl b ↦ rose_twice f.terminal.failures g.terminal.failures b.2
    | inr c ↦ rose_once f.terminal.failures g.terminal.failures c.2
  ]
]
told A run Starves Faults Halts f g e h = h.failures
