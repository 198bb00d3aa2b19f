-- Bytes without a report are handed out as they are.
use Rattle.std.proofs.Common.{◌≡◌, ℕ, ◌&&◌, ◌==◌, if◌then◌else◌, Bool, true, false, List, [], ◌∷◌, ◌++◌, length, refl, sym, ap, ◌∙◌, subst, append_assoc, append-nil, arith}
use Rattle.std.specs.Prelude.{not}
use Rattle.std.proofs.lemmas.Bool.{false≢true}
use Rattle.std.proofs.lemmas.Grind.{common_steps}
use Rattle.std.proofs.lemmas.List.{nil_from_length}
use Rattle.tw_typed.specs.Sieve.{SieveView, Sifted, end_mark, number_goes_on, is_report, matched_by, outside, pasted, sifted, start_mark, sift, sift_all}
use Rattle.tw_typed.specs.SieveLaws.{NothingMoves, has_no_report, makes_report}

pub if_elim : {A : Type 0} (P : A → Type 0) (c : Bool) (a b : A) → (c ≡ true → P a) → (c ≡ false → P b) → P (if c then a else b)
if_elim P true a b one other = one refl
if_elim P false a b one other = other refl

-- no report is known, and outside of a pasted text nothing is held back
record Steady (s : SieveView) : Type 0 where
  report : s.report ≡ []
  held : s.is_inside ≡ false → s.held ≡ []

-- what was held back and a byte are what is handed out and held back
record Gives (held : List ℕ) (b : ℕ) (r : Sifted) : Type 0 where
  bytes : held ++ b ∷ [] ≡ r.given ++ r.next.held
  steady : Steady r.next

is-27 : (b : ℕ) → (b == 27) ≡ true → b ≡ 27
is-27 b same = grind (arith, common_steps)

is-empty : (held : List ℕ) → (length held == 0) ≡ true → held ≡ []
is-empty held none = nil_from_length held (grind (arith, common_steps))

let_go_gives : (held : List ℕ) (b : ℕ) → held ++ b ∷ [] ≡ (held ++ b ∷ []) ++ []
let_go_gives held b = sym (append-nil (held ++ b ∷ []))

pasted_gives : (m : ℕ) (held : List ℕ) (follows : Bool) (b : ℕ)
    → is_report (record { is_inside = true; matched = m; held = held; follows_mark = follows; report = [] }) b ≡ false
    → Gives held b (pasted (record { is_inside = true; matched = m; held = held; follows_mark = follows; report = [] }) b)
pasted_gives m held follows b apart =
    let s : SieveView = record { is_inside = true; matched = m; held = held; follows_mark = follows; report = [] } in
    if_elim (Gives held b) (b == 27) _ _
    (λ is. record { bytes = ap (λ x. held ++ x ∷ []) (is-27 b is); steady = record { report = refl; held = λ out. absurd (false≢true (sym out)) } })
    (λ other. if_elim (Gives held b) (length held == 0) _ _
    (λ is. record { bytes = ap (λ h. h ++ b ∷ []) (is-empty held is) ∙ ap (λ h. b ∷ h) (sym (is-empty held is)); steady = record { report = refl; held = λ out. absurd (false≢true (sym out)) } })
    (λ some. if_elim (Gives held b) (matched_by end_mark m b == 6) _ _
    (λ is. record { bytes = let_go_gives held b ∙ sym (append-nil ((held ++ b ∷ []) ++ [])); steady = record { report = refl; held = λ out. refl } })
    (λ on. if_elim (Gives held b) (is_report s b) _ _
    (λ is. absurd (false≢true (sym apart ∙ is)))
    (λ no_report. if_elim (Gives held b) (number_goes_on held b) _ _
    (λ is. record { bytes = refl; steady = record { report = refl; held = λ out. absurd (false≢true (sym out)) } })
    (λ is. record { bytes = let_go_gives held b; steady = record { report = refl; held = λ out. refl } })))))

key_gives : (b : ℕ) (held : List ℕ) → held ≡ [] → held ++ b ∷ [] ≡ b ∷ held
key_gives b held none = ap (λ h. h ++ b ∷ []) none ∙ ap (λ h. b ∷ h) (sym none)

step_at : (i : Bool) (m : ℕ) (held : List ℕ) (follows : Bool) (report : List ℕ) (b : ℕ) → Steady (record { is_inside = i; matched = m; held = held; follows_mark = follows; report = report })
    → makes_report (record { is_inside = i; matched = m; held = held; follows_mark = follows; report = report }) b ≡ false
    → Gives held b (sift (record { is_inside = i; matched = m; held = held; follows_mark = follows; report = report }) b)
step_at true m held follows report b steady apart =
    subst (λ r. Gives held b (pasted (record { is_inside = true; matched = m; held = held; follows_mark = follows; report = r }) b)) (sym steady.report) (pasted_gives m held follows b apart)
step_at false m held follows report b steady apart =
    let none = steady.held refl in
    if_elim (λ next. Gives held b (record { given = b ∷ []; next = next })) (matched_by start_mark m b == 6) _ _
    (λ is. record { bytes = key_gives b held none; steady = record { report = steady.report; held = λ out. none } })
    (λ is. record { bytes = key_gives b held none; steady = record { report = steady.report; held = λ out. none } })

step_gives : (s : SieveView) (b : ℕ) → Steady s → makes_report s b ≡ false → Gives s.held b (sift s b)
step_gives s b steady apart = step_at s.is_inside s.matched s.held s.follows_mark s.report b steady apart

pub and_parts : (a b : Bool) → (a && b) ≡ true → (a ≡ true) × (b ≡ true)
and_parts true b is = (refl, is)
and_parts false b is = absurd (false≢true is)

pub not_true : (a : Bool) → not a ≡ true → a ≡ false
not_true true is = absurd (false≢true is)
not_true false is = refl

all_given : (s : SieveView) (bytes : List ℕ) → Steady s → has_no_report s bytes ≡ true → sifted s bytes ≡ s.held ++ bytes
all_given s [] steady none = sym (append-nil s.held)
all_given s (b ∷ bytes) steady none =
    let parts = and_parts (not (makes_report s b)) (has_no_report (sift s b).next bytes) none in
    let gives = step_gives s b steady (not_true (makes_report s b) parts.0) in
    let rest = sift_all (sift s b).next bytes in
    append_assoc (sift s b).given rest.given rest.next.held
    ∙ (ap (λ rest. (sift s b).given ++ rest) (all_given (sift s b).next bytes gives.steady parts.1)
    ∙ (sym (append_assoc (sift s b).given (sift s b).next.held bytes) ∙ (ap (λ all. all ++ bytes) (sym gives.bytes) ∙ append_assoc s.held (b ∷ []) bytes)))

pub nothing_moves : NothingMoves
nothing_moves bytes none = all_given outside bytes (record { report = refl; held = λ out. refl }) none
