-- What a text of printable characters leaves on a screen.
use Rattle.std.proofs.Common.{◌≡◌, ℕ, suc, ◌+◌, ◌<◌, ◌≤◌, true, List, [], ◌∷◌, length, refl, arith, ◌⊎◌, inl, inr, add-zero}
use Rattle.std.specs.List.{list_all}
use Rattle.std.proofs.lemmas.Bool.{ne_eqb, leb-true, and_parts}
use Rattle.tw_surface.proofs.LineOfCells.{point, over, Stands, picture_with-stands, picture_with-col}
use Rattle.tw_surface.specs.Pictures.{Picture, picture_with, play_char, play_text}
use Rattle.tw_surface.specs.Characters.{is_printable}

-- ---- characters

pub printable_play : (w ch : ℕ) (s : Picture) → is_printable ch ≡ true → play_char w ch s ≡ picture_with w ch s
printable_play w ch s h =
    let low : 32 ≤ ch = leb-true _ _ (and_parts _ _ h).0 in
    rw (ne_eqb ch 13 (λ e. omega arith), ne_eqb ch 10 (λ e. omega arith)) refl

pub play-typed : (w : ℕ) (t : List ℕ) (s : Picture) (p : ℕ) (f : ℕ → ℕ) → 0 < w → list_all is_printable t ≡ true
    → Stands w s p f → Stands w (play_text w t s) (p + length t) (over p t f)
play-typed w [] s p f h a st = rw add-zero st
play-typed w (ch ∷ t) s p f h a st =
    let both = and_parts (is_printable ch) (list_all is_printable t) a in
    let e : p + suc (length t) ≡ p + 1 + length t = omega arith in
    rw (e, printable_play w ch s both.0)
    (play-typed w t (picture_with w ch s) (p + 1) (point p ch f) h both.1 (picture_with-stands w ch s p f h st))

-- after a printable character the column is not 0
pub typed-col : (w : ℕ) (t : List ℕ) (s : Picture) → list_all is_printable t ≡ true → (0 < s.col) ⊎ (0 < length t) → 0 < (play_text w t s).col
typed-col w [] s a (inl h) = h
typed-col w [] s a (inr h) = absurd (omega arith)
typed-col w (ch ∷ t) s a h =
    let both = and_parts (is_printable ch) (list_all is_printable t) a in
    let first : 0 < (play_char w ch s).col = rw (printable_play w ch s both.0) (picture_with-col w ch s) in
    typed-col w t (play_char w ch s) both.1 (inl first)
