-- What stands after the beginning of a line, and where a word ends.
use Rattle.std.proofs.Common.{◌≡◌, ◌<◌, ◌+◌, ◌-◌, ◌==◌, ◌++◌, ℕ, List, length, drop, take, min, eqb, Option, Some, None, true, false, refl, ap, sym, subst, ◌∙◌, if◌then◌else◌, arith}
use Rattle.std.specs.Prelude.{MatchOption, encode_utf8, option_map}
use Rattle.std.specs.List.{position_or_len, starts_with}
use Rattle.std.specs.Borrow.{Bor}
use Rattle.std.specs.Str.{IsCharBoundary, IsUtf8}
use Rattle.std.specs.Str.Pattern.{FindsTextPrefix, StripsPrefix}
use Rattle.std.proofs.lemmas.Bool.{eq-eqb}
use Rattle.std.proofs.lemmas.Bool.Decides.{Decides-eqb}
use Rattle.tw_surface.specs.Characters.{lf}
use Rattle.tw_prompt_host.specs.Hint.{hint_row}
use Rattle.std.proofs.lemmas.List.{drop-drop, drop_min, length-drop}
use Rattle.std.proofs.lemmas.Slice.Eq.{starts_is}
use Rattle.std.proofs.lemmas.Str.{IsCharBoundary-from_drop}
use Rattle.std.proofs.lemmas.Str.Pattern.{starts_text}

-- what `strip_prefix` leaves
pub strip_text : (r : Option (Bor (List ℕ))) (n s : List ℕ) → MatchOption r (FindsTextPrefix n s None) (λ x. StripsPrefix (FindsTextPrefix n) s x.now) → option_map (λ x. x.now) r ≡ (if starts_with eqb s n then Some (drop (length n) s) else None)
strip_text None n s h = let e : starts_with eqb s n ≡ false = sym (starts_text false n s h) in rw e refl
strip_text (Some x) n s h =
    let e : starts_with eqb s n ≡ true = (starts_is Decides-eqb s n _ refl).1 _ h.1.1 in
    rw e (ap Some (h.2 ∙ ap (λ k. drop k s) h.1.0))

-- what begins behind some bytes of the beginning of a text begins at a boundary
pub behind_boundary : (text words after : List ℕ) (n k : ℕ) → words ≡ drop n text → after ≡ drop k words → IsUtf8 after → IsCharBoundary text (length text - length after)
behind_boundary text words after n k from e utf8 =
    let j = min (n + k) (length text) in
    let all : after ≡ drop j text = e ∙ ap (drop k) from ∙ drop-drop k n text ∙ sym (drop_min (n + k) text) in
    let at : j ≡ length text - length after = omega (arith, ap length all, length-drop j text) in
    subst (λ i. IsCharBoundary text i) at (IsCharBoundary-from_drop text j (omega arith) (subst (λ bytes. IsUtf8 bytes) all utf8))

-- a text without a line feed is one row, and else its first row stands before a line feed
pub whole_row : (text : List ℕ) → position_or_len (λ b. b == lf) text ≡ length text → hint_row text ≡ text
whole_row text end = rw (end, eq-eqb (length text) (length text) refl) refl

pub cut_row : (text : List ℕ) (end : ℕ) → position_or_len (λ b. b == lf) text ≡ end → end < length text → hint_row text ≡ take end text ++ encode_utf8 8230
cut_row text end is low =
    let apart : (end == length text) ≡ false = search (arith, low) in
    rw (is, apart) refl
