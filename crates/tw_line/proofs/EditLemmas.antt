-- Insertions and kills.
use Rattle.std.proofs.Common.{◌≡◌, ℕ, ◌+◌, ◌-◌, ◌*◌, ◌<◌, ◌≤◌, List, [], ◌++◌, length, take, drop, min, max, sym, ap, ◌∙◌, arith, append-nil, length-append}
use Rattle.std.proofs.lemmas.List.{take-append-drop}
use Rattle.std.proofs.lemmas.Str.{chars-append, IsUtf8-append, IsUtf8-take}
use Rattle.std.specs.List.{insert_slice, remove_range}
use Rattle.std.specs.Str.{chars, IsUtf8, IsCharBoundary}
use Rattle.tw_line.specs.Boundaries.{boundary_below}
use Rattle.tw_line.specs.Cut.{Cut, cut_at}
use Rattle.tw_line.specs.Edits.{with_text, without}
use Rattle.tw_line.specs.Extremes.{iterate}
use Rattle.tw_line.proofs.ExtremesLemmas.{repeated_stays}

-- the length after an insertion
pub length-insert_slice : (s t line : List ℕ) (i : ℕ) → line ≡ insert_slice s i t → length line ≡ length s + length t
length-insert_slice s t line i e =
    let whole = ap length (take-append-drop i s) in
    omega (
      arith,
      ap length e,
      length-append (take i s ++ t) (drop i s),
      length-append (take i s) t,
      length-append (take i s) (drop i s),
    )

-- the number of characters after an insertion
pub length-chars-insert : (s t : List ℕ) (i : ℕ) → IsUtf8 s → IsUtf8 t → IsCharBoundary s i → length (chars (insert_slice s i t)) ≡ length (chars s) + length (chars t)
length-chars-insert s t i u v cut =
    let front = take i s in
    let back = drop i s in
    let front_utf8 = IsUtf8-take s i u cut in
    omega (
      arith,
      ap (λ l. length (chars l)) (take-append-drop i s),
      ap length (chars-append front back front_utf8),
      ap length (chars-append (front ++ t) back (IsUtf8-append front t front_utf8 v)),
      ap length (chars-append front t front_utf8),
      length-append (chars front) (chars back),
      length-append (chars (front ++ t)) (chars back),
      length-append (chars front) (chars t),
    )

-- room for one insertion and for those that follow
room_less : (len w k cap : ℕ) → len + w * (k + 1) ≤ cap → len + w + w * k ≤ cap
room_less len w k cap h = omega arith

-- after one of `count` insertions there is room for the rest
pub room_step : (len more w count i cap : ℕ) → len + w * (count - i) ≤ cap → i < count → more ≡ len + w → more + w * (count - (i + 1)) ≤ cap
room_step len more w count i cap h low e =
    let k : count - i ≡ (count - (i + 1)) + 1 = omega arith in
    rw e (room_less len w (count - (i + 1)) cap (rw k at h))

-- an empty text changes nothing
pub with_text-nil : (s : List ℕ) (c : Cut) → s ≡ [] → with_text s c ≡ c
with_text-nil s c e =
    let line : insert_slice c.line c.cursor [] ≡ c.line = ap (λ t. t ++ drop c.cursor c.line) (append-nil _) ∙ take-append-drop c.cursor c.line in
    let at : c.cursor + 0 ≡ c.cursor = omega arith in
    ap (λ t. with_text t c) e ∙ ap (λ t. cut_at t (c.cursor + 0)) line ∙ ap (cut_at c.line) at

-- nor does it when it is inserted several times
pub with_text-nothing : (s : List ℕ) (count : ℕ) (c : Cut) → s ≡ [] → c ≡ iterate (with_text s) count c
with_text-nothing s count c e = sym (repeated_stays (with_text s) count c (with_text-nil s c e))

-- what is left of a text, and the cursor in it
pub without-is : (s line : List ℕ) (cursor to at : ℕ) → line ≡ remove_range s (min cursor to) (max cursor to)
    → cut_at line (boundary_below line (min at (length line))) ≡ without to at (cut_at s cursor)
without-is s line cursor to at e =
    ap (λ t. cut_at t (boundary_below t (min at (length t)))) e

-- equal kills of equal texts
pub without_same : (a b x y : ℕ) (u v : Cut) → a ≡ b → x ≡ y → u ≡ v → without a x u ≡ without b y v
without_same a b x y u v p q r = ap (λ n. without n x u) p ∙ ap (λ n. without b n u) q ∙ ap (without b y) r
