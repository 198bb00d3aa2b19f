-- The starts of characters, and binary digits.
use Rattle.std.proofs.Common.{◌≡◌, ℕ, zero, suc, ◌+◌, ◌-◌, ◌^◌, ◌<◌, ◌≤◌, Bool, true, List, [], ◌∷◌, ◌++◌, length, map, take, drop, slice_index, All, unwrap_or, refl, sym, ap, subst, ◌∙◌, arith, ⊎_elim, length-append, length-take-le, append_assoc, take_at, drop_at}
use Rattle.std.proofs.lemmas.Bool.{lt-ltb, ltb-true, cases_lt, cases_eq, cases_Bool, false≢true}
use Rattle.std.proofs.lemmas.List.Kept.{AllPairs-from_increasing}
use Rattle.std.proofs.Math.ListN.{get_or-append}
use Rattle.std.proofs.Math.Nat.{pow-suc}
use Rattle.std.proofs.Math.Pow.{pow-lt}
use Rattle.std.proofs.Math.Seq.{get_or-append_seam}
use Rattle.std.proofs.lemmas.List.{take-append-drop, get_or_default, get_or-append-add}
use Rattle.std.proofs.lemmas.List.FromFn.{length-map-range_with_len, get_or-map-range_with_len}
use Rattle.std.proofs.lemmas.Str.{chars-append, chars-nil, chars_past_char, encodes-chars, scalars-chars, IsCharBoundary-from_take, IsUtf8-append, IsUtf8-take}
use Rattle.std.specs.Prelude.{encode_utf8, encode_utf8_all, nat_lt}
use Rattle.std.specs.List.{insert_slice, remove_range, range_with_len}
use Rattle.std.specs.Str.{chars, IsUtf8, IsCharBoundary}
use Rattle.std.specs.List.Sorted.{IsStrictlyIncreasing}
use Rattle.unicode_segmentation.proofs.TextLemmas.{encode_utf8_nonempty}
use Rattle.tw_line.specs.Extremes.{least_from}
use Rattle.tw_line.specs.Boundaries.{boundary_below}
use Rattle.tw_line.specs.Indices.{index_of, offset_of}
use Rattle.tw_line.specs.Starts.{starts_from, starts_of, binary_digits}
use Rattle.tw_line.proofs.BoundaryLemmas.{boundary_below-is}
use Rattle.tw_line.proofs.IndexLemmas.{front_is, index_of-le, offset_of-index, offset_of-le, offset_of-whole, scalars-take}

-- two lists of the same values
map-shifted : (f g : ℕ → ℕ) → ((k : ℕ) → f (suc k) ≡ g k) → (from n : ℕ) → map f (range_with_len (suc from) n) ≡ map g (range_with_len from n)
map-shifted f g same from zero = refl
map-shifted f g same from (suc n) =
    let e : suc from + 1 ≡ suc (from + 1) = omega arith in
    ap (λ x. x ∷ map f (range_with_len (suc from + 1) n)) (same from) ∙ ap (λ t. g from ∷ t) (ap (λ m. map f (range_with_len m n)) e ∙ map-shifted f g same (from + 1) n)

-- nothing starts where there are no characters
starts_from-nil : (at : ℕ) → starts_from at [] ≡ []
unfolding starts_from
starts_from-nil at = refl

-- the first character starts at `at`, and the others after it
starts_from-cons : (at c : ℕ) (cs : List ℕ) → starts_from at (c ∷ cs) ≡ at ∷ starts_from (at + length (encode_utf8 c)) cs
unfolding starts_from
starts_from-cons at c cs =
    let f : ℕ → ℕ = λ k. at + length (encode_utf8_all (take k (c ∷ cs))) in
    let first : at + 0 ≡ at = omega arith in
    ap (λ n. n ∷ map f (range_with_len 1 (length cs))) first
    ∙ ap (λ t. at ∷ t) (map-shifted f (λ k. at + length (encode_utf8 c) + length (encode_utf8_all (take k cs)))
    (λ k. omega (arith, length-append (encode_utf8 c) (encode_utf8_all (take k cs)))) 0 (length cs))

-- as many starts as characters
pub length-starts_from : (at : ℕ) (cs : List ℕ) → length (starts_from at cs) ≡ length cs
unfolding starts_from
length-starts_from at cs = length-map-range_with_len _ 0 (length cs)

-- where the character of an index starts
pub slice_index-starts_from : (at : ℕ) (cs : List ℕ) (k : ℕ) → k < length cs → slice_index (starts_from at cs) k ≡ at + length (encode_utf8_all (take k cs))
unfolding starts_from
slice_index-starts_from at cs k low = get_or-map-range_with_len _ 0 (length cs) k k 0 low (omega arith)

-- some characters stand after the others
pub starts_from-append : (at : ℕ) (cs ds : List ℕ) → starts_from at (cs ++ ds) ≡ starts_from at cs ++ starts_from (at + length (encode_utf8_all cs)) ds
starts_from-append at [] ds =
    let e : at ≡ at + 0 = omega arith in
    ap (λ n. starts_from n ds) e ∙ ap (λ t. t ++ starts_from (at + 0) ds) (sym (starts_from-nil at))
starts_from-append at (c ∷ cs) ds =
    let behind = at + length (encode_utf8 c) in
    let e : behind + length (encode_utf8_all cs) ≡ at + length (encode_utf8_all (c ∷ cs)) =
    omega (arith, length-append (encode_utf8 c) (encode_utf8_all cs)) in
    starts_from-cons at c (cs ++ ds)
    ∙ ap (λ t. at ∷ t) (starts_from-append behind cs ds ∙ ap (λ n. starts_from behind cs ++ starts_from n ds) e)
    ∙ ap (λ t. t ++ starts_from (at + length (encode_utf8_all (c ∷ cs))) ds) (sym (starts_from-cons at c cs))

-- the same characters, standing later
pub starts_from-raised : (at by : ℕ) (cs : List ℕ) → map (λ n. n + by) (starts_from at cs) ≡ starts_from (at + by) cs
starts_from-raised at by [] = ap (map (λ n. n + by)) (starts_from-nil at) ∙ sym (starts_from-nil (at + by))
starts_from-raised at by (c ∷ cs) =
    let behind = at + length (encode_utf8 c) in
    let e : behind + by ≡ at + by + length (encode_utf8 c) = omega arith in
    ap (map (λ n. n + by)) (starts_from-cons at c cs) ∙ ap (λ t. (at + by) ∷ t) (starts_from-raised behind by cs ∙ ap (λ n. starts_from n cs) e)
    ∙ sym (starts_from-cons (at + by) c cs)

-- numbers that are raised and lowered again
map-lowered : (by : ℕ) (xs : List ℕ) → map (λ n. n - by) (map (λ n. n + by) xs) ≡ xs
map-lowered by [] = refl
map-lowered by (x ∷ xs) =
    let e : x + by - by ≡ x = omega arith in
    ap (λ n. n ∷ map (λ m. m - by) (map (λ m. m + by) xs)) e ∙ ap (λ t. x ∷ t) (map-lowered by xs)

-- the same characters, standing earlier
pub starts_from-lowered : (at by : ℕ) (cs : List ℕ) → map (λ n. n - by) (starts_from (at + by) cs) ≡ starts_from at cs
starts_from-lowered at by cs = ap (map (λ n. n - by)) (sym (starts_from-raised at by cs)) ∙ map-lowered by (starts_from at cs)

-- no character starts before the first one
pub starts_from-above : (at : ℕ) (cs : List ℕ) → All (λ n. at ≤ n) (starts_from at cs)
starts_from-above at cs k d h =
    let start = slice_index-starts_from at cs k (omega (arith, length-starts_from at cs)) in
    subst (λ n. at ≤ n) (sym (get_or_default (starts_from at cs) k d 0 h)) (omega arith)

-- fewer characters take fewer bytes
encodes_rise : (cs : List ℕ) (i j : ℕ) → i < j → j ≤ length cs → length (encode_utf8_all (take i cs)) < length (encode_utf8_all (take j cs))
encodes_rise [] i j low within = absurd (omega arith)
encodes_rise (c ∷ cs) i zero low within = absurd (omega arith)
encodes_rise (c ∷ cs) zero (suc j) low within = let some = encode_utf8_nonempty c in omega (arith, length-append (encode_utf8 c) (encode_utf8_all (take j cs)))
encodes_rise (c ∷ cs) (suc i) (suc j) low within =
    omega (
      arith,
      encodes_rise cs i j (omega arith) (omega arith),
      length-append (encode_utf8 c) (encode_utf8_all (take i cs)),
      length-append (encode_utf8 c) (encode_utf8_all (take j cs)),
    )

-- each character starts after the one before
pub IsStrictlyIncreasing-starts_from : (at : ℕ) (cs : List ℕ) → IsStrictlyIncreasing (starts_from at cs)
IsStrictlyIncreasing-starts_from at cs k h =
    let inside : k + 1 < length cs = omega (arith, length-starts_from at cs) in
    omega (
      arith,
      slice_index-starts_from at cs k (omega arith),
      slice_index-starts_from at cs (k + 1) inside,
      encodes_rise cs k (k + 1) (omega arith) (omega arith),
    )

-- rising numbers, cut before and after one of them
module _ (starts front later : List ℕ) (middle at : ℕ) (whole : starts ≡ front ++ middle ∷ later) (rises : IsStrictlyIncreasing starts) where
  -- how many there are
  parts : length starts ≡ length front + 1 + length later
  parts = omega (arith, ap length whole, length-append front (middle ∷ later))

  -- the one in the middle
  at_middle : slice_index starts (length front) ≡ middle
  at_middle = ap (λ s. slice_index s (length front)) whole ∙ get_or-append_seam front middle later 0

  -- those after it
  at_later : (i k : ℕ) → i ≡ length front + 1 + k → slice_index starts i ≡ slice_index later k
  at_later i k e =
      let place : i ≡ length front + suc k = omega arith in
      ap (slice_index starts) place ∙ ap (λ s. slice_index s (length front + suc k)) whole ∙ get_or-append-add front (middle ∷ later) (suc k) 0

  -- one that stands before another is less
  less_before : (i j : ℕ) → i < j → j < length starts → slice_index starts i < slice_index starts j
  less_before i j low inside = AllPairs-from_increasing starts rises i j 0 low inside

  -- those after the middle rise
  pub later_rises : IsStrictlyIncreasing later
  later_rises k h =
      let step = less_before (length front + 1 + k) (length front + 1 + (k + 1)) (omega arith) (omega (arith, parts)) in
      omega (arith, at_later (length front + 1 + k) k (omega arith), at_later (length front + 1 + (k + 1)) (k + 1) (omega arith))

  -- where the middle is below a number, all up to it are, and so many after it
  pub below_later : middle < at → (count : ℕ) → ((k : ℕ) → k < count → slice_index later k < at) → (k : ℕ) → k < length front + 1 + count → slice_index starts k < at
  below_later low count below k h =
      ⊎_elim
      (λ behind. omega (arith, at_later k (k - (length front + 1)) (omega arith), below (k - (length front + 1)) (omega arith)))
      (λ up_to. ⊎_elim (λ same. omega (arith, ap (slice_index starts) same, at_middle)) (λ other. omega (arith, less_before k (length front) (omega arith) (omega (arith, parts)), at_middle)) (cases_eq k (length front)))
      (cases_lt (length front) k)

  -- the others are not
  pub rest_later : (count : ℕ) → ((k : ℕ) → count ≤ k → k < length later → at ≤ slice_index later k)
      → (k : ℕ) → length front + 1 + count ≤ k → k < length starts → at ≤ slice_index starts k
  rest_later count rest k low inside =
      omega (arith, at_later k (k - (length front + 1)) (omega arith), rest (k - (length front + 1)) (omega arith) (omega (arith, parts)))

  -- where the middle is not below it, none after is
  pub rest_front : at ≤ middle → (count : ℕ) → ((k : ℕ) → count ≤ k → k < length front → at ≤ slice_index front k)
      → (k : ℕ) → count ≤ k → k < length starts → at ≤ slice_index starts k
  rest_front high count rest k low inside =
      ⊎_elim
      (λ before. omega (arith, ap (λ s. slice_index s k) whole, get_or-append front (middle ∷ later) 0 k before, rest k low before))
      (λ from. ⊎_elim (λ same. omega (arith, ap (slice_index starts) same, at_middle)) (λ other. omega (arith, less_before (length front) k (omega arith) inside, at_middle)) (cases_eq k (length front)))
      (cases_lt k (length front))

-- a number is below the power of two of itself
below_power : (n : ℕ) → n < 2 ^ n
below_power zero = omega arith
below_power (suc n) = let low = below_power n in let step = pow-lt {i = n} {j = suc n} (omega arith) in omega arith

-- what the least number is, where the one in its place passes too
least_from-passes : (p : ℕ → Bool) (count from d : ℕ) → p d ≡ true → p (unwrap_or (least_from p from count) d) ≡ true
unfolding least_from
least_from-passes p zero from d passes = passes
least_from-passes p (suc count) from d passes =
    ⊎_elim (λ here. rw here here) (λ not_here. rw not_here (least_from-passes p count (suc from) d passes)) (cases_Bool (p from))

-- the least number is not above one of the range that passes
least_from-least : (p : ℕ → Bool) (count from d n : ℕ) → from ≤ n → n < from + count → p n ≡ true → unwrap_or (least_from p from count) d ≤ n
unfolding least_from
least_from-least p zero from d n low high passes = absurd (omega arith)
least_from-least p (suc count) from d n low high passes =
    ⊎_elim
    (λ here. rw here low)
    (λ not_here. ⊎_elim
    (λ same. absurd (false≢true (sym not_here ∙ ap p same ∙ passes)))
    (λ other. rw not_here (least_from-least p count (suc from) d n (omega arith) (omega arith) passes))
    (cases_eq from n))
    (cases_Bool (p from))

-- a number is below the power of two of its number of digits
below_digits : (n : ℕ) → n < 2 ^ binary_digits n
unfolding binary_digits
below_digits n = ltb-true n _ (least_from-passes (λ d. nat_lt n (2 ^ d)) (n + 1) 0 n (lt-ltb n (2 ^ n) (below_power n)))

-- no number has more digits than a power of two above it says
pub binary_digits-le : (n d : ℕ) → n < 2 ^ d → binary_digits n ≤ d
unfolding binary_digits
binary_digits-le n d low =
    ⊎_elim
    (λ small. least_from-least (λ e. nat_lt n (2 ^ e)) (n + 1) 0 n d (omega arith) (omega arith) (lt-ltb n (2 ^ d) low))
    (λ great. let own = least_from-least (λ e. nat_lt n (2 ^ e)) (n + 1) 0 n n (omega arith) (omega arith) (lt-ltb n (2 ^ n) (below_power n)) in omega arith)
    (cases_lt d (n + 1))

-- a half of a number has a digit less
half_below : (d half n : ℕ) → n < 2 ^ d → half + half ≤ n → 0 < n → binary_digits half + 1 ≤ d
half_below zero half n low halved some = absurd (omega arith)
half_below (suc d) half n low halved some = let digits = binary_digits-le half d (omega (arith, pow-suc 2 d)) in omega arith

pub binary_digits-half : (half n : ℕ) → half + half ≤ n → 0 < n → binary_digits half + 1 ≤ binary_digits n
binary_digits-half half n halved some = half_below (binary_digits n) half n (below_digits n) halved some

-- the starts of a text that begins with a character
pub starts_from-char : (at c : ℕ) (bs rest : List ℕ) → IsUtf8 bs → bs ≡ encode_utf8 c ++ rest → starts_from at (chars bs) ≡ at ∷ starts_from (at + length (encode_utf8 c)) (chars rest)
starts_from-char at c bs rest u e = ap (starts_from at) (chars_past_char bs rest c u e) ∙ starts_from-cons at c (chars rest)

-- it has a character more than what follows
pub length-chars_past_char : (c : ℕ) (bs rest : List ℕ) → IsUtf8 bs → bs ≡ encode_utf8 c ++ rest → length (chars bs) ≡ length (chars rest) + 1
length-chars_past_char c bs rest u e = let more = ap length (chars_past_char bs rest c u e) in omega arith

-- nothing starts in the empty text
pub starts_from-none : (at : ℕ) (bs : List ℕ) → bs ≡ [] → starts_from at (chars bs) ≡ []
starts_from-none at bs e = ap (λ t. starts_from at (chars t)) e ∙ ap (starts_from at) chars-nil ∙ starts_from-nil at

-- the starts of a text in two parts
pub starts_from-text : (at : ℕ) (a b : List ℕ) → IsUtf8 a → starts_from at (chars (a ++ b)) ≡ starts_from at (chars a) ++ starts_from (at + length a) (chars b)
starts_from-text at a b u =
    ap (starts_from at) (chars-append a b u) ∙ starts_from-append at (chars a) (chars b)
    ∙ ap (λ t. starts_from at (chars a) ++ starts_from (at + length t) (chars b)) (encodes-chars a u)

module _ (text : List ℕ) (u : IsUtf8 text) where
  -- where the character of an index starts
  pub start_is : (k : ℕ) → k < length (chars text) → slice_index (starts_of text) k ≡ offset_of text k
  unfolding offset_of
  start_is k h = omega (arith, slice_index-starts_from 0 (chars text) k h)

  -- a later character starts later
  pub offset_of-rises : (i j : ℕ) → i < j → j ≤ length (chars text) → offset_of text i < offset_of text j
  unfolding offset_of
  offset_of-rises i j low within = encodes_rise (chars text) i j low within

  -- a character starts at a boundary
  pub IsCharBoundary-offset_of : (q : ℕ) → IsCharBoundary text (offset_of text q)
  IsCharBoundary-offset_of q =
      let spelled : IsUtf8 (encode_utf8_all (take q (chars text))) = (take q (chars text), (scalars-take q (chars text) (scalars-chars text u), refl)) in
      IsCharBoundary-from_take text (offset_of text q) u (offset_of-le text u q) (subst IsUtf8 (sym (front_is text u q)) spelled)

  -- as many characters start below a boundary as its index says
  pub index_of-from_starts : (at k : ℕ) → IsCharBoundary text at → k ≤ length (chars text) → ((i : ℕ) → i < k → slice_index (starts_of text) i < at)
      → ((i : ℕ) → k ≤ i → i < length (starts_of text) → at ≤ slice_index (starts_of text) i) → k ≡ index_of text at
  index_of-from_starts at k cut within below rest =
      let q = index_of text at in
      let low : q ≤ length (chars text) = index_of-le text u at cut in
      let here : offset_of text q ≡ at = offset_of-index text u at cut in
      ⊎_elim
      (λ few. let start = start_is k (omega arith) in let next = offset_of-rises k q few low in let high = rest k (omega arith) (omega (arith, length-starts_from 0 (chars text))) in absurd (omega arith))
      (λ more. ⊎_elim
      (λ same. same)
      (λ other. let start = start_is q (omega arith) in let high = below q (omega arith) in absurd (omega arith))
      (cases_eq k q))
      (cases_lt k q)

  -- the last character that starts up to a limit inside the text starts at the greatest boundary there
  pub boundary_below-from_starts : (limit k : ℕ) → limit < length text → k ≤ length (chars text) → ((i : ℕ) → i < k → slice_index (starts_of text) i < limit + 1)
      → ((i : ℕ) → k ≤ i → i < length (starts_of text) → limit + 1 ≤ slice_index (starts_of text) i) → 0 < k
      → slice_index (starts_of text) (k - 1) ≡ boundary_below text limit
  boundary_below-from_starts limit k inside within below rest some =
      let start : slice_index (starts_of text) (k - 1) ≡ offset_of text (k - 1) = start_is (k - 1) (omega arith) in
      let low = below (k - 1) (omega arith) in
      start
      ∙ sym (boundary_below-is text limit (offset_of text (k - 1)) (omega arith) (IsCharBoundary-offset_of (k - 1))
      (λ at above high cut. none at above high cut))
    where
      none : (at : ℕ) → offset_of text (k - 1) < at → at ≤ limit → IsCharBoundary text at → ⊥
      none at above high cut =
          let q = index_of text at in
          let low : q ≤ length (chars text) = index_of-le text u at cut in
          let here : offset_of text q ≡ at = offset_of-index text u at cut in
          ⊎_elim
          (λ few. ⊎_elim
          (λ same. let e = ap (offset_of text) same in absurd (omega arith))
          (λ other. let less = offset_of-rises q (k - 1) (omega arith) (omega arith) in absurd (omega arith))
          (cases_eq q (k - 1)))
          (λ more. ⊎_elim
          (λ end. let e = offset_of-whole text u q end in absurd (omega arith))
          (λ other. let start = start_is q (omega arith) in let late = rest q more (omega (arith, length-starts_from 0 (chars text))) in absurd (omega arith))
          (cases_eq q (length (chars text))))
          (cases_lt q k)

  -- the starts before a boundary
  pub take-starts_of : (at : ℕ) → IsCharBoundary text at → take (index_of text at) (starts_of text) ≡ starts_of (take at text)
  unfolding index_of
  take-starts_of at cut =
      let front = take at text in
      ap (λ t. take (length (chars front)) (starts_of t)) (sym (take-append-drop at text)) ∙ ap (take (length (chars front))) (starts_from-text 0 front (drop at text) (IsUtf8-take text at u cut))
      ∙ take_at _ _ _ (length-starts_from 0 (chars front))

  -- and those from it on
  pub drop-starts_of : (at : ℕ) → IsCharBoundary text at → drop (index_of text at) (starts_of text) ≡ starts_from at (chars (drop at text))
  unfolding index_of
  drop-starts_of at cut =
      let front = take at text in
      let width : 0 + length front ≡ at = omega (arith, length-take-le at text cut.0) in
      ap (λ t. drop (length (chars front)) (starts_of t)) (sym (take-append-drop at text)) ∙ ap (drop (length (chars front))) (starts_from-text 0 front (drop at text) (IsUtf8-take text at u cut))
      ∙ drop_at _ _ _ (length-starts_from 0 (chars front)) ∙ ap (λ n. starts_from n (chars (drop at text))) width

  -- the starts after an insertion
  pub starts_of-insert : (t : List ℕ) (at : ℕ) → IsUtf8 t → IsCharBoundary text at
      → take (index_of text at) (starts_of text) ++ (starts_from at (chars t) ++ map (λ n. n + length t) (drop (index_of text at) (starts_of text))) ≡ starts_of (insert_slice text at t)
  starts_of-insert t at v cut =
      let front = take at text in
      let back = drop at text in
      let front_utf8 = IsUtf8-take text at u cut in
      let width : 0 + length front ≡ at = omega (arith, length-take-le at text cut.0) in
      let wider : 0 + length (front ++ t) ≡ at + length t = omega (arith, length-append front t, width) in
      let raised : map (λ n. n + length t) (drop (index_of text at) (starts_of text)) ≡ starts_from (at + length t) (chars back) =
      ap (map (λ n. n + length t)) (drop-starts_of at cut) ∙ starts_from-raised at (length t) (chars back) in
      let whole : starts_of (insert_slice text at t) ≡ starts_of front ++ starts_from at (chars t) ++ starts_from (at + length t) (chars back) =
      starts_from-text 0 (front ++ t) back (IsUtf8-append front t front_utf8 v)
      ∙ ap (λ s. s ++ starts_from (0 + length (front ++ t)) (chars back)) (starts_from-text 0 front t front_utf8)
      ∙ ap (λ n. starts_of front ++ starts_from n (chars t) ++ starts_from (0 + length (front ++ t)) (chars back)) width
      ∙ ap (λ n. starts_of front ++ starts_from at (chars t) ++ starts_from n (chars back)) wider in
      ap (λ s. s ++ (starts_from at (chars t) ++ map (λ n. n + length t) (drop (index_of text at) (starts_of text)))) (take-starts_of at cut)
      ∙ ap (λ s. starts_of front ++ (starts_from at (chars t) ++ s)) raised
      ∙ sym (append_assoc (starts_of front) (starts_from at (chars t)) (starts_from (at + length t) (chars back))) ∙ sym whole

  -- the starts after a removal
  pub starts_of-remove : (start end : ℕ) → start ≤ end → IsCharBoundary text start → IsCharBoundary text end
      → take (index_of text start) (starts_of text) ++ map (λ n. n - (end - start)) (drop (index_of text end) (starts_of text)) ≡ starts_of (remove_range text start end)
  starts_of-remove start end le cut_start cut_end =
      let front = take start text in
      let back = drop end text in
      let width : 0 + length front ≡ start = omega (arith, length-take-le start text cut_start.0) in
      let to : start + (end - start) ≡ end = omega arith in
      let lowered : map (λ n. n - (end - start)) (drop (index_of text end) (starts_of text)) ≡ starts_from start (chars back) =
      ap (map (λ n. n - (end - start))) (drop-starts_of end cut_end ∙ ap (λ n. starts_from n (chars back)) (sym to)) ∙ starts_from-lowered start (end - start) (chars back) in
      let whole : starts_of (remove_range text start end) ≡ starts_of front ++ starts_from start (chars back) =
      starts_from-text 0 front back (IsUtf8-take text start u cut_start) ∙ ap (λ n. starts_of front ++ starts_from n (chars back)) width in
      ap (λ s. s ++ map (λ n. n - (end - start)) (drop (index_of text end) (starts_of text))) (take-starts_of start cut_start)
      ∙ ap (λ s. starts_of front ++ s) lowered ∙ sym whole

  -- each character starts inside the text
  pub starts_of-inside : All (λ n. n < length text) (starts_of text)
  starts_of-inside = λ k d h.
      let low : k < length (chars text) = omega (arith, length-starts_from 0 (chars text)) in
      let later = offset_of-rises k (length (chars text)) low (omega arith) in
      let end = offset_of-whole text u (length (chars text)) refl in
      subst (λ n. n < length text) (sym (get_or_default (starts_of text) k d 0 h ∙ start_is k low)) (omega arith)

  -- the first character starts at 0
  offset_of-start : offset_of text 0 ≡ 0
  unfolding offset_of
  offset_of-start = refl

  -- so it starts below each limit inside the text
  pub some_below : (limit k : ℕ) → limit < length text → ((i : ℕ) → k ≤ i → i < length (starts_of text) → limit + 1 ≤ slice_index (starts_of text) i) → 0 < k
  some_below limit k inside rest =
      ⊎_elim
      (λ none. let high = rest 0 (omega arith) (omega (arith, length-starts_from 0 (chars text), some)) in let first = start_is 0 some in let zero_is = offset_of-start in absurd (omega arith))
      (λ some. some)
      (cases_lt k 1)
    where
      some : 0 < length (chars text)
      some = ⊎_elim (λ none. let e = offset_of-whole text u 0 (omega arith) in let first = offset_of-start in absurd (omega arith)) (λ some. some) (cases_lt (length (chars text)) 1)

  -- a later boundary has no fewer characters before it
  pub index_of-mono : (i j : ℕ) → IsCharBoundary text i → IsCharBoundary text j → i ≤ j → index_of text i ≤ index_of text j
  index_of-mono i j cut_i cut_j le =
      ⊎_elim
      (λ less. let rise = offset_of-rises (index_of text j) (index_of text i) less (index_of-le text u i cut_i) in absurd (omega (arith, offset_of-index text u i cut_i, offset_of-index text u j cut_j)))
      (λ at. at)
      (cases_lt (index_of text j) (index_of text i))
