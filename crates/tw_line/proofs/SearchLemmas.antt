-- What the searches for a pattern find, in a line and in a history.
use Rattle.std.proofs.Common.{◌≡◌, ℕ, zero, suc, ◌+◌, ◌-◌, ◌<◌, ◌≤◌, Bool, true, false, List, length, drop, Option, Some, None, MatchOption, is_some, unwrap_or, option_map, refl, sym, ap, ◌∙◌, arith, inl, inr, ⊎_elim}
use Rattle.std.proofs.lemmas.Bool.{false_from_ne_true, true≢false, cases_Bool, cases_eq, cases_lt, lt-ltb, le-ltb}
use Rattle.std.proofs.lemmas.Bool.Decides.{Decides-eqb}
use Rattle.std.proofs.lemmas.Slice.Eq.{starts_is}
use Rattle.std.specs.Str.Pattern.{FindsText, LacksTextAt, HasTextAt, MatchBeginsAt}
use Rattle.tw_line.specs.declared.history.SearchDirection.{SearchDirection}
use Rattle.tw_line.specs.declared.history.SearchDirection.TheVariants.{Backwards, Forwards}
use Rattle.tw_line.specs.Extremes.{least_from, greatest_below, IsLeast, IsGreatest, NonePasses}
use Rattle.tw_line.specs.NearestMatch.{MatchView, nearest_match, nearest_index, match_at, matches, line_at, IsNearestMatch, IsNearestIndex, HasNoMatch}
use Rattle.tw_line.specs.Patterns.{stands_at, first, IsFirst}
use Rattle.tw_line.proofs.ExtremesLemmas.{least_from-is, least_from-none, greatest_below-is, greatest_below-none}

-- the answer is the least number that passes, or none passes
abbrev FindsLeast : (ℕ → Bool) → ℕ → ℕ → Option ℕ → Type 0
FindsLeast p from to None = NonePasses p from to
FindsLeast p from to (Some n) = IsLeast p from to n

-- the answer is the greatest number that passes, or none passes
abbrev FindsGreatest : (ℕ → Bool) → ℕ → Option ℕ → Type 0
FindsGreatest p to None = NonePasses p 0 to
FindsGreatest p to (Some n) = IsGreatest p to n

-- a range with one more number at its start, and at its end
pub none_with_first : (p : ℕ → Bool) (from later to : ℕ) → later ≡ from + 1 → p from ≡ false → NonePasses p later to → NonePasses p from to
none_with_first p from later to e fails none k low high =
    ⊎_elim (λ same. ap p (sym same) ∙ fails) (λ other. none k (omega arith) high) (cases_eq from k)

none_with_last : (p : ℕ → Bool) (from to next : ℕ) → next ≡ to + 1 → p to ≡ false → NonePasses p from to → NonePasses p from next
none_with_last p from to next e fails none k low high =
    ⊎_elim (λ same. ap p (sym same) ∙ fails) (λ other. none k low (omega arith)) (cases_eq to k)

-- the search from below finds the least
with_first : (p : ℕ → Bool) (from to : ℕ) (o : Option ℕ) → p from ≡ false → FindsLeast p (suc from) to o → FindsLeast p from to o
with_first p from to None fails none = none_with_first p from (suc from) to (omega arith) fails none
with_first p from to (Some n) fails found = record {
  low = omega (arith, found.low);
  high = found.high;
  passes = found.passes;
  first = none_with_first p from (suc from) n (omega arith) fails found.first;
}

least_from-finds : (p : ℕ → Bool) (count from to : ℕ) → to ≡ from + count → FindsLeast p from to (least_from p from count)
unfolding least_from
least_from-finds p zero from to e = λ k low high. absurd (omega arith)
least_from-finds p (suc count) from to e =
    ⊎_elim (λ passes. rw passes (record { low = omega arith; high = omega arith; passes = passes; first = λ k low high. absurd (omega arith) }))
    (λ fails. rw fails (with_first p from to (least_from p (suc from) count) fails (least_from-finds p count (suc from) to (omega arith))))
    (cases_Bool (p from))

-- the search from above finds the greatest
with_last : (p : ℕ → Bool) (to : ℕ) (o : Option ℕ) → p to ≡ false → FindsGreatest p to o → FindsGreatest p (suc to) o
with_last p to None fails none = none_with_last p 0 to (suc to) (omega arith) fails none
with_last p to (Some n) fails found = record {
  high = omega (arith, found.high);
  passes = found.passes;
  last = λ k low high. none_with_last p (suc n) to (suc to) (omega arith) fails (λ i a b. found.last i (omega arith) b) k (omega arith) high;
}

greatest_below-finds : (p : ℕ → Bool) (to : ℕ) → FindsGreatest p to (greatest_below p to)
unfolding greatest_below
greatest_below-finds p zero = λ k low high. absurd (omega arith)
greatest_below-finds p (suc to) =
    ⊎_elim (λ passes. rw passes (record { high = omega arith; passes = passes; last = λ k low high. absurd (omega arith) }))
    (λ fails. rw fails (with_last p to (greatest_below p to) fails (greatest_below-finds p to)))
    (cases_Bool (p to))

-- the test at an offset, by the bytes from there on
stands_at-true : (pattern line : List ℕ) (at end : ℕ) → HasTextAt pattern line at end → stands_at pattern line at ≡ true
stands_at-true pattern line at end h = (starts_is Decides-eqb (drop at line) pattern _ refl).1 (drop end line) h.split

stands_at-false : (pattern line : List ℕ) (at : ℕ) → LacksTextAt pattern line at → stands_at pattern line at ≡ false
stands_at-false pattern line at lacks =
    false_from_ne_true _ (λ e. lacks (drop (length pattern) (drop at line)) ((starts_is Decides-eqb (drop at line) pattern _ refl).0 e))

-- what `find` returns is the first offset
pub find_gives_first : (pattern line : List ℕ) (o : Option ℕ)
    → MatchOption o (FindsText pattern line None) (MatchBeginsAt (FindsText pattern) line) → o ≡ first pattern line
unfolding first
find_gives_first pattern line None lacks =
    sym (least_from-none (stands_at pattern line) (length line + 1) 0 (λ k low high. stands_at-false pattern line k (lacks k (omega arith))))
find_gives_first pattern line (Some at) found =
    sym (least_from-is (stands_at pattern line) (length line + 1) 0 at (omega arith) (omega (arith, found.3))
    (stands_at-true pattern line at found.0 found.1.1) (λ k low high. stands_at-false pattern line k (found.1.0 k high)))

-- the first offset is the one that the relation describes
is_first : (pattern line : List ℕ) (o : Option ℕ) → FindsLeast (stands_at pattern line) 0 (length line + 1) o → IsFirst pattern line o
is_first pattern line None none = none
is_first pattern line (Some at) found = found

pub first-finds : (pattern line : List ℕ) → IsFirst pattern line (first pattern line)
unfolding first
first-finds pattern line =
    is_first pattern line _ (least_from-finds (stands_at pattern line) (length line + 1) 0 (length line + 1) (omega arith))

-- where there is a first offset, it is the cursor of a match
cursor_is_first : (pattern line : List ℕ) (o : Option ℕ) → is_some o ≡ true → IsFirst pattern line o → IsFirst pattern line (Some (unwrap_or o 0))
cursor_is_first pattern line None some none = absurd (true≢false (sym some))
cursor_is_first pattern line (Some at) some found = found

module _ (lines : List (List ℕ)) (pattern : List ℕ) (idx : ℕ) where
  -- from past the last line nothing is near
  pub nearest_match-past : (direction : SearchDirection) → length lines ≤ idx → nearest_match lines idx direction pattern ≡ None
  unfolding nearest_match
  nearest_match-past direction past = rw (le-ltb idx (length lines) past) refl

  -- the answer is the index of the nearest match, or there is no match
  abbrev FindsIndex : SearchDirection → Option ℕ → Type 0
  FindsIndex direction None = HasNoMatch lines idx direction pattern
  FindsIndex direction (Some i) = IsNearestIndex lines idx direction pattern i × (matches lines pattern i ≡ true)

  backwards_finds : (o : Option ℕ) → FindsGreatest (matches lines pattern) (idx + 1) o → FindsIndex Backwards o
  backwards_finds None none = none
  backwards_finds (Some i) found = (found, found.passes)

  forwards_finds : (o : Option ℕ) → FindsLeast (matches lines pattern) idx (length lines) o → FindsIndex Forwards o
  forwards_finds None none = none
  forwards_finds (Some i) found = (found, found.passes)

  nearest_index-finds : (direction : SearchDirection) → idx < length lines → FindsIndex direction (nearest_index lines idx direction pattern)
  nearest_index-finds Backwards inside = backwards_finds _ (greatest_below-finds (matches lines pattern) (idx + 1))
  nearest_index-finds Forwards inside =
      forwards_finds _ (least_from-finds (matches lines pattern) (length lines - idx) idx (length lines) (omega arith))

  -- the match at that index is the one that the relation describes
  match_at-nearest_match : (direction : SearchDirection) (o : Option ℕ) → idx < length lines → FindsIndex direction o
      → IsNearestMatch lines idx direction pattern (option_map (match_at lines pattern) o)
  match_at-nearest_match direction None inside none = inr none
  match_at-nearest_match direction (Some i) inside found = record {
    start = inside;
    nearest = found.0;
    line = refl;
    cursor = cursor_is_first pattern (line_at lines i) (first pattern (line_at lines i)) found.1 (first-finds pattern (line_at lines i));
  }

  module _ (inside : idx < length lines) where
    nearest_match-inside : (direction : SearchDirection)
        → nearest_match lines idx direction pattern ≡ option_map (match_at lines pattern) (nearest_index lines idx direction pattern)
    unfolding nearest_match
    nearest_match-inside direction = rw (lt-ltb idx (length lines) inside) refl

    -- what the loops of a search find, where no line that they passed contains the pattern
    pub found_backwards : (i : ℕ) (found : MatchView) → i ≤ idx → matches lines pattern i ≡ true → found ≡ match_at lines pattern i
        → NonePasses (matches lines pattern) (i + 1) (idx + 1) → Some found ≡ nearest_match lines idx Backwards pattern
    found_backwards i found low passes same none =
        let nearest = greatest_below-is (matches lines pattern) (idx + 1) i (omega arith) passes none in
        rw (nearest_match-inside Backwards, nearest, same) refl

    pub none_backwards : NonePasses (matches lines pattern) 0 (idx + 1) → None ≡ nearest_match lines idx Backwards pattern
    none_backwards none = rw (nearest_match-inside Backwards, greatest_below-none (matches lines pattern) (idx + 1) none) refl

    pub found_forwards : (i : ℕ) (found : MatchView) → idx ≤ i → i < length lines → matches lines pattern i ≡ true
        → found ≡ match_at lines pattern i → NonePasses (matches lines pattern) idx i → Some found ≡ nearest_match lines idx Forwards pattern
    found_forwards i found low high passes same none =
        let nearest = least_from-is (matches lines pattern) (length lines - idx) idx i low (omega arith) passes none in
        rw (nearest_match-inside Forwards, nearest, same) refl

    pub none_forwards : NonePasses (matches lines pattern) idx (length lines) → None ≡ nearest_match lines idx Forwards pattern
    none_forwards none =
        let far = least_from-none (matches lines pattern) (length lines - idx) idx (λ k low high. none k low (omega arith)) in
        rw (nearest_match-inside Forwards, far) refl

-- the nearest match is the one that the relation describes
pub nearest_match-finds : (lines : List (List ℕ)) (idx : ℕ) (direction : SearchDirection) (pattern : List ℕ)
    → IsNearestMatch lines idx direction pattern (nearest_match lines idx direction pattern)
nearest_match-finds lines idx direction pattern =
    ⊎_elim (λ inside. rw (nearest_match-inside lines pattern idx inside direction)
    (match_at-nearest_match lines pattern idx direction _ inside (nearest_index-finds lines pattern idx direction inside)))
    (λ past. rw (nearest_match-past lines pattern idx direction past) (inl past)) (cases_lt idx (length lines))
