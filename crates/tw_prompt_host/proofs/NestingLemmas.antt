-- What a text leaves, one character after the other.
use Rattle.std.proofs.Common.{◌≡◌, ◌+◌, ◌==◌, ℕ, suc, not, true, false, List, [], ◌∷◌, ◌++◌, ◌-◌, ◌<◌, length, take, drop, Some, None, refl, ap, sym, ◌∙◌, arith, drop-cons, take-append-drop}
use Rattle.std.specs.Prelude.{encode_utf8, reverse, slice_get}
use Rattle.std.specs.Str.{IsUtf8, chars}
use Rattle.std.proofs.lemmas.Bool.{and_parts, ne_eqb, true≢false}
use Rattle.std.proofs.lemmas.List.{drop_all, reverse-append}
use Rattle.std.proofs.lemmas.Option.{get_or_from_slice_get, slice_get-get_or, slice_get_within}
use Rattle.std.proofs.lemmas.Str.{chars_past_char}
use Rattle.tw_prompt_host.specs.Nesting.{NestingView, Open, Wrong, after_character, is_closing, is_letter_or_space, mark_no_letter, nesting_from, opened_pair, opens_behind}
use Rattle.tw_prompt_host.specs.declared.marks.MarkPair.{MarkPair}
use Rattle.tw_prompt_host.specs.declared.marks.OpenMark.{OpenMark}

-- what is left behind a character of a text leaves what it left before it
pub nesting_next : (pairs : List MarkPair) (bytes rest : List ℕ) (c at behind : ℕ) (opens : List OpenMark) (next all : NestingView) → IsUtf8 bytes → bytes ≡ encode_utf8 c ++ rest
    → behind ≡ at + length (encode_utf8 c) → after_character pairs opens at c ≡ next → nesting_from pairs (chars bytes) (Open opens) at ≡ all → nesting_from pairs (chars rest) next behind ≡ all
nesting_next pairs bytes rest c at behind opens next all utf8 e far step so =
    rw (far, ← step) (sym (ap (λ cs. nesting_from pairs cs (Open opens) at) (chars_past_char bytes rest c utf8 e)) ∙ so)

-- the last of the open marks is the first one of them in reverse
pub ruleset newest_first = (reverse-append)

pub last_is : (opens : List OpenMark) (last : OpenMark) → slice_get opens (length opens - 1) ≡ Some last → reverse opens ≡ last ∷ reverse (take (length opens - 1) opens)
last_is opens last e =
    let n = length opens - 1 in
    let low : n < length opens = slice_get_within opens n last e in
    let end : drop n opens ≡ last ∷ [] = drop-cons opens n last low ∙ rw (get_or_from_slice_get opens n last last e, drop_all (suc n) opens (omega arith)) refl in
    ap reverse (sym (take-append-drop n opens) ∙ ap (λ marks. take n opens ++ marks) end) ∙ reverse-append (take n opens) (last ∷ [])

pub none_is : (opens : List OpenMark) → slice_get opens (length opens - 1) ≡ None → reverse opens ≡ []
none_is [] e = refl
none_is (mark ∷ opens) e = let some = slice_get-get_or (mark ∷ opens) (length (mark ∷ opens) - 1) mark (omega arith) in cc

-- a wrong mark stays the first one
pub wrong_stays : (pairs : List MarkPair) (cs : List ℕ) (c at behind : ℕ) → nesting_from pairs cs (Wrong c at) behind ≡ Wrong c at
wrong_stays pairs [] c at behind = refl
wrong_stays pairs (d ∷ cs) c at behind = refl

-- a letter is no mark that is none
module _ (c : ℕ) (letter : is_letter_or_space c ≡ true) where
  differs : (mark : ℕ) → not (is_letter_or_space mark) ≡ true → (mark == c) ≡ false
  differs mark other = ne_eqb mark c (λ same. true≢false (sym other ∙ ap not (ap is_letter_or_space same ∙ letter)))

  not-opened : (pairs : List MarkPair) → mark_no_letter pairs ≡ true → opened_pair pairs c ≡ None
  not-opened [] none = refl
  not-opened (pair ∷ pairs) none =
      let (first, others) = and_parts _ _ none in
      rw (differs pair.opening (and_parts _ _ first).0) (not-opened pairs others)

  not-closing : (pairs : List MarkPair) → mark_no_letter pairs ≡ true → is_closing pairs c ≡ false
  not-closing [] none = refl
  not-closing (pair ∷ pairs) none =
      let (first, others) = and_parts _ _ none in
      rw (differs pair.closing (and_parts (not (is_letter_or_space pair.opening)) _ first).1) (not-closing pairs others)

  pub letter_behind : (pairs : List MarkPair) (opens : List OpenMark) (at : ℕ) → mark_no_letter pairs ≡ true → opens_behind pairs opens at c ≡ Open opens
  letter_behind pairs opens at none = rw (not-opened pairs none, not-closing pairs none) refl
