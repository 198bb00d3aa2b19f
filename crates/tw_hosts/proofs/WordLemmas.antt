-- The first and the last word of a text.
use Rattle.std.proofs.Common.{◌≡◌, ℕ, ◌+◌, ◌-◌, ◌<◌, ◌≤◌, Bool, true, not, List, length, reverse, get_or, ltb, subst, ⊎_elim, arith}
use Rattle.std.specs.List.{suffix_len}
use Rattle.std.specs.Str.{IsUtf8, IsCharBoundary}
use Rattle.std.proofs.lemmas.Bool.{and_parts, cases_lt, ltb-true}
use Rattle.std.proofs.lemmas.Bool.Decides.{nat_tests}
use Rattle.std.proofs.lemmas.List.{get_or-reverse, length-reverse}
use Rattle.std.proofs.lemmas.List.Sums.{prefix_len-le-length, passes_at_first, prefix_len_stops}
use Rattle.std.proofs.lemmas.Str.{IsCharBoundary-end, IsCharBoundary-before_ascii, IsCharBoundary-start, IsCharBoundary-after_ascii}
use Rattle.tw_hosts.specs.Words.{is_delimiter, word_end, word_start}

-- a delimiter is of ASCII, so a character ends with it
pub start_boundary : (delimiters text : List ℕ) → IsUtf8 text → IsCharBoundary text (word_start delimiters text)
start_boundary delimiters text utf8 =
    let other : ℕ → Bool = λ byte. not (is_delimiter delimiters byte) in
    let word = suffix_len other text in
    ⊎_elim
    (λ (some : word < length text).
    let at = length text - 1 - word in
    let next : at + 1 ≡ length text - word = omega arith in
    let last = prefix_len_stops other (reverse text) 0 (omega (arith, length-reverse text)) in
    let is : is_delimiter delimiters (get_or text at 0) ≡ true = (let there = get_or-reverse text word 0 some in let stop = rw there at last in grind (arith, nat_tests)) in
    let ascii = ltb-true _ _ (and_parts (ltb (get_or text at 0) 128) _ is).0 in
    subst (IsCharBoundary text) next (IsCharBoundary-after_ascii text at utf8 (omega arith) ascii))
    (λ (all : length text ≤ word). let none : 0 ≡ length text - word = omega arith in subst (IsCharBoundary text) none (IsCharBoundary-start text utf8))
    (cases_lt word (length text))

-- and one begins with it
pub end_boundary : (delimiters text : List ℕ) → IsCharBoundary text (word_end delimiters text)
end_boundary delimiters text =
    let low = prefix_len-le-length (λ byte. not (is_delimiter delimiters byte)) text in
    ⊎_elim
    (λ (some : word_end delimiters text < length text).
    let is = passes_at_first (is_delimiter delimiters) text 0 some in
    IsCharBoundary-before_ascii text (word_end delimiters text) some (ltb-true _ _ (and_parts (ltb (get_or text (word_end delimiters text) 0) 128) _ is).0))
    (λ (all : length text ≤ word_end delimiters text). let same : length text ≡ word_end delimiters text = omega (arith, all, low) in subst (IsCharBoundary text) same (IsCharBoundary-end text))
    (cases_lt (word_end delimiters text) (length text))
