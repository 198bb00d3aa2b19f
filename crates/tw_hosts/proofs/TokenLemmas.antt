-- How the first token of a text is cut off, and the tokens of a text one after the other, which are the text.
use Rattle.std.proofs.Common.{◌≡◌, ℕ, ◌+◌, ◌<◌, Bool, true, false, List, [], ◌∷◌, ◌++◌, length, take, drop, get_or, min, refl, sym, subst, ⊎_elim, zero, suc, arith, ◌≤◌, ap, ◌∙◌, append-nil, take-append-drop}
use Rattle.std.specs.Str.{IsUtf8, IsCharBoundary}
use Rattle.std.proofs.lemmas.Bool.{cases_lt}
use Rattle.std.proofs.lemmas.Bool.Decides.{nat_tests}
use Rattle.std.proofs.lemmas.List.{get_or-drop, length-drop, append_assoc}
use Rattle.std.proofs.lemmas.List.Sums.{passes_at_first}
use Rattle.std.proofs.lemmas.Str.{IsCharBoundary-after_ascii, IsCharBoundary-end}
use Rattle.tw_hosts.proofs.WordLemmas.{end_boundary}
use Rattle.tw_hosts.specs.Words.{is_delimiter, word_end}
use Rattle.tw_hosts.specs.Tokens.{is_quote, quote_len, styled_or_plain, style_of, styled_tokens, token_len, word_len, StyledIsText, TokensAreLine, text_before, joined_elements}
use Rattle.tw_hosts.specs.declared.tokens.Styles.{Styles}
use Rattle.tw_host.specs.ElementView.{ElementView, Attribute, AllAttributes, Text}
use Rattle.tw_host.specs.Faithful.{text_of_elements, IsFaithful}
use Rattle.tw_hosts.specs.TableRules.{table_rules}

-- a text may be cut behind a byte of ASCII
module _ (text : List ℕ) (utf8 : IsUtf8 text) where
  behind_ascii : (i j : ℕ) → j ≡ i + 1 → i < length text → get_or text i 0 < 128 → IsCharBoundary text j
  behind_ascii i j next low ascii = subst (IsCharBoundary text) (sym next) (IsCharBoundary-after_ascii text i utf8 low ascii)

  -- so it may be cut behind its first token
  quote_boundary : IsCharBoundary text (quote_len text)
  quote_boundary =
      let end = word_end (39 ∷ []) (drop 1 text) in
      let behind : (n : ℕ) → n ≡ min (end + 2) (length text) → end + 1 < length text → IsCharBoundary text n =
      λ n is inside. behind_ascii (end + 1) n (omega (arith, is, inside)) inside
      (let mark = passes_at_first (is_delimiter (39 ∷ [])) (drop 1 text) 0 (omega (arith, inside, length-drop 1 text)) in
      let there = get_or-drop 1 text end 0 in let back : 1 + end ≡ end + 1 = omega arith in let same = rw back at there in grind (arith, nat_tests)) in
      ⊎_elim (behind (quote_len text) refl) (λ past. let all : length text ≡ quote_len text = omega (arith, past) in subst (IsCharBoundary text) all (IsCharBoundary-end text)) (cases_lt (end + 1) (length text))

  word_boundary : 0 < length text → IsCharBoundary text (word_len text)
  word_boundary some =
      let test = is_delimiter (32 ∷ 39 ∷ []) in
      let end = word_end (32 ∷ 39 ∷ []) text in
      let ascii : end < length text → get_or text end 0 < 128 = λ inside. let mark = passes_at_first test text 0 inside in grind (arith, nat_tests) in
      ⊎_elim (λ here. behind_ascii 0 (word_len text) (omega (arith, here)) some (let none : end ≡ 0 = omega (arith, here) in rw none at ascii some))
      (λ later. let same : end ≡ word_len text = omega (arith, later) in subst (IsCharBoundary text) same (end_boundary (32 ∷ 39 ∷ []) text))
      (cases_lt end 1)

  pub token_boundary : 0 < length text → IsCharBoundary text (token_len text)
  token_boundary some = by (is_quote text) refl where
    by : (b : Bool) → is_quote text ≡ b → IsCharBoundary text (token_len text)
    by true e = rw e quote_boundary
    by false e = rw e (word_boundary some)

-- a token has a byte
pub some_token : (text : List ℕ) → 0 < length text → 0 < token_len text
some_token text some = grind (arith, nat_tests)

-- the tokens of a text without bytes, and one token more
pub tokens-none : (count : ℕ) (styles : Styles) (keywords : List (List ℕ)) (text : List ℕ) → length text ≡ 0 → styled_tokens count styles keywords text ≡ []
unfolding styled_tokens
tokens-none zero styles keywords text e = refl
tokens-none (suc count) styles keywords [] e = refl
tokens-none (suc count) styles keywords (byte ∷ rest) e = absurd (omega (arith, e))

pub tokens-step : (left next : ℕ) (styles : Styles) (keywords : List (List ℕ)) (text : List ℕ) → left ≡ next + 1 → 0 < length text
    → styled_tokens left styles keywords text ≡ styled_or_plain (style_of styles keywords (take (token_len text) text)) (take (token_len text) text) ++ styled_tokens next styles keywords (drop (token_len text) text)
unfolding styled_tokens
tokens-step zero next styles keywords text e some = absurd (omega (arith, e))
tokens-step (suc left) next styles keywords [] e some = absurd (omega (arith, some))
tokens-step (suc left) next styles keywords (byte ∷ rest) e some = (let same : left ≡ next = omega (arith, e) in rw same refl)

-- the texts of two lists of elements
text-append : (elements more : List ElementView) → text_of_elements (elements ++ more) ≡ text_of_elements elements ++ text_of_elements more
text-append [] more = refl
text-append (Attribute a ∷ elements) more = text-append elements more
text-append (AllAttributes a ∷ elements) more = text-append elements more
text-append (Text text ∷ elements) more = ap (λ t. text ++ t) (text-append elements more) ∙ sym (append_assoc text (text_of_elements elements) (text_of_elements more))

pub styled_is_text : StyledIsText
styled_is_text attributes text = append-nil text

-- joined elements have their texts
before-text : (text : List ℕ) (elements : List ElementView) → text_of_elements (text_before text elements) ≡ text ++ text_of_elements elements
before-text [] elements = refl
before-text (byte ∷ rest) elements = let joined = append_assoc (byte ∷ rest) in grind (arith, joined)

joined-text : (elements : List ElementView) → text_of_elements (joined_elements elements) ≡ text_of_elements elements
joined-text [] = refl
joined-text (Text text ∷ elements) = before-text text (joined_elements elements) ∙ ap (λ rest. text ++ rest) (joined-text elements)
joined-text (Attribute change ∷ elements) = joined-text elements
joined-text (AllAttributes attributes ∷ elements) = joined-text elements

-- enough tokens are the whole text
tokens-text : (count : ℕ) (styles : Styles) (keywords : List (List ℕ)) (text : List ℕ) → length text ≤ count → text_of_elements (styled_tokens count styles keywords text) ≡ text
unfolding styled_tokens
tokens-text zero styles keywords [] low = refl
tokens-text zero styles keywords (byte ∷ rest) low = absurd (omega (arith, low))
tokens-text (suc count) styles keywords [] low = refl
tokens-text (suc count) styles keywords (byte ∷ rest) low =
    let text = byte ∷ rest in
    let len = token_len text in
    let some : 0 < len = some_token text (omega arith) in
    let left : length (drop len text) ≤ count = omega (arith, length-drop len text, some, low) in
    let shown = text-append (styled_or_plain (style_of styles keywords (take len text)) (take len text)) (styled_tokens count styles keywords (drop len text)) in
    let plain = append-nil (take len text) in
    let more = tokens-text count styles keywords (drop len text) left in
    let parts = take-append-drop len text in
    grind (arith, nat_tests)

pub tokens_are_line : TokensAreLine
tokens_are_line styles keywords line = joined-text (styled_tokens (length line) styles keywords line) ∙ tokens-text (length line) styles keywords line (omega arith)

pub tables_are_faithful : IsFaithful table_rules
tables_are_faithful = record {
  prompt = λ v text. append-nil text;
  line = λ v cut. tokens_are_line v.styles v.keywords cut.line;
  column = λ v cut. refl;
}
