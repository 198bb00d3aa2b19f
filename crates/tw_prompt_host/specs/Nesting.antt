-- The marks of a language, and what a text leaves of them: those that are open, or one of them that is wrong.
use Rattle.std.specs.Prelude.{◌≡◌, ℕ, ◌+◌, ◌==◌, ◌&&◌, leb, Bool, true, false, not, List, [], ◌∷◌, ◌++◌, length, reverse, Option, Some, None, if◌then◌else◌, codes, encode_utf8, chars, is_none}
use Rattle.std.specs.Char.{IsScalar}
use Rattle.std.specs.List.{find, list_all, list_any}
use Rattle.std.specs.Str.{IsUtf8}
use Rattle.tw_prompt_host.specs.Validation.{ValidationView, Valid, Incomplete, Invalid}
use Rattle.tw_prompt_host.specs.declared.marks.MarkKind.{MarkKind}
use Rattle.tw_prompt_host.specs.declared.marks.MarkKind.TheVariants.{Brackets, Quotation, Escape}
use Rattle.tw_prompt_host.specs.declared.marks.MarkPair.{MarkPair}
use Rattle.tw_prompt_host.specs.declared.marks.OpenMark.{OpenMark}
use Rattle.tw_prompt_host.specs.declared.nesting.Nesting.{Nesting}
use Rattle.tw_prompt_host.specs.declared.nesting.Nesting.TheVariants as nesting

-- ---- the marks

-- whether a character is a small letter of ASCII or a space
abbrev pub is_letter_or_space : ℕ → Bool
is_letter_or_space c = if c == 32 then true else leb 97 c && leb c 122

-- whether no letter is a mark of the pairs
abbrev pub mark_no_letter : List MarkPair → Bool
mark_no_letter pairs = list_all (λ pair. not (is_letter_or_space pair.opening) && not (is_letter_or_space pair.closing)) pairs

-- the first pair that a character opens
abbrev pub opened_pair : List MarkPair → ℕ → Option MarkPair
opened_pair pairs c = find (λ pair. pair.opening == c) pairs

-- whether a character closes one of the pairs
abbrev pub is_closing : List MarkPair → ℕ → Bool
is_closing pairs c = list_any (λ pair. pair.closing == c) pairs

-- whether a character closes what stands between marks: any character closes an escape
abbrev pub closes_kind : MarkKind → ℕ → ℕ → Bool
closes_kind Escape closing c = true
closes_kind Brackets closing c = closing == c
closes_kind (Quotation escape) closing c = closing == c

-- whether a character closes an open pair
abbrev pub closes : MarkPair → ℕ → Bool
closes pair c = closes_kind pair.kind pair.closing c

-- whether a character is the escape character
abbrev pub escapes : Option ℕ → ℕ → Bool
escapes None c = false
escapes (Some escape) c = escape == c

-- the pair that an escape character opens
abbrev pub escape_pair : ℕ → MarkPair
escape_pair escape = record { opening = escape; closing = escape; kind = Escape }

-- brackets
abbrev pub brackets : ℕ → ℕ → MarkPair
brackets opening closing = record { opening = opening; closing = closing; kind = Brackets }

-- a quotation between two equal marks, with \ as its escape character
abbrev pub quotation : ℕ → MarkPair
quotation mark = record { opening = mark; closing = mark; kind = Quotation (Some 92) }

-- ( and ), [ and ], { and }, " and '
abbrev pub common_pairs : List MarkPair
common_pairs = brackets 40 41 ∷ brackets 91 93 ∷ brackets 123 125 ∷ quotation 34 ∷ quotation 39 ∷ []

-- ---- what a text leaves

-- the marks that a text leaves open, the innermost first, or a mark that closes what is not open, with the bytes before
-- it
pub data NestingView : Type 0 where
  Open : List OpenMark → NestingView
  Wrong : ℕ → ℕ → NestingView

-- the view of an answer
abbrev pub nesting_view : Nesting → NestingView
nesting_view (nesting.Open opens) = Open (reverse opens.items)
nesting_view (nesting.Wrong c at) = Wrong c at

-- these open marks after a character, where it was right
abbrev pub where_right : Bool → List OpenMark → ℕ → ℕ → NestingView
where_right right opens at c = if right then Open opens else Wrong c at

-- the open marks after a character that may open a pair; it is wrong where it closes a pair that is not open
abbrev pub behind_opening : List OpenMark → ℕ → ℕ → Option MarkPair → Bool → NestingView
behind_opening opens at c (Some pair) closing = Open (record { pair = pair; at = at } ∷ opens)
behind_opening opens at c None true = Wrong c at
behind_opening opens at c None false = Open opens

module _ (pairs : List MarkPair) where
  -- outside of a quotation a mark opens, or closes what is not open, or is text
  abbrev pub opens_behind : List OpenMark → ℕ → ℕ → NestingView
  opens_behind opens at c = behind_opening opens at c (opened_pair pairs c) (is_closing pairs c)

  -- what a character does that does not close the innermost mark: in a quotation only the escape character is a mark
  abbrev pub after_text : MarkKind → List OpenMark → ℕ → ℕ → NestingView
  after_text Brackets opens at c = opens_behind opens at c
  after_text (Quotation escape) opens at c = behind_opening opens at c (if escapes escape c then Some (escape_pair c) else None) false
  after_text Escape opens at c = Open opens

  -- what open marks are after one more character: it closes the innermost one, or is text behind it
  abbrev pub after_character : List OpenMark → ℕ → ℕ → NestingView
  after_character [] at c = opens_behind [] at c
  after_character (last ∷ opens) at c = if closes last.pair c then Open opens else after_text last.pair.kind (last ∷ opens) at c

  -- what characters leave that stand `at` bytes into a text, after others
  abbrev pub nesting_from : List ℕ → NestingView → ℕ → NestingView
  nesting_from [] nesting at = nesting
  nesting_from (c ∷ rest) (Open opens) at = nesting_from rest (after_character opens at c) (at + length (encode_utf8 c))
  nesting_from (c ∷ rest) (Wrong mark before) at = Wrong mark before

  -- what a text leaves
  abbrev pub nesting_of : List ℕ → NestingView
  nesting_of text = nesting_from (chars text) (Open []) 0

  -- the mark that a character closes behind a text: the innermost one
  abbrev pub closed_in : ℕ → NestingView → Option OpenMark
  closed_in c (Open (last ∷ opens)) = if closes last.pair c then Some last else None
  closed_in c _ = None

  abbrev pub closed_mark : List ℕ → ℕ → Option OpenMark
  closed_mark text c = closed_in c (nesting_of text)

-- ---- what is said of a line

-- a text after a mark
abbrev pub marked_text : ℕ → List ℕ → List ℕ
marked_text mark text = encode_utf8 mark ++ text

-- what is said of a line that leaves these marks: it lacks the innermost open one, and no more text closes a wrong one
abbrev pub validation_of : NestingView → ValidationView
validation_of (Open []) = Valid
validation_of (Open (last ∷ opens)) = Incomplete (marked_text last.pair.opening (codes " is open"))
validation_of (Wrong mark at) = Invalid (marked_text mark (codes " closes nothing"))

-- ---- what whole texts are made of

-- no mark of a text is open at its end, and none is wrong
abbrev pub IsWhole : List MarkPair → List ℕ → Type 0
IsWhole pairs text = nesting_of pairs text ≡ Open []

-- brackets: the first pair that their opening mark opens, whose closing mark opens none
pub record AreBrackets (pairs : List MarkPair) (pair : MarkPair) : Type 0 where
  pub opening : opened_pair pairs pair.opening ≡ Some pair
  pub closing : is_closing pairs pair.closing ≡ true
  pub apart : opened_pair pairs pair.closing ≡ None
  pub brackets : pair.kind ≡ Brackets
  pub character : IsScalar pair.closing

-- a quotation with this escape character, or none: the first pair that its opening mark opens
pub record IsQuotation (pairs : List MarkPair) (pair : MarkPair) (escape : Option ℕ) : Type 0 where
  pub opening : opened_pair pairs pair.opening ≡ Some pair
  pub quotation : pair.kind ≡ Quotation escape
  pub character : IsScalar pair.closing

-- whether characters, behind an escape character or not, have no closing mark that is not escaped, and end with no
-- escape
abbrev pub is_quoted : ℕ → Option ℕ → Bool → List ℕ → Bool
is_quoted closing escape escaped [] = not escaped
is_quoted closing escape true (c ∷ rest) = is_quoted closing escape false rest
is_quoted closing escape false (c ∷ rest) = if closing == c then false else is_quoted closing escape (escapes escape c) rest

-- a text between the marks of a pair
abbrev pub between : MarkPair → List ℕ → List ℕ
between pair text = encode_utf8 pair.opening ++ (text ++ encode_utf8 pair.closing)

-- whether a character is no mark of the pairs
abbrev pub is_no_mark : List MarkPair → ℕ → Bool
is_no_mark pairs c = is_none (opened_pair pairs c) && not (is_closing pairs c)

-- a text without marks is whole
abbrev pub PlainIsWhole : Type 0
PlainIsWhole = (pairs : List MarkPair) (text : List ℕ) → list_all (is_no_mark pairs) (chars text) ≡ true → IsWhole pairs text

-- two whole texts, one after the other, are one
abbrev pub JoinedIsWhole : Type 0
JoinedIsWhole = (pairs : List MarkPair) (text other : List ℕ) → IsUtf8 text → IsWhole pairs text → IsWhole pairs other → IsWhole pairs (text ++ other)

-- a whole text between brackets is one
abbrev pub BracketedIsWhole : Type 0
BracketedIsWhole = (pairs : List MarkPair) (pair : MarkPair) (text : List ℕ) → AreBrackets pairs pair → IsUtf8 text → IsUtf8 (between pair text)
    → IsWhole pairs text → IsWhole pairs (between pair text)

-- and so is a text between the marks of a quotation that has its closing mark only behind the escape character
abbrev pub QuotedIsWhole : Type 0
QuotedIsWhole = (pairs : List MarkPair) (pair : MarkPair) (escape : Option ℕ) (text : List ℕ) → IsQuotation pairs pair escape → IsUtf8 text → IsUtf8 (between pair text)
    → is_quoted pair.closing escape false (chars text) ≡ true → IsWhole pairs (between pair text)
