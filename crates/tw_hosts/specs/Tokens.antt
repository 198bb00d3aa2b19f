-- How a line is cut into tokens, and how each is shown. A token is a quoted text, a space, or what stands up to one of
-- them.
use Rattle.std.specs.Prelude.{ℕ, codes, zero, suc, ◌==◌, ◌+◌, Bool, false, List, [], ◌∷◌, ◌++◌, length, take, drop, max, min, Option, Some, None, if◌then◌else◌, ◌≡◌}
use Rattle.tw_surface.specs.Defaults.{default_attributes}
use Rattle.tw_surface.specs.declared.cell.CellAttributes.{CellAttributes}
use Rattle.tw_host.specs.ElementView.{ElementView, AllAttributes, Text}
use Rattle.tw_hosts.specs.Words.{is_known, word_end}
use Rattle.tw_hosts.specs.declared.tokens.Styles.{Styles}
use Rattle.tw_host.specs.Faithful.{text_of_elements}

-- whether a text begins with a quotation mark
abbrev pub is_quote : List ℕ → Bool
is_quote [] = false
is_quote (byte ∷ rest) = byte == 39

-- the length of a quoted text: up to the next mark, which is part of it, or to the end
abbrev pub quote_len : List ℕ → ℕ
quote_len text = min (word_end (codes "'") (drop 1 text) + 2) (length text)

-- the length of what stands before the first space or mark, or of one space
abbrev pub word_len : List ℕ → ℕ
word_len text = max 1 (word_end (codes " '") text)

-- the length of the first token of a text
abbrev pub token_len : List ℕ → ℕ
token_len text = if is_quote text then quote_len text else word_len text

-- a text with these attributes, and the default ones after it
abbrev pub styled_text : CellAttributes → List ℕ → List ElementView
styled_text attributes text = AllAttributes attributes ∷ Text text ∷ AllAttributes default_attributes ∷ []

-- the style of a quoted text and of a keyword
abbrev pub style_of : Styles → List (List ℕ) → List ℕ → Option CellAttributes
style_of styles keywords token =
    if is_quote token then Some styles.quote
    else if is_known keywords token then Some styles.keyword
    else None

-- a text in a style, or as it is
abbrev pub styled_or_plain : Option CellAttributes → List ℕ → List ElementView
styled_or_plain (Some attributes) text = styled_text attributes text
styled_or_plain None text = Text text ∷ []

-- the first so many tokens of a text
unfoldable pub styled_tokens : ℕ → Styles → List (List ℕ) → List ℕ → List ElementView
styled_tokens zero styles keywords text = []
styled_tokens (suc count) styles keywords [] = []
styled_tokens (suc count) styles keywords (byte ∷ rest) =
    let text = byte ∷ rest in
    let token = take (token_len text) text in
    styled_or_plain (style_of styles keywords token) token ++ styled_tokens count styles keywords (drop (token_len text) text)

-- a text before elements: it joins a text with which they begin, and the empty one is no element
abbrev pub text_before : List ℕ → List ElementView → List ElementView
text_before [] elements = elements
text_before (byte ∷ rest) (Text text ∷ elements) = Text (byte ∷ rest ++ text) ∷ elements
text_before (byte ∷ rest) elements = Text (byte ∷ rest) ∷ elements

-- elements whose texts are joined, where no attributes stand between them
abbrev pub joined_elements : List ElementView → List ElementView
joined_elements [] = []
joined_elements (Text text ∷ elements) = text_before text (joined_elements elements)
joined_elements (element ∷ elements) = element ∷ joined_elements elements

-- all tokens of a line: it has no more than bytes
abbrev pub styled_line : Styles → List (List ℕ) → List ℕ → List ElementView
styled_line styles keywords line = joined_elements (styled_tokens (length line) styles keywords line)

-- a text with attributes is that text
abbrev pub StyledIsText : Type 0
StyledIsText = (attributes : CellAttributes) (text : List ℕ) → text_of_elements (styled_text attributes text) ≡ text

-- the tokens of a line, one after the other, are the line
abbrev pub TokensAreLine : Type 0
TokensAreLine = (styles : Styles) (keywords : List (List ℕ)) (line : List ℕ) → text_of_elements (styled_line styles keywords line) ≡ line
