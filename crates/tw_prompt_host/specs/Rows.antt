-- Lines of several rows, which line feeds end, and the text that shows them.
use Rattle.std.specs.Prelude.{ℕ, ◌+◌, ◌%◌, ◌&&◌, ◌||◌, eqb, ltb, Bool, true, false, if◌then◌else◌, List, [], ◌∷◌, ◌++◌, length, take, drop, Option, Some, None, unwrap_or, string_bytes, ◌≡◌, ◌≤◌, not}
use Rattle.std.specs.List.{list_all}
use Rattle.tw_surface.specs.Attributes.{with_attribute}
use Rattle.tw_surface.specs.Characters.{is_printable, cr, lf}
use Rattle.tw_surface.specs.Defaults.{default_attributes}
use Rattle.tw_surface.specs.Pictures.{blank}
use Rattle.tw_surface.specs.Width.{column_width}
use Rattle.tw_surface.specs.declared.cell.CellAttributes.{CellAttributes}
use Rattle.tw_line.specs.Cut.{Cut, at_end}
use Rattle.tw_host.specs.ElementView.{ElementView, Attribute, AllAttributes, Text}
use Rattle.tw_host.specs.HostRules.{Highlight}
use Rattle.tw_host.specs.Faithful.{text_of_elements}
use Rattle.tw_hosts.specs.Settling.{settled_column, PromptScreenView, column_on, settled_highlight}
use Rattle.tw_prompt_host.specs.declared.rows.OpenRow.{OpenRow}
use Rattle.tw_prompt_host.specs.declared.rows.Rows.{Rows}
use Rattle.tw_prompt_host.specs.declared.rows.Rows.TheVariants as rows

-- ---- the rows

-- a printable character, or the line feed that ends a row
abbrev pub is_row_character : ℕ → Bool
is_row_character b = is_printable b || eqb b lf

-- a character before the first of some rows
abbrev pub before_rows : ℕ → List (List ℕ) → List (List ℕ)
before_rows b [] = (b ∷ []) ∷ []
before_rows b (row ∷ more) = (b ∷ row) ∷ more

-- the rows of a text: each line feed ends one
abbrev pub rows_of_text : List ℕ → List (List ℕ)
rows_of_text [] = [] ∷ []
rows_of_text (b ∷ text) = if eqb b lf then [] ∷ rows_of_text text else before_rows b (rows_of_text text)

-- ---- what shows printable ones

-- a space after a row that fills its last column, so that the cursor has a cell at its end
abbrev pub row_edge : ℕ → ℕ → List ℕ
row_edge cols n = if ltb 0 n && eqb (n % cols) 0 then blank ∷ [] else []

-- a text with CR LF and a continuation prompt for each line feed, after `n` columns
abbrev pub spread : ℕ → List ℕ → ℕ → List ℕ → List ℕ
spread cols continuation n [] = []
spread cols continuation n (b ∷ text) =
    if eqb b lf then row_edge cols n ++ (cr ∷ lf ∷ (continuation ++ spread cols continuation (length continuation) text))
    else b ∷ spread cols continuation (n + 1) text

-- the columns of the row in which a text ends
abbrev pub columns_behind : ℕ → ℕ → List ℕ → ℕ
columns_behind continuation n [] = n
columns_behind continuation n (b ∷ text) = if eqb b lf then columns_behind continuation continuation text else columns_behind continuation (n + 1) text

-- the text that shows a line after `n` columns of a prompt, and its cursor in it
abbrev pub shown_cut : ℕ → List ℕ → ℕ → List ℕ → List ℕ → Cut
shown_cut cols continuation n before rest = record {
  line = spread cols continuation n before ++ spread cols continuation (columns_behind (length continuation) n before) rest;
  cursor = length (spread cols continuation n before);
}

-- ---- what shows any of them: the columns of a row are measured

-- a row: whether it is the first one of its line, and its text so far
pub record RowView : Type 0 where
  pub is_first : Bool
  pub text : List ℕ

-- the view of a row
abbrev pub row_view : OpenRow → RowView
row_view row = record { is_first = row.is_first; text = string_bytes row.text }

-- the first row and another one, with no text yet
abbrev pub empty_first_row : RowView
empty_first_row = record { is_first = true; text = [] }

abbrev pub next_row : RowView
next_row = record { is_first = false; text = [] }

-- a row with more text
abbrev pub row_with : RowView → List ℕ → RowView
row_with row more = record row { text = row.text ++ more }

-- the row in which a text ends that begins in this one
abbrev pub row_behind : RowView → List ℕ → RowView
row_behind row [] = row
row_behind row (b ∷ text) = if eqb b lf then row_behind next_row text else row_behind (row_with row (b ∷ [])) text

module _ (screen : PromptScreenView) (continuation : List ℕ) where
  -- what stands before a row: the prompt, or the continuation prompt
  abbrev pub before_row : Bool → List ℕ
  before_row is_first = if is_first then screen.prompt else continuation

  -- the columns of a row with what stands before it; the cells that wide characters leave empty at the edge count
  abbrev pub row_columns : RowView → ℕ
  row_columns row = column_width (before_row row.is_first) + settled_column screen.cols (before_row row.is_first) (at_end row.text)

  -- what stands between a row and the next one
  abbrev pub row_break : RowView → List ℕ
  row_break row = row_edge screen.cols (row_columns row) ++ (cr ∷ lf ∷ continuation)

  -- a text that begins in a row, with such a break for each line feed
  abbrev pub spread_from : RowView → List ℕ → List ℕ
  spread_from row [] = []
  spread_from row (b ∷ text) = if eqb b lf then row_break row ++ spread_from next_row text else b ∷ spread_from (row_with row (b ∷ [])) text

  -- the text that shows a line, and its cursor in it
  abbrev pub spread_cut : List ℕ → List ℕ → Cut
  spread_cut before rest = record {
    line = spread_from empty_first_row before ++ spread_from (row_behind empty_first_row before) rest;
    cursor = length (spread_from empty_first_row before);
  }

  -- the column of the cursor: the settled one in that text
  abbrev pub column_in_rows : Cut → ℕ
  column_in_rows cut = column_on screen (spread_cut (take cut.cursor cut.line) (drop cut.cursor cut.line))

  -- ---- the elements

  -- a break between two rows; where the line has set attributes, it has the default ones, and they are set again after
  -- it
  abbrev pub break_elements : Option CellAttributes → RowView → List ElementView
  break_elements None row = Text (row_break row) ∷ []
  break_elements (Some attributes) row = AllAttributes default_attributes ∷ Text (row_break row) ∷ AllAttributes attributes ∷ []

  -- rows, the first of which goes on with a row
  abbrev pub elements_of_rows : Option CellAttributes → RowView → List (List ℕ) → List ElementView
  elements_of_rows set row [] = []
  elements_of_rows set row (text ∷ []) = Text text ∷ []
  elements_of_rows set row (text ∷ next ∷ more) =
      Text text ∷ (break_elements set (row_with row text) ++ elements_of_rows set next_row (next ∷ more))

  -- a text that begins in a row
  abbrev pub elements_of_text : Option CellAttributes → RowView → List ℕ → List ElementView
  elements_of_text set row text = elements_of_rows set row (rows_of_text text)

  -- elements that begin in a row, each line feed in their texts as such a break
  abbrev pub elements_from : Option CellAttributes → RowView → List ElementView → List ElementView
  elements_from set row [] = []
  elements_from set row (Attribute change ∷ more) =
      Attribute change ∷ elements_from (Some (with_attribute change (unwrap_or set default_attributes))) row more
  elements_from set row (AllAttributes attributes ∷ more) = AllAttributes attributes ∷ elements_from (Some attributes) row more
  elements_from set row (Text text ∷ more) =
      elements_of_text set row text ++ elements_from set (row_behind row text) more

  -- the elements of a line
  abbrev pub elements_in_rows : List ElementView → List ElementView
  elements_in_rows elements = elements_from None empty_first_row elements

  -- what a host shows, in rows
  abbrev pub highlight_in_rows : Cut → Highlight → Highlight
  highlight_in_rows cut shown = record { elements = elements_in_rows shown.elements; column = column_in_rows cut }

-- the view of how a line is shown: in rows after a continuation prompt, or as it is
abbrev pub rows_view : Rows → Option (List ℕ)
rows_view rows.One = None
rows_view (rows.Several continuation) = Some (string_bytes continuation)

-- whether a line may get more rows
abbrev pub are_shown : Option (List ℕ) → Bool
are_shown None = false
are_shown (Some continuation) = true

-- what stands before the last row of a line, and that row
abbrev pub last_shown : PromptScreenView → Option (List ℕ) → List ℕ → List ℕ × List ℕ
last_shown screen None line = (screen.prompt, line)
last_shown screen (Some continuation) line = let row = row_behind empty_first_row line in (before_row screen continuation row.is_first, row.text)

-- the elements of a line, in rows if it is shown so
abbrev pub elements_on : PromptScreenView → Option (List ℕ) → List ElementView → List ElementView
elements_on screen None elements = elements
elements_on screen (Some continuation) elements = elements_in_rows screen continuation elements

-- the column of its cursor
abbrev pub cursor_on : PromptScreenView → Option (List ℕ) → Cut → ℕ
cursor_on screen None cut = column_on screen cut
cursor_on screen (Some continuation) cut = column_in_rows screen continuation cut

-- what a host shows, on a screen
abbrev pub highlight_on : PromptScreenView → Option (List ℕ) → Cut → Highlight → Highlight
highlight_on screen rows cut shown = record { elements = elements_on screen rows shown.elements; column = cursor_on screen rows cut }

-- ---- what a line in rows is

-- a text without a line feed
abbrev pub is_one_row : List ℕ → Bool
is_one_row text = list_all (λ b. not (eqb b lf)) text

-- a line of one row is shown as on the screen
abbrev pub OneRowIsSettled : Type 0
OneRowIsSettled = (screen : PromptScreenView) (continuation : List ℕ) (cut : Cut) (shown : Highlight) → cut.cursor ≤ length cut.line
    → is_one_row cut.line ≡ true → is_one_row (text_of_elements shown.elements) ≡ true
    → highlight_in_rows screen continuation cut shown ≡ settled_highlight screen cut shown

-- the text of elements in rows is their text in rows
abbrev pub ElementsAreSpread : Type 0
ElementsAreSpread = (screen : PromptScreenView) (continuation : List ℕ) (set : Option CellAttributes) (row : RowView) (elements : List ElementView)
    → text_of_elements (elements_from screen continuation set row elements) ≡ spread_from screen continuation row (text_of_elements elements)

-- a printable prompt and continuation prompt
pub record ArePrintablePrompts (first other : List ℕ) : Type 0 where
  pub prompt : list_all is_printable first ≡ true
  pub continuation : list_all is_printable other ≡ true

-- printable rows after such prompts are shown by counting their characters
abbrev pub PrintableIsSpread : Type 0
PrintableIsSpread = (screen : PromptScreenView) (continuation text : List ℕ) → ArePrintablePrompts screen.prompt continuation → list_all is_row_character text ≡ true
    → spread_from screen continuation empty_first_row text ≡ spread screen.cols continuation (length screen.prompt) text

-- and so is the cursor in them
abbrev pub PrintableCutIsShown : Type 0
PrintableCutIsShown = (screen : PromptScreenView) (continuation before rest : List ℕ) → ArePrintablePrompts screen.prompt continuation
    → list_all is_row_character before ≡ true → list_all is_row_character rest ≡ true
    → spread_cut screen continuation before rest ≡ shown_cut screen.cols continuation (length screen.prompt) before rest

-- so a host that shows the printable line itself shows that text, with the settled column of its cursor
abbrev pub PrintableIsShown : Type 0
PrintableIsShown = (screen : PromptScreenView) (continuation : List ℕ) (cut : Cut) (shown : Highlight) → ArePrintablePrompts screen.prompt continuation
    → list_all is_row_character cut.line ≡ true → text_of_elements shown.elements ≡ cut.line
    → (text_of_elements (highlight_in_rows screen continuation cut shown).elements ≡ spread screen.cols continuation (length screen.prompt) cut.line)
    × ((highlight_in_rows screen continuation cut shown).column
    ≡ settled_column screen.cols screen.prompt (shown_cut screen.cols continuation (length screen.prompt) (take cut.cursor cut.line) (drop cut.cursor cut.line)))
