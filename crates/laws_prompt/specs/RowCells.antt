-- The column that leads to the cell of the cursor in its row, and scenes that show a line of rows: where its characters
-- and the cursor stand on a screen of characters.
use Rattle.std.specs.Prelude.{ℕ, ◌≡◌, ◌≤◌, ◌+◌, true, List, length, ◌<◌, ◌/◌, ◌%◌, slice_index_or, eqb, false, ◌∷◌, ◌++◌, take, drop}
use Rattle.std.specs.List.{list_all}
use Rattle.tw_surface.specs.Characters.{is_printable, lf}
use Rattle.tw_surface.specs.Paintings.{cursor_place, place_at}
use Rattle.tw_surface.specs.Scenes.{Scene, IsPlainLower, is_typing, typed_text}
use Rattle.tw_host.specs.ElementView.{changes_of}
use Rattle.tw_host.specs.HostRules.{plain_text, Highlight}
use Rattle.tw_hosts.specs.Settling.{is_settled, line_start, settled_column, PromptScreenView}
use Rattle.laws_prompt.specs.Rows.{is_row_character, row_cell, shown_cut, rows_of_text, rows_down, column_after}
use Rattle.laws_screens.specs.Strokes.{PictureOf}
use Rattle.laws_screens.specs.Sheets.{IsFreshSheet, sheet_last_row}
use Rattle.tw_surface.specs.Pictures.{blank}
use Rattle.tw_surface.specs.Scenes.Lower.{NoLower}
use Rattle.laws_screens.specs.PaintedAlike.{IsPaintedAs}
use Rattle.laws_screens.specs.Pens.{Pen}
use Rattle.laws_screens.specs.SceneSheets.{painting_of}
use Rattle.laws_screens.specs.StyledCells.{characters}
use Rattle.laws_prompt.specs.MeasuredRows.{is_row_typing, plain_folded}
use Rattle.tw_line.specs.Cut.{Cut}
use Rattle.tw_host.specs.Faithful.{text_of_elements}
use Rattle.tw_prompt_host.specs.Rows.{ArePrintablePrompts, highlight_in_rows}

-- a printable prompt and continuation prompt, and printable rows before and after the cursor
pub record ArePrintableRows (prompt continuation before rest : List ℕ) : Type 0 where
  pub printable_prompt : list_all is_printable prompt ≡ true
  pub printable_continuation : list_all is_printable continuation ≡ true
  pub rows_before : list_all is_row_character before ≡ true
  pub rows_behind : list_all is_row_character rest ≡ true

-- The settled column of the text that shows a line leads the editor's division to the cell of the cursor in its row.
abbrev pub RowColumnLeadsThere : Type 0
RowColumnLeadsThere = (cols : ℕ) (prompt continuation before rest : List ℕ) → ArePrintableRows prompt continuation before rest
    → let cut = shown_cut cols continuation (length prompt) before rest in
    is_settled cols prompt cut ≡ true
    → place_at cols (line_start cols prompt) (settled_column cols prompt cut) ≡ row_cell cols (length prompt) (length continuation) before

-- And so the cursor of the scene stands there.
abbrev pub CursorStandsInItsRow : Type 0
CursorStandsInItsRow = (cols : ℕ) (prompt continuation before rest : List ℕ) (scene : Scene) → ArePrintableRows prompt continuation before rest
    → let cut = shown_cut cols continuation (length prompt) before rest in
    is_settled cols prompt cut ≡ true
    → scene.prompt ≡ changes_of (plain_text prompt) → scene.column ≡ settled_column cols prompt cut
    → cursor_place cols scene ≡ row_cell cols (length prompt) (length continuation) before

-- There is such a column on each screen of at most 65,535 columns, up to more characters than any screen has rows for.
abbrev pub RowColumnIsSettled : Type 0
RowColumnIsSettled = (cols : ℕ) (prompt continuation before rest : List ℕ) → ArePrintableRows prompt continuation before rest
    → 1 ≤ cols → cols ≤ 65535
    → let cut = shown_cut cols continuation (length prompt) before rest in
    length prompt + cut.cursor ≤ 2147483647
    → is_settled cols prompt cut ≡ true

-- ---- scenes that show a line

-- A scene shows a line, in whatever colours: its texts are the prompt and the text that shows the line, and its cursor
-- stands in its row.
pub record ShowsLine (cols : ℕ) (prompt continuation before rest : List ℕ) (scene : Scene) : Type 0 where
  pub wide : 2 ≤ cols
  pub printable : ArePrintableRows prompt continuation before rest
  pub prompt_typing : list_all is_typing scene.prompt ≡ true
  pub prompt_is : typed_text scene.prompt ≡ prompt
  pub line_typing : list_all is_row_typing scene.line ≡ true
  pub line_is : typed_text scene.line ≡ (shown_cut cols continuation (length prompt) before rest).line
  pub lower : IsPlainLower scene.lower
  pub cursor : cursor_place cols scene ≡ row_cell cols (length prompt) (length continuation) before

-- What a host is to answer for it: the prompt itself, the text that shows the line, and the settled column in it.
pub record AnswersShownLine (cols : ℕ) (prompt continuation before rest : List ℕ) (scene : Scene) : Type 0 where
  pub wide : 2 ≤ cols
  pub narrow : cols ≤ 65535
  pub printable : ArePrintableRows prompt continuation before rest
  pub short : length prompt + (shown_cut cols continuation (length prompt) before rest).cursor ≤ 2147483647
  pub prompt_is : scene.prompt ≡ changes_of (plain_text prompt)
  pub line_typing : list_all is_row_typing scene.line ≡ true
  pub line_is : typed_text scene.line ≡ (shown_cut cols continuation (length prompt) before rest).line
  pub lower : IsPlainLower scene.lower
  pub column_is : scene.column ≡ settled_column cols prompt (shown_cut cols continuation (length prompt) before rest)

-- Then the scene shows the line.
abbrev pub AnswersShowLines : Type 0
AnswersShowLines = (cols : ℕ) (prompt continuation before rest : List ℕ) (scene : Scene)
    → AnswersShownLine cols prompt continuation before rest scene → ShowsLine cols prompt continuation before rest scene

-- The station of such a scene is painted as a plain one, for every pen.
abbrev pub ShownLinesArePlain : {A C : Type 0} → Pen A C → Type 0
ShownLinesArePlain pen = (cols : ℕ) (prompt continuation before rest : List ℕ) (scene : Scene) → ShowsLine cols prompt continuation before rest scene
    → IsPaintedAs pen (record { scene = scene; cols = cols }) (record { scene = plain_folded cols scene; cols = cols })

-- From row s on, the prompt, the continuation prompt after each line feed, and each character of a line stand in their
-- cells, and so does the cursor.
pub record StandInRows (cols s : ℕ) (prompt continuation before rest : List ℕ) (shown : PictureOf ℕ) : Type 0 where
  pub row : shown.row ≡ s + rows_down cols (length prompt) (length continuation) (rows_of_text before)
  pub col : shown.col ≡ column_after cols (length prompt) (length continuation) (rows_of_text before)
  pub prompt_cells : (k : ℕ) → k < length prompt → shown.cell (s + k / cols) (k % cols) ≡ slice_index_or prompt k blank
  pub continuation_cells : (left right : List ℕ) → before ++ rest ≡ left ++ lf ∷ right → (k : ℕ) → k < length continuation
      → let above = s + rows_down cols (length prompt) (length continuation) (rows_of_text left) in
      shown.cell (above + 1 + k / cols) (k % cols) ≡ slice_index_or continuation k blank
  pub cells : (left : List ℕ) (ch : ℕ) (right : List ℕ) → before ++ rest ≡ left ++ ch ∷ right → eqb ch lf ≡ false
      → let rows = rows_of_text left in
      shown.cell (s + rows_down cols (length prompt) (length continuation) rows) (column_after cols (length prompt) (length continuation) rows) ≡ ch

-- They do so where its painting is fresh.
abbrev pub CellsByDivision : Type 0
CellsByDivision = (cols s : ℕ) (prompt continuation before rest : List ℕ) (scene : Scene) (shown : PictureOf ℕ)
    → ShowsLine cols prompt continuation before rest scene
    → IsFreshSheet cols s blank (painting_of characters (record { scene = plain_folded cols scene; cols = cols })).sheet shown
    → StandInRows cols s prompt continuation before rest shown

-- With nothing under the line, the last row of its painting is that of the cell after the line.
abbrev pub LastRowByDivision : Type 0
LastRowByDivision = (cols : ℕ) (prompt continuation before rest : List ℕ) (scene : Scene)
    → ShowsLine cols prompt continuation before rest scene → scene.lower ≡ NoLower
    → sheet_last_row cols (painting_of characters (record { scene = plain_folded cols scene; cols = cols })).sheet
    ≡ rows_down cols (length prompt) (length continuation) (rows_of_text (before ++ rest))

-- ---- a line that a host shows itself, in whatever colours, and that is then shown in rows

-- A host shows a printable line itself, after printable prompts, and the scene has the prompt and what shows the line
-- in rows.
pub record ShowsInRows (screen : PromptScreenView) (continuation : List ℕ) (cut : Cut) (shown : Highlight) (scene : Scene) : Type 0 where
  pub wide : 2 ≤ screen.cols
  pub narrow : screen.cols ≤ 65535
  pub prompts : ArePrintablePrompts screen.prompt continuation
  pub printable : list_all is_row_character cut.line ≡ true
  pub faithful : text_of_elements shown.elements ≡ cut.line
  pub short : length screen.prompt + (shown_cut screen.cols continuation (length screen.prompt) (take cut.cursor cut.line) (drop cut.cursor cut.line)).cursor ≤ 2147483647
  pub prompt_is : scene.prompt ≡ changes_of (plain_text screen.prompt)
  pub line_is : scene.line ≡ changes_of (highlight_in_rows screen continuation cut shown).elements
  pub column_is : scene.column ≡ (highlight_in_rows screen continuation cut shown).column
  pub lower : IsPlainLower scene.lower

-- Then it answers the line as is asked of a host.
abbrev pub RowsAnswerLine : Type 0
RowsAnswerLine = (screen : PromptScreenView) (continuation : List ℕ) (cut : Cut) (shown : Highlight) (scene : Scene)
    → ShowsInRows screen continuation cut shown scene
    → AnswersShownLine screen.cols screen.prompt continuation (take cut.cursor cut.line) (drop cut.cursor cut.line) scene
