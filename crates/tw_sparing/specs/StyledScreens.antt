-- What a screen of characters and attributes holds, and the pictures that it shows.
use Rattle.std.specs.Prelude.{ℕ, ◌≡◌, ◌+◌, ◌-◌, ◌*◌, drop, ◌<◌, ◌≤◌, eqb, if◌then◌else◌, Bool, true, max, Option, IfSome, option_map, List, [], ◌∷◌, ◌++◌, ⊤, map, slice_index_or}
use Rattle.laws_screens.specs.Strokes.{PictureOf, Stroke, steps}
use Rattle.tw_surface.specs.declared.cell.CellAttributes.{CellAttributes}
use Rattle.tw_surface.specs.declared.color.ColorAttribute.{ColorAttribute}
use Rattle.tw_surface.specs.ChangeView.{ChangeView}
use Rattle.tw_surface.specs.ChangeView.{Text, ClearToEndOfScreen, CursorPosition}
use Rattle.tw_surface.specs.Defaults.{default_attributes, default_color}
use Rattle.tw_surface.specs.Pictures.{blank}
use Rattle.std.specs.List.{flat_map}
use Rattle.tw_surface.specs.Characters.{cr, lf}
use Rattle.tw_surface.specs.Places.{cluster_piece}
use Rattle.laws_screens.specs.Glyphs.{glyphs_of_piece}
use Rattle.laws_screens.specs.Pens.{change_strokes, glyph_stroke}
use Rattle.laws_screens.specs.Strokes.Stroke.{Put, Return, Feed}
use Rattle.tw_ansi.specs.EcmaTexts.{is_sent}
use Rattle.laws_screens.specs.StyledCells.{StyledCell, styled}
use Rattle.tw_sparing.specs.declared.cell.ScreenCell.{ScreenCell}
use Rattle.tw_sparing.specs.SingleCharacters.{character_number}

-- a cell of the screen, as one of a picture
abbrev pub styled_cell : ScreenCell → StyledCell
styled_cell cell = record { ch = character_number cell.character; attributes = cell.attributes }

-- a character under attributes
abbrev pub cell_under : CellAttributes → ℕ → ScreenCell
cell_under attributes ch = record { character = ch; attributes = attributes }

-- what a clearing to a colour leaves
abbrev pub paper_cell : ColorAttribute → ScreenCell
paper_cell color = record { character = blank; attributes = record default_attributes { background = color } }

-- what a screen holds: its width, its cursor, the attributes of the text that follows, the first cells, row after row,
-- and the one that all others are
pub record StyledView : Type 0 where
  pub width : ℕ
  pub row : ℕ
  pub col : ℕ
  pub kept : CellAttributes
  pub cells : List ScreenCell
  pub rest : ScreenCell

-- a screen of a width, at first
abbrev pub blank_styled : ℕ → StyledView
blank_styled width = record { width = width; row = 0; col = 0; kept = default_attributes; cells = []; rest = paper_cell default_color }

-- a screen without its first rows
abbrev pub without_rows : ℕ → StyledView → StyledView
without_rows count screen = record screen { row = screen.row - count; cells = drop (count * screen.width) screen.cells }

-- a screen with its cursor in column 0 of a row
abbrev pub at_row : ℕ → StyledView → StyledView
at_row row screen = record screen { row = row; col = 0 }

-- the width is one to 65,535, the cursor is in a row up to 4,294,967,295, and its column within the width or after it
pub record IsInReach (screen : StyledView) : Type 0 where
  pub width_above : 0 < screen.width
  pub width_most : screen.width ≤ 65535
  pub row_most : screen.row ≤ 4294967295
  pub col_most : screen.col ≤ screen.width

-- the cell at a place of the line of all rows
abbrev pub styled_at : StyledView → ℕ → StyledCell
styled_at screen place = styled_cell (slice_index_or screen.cells place screen.rest)

-- all cells have the default attributes from a place on
abbrev pub IsPlainFrom : ℕ → StyledView → Type 0
IsPlainFrom from screen = (place : ℕ) → from ≤ place → (styled_at screen place).attributes ≡ default_attributes

-- from where on they have these once cells up to a last one are written, under these where that is said
abbrev pub plain_behind : Bool → ℕ → Option ℕ → Option ℕ
plain_behind is_plain last plain_from = option_map (λ from. if is_plain then from else max from (last + 1)) plain_from

-- what a screen keeps beside what it shows: it is in reach, and, where it says so, text is typed under the default
-- attributes, and from a place on all cells have these
pub record IsKept (is_plain : Bool) (plain_from : Option ℕ) (screen : StyledView) : Type 0 where
  pub reach : IsInReach screen
  pub plain : is_plain ≡ true → screen.kept ≡ default_attributes
  pub cells : IfSome plain_from (λ from. IsPlainFrom from screen)

-- the screen shows a picture: its cells in each column that it has, and its cursor
pub record ShowsStyled (screen : StyledView) (s : PictureOf StyledCell) : Type 0 where
  pub cell : (r c : ℕ) → c < screen.width → s.cell r c ≡ styled_at screen (r * screen.width + c)
  pub row : s.row ≡ screen.row
  pub col : s.col ≡ screen.col

-- a screen shows what another one shows
pub record ShowsSame (old new : StyledView) : Type 0 where
  pub cells : (place : ℕ) → styled_at new place ≡ styled_at old place
  pub row : new.row ≡ old.row
  pub col : new.col ≡ old.col

-- the stroke of a character that moves the cursor or takes one cell
abbrev pub character_stroke : CellAttributes → ℕ → Stroke StyledCell
character_stroke a ch = if eqb ch cr then Return else if eqb ch lf then Feed else Put (styled_cell (cell_under a ch) ∷ [])

-- the strokes of clusters
abbrev pub cluster_strokes : CellAttributes → List (List ℕ) → List (Stroke StyledCell)
cluster_strokes a clusters = map (glyph_stroke styled a) (flat_map (λ cluster. glyphs_of_piece cluster (cluster_piece cluster)) clusters)

-- a cell was put at a place of the line of all rows
pub record IsPutAt (place : ℕ) (cell : StyledCell) (old new : StyledView) : Type 0 where
  pub cells : (i : ℕ) → styled_at new i ≡ (if eqb i place then cell else styled_at old i)
  pub row : new.row ≡ old.row
  pub col : new.col ≡ old.col

-- strokes lead from one screen to another: whatever picture the first one shows, the other shows what they draw on it
abbrev pub AreDrawn : StyledView → List (Stroke StyledCell) → StyledView → Type 0
AreDrawn old strokes new = (s : PictureOf StyledCell) → ShowsStyled old s → ShowsStyled new (steps old.width strokes s)

-- of two screens only the cells and the cursor differ
pub record IsSameBut (old new : StyledView) : Type 0 where
  pub width : new.width ≡ old.width
  pub kept : new.kept ≡ old.kept

-- a beginning of strokes was drawn
pub record DrawsBeginning (strokes : List (Stroke StyledCell)) (old new : StyledView) : Type 0 where
  pub drawn : List (Stroke StyledCell)
  pub left : List (Stroke StyledCell)
  pub parts : strokes ≡ drawn ++ left
  pub draws : AreDrawn old drawn new

-- what a refused change leaves: of a text a beginning is drawn, and else the screen shows what it showed
abbrev pub IsRefusedAt : ChangeView → StyledView → StyledView → Type 0
IsRefusedAt (Text text) old new = DrawsBeginning (change_strokes styled old.kept (Text text)) old new
IsRefusedAt (ClearToEndOfScreen color) old new = AreDrawn old [] new
IsRefusedAt (CursorPosition x y) old new = new ≡ old
IsRefusedAt _ old new = ⊥

-- any change but a text that a terminal of w columns shows otherwise than it is measured
abbrev pub IsShownSame : ℕ → ChangeView → Type 0
IsShownSame w (Text text) = is_sent w text ≡ true
IsShownSame w _ = ⊤

-- a change that is played whatever there is
abbrev pub IsSure : ChangeView → Type 0
IsSure (Text text) = ⊥
IsSure (ClearToEndOfScreen color) = ⊥
IsSure (CursorPosition x y) = ⊥
IsSure _ = Unit {0}
