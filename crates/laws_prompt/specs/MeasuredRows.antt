-- Lines of printable and of measured rows, with attributes: their first row, and the others.
use Rattle.std.specs.Prelude.{ℕ, ◌≡◌, ◌≤◌, ◌%◌, ◌||◌, ltb, Bool, true, false, if◌then◌else◌, List, [], ◌∷◌, ◌++◌, length, ◌≢◌}
use Rattle.std.specs.List.{list_all, AllByRecursion}
use Rattle.tw_surface.specs.ChangeView.{ChangeView, Batch, Attribute, AllAttributes, Text}
use Rattle.tw_surface.specs.Characters.{is_printable}
use Rattle.tw_surface.specs.Lines.{lines_of, text_of_lines}
use Rattle.tw_surface.specs.Scenes.{Scene, IsPlainLower, is_typing, typed_text}
use Rattle.laws_screens.specs.RowScenes.{folded, HasRows, place_behind}
use Rattle.std.specs.Str.{IsUtf8}
use Rattle.laws_screens.specs.Glyphs.{glyphs, fits_in, types_fitting, IsMeasuredLower}
use Rattle.laws_screens.specs.Pens.{Pen}

-- an attribute, or a text of printable lines with CR LF between each two
abbrev pub is_row_typing : ChangeView → Bool
is_row_typing (Attribute a) = true
is_row_typing (AllAttributes a) = true
is_row_typing (Text text) = list_all (list_all is_printable) (lines_of text)
is_row_typing _ = false

-- a line has a pair of CR and LF
abbrev pub has_pair : Batch → Bool
has_pair [] = false
has_pair (Text text ∷ more) = ltb 1 (length (lines_of text)) || has_pair more
has_pair (change ∷ more) = has_pair more

-- the changes of a line up to its first pair, of which a text has these lines and others come after it
abbrev pub first_in : List (List ℕ) → Batch → Batch
first_in [] more = more
first_in (line ∷ []) more = Text line ∷ more
first_in (line ∷ next ∷ lines) more = Text line ∷ []

abbrev pub first_row_changes : Batch → Batch
first_row_changes [] = []
first_row_changes (Text text ∷ more) = first_in (lines_of text) (first_row_changes more)
first_row_changes (Attribute a ∷ more) = Attribute a ∷ first_row_changes more
first_row_changes (AllAttributes a ∷ more) = AllAttributes a ∷ first_row_changes more
first_row_changes (change ∷ more) = first_row_changes more

-- and from there on, after the attributes that are set before it
abbrev pub others_in : List (List ℕ) → Batch → Batch → Batch
others_in [] more rest = rest
others_in (line ∷ []) more rest = rest
others_in (line ∷ next ∷ lines) more rest = Text (text_of_lines (next ∷ lines)) ∷ more

abbrev pub other_rows : Batch → Batch
other_rows [] = []
other_rows (Text text ∷ more) = others_in (lines_of text) more (other_rows more)
other_rows (Attribute a ∷ more) = Attribute a ∷ other_rows more
other_rows (AllAttributes a ∷ more) = AllAttributes a ∷ other_rows more
other_rows (change ∷ more) = other_rows more

-- A scene of attributes and printable characters, whose line has rows too, the first of which does not fill its last
-- column.
pub record HasPlainRows (cols : ℕ) (scene : Scene) : Type 0 where
  pub wide : 2 ≤ cols
  pub prompt : list_all is_typing scene.prompt ≡ true
  pub line : list_all is_row_typing scene.line ≡ true
  pub lower : IsPlainLower scene.lower
  pub pair : has_pair scene.line ≡ true
  pub off_edge : let n = length (typed_text scene.prompt ++ typed_text (first_row_changes scene.line)) in n % cols ≡ 0 → n ≡ 0

-- the plain scene that it is painted as, if it has rows
abbrev pub plain_folded : ℕ → Scene → Scene
plain_folded cols scene = if has_pair scene.line then folded cols scene (first_row_changes scene.line) (other_rows scene.line) else scene

-- ---- measured rows

-- a text without line ends, each cluster of which fits in a row of cols columns
pub record IsMeasuredRow (cols : ℕ) (row : List ℕ) : Type 0 where
  pub utf8 : IsUtf8 row
  pub within : list_all (fits_in cols) (glyphs row) ≡ true

-- an attribute, or a text of such rows with CR LF between each two
abbrev pub TypesMeasuredRows : ℕ → ChangeView → Type 0
TypesMeasuredRows cols (Attribute a) = Unit {0}
TypesMeasuredRows cols (AllAttributes a) = Unit {0}
TypesMeasuredRows cols (Text text) = AllByRecursion (IsMeasuredRow cols) (lines_of text)
TypesMeasuredRows cols _ = ⊥

-- A measured scene, but that its line has rows, the first of which does not end after the last column.
pub record HasMeasuredRows (cols : ℕ) (scene : Scene) : Type 0 where
  pub wide : 2 ≤ cols
  pub prompt : list_all (types_fitting cols) scene.prompt ≡ true
  pub line : AllByRecursion (TypesMeasuredRows cols) scene.line
  pub lower : IsMeasuredLower cols scene.lower
  pub pair : has_pair scene.line ≡ true
  pub off_edge : (place_behind cols scene (first_row_changes scene.line)).x ≢ cols

-- It has rows, for every pen.
abbrev pub MeasuredRowsAreRows : {A C : Type 0} → Pen A C → Type 0
MeasuredRowsAreRows pen = (cols : ℕ) (scene : Scene) → HasMeasuredRows cols scene → HasRows pen cols scene (first_row_changes scene.line) (other_rows scene.line)

-- Rows of printable characters are measured.
abbrev pub PlainRowsAreMeasured : Type 0
PlainRowsAreMeasured = (cols : ℕ) (scene : Scene) → HasPlainRows cols scene → HasMeasuredRows cols scene
