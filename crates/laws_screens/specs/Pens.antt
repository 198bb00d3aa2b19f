-- Batches as strokes, cluster by cluster: what a screen draws for them, with the attributes carried along.
use Rattle.tw_surface.specs.Characters.{cr, lf}
use Rattle.std.specs.Prelude.{ℕ, zero, suc, pos, eqb, if◌then◌else◌, List, [], ◌∷◌, ◌++◌, map, replicate}
use Rattle.laws_screens.specs.Strokes.{Stroke}
use Rattle.laws_screens.specs.Strokes.Stroke.{Put, Return, Feed, Clear, ClearBehind, Move}
use Rattle.tw_surface.specs.declared.cell.AttributeChange.{AttributeChange}
use Rattle.tw_surface.specs.declared.cell.CellAttributes.{CellAttributes}
use Rattle.tw_surface.specs.declared.change.Position.{Position}
use Rattle.tw_surface.specs.declared.color.ColorAttribute.{ColorAttribute}
use Rattle.tw_surface.specs.ChangeView.{ChangeView, Batch, Attribute, AllAttributes, Text, ClearScreen, ClearToEndOfScreen, CursorPosition}
use Rattle.laws_screens.specs.Glyphs.{Glyph, glyphs, lines_by}
use Rattle.laws_screens.specs.Glyphs.Glyph.{Cr, Lf, Cluster}
use Rattle.tw_surface.specs.Positions.{position_after, at_least_0}

-- what a screen keeps of attributes, and the cells that it makes under them: the first cell of a cluster, each further
-- cell of one, and that of a clearing in a colour; and what becomes of the first cell of a cluster where a mark joins it
pub record Pen (A C : Type 0) : Type 0 where
  pub attributes : CellAttributes → A
  pub attribute : AttributeChange → A → A
  pub ink : A → List ℕ → C
  pub rest : A → C
  pub paper : ColorAttribute → C
  pub join : C → List ℕ → C

-- the cells of a cluster, one for each of its columns
abbrev pub cluster_cells : {A C : Type 0} → Pen A C → A → List ℕ → ℕ → List C
cluster_cells pen a cluster zero = []
cluster_cells pen a cluster (suc more) = pen.ink a cluster ∷ replicate more (pen.rest a)

-- what is kept after a change
abbrev pub kept_after : {A C : Type 0} → Pen A C → A → ChangeView → A
kept_after pen a (Attribute x) = pen.attribute x a
kept_after pen a (AllAttributes x) = pen.attributes x
kept_after pen a _ = a

abbrev pub kept_after_all : {A C : Type 0} → Pen A C → A → Batch → A
kept_after_all pen a [] = a
kept_after_all pen a (change ∷ changes) = kept_after_all pen (kept_after pen a change) changes

-- the cells of a glyph
abbrev pub cells_under : {A C : Type 0} → Pen A C → A → Glyph → List C
cells_under pen a (Cluster cluster columns) = cluster_cells pen a cluster columns
cells_under pen a _ = []

-- the stroke of a glyph
abbrev pub glyph_stroke : {A C : Type 0} → Pen A C → A → Glyph → Stroke C
glyph_stroke pen a Cr = Return
glyph_stroke pen a Lf = Feed
glyph_stroke pen a (Cluster cluster columns) = Put (cells_under pen a (Cluster cluster columns))

-- the stroke of a character of a plain text
abbrev pub char_stroke : {A C : Type 0} → Pen A C → A → ℕ → Stroke C
char_stroke pen a ch = if eqb ch cr then Return else if eqb ch lf then Feed else Put (pen.ink a (ch ∷ []) ∷ [])

-- where a position leads a row or a column
abbrev pub led : Position → ℕ → ℕ
led position n = at_least_0 (position_after position (pos n))

-- the strokes of a change
abbrev pub change_strokes : {A C : Type 0} → Pen A C → A → ChangeView → List (Stroke C)
change_strokes pen a (Attribute x) = []
change_strokes pen a (AllAttributes x) = []
change_strokes pen a (Text text) = map (glyph_stroke pen a) (glyphs text)
change_strokes pen a (ClearScreen color) = Clear (pen.paper color) ∷ []
change_strokes pen a (ClearToEndOfScreen color) = ClearBehind (pen.paper color) ∷ []
change_strokes pen a (CursorPosition x y) = Move (led y) (led x) ∷ []

-- the strokes of a batch
abbrev pub strokes_of : {A C : Type 0} → Pen A C → A → Batch → List (Stroke C)
strokes_of pen a [] = []
strokes_of pen a (change ∷ changes) = change_strokes pen a change ++ strokes_of pen (kept_after pen a change) changes

-- ---- what is typed

-- a glyph, and what is kept of the attributes under which it is typed
pub record Letter (A : Type 0) : Type 0 where
  pub kept : A
  pub glyph : Glyph

-- glyphs that are typed with this kept of attributes
abbrev pub letters_under : {A : Type 0} → A → List Glyph → List (Letter A)
letters_under a text = map (λ glyph. record { kept = a; glyph = glyph }) text

-- the letters that changes type
abbrev pub letters_of : {A C : Type 0} → Pen A C → A → Batch → List (Letter A)
letters_of pen a [] = []
letters_of pen a (Text text ∷ changes) = letters_under a (glyphs text) ++ letters_of pen a changes
letters_of pen a (Attribute x ∷ changes) = letters_of pen (pen.attribute x a) changes
letters_of pen a (AllAttributes x ∷ changes) = letters_of pen (pen.attributes x) changes
letters_of pen a (_ ∷ changes) = letters_of pen a changes

-- their lines between pairs of CR and LF
abbrev pub lines_of_letters : {A : Type 0} → List (Letter A) → List (List (Letter A))
lines_of_letters letters = lines_by (λ letter. letter.glyph) letters

-- the cells of a letter, none of CR and LF
abbrev pub letter_cells : {A C : Type 0} → Pen A C → Letter A → List C
letter_cells pen letter = cells_under pen letter.kept letter.glyph
