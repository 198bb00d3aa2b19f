-- Texts as a screen takes them: by the clusters and columns by which they are measured.
use Rattle.std.specs.Prelude.{ℕ, ◌≡◌, ◌≤◌, Bool, true, false, leb, if◌then◌else◌, List, [], ◌∷◌, ◌++◌}
use Rattle.std.specs.List.{list_all, flat_map}
use Rattle.unicode_segmentation.specs.Grapheme.{graphemes}
use Rattle.tw_surface.specs.declared.measure.Piece.{Piece}
use Rattle.tw_surface.specs.declared.measure.Piece.TheVariants as piece
use Rattle.tw_surface.specs.ChangeView.{ChangeView, Batch, Attribute, AllAttributes, Text}
use Rattle.tw_surface.specs.Characters.{is_plain, cr, lf}
use Rattle.tw_surface.specs.Places.{plain_piece, cluster_piece}
use Rattle.tw_surface.specs.Scenes.{Scene, Lower, is_text}
use Rattle.tw_surface.specs.Scenes.Lower.{NoLower, Preview, Search}
use Rattle.tw_surface.specs.PaintingBatches.{SizedScene}

-- CR, LF, or a cluster and its columns
pub data Glyph : Type 0 where
  Cr : Glyph
  Lf : Glyph
  Cluster : List ℕ → ℕ → Glyph

-- what a glyph is to the cursor
abbrev pub piece_of : Glyph → Piece
piece_of Cr = piece.Cr
piece_of Lf = piece.Lf
piece_of (Cluster cluster columns) = piece.Wide columns

-- the glyphs of a cluster that is this piece: of CR LF both
abbrev pub glyphs_of_piece : List ℕ → Piece → List Glyph
glyphs_of_piece cluster piece.Cr = Cr ∷ []
glyphs_of_piece cluster piece.Lf = Lf ∷ []
glyphs_of_piece cluster piece.CrLf = Cr ∷ Lf ∷ []
glyphs_of_piece cluster (piece.Wide columns) = Cluster cluster columns ∷ []

-- the glyphs of a text: of its characters if it is plain, else of its extended grapheme clusters
unfoldable pub glyphs : List ℕ → List Glyph
glyphs text =
    if list_all is_plain text then flat_map (λ ch. glyphs_of_piece (ch ∷ []) (plain_piece ch)) text
    else flat_map (λ cluster. glyphs_of_piece cluster (cluster_piece cluster)) (graphemes true text)

-- those that changes type
abbrev pub typed_glyphs : Batch → List Glyph
typed_glyphs [] = []
typed_glyphs (Text text ∷ changes) = glyphs text ++ typed_glyphs changes
typed_glyphs (_ ∷ changes) = typed_glyphs changes

-- CR, and LF after it
abbrev pub is_pair : Glyph → Glyph → Bool
is_pair Cr Lf = true
is_pair _ _ = false

-- something that is typed before some lines: CR before a line that begins with LF ends an empty line there
abbrev pub before_by : {X : Type 0} → (X → Glyph) → X → List (List X) → List (List X)
before_by glyph x [] = (x ∷ []) ∷ []
before_by glyph x ([] ∷ more) = (x ∷ []) ∷ more
before_by glyph x ((y ∷ line) ∷ more) = if is_pair (glyph x) (glyph y) then [] ∷ line ∷ more else (x ∷ y ∷ line) ∷ more

-- the lines between pairs of CR and LF
abbrev pub lines_by : {X : Type 0} → (X → Glyph) → List X → List (List X)
lines_by glyph [] = [] ∷ []
lines_by glyph (x ∷ text) = before_by glyph x (lines_by glyph text)

-- ---- measured

-- a cluster that fits in a row of cols columns
abbrev pub fits_in : ℕ → Glyph → Bool
fits_in cols (Cluster cluster columns) = leb columns cols
fits_in cols _ = false

-- an attribute, or a text of such clusters
abbrev pub types_fitting : ℕ → ChangeView → Bool
types_fitting cols (Attribute a) = true
types_fitting cols (AllAttributes a) = true
types_fitting cols (Text text) = list_all (fits_in cols) (glyphs text)
types_fitting cols _ = false

-- a lower text of attributes and such clusters, a preview's with pairs of CR and LF too
abbrev pub IsMeasuredLower : ℕ → Lower → Type 0
IsMeasuredLower cols NoLower = Unit {0}
IsMeasuredLower cols (Preview elements) = (list_all is_text elements ≡ true) × (list_all (list_all (fits_in cols)) (lines_by (λ glyph. glyph) (typed_glyphs elements)) ≡ true)
IsMeasuredLower cols (Search text) = (glyphs (cr ∷ lf ∷ text) ≡ Cr ∷ Lf ∷ glyphs text) × (list_all (fits_in cols) (glyphs text) ≡ true)

-- a scene of attributes and clusters that fit in a row
pub record IsMeasured (cols : ℕ) (scene : Scene) : Type 0 where
  pub prompt : list_all (types_fitting cols) scene.prompt ≡ true
  pub line : list_all (types_fitting cols) scene.line ≡ true
  pub lower : IsMeasuredLower cols scene.lower

-- at the columns that it is painted for, two or more
abbrev pub IsMeasuredWide : SizedScene → Type 0
IsMeasuredWide station = (2 ≤ station.cols) × IsMeasured station.cols station.scene
