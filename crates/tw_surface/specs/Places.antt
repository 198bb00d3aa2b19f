-- Where texts and changes lead.
use Rattle.std.specs.Prelude.{ℕ, ℤ, pos, ◌+ℤ◌, ◌-ℤ◌, ◌+◌, ◌-◌, ◌*◌, ◌<◌, ◌≤◌, ◌≡◌, ◌⊎◌, Bool, true, ◌&&◌, eqb, leb, min, nat_abs, if◌then◌else◌, List, [], ◌∷◌, ◌++◌, length, map}
use Rattle.std.specs.List.{list_all, sum_by}
use Rattle.std.specs.Cmp.Lexicographic.{pointwise}
use Rattle.unicode_segmentation.specs.Grapheme.{graphemes}
use Rattle.tw_surface.specs.declared.measure.Piece.{Piece}
use Rattle.tw_surface.specs.declared.measure.Piece.TheVariants.{Cr, Lf, CrLf, Wide}
use Rattle.tw_surface.specs.declared.change.Position.TheVariants.{Relative}
use Rattle.tw_surface.specs.ChangeView.{ChangeView, Batch}
use Rattle.tw_surface.specs.ChangeView.{Attribute, AllAttributes, Text, ClearScreen, ClearToEndOfScreen, CursorPosition}
use Rattle.tw_surface.specs.Characters.{is_plain, cr, lf}
use Rattle.tw_surface.specs.Positions.{position_after, at_least_0}
use Rattle.tw_surface.specs.Clusters.{IsSplit}
use Rattle.tw_surface.specs.Width.{cluster_width}

-- a column from 0 on, where the number of columns says that the wrap is pending, and a row
pub record Place : Type 0 where
  pub x : ℕ
  pub y : ℤ

-- what a character of a plain text is to the cursor
abbrev pub plain_piece : ℕ → Piece
plain_piece b = if eqb b cr then Cr else if eqb b lf then Lf else Wide 1

-- what a cluster of any other text is to the cursor
abbrev pub cluster_piece : List ℕ → Piece
cluster_piece cluster =
    if pointwise eqb cluster (cr ∷ []) then Cr
    else if pointwise eqb cluster (lf ∷ []) then Lf
    else if pointwise eqb cluster (cr ∷ lf ∷ []) then CrLf
    else Wide (cluster_width cluster)

-- the first cluster of a text is a character of these columns, and a rest follows it
pub record IsWideSplit (text : List ℕ) (columns : ℕ) (rest : List ℕ) : Type 0 where
  pub cluster : List ℕ
  pub split : IsSplit text cluster rest
  pub width : cluster_width cluster ≡ columns
  pub piece : cluster_piece cluster ≡ Wide columns
  pub bound : columns ≤ 2

-- a text begins with clusters of these columns, and a rest follows them
pub record BeginsWithColumns (text : List ℕ) (columns : ℕ) (rest : List ℕ) : Type 0 where
  pub sums : columns + sum_by cluster_width (graphemes true rest) ≡ sum_by cluster_width (graphemes true text)
  pub bound : columns + 2 * length rest ≤ 2 * length text
  pub shorter : length rest < length text

-- the first cluster of a text is this piece, and a rest follows it
pub record BeginsWithPiece (text : List ℕ) (piece : Piece) (rest : List ℕ) : Type 0 where
  pub pieces : map cluster_piece (graphemes true text) ≡ piece ∷ map cluster_piece (graphemes true rest)
  pub shorter : length rest < length text

-- a plain text is cut into its characters, every other text into its extended grapheme clusters
unfoldable pub pieces : List ℕ → List Piece
pieces text = if list_all is_plain text then map plain_piece text else map cluster_piece (graphemes true text)

-- the cell in which something of this width begins after a place: there, or where it does not fit the first cell of
-- the next row
abbrev pub begins_at : ℕ → ℕ → Place → Place
begins_at cols width p = if leb (p.x + width) cols then p else record { x = 0; y = p.y +ℤ pos 1 }

-- a piece of v columns that fits stays in its row
pub record FitsAt (cols v : ℕ) (p q : Place) : Type 0 where
  pub room : p.x + v ≤ cols
  pub x : q.x ≡ p.x + v
  pub y : q.y ≡ p.y

-- a piece of v columns that does not fit begins the next row
pub record Wraps (cols v : ℕ) (p q : Place) : Type 0 where
  pub no_room : cols < p.x + v
  pub x : q.x ≡ v
  pub y : q.y ≡ p.y +ℤ pos 1

-- a piece leads from place p to place q
abbrev pub LeadsTo : ℕ → Piece → Place → Place → Type 0
LeadsTo cols Cr p q = (q.x ≡ 0) × (q.y ≡ p.y)
LeadsTo cols Lf p q = (q.x ≡ p.x) × (q.y ≡ p.y +ℤ pos 1)
LeadsTo cols CrLf p q = (q.x ≡ 0) × (q.y ≡ p.y +ℤ pos 1)
LeadsTo cols (Wide v) p q = FitsAt cols v p q ⊎ Wraps cols v p q

-- the places of a list of pieces: one more than the pieces, and each piece leads from the place before it to the place
-- after it
abbrev pub ArePlaces : ℕ → List Piece → List Place → Type 0
ArePlaces cols [] (p ∷ []) = Unit {0}
ArePlaces cols (piece ∷ more) (p ∷ q ∷ rest) = LeadsTo cols piece p q × ArePlaces cols more (q ∷ rest)
ArePlaces cols _ _ = ⊥

-- the place after a piece, computed
abbrev pub next_place : ℕ → Piece → Place → Place
next_place cols Cr p = record p { x = 0 }
next_place cols Lf p = record p { y = p.y +ℤ pos 1 }
next_place cols CrLf p = record { x = 0; y = p.y +ℤ pos 1 }
next_place cols (Wide v) p =
    if leb (p.x + v) cols then record p { x = p.x + v } else record { x = v; y = p.y +ℤ pos 1 }

-- the places after the first one of a list of pieces, computed
abbrev pub places_after : ℕ → List Piece → Place → List Place
places_after cols [] p = []
places_after cols (piece ∷ more) p = next_place cols piece p ∷ places_after cols more (next_place cols piece p)

-- the last of the places of a list of pieces
abbrev pub end_of_pieces : ℕ → List Piece → Place → Place
end_of_pieces cols [] p = p
end_of_pieces cols (piece ∷ more) p = end_of_pieces cols more (next_place cols piece p)

-- where a sequence of changes begins
abbrev pub origin : Place
origin = record { x = 0; y = pos 0 }

-- the place after a change
abbrev pub place_after : ℕ → ChangeView → Place → Place
place_after cols (Attribute a) p = p
place_after cols (AllAttributes a) p = p
place_after cols (Text text) p = end_of_pieces cols (pieces text) p
place_after cols (ClearScreen color) p = origin
place_after cols (ClearToEndOfScreen color) p = p
place_after cols (CursorPosition x y) p =
    record { x = min (cols - 1) (at_least_0 (position_after x (pos p.x))); y = position_after y p.y }

-- the place after a list of changes
abbrev pub place_after_all : ℕ → Batch → Place → Place
place_after_all cols [] p = p
place_after_all cols (change ∷ changes) p = place_after_all cols changes (place_after cols change p)

-- the places that a change reaches, one after the other
abbrev pub places_of_change : ℕ → ChangeView → Place → List Place
places_of_change cols (Attribute a) p = []
places_of_change cols (AllAttributes a) p = []
places_of_change cols (Text text) p = places_after cols (pieces text) p
places_of_change cols (ClearScreen color) p = origin ∷ []
places_of_change cols (ClearToEndOfScreen color) p = []
places_of_change cols (CursorPosition x y) p = place_after cols (CursorPosition x y) p ∷ []

-- the places that a list of changes reaches, one after the other
abbrev pub places_of_all : ℕ → Batch → Place → List Place
places_of_all cols [] p = []
places_of_all cols (change ∷ changes) p = places_of_change cols change p ++ places_of_all cols changes (place_after cols change p)

-- a row from -2147483647 to 2147483647, and a column up to that
abbrev pub is_in_range : Place → Bool
is_in_range p = leb p.x 2147483647 && leb (nat_abs p.y) 2147483647

-- whether each place that a change reaches is in range
abbrev pub stays_in_range : ℕ → ChangeView → Place → Bool
stays_in_range cols change p = list_all is_in_range (places_of_change cols change p)

-- the relative move from one place to another
abbrev pub move_between : Place → Place → ChangeView
move_between from to = CursorPosition (Relative (pos to.x -ℤ pos from.x)) (Relative (to.y -ℤ from.y))
