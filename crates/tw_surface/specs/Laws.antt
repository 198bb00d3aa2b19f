-- The laws that this crate's `laws` state.
use Rattle.std.specs.Prelude.{ℕ, ℤ, ◌+◌, ◌-ℤ◌, ◌≡◌, ◌↔◌, nat_abs, List, ◌∷◌, length, slice_get, Some}
use Rattle.tw_surface.specs.declared.measure.Piece.{Piece}
use Rattle.tw_surface.specs.ChangeView.{Batch}
use Rattle.tw_surface.specs.Places.{Place, ArePlaces, places_after, end_of_pieces}
use Rattle.tw_surface.specs.Drawings.{rows, height, IsGreatestRow, IsLeastRow}

-- the places that are computed are the ones that the relation between neighbours allows, and no others
abbrev pub PlacesByRelation : Type 0
PlacesByRelation = (cols : ℕ) (pieces : List Piece) (p : Place) (rest : List Place) → ArePlaces cols pieces (p ∷ rest) ↔ (rest ≡ places_after cols pieces p)

-- there is one place more than pieces
abbrev pub PlacesCounted : Type 0
PlacesCounted = (cols : ℕ) (pieces : List Piece) (p : Place) → length (p ∷ places_after cols pieces p) ≡ length pieces + 1

-- a text leads to the last of its places
abbrev pub LastPlace : Type 0
LastPlace = (cols : ℕ) (pieces : List Piece) (p : Place) → slice_get (p ∷ places_after cols pieces p) (length pieces) ≡ Some (end_of_pieces cols pieces p)

-- the height is the greatest row minus the least one, row 0 counted in both
abbrev pub HeightByExtremes : Type 0
HeightByExtremes = (cols : ℕ) (changes : Batch)
    → (top : ℤ) × (bottom : ℤ) × IsGreatestRow top (rows cols changes) × IsLeastRow bottom (rows cols changes) × (height cols changes ≡ nat_abs (top -ℤ bottom))
