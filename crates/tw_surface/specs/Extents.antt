-- What the measure remembers of the places that a sequence of changes has reached: the last one, and the least and the
-- greatest row.
use Rattle.std.specs.Prelude.{ℕ, pos, ◌≤ℤ◌, ◌≡◌, ◌<◌, ◌≤◌, nat_abs, true, false, Option, MatchOption, List, [], ◌∷◌}
use Rattle.std.specs.List.{list_all}
use Rattle.std.specs.Int.{int_min, int_max}
use Rattle.tw_surface.specs.declared.measure.Extent.{Extent}
use Rattle.tw_surface.specs.ChangeView.{ChangeView, Batch}
use Rattle.tw_surface.specs.Places.{Place, places_of_change, is_in_range}

-- the last place
abbrev pub place_of : Extent → Place
place_of t = record { x = t.x; y = t.y }

-- one more place is reached, and its row counts for the least and the greatest row
abbrev pub reach : Extent → Place → Extent
reach t p = record { x = p.x; y = p.y; least = int_min t.least p.y; greatest = int_max t.greatest p.y }

-- a list of places is reached, one after the other
abbrev pub reach_all : Extent → List Place → Extent
reach_all t [] = t
reach_all t (p ∷ ps) = reach_all (reach t p) ps

-- the extent after a change
abbrev pub extent_after : ℕ → ChangeView → Extent → Extent
extent_after cols change t = reach_all t (places_of_change cols change (place_of t))

-- the extent after a list of changes
abbrev pub extent_after_all : ℕ → Batch → Extent → Extent
extent_after_all cols [] t = t
extent_after_all cols (change ∷ changes) t = extent_after_all cols changes (extent_after cols change t)

-- the place (0, 0), whose row counts
abbrev pub start_extent : Extent
start_extent = record { x = 0; y = pos 0; least = pos 0; greatest = pos 0 }

-- an extent whose rows and column are in range
pub record IsSound (t : Extent) : Type 0 where
  pub place : is_in_range (place_of t) ≡ true
  pub low : nat_abs t.least ≤ 2147483647
  pub high : nat_abs t.greatest ≤ 2147483647
  pub order : t.least ≤ℤ t.greatest

-- what a measure returns: the extent once these places are reached, or None where one of them is out of range
abbrev pub Measures : Extent → List Place → Option Extent → Type 0
Measures t ps result =
    MatchOption result
    (list_all is_in_range ps ≡ false)
    (λ r. (list_all is_in_range ps ≡ true) × (r ≡ reach_all t ps) × (is_in_range (place_of r) ≡ true))

-- what the measure of a sequence remembers
pub record IsExtentOf (cols : ℕ) (changes : Batch) (t : Extent) : Type 0 where
  pub some_columns : 0 < cols
  pub columns : cols ≤ 65535
  pub extent : t ≡ extent_after_all cols changes start_extent
  pub sound : IsSound t
