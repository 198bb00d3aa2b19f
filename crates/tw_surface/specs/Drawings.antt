-- A sequence of changes: where it leads and how many rows it takes.
use Rattle.std.specs.Prelude.{ℕ, ℤ, pos, ◌-ℤ◌, ◌≤ℤ◌, nat_abs, List, [], ◌∷◌, map, Contains}
use Rattle.std.specs.List.{All}
use Rattle.std.specs.Int.{int_min, int_max}
use Rattle.tw_surface.specs.ChangeView.{Batch}
use Rattle.tw_surface.specs.Places.{Place, origin, place_after_all, places_of_all}

-- changes for a screen of cols columns
pub record Drawing : Type 0 where
  pub cols : ℕ
  pub changes : Batch

-- the place to which a drawing leads
abbrev pub place : Drawing → Place
place d = place_after_all d.cols d.changes origin

-- the rows of a list of changes: row 0, and the row of each place that they reach
abbrev pub rows : ℕ → Batch → List ℤ
rows cols changes = pos 0 ∷ map (λ p. p.y) (places_of_all cols changes origin)

-- y is a row of the list, and none is below it
pub record IsGreatestRow (y : ℤ) (ys : List ℤ) : Type 0 where
  pub among : Contains ys y
  pub bound : All (λ z. z ≤ℤ y) ys

-- y is a row of the list, and none is above it
pub record IsLeastRow (y : ℤ) (ys : List ℤ) : Type 0 where
  pub among : Contains ys y
  pub bound : All (λ z. y ≤ℤ z) ys

-- the greatest of a number and a list of numbers, computed
abbrev pub greatest : ℤ → List ℤ → ℤ
greatest g [] = g
greatest g (y ∷ ys) = greatest (int_max g y) ys

-- the least of a number and a list of numbers, computed
abbrev pub least : ℤ → List ℤ → ℤ
least l [] = l
least l (y ∷ ys) = least (int_min l y) ys

-- the greatest row minus the least one, row 0 counted in both
abbrev pub height : ℕ → Batch → ℕ
height cols changes =
    let reached = map (λ p. p.y) (places_of_all cols changes origin) in
    nat_abs (greatest (pos 0) reached -ℤ least (pos 0) reached)
