-- A extent holds the place and the rows of its drawing.
use Rattle.std.proofs.Common.{◌≡◌, ℕ, ◌-◌, ◌<◌, ◌≤◌, ℤ, pos, ◌+ℤ◌, ◌-ℤ◌, Bool, true, ◌&&◌, leb, min, nat_abs, List, [], ◌∷◌, ◌++◌, map, refl, ap, sym, ◌∙◌, arith}
use Rattle.std.specs.List.{list_all}
use Rattle.std.proofs.Math.Nat.{min-eq_right}
use Rattle.std.proofs.lemmas.Bool.{and_from, le-leb}
use Rattle.std.proofs.lemmas.Int.{ints}
use Rattle.tw_surface.specs.declared.measure.Piece.{Piece}
use Rattle.tw_surface.specs.declared.measure.Extent.{Extent}
use Rattle.tw_surface.specs.ChangeView.{ChangeView, Batch}
use Rattle.tw_surface.specs.ChangeView.{Attribute, AllAttributes, Text, ClearScreen, ClearToEndOfScreen, CursorPosition}
use Rattle.tw_surface.specs.Positions.{at_least_0}
use Rattle.tw_surface.specs.Places.{Place, pieces, next_place, places_after, end_of_pieces, place_after, place_after_all, places_of_change, places_of_all, origin, is_in_range, stays_in_range, move_between}
use Rattle.tw_surface.specs.Drawings.{Drawing, place, greatest, least, height}
use Rattle.tw_surface.specs.Extents.{place_of, reach, reach_all, extent_after, extent_after_all, start_extent, IsExtentOf}
use Rattle.tw_surface.proofs.ExtentLemmas.{sound-reach_all}

-- the last place of a list of pieces
pub place_of-pieces : (cols : ℕ) (ps : List Piece) (t : Extent) → place_of (reach_all t (places_after cols ps (place_of t))) ≡ end_of_pieces cols ps (place_of t)
place_of-pieces cols [] t = refl
place_of-pieces cols (piece ∷ more) t = place_of-pieces cols more (reach t (next_place cols piece (place_of t)))

-- the place after a change
pub place_of-extent_after : (cols : ℕ) (change : ChangeView) (t : Extent) → place_of (extent_after cols change t) ≡ place_after cols change (place_of t)
place_of-extent_after cols (Attribute a) t = refl
place_of-extent_after cols (AllAttributes a) t = refl
place_of-extent_after cols (Text text) t = place_of-pieces cols (pieces text) t
place_of-extent_after cols (ClearScreen color) t = refl
place_of-extent_after cols (ClearToEndOfScreen color) t = refl
place_of-extent_after cols (CursorPosition x y) t = refl

-- the place after a list of changes
pub place_of-extent_after_all : (cols : ℕ) (changes : Batch) (t : Extent) → place_of (extent_after_all cols changes t) ≡ place_after_all cols changes (place_of t)
place_of-extent_after_all cols [] t = refl
place_of-extent_after_all cols (change ∷ changes) t =
    place_of-extent_after_all cols changes (extent_after cols change t) ∙ ap (place_after_all cols changes) (place_of-extent_after cols change t)

-- lists of places are reached one after the other
pub reach_all-append : (ps qs : List Place) (t : Extent) → reach_all t (ps ++ qs) ≡ reach_all (reach_all t ps) qs
reach_all-append [] qs t = refl
reach_all-append (p ∷ ps) qs t = reach_all-append ps qs (reach t p)

-- a extent reaches the places of its changes
pub extent_after_all-places : (cols : ℕ) (changes : Batch) (t : Extent) → extent_after_all cols changes t ≡ reach_all t (places_of_all cols changes (place_of t))
extent_after_all-places cols [] t = refl
extent_after_all-places cols (change ∷ changes) t =
    extent_after_all-places cols changes (extent_after cols change t)
    ∙ ap (λ p. reach_all (extent_after cols change t) (places_of_all cols changes p)) (place_of-extent_after cols change t)
    ∙ sym (reach_all-append (places_of_change cols change (place_of t)) (places_of_all cols changes (place_after cols change (place_of t))) t)

-- the greatest row of a extent
greatest-reach_all : (ps : List Place) (t : Extent) → (reach_all t ps).greatest ≡ greatest t.greatest (map (λ p. p.y) ps)
greatest-reach_all [] t = refl
greatest-reach_all (p ∷ ps) t = greatest-reach_all ps (reach t p)

-- and its least row
least-reach_all : (ps : List Place) (t : Extent) → (reach_all t ps).least ≡ least t.least (map (λ p. p.y) ps)
least-reach_all [] t = refl
least-reach_all (p ∷ ps) t = least-reach_all ps (reach t p)

-- the height by a extent
pub height-extent : (cols : ℕ) (changes : Batch)
    → height cols changes ≡ nat_abs ((extent_after_all cols changes start_extent).greatest -ℤ (extent_after_all cols changes start_extent).least)
height-extent cols changes =
    let ps : List Place = places_of_all cols changes origin in
    let e = extent_after_all-places cols changes start_extent in
    let g : (extent_after_all cols changes start_extent).greatest ≡ greatest (pos 0) (map (λ p. p.y) ps) = ap (λ t. t.greatest) e ∙ greatest-reach_all ps start_extent in
    let l : (extent_after_all cols changes start_extent).least ≡ least (pos 0) (map (λ p. p.y) ps) = ap (λ t. t.least) e ∙ least-reach_all ps start_extent in
    ap (λ y. nat_abs (y -ℤ least (pos 0) (map (λ p. p.y) ps))) (sym g) ∙ ap (λ y. nat_abs ((extent_after_all cols changes start_extent).greatest -ℤ y)) (sym l)

-- the extent after one change more
pub extent_after_all-append : (cols : ℕ) (a b : Batch) (t : Extent) → extent_after_all cols (a ++ b) t ≡ extent_after_all cols b (extent_after_all cols a t)
extent_after_all-append cols [] b t = refl
extent_after_all-append cols (change ∷ a) b t = extent_after_all-append cols a b (extent_after cols change t)

-- the place after one change more
pub place_after_all-append : (cols : ℕ) (a b : Batch) (p : Place) → place_after_all cols (a ++ b) p ≡ place_after_all cols b (place_after_all cols a p)
place_after_all-append cols [] b p = refl
place_after_all-append cols (change ∷ a) b p = place_after_all-append cols a b (place_after cols change p)

-- a relative move leads to its place, where that is a column of the screen
pub place_after-move_between : (cols : ℕ) (from to : Place) → to.x < cols → place_after cols (move_between from to) from ≡ to
place_after-move_between cols from to h =
    let a : pos from.x +ℤ (pos to.x -ℤ pos from.x) ≡ pos to.x = omega (arith, ints) in
    let b : from.y +ℤ (to.y -ℤ from.y) ≡ to.y = omega (arith, ints) in
    let c : min (cols - 1) (at_least_0 (pos from.x +ℤ (pos to.x -ℤ pos from.x))) ≡ to.x =
    ap (λ z. min (cols - 1) (at_least_0 z)) a ∙ min-eq_right (omega arith) in
    ap (λ k. make k (from.y +ℤ (to.y -ℤ from.y))) c ∙ ap (λ k. make to.x k) b
  where
    make : ℕ → ℤ → Place
    make x y = record { x = x; y = y }

-- and is in range there
pub stays_in_range-move_between : (cols : ℕ) (from to : Place) → to.x < cols → cols ≤ 65535 → nat_abs to.y ≤ 2147483647
    → stays_in_range cols (move_between from to) from ≡ true
stays_in_range-move_between cols from to h k f =
    let to_is : is_in_range to ≡ true = and_from (leb to.x 2147483647) (leb (nat_abs to.y) 2147483647) (le-leb to.x 2147483647 (omega arith)) (le-leb (nat_abs to.y) 2147483647 f) in
    ap (λ p. is_in_range p && true) (place_after-move_between cols from to h) ∙ ap (λ b. b && true) to_is

-- what is measured of a drawing is its place
pub place_of-measured : (d : Drawing) (t : Extent) → IsExtentOf d.cols d.changes t → place_of t ≡ place d
place_of-measured d t h = ap place_of h.extent ∙ place_of-extent_after_all d.cols d.changes start_extent

-- and its height
pub height-measured : (d : Drawing) (t : Extent) → IsExtentOf d.cols d.changes t → nat_abs (t.greatest -ℤ t.least) ≡ height d.cols d.changes
height-measured d t h = ap (λ u. nat_abs (u.greatest -ℤ u.least)) h.extent ∙ sym (height-extent d.cols d.changes)

-- and whether the next change stays in range
pub stays-measured : (d : Drawing) (t : Extent) (change : ChangeView) (b : Bool) → IsExtentOf d.cols d.changes t
    → list_all is_in_range (places_of_change d.cols change (place_of t)) ≡ b → stays_in_range d.cols change (place d) ≡ b
stays-measured d t change b h e = ap (λ p. stays_in_range d.cols change p) (sym (place_of-measured d t h)) ∙ e

-- one change more is measured
pub measured-add : (d : Drawing) (t next : Extent) (change : ChangeView) (changes : Batch) → IsExtentOf d.cols d.changes t
    → list_all is_in_range (places_of_change d.cols change (place_of t)) ≡ true → next ≡ extent_after d.cols change t → changes ≡ d.changes ++ change ∷ []
    → IsExtentOf d.cols changes next
measured-add d t next change changes h a e g = record {
  some_columns = h.some_columns;
  columns = h.columns;
  extent = e
      ∙ ap (extent_after d.cols change) h.extent
      ∙ sym (extent_after_all-append d.cols d.changes (change ∷ []) start_extent)
      ∙ ap (λ cs. extent_after_all d.cols cs start_extent) (sym g);
  sound = rw e (sound-reach_all (places_of_change d.cols change (place_of t)) t h.sound a);
}

-- the move to a column and a row of the screen is added and leads there
pub place-move : (d : Drawing) (to : Place) → to.x < d.cols
    → place (record d { changes = d.changes ++ move_between (place d) to ∷ [] }) ≡ to
place-move d to h =
    place_after_all-append d.cols d.changes (move_between (place d) to ∷ []) origin ∙ place_after-move_between d.cols (place d) to h
