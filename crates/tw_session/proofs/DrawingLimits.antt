-- A drawing whose places are in range is in limits.
use Rattle.std.proofs.Common.{◌≡◌, ℕ, ◌≤◌, ◌-ℤ◌, nat_abs, true, leb, [], subst, sym, ap, refl, ◌∙◌, arith}
use Rattle.std.specs.List.{list_all}
use Rattle.std.proofs.lemmas.Bool.{and_parts, leb-true}
use Rattle.std.proofs.lemmas.Int.{ints}
use Rattle.tw_surface.specs.declared.measure.Extent.{Extent}
use Rattle.tw_surface.specs.ChangeView.{Batch}
use Rattle.tw_surface.specs.Places.{Place, places_of_all, origin, is_in_range}
use Rattle.tw_surface.specs.Drawings.{Drawing, place, height}
use Rattle.tw_surface.specs.Extents.{place_of, extent_after_all, start_extent, IsSound}
use Rattle.tw_surface.proofs.ExtentLemmas.{sound-reach_all}
use Rattle.tw_surface.proofs.DrawingLemmas.{extent_after_all-places, place_of-extent_after_all, height-extent}
use Rattle.tw_session.specs.DrawSteps.{Drawn}

-- a drawing without changes
abbrev pub empty : ℕ → Drawing
empty cols = record { cols = cols; changes = [] }

start_is_sound : IsSound start_extent
start_is_sound = record { place = refl; low = omega arith; high = omega arith; order = omega (arith, ints) }

extent_is_sound : (cols : ℕ) (changes : Batch) → list_all is_in_range (places_of_all cols changes origin) ≡ true → IsSound (extent_after_all cols changes start_extent)
extent_is_sound cols changes h =
    subst IsSound (sym (extent_after_all-places cols changes start_extent)) (sound-reach_all (places_of_all cols changes origin) start_extent start_is_sound h)

-- the row of a place in range
pub row-in_range : (p : Place) → is_in_range p ≡ true → nat_abs p.y ≤ 2147483647
row-in_range p h = leb-true _ _ (and_parts (leb p.x 2147483647) (leb (nat_abs p.y) 2147483647) h).1

-- the row to which a drawing leads
pub row-drawn : (cols : ℕ) (changes : Batch) (d : Drawing) → Drawn changes (empty cols) d → nat_abs (place d).y ≤ 2147483647
row-drawn cols changes d h =
    let P : Place → Type 0 = λ p. nat_abs p.y ≤ 2147483647 in
    subst P (sym (ap place h.drawing))
    (subst P (place_of-extent_after_all cols changes start_extent) (row-in_range (place_of (extent_after_all cols changes start_extent)) (extent_is_sound cols changes h.in_range).place))

-- the rows that it takes
pub height-drawn : (cols : ℕ) (changes : Batch) (d : Drawing) → Drawn changes (empty cols) d → height d.cols d.changes ≤ 4294967294
height-drawn cols changes d h =
    let t : Extent = extent_after_all cols changes start_extent in
    let s : IsSound t = extent_is_sound cols changes h.in_range in
    let low : nat_abs t.least ≤ 2147483647 = s.low in
    let high : nat_abs t.greatest ≤ 2147483647 = s.high in
    let e : height d.cols d.changes ≡ nat_abs (t.greatest -ℤ t.least) = ap (λ d. height d.cols d.changes) h.drawing ∙ height-extent cols changes in
    omega (arith, ints, e)
