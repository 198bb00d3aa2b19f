-- What a measure knows on its way, and what it keeps.
use Rattle.std.proofs.Common.{◌≡◌, ◌≤◌, true, leb, nat_abs, List, [], ◌∷◌, arith}
use Rattle.std.specs.List.{list_all}
use Rattle.std.proofs.lemmas.Bool.{and_parts, leb-true}
use Rattle.std.proofs.lemmas.Int.{ints, clamps}
use Rattle.tw_surface.specs.declared.measure.Extent.{Extent}
use Rattle.tw_surface.specs.Places.{Place, is_in_range}
use Rattle.tw_surface.specs.Extents.{place_of, reach, reach_all, IsSound}

-- a measure of all these places that has those left
pub record IsUnderWay (all : List Place) (start : Extent) (left : List Place) (t : Extent) : Type 0 where
  pub ends : reach_all t left ≡ reach_all start all
  pub stays : list_all is_in_range left ≡ list_all is_in_range all
  pub in_range : is_in_range (place_of t) ≡ true

-- a extent that is sound stays so at a place in range
pub sound-reach : (t : Extent) (p : Place) → IsSound t → is_in_range p ≡ true → IsSound (reach t p)
sound-reach t p h a =
    let y : nat_abs p.y ≤ 2147483647 = leb-true _ _ (and_parts (leb p.x 2147483647) (leb (nat_abs p.y) 2147483647) a).1 in
    record {
      place = a;
      low = omega (arith, ints, clamps, h.low);
      high = omega (arith, ints, clamps, h.high);
      order = omega (arith, ints, clamps, h.order);
    }

-- and at a list of places in range
pub sound-reach_all : (ps : List Place) (t : Extent) → IsSound t → list_all is_in_range ps ≡ true → IsSound (reach_all t ps)
sound-reach_all [] t h a = h
sound-reach_all (p ∷ ps) t h a =
    let both = and_parts (is_in_range p) (list_all is_in_range ps) a in
    sound-reach_all ps (reach t p) (sound-reach t p h both.0) both.1
