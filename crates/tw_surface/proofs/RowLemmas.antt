-- What characters of one column do in a row.
use Rattle.std.proofs.Common.{◌≡◌, ℕ, zero, suc, ◌+◌, ◌<◌, ◌≤◌, ◌≤ℤ◌, true, ◌&&◌, leb, nat_abs, List, [], ◌∷◌, length, map, replicate, refl, sym, add-zero, zero-add, ap, ◌∙◌, arith}
use Rattle.std.specs.List.{list_all}
use Rattle.std.specs.Int.{int_min, int_max}
use Rattle.std.proofs.lemmas.Bool.{and_parts, and_from, ne_eqb, leb-true, le-leb}
use Rattle.std.proofs.lemmas.Int.{ints, clamps}
use Rattle.tw_surface.specs.declared.measure.Piece.TheVariants.{Wide}
use Rattle.tw_surface.specs.declared.measure.Extent.{Extent}
use Rattle.tw_surface.specs.Characters.{is_printable, is_plain}
use Rattle.tw_surface.specs.Places.{Place, plain_piece, pieces, next_place, places_after, is_in_range}
use Rattle.tw_surface.specs.Extents.{place_of, reach}
use Rattle.tw_surface.proofs.ExtentLemmas.{IsUnderWay}

-- a printable character is one column wide
printable-plain : (ch : ℕ) → is_printable ch ≡ true → (plain_piece ch ≡ Wide 1) × (is_plain ch ≡ true)
printable-plain ch h =
    let low : 32 ≤ ch = leb-true _ _ (and_parts (leb 32 ch) (leb ch 126) h).0 in
    rw (ne_eqb ch 13 (λ e. omega arith), ne_eqb ch 10 (λ e. omega arith)) (refl, h)

printable-list : (text : List ℕ) → list_all is_printable text ≡ true → (map plain_piece text ≡ replicate (length text) (Wide 1)) × (list_all is_plain text ≡ true)
printable-list [] h = (refl, refl)
printable-list (ch ∷ text) h =
    let both = and_parts (is_printable ch) (list_all is_printable text) h in
    let first = printable-plain ch both.0 in
    let rest = printable-list text both.1 in
    (rw (first.0, rest.0) refl, and_from _ _ first.1 rest.1)

-- a printable text is plain
pub plain_from_printable : (text : List ℕ) → list_all is_printable text ≡ true → list_all is_plain text ≡ true
plain_from_printable text h = (printable-list text h).1

-- and as many pieces of one column
pub printable_pieces : (text : List ℕ) → list_all is_printable text ≡ true → pieces text ≡ replicate (length text) (Wide 1)
unfolding pieces
printable_pieces text h = let both = printable-list text h in rw both.1 both.0

-- one more character that fits
next_fits : (cols left : ℕ) (t : Extent) → t.x + 1 ≤ cols
    → places_after cols (replicate (suc left) (Wide 1)) (place_of t) ≡ record { x = t.x + 1; y = t.y } ∷ places_after cols (replicate left (Wide 1)) (record { x = t.x + 1; y = t.y })
next_fits cols left t fits = rw (le-leb (t.x + 1) cols fits) refl

-- is reached with no change but of the column
reach_fits : (t : Extent) → t.least ≤ℤ t.y → t.y ≤ℤ t.greatest → reach t (record { x = t.x + 1; y = t.y }) ≡ record t { x = t.x + 1 }
reach_fits t low high =
    let least : int_min t.least t.y ≡ t.least = omega (arith, ints, clamps) in
    let greatest : int_max t.greatest t.y ≡ t.greatest = omega (arith, ints, clamps) in
    rw (least, greatest) refl

-- and is in range where the row is
range_fits : (cols : ℕ) (t : Extent) → cols ≤ 65535 → t.x + 1 ≤ cols → is_in_range (place_of t) ≡ true → is_in_range (record { x = t.x + 1; y = t.y }) ≡ true
range_fits cols t most fits in_range =
    let row = (and_parts (leb t.x 2147483647) (leb (nat_abs t.y) 2147483647) in_range).1 in
    and_from _ _ (le-leb (t.x + 1) 2147483647 (omega arith)) row

-- the characters of one column that fit in the row are one step
pub in_row : (cols more left : ℕ) (all : List Place) (start t : Extent) → cols ≤ 65535 → (0 < more → t.x + more ≤ cols) → t.least ≤ℤ t.y → t.y ≤ℤ t.greatest
    → IsUnderWay all start (places_after cols (replicate (more + left) (Wide 1)) (place_of t)) t
    → IsUnderWay all start (places_after cols (replicate left (Wide 1)) (place_of (record t { x = t.x + more }))) (record t { x = t.x + more })
in_row cols zero left all start t most fits low high under = rw add-zero (rw (zero-add left) at under)
in_row cols (suc more) left all start t most fits low high under =
    let room : t.x + suc more ≤ cols = fits (omega arith) in
    let next : Extent = record t { x = t.x + 1 } in
    let e : suc more + left ≡ suc (more + left) = omega arith in
    let col : t.x + 1 + more ≡ t.x + suc more = omega arith in
    let split : places_after cols (replicate (suc more + left) (Wide 1)) (place_of t) ≡ place_of next ∷ places_after cols (replicate (more + left) (Wide 1)) (place_of next) =
    rw e (next_fits cols (more + left) t (omega arith)) in
    let within = range_fits cols t most (omega arith) under.in_range in
    let went : IsUnderWay all start (places_after cols (replicate (more + left) (Wide 1)) (place_of next)) next = record {
      ends = rw (← reach_fits t low high) (rw split at under.ends);
      stays = ap (λ b. b && list_all is_in_range (places_after cols (replicate (more + left) (Wide 1)) (place_of next))) (sym within) ∙ (rw split at under.stays);
      in_range = within;
    } in
    rw (← col) (in_row cols more left all start next most (λ some. omega arith) low high went)

-- after the first one, wherever it stands
pub row_step : (cols more left : ℕ) (all : List Place) (start t r : Extent) → cols ≤ 65535
    → IsUnderWay all start (places_after cols (replicate (suc (more + left)) (Wide 1)) (place_of t)) t
    → r ≡ reach t (next_place cols (Wide 1) (place_of t)) → is_in_range (next_place cols (Wide 1) (place_of t)) ≡ true → (0 < more → r.x + more ≤ cols)
    → IsUnderWay all start (places_after cols (replicate left (Wide 1)) (place_of (record r { x = r.x + more }))) (record r { x = r.x + more })
row_step cols more left all start t r most under reached in_range fits =
    let p : Place = next_place cols (Wide 1) (place_of t) in
    let first : Extent = reach t p in
    let went : IsUnderWay all start (places_after cols (replicate (more + left) (Wide 1)) (place_of first)) first = record {
      ends = under.ends;
      stays = ap (λ b. b && list_all is_in_range (places_after cols (replicate (more + left) (Wide 1)) p)) (sym in_range) ∙ under.stays;
      in_range = in_range;
    } in
    let low : int_min t.least p.y ≤ℤ p.y = omega (arith, ints, clamps) in
    let high : p.y ≤ℤ int_max t.greatest p.y = omega (arith, ints, clamps) in
    rw reached (in_row cols more left all start first most (λ some. rw reached at (fits some)) low high went)
