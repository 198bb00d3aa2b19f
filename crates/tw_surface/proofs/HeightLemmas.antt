-- The greatest and the least row that are computed are the extremes of the rows that are reached.
use Rattle.std.proofs.Common.{◌≡◌, ℕ, zero, suc, ◌<◌, length, slice_index_or, ℤ, pos, ◌≤ℤ◌, List, [], ◌∷◌, map, refl, sym, ◌∙◌, inl, inr, ◌⊎◌, arith, Contains, Bool, true, false, cond}
use lib.Signed.{lt_z}
use Rattle.std.specs.Int.{int_min, int_max}
use Rattle.std.proofs.lemmas.Int.{ints, clamps}
use Rattle.tw_surface.specs.Places.{places_of_all, origin}
use Rattle.tw_surface.specs.Drawings.{greatest, least}
use Rattle.tw_surface.specs.Laws.{HeightByExtremes}

-- the greatest is not below the number that it starts from
greatest-start : (g : ℤ) (ys : List ℤ) → g ≤ℤ greatest g ys
greatest-start g [] = omega (arith, ints)
greatest-start g (y ∷ ys) = let h : int_max g y ≤ℤ greatest (int_max g y) ys = greatest-start (int_max g y) ys in omega (arith, ints, clamps)

-- and the least is not above it
least-start : (l : ℤ) (ys : List ℤ) → least l ys ≤ℤ l
least-start l [] = omega (arith, ints)
least-start l (y ∷ ys) = let h : least (int_min l y) ys ≤ℤ int_min l y = least-start (int_min l y) ys in omega (arith, ints, clamps)

max-cases : (a b : ℤ) → (int_max a b ≡ a) ⊎ (int_max a b ≡ b)
max-cases a b = either (lt_z b a)
  where
    either : (t : Bool) → (cond t a b ≡ a) ⊎ (cond t a b ≡ b)
    either true = inl refl
    either false = inr refl

min-cases : (a b : ℤ) → (int_min a b ≡ a) ⊎ (int_min a b ≡ b)
min-cases a b = either (lt_z b a)
  where
    either : (t : Bool) → (cond t b a ≡ a) ⊎ (cond t b a ≡ b)
    either true = inr refl
    either false = inl refl

-- the greatest is among the numbers
greatest-among : (g : ℤ) (ys : List ℤ) → Contains (g ∷ ys) (greatest g ys)
greatest-among g [] = (0, omega arith, refl)
greatest-among g (y ∷ ys) = from (greatest-among (int_max g y) ys)
  where
    from : Contains (int_max g y ∷ ys) (greatest (int_max g y) ys) → Contains (g ∷ y ∷ ys) (greatest (int_max g y) ys)
    from (zero, below, e) = elim (max-cases g y) [ inl first ↦ (0, omega arith, sym first ∙ e) | inr second ↦ (1, omega arith, sym second ∙ e) ]
    from (suc k, below, e) = (suc (suc k), omega arith, e)

-- and none is above it
greatest-bound : (g : ℤ) (ys : List ℤ) (k : ℕ) (d : ℤ) → k < length (g ∷ ys) → slice_index_or (g ∷ ys) k d ≤ℤ greatest g ys
greatest-bound g [] zero d below = omega (arith, ints)
greatest-bound g [] (suc k) d below = absurd (omega arith)
greatest-bound g (y ∷ ys) zero d below = greatest-start g (y ∷ ys)
greatest-bound g (y ∷ ys) (suc zero) d below =
    let h : int_max g y ≤ℤ greatest (int_max g y) ys = greatest-start (int_max g y) ys in omega (arith, ints, clamps)
greatest-bound g (y ∷ ys) (suc (suc k)) d below = greatest-bound (int_max g y) ys (suc k) d (omega arith)

-- the least is among the numbers
least-among : (l : ℤ) (ys : List ℤ) → Contains (l ∷ ys) (least l ys)
least-among l [] = (0, omega arith, refl)
least-among l (y ∷ ys) = from (least-among (int_min l y) ys)
  where
    from : Contains (int_min l y ∷ ys) (least (int_min l y) ys) → Contains (l ∷ y ∷ ys) (least (int_min l y) ys)
    from (zero, below, e) = elim (min-cases l y) [ inl first ↦ (0, omega arith, sym first ∙ e) | inr second ↦ (1, omega arith, sym second ∙ e) ]
    from (suc k, below, e) = (suc (suc k), omega arith, e)

-- and none is below it
least-bound : (l : ℤ) (ys : List ℤ) (k : ℕ) (d : ℤ) → k < length (l ∷ ys) → least l ys ≤ℤ slice_index_or (l ∷ ys) k d
least-bound l [] zero d below = omega (arith, ints)
least-bound l [] (suc k) d below = absurd (omega arith)
least-bound l (y ∷ ys) zero d below = least-start l (y ∷ ys)
least-bound l (y ∷ ys) (suc zero) d below =
    let h : least (int_min l y) ys ≤ℤ int_min l y = least-start (int_min l y) ys in omega (arith, ints, clamps)
least-bound l (y ∷ ys) (suc (suc k)) d below = least-bound (int_min l y) ys (suc k) d (omega arith)

pub height-by-extremes : HeightByExtremes
height-by-extremes cols changes =
    let ys : List ℤ = map (λ p. p.y) (places_of_all cols changes origin) in
    (greatest (pos 0) ys, least (pos 0) ys, record { among = greatest-among (pos 0) ys; bound = greatest-bound (pos 0) ys }, record { among = least-among (pos 0) ys; bound = least-bound (pos 0) ys }, refl)

pub ruleset heights_laws = (height-by-extremes)
