-- Lists of paintings, one over the other.
use Rattle.std.proofs.Common.{◌≡◌, ℕ, ◌+◌, ◌-◌, ◌≤◌, ◌<◌, min, Bool, true, false, Option, Some, None, List, [], ◌∷◌, if◌then◌else◌, inl, inr, refl, sym, subst, ap, ◌∙◌, arith}
use Rattle.std.proofs.lemmas.Bool.Decides.{nat_tests}
use Rattle.std.proofs.lemmas.Bool.{cases_lt, le-ltb}
use Rattle.std.proofs.Math.Nat.{min-eq_right}
use Rattle.laws_screens.specs.Strokes.{PictureOf, filled, step, scrolled, steps_on, InSight, resized, narrowest}
use Rattle.laws_screens.specs.Strokes.Stroke.{Move}
use Rattle.laws_screens.specs.Sheets.{Sheet, sheet_cursor_row, IsFreshSheet, raised_row}
use Rattle.laws_screens.specs.Paintings.{SheetPainting, IsLed, IsFit, painting_strokes, begun, paint_all, top_row, cols_of, last_painting, AreShownOver}
use Rattle.laws_screens.proofs.PaintedSheets.{Painted, painted}
use Rattle.laws_screens.proofs.SeenRows.{Sees, sees-same, sees-still}

narrowest-le : (w : ℕ) (more : List ℕ) → narrowest w more ≤ w
narrowest-le w [] = omega arith
narrowest-le w (x ∷ more) = omega arith

pub in-sight-below : (rows : Option ℕ) (s s' : ℕ) → s' ≤ s → InSight rows s → InSight rows s'
in-sight-below None s s' le h = tt
in-sight-below (Some h) s s' le low = omega (arith, le, low)

module _ {C : Type 0} where
  -- each painting of a list is fit
  abbrev pub AreFit : Option ℕ → C → List (SheetPainting C) → Type 0
  AreFit rows b [] = Unit {0}
  AreFit rows b (p ∷ more) = IsFit rows b p × AreFit rows b more

  -- ---- where a painting begins

  -- the cursor is at column 0 of row s, or where the move of the painting before leads it back to row s; after a
  -- clearing that move leads to row 0
  abbrev pub IsBefore : Bool → ℕ → Option (ℕ → ℕ) → PictureOf C → Type 0
  IsBefore true s None t = Unit {0}
  IsBefore true s (Some back) t = back 0 ≡ 0
  IsBefore false s None t = (t.row ≡ s) × (t.col ≡ 0)
  IsBefore false s (Some back) t = back t.row ≡ s

  -- from a screen whose cursor is where the painting before left it, or at column 0
  painted_from : (rows : Option ℕ) (b : C) (p : SheetPainting C) (s : ℕ) (before : Option (ℕ → ℕ)) (t : PictureOf C) → IsFit rows b p → InSight rows s → IsBefore false s before t
      → Painted p.cols b s (raised_row rows p.cols s p.sheet) p.sheet t (steps_on rows p.cols (painting_strokes b before p) t)
  painted_from rows b p s None t fit inside k = painted rows b p s t fit inside k.0 k.1
  painted_from rows b p s (Some back) t fit inside k =
      let m : PictureOf C = step p.cols (Move back (λ c. 0)) t in
      let still : Sees 0 (scrolled rows m) m = sees-still rows 0 m m (subst (λ r. InSight rows r) (sym k) inside) (sees-same m) in
      let q = painted rows b p s (scrolled rows m) fit inside (omega (arith, still.row, k)) (sym still.col ∙ min-eq_right (omega arith)) in
      record { fresh = q.fresh; above = λ r c h i. q.above r c h i ∙ still.cell (r + (s - raised_row rows p.cols s p.sheet)) c ∙ ap (λ y. t.cell y c) (omega arith) }

  -- a screen that is made wider or narrower leaves the cursor there
  resized-before : (cuts : Bool) (b : C) (v w s : ℕ) (before : Option (ℕ → ℕ)) (t : PictureOf C) → IsBefore false s before t → IsBefore false s before (resized cuts b v w t)
  resized-before false b v w s before t k = k
  resized-before true b v w s None t k = (k.0, ap (min (w - 1)) k.1 ∙ min-eq_right (omega arith))
  resized-before true b v w s (Some back) t k = k

  filled-before : (cuts : Bool) (b : C) (w : ℕ) (before : Option (ℕ → ℕ)) (s : ℕ) (t : PictureOf C) → IsBefore true s before t → IsBefore false 0 before (resized cuts b w w (filled b))
  filled-before false b w None s t k = (refl, refl)
  filled-before false b w (Some back) s t k = k
  filled-before true b w None s t k = (refl, min-eq_right (omega arith))
  filled-before true b w (Some back) s t k = k

  raised-le : (rows : Option ℕ) (w s : ℕ) (sheet : Sheet C) → raised_row rows w s sheet ≤ s
  raised-le None w s sheet = omega arith
  raised-le (Some h) w s sheet = omega arith

  -- one painting, its screen cleared or not
  painted_begun : (rows : Option ℕ) (cuts : Bool) (b : C) (v : ℕ) (p : SheetPainting C) (s : ℕ) (before : Option (ℕ → ℕ)) (t : PictureOf C) → IsFit rows b p → InSight rows s → IsBefore p.cleared s before t
      → Painted p.cols b s (raised_row rows p.cols (if p.cleared then 0 else s) p.sheet) p.sheet (resized cuts b v p.cols t)
      (steps_on rows p.cols (painting_strokes b before p) (begun cuts b v p t))
  painted_begun rows cuts b v p s before t fit inside k = by_cleared p.cleared k
    where
      by_cleared : (cleared : Bool) → IsBefore cleared s before t
          → Painted p.cols b s (raised_row rows p.cols (if cleared then 0 else s) p.sheet) p.sheet (resized cuts b v p.cols t)
          (steps_on rows p.cols (painting_strokes b before p) (if cleared then resized cuts b p.cols p.cols (filled b) else resized cuts b v p.cols t))
      by_cleared true k =
          let q = painted_from rows b p 0 before (resized cuts b p.cols p.cols (filled b)) fit (in-sight-below rows s 0 (omega arith) inside) (filled-before cuts b p.cols before s t k) in
          record { fresh = q.fresh; above = λ r c h i. absurd (omega (arith, raised-le rows p.cols 0 p.sheet)) }
      by_cleared false k = painted_from rows b p s before (resized cuts b v p.cols t) fit inside (resized-before cuts b v p.cols s before t k)

  -- ---- a painting, and those over it

  pub top-le : (rows : Option ℕ) (s : ℕ) (paintings : List (SheetPainting C)) → top_row rows s paintings ≤ s
  top-le rows s [] = omega arith
  top-le rows s (p ∷ more) =
      let start : (if p.cleared then 0 else s) ≤ s = grind (arith, nat_tests) in
      omega (arith, start, raised-le rows p.cols (if p.cleared then 0 else s) p.sheet, top-le rows (raised_row rows p.cols (if p.cleared then 0 else s) p.sheet) more)

  resized-kept : (cuts : Bool) (b : C) (v w : ℕ) (t : PictureOf C) (r c : ℕ) → c < v → c < w → (resized cuts b v w t).cell r c ≡ t.cell r c
  resized-kept cuts b v w t r c h k = grind (arith, nat_tests)

  resized-cut : (b : C) (v w : ℕ) (t : PictureOf C) (r c : ℕ) → v ≤ c → (resized true b v w t).cell r c ≡ b
  resized-cut b v w t r c h = rw (le-ltb c (min v w) (omega arith)) refl

  -- where the painting before left the cursor, the next one begins
  left-before : (b : C) (s : ℕ) (p : SheetPainting C) (cleared : Bool) (t : PictureOf C) → IsLed b p → t.row ≡ s + sheet_cursor_row p.cols p.sheet → IsBefore cleared s (Some p.back) t
  left-before b s p true t led row = led.back 0 ∙ omega arith
  left-before b s p false t led row = led.back t.row ∙ omega (arith, row)

  -- a painting, and those over it
  over : (rows : Option ℕ) (cuts : Bool) (b : C) (v s : ℕ) (before : Option (ℕ → ℕ)) (first : SheetPainting C) (more : List (SheetPainting C)) (t : PictureOf C)
      → IsFit rows b first → InSight rows s → IsBefore first.cleared s before t
      → let s1 = raised_row rows first.cols (if first.cleared then 0 else s) first.sheet in
      let u = steps_on rows first.cols (painting_strokes b before first) (begun cuts b v first t) in
      (IsFreshSheet first.cols s1 b first.sheet u → AreShownOver cuts b (narrowest first.cols (cols_of more)) s1 (top_row rows s1 more) (last_painting first more) u (paint_all rows cuts b first.cols (Some first.back) more u))
      → AreShownOver cuts b (narrowest v (cols_of (first ∷ more))) s (top_row rows s (first ∷ more)) (last_painting first more) t (paint_all rows cuts b v before (first ∷ more) t)
  over rows cuts b v s before first more t fit inside k others =
      let s1 : ℕ = raised_row rows first.cols (if first.cleared then 0 else s) first.sheet in
      let w : ℕ = first.cols in
      let one = painted_begun rows cuts b v first s before t fit inside k in
      let rest = others one.fresh in
      let up : s1 ≤ s = top-le rows s (first ∷ []) in
      let down : top_row rows s1 more ≤ s1 = top-le rows s1 more in
      let least : narrowest w (cols_of more) ≤ w = narrowest-le w (cols_of more) in
      record {
        fresh = rest.fresh;
        above = λ r c h i k.
            rest.above r c h i (omega arith) ∙ one.above (r + (s1 - top_row rows s1 more)) c (omega arith) (omega arith)
            ∙ resized-kept cuts b v w t (r + (s1 - top_row rows s1 more) + (s - s1)) c (omega arith) (omega arith) ∙ ap (λ y. t.cell y c) (omega arith);
        cut = λ is r c h i k. elim (cases_lt c (narrowest w (cols_of more))) [
          | inl near ↦
              rest.above r c h i near ∙ one.above (r + (s1 - top_row rows s1 more)) c (omega arith) (omega arith)
              ∙ ap (λ x. (resized x b v w t).cell (r + (s1 - top_row rows s1 more) + (s - s1)) c) is
              ∙ resized-cut b v w t (r + (s1 - top_row rows s1 more) + (s - s1)) c (omega arith)
          | inr far ↦ rest.cut is r c h i far
        ];
      }

  -- After a list of paintings the screen shows the last one fresh.
  pub painted_all : (rows : Option ℕ) (cuts : Bool) (b : C) (v s : ℕ) (before : Option (ℕ → ℕ)) (first : SheetPainting C) (more : List (SheetPainting C)) (t : PictureOf C)
      → AreFit rows b (first ∷ more) → InSight rows s → IsBefore first.cleared s before t
      → AreShownOver cuts b (narrowest v (cols_of (first ∷ more))) s (top_row rows s (first ∷ more)) (last_painting first more) t (paint_all rows cuts b v before (first ∷ more) t)
  painted_all rows cuts b v s before first [] t fit inside k =
      over rows cuts b v s before first [] t fit.0 inside k
      (λ fresh. record { fresh = fresh; above = λ r c h i k. ap (λ y. (steps_on rows first.cols (painting_strokes b before first) (begun cuts b v first t)).cell y c) (omega arith); cut = λ is r c h i k. absurd (omega arith) })
  painted_all rows cuts b v s before first (next ∷ more) t fit inside k =
      let s1 : ℕ = raised_row rows first.cols (if first.cleared then 0 else s) first.sheet in
      let u : PictureOf C = steps_on rows first.cols (painting_strokes b before first) (begun cuts b v first t) in
      over rows cuts b v s before first (next ∷ more) t fit.0 inside k
      (λ fresh. painted_all rows cuts b first.cols s1 (Some first.back) next more u fit.1 (in-sight-below rows s s1 (top-le rows s (first ∷ [])) inside) (left-before b s1 first next.cleared u fit.0.led fresh.row))
