-- A painting leaves its sheet fresh, from as far up as it had to scroll.
use Rattle.std.proofs.Common.{◌≡◌, ℕ, ◌+◌, ◌-◌, ◌*◌, ◌%◌, ◌≤◌, ◌<◌, min, Option, Some, None, [], ◌∷◌, ◌++◌, sym, ap, ◌∙◌, subst, arith}
use Rattle.std.proofs.lemmas.Bool.Decides.{nat_tests}
use Rattle.std.proofs.lemmas.Nat.{mod_below}
use Rattle.std.proofs.Math.Nat.{min-eq_right}
use Rattle.laws_screens.specs.Strokes.{PictureOf, cleared_in, step, steps, excess, scrolled, steps_on, InSight}
use Rattle.laws_screens.specs.Strokes.Stroke.{Move}
use Rattle.laws_screens.specs.Sheets.{Sheet, sheet_last_row, sheet_cursor_row, IsFreshSheet, typed, broken, drawing, IsLow, raised_row}
use Rattle.laws_screens.specs.Paintings.{SheetPainting, IsLed, IsFit, closing_strokes, seen_row, IsClosedSheet}
use Rattle.laws_screens.proofs.DrawnSheets.{all_cells, drawn, above-cells, fresh}
use Rattle.laws_screens.proofs.SeenRows.{seen_from, Sees, sees-same, sees-scrolled, in-sight-again, drawing-types, sees-typing, sees-clear, sees-still, steps_on-append}

-- how far a painting scrolls: down to its last row, and down to its cursor
abbrev rows_up : Option ℕ → ℕ → ℕ → ℕ
rows_up rows last at = seen_from rows 0 last + excess rows (at - seen_from rows 0 last)

seen-is : (rows : Option ℕ) (r : ℕ) → InSight rows 0 → seen_row rows r + excess rows r ≡ r
seen-is None r some = omega arith
seen-is (Some h) r some = omega (arith, some)

module _ {C : Type 0} where
  -- ---- one painting

  -- a fresh painting from row s' on, the rows above moved up from row s to row s'
  pub record Painted (w : ℕ) (b : C) (s s' : ℕ) (sheet : Sheet C) (before after : PictureOf C) : Type 0 where
    pub fresh : IsFreshSheet w s' b sheet after
    pub above : (r c : ℕ) → r < s' → c < w → after.cell r c ≡ before.cell (r + (s - s')) c

  up-is : (rows : Option ℕ) (w s : ℕ) (sheet : Sheet C) → InSight rows s → IsLow rows w sheet
      → (raised_row rows w s sheet + rows_up rows (s + sheet_last_row w sheet) (s + sheet_cursor_row w sheet) ≡ s) × (seen_from rows 0 (s + sheet_last_row w sheet) ≤ s)
  up-is None w s sheet inside low = (omega arith, omega arith)
  up-is (Some h) w s sheet inside low = (omega (arith, inside, low), omega (arith, inside, low))

  -- one painting: its last move leads within what is seen
  pub painted : (rows : Option ℕ) (b : C) (p : SheetPainting C) (s : ℕ) (before : PictureOf C) → IsFit rows b p → InSight rows s → before.row ≡ s → before.col ≡ 0
      → Painted p.cols b s (raised_row rows p.cols s p.sheet) p.sheet before (steps_on rows p.cols (drawing b p.writing ++ Move p.to_row p.to_col ∷ []) before)
  painted rows b p s before fit inside row col =
      let w : ℕ = p.cols in
      let last : ℕ = s + sheet_last_row w p.sheet in
      let at : ℕ = s + sheet_cursor_row w p.sheet in
      let t : ℕ = seen_from rows 0 last in
      let s' : ℕ = raised_row rows w s p.sheet in
      let up : ℕ = rows_up rows last at in
      let le : t ≤ s = (up-is rows w s p.sheet inside fit.low).1 in
      let is : s' + up ≡ s = (up-is rows w s p.sheet inside fit.low).0 in
      let u : PictureOf C = steps w (drawing b p.writing) before in
      let x : PictureOf C = steps_on rows w (drawing b p.writing) before in
      let m : PictureOf C = step w (Move p.to_row p.to_col) u in
      let v : PictureOf C = step w (Move p.to_row p.to_col) x in
      let all = drawn b w s p.writing p.sheet before fit.led.wide row col fit.led.laid fit.led.narrow fit.led.narrow_below fit.led.off_edge in
      let clear : PictureOf C = record before { cell = cleared_in before.cell before.row before.col b } in
      let low : InSight rows clear.row = subst (λ r. InSight rows r) (sym row) inside in
      let seen : Sees t x u =
      subst (λ n. Sees (seen_from rows 0 n) x u) all.row
      (sees-typing rows w (typed p.writing.text ++ broken p.writing.lower) 0 (scrolled rows clear) clear (drawing-types p.writing) (in-sight-again rows clear.row clear low)
      (sees-still rows 0 clear clear low (sees-same clear))) in
      let row-is : m.row ≡ at = fit.led.to_row u.row ∙ omega (arith, all.row) in
      let row-seen : v.row ≡ at - t = fit.led.to_row x.row ∙ omega (arith, all.row, seen.row, le) in
      let col-is : m.col ≡ p.sheet.at % w =
      ap (λ c. min (w - 1) (p.to_col c)) all.col ∙ ap (min (w - 1)) fit.led.to_col ∙ min-eq_right (omega (arith, mod_below p.sheet.at w (omega (arith, fit.led.wide)), fit.led.wide)) in
      let moved : Sees t v m = record { row = row-is ∙ omega (arith, row-seen, le); col = ap (λ c. min (w - 1) (p.to_col c)) seen.col; cell = seen.cell } in
      let sees : Sees up (scrolled rows v) m = subst (λ n. Sees n (scrolled rows v) m) (ap (λ r. t + excess rows r) row-seen) (sees-scrolled rows t v m s inside moved) in
      let cells : (r c : ℕ) → c < w → (scrolled rows v).cell r c ≡ all_cells b w (s' + up) p.sheet before ((r + up) * w + c) =
      λ r c h. sees.cell r c ∙ all.cells (r + up) c h ∙ ap (λ n. all_cells b w n p.sheet before ((r + up) * w + c)) (sym is) in
      rw (steps_on-append rows w (drawing b p.writing) (Move p.to_row p.to_col ∷ []) before) (record {
        fresh = fresh b w s' up p.sheet before (scrolled rows v) fit.led.wide cells (omega (arith, sees.row, row-is, is)) (sym sees.col ∙ col-is);
        above = λ r c k i. sees.cell r c ∙ all.cells (r + up) c i ∙ above-cells b w s p.sheet before (r + up) c fit.led.wide (omega (arith, is)) i
            ∙ ap (λ y. before.cell y c) (omega (arith, is));
      })

  -- ---- the closing

  cleared_below : (b : C) (cell : ℕ → ℕ → C) (r i c : ℕ) → r ≤ i → cleared_in cell r 0 b i c ≡ b
  cleared_below b cell r i c h = grind (arith, nat_tests)

  cleared_above : (b : C) (cell : ℕ → ℕ → C) (r i c : ℕ) → i < r → cleared_in cell r 0 b i c ≡ cell i c
  cleared_above b cell r i c h = grind (arith, nat_tests)

  -- at whatever number of columns
  pub closed : (rows : Option ℕ) (b : C) (w s : ℕ) (p : SheetPainting C) (before : PictureOf C) → 2 ≤ w → IsLed b p → InSight rows 0 → before.row ≡ s + sheet_cursor_row p.cols p.sheet
      → IsClosedSheet rows w b (s + sheet_last_row p.cols p.sheet) before (steps_on rows w (closing_strokes b p) before)
  closed rows b w s p before two led some row =
      let last : ℕ = s + sheet_last_row p.cols p.sheet in
      let m : PictureOf C = step w (Move p.under (λ c. 0)) before in
      let at : m.row ≡ last + 1 = led.under before.row ∙ omega (arith, row) in
      let left : m.col ≡ 0 = min-eq_right (omega arith) in
      let x : PictureOf C = scrolled rows m in
      let k : ℕ = 0 + excess rows m.row in
      let one : Sees k x m = sees-scrolled rows 0 m m 0 some (sees-same m) in
      let c : PictureOf C = record x { cell = cleared_in x.cell x.row x.col b } in
      let v : PictureOf C = record m { cell = cleared_in m.cell m.row m.col b } in
      let z : PictureOf C = scrolled rows c in
      let seen : Sees k z v = sees-still rows k c v (in-sight-again rows 0 m some) (sees-clear k b x m one) in
      let e : 0 + excess rows (last + 1) ≡ k = ap (λ n. 0 + excess rows n) (sym at) in
      let rows-are : z.row + k ≡ last + 1 = sym seen.row ∙ at in
      record {
        row = omega (arith, rows-are, e, seen-is rows (last + 1) some);
        col = sym seen.col ∙ left;
        blank_below = λ r i h j. seen.cell r i ∙ ap (λ n. cleared_in before.cell m.row n b (r + k) i) left ∙ cleared_below b before.cell m.row (r + k) i (omega (arith, h, seen.row));
        moved_up = λ r i h j. seen.cell r i ∙ ap (λ n. cleared_in before.cell m.row n b (r + k) i) left ∙ cleared_above b before.cell m.row (r + k) i (omega (arith, h, seen.row))
            ∙ ap (λ y. before.cell y i) (omega (arith, rows-are));
      }
