-- A picture on which the difference is rows is the new one.
use Rattle.std.proofs.Common.{◌≡◌, ◌<◌, ◌≤◌, ◌+◌, ◌-◌, ◌/◌, ◌%◌, ℕ, max, Bool, true, false, cond, Option, Some, None, ap, subst, ◌∙◌, sym, refl, inl, inr, arith}
use Rattle.std.proofs.lemmas.Bool.{cases_lt}
use Rattle.laws_screens.specs.Strokes.{PictureOf, cleared_in}
use Rattle.laws_screens.specs.Pens.{strokes_of, kept_after_all}
use Rattle.laws_screens.specs.StyledCells.{StyledCell, styled}
use Rattle.tw_sparing.specs.Differences.{blank_cell}
use Rattle.tw_sparing.specs.declared.hand.Hand.{Hand}
use Rattle.tw_sparing.specs.Redrawings.{Redrawing, redraw_then, sunk_to, under, handed_to, rest_of, rest_emptied, left_of, lowered, rows_redrawn, rows_drawn_on}
use Rattle.tw_sparing.proofs.DrawnRows.{Holds, Leads, redrawn_on, redrawn_both, kept_both, leads_both, rows_inside, is_under}
use Rattle.tw_sparing.specs.Sending.{AreSingle}
use Rattle.tw_sparing.proofs.DrawnScreens.{rows_drawn}
use Rattle.tw_sparing.proofs.DrawnEnds.{ShowsFrom, sinks, rest, rises}

-- cells that are blank where a clearing leaves blanks
cleared_blank : (old : ℕ → ℕ → StyledCell) (r c i j : ℕ) → old i j ≡ blank_cell → cleared_in old r c blank_cell i j ≡ blank_cell
cleared_blank old r c i j is = either _ (old i j) is
  where
    either : (b : Bool) (x : StyledCell) → x ≡ blank_cell → cond b blank_cell x ≡ blank_cell
    either true x e = refl
    either false x e = e

left_blank : (w : ℕ) (from : Option ℕ) (old : ℕ → ℕ → StyledCell) (i j : ℕ) → old i j ≡ blank_cell → left_of w from old i j ≡ blank_cell
left_blank w None old i j is = is
left_blank w (Some from) old i j is = cleared_blank old (from / w) (from % w) i j is

module _ (h w : ℕ) where
  -- ---- the cursor and the attributes at the end

  pub record Handed (s t reached : ℕ) (to hand : Hand) (p : PictureOf StyledCell) : Type 0 where
    pub leads : Leads h w t hand (handed_to reached to hand) p
    pub kept : kept_after_all styled hand.attributes (handed_to reached to hand).changes ≡ to.attributes
    pub row : (redrawn_on h w hand (handed_to reached to hand) p).row ≡ t + to.row
    pub col : (redrawn_on h w hand (handed_to reached to hand) p).col ≡ to.col
    pub cells : (i j : ℕ) → (redrawn_on h w hand (handed_to reached to hand) p).cell i j ≡ p.cell (i + (s - t)) j

  pub handed : (s reached : ℕ) (to hand : Hand) (p : PictureOf StyledCell) → s + reached ≤ h → to.row < h → to.col < w → p.row < h → Holds s hand p
      → Handed s (s - (s + to.row + 1 - h)) reached to hand p
  handed s reached to hand p known low left inside holds =
      let t : ℕ = s - (s + to.row + 1 - h) in
      let move : Redrawing = sunk_to reached to.row to.col hand in
      let g = sinks h w s reached to.row to.col hand p known low left inside holds in
      let q : PictureOf StyledCell = redrawn_on h w hand move p in
      let u = is_under h w (s - (s + to.row + 1 - h)) to.attributes move.hand q g.leads.holds in
      let is = redrawn_both h w hand move (under to.attributes) p g.leads.kept in
      let both = leads_both h w (s - (s + to.row + 1 - h)) hand move (under to.attributes) p g.leads u.leads in
      record {
        leads = both;
        kept = both.kept ∙ u.attributes;
        row = both.holds.row ∙ ap (λ n. t + n) (u.row ∙ g.row);
        col = both.holds.col ∙ u.col ∙ g.col;
        cells = λ i j. ap (λ (v : PictureOf StyledCell). v.cell i j) is ∙ ap (λ (v : PictureOf StyledCell). v.cell i j) u.same ∙ g.cells i j;
      }

  -- ---- all of it

  -- from row t on the picture shows the new cells, with the cursor and the attributes of the new hand, and the rows
  -- above are as they were, moved up
  pub record Becomes (s t : ℕ) (new : ℕ → ℕ → StyledCell) (to hand : Hand) (d : Redrawing) (p : PictureOf StyledCell) : Type 0 where
    pub kept : kept_after_all styled hand.attributes d.changes ≡ to.attributes
    pub row : (redrawn_on h w hand d p).row ≡ t + to.row
    pub col : (redrawn_on h w hand d p).col ≡ to.col
    pub shown : ShowsFrom h w t new (redrawn_on h w hand d p)
    pub above : (i j : ℕ) → i < t → (redrawn_on h w hand d p).cell i j ≡ p.cell (i + (s - t)) j

  pub becomes : (s reached rows : ℕ) (old new : ℕ → ℕ → StyledCell) (to hand : Hand) (p : PictureOf StyledCell)
      → 0 < w → rows ≤ h → s + reached ≤ h → p.row < h → to.row < rows → to.col < w
      → ((i j : ℕ) → rows ≤ i → old i j ≡ blank_cell) → ((i j : ℕ) → rows ≤ i → new i j ≡ blank_cell) → ((i : ℕ) → i < rows → AreSingle w (new i))
      → ShowsFrom h w s old p → Holds s hand p
      → Becomes s (s - (s + rows - h)) new to hand (rows_drawn_on w reached rows old new to hand) p
  becomes s reached rows old new to hand p some most low inside to_row to_col old_blank new_blank single is_old holds =
      let t : ℕ = s - (s + rows - h) in
      let last : Hand → Redrawing = handed_to (max reached rows) to in
      let third : Hand → Redrawing = λ rest. redraw_then (rows_redrawn w (left_of w (rest_of w rows old new) old) new 0 rows rest) last in
      let second : Hand → Redrawing = λ low. redraw_then (rest_emptied w (rest_of w rows old new) low) third in
      let d1 : Redrawing = lowered reached rows hand in
      let p1 : PictureOf StyledCell = redrawn_on h w hand d1 p in
      let a1 = rises h w s reached rows old hand p some most low inside is_old holds in
      let d2 : Redrawing = rest_emptied w (rest_of w rows old new) d1.hand in
      let p2 : PictureOf StyledCell = redrawn_on h w d1.hand d2 p1 in
      let room : s - (s + rows - h) + rows ≤ h = omega (arith, most) in
      let a2 = rest h w (s - (s + rows - h)) rows old new d1.hand p1 some room a1.shown a1.leads.holds in
      let d3 : Redrawing = rows_redrawn w (left_of w (rest_of w rows old new) old) new 0 rows d2.hand in
      let p3 : PictureOf StyledCell = redrawn_on h w d2.hand d3 p2 in
      let a3 = rows_drawn h w (s - (s + rows - h)) 0 rows (left_of w (rest_of w rows old new) old) new d2.hand p2 (omega (arith, room)) (λ i from less. single i (omega (arith, less))) (λ i j from less left. a2.shown i j left) a2.leads.holds in
      let d4 : Redrawing = handed_to (max reached rows) to d3.hand in
      let p4 : PictureOf StyledCell = redrawn_on h w d3.hand d4 p3 in
      let inside1 : p1.row < h = rows_inside h w (strokes_of styled hand.attributes d1.changes) p inside in
      let inside2 : p2.row < h = rows_inside h w (strokes_of styled d1.hand.attributes d2.changes) p1 inside1 in
      let inside3 : p3.row < h = rows_inside h w (strokes_of styled d2.hand.attributes d3.changes) p2 inside2 in
      let a4 = subst (λ n. Handed (s - (s + rows - h)) n (max reached rows) to d3.hand p3) (let e : s - (s + rows - h) - (s - (s + rows - h) + to.row + 1 - h) ≡ s - (s + rows - h) = omega (arith, most, to_row) in e)
      (handed (s - (s + rows - h)) (max reached rows) to d3.hand p3 (omega (arith, low, most)) (omega (arith, to_row, most)) to_col inside3 a3.leads.holds) in
      let is : redrawn_on h w hand (rows_drawn_on w reached rows old new to hand) p ≡ p4 =
      redrawn_both h w hand d1 second p a1.leads.kept ∙ redrawn_both h w d1.hand d2 third p1 a2.leads.kept ∙ redrawn_both h w d2.hand d3 last p2 a3.leads.kept in
      let cell_is : (i j : ℕ) → (redrawn_on h w hand (rows_drawn_on w reached rows old new to hand) p).cell i j ≡ p3.cell i j =
      λ i j. ap (λ (v : PictureOf StyledCell). v.cell i j) is ∙ a4.cells i j ∙ ap (λ n. p3.cell n j) (let e : i + (t - t) ≡ i = omega arith in e) in
      record {
        kept = kept_both h w hand d1 second a1.leads.kept ∙ kept_both h w d1.hand d2 third a2.leads.kept ∙ kept_both h w d2.hand d3 last a3.leads.kept ∙ a4.kept;
        row = ap (λ (v : PictureOf StyledCell). v.row) is ∙ a4.row;
        col = ap (λ (v : PictureOf StyledCell). v.col) is ∙ a4.col;
        shown = λ i j left. cell_is (s - (s + rows - h) + i) j ∙ elim (cases_lt i rows) [
          | inl above ↦ a3.inside i j (omega arith) (omega (arith, above)) left
          | inr below ↦
              a3.below (s - (s + rows - h) + i) j (omega (arith, below)) ∙ a2.shown i j left ∙ left_blank w (rest_of w rows old new) old i j (old_blank i j below)
              ∙ sym (new_blank i j below)
        ];
        above = λ i j up. cell_is i j ∙ a3.above i j (omega (arith, up)) ∙ a2.above i j up ∙ a1.above i j up;
      }
