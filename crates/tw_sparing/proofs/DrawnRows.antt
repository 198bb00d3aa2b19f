-- Rows that are drawn.
use Rattle.std.proofs.Common.{◌≡◌, ◌<◌, ◌+◌, ◌-◌, ◌&&◌, ℕ, ℤ, pos, negsuc, ◌+ℤ◌, ◌-ℤ◌, Bool, true, false, cond, eqb, min, Some, List, [], ◌∷◌, ◌++◌, ap, subst, ◌∙◌, sym, refl, arith}
use Rattle.std.proofs.lemmas.Bool.{eq-eqb, ne_eqb, eqb-true, and_parts}
use Rattle.std.proofs.lemmas.Int.{ints}
use Rattle.tw_surface.specs.declared.cell.CellAttributes.{CellAttributes}
use Rattle.tw_surface.specs.contracts.cell.CellAttributesPartialEq.TheImpl.{ghosts as attributes}
use Rattle.tw_surface.proofs.EqualityLemmas.{attributes_equal}
use Rattle.tw_surface.specs.ChangeView.{Batch}
use Rattle.tw_surface.specs.ChangeView.{AllAttributes, CursorPosition}
use Rattle.tw_surface.specs.declared.change.Position.TheVariants.{Absolute, Relative}
use Rattle.tw_surface.specs.Positions.{at_least_0}
use Rattle.laws_screens.specs.Strokes.{PictureOf, Stroke, put_in, step, steps_on, scrolled}
use Rattle.laws_screens.proofs.SeenRows.{steps_on-append}
use Rattle.laws_screens.specs.Pens.{strokes_of, change_strokes, kept_after, kept_after_all}
use Rattle.laws_screens.specs.StyledCells.{StyledCell, styled}
use Rattle.laws_screens.proofs.DrawnChanges.{strokes-append, kept-append}
use Rattle.tw_ansi.specs.EcmaBatches.{StaysInRows, AllStayInRows}
use Rattle.tw_sparing.specs.declared.hand.Hand.{Hand}
use Rattle.tw_sparing.specs.Redrawings.{Redrawing, at_ease, redraw_then, led_to, under}

-- a picture whose cursor stands in one of h rows does not scroll
pub unscrolled : {C : Type 0} (h : ℕ) (p : PictureOf C) → p.row < h → ((scrolled (Some h) p).row ≡ p.row) × ((i j : ℕ) → (scrolled (Some h) p).cell i j ≡ p.cell i j)
unscrolled h p low = (omega (arith, low), λ i j. ap (λ k. p.cell k j) (omega (arith, low)))

-- and stands in one of them after any strokes
pub rows_inside : {C : Type 0} (h w : ℕ) (strokes : List (Stroke C)) (p : PictureOf C) → p.row < h → (steps_on (Some h) w strokes p).row < h
rows_inside h w [] p low = low
rows_inside h w (x ∷ strokes) p low = rows_inside h w strokes (scrolled (Some h) (step w x p)) (omega (arith, low))

-- the cursor of a picture stands where the hand is, whose row 0 is row s of the picture
pub record Holds (s : ℕ) (hand : Hand) (p : PictureOf StyledCell) : Type 0 where
  pub row : p.row ≡ s + hand.row
  pub col : p.col ≡ hand.col

-- a relative move from row to row
pub moved_row : (n s from to : ℕ) → n ≡ s + from → at_least_0 (pos n +ℤ (pos to -ℤ pos from)) ≡ s + to
moved_row n s from to at = by_sign (pos n +ℤ (pos to -ℤ pos from)) refl
  where
    by_sign : (z : ℤ) → z ≡ (pos n +ℤ (pos to -ℤ pos from)) → at_least_0 z ≡ s + to
    by_sign (pos k) e = omega (arith, ints, e, at)
    by_sign (negsuc k) e = omega (arith, ints, e, at)

module _ {C : Type 0} (f : ℕ → ℕ → C) (r c : ℕ) (x : C) where
  pub put_there : (j : ℕ) → j ≡ c → put_in f r c x r j ≡ x
  put_there j e = ap (λ b. cond (b && eqb j c) x (f r j)) (eq-eqb r r refl) ∙ ap (λ b. cond b x (f r j)) (eq-eqb j c e)

  pub put_beside : (j : ℕ) → (j ≡ c → ⊥) → put_in f r c x r j ≡ f r j
  put_beside j n = ap (λ b. cond (b && eqb j c) x (f r j)) (eq-eqb r r refl) ∙ ap (λ b. cond b x (f r j)) (ne_eqb j c n)

  pub put_away : (i j : ℕ) → (i ≡ r → ⊥) → put_in f r c x i j ≡ f i j
  put_away i j n = ap (λ b. cond (b && eqb j c) x (f i j)) (ne_eqb i r n)

-- such a move does not lead down out of the rows of the terminal
move_stays : (h s row col from : ℕ) (p : PictureOf StyledCell) → p.row ≡ s + from → s + row < h → StaysInRows h (CursorPosition (Absolute col) (Relative (pos row -ℤ pos from))) p
move_stays h s row col from p at low = by_sign (pos row -ℤ pos from) refl
  where
    by_sign : (z : ℤ) → z ≡ (pos row -ℤ pos from) → StaysInRows h (CursorPosition (Absolute col) (Relative z)) p
    by_sign (pos k) e = omega (arith, ints, e, at, low)
    by_sign (negsuc k) e = tt

-- neither do the moves of two batches
stays_both : (h w : ℕ) (a : CellAttributes) (xs ys : Batch) (p : PictureOf StyledCell) → AllStayInRows styled h w a xs p
    → AllStayInRows styled h w (kept_after_all styled a xs) ys (steps_on (Some h) w (strokes_of styled a xs) p) → AllStayInRows styled h w a (xs ++ ys) p
stays_both h w a [] ys p first second = second
stays_both h w a (x ∷ xs) ys p first second = (
  first.0,
  stays_both h w (kept_after styled a x) xs ys (steps_on (Some h) w (change_strokes styled a x) p) first.1
      (subst (AllStayInRows styled h w (kept_after_all styled (kept_after styled a x) xs) ys) (steps_on-append (Some h) w (change_strokes styled a x) (strokes_of styled (kept_after styled a x) xs) p) second),
)

module _ (h w : ℕ) where
  -- what a redrawing leaves of a picture
  abbrev pub redrawn_on : Hand → Redrawing → PictureOf StyledCell → PictureOf StyledCell
  redrawn_on hand d p = steps_on (Some h) w (strokes_of styled hand.attributes d.changes) p

  -- it leaves the cursor and the attributes where it leaves the hand, and does not go down out of the rows of the
  -- terminal by a move
  pub record Leads (s : ℕ) (hand : Hand) (d : Redrawing) (p : PictureOf StyledCell) : Type 0 where
    pub kept : kept_after_all styled hand.attributes d.changes ≡ d.hand.attributes
    pub holds : Holds s d.hand (redrawn_on hand d p)
    pub stays : AllStayInRows styled h w hand.attributes d.changes p

  pub redrawn_both : (hand : Hand) (d : Redrawing) (more : Hand → Redrawing) (p : PictureOf StyledCell)
      → kept_after_all styled hand.attributes d.changes ≡ d.hand.attributes
      → redrawn_on hand (redraw_then d more) p ≡ redrawn_on d.hand (more d.hand) (redrawn_on hand d p)
  redrawn_both hand d more p kept =
      ap (λ strokes. steps_on (Some h) w strokes p) (strokes-append styled hand.attributes d.changes (more d.hand).changes)
      ∙ steps_on-append (Some h) w (strokes_of styled hand.attributes d.changes) (strokes_of styled (kept_after_all styled hand.attributes d.changes) (more d.hand).changes) p
      ∙ ap (λ a. steps_on (Some h) w (strokes_of styled a (more d.hand).changes) (redrawn_on hand d p)) kept

  pub kept_both : (hand : Hand) (d : Redrawing) (more : Hand → Redrawing)
      → kept_after_all styled hand.attributes d.changes ≡ d.hand.attributes
      → kept_after_all styled hand.attributes (redraw_then d more).changes ≡ kept_after_all styled d.hand.attributes (more d.hand).changes
  kept_both hand d more kept = kept-append styled hand.attributes d.changes (more d.hand).changes ∙ ap (λ a. kept_after_all styled a (more d.hand).changes) kept

  -- where the rows of the picture may go up meanwhile
  pub leads_then : (r s : ℕ) (hand : Hand) (d : Redrawing) (more : Hand → Redrawing) (p : PictureOf StyledCell)
      → Leads r hand d p → Leads s d.hand (more d.hand) (redrawn_on hand d p) → Leads s hand (redraw_then d more) p
  leads_then r s hand d more p a b =
      let is = redrawn_both hand d more p a.kept in
      record {
        kept = kept_both hand d more a.kept ∙ b.kept;
        holds = record {
          row = ap (λ (q : PictureOf StyledCell). q.row) is ∙ b.holds.row;
          col = ap (λ (q : PictureOf StyledCell). q.col) is ∙ b.holds.col;
        };
        stays = stays_both h w hand.attributes d.changes (more d.hand).changes p a.stays
            (subst (λ kept. AllStayInRows styled h w kept (more d.hand).changes (redrawn_on hand d p)) (sym a.kept) b.stays);
      }

  pub leads_both : (s : ℕ) (hand : Hand) (d : Redrawing) (more : Hand → Redrawing) (p : PictureOf StyledCell)
      → Leads s hand d p → Leads s d.hand (more d.hand) (redrawn_on hand d p) → Leads s hand (redraw_then d more) p
  leads_both s hand d more p a b = leads_then s s hand d more p a b

  pub leads_ease : (s : ℕ) (hand : Hand) (p : PictureOf StyledCell) → Holds s hand p → Leads s hand (at_ease hand) p
  leads_ease s hand p holds = record { kept = refl; holds = holds; stays = tt }

  -- ---- moves

  -- a move to a cell changes no other
  pub record Gone (s r c : ℕ) (hand : Hand) (d : Redrawing) (p : PictureOf StyledCell) : Type 0 where
    pub leads : Leads s hand d p
    pub row : d.hand.row ≡ r
    pub col : d.hand.col ≡ c
    pub attributes : d.hand.attributes ≡ hand.attributes
    pub cells : (i j : ℕ) → (redrawn_on hand d p).cell i j ≡ p.cell i j

  gone_cases : (s row col : ℕ) (hand : Hand) (p : PictureOf StyledCell) → s + row < h → col < w → Holds s hand p
      → (b : Bool) → (eqb hand.row row && eqb hand.col col) ≡ b
      → Gone s row col hand (cond b (at_ease hand) (record { changes = CursorPosition (Absolute col) (Relative (pos row -ℤ pos hand.row)) ∷ []; hand = record hand { row = row; col = col } })) p
  gone_cases s row col hand p low left holds true is =
      let both = and_parts _ _ is in
      record {
        leads = leads_ease s hand p holds;
        row = eqb-true hand.row row both.0;
        col = eqb-true hand.col col both.1;
        attributes = refl;
        cells = λ i j. refl;
      }
  gone_cases s row col hand p low left holds false is =
      let there = moved_row p.row s hand.row row holds.row in
      let q : PictureOf StyledCell = record p { row = at_least_0 (pos p.row +ℤ (pos row -ℤ pos hand.row)); col = min (w - 1) col } in
      let still = unscrolled h q (omega (arith, there, low)) in
      record {
        leads = record {
          kept = refl;
          holds = record { row = still.0 ∙ there; col = omega (arith, left) };
          stays = (move_stays h s row col hand.row p holds.row low, tt);
        };
        row = refl;
        col = refl;
        attributes = refl;
        cells = still.1;
      }

  pub gone : (s row col : ℕ) (hand : Hand) (p : PictureOf StyledCell) → s + row < h → col < w → Holds s hand p → Gone s row col hand (led_to row col hand) p
  gone s row col hand p low left holds = gone_cases s row col hand p low left holds (eqb hand.row row && eqb hand.col col) refl

  -- ---- attributes

  pub record Under (s : ℕ) (to : CellAttributes) (hand : Hand) (d : Redrawing) (p : PictureOf StyledCell) : Type 0 where
    pub leads : Leads s hand d p
    pub row : d.hand.row ≡ hand.row
    pub col : d.hand.col ≡ hand.col
    pub attributes : d.hand.attributes ≡ to
    pub same : redrawn_on hand d p ≡ p

  under_cases : (s : ℕ) (to : CellAttributes) (hand : Hand) (p : PictureOf StyledCell) → Holds s hand p
      → (b : Bool) → attributes.eq hand.attributes to ≡ b
      → Under s to hand (cond b (at_ease hand) (record { changes = AllAttributes to ∷ []; hand = record hand { attributes = to } })) p
  under_cases s to hand p holds true is = record {
    leads = leads_ease s hand p holds;
    row = refl;
    col = refl;
    attributes = (attributes_equal hand.attributes to).0 is;
    same = refl;
  }
  under_cases s to hand p holds false is = record {
    leads = record { kept = refl; holds = record { row = holds.row; col = holds.col }; stays = (tt, tt) };
    row = refl;
    col = refl;
    attributes = refl;
    same = refl;
  }

  pub is_under : (s : ℕ) (to : CellAttributes) (hand : Hand) (p : PictureOf StyledCell) → Holds s hand p → Under s to hand (under to hand) p
  is_under s to hand p holds = under_cases s to hand p holds (attributes.eq hand.attributes to) refl

  -- ---- cells

  -- the picture with a cell at its cursor, which goes on
  abbrev pub put_here : StyledCell → PictureOf StyledCell → PictureOf StyledCell
  put_here x p = record { cell = put_in p.cell p.row p.col x; row = p.row; col = p.col + 1 }
