-- What is known of a terminal and what the terminal shows are parts of one picture without a bottom, and stay so while
-- changes are played.
use Rattle.std.proofs.Common.{◌≡◌, ◌<◌, ◌≤◌, ◌+◌, ◌-◌, ◌&&◌, ◌||◌, ℕ, ℤ, pos, negsuc, ◌+ℤ◌, max, min, Bool, true, false, cond, eqb, ltb, leb, None, Some, List, inl, inr, ap, subst, ◌∙◌, sym, refl, arith}
use Rattle.std.specs.List.{list_all}
use Rattle.std.proofs.lemmas.Bool.{ne_eqb, le-ltb}
use Rattle.std.proofs.lemmas.Int.{ints}
use Rattle.tw_surface.specs.declared.change.Position.TheVariants.{Relative}
use Rattle.laws_screens.specs.Strokes.{PictureOf, Stroke, cleared_in, step, steps, steps_on, scrolled}
use Rattle.laws_screens.specs.Strokes.Stroke.{Move}
use Rattle.laws_screens.proofs.SeenRows.{Sees, is_typing, sees-typing, sees-clear, sees-still, sees-scrolled}
use Rattle.laws_screens.specs.Pens.{led}
use Rattle.laws_screens.specs.StyledCells.{StyledCell}
use Rattle.tw_sparing.specs.StyledScreens.{ShowsStyled}
use Rattle.tw_sparing.specs.Differences.{blank_cell}
use Rattle.tw_sparing.specs.declared.shown.Shown.{Shown}
use Rattle.tw_sparing.proofs.TypedPictures.{typing_keeps, steps_on-none}

-- where the terminal's picture begins in the whole one, whose row s is the first one of what is known
abbrev pub seen_row : ℕ → ℕ → Shown → ℕ
seen_row h s shown = s + shown.reached - h

-- The whole picture shows what is known from row s on, and from another row on what the terminal shows. Above row s it
-- is as at first, and below what was reached it is blank.
pub record IsSpanned (h w s : ℕ) (first : PictureOf StyledCell) (shown : Shown) (p : PictureOf StyledCell) : Type 0 where
  pub part : PictureOf StyledCell
  pub whole : PictureOf StyledCell
  pub width : shown.screen.width ≡ w
  pub screen : ShowsStyled shown.screen part
  pub known : Sees s part whole
  pub seen : Sees (seen_row h s shown) p whole
  pub inside : p.row < h
  pub low : part.row < shown.reached
  pub blank : (i j : ℕ) → shown.reached ≤ i → j < w → part.cell i j ≡ blank_cell
  pub bottom : (i j : ℕ) → seen_row h s shown + h ≤ i → whole.cell i j ≡ blank_cell
  pub above : (i j : ℕ) → i < s → whole.cell i j ≡ first.cell i j

either_blank : (b : Bool) (x : StyledCell) → x ≡ blank_cell → cond b blank_cell x ≡ blank_cell
either_blank true x e = refl
either_blank false x e = e

cleared_blank : (f : ℕ → ℕ → StyledCell) (r c i j : ℕ) → f i j ≡ blank_cell → cleared_in f r c blank_cell i j ≡ blank_cell
cleared_blank f r c i j e = either_blank (ltb r i || (eqb r i && leb c j)) (f i j) e

cleared_above : (f : ℕ → ℕ → StyledCell) (r c i j : ℕ) (x : StyledCell) → i < r → cleared_in f r c x i j ≡ f i j
cleared_above f r c i j x up =
    ap (λ b. cond (b || (eqb r i && leb c j)) x (f i j)) (le-ltb r i (omega (arith, up)))
    ∙ ap (λ b. cond (b && leb c j) x (f i j)) (ne_eqb r i (λ e. omega (arith, e, up)))

-- where a move up leads
pub led_up : (k n : ℕ) → k < n → led (Relative (negsuc k)) n ≡ n - (k + 1)
led_up k n less = by_sign (pos n +ℤ negsuc k) refl
  where
    by_sign : (z : ℤ) → z ≡ (pos n +ℤ negsuc k) → (elim z [ pos m ↦ m | negsuc m ↦ 0 ]) ≡ n - (k + 1)
    by_sign (pos m) e = omega (arith, ints, e, less)
    by_sign (negsuc m) e = omega (arith, ints, e, less)

module _ (h w s : ℕ) (first : PictureOf StyledCell) where
  -- ---- one change

  module _ (old new : Shown) (p : PictureOf StyledCell) (a : IsSpanned h w s first old p) (reached : new.reached ≡ max old.reached (new.screen.row + 1)) (same : new.screen.width ≡ old.screen.width) where
    pub typing_spans : (strokes : List (Stroke StyledCell)) → list_all is_typing strokes ≡ true → ShowsStyled new.screen (steps w strokes a.part)
        → IsSpanned h w s first new (steps_on (Some h) w strokes p)
    typing_spans strokes types shows =
        let part = typing_keeps w strokes a.part types in
        let whole = typing_keeps w strokes a.whole types in
        let v : PictureOf StyledCell = steps w strokes a.part in
        let u : PictureOf StyledCell = steps w strokes a.whole in
        let q : PictureOf StyledCell = steps_on (Some h) w strokes p in
        let known0 = sees-typing None w strokes s a.part a.whole types tt a.known in
        let known : Sees s v u =
        subst (λ (x : PictureOf StyledCell). Sees s x u) (steps_on-none w strokes a.part)
        (subst (λ n. Sees n (steps_on None w strokes a.part) u) (omega arith) known0) in
        let row : v.row ≡ new.screen.row = shows.row in
        let at : u.row ≡ v.row + s = known.row in
        let seen0 = sees-typing (Some h) w strokes (seen_row h s old) p a.whole types a.inside a.seen in
        let seen : Sees (seen_row h s new) q u = subst (λ n. Sees n q u) (omega (arith, reached, row, at)) seen0 in
        let here : u.row ≡ q.row + seen_row h s new = seen.row in
        let inside : p.row < h = a.inside in
        record {
          part = v;
          whole = u;
          width = same ∙ a.width;
          screen = shows;
          known = known;
          seen = seen;
          inside = omega (arith, here, at, reached, row, inside);
          low = omega (arith, reached, row);
          blank = λ i j far left. part.cell i j (inr (omega (arith, far, reached, row))) ∙ a.blank i j (omega (arith, far, reached)) left;
          bottom = λ i j far. whole.cell i j (inr (omega (arith, far, at, reached, row))) ∙ a.bottom i j (omega (arith, far, reached));
          above = λ i j up. whole.cell i j (inl (omega (arith, up, a.known.row))) ∙ a.above i j up;
        }

    pub still_spans : ShowsStyled new.screen a.part → IsSpanned h w s first new p
    still_spans shows =
        let row : a.part.row ≡ new.screen.row = shows.row in
        let low : a.part.row < old.reached = a.low in
        let is : new.reached ≡ old.reached = omega (arith, reached, row, low) in
        record {
          part = a.part;
          whole = a.whole;
          width = same ∙ a.width;
          screen = shows;
          known = a.known;
          seen = subst (λ n. Sees (s + n - h) p a.whole) (sym is) a.seen;
          inside = a.inside;
          low = omega (arith, low, is);
          blank = λ i j far left. a.blank i j (omega (arith, far, is)) left;
          bottom = λ i j far. a.bottom i j (omega (arith, far, is));
          above = a.above;
        }

    pub clear_spans : ShowsStyled new.screen (record a.part { cell = cleared_in a.part.cell a.part.row a.part.col blank_cell })
        → IsSpanned h w s first new (scrolled (Some h) (record p { cell = cleared_in p.cell p.row p.col blank_cell }))
    clear_spans shows =
        let row : a.part.row ≡ new.screen.row = shows.row in
        let low : a.part.row < old.reached = a.low in
        let is : new.reached ≡ old.reached = omega (arith, reached, row, low) in
        let inside : p.row < h = a.inside in
        record {
          part = record a.part { cell = cleared_in a.part.cell a.part.row a.part.col blank_cell };
          whole = record a.whole { cell = cleared_in a.whole.cell a.whole.row a.whole.col blank_cell };
          width = same ∙ a.width;
          screen = shows;
          known = sees-clear s blank_cell a.part a.whole a.known;
          seen = subst (λ n. Sees (s + n - h) (scrolled (Some h) (record p { cell = cleared_in p.cell p.row p.col blank_cell })) (record a.whole { cell = cleared_in a.whole.cell a.whole.row a.whole.col blank_cell })) (sym is)
              (sees-still (Some h) (seen_row h s old) (record p { cell = cleared_in p.cell p.row p.col blank_cell }) (record a.whole { cell = cleared_in a.whole.cell a.whole.row a.whole.col blank_cell }) a.inside
              (sees-clear (seen_row h s old) blank_cell p a.whole a.seen));
          inside = omega (arith, inside);
          low = omega (arith, low, is);
          blank = λ i j far left. cleared_blank a.part.cell a.part.row a.part.col i j (a.blank i j (omega (arith, far, is)) left);
          bottom = λ i j far. cleared_blank a.whole.cell a.whole.row a.whole.col i j (a.bottom i j (omega (arith, far, is)));
          above = λ i j up. cleared_above a.whole.cell a.whole.row a.whole.col i j blank_cell (omega (arith, up, a.known.row)) ∙ a.above i j up;
        }

    -- the three cursors move alike
    pub move_spans : (row col : ℕ → ℕ) → row a.whole.row ≡ row a.part.row + s → row a.whole.row ≡ row p.row + seen_row h s old
        → ShowsStyled new.screen (step w (Move row col) a.part) → IsSpanned h w s first new (scrolled (Some h) (step w (Move row col) p))
    move_spans row col part_row seen_at shows =
        let at : row a.part.row ≡ new.screen.row = shows.row in
        let inside : p.row < h = a.inside in
        let moved : PictureOf StyledCell = step w (Move row col) p in
        let whole : PictureOf StyledCell = step w (Move row col) a.whole in
        let there : Sees (seen_row h s old) moved whole = record {
          row = seen_at;
          col = ap (λ n. min (w - 1) (col n)) a.seen.col;
          cell = a.seen.cell;
        } in
        record {
          part = step w (Move row col) a.part;
          whole = whole;
          width = same ∙ a.width;
          screen = shows;
          known = record { row = part_row; col = ap (λ n. min (w - 1) (col n)) a.known.col; cell = a.known.cell };
          seen = subst (λ n. Sees n (scrolled (Some h) moved) whole) (omega (arith, seen_at, part_row, at, reached)) (sees-scrolled (Some h) (seen_row h s old) moved whole p.row inside there);
          inside = omega (arith, inside);
          low = omega (arith, at, reached);
          blank = λ i j far left. a.blank i j (omega (arith, far, reached)) left;
          bottom = λ i j far. a.bottom i j (omega (arith, far, reached));
          above = a.above;
        }
