-- A terminal that is sent a move shows the picture on which it was drawn.
use Rattle.std.proofs.Common.{Some, ◌≡◌, ◌≤◌, ◌<◌, ◌+◌, ◌-◌, ◌^◌, ℕ, ℤ, zero, suc, pos, negsuc, ◌+ℤ◌, Bool, true, false, not, ◌&&◌, cond, eqb, ltb, min, replicate, List, ◌++◌, codes, ap, subst, ◌∙◌, sym, refl, arith}
use Rattle.std.specs.Fmt.{decimal}
use Rattle.std.proofs.lemmas.Bool.{ne_eqb, ltb-true}
use Rattle.std.proofs.lemmas.Int.{ints}
use Rattle.tw_surface.specs.declared.cell.CellAttributes.{CellAttributes}
use Rattle.tw_surface.specs.declared.change.Position.{Position}
use Rattle.tw_surface.specs.declared.change.Position.TheVariants.{Absolute, Relative}
use Rattle.laws_screens.specs.Strokes.{PictureOf, scrolled, steps_on}
use Rattle.tw_surface.specs.ChangeView.{CursorPosition}
use Rattle.tw_surface.specs.Positions.{position_after, at_least_0}
use Rattle.laws_screens.specs.Pens.{Pen, change_strokes}
use Rattle.laws_screens.specs.Screens.{blank_of}
use Rattle.tw_ansi.specs.declared.encode.Encoder.{Encoder}
use Rattle.tw_ansi.specs.Encoding.{sent_change, terse_change, at_column, column_of}
use Rattle.tw_ansi.specs.Sequences.{to_column, to_row, along_column, along_row, up_a_row, sequence, most_rows}
use Rattle.tw_ansi.specs.EcmaScreen.{EcmaScreen, receive, receive_all, receive_by, feed_line, told_steps}
use Rattle.tw_ansi.specs.EcmaScreen as terminal
use Rattle.tw_ansi.specs.EcmaLaws.{at_rest}
use Rattle.tw_ansi.specs.EcmaTexts.{IsOfRows, ShowsPicture}
use Rattle.tw_ansi.specs.EcmaBatches.{IsReached, StaysInRows}
use Rattle.tw_ansi.proofs.EcmaSequences.{received, columns_are_reached, along_rows_are_reached, rows_above_are_reached, rows_below_are_reached, feeds_low, numbered, steps_taken}
use Rattle.tw_ansi.proofs.EcmaScrolls.{Fed, fed}

-- the terminal shows the rows of a picture, wherever the cursor stands in its row, and these attributes are selected
pub record Rows {A C : Type 0} (pen : Pen A C) (to : CellAttributes) (h w : ℕ) (t : EcmaScreen C) (s : PictureOf C) : Type 0 where
  pub within : IsOfRows (blank_of pen) h s
  pub cells : (r c : ℕ) → r < h → c < w → t.cell r c ≡ s.cell r c
  pub row : t.row ≡ s.row
  pub reading : t.reading ≡ terminal.Text
  pub rendition : t.rendition ≡ to

-- the cursor stands in this column, and does not wait
pub record Stands {C : Type 0} (at : ℕ) (u : EcmaScreen C) : Type 0 where
  pub col : u.col ≡ at
  pub waits : u.waits ≡ false
  pub reading : u.reading ≡ terminal.Text

rows_up : (m n : ℕ) → m - (n + 1) ≡ at_least_0 (pos m +ℤ negsuc n)
rows_up m n = by_sign (pos m +ℤ negsuc n) refl
  where
    by_sign : (z : ℤ) → z ≡ (pos m +ℤ negsuc n) → m - (n + 1) ≡ at_least_0 z
    by_sign (pos k) e = omega (arith, ints, e)
    by_sign (negsuc k) e = omega (arith, ints, e)

-- the picture with its cursor so many rows below
abbrev lowered : {C : Type 0} → ℕ → PictureOf C → PictureOf C
lowered n s = record s { row = s.row + n }

low_within : {C : Type 0} (blank : C) (h n : ℕ) (s : PictureOf C) → IsOfRows blank h s → IsOfRows blank h (scrolled (Some h) (lowered n s))
low_within blank h n s within = record {
  row = omega (arith, within.row);
  below = λ r c low. within.below (r + (s.row + n + 1 - h)) c (omega (arith, low));
}

module _ {A C : Type 0} (pen : Pen A C) (to : CellAttributes) where
  -- one row first, and then the others
  after_one : (h w n : ℕ) (u : EcmaScreen C) (s : PictureOf C) → IsOfRows (blank_of pen) h s → Rows pen to h w u (scrolled (Some h) (lowered n (scrolled (Some h) (lowered 1 s)))) → Rows pen to h w u (scrolled (Some h) (lowered (suc n) s))
  after_one h w n u s within a =
      let inside : s.row < h = within.row in
      record {
        within = low_within (blank_of pen) h (suc n) s within;
        cells = λ r c low left. a.cells r c low left ∙ ap (λ i. s.cell i c) (omega (arith, inside));
        row = a.row ∙ omega (arith, inside);
        reading = a.reading;
        rendition = a.rendition;
      }

  -- a picture that does not scroll
  stays : (h w : ℕ) (u : EcmaScreen C) (s : PictureOf C) → Rows pen to h w u s → Rows pen to h w u (scrolled (Some h) s)
  stays h w u s a =
      let inside : s.row < h = a.within.row in
      record {
        within = record { row = omega (arith, inside); below = λ r c low. a.within.below (r + (s.row + 1 - h)) c (omega (arith, low)) };
        cells = λ r c low left. a.cells r c low left ∙ ap (λ i. s.cell i c) (omega (arith, inside));
        row = a.row ∙ omega (arith, inside);
        reading = a.reading;
        rendition = a.rendition;
      }

  -- so many line feeds
  pub feeds_down : (h w n : ℕ) (t : EcmaScreen C) (s : PictureOf C) → Rows pen to h w t s → Rows pen to h w (receive_all pen h w (replicate n 10) t) (scrolled (Some h) (lowered n s))
  feeds_down h w zero t s a =
      let inside : s.row < h = a.within.row in
      record {
        within = low_within (blank_of pen) h 0 s a.within;
        cells = λ r c low left. a.cells r c low left ∙ ap (λ i. s.cell i c) (omega (arith, inside));
        row = a.row ∙ omega (arith, inside);
        reading = a.reading;
        rendition = a.rendition;
      }
  feeds_down h w (suc n) t s a =
      let f : Fed h w t (feed_line (blank_of pen) h t) s = fed (blank_of pen) h w t s a.within a.row a.cells in
      let is : receive pen h w 10 t ≡ feed_line (blank_of pen) h t = ap (λ r. receive_by pen h w r 10 t) a.reading in
      let one : Rows pen to h w (feed_line (blank_of pen) h t) (scrolled (Some h) (lowered 1 s)) = record {
        within = low_within (blank_of pen) h 1 s a.within;
        cells = f.cells;
        row = f.row;
        reading = f.reading ∙ a.reading;
        rendition = f.rendition ∙ a.rendition;
      } in
      let first : Rows pen to h w (receive pen h w 10 t) (scrolled (Some h) (lowered 1 s)) = subst (λ u. Rows pen to h w u (scrolled (Some h) (lowered 1 s))) (sym is) one in
      after_one h w n _ s a.within (feeds_down h w n (receive pen h w 10 t) (scrolled (Some h) (lowered 1 s)) first)

module _ {A C : Type 0} (pen : Pen A C) where
  -- in a column of the row
  column_held : (h w col : ℕ) (e : Encoder) (u : EcmaScreen C) (s : PictureOf C) → col < w → e.cols ≡ w → Rows pen e.attributes h w u s
      → ShowsPicture pen h w (at_column col e) (record u { col = col; waits = false; reading = terminal.Text }) (record s { col = col })
  column_held h w col e u s inside cols a = record {
    within = record { row = a.within.row; below = a.within.below };
    edge = omega (arith, inside);
    cells = a.cells;
    row = a.row;
    col = omega (arith, inside);
    waits = ap (λ x. x && true) (sym (ne_eqb col w (λ q. omega (arith, q, inside))));
    parted = λ x. absurd (cc x);
    reading = refl;
    rendition = a.rendition;
    cols = cols;
    x = refl;
  }

  -- to a column of the row
  pub column_shown : (h w col : ℕ) (e : Encoder) (u : EcmaScreen C) (s : PictureOf C) → col < w → w < 2 ^ 64 → e.cols ≡ w → Rows pen e.attributes h w u s
      → ShowsPicture pen h w (at_column col e) (receive_all pen h w (to_column col) u) (record s { col = col })
  column_shown h w col e u s inside small cols a =
      let rest : u ≡ record u { reading = terminal.Text } = ap (λ r. record u { reading = r }) a.reading in
      let is : receive_all pen h w (to_column col) u ≡ record u { col = col; waits = false; reading = terminal.Text } =
      ap (λ x. receive_all pen h w (to_column col) x) rest ∙ columns_are_reached pen h w col u inside (omega (arith, small, inside)) in
      subst (λ v. ShowsPicture pen h w (at_column col e) v (record s { col = col })) (sym is) (column_held h w col e u s inside cols a)

  -- from the column of the cursor, which does not wait, to another one of the row
  pub along_shown : (h w from col : ℕ) (e : Encoder) (u : EcmaScreen C) (s : PictureOf C) → from < w → col < w → w < 2 ^ 64 → e.cols ≡ w → Rows pen e.attributes h w u s → Stands from u
      → ShowsPicture pen h w (at_column col e) (receive_all pen h w (along_row from col) u) (record s { col = col })
  along_shown h w from col e u s left inside small cols a stands =
      let rest : u ≡ record u { waits = false; reading = terminal.Text } = ap (λ r. record u { reading = r }) a.reading ∙ ap (λ b. record u { waits = b; reading = terminal.Text }) stands.waits in
      let is : receive_all pen h w (along_row from col) u ≡ record u { col = col; waits = false; reading = terminal.Text } =
      ap (λ x. receive_all pen h w (along_row from col) x) rest
      ∙ ap (λ c. receive_all pen h w (along_row c col) (record u { waits = false; reading = terminal.Text })) (sym stands.col)
      ∙ along_rows_are_reached pen h w col u (omega (arith, stands.col, left)) inside small in
      subst (λ v. ShowsPicture pen h w (at_column col e) v (record s { col = col })) (sym is) (column_held h w col e u s inside cols a)

  -- up by some rows
  up_is : (h w n : ℕ) (t : EcmaScreen C) → n < most_rows → t.reading ≡ terminal.Text
      → receive_all pen h w (to_row (Relative (negsuc n))) t ≡ record t { row = t.row - (n + 1); waits = false; reading = terminal.Text }
  up_is h w n t reached reading =
      ap (λ x. receive_all pen h w (to_row (Relative (negsuc n))) x) (let rest : t ≡ record t { reading = terminal.Text } = ap (λ r. record t { reading = r }) reading in rest)
      ∙ rows_above_are_reached pen h w n t reached

  -- to a row by its number
  line_is : (h w row : ℕ) (t : EcmaScreen C) → row < h → row ≤ most_rows → t.reading ≡ terminal.Text
      → receive_all pen h w (to_row (Absolute row)) t ≡ record t { row = row; waits = false; reading = terminal.Text }
  line_is h w row t inside low reading =
      let rest : t ≡ record t { reading = terminal.Text } = ap (λ r. record t { reading = r }) reading in
      let number : min row most_rows + 1 ≡ row + 1 = omega (arith, low) in
      let steps_is = steps_taken (row + 1) (omega arith) in
      let line : min (h - 1) (told_steps (row + 1) - 1) ≡ row = omega (arith, steps_is, inside) in
      ap (λ x. receive_all pen h w (to_row (Absolute row)) x) rest
      ∙ ap (λ k. receive_all pen h w (sequence (decimal k) (codes "d")) (at_rest t)) number
      ∙ numbered pen h w (row + 1) 100 t (omega (arith, low)) refl refl
      ∙ ap (λ k. record t { row = k; waits = false; reading = terminal.Text }) line

  -- line feeds leave the column
  feeds_stand : (h w n col : ℕ) (t : EcmaScreen C) → Stands col t → Stands col (receive_all pen h w (replicate n 10) t)
  feeds_stand h w zero col t a = a
  feeds_stand h w (suc n) col t a =
      let is : receive pen h w 10 t ≡ feed_line (blank_of pen) h t = ap (λ r. receive_by pen h w r 10 t) a.reading in
      feeds_stand h w n col (receive pen h w 10 t) (subst (Stands col) (sym is) (by_last (eqb (t.row + 1) h)))
    where
      by_last : (b : Bool) → Stands col (cond b (record t { cell = λ r c. cond (ltb (r + 1) h) (t.cell (r + 1) c) (blank_of pen); waits = false }) (record t { row = t.row + 1; waits = false }))
      by_last true = record { col = a.col; waits = refl; reading = a.reading }
      by_last false = record { col = a.col; waits = refl; reading = a.reading }

  -- what leads to a row leaves the column
  row_stands : (h w : ℕ) (y : Position) (col : ℕ) (t : EcmaScreen C) → IsReached h y → Stands col t → Stands col (receive_all pen h w (to_row y) t)
  row_stands h w (Relative (pos n)) col t reached a = feeds_stand h w (min n most_rows) col t a
  row_stands h w (Relative (negsuc n)) col t reached a = subst (Stands col) (sym (up_is h w n t reached a.reading)) (record { col = a.col; waits = refl; reading = refl })
  row_stands h w (Absolute row) col t reached a = subst (Stands col) (sym (line_is h w row t reached.0 reached.1 a.reading)) (record { col = a.col; waits = refl; reading = refl })

  -- down by few bytes, to a row of the terminal
  same_below : (h w n : ℕ) (t : EcmaScreen C) → n ≤ most_rows → t.row + n < h → t.reading ≡ terminal.Text
      → receive_all pen h w (along_column (Relative (pos n))) t ≡ receive_all pen h w (to_row (Relative (pos n))) t
  same_below h w zero t reached low reading = refl
  same_below h w (suc n) t reached low reading =
      let rest : t ≡ at_rest t = ap (λ r. record t { reading = r }) reading in
      ap (receive_all pen h w (along_column (Relative (pos (suc n))))) rest
      ∙ rows_below_are_reached pen h w (suc n) t (omega arith) reached low
      ∙ sym (feeds_low pen h w n t low)
      ∙ sym (ap (receive_all pen h w (replicate (suc n) 10)) rest)
      ∙ sym (ap (λ k. receive_all pen h w (replicate k 10) t) (let e : min (suc n) most_rows ≡ suc n = omega (arith, reached) in e))

  -- the shorter bytes do the same, where they do not lead down out of the rows
  same_row : (h w : ℕ) (x y : Position) (t : EcmaScreen C) (s : PictureOf C) → IsReached h y → StaysInRows h (CursorPosition x y) s → t.row ≡ s.row → t.reading ≡ terminal.Text
      → receive_all pen h w (along_column y) t ≡ receive_all pen h w (to_row y) t
  same_row h w x (Relative (negsuc zero)) t s reached stays row reading =
      ap (λ x. receive_all pen h w up_a_row x) (let rest : t ≡ record t { reading = terminal.Text } = ap (λ r. record t { reading = r }) reading in rest)
      ∙ sym (up_is h w 0 t reached reading)
  same_row h w x (Relative (negsuc (suc n))) t s reached stays row reading = refl
  same_row h w x (Relative (pos n)) t s reached stays row reading = same_below h w n t reached (omega (arith, stays, row)) reading
  same_row h w x (Absolute row) t s reached stays at reading = refl

  -- the terminal after the bytes that lead to a row
  row_shown : (h w : ℕ) (y : Position) (e : Encoder) (t : EcmaScreen C) (s : PictureOf C) → IsReached h y → ShowsPicture pen h w e t s
      → Rows pen e.attributes h w (receive_all pen h w (to_row y) t) (scrolled (Some h) (record s { row = at_least_0 (position_after y (pos s.row)) }))
  row_shown h w (Relative (pos n)) e t s reached a =
      let rows : Rows pen e.attributes h w t s = record { within = a.within; cells = a.cells; row = a.row; reading = a.reading; rendition = a.rendition } in
      let all : min n most_rows ≡ n = omega (arith, reached) in
      subst (λ k. Rows pen e.attributes h w (receive_all pen h w (replicate k 10) t) (scrolled (Some h) (lowered n s))) (sym all) (feeds_down pen e.attributes h w n t s rows)
  row_shown h w (Relative (negsuc n)) e t s reached a =
      let up : EcmaScreen C = record t { row = t.row - (n + 1); waits = false; reading = terminal.Text } in
      let there : s.row - (n + 1) ≡ at_least_0 (pos s.row +ℤ negsuc n) = rows_up s.row n in
      subst (λ u. Rows pen e.attributes h w u (scrolled (Some h) (record s { row = at_least_0 (pos s.row +ℤ negsuc n) }))) (sym (up_is h w n t reached a.reading))
      (subst (λ k. Rows pen e.attributes h w up (scrolled (Some h) (record s { row = k }))) there
      (stays pen e.attributes h w up (record s { row = s.row - (n + 1) }) (record {
        within = record { row = omega (arith, a.within.row); below = a.within.below };
        cells = a.cells;
        row = ap (λ k. k - (n + 1)) a.row;
        reading = refl;
        rendition = a.rendition;
      })))
  row_shown h w (Absolute row) e t s reached a =
      subst (λ u. Rows pen e.attributes h w u (scrolled (Some h) (record s { row = row }))) (sym (line_is h w row t reached.0 reached.1 a.reading))
      (stays pen e.attributes h w (record t { row = row; waits = false; reading = terminal.Text }) (record s { row = row }) (record {
        within = record { row = reached.0; below = a.within.below };
        cells = a.cells;
        row = refl;
        reading = refl;
        rendition = a.rendition;
      }))

  module _ (h w : ℕ) (x y : Position) (e : Encoder) (t : EcmaScreen C) (s : PictureOf C) (some : 0 < w) (small : w < 2 ^ 64) (reached : IsReached h y) (a : ShowsPicture pen h w e t s) where
    abbrev lower : PictureOf C
    lower = scrolled (Some h) (record s { row = at_least_0 (position_after y (pos s.row)) })

    moved_col : column_of x e ≡ min (w - 1) (at_least_0 (position_after x (pos s.col)))
    moved_col = ap (λ n. min (n - 1) (at_least_0 (position_after x (pos e.x)))) a.cols ∙ ap (λ n. min (w - 1) (at_least_0 (position_after x (pos n)))) a.x

    -- bytes that lead to the row and to the column
    abbrev AreMoves : List ℕ → Type 0
    AreMoves bytes = ShowsPicture pen h w (at_column (column_of x e) e) (receive_all pen h w bytes t) (steps_on (Some h) w (change_strokes pen (pen.attributes e.attributes) (CursorPosition x y)) s)

    -- first to the row, and then to the column
    both : (first second : List ℕ) → ShowsPicture pen h w (at_column (column_of x e) e) (receive_all pen h w second (receive_all pen h w first t)) (record lower { col = column_of x e })
        → AreMoves (first ++ second)
    both first second shown =
        subst (λ v. ShowsPicture pen h w (at_column (column_of x e) e) v (steps_on (Some h) w (change_strokes pen (pen.attributes e.attributes) (CursorPosition x y)) s)) (sym (received pen h w first second t))
        (subst (λ c. ShowsPicture pen h w (at_column (column_of x e) e) (receive_all pen h w second (receive_all pen h w first t)) (record lower { col = c })) moved_col shown)

    start_shown : ShowsPicture pen h w (at_column (column_of x e) e) (receive_all pen h w (to_column (column_of x e)) (receive_all pen h w (to_row y) t)) (record lower { col = column_of x e })
    start_shown = column_shown h w (column_of x e) e (receive_all pen h w (to_row y) t) lower (omega (arith, moved_col, some)) small a.cols (row_shown h w y e t s reached a)

    pub from_start : AreMoves (to_row y ++ to_column (column_of x e))
    from_start = both (to_row y) (to_column (column_of x e)) start_shown

    module _ (stays : StaysInRows h (CursorPosition x y) s) where
      -- to the row by few bytes, and then to the column
      tersely : (second : List ℕ) → ShowsPicture pen h w (at_column (column_of x e) e) (receive_all pen h w second (receive_all pen h w (to_row y) t)) (record lower { col = column_of x e })
          → AreMoves (along_column y ++ second)
      tersely second shown =
          both (along_column y) second
          (subst (λ u. ShowsPicture pen h w (at_column (column_of x e) e) (receive_all pen h w second u) (record lower { col = column_of x e }))
          (sym (same_row h w x y t s reached stays a.row a.reading)) shown)

      pub tersely_from_start : AreMoves (along_column y ++ to_column (column_of x e))
      tersely_from_start = tersely (to_column (column_of x e)) start_shown

      pub from_cursor : e.x < e.cols → AreMoves (along_column y ++ along_row e.x (column_of x e))
      from_cursor inside =
          let left : e.x < w = omega (arith, inside, a.cols) in
          let waits : t.waits ≡ false = a.waits ∙ ap (λ b. b && not e.parted) (ne_eqb s.col w (λ q. omega (arith, q, a.x, left))) in
          let stands : Stands e.x t = record { col = omega (arith, a.col, a.x, left); waits = waits; reading = a.reading } in
          tersely (along_row e.x (column_of x e))
          (along_shown h w e.x (column_of x e) e (receive_all pen h w (to_row y) t) lower left (omega (arith, moved_col, some)) small a.cols (row_shown h w y e t s reached a)
          (row_stands h w y e.x t reached stands))

  pub move_shown : (h w : ℕ) (x y : Position) (e : Encoder) (t : EcmaScreen C) (s : PictureOf C) → 0 < w → w < 2 ^ 64 → IsReached h y → ShowsPicture pen h w e t s
      → ShowsPicture pen h w (sent_change (CursorPosition x y) e).next (receive_all pen h w (sent_change (CursorPosition x y) e).bytes t) (steps_on (Some h) w (change_strokes pen (pen.attributes e.attributes) (CursorPosition x y)) s)
  move_shown h w x y e t s some small reached a = from_start h w x y e t s some small reached a

  pub terse_move_shown : (h w : ℕ) (x y : Position) (e : Encoder) (t : EcmaScreen C) (s : PictureOf C) → 0 < w → w < 2 ^ 64 → IsReached h y → StaysInRows h (CursorPosition x y) s
      → ShowsPicture pen h w e t s
      → ShowsPicture pen h w (terse_change (CursorPosition x y) e).next (receive_all pen h w (terse_change (CursorPosition x y) e).bytes t) (steps_on (Some h) w (change_strokes pen (pen.attributes e.attributes) (CursorPosition x y)) s)
  terse_move_shown h w x y e t s some small reached stays a = by_place (ltb e.x e.cols) refl
    where
      by_place : (b : Bool) → ltb e.x e.cols ≡ b
          → AreMoves h w x y e t s some small reached a (along_column y ++ cond b (along_row e.x (column_of x e)) (to_column (column_of x e)))
      by_place true is = from_cursor h w x y e t s some small reached a stays (ltb-true e.x e.cols is)
      by_place false is = tersely_from_start h w x y e t s some small reached a stays
