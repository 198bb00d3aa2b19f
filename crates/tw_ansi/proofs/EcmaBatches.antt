-- A terminal that is sent a batch shows the picture on which it was drawn.
use Rattle.std.proofs.Common.{Some, ◌≡◌, ◌≤◌, ◌<◌, ◌+◌, ◌-◌, ◌^◌, ℕ, Bool, true, false, ◌&&◌, ◌||◌, not, cond, eqb, ltb, leb, min, List, [], ◌∷◌, ◌++◌, ap, subst, ◌∙◌, sym, refl, inl, inr, ◌⊎◌, arith}
use Rattle.std.proofs.lemmas.Bool.{eq-eqb, ne_eqb, le-leb, lt-leb, le-ltb, lt-ltb, cases_eq, cases_lt}
use Rattle.tw_surface.specs.Attributes.{with_attribute}
use Rattle.tw_surface.specs.declared.cell.CellAttributes.{CellAttributes}
use Rattle.tw_surface.specs.declared.color.ColorAttribute.{ColorAttribute}
use Rattle.tw_surface.specs.ChangeView.{ChangeView, Attribute, AllAttributes, Text, ClearScreen, ClearToEndOfScreen, CursorPosition}
use Rattle.laws_screens.specs.Strokes.{PictureOf, Stroke, cleared_in, filled, steps_on}
use Rattle.laws_screens.proofs.SeenRows.{steps_on-append}
use Rattle.laws_screens.specs.Pens.{Pen, change_strokes, strokes_of, kept_after}
use Rattle.laws_screens.specs.Screens.{blank_of}
use Rattle.tw_ansi.specs.declared.encode.Encoder.{Encoder}
use Rattle.tw_ansi.specs.Encoding.{Sent, sent_change, sent_batch, terse_change, terse_batch, at_column, parted_from_wait}
use Rattle.tw_ansi.specs.Sequences.{set_attribute, set_attributes, to_column, to_first_cell, clear_below, clear_rows, clear_all, clear_with, up_a_row}
use Rattle.tw_ansi.specs.EcmaScreen.{EcmaScreen, receive_all, row_cleared, feed_line, return_to_start}
use Rattle.tw_ansi.specs.EcmaScreen as terminal
use Rattle.tw_ansi.specs.EcmaLaws.{at_rest, IsColor, rows_cleared}
use Rattle.tw_ansi.specs.EcmaTexts.{IsOfRows, ShowsPicture, JoinsMarks}
use Rattle.tw_ansi.specs.EcmaBatches.{CarriesAttributes, IsSendable, FirstIsShown, ChangeIsShown, BatchIsShown, AreSendable, StaysInRows, AllStayInRows, TerseBatchIsShown}
use Rattle.tw_ansi.proofs.EcmaSequences.{received, columns_are_reached}
use Rattle.tw_ansi.proofs.EcmaRenditions.{attribute_is_selected, attributes_are_selected}
use Rattle.tw_ansi.proofs.EcmaClearings.{clears_below, clears_rows, clears_all}
use Rattle.tw_ansi.proofs.EcmaTexts.{text_is_shown}
use Rattle.tw_ansi.proofs.KnownTerminals.{keeps_text, clear_keeps}
use Rattle.tw_ansi.proofs.EcmaScrolls.{still}
use Rattle.tw_ansi.proofs.EcmaMoves.{move_shown, terse_move_shown}

-- ---- cells that are cleared

either_same : {C : Type 0} (b : Bool) (x y : C) → y ≡ x → cond b x y ≡ x
either_same true x y is = refl
either_same false x y is = is

-- a picture that is cleared from its cursor on
abbrev clear_from : {C : Type 0} → C → PictureOf C → PictureOf C
clear_from x s = record s { cell = cleared_in s.cell s.row s.col x }

cleared_within : {C : Type 0} (blank : C) (h : ℕ) (x : C) (s : PictureOf C) → x ≡ blank → IsOfRows blank h s → IsOfRows blank h (clear_from x s)
cleared_within blank h x s is within = record {
  row = within.row;
  below = λ r c low. either_same (ltb s.row r || (eqb s.row r && leb s.col c)) x (s.cell r c) (within.below r c low ∙ sym is) ∙ is;
}

cleared_same : {C : Type 0} (r0 r1 c0 c1 i j : ℕ) (x : C) (f g : ℕ → ℕ → C) → r0 ≡ r1 → c0 ≡ c1 → f i j ≡ g i j → cleared_in f r0 c0 x i j ≡ cleared_in g r1 c1 x i j
cleared_same r0 r1 c0 c1 i j x f g rows cols same =
    ap (λ n. cleared_in f n c0 x i j) rows ∙ ap (λ n. cleared_in f r1 n x i j) cols ∙ ap (λ v. cond (ltb r1 i || (eqb r1 i && leb c1 j)) x v) same

-- a row that is cleared from column 0 on is cleared with the rows below it
start_cleared : {C : Type 0} (p n : C) (k j : ℕ) (x y : Bool) → cond (x || (y && leb k j)) p (cond (y && leb 0 j) p n) ≡ cond (x || (y && leb 0 j)) p n
start_cleared p n k j true y = refl
start_cleared p n k j false false = refl
start_cleared p n k j false true = either_same (leb k j) p (cond (leb 0 j) p n) all ∙ sym all
  where
    all : cond (leb 0 j) p n ≡ p
    all = ap (λ x. cond x p n) (le-leb 0 j (omega arith))

or_none : (x y : Bool) → (x || (y && false)) ≡ x
or_none true y = refl
or_none false true = refl
or_none false false = refl

-- the rows below row m are those from the next one on
next_row_on : (m r c : ℕ) → (m < r) ⊎ (r ≤ m) → (m + 1 ≡ r) ⊎ (m + 1 ≡ r → ⊥) → (ltb (m + 1) r || (eqb (m + 1) r && leb 0 c)) ≡ ltb m r
next_row_on m r c (inl below) (inl e) =
    ap (λ x. x || (eqb (m + 1) r && leb 0 c)) (le-ltb (m + 1) r (omega (arith, e)))
    ∙ ap (λ x. false || (x && leb 0 c)) (eq-eqb (m + 1) r e) ∙ le-leb 0 c (omega arith) ∙ sym (lt-ltb m r below)
next_row_on m r c (inl below) (inr n) = ap (λ x. x || (eqb (m + 1) r && leb 0 c)) (lt-ltb (m + 1) r (omega (arith, below, n))) ∙ sym (lt-ltb m r below)
next_row_on m r c (inr above) other =
    ap (λ x. x || (eqb (m + 1) r && leb 0 c)) (le-ltb (m + 1) r (omega (arith, above)))
    ∙ ap (λ x. false || (x && leb 0 c)) (ne_eqb (m + 1) r (λ e. omega (arith, e, above))) ∙ sym (le-ltb m r above)

-- clearing from the next row on clears what clearing from after the last column does
edge_cleared : {C : Type 0} (w r0 r1 edge i j : ℕ) (p : C) (f g : ℕ → ℕ → C) → r0 ≡ r1 → edge ≡ w → j < w → f i j ≡ g i j
    → cleared_in f (r0 + 1) 0 p i j ≡ cleared_in g r1 edge p i j
edge_cleared w r0 r1 edge i j p f g rows at left same =
    ap (λ x. cleared_in f (x + 1) 0 p i j) rows
    ∙ ap (λ x. cond x p (f i j)) (next_row_on r1 i j (cases_lt r1 i) (cases_eq (r1 + 1) i))
    ∙ ap (λ x. cond x p (f i j)) (sym (ap (λ x. ltb r1 i || (eqb r1 i && x)) (lt-leb edge j (omega (arith, at, left))) ∙ or_none (ltb r1 i) (eqb r1 i)))
    ∙ ap (λ v. cond (ltb r1 i || (eqb r1 i && leb edge j)) p v) same

module _ {A C : Type 0} (pen : Pen A C) where
  -- a terminal that shows a picture has read no part of a sequence
  rested : (t : EcmaScreen C) → t.reading ≡ terminal.Text → t ≡ at_rest t
  rested t text = ap (λ r. record t { reading = r }) text

  pub first_is_shown : FirstIsShown pen
  first_is_shown h w t some inside start idle text plain = record {
    within = record { row = inside; below = λ r c low. ap (λ x. cond x (t.cell r c) (blank_of pen)) (le-ltb r h low) };
    edge = omega arith;
    cells = λ r c low left. sym (ap (λ x. cond x (t.cell r c) (blank_of pen)) (lt-ltb r h low));
    row = refl;
    col = omega (arith, start);
    waits = idle ∙ ap (λ x. x && true) (sym (ne_eqb 0 w (λ q. omega (arith, q, some))));
    parted = λ x. absurd (cc x);
    reading = text;
    rendition = plain;
    cols = refl;
    x = refl;
  }

  -- ---- attributes

  -- other attributes, selected and known
  with_attributes : (h w : ℕ) (e : Encoder) (t : EcmaScreen C) (s : PictureOf C) (to from : CellAttributes) → from ≡ to → ShowsPicture pen h w e t s
      → ShowsPicture pen h w (record e { attributes = to }) (record t { rendition = from; reading = terminal.Text }) s
  with_attributes h w e t s to from is a = record {
    within = a.within;
    edge = a.edge;
    cells = a.cells;
    row = a.row;
    col = a.col;
    waits = a.waits;
    parted = a.parted;
    reading = refl;
    rendition = is;
    cols = a.cols;
    x = a.x;
  }

  -- ---- clearings

  screen_cleared : (h w : ℕ) (x : C) (e : Encoder) (t : EcmaScreen C) (s : PictureOf C) → 0 < w → x ≡ blank_of pen → ShowsPicture pen h w e t s
      → ShowsPicture pen h w (at_column 0 e) (record t { cell = λ _ _. x; row = 0; col = 0; waits = false; reading = terminal.Text }) (filled x)
  screen_cleared h w x e t s some is a = record {
    within = record { row = omega (arith, a.within.row); below = λ r c low. is };
    edge = omega arith;
    cells = λ r c low left. refl;
    row = refl;
    col = omega arith;
    waits = ap (λ x. x && true) (sym (ne_eqb 0 w (λ q. omega (arith, q, some))));
    parted = λ x. absurd (cc x);
    reading = refl;
    rendition = a.rendition;
    cols = a.cols;
    x = refl;
  }

  clear_inside : (h w : ℕ) (x : C) (e : Encoder) (t : EcmaScreen C) (s : PictureOf C) → x ≡ blank_of pen → ShowsPicture pen h w e t s → s.col < w
      → ShowsPicture pen h w e (record t { cell = cleared_in t.cell t.row t.col x; reading = terminal.Text }) (clear_from x s)
  clear_inside h w x e t s is a inside =
      let col : t.col ≡ s.col = omega (arith, a.col, inside) in
      record {
        within = cleared_within (blank_of pen) h x s is a.within;
        edge = a.edge;
        cells = λ r c low left. cleared_same t.row s.row t.col s.col r c x t.cell s.cell a.row col (a.cells r c low left);
        row = a.row;
        col = a.col;
        waits = a.waits;
        parted = a.parted;
        reading = refl;
        rendition = a.rendition;
        cols = a.cols;
        x = a.x;
      }

  -- clearing by rows clears what clearing from column 0 on does
  clear_at_start : (h w : ℕ) (x : C) (e : Encoder) (t : EcmaScreen C) (s : PictureOf C) → x ≡ blank_of pen → 0 < w → s.col ≡ 0 → ShowsPicture pen h w e t s
      → ShowsPicture pen h w e (record t { cell = rows_cleared w x t; col = 0; waits = false; reading = terminal.Text }) (clear_from x s)
  clear_at_start h w x e t s is some start a =
      let col : t.col ≡ s.col = omega (arith, a.col, start) in
      record {
        within = cleared_within (blank_of pen) h x s is a.within;
        edge = a.edge;
        cells = λ r c low left.
            ap (λ n. cleared_in (row_cleared t.cell t.row n x) t.row (min (w - 1) (t.col + 1)) x r c) (col ∙ start)
            ∙ start_cleared x (t.cell r c) (min (w - 1) (t.col + 1)) c (ltb t.row r) (eqb t.row r)
            ∙ cleared_same t.row s.row 0 s.col r c x t.cell s.cell a.row (sym start) (a.cells r c low left);
        row = a.row;
        col = omega (arith, start);
        waits = ap (λ x. x && not e.parted) (sym (ne_eqb s.col w (λ q. omega (arith, q, start, some))));
        parted = a.parted;
        reading = refl;
        rendition = a.rendition;
        cols = a.cols;
        x = a.x;
      }

  -- the terminal after clearing from the next row on, back in the last column
  abbrev back_at_edge : ℕ → C → EcmaScreen C → EcmaScreen C
  back_at_edge w x t = record t { cell = cleared_in t.cell (t.row + 1) 0 x; row = t.row + 1 - 1; col = w - 1; waits = false; reading = terminal.Text }

  edge_received : (h w : ℕ) (color : ColorAttribute) (t : EcmaScreen C) → 0 < w → w < 2 ^ 64 → IsColor color → IsColor t.rendition.background → (t.row + 1 ≡ h → ⊥)
      → receive_all pen h w ((13 ∷ 10 ∷ clear_with clear_below color t.rendition.background) ++ up_a_row ++ to_column (w - 1)) (at_rest t)
      ≡ back_at_edge w (pen.paper color) t
  edge_received h w color t some small p q more =
      let clear : List ℕ = clear_with clear_below color t.rendition.background in
      let start : EcmaScreen C = return_to_start (at_rest t) in
      let down : EcmaScreen C = record start { row = t.row + 1; waits = false } in
      let scrolls : EcmaScreen C = record start { cell = λ r c. cond (ltb (r + 1) h) (t.cell (r + 1) c) (blank_of pen); waits = false } in
      let fed_is : feed_line (blank_of pen) h start ≡ down = ap (λ x. cond x scrolls down) (ne_eqb (t.row + 1) h more) in
      let empty : EcmaScreen C = record down { cell = cleared_in t.cell (t.row + 1) 0 (pen.paper color) } in
      let up : EcmaScreen C = record empty { row = t.row + 1 - 1 } in
      ap (receive_all pen h w (clear ++ up_a_row ++ to_column (w - 1))) fed_is
      ∙ received pen h w (clear ++ up_a_row) (to_column (w - 1)) down
      ∙ ap (receive_all pen h w (to_column (w - 1))) (received pen h w clear up_a_row down ∙ ap (receive_all pen h w up_a_row) (clears_below pen h w color down p q))
      ∙ columns_are_reached pen h w (w - 1) up (omega (arith, some)) (omega (arith, small))

  edge_shown : (h w : ℕ) (x : C) (e : Encoder) (t : EcmaScreen C) (s : PictureOf C) → x ≡ blank_of pen → 0 < w → s.col ≡ w → ShowsPicture pen h w e t s
      → ShowsPicture pen h w (parted_from_wait e) (back_at_edge w x t) (clear_from x s)
  edge_shown h w x e t s is some edge a = record {
    within = cleared_within (blank_of pen) h x s is a.within;
    edge = a.edge;
    cells = λ r c low left. edge_cleared w t.row s.row s.col r c x t.cell s.cell a.row edge left (a.cells r c low left);
    row = omega (arith, a.row);
    col = omega (arith, edge);
    waits = at_edge (eqb s.col w);
    parted = λ _. edge;
    reading = refl;
    rendition = a.rendition;
    cols = a.cols;
    x = a.x;
  }
    where
      at_edge : (b : Bool) → false ≡ (b && false)
      at_edge true = refl
      at_edge false = refl

  -- the terminal shows the picture after what is sent
  abbrev Then : ℕ → ℕ → EcmaScreen C → Sent → PictureOf C → Type 0
  Then h w t x s = ShowsPicture pen h w x.next (receive_all pen h w x.bytes t) s

  -- what is sent for a clearing, where that colour is set after the text: by rows, from the cursor on, and from the
  -- next row on
  abbrev by_rows : ColorAttribute → ColorAttribute → Encoder → Sent
  by_rows color set e = record { bytes = clear_with clear_rows color set; next = e }

  abbrev by_cells : ColorAttribute → ColorAttribute → Encoder → Sent
  by_cells color set e = record { bytes = clear_with clear_below color set; next = e }

  abbrev by_next_row : ℕ → ColorAttribute → ColorAttribute → Encoder → Sent
  by_next_row cols color set e =
      record { bytes = (13 ∷ 10 ∷ clear_with clear_below color set) ++ up_a_row ++ to_column (cols - 1); next = parted_from_wait e }

  module _ (h w : ℕ) (color : ColorAttribute) (e : Encoder) (t : EcmaScreen C) (s : PictureOf C) (some : 0 < w) (small : w < 2 ^ 64)
      (p : IsColor color) (q : IsColor t.rendition.background) (is : pen.paper color ≡ blank_of pen) (a : ShowsPicture pen h w e t s) where
    -- the colour that is set after the text
    abbrev set : ColorAttribute
    set = t.rendition.background

    clear_within : s.col < w → (e.x ≡ 0) ⊎ (e.x ≡ 0 → ⊥)
        → Then h w t (cond (eqb e.x 0) (by_rows color set e) (by_cells color set e)) (clear_from (pen.paper color) s)
    clear_within inside (inl start) =
        subst (λ x. Then h w t (cond x (by_rows color set e) (by_cells color set e)) (clear_from (pen.paper color) s)) (sym (eq-eqb e.x 0 start))
        (subst (λ u. ShowsPicture pen h w e u (clear_from (pen.paper color) s))
        (sym (ap (receive_all pen h w (clear_with clear_rows color set)) (rested t a.reading) ∙ clears_rows pen h w color t p q))
        (clear_at_start h w (pen.paper color) e t s is some (sym a.x ∙ start) a))
    clear_within inside (inr later) =
        subst (λ x. Then h w t (cond x (by_rows color set e) (by_cells color set e)) (clear_from (pen.paper color) s)) (sym (ne_eqb e.x 0 later))
        (subst (λ u. ShowsPicture pen h w e u (clear_from (pen.paper color) s))
        (sym (ap (receive_all pen h w (clear_with clear_below color set)) (rested t a.reading) ∙ clears_below pen h w color t p q))
        (clear_inside h w (pen.paper color) e t s is a inside))

    -- clearing from the cursor on, by what is sent where that colour is set
    clear_cases : (s.col ≡ w → s.row + 1 < h) → (s.col < w) ⊎ (w ≤ s.col)
        → Then h w t (cond (leb e.cols e.x) (by_next_row e.cols color set e) (cond (eqb e.x 0) (by_rows color set e) (by_cells color set e))) (clear_from (pen.paper color) s)
    clear_cases low (inl inside) =
        subst (λ x. Then h w t (cond x (by_next_row e.cols color set e) (cond (eqb e.x 0) (by_rows color set e) (by_cells color set e))) (clear_from (pen.paper color) s))
        (sym (lt-leb e.cols e.x (omega (arith, a.cols, a.x, inside)))) (clear_within inside (cases_eq e.x 0))
    clear_cases low (inr past) =
        let edge : s.col ≡ w = omega (arith, a.edge, past) in
        let room : s.row + 1 < h = low edge in
        let does : receive_all pen h w (by_next_row e.cols color set e).bytes t ≡ back_at_edge w (pen.paper color) t =
        ap (λ n. receive_all pen h w (by_next_row n color set e).bytes t) a.cols
        ∙ ap (receive_all pen h w (by_next_row w color set e).bytes) (rested t a.reading)
        ∙ edge_received h w color t some small p q (λ e. omega (arith, e, a.row, room)) in
        subst (λ x. Then h w t (cond x (by_next_row e.cols color set e) (cond (eqb e.x 0) (by_rows color set e) (by_cells color set e))) (clear_from (pen.paper color) s))
        (sym (le-leb e.cols e.x (omega (arith, a.cols, a.x, past))))
        (subst (λ u. ShowsPicture pen h w (parted_from_wait e) u (clear_from (pen.paper color) s)) (sym does)
        (edge_shown h w (pen.paper color) e t s is some edge a))

  -- ---- changes

  -- the colour that is known is the one that is set
  set_color : (t : EcmaScreen C) (e : Encoder) → t.rendition ≡ e.attributes → IsColor e.attributes.background → IsColor t.rendition.background
  set_color t e is color = subst (λ (a : CellAttributes). IsColor a.background) (sym is) color

  pub change_is_shown : ChangeIsShown pen
  change_is_shown h w (Text text) e t s joins some small fits a = text_is_shown pen h w text e t s joins some small fits a
  change_is_shown h w (Attribute change) e t s joins some small fits a =
      let does = ap (receive_all pen h w (set_attribute change)) (rested t a.reading) ∙ attribute_is_selected pen h w change t fits in
      let to : CellAttributes = with_attribute change e.attributes in
      subst (λ u. ShowsPicture pen h w (record e { attributes = to }) u s) (sym does)
      (with_attributes h w e t s to (with_attribute change t.rendition) (ap (with_attribute change) a.rendition) a)
  change_is_shown h w (AllAttributes to) e t s joins some small fits a =
      let does = ap (receive_all pen h w (set_attributes to)) (rested t a.reading) ∙ attributes_are_selected pen h w to t fits.0 fits.1 in
      subst (λ u. ShowsPicture pen h w (record e { attributes = to }) u s) (sym does) (with_attributes h w e t s to to refl a)
  change_is_shown h w (ClearScreen color) e t s joins some small fits a =
      let q : IsColor t.rendition.background = set_color t e a.rendition fits.1 in
      let x : C = pen.paper color in
      let clear : ColorAttribute → List ℕ = λ set. to_first_cell ++ clear_with clear_all color set in
      let does = ap (receive_all pen h w (clear t.rendition.background)) (rested t a.reading) ∙ clears_all pen h w color t fits.0 q in
      subst (λ (v : CellAttributes). ShowsPicture pen h w (at_column 0 e) (receive_all pen h w (clear v.background) t) (steps_on (Some h) w (change_strokes pen (pen.attributes e.attributes) (ClearScreen color)) s)) a.rendition
      (subst (λ u. ShowsPicture pen h w (at_column 0 e) u (steps_on (Some h) w (change_strokes pen (pen.attributes e.attributes) (ClearScreen color)) s)) (sym does)
      (still pen h w (at_column 0 e) _ (filled x) (screen_cleared h w x e t s some fits.2 a)))
  change_is_shown h w (ClearToEndOfScreen color) e t s joins some small fits a =
      let q : IsColor t.rendition.background = set_color t e a.rendition fits.1 in
      let x : C = pen.paper color in
      let sent : ColorAttribute → Sent = λ set. cond (leb e.cols e.x) (by_next_row e.cols color set e) (cond (eqb e.x 0) (by_rows color set e) (by_cells color set e)) in
      subst (λ (v : CellAttributes). Then h w t (sent v.background) (steps_on (Some h) w (change_strokes pen (pen.attributes e.attributes) (ClearToEndOfScreen color)) s)) a.rendition
      (still pen h w (sent t.rendition.background).next (receive_all pen h w (sent t.rendition.background).bytes t) (clear_from x s)
      (clear_cases h w color e t s some small fits.0 q fits.2 a fits.3 (cases_lt s.col w)))
  change_is_shown h w (CursorPosition x y) e t s joins some small fits a = move_shown pen h w x y e t s some small fits a

  -- ---- batches

  -- what the pen keeps after a change is what the encoder then knows
  pub keeps_change : (h w : ℕ) (change : ChangeView) (e : Encoder) (s : PictureOf C) → CarriesAttributes pen → IsSendable pen h w e change s
      → kept_after pen (pen.attributes e.attributes) change ≡ pen.attributes (sent_change change e).next.attributes
  keeps_change h w (Text text) e s carries fits = ap pen.attributes (sym (keeps_text text e))
  keeps_change h w (Attribute change) e s carries fits = carries change e.attributes
  keeps_change h w (AllAttributes to) e s carries fits = refl
  keeps_change h w (ClearScreen color) e s carries fits = refl
  keeps_change h w (ClearToEndOfScreen color) e s carries fits = ap pen.attributes (sym (clear_keeps color e))
  keeps_change h w (CursorPosition x y) e s carries fits = refl

  -- a change that is shown first, and what follows it
  then_shown : (h w : ℕ) (change : ChangeView) (batch : List ChangeView) (x rest : Sent) (e : Encoder) (t : EcmaScreen C) (s : PictureOf C)
      → kept_after pen (pen.attributes e.attributes) change ≡ pen.attributes x.next.attributes
      → Then h w (receive_all pen h w x.bytes t) rest
      (steps_on (Some h) w (strokes_of pen (pen.attributes x.next.attributes) batch) (steps_on (Some h) w (change_strokes pen (pen.attributes e.attributes) change) s))
      → Then h w t (record { bytes = x.bytes ++ rest.bytes; next = rest.next }) (steps_on (Some h) w (strokes_of pen (pen.attributes e.attributes) (change ∷ batch)) s)
  then_shown h w change batch x rest e t s keeps shown =
      let strokes : List (Stroke C) = change_strokes pen (pen.attributes e.attributes) change in
      let more : A → List (Stroke C) = λ kept. strokes_of pen kept batch in
      subst (λ u. ShowsPicture pen h w rest.next u (steps_on (Some h) w (strokes_of pen (pen.attributes e.attributes) (change ∷ batch)) s))
      (sym (received pen h w x.bytes rest.bytes t))
      (subst (λ v. ShowsPicture pen h w rest.next (receive_all pen h w rest.bytes (receive_all pen h w x.bytes t)) v)
      (sym (steps_on-append (Some h) w strokes (more (kept_after pen (pen.attributes e.attributes) change)) s
      ∙ ap (λ kept. steps_on (Some h) w (more kept) (steps_on (Some h) w strokes s)) keeps)) shown)

  pub batch_is_shown : BatchIsShown pen
  batch_is_shown h w [] e t s carries joins some small fits a = a
  batch_is_shown h w (change ∷ batch) e t s carries joins some small fits a =
      let x : Sent = sent_change change e in
      then_shown h w change batch x (sent_batch batch x.next) e t s (keeps_change h w change e s carries fits.0)
      (batch_is_shown h w batch x.next (receive_all pen h w x.bytes t) (steps_on (Some h) w (change_strokes pen (pen.attributes e.attributes) change) s) carries joins some small fits.1
      (change_is_shown h w change e t s joins some small fits.0 a))

  -- ---- batches whose moves take few bytes

  terse_is_shown : (h w : ℕ) (change : ChangeView) (e : Encoder) (t : EcmaScreen C) (s : PictureOf C) → JoinsMarks pen → 0 < w → w < 2 ^ 64
      → IsSendable pen h w e change s → StaysInRows h change s → ShowsPicture pen h w e t s
      → Then h w t (terse_change change e) (steps_on (Some h) w (change_strokes pen (pen.attributes e.attributes) change) s)
  terse_is_shown h w (CursorPosition x y) e t s joins some small fits stays a = terse_move_shown pen h w x y e t s some small fits stays a
  terse_is_shown h w (Text text) e t s joins some small fits stays a = change_is_shown h w (Text text) e t s joins some small fits a
  terse_is_shown h w (Attribute change) e t s joins some small fits stays a = change_is_shown h w (Attribute change) e t s joins some small fits a
  terse_is_shown h w (AllAttributes to) e t s joins some small fits stays a = change_is_shown h w (AllAttributes to) e t s joins some small fits a
  terse_is_shown h w (ClearScreen color) e t s joins some small fits stays a = change_is_shown h w (ClearScreen color) e t s joins some small fits a
  terse_is_shown h w (ClearToEndOfScreen color) e t s joins some small fits stays a = change_is_shown h w (ClearToEndOfScreen color) e t s joins some small fits a

  -- the same is known then
  pub terse_next : (change : ChangeView) (e : Encoder) → (terse_change change e).next ≡ (sent_change change e).next
  terse_next (CursorPosition x y) e = refl
  terse_next (Text text) e = refl
  terse_next (Attribute change) e = refl
  terse_next (AllAttributes to) e = refl
  terse_next (ClearScreen color) e = refl
  terse_next (ClearToEndOfScreen color) e = refl

  pub terse_batch_is_shown : TerseBatchIsShown pen
  terse_batch_is_shown h w [] e t s carries joins some small fits stays a = a
  terse_batch_is_shown h w (change ∷ batch) e t s carries joins some small fits stays a =
      let x : Sent = terse_change change e in
      let drawn : PictureOf C = steps_on (Some h) w (change_strokes pen (pen.attributes e.attributes) change) s in
      let keeps : kept_after pen (pen.attributes e.attributes) change ≡ pen.attributes (terse_change change e).next.attributes =
      keeps_change h w change e s carries fits.0 ∙ ap (λ (n : Encoder). pen.attributes n.attributes) (sym (terse_next change e)) in
      then_shown h w change batch x (terse_batch batch x.next) e t s keeps
      (terse_batch_is_shown h w batch x.next (receive_all pen h w x.bytes t) drawn carries joins some small
      (subst (λ n. AreSendable pen h w n batch drawn) (sym (terse_next change e)) fits.1)
      (subst (λ kept. AllStayInRows pen h w kept batch drawn) keeps stays.1)
      (terse_is_shown h w change e t s joins some small fits.0 stays.0 a))
