-- A terminal that is sent a text shows the picture on which it was drawn.
use Rattle.std.proofs.Common.{◌≡◌, ◌≤◌, ◌<◌, ◌+◌, ◌-◌, ◌^◌, ℕ, Bool, true, false, not, ◌&&◌, ◌||◌, cond, eqb, ltb, leb, length, Some, List, [], ◌∷◌, ◌++◌, map, ap, subst, ◌∙◌, sym, refl, inl, inr, ◌⊎◌, arith}
use Rattle.std.specs.Prelude.{chars}
use Rattle.std.specs.List.{list_all, list_any, flat_map}
use Rattle.std.specs.Cmp.Lexicographic.{pointwise}
use Rattle.std.specs.Char.{is_control}
use Rattle.std.proofs.lemmas.List.{map-append}
use Rattle.std.proofs.lemmas.Bool.{eq-eqb, ne_eqb, le-leb, lt-leb, lt-ltb, cases_eq, cases_lt, cases_Bool, and_parts, ltb-true, leb-true, false≢true}
use Rattle.unicode_segmentation.specs.Grapheme.{graphemes}
use Rattle.laws_screens.specs.Strokes.{PictureOf, Stroke, put, step, steps_on, scrolled}
use Rattle.laws_screens.specs.Strokes.Stroke.{Return, Feed}
use Rattle.tw_surface.specs.declared.cell.CellAttributes.{CellAttributes}
use Rattle.tw_surface.specs.Characters.{is_plain, is_printable}
use Rattle.laws_screens.specs.Pens.{Pen, cluster_cells, glyph_stroke}
use Rattle.laws_screens.specs.Glyphs.{Glyph, glyphs_of_piece, glyphs}
use Rattle.laws_screens.specs.Glyphs.Glyph.{Cr, Lf, Cluster}
use Rattle.laws_screens.proofs.DrawnChanges.{cells-length}
use Rattle.laws_screens.proofs.SeenRows.{steps_on-append}
use Rattle.laws_screens.proofs.PlainGlyphs.{glyph_of, all_glyphs}
use Rattle.tw_surface.specs.declared.measure.Piece.TheVariants as piece
use Rattle.tw_surface.specs.Places.{plain_piece, cluster_piece}
use Rattle.tw_surface.specs.Width.{cluster_width}
use Rattle.laws_screens.specs.Screens.{blank_of}
use Rattle.tw_ansi.specs.declared.encode.Encoder.{Encoder}
use Rattle.tw_ansi.specs.Encoding.{Sent, at_column, parted_from_wait, sent_return, sent_feed, sent_return_feed, sent_byte, sent_cluster, sent_columns, sent_beginning, sent_plain, sent_clusters, shown_as}
use Rattle.tw_ansi.specs.Sequences.{to_column}
use Rattle.tw_ansi.specs.EcmaScreen.{EcmaScreen, receive, receive_all, receive_by, return_to_start, feed_line, write, write_here}
use Rattle.tw_ansi.specs.EcmaScreen as terminal
use Rattle.tw_ansi.specs.EcmaTexts.{IsOfRows, ShowsPicture, is_character, is_lone, is_sent_cluster, is_sent, JoinsMarks, TextIsShown}
use Rattle.tw_ansi.proofs.EcmaSequences.{received, columns_are_reached}
use Rattle.tw_ansi.proofs.EcmaScrolls.{Fed, fed, still}
use Rattle.tw_ansi.proofs.KnownTerminals.{keeps_byte, keeps_cluster}
use Rattle.tw_ansi.proofs.EcmaWrites.{text_write, writes_here, written_inside, wrapped, put_here, put_below, lone_received}

not-true : (k : Bool) → not k ≡ true → k ≡ false
not-true true h = absurd (false≢true h)
not-true false h = refl

module _ {A C : Type 0} (pen : Pen A C) where
  -- the terminal shows the picture after what is sent
  abbrev Then : ℕ → ℕ → EcmaScreen C → Sent → PictureOf C → Type 0
  Then h w t x s = ShowsPicture pen h w x.next (receive_all pen h w x.bytes t) s

  returned : (h w : ℕ) (e : Encoder) (t : EcmaScreen C) (s : PictureOf C) → 0 < w → ShowsPicture pen h w e t s → Then h w t (sent_return e) (scrolled (Some h) (record s { col = 0 }))
  returned h w e t s some a =
      let is : receive pen h w 13 t ≡ return_to_start t = ap (λ r. receive_by pen h w r 13 t) a.reading in
      let shown : ShowsPicture pen h w (at_column 0 e) (return_to_start t) (record s { col = 0 }) = record {
        within = record { row = a.within.row; below = a.within.below };
        edge = omega arith;
        cells = a.cells;
        row = a.row;
        col = omega arith;
        waits = ap (λ x. x && true) (sym (ne_eqb 0 w (λ q. omega (arith, q))));
        parted = λ x. absurd (cc x);
        reading = a.reading;
        rendition = a.rendition;
        cols = a.cols;
        x = refl;
      } in
      still pen h w (at_column 0 e) (receive pen h w 13 t) (record s { col = 0 }) (subst (λ u. ShowsPicture pen h w (at_column 0 e) u (record s { col = 0 })) (sym is) shown)

  -- the picture after a line feed
  abbrev lower : PictureOf C → PictureOf C
  lower s = record s { row = s.row + 1 }

  lower_within : (h : ℕ) (s : PictureOf C) → IsOfRows (blank_of pen) h s → IsOfRows (blank_of pen) h (scrolled (Some h) (lower s))
  lower_within h s within = record {
    row = omega (arith, within.row);
    below = λ r c low. within.below (r + (s.row + 1 + 1 - h)) c (omega (arith, low));
  }

  -- a line feed where the terminal does not wait
  fed_idle : (h w : ℕ) (e : Encoder) (t u : EcmaScreen C) (s : PictureOf C) → ShowsPicture pen h w e t s → Fed h w t u s → (eqb s.col w && not e.parted) ≡ false → ShowsPicture pen h w e u (scrolled (Some h) (lower s))
  fed_idle h w e t u s a f idle = record {
    within = lower_within h s a.within;
    edge = a.edge;
    cells = f.cells;
    row = f.row;
    col = f.col ∙ a.col;
    waits = f.waits ∙ sym idle;
    parted = a.parted;
    reading = f.reading ∙ a.reading;
    rendition = f.rendition ∙ a.rendition;
    cols = a.cols;
    x = a.x;
  }

  -- a line feed where it waits, and back to the last column
  fed_waiting : (h w : ℕ) (e : Encoder) (t u v : EcmaScreen C) (s : PictureOf C) → ShowsPicture pen h w e t s → Fed h w t u s → s.col ≡ w
      → v ≡ record u { col = w - 1; waits = false; reading = terminal.Text } → ShowsPicture pen h w (parted_from_wait e) v (scrolled (Some h) (lower s))
  fed_waiting h w e t u v s a f edge is =
      let back : EcmaScreen C = record u { col = w - 1; waits = false; reading = terminal.Text } in
      let shown : ShowsPicture pen h w (parted_from_wait e) back (scrolled (Some h) (lower s)) = record {
        within = lower_within h s a.within;
        edge = a.edge;
        cells = f.cells;
        row = f.row;
        col = omega (arith, edge);
        waits = at_edge (eqb s.col w);
        parted = λ _. edge;
        reading = refl;
        rendition = f.rendition ∙ a.rendition;
        cols = a.cols;
        x = a.x;
      } in
      subst (λ x. ShowsPicture pen h w (parted_from_wait e) x (scrolled (Some h) (lower s))) (sym is) shown
    where
      at_edge : (b : Bool) → false ≡ (b && false)
      at_edge true = refl
      at_edge false = refl

  feed_received : (h w : ℕ) (t : EcmaScreen C) → t.reading ≡ terminal.Text → receive pen h w 10 t ≡ feed_line (blank_of pen) h t
  feed_received h w t text = ap (λ r. receive_by pen h w r 10 t) text

  fed_to : (h w : ℕ) (e : Encoder) (t : EcmaScreen C) (s : PictureOf C) → ShowsPicture pen h w e t s → Fed h w t (receive pen h w 10 t) s
  fed_to h w e t s a = subst (λ u. Fed h w t u s) (sym (feed_received h w t a.reading)) (fed (blank_of pen) h w t s a.within a.row a.cells)

  feed_cases : (h w : ℕ) (e : Encoder) (t : EcmaScreen C) (s : PictureOf C) → 0 < w → w < 2 ^ 64 → ShowsPicture pen h w e t s
      → (s.col < w) ⊎ (w ≤ s.col) → (p : Bool) → e.parted ≡ p → Then h w t (sent_feed e) (scrolled (Some h) (lower s))
  feed_cases h w e t s some small a (inl inside) p is =
      let stays : Sent = record { bytes = 10 ∷ []; next = e } in
      let goes : Sent = record { bytes = 10 ∷ to_column (e.cols - 1); next = parted_from_wait e } in
      let plain : sent_feed e ≡ stays = ap (λ x. cond (x && not e.parted) goes stays) (lt-leb e.cols e.x (omega (arith, a.cols, a.x, inside))) in
      subst (λ x. Then h w t x (scrolled (Some h) (lower s))) (sym plain)
      (fed_idle h w e t (receive pen h w 10 t) s a (fed_to h w e t s a) (ap (λ x. x && not e.parted) (ne_eqb s.col w (λ q. omega (arith, q)))))
  feed_cases h w e t s some small a (inr edge) true is =
      let stays : Sent = record { bytes = 10 ∷ []; next = e } in
      let goes : Sent = record { bytes = 10 ∷ to_column (e.cols - 1); next = parted_from_wait e } in
      let plain : sent_feed e ≡ stays = ap (λ x. cond (leb e.cols e.x && not x) goes stays) is ∙ ap (λ x. cond (x && false) goes stays) (le-leb e.cols e.x (omega (arith, a.cols, a.x, edge))) in
      subst (λ x. Then h w t x (scrolled (Some h) (lower s))) (sym plain)
      (fed_idle h w e t (receive pen h w 10 t) s a (fed_to h w e t s a)
      (ap (λ x. eqb s.col w && not x) is ∙ ap (λ x. x && false) (eq-eqb s.col w (omega (arith, a.edge, edge)))))
  feed_cases h w e t s some small a (inr edge) false is =
      let stays : Sent = record { bytes = 10 ∷ []; next = e } in
      let goes : Sent = record { bytes = 10 ∷ to_column (e.cols - 1); next = parted_from_wait e } in
      let back : sent_feed e ≡ goes = ap (λ x. cond (leb e.cols e.x && not x) goes stays) is ∙ ap (λ x. cond (x && true) goes stays) (le-leb e.cols e.x (omega (arith, a.cols, a.x, edge))) in
      let f = fed_to h w e t s a in
      let u = receive pen h w 10 t in
      let rest : u ≡ record u { reading = terminal.Text } = ap (λ r. record u { reading = r }) (f.reading ∙ a.reading) in
      let led : receive_all pen h w (to_column (e.cols - 1)) u ≡ record u { col = w - 1; waits = false; reading = terminal.Text } =
      ap (λ n. receive_all pen h w (to_column (n - 1)) u) a.cols ∙ ap (λ x. receive_all pen h w (to_column (w - 1)) x) rest
      ∙ columns_are_reached pen h w (w - 1) u (omega (arith, some)) (omega (arith, small)) in
      subst (λ x. Then h w t x (scrolled (Some h) (lower s))) (sym back)
      (fed_waiting h w e t u (receive_all pen h w (to_column (e.cols - 1)) u) s a f (omega (arith, a.edge, edge)) led)

  -- ---- what begins a character

  module _ (h w : ℕ) (cells : List C) (e : Encoder) (t : EcmaScreen C) (s : PictureOf C) (some : 0 < w) (one : 0 < length cells) (narrow : length cells ≤ w) (a : ShowsPicture pen h w e t s) where
    abbrev Goal : Sent → Type 0
    Goal x =
        ShowsPicture pen h w x.next (write (blank_of pen) h w cells (receive_all pen h w x.bytes t)) (scrolled (Some h) (put w cells s))
        × ((receive_all pen h w x.bytes t).reading ≡ terminal.Text) × ((receive_all pen h w x.bytes t).rendition ≡ t.rendition)

    abbrev here : Sent
    here = record { bytes = []; next = at_column (e.x + length cells) e }

    abbrev below : Bool → Sent
    below k = record { bytes = cond k (13 ∷ 10 ∷ []) []; next = at_column (length cells) e }

    by_room : (w < s.col + length cells) ⊎ (s.col + length cells ≤ w) → (p : Bool) → e.parted ≡ p → Goal (cond (leb (e.x + length cells) e.cols) here (below e.parted))
    by_room (inr room) p is =
        let drawn : put w cells s ≡ put_here pen cells s = ap (λ v. cond v (put_here pen cells s) (put_below pen cells s)) (le-leb (s.col + length cells) w room) in
        let shown = written_inside pen h w cells e t s a one room in
        subst (λ x. Goal (cond x here (below e.parted))) (sym (le-leb (e.x + length cells) e.cols (omega (arith, a.x, a.cols, room)))) (
          subst (λ v. ShowsPicture pen h w (at_column (e.x + length cells) e) (write (blank_of pen) h w cells t) (scrolled (Some h) v)) (sym drawn)
              (still pen h w (at_column (e.x + length cells) e) (write (blank_of pen) h w cells t) (put_here pen cells s) shown),
          a.reading,
          refl,
        )
    by_room (inl past) true is =
        let drawn : put w cells s ≡ put_below pen cells s = ap (λ v. cond v (put_here pen cells s) (put_below pen cells s)) (lt-leb (s.col + length cells) w past) in
        let start : EcmaScreen C = return_to_start t in
        let u : EcmaScreen C = feed_line (blank_of pen) h start in
        let f = fed (blank_of pen) h w start s a.within a.row a.cells in
        let first : receive pen h w 13 t ≡ start = ap (λ r. receive_by pen h w r 13 t) a.reading in
        let second : receive pen h w 10 (receive pen h w 13 t) ≡ u = ap (receive pen h w 10) first ∙ feed_received h w start a.reading in
        let shown = wrapped pen h w cells e start u s a.within narrow a.cols f f.col (f.reading ∙ a.reading) (f.rendition ∙ a.rendition) in
        let writes : write (blank_of pen) h w cells u ≡ write_here w cells u = writes_here (blank_of pen) h w cells u f.waits (omega (arith, f.col, narrow)) in
        subst (λ x. Goal (cond x here (below e.parted))) (sym (lt-leb (e.x + length cells) e.cols (omega (arith, a.x, a.cols, past))))
        (subst (λ x. Goal (below x)) (sym is) (
          subst (λ v. ShowsPicture pen h w (at_column (length cells) e) (write (blank_of pen) h w cells v) (scrolled (Some h) (put w cells s))) (sym second)
              (subst (λ v. ShowsPicture pen h w (at_column (length cells) e) (write (blank_of pen) h w cells u) (scrolled (Some h) v)) (sym drawn)
              (subst (λ v. ShowsPicture pen h w (at_column (length cells) e) v (scrolled (Some h) (put_below pen cells s))) (sym writes) shown)),
          ap (λ (v : EcmaScreen C). v.reading) second ∙ f.reading ∙ a.reading,
          ap (λ (v : EcmaScreen C). v.rendition) second ∙ f.rendition,
        ))
    by_room (inl past) false is =
        let drawn : put w cells s ≡ put_below pen cells s = ap (λ v. cond v (put_here pen cells s) (put_below pen cells s)) (lt-leb (s.col + length cells) w past) in
        let u : EcmaScreen C = return_to_start (feed_line (blank_of pen) h t) in
        let f = fed (blank_of pen) h w t s a.within a.row a.cells in
        let g : Fed h w (return_to_start t) u s = record { cells = f.cells; row = f.row; col = refl; waits = refl; reading = f.reading; rendition = f.rendition } in
        let goes : (t.waits || ltb w (t.col + length cells)) ≡ true = elim (cases_eq s.col w) [
          | inl edge ↦
              ap (λ x. x || ltb w (t.col + length cells)) (a.waits ∙ ap (λ x. eqb s.col w && not x) is ∙ ap (λ x. x && true) (eq-eqb s.col w edge))
          | inr inside ↦
              let idle : t.waits ≡ false = a.waits ∙ ap (λ x. x && not e.parted) (ne_eqb s.col w inside) in
              ap (λ x. x || ltb w (t.col + length cells)) idle ∙ lt-ltb w (t.col + length cells) (omega (arith, a.col, inside, a.edge, past))
        ] in
        let writes : write (blank_of pen) h w cells t ≡ write_here w cells u = ap (λ x. cond x (write_here w cells u) (write_here w cells t)) goes in
        let shown = wrapped pen h w cells e (return_to_start t) u s a.within narrow a.cols g refl (f.reading ∙ a.reading) (f.rendition ∙ a.rendition) in
        subst (λ x. Goal (cond x here (below e.parted))) (sym (lt-leb (e.x + length cells) e.cols (omega (arith, a.x, a.cols, past))))
        (subst (λ x. Goal (below x)) (sym is) (
          subst (λ v. ShowsPicture pen h w (at_column (length cells) e) (write (blank_of pen) h w cells t) (scrolled (Some h) v)) (sym drawn)
              (subst (λ v. ShowsPicture pen h w (at_column (length cells) e) v (scrolled (Some h) (put_below pen cells s))) (sym writes) shown),
          a.reading,
          refl,
        ))

    -- some cells are shown, where what is received of a character writes them
    cells_shown : Goal (sent_beginning e (length cells))
    cells_shown =
        let known : Sent = record { bytes = []; next = e } in
        subst (λ k. Goal (cond k known (cond (leb (e.x + length cells) e.cols) here (below e.parted)))) (sym (ne_eqb (length cells) 0 (λ z. omega (arith, z, one))))
        (by_room (cases_lt w (s.col + length cells)) e.parted refl)

  -- what is shown in some columns, where the terminal writes it so
  columns_shown : (h w width : ℕ) (bytes cluster : List ℕ) (e : Encoder) (t : EcmaScreen C) (s : PictureOf C) → 0 < w → 0 < width → width ≤ w
      → ((u : EcmaScreen C) → u.reading ≡ terminal.Text → receive_all pen h w bytes u ≡ write (blank_of pen) h w (cluster_cells pen (pen.attributes u.rendition) cluster width) u)
      → ShowsPicture pen h w e t s
      → Then h w t (sent_columns e width bytes) (scrolled (Some h) (put w (cluster_cells pen (pen.attributes t.rendition) cluster width) s))
  columns_shown h w width bytes cluster e t s some one narrow does a =
      let cells : List C = cluster_cells pen (pen.attributes t.rendition) cluster width in
      let len : length cells ≡ width = cells-length pen (pen.attributes t.rendition) cluster width in
      let begun : Sent = sent_beginning e width in
      let u : EcmaScreen C = receive_all pen h w begun.bytes t in
      let q : ShowsPicture pen h w begun.next (write (blank_of pen) h w cells u) (scrolled (Some h) (put w cells s)) × (u.reading ≡ terminal.Text) × (u.rendition ≡ t.rendition) =
      subst (λ n. let x : Sent = sent_beginning e n in
      ShowsPicture pen h w x.next (write (blank_of pen) h w cells (receive_all pen h w x.bytes t)) (scrolled (Some h) (put w cells s))
      × ((receive_all pen h w x.bytes t).reading ≡ terminal.Text) × ((receive_all pen h w x.bytes t).rendition ≡ t.rendition)) len
      (cells_shown h w cells e t s some (omega (arith, len, one)) (omega (arith, len, narrow)) a) in
      subst (λ v. ShowsPicture pen h w begun.next v (scrolled (Some h) (put w cells s)))
      (sym (received pen h w begun.bytes bytes t ∙ does u q.1
      ∙ ap (λ (r : CellAttributes). write (blank_of pen) h w (cluster_cells pen (pen.attributes r) cluster width) u) q.2)) q.0

  -- ---- characters of a plain text

  byte_cases : (h w b : ℕ) (e : Encoder) (t : EcmaScreen C) (s : PictureOf C) → 0 < w → w < 2 ^ 64 → is_plain b ≡ true → ShowsPicture pen h w e t s
      → (eqb b 13 ≡ true) ⊎ (eqb b 13 ≡ false) → (eqb b 10 ≡ true) ⊎ (eqb b 10 ≡ false)
      → Then h w t (sent_byte e b) (scrolled (Some h) (step w (glyph_stroke pen (pen.attributes t.rendition) (glyph_of b)) s))
  byte_cases h w b e t s some small plain a (inl holds) other =
      let typed : Sent = cond (eqb b 10) (sent_feed e) (sent_columns e 1 (b ∷ [])) in
      let drawn : Glyph = cond (eqb b 10) Lf (Cluster (b ∷ []) 1) in
      let sent_is : sent_byte e b ≡ sent_return e = ap (λ v. cond v (sent_return e) typed) holds in
      let drawn_is : glyph_of b ≡ Cr = ap (λ v. cond v Cr drawn) holds in
      subst (λ v. Then h w t v (scrolled (Some h) (step w (glyph_stroke pen (pen.attributes t.rendition) (glyph_of b)) s))) (sym sent_is)
      (subst (λ v. Then h w t (sent_return e) (scrolled (Some h) (step w (glyph_stroke pen (pen.attributes t.rendition) v) s))) (sym drawn_is) (returned h w e t s some a))
  byte_cases h w b e t s some small plain a (inr fails) (inl holds) =
      let typed : Sent = cond (eqb b 10) (sent_feed e) (sent_columns e 1 (b ∷ [])) in
      let drawn : Glyph = cond (eqb b 10) Lf (Cluster (b ∷ []) 1) in
      let sent_is : sent_byte e b ≡ sent_feed e = ap (λ v. cond v (sent_return e) typed) fails ∙ ap (λ v. cond v (sent_feed e) (sent_columns e 1 (b ∷ []))) holds in
      let drawn_is : glyph_of b ≡ Lf = ap (λ v. cond v Cr drawn) fails ∙ ap (λ v. let g : Glyph = cond v Lf (Cluster (b ∷ []) 1) in g) holds in
      subst (λ v. Then h w t v (scrolled (Some h) (step w (glyph_stroke pen (pen.attributes t.rendition) (glyph_of b)) s))) (sym sent_is)
      (subst (λ v. Then h w t (sent_feed e) (scrolled (Some h) (step w (glyph_stroke pen (pen.attributes t.rendition) v) s))) (sym drawn_is) (feed_cases h w e t s some small a (cases_lt s.col w) e.parted refl))
  byte_cases h w b e t s some small plain a (inr fails) (inr neither) =
      let typed : Sent = cond (eqb b 10) (sent_feed e) (sent_columns e 1 (b ∷ [])) in
      let drawn : Glyph = cond (eqb b 10) Lf (Cluster (b ∷ []) 1) in
      let sent_is : sent_byte e b ≡ sent_columns e 1 (b ∷ []) = ap (λ v. cond v (sent_return e) typed) fails ∙ ap (λ v. cond v (sent_feed e) (sent_columns e 1 (b ∷ []))) neither in
      let drawn_is : glyph_of b ≡ Cluster (b ∷ []) 1 = ap (λ v. cond v Cr drawn) fails ∙ ap (λ v. let g : Glyph = cond v Lf (Cluster (b ∷ []) 1) in g) neither in
      let printable : is_printable b ≡ true = ap (λ v. v || is_printable b) (sym (ap (λ v. v || eqb b 10) fails ∙ neither)) ∙ plain in
      subst (λ v. Then h w t v (scrolled (Some h) (step w (glyph_stroke pen (pen.attributes t.rendition) (glyph_of b)) s))) (sym sent_is)
      (subst (λ v. Then h w t (sent_columns e 1 (b ∷ [])) (scrolled (Some h) (step w (glyph_stroke pen (pen.attributes t.rendition) v) s))) (sym drawn_is)
      (columns_shown h w 1 (b ∷ []) (b ∷ []) e t s some (omega arith) (omega (arith, some)) (λ u text. text_write pen h w b u text printable) a))

  -- under the attributes that the encoder knows, which are those that are selected
  byte_shown : (h w b : ℕ) (e : Encoder) (t : EcmaScreen C) (s : PictureOf C) → 0 < w → w < 2 ^ 64 → is_plain b ≡ true → ShowsPicture pen h w e t s
      → Then h w t (sent_byte e b) (scrolled (Some h) (step w (glyph_stroke pen (pen.attributes e.attributes) (glyph_of b)) s))
  byte_shown h w b e t s some small plain a =
      subst (λ (v : CellAttributes). Then h w t (sent_byte e b) (scrolled (Some h) (step w (glyph_stroke pen (pen.attributes v) (glyph_of b)) s))) a.rendition
      (byte_cases h w b e t s some small plain a (cases_Bool _) (cases_Bool _))

  -- what is sent and drawn first, and what follows it
  then_more : (h w : ℕ) (first rest : Sent) (e : Encoder) (t : EcmaScreen C) (one others : List (Stroke C)) (s : PictureOf C)
      → Then h w (receive_all pen h w first.bytes t) rest (steps_on (Some h) w others (steps_on (Some h) w one s))
      → ShowsPicture pen h w rest.next (receive_all pen h w (first.bytes ++ rest.bytes) t) (steps_on (Some h) w (one ++ others) s)
  then_more h w first rest e t one others s shown =
      subst (λ u. ShowsPicture pen h w rest.next u (steps_on (Some h) w (one ++ others) s)) (sym (received pen h w first.bytes rest.bytes t))
      (subst (λ p. ShowsPicture pen h w rest.next (receive_all pen h w rest.bytes (receive_all pen h w first.bytes t)) p) (sym (steps_on-append (Some h) w one others s)) shown)

  abbrev known : Encoder → A
  known e = pen.attributes e.attributes

  plain_shown : (h w : ℕ) (text : List ℕ) (e : Encoder) (t : EcmaScreen C) (s : PictureOf C) → 0 < w → w < 2 ^ 64 → list_all is_plain text ≡ true → ShowsPicture pen h w e t s
      → Then h w t (sent_plain text e) (steps_on (Some h) w (map (glyph_stroke pen (known e)) (map glyph_of text)) s)
  plain_shown h w [] e t s some small plain a = a
  plain_shown h w (b ∷ text) e t s some small plain a =
      let x : Sent = sent_byte e b in
      let parts = and_parts _ _ plain in
      let one : List (Stroke C) = glyph_stroke pen (known e) (glyph_of b) ∷ [] in
      let drawn : PictureOf C = steps_on (Some h) w one s in
      let rest = plain_shown h w text x.next (receive_all pen h w x.bytes t) drawn some small parts.1 (byte_shown h w b e t s some small parts.0 a) in
      then_more h w x (sent_plain text x.next) e t one (map (glyph_stroke pen (known e)) (map glyph_of text)) s
      (subst (λ (v : CellAttributes). Then h w (receive_all pen h w x.bytes t) (sent_plain text x.next) (steps_on (Some h) w (map (glyph_stroke pen (pen.attributes v)) (map glyph_of text)) drawn)) (keeps_byte e b) rest)

  -- ---- clusters of any other text

  -- CR and LF, one after the other
  both_shown : (h w : ℕ) (e : Encoder) (t : EcmaScreen C) (s : PictureOf C) → 0 < w → ShowsPicture pen h w e t s
      → Then h w t (sent_return_feed e) (steps_on (Some h) w (Return ∷ Feed ∷ []) s)
  both_shown h w e t s some a =
      let start : PictureOf C = scrolled (Some h) (record s { col = 0 }) in
      let u : EcmaScreen C = receive pen h w 13 t in
      let first : ShowsPicture pen h w (at_column 0 e) u start = returned h w e t s some a in
      fed_idle h w (at_column 0 e) u (receive pen h w 10 u) start first (fed_to h w (at_column 0 e) u start first) (ap (λ x. x && true) (ne_eqb 0 w (λ q. omega (arith, q, some))))

  lone_shown : (h w : ℕ) (cluster : List ℕ) (e : Encoder) (t : EcmaScreen C) (s : PictureOf C) → JoinsMarks pen → 0 < w → is_lone w cluster ≡ true → ShowsPicture pen h w e t s
      → Then h w t (sent_columns e (cluster_width cluster) (shown_as cluster)) (scrolled (Some h) (put w (cluster_cells pen (pen.attributes t.rendition) cluster (cluster_width cluster)) s))
  lone_shown h w cluster e t s joins some lone a =
      let width : ℕ = cluster_width cluster in
      let p1 = and_parts (is_character width cluster) _ lone in
      let p2 = and_parts (not (list_any is_control (chars cluster))) (ltb 0 width && leb width w) p1.1 in
      let p3 = and_parts (ltb 0 width) (leb width w) p2.1 in
      let one : 0 < width = ltb-true _ _ p3.0 in
      let as_is : shown_as cluster ≡ cluster = ap (λ k. cond k (63 ∷ []) cluster) (not-true _ p2.0) in
      subst (λ l. Then h w t (sent_columns e width l) (scrolled (Some h) (put w (cluster_cells pen (pen.attributes t.rendition) cluster width) s))) (sym as_is)
      (columns_shown h w width cluster cluster e t s some one (leb-true _ _ p3.1) (λ u text. lone_received pen h w width cluster u joins text one p1.0) a)

  cluster_cases : (h w : ℕ) (cluster : List ℕ) (e : Encoder) (t : EcmaScreen C) (s : PictureOf C) → JoinsMarks pen → 0 < w → w < 2 ^ 64 → is_sent_cluster w cluster ≡ true → ShowsPicture pen h w e t s
      → Then h w t (sent_cluster e cluster) (steps_on (Some h) w (map (glyph_stroke pen (pen.attributes t.rendition)) (glyphs_of_piece cluster (cluster_piece cluster))) s)
  cluster_cases h w cluster e t s joins some small fits a = go (pointwise eqb cluster (13 ∷ [])) (pointwise eqb cluster (10 ∷ [])) (pointwise eqb cluster (13 ∷ 10 ∷ [])) fits
    where
      go : (x y z : Bool) → (x || (y || (z || is_lone w cluster))) ≡ true
          → Then h w t (cond x (sent_return e) (cond y (sent_feed e) (cond z (sent_return_feed e) (sent_columns e (cluster_width cluster) (shown_as cluster)))))
          (steps_on (Some h) w (map (glyph_stroke pen (pen.attributes t.rendition)) (glyphs_of_piece cluster (cond x piece.Cr (cond y piece.Lf (cond z piece.CrLf (piece.Wide (cluster_width cluster))))))) s)
      go true y z k = returned h w e t s some a
      go false true z k = feed_cases h w e t s some small a (cases_lt s.col w) e.parted refl
      go false false true k = both_shown h w e t s some a
      go false false false k = lone_shown h w cluster e t s joins some k a

  cluster_shown : (h w : ℕ) (cluster : List ℕ) (e : Encoder) (t : EcmaScreen C) (s : PictureOf C) → JoinsMarks pen → 0 < w → w < 2 ^ 64 → is_sent_cluster w cluster ≡ true → ShowsPicture pen h w e t s
      → Then h w t (sent_cluster e cluster) (steps_on (Some h) w (map (glyph_stroke pen (known e)) (glyphs_of_piece cluster (cluster_piece cluster))) s)
  cluster_shown h w cluster e t s joins some small fits a =
      subst (λ (v : CellAttributes). Then h w t (sent_cluster e cluster) (steps_on (Some h) w (map (glyph_stroke pen (pen.attributes v)) (glyphs_of_piece cluster (cluster_piece cluster))) s)) a.rendition
      (cluster_cases h w cluster e t s joins some small fits a)

  abbrev glyphs_in : List (List ℕ) → List Glyph
  glyphs_in clusters = flat_map (λ cluster. glyphs_of_piece cluster (cluster_piece cluster)) clusters

  clusters_shown : (h w : ℕ) (clusters : List (List ℕ)) (e : Encoder) (t : EcmaScreen C) (s : PictureOf C) → JoinsMarks pen → 0 < w → w < 2 ^ 64 → list_all (is_sent_cluster w) clusters ≡ true → ShowsPicture pen h w e t s
      → Then h w t (sent_clusters clusters e) (steps_on (Some h) w (map (glyph_stroke pen (known e)) (glyphs_in clusters)) s)
  clusters_shown h w [] e t s joins some small fits a = a
  clusters_shown h w (cluster ∷ more) e t s joins some small fits a =
      let x : Sent = sent_cluster e cluster in
      let parts = and_parts (is_sent_cluster w cluster) (list_all (is_sent_cluster w) more) fits in
      let glyphs_here : List Glyph = glyphs_of_piece cluster (cluster_piece cluster) in
      let one : List (Stroke C) = map (glyph_stroke pen (known e)) glyphs_here in
      let drawn : PictureOf C = steps_on (Some h) w one s in
      let rest = clusters_shown h w more x.next (receive_all pen h w x.bytes t) drawn joins some small parts.1 (cluster_shown h w cluster e t s joins some small parts.0 a) in
      subst (λ l. Then h w t (sent_clusters (cluster ∷ more) e) (steps_on (Some h) w l s)) (sym (map-append (glyph_stroke pen (known e)) glyphs_here (glyphs_in more)))
      (then_more h w x (sent_clusters more x.next) e t one (map (glyph_stroke pen (known e)) (glyphs_in more)) s
      (subst (λ (v : CellAttributes). Then h w (receive_all pen h w x.bytes t) (sent_clusters more x.next) (steps_on (Some h) w (map (glyph_stroke pen (pen.attributes v)) (glyphs_in more)) drawn)) (keeps_cluster e cluster) rest))

  -- ---- texts

  pub text_is_shown : TextIsShown pen
  unfolding is_sent glyphs
  text_is_shown h w text e t s joins some small fits a = go (list_all is_plain text) refl fits
    where
      go : (k : Bool) → list_all is_plain text ≡ k → (k || list_all (is_sent_cluster w) (graphemes true text)) ≡ true
          → Then h w t (cond k (sent_plain text e) (sent_clusters (graphemes true text) e))
          (steps_on (Some h) w (map (glyph_stroke pen (known e)) (cond k (flat_map (λ ch. glyphs_of_piece (ch ∷ []) (plain_piece ch)) text) (glyphs_in (graphemes true text)))) s)
      go true plain h1 =
          subst (λ l. Then h w t (sent_plain text e) (steps_on (Some h) w (map (glyph_stroke pen (known e)) l) s)) (sym (all_glyphs text)) (plain_shown h w text e t s some small plain a)
      go false plain h1 = clusters_shown h w (graphemes true text) e t s joins some small h1 a
