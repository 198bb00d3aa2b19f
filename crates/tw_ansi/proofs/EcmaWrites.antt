-- The cells of a character and its marks on a terminal, and on the picture that it shows.
use Rattle.std.proofs.Common.{Some, ◌≡◌, ◌≤◌, ◌<◌, ◌+◌, ◌-◌, ℕ, zero, suc, Bool, true, false, not, ◌&&◌, ◌||◌, cond, eqb, ltb, leb, min, List, [], ◌∷◌, ◌++◌, length, append_assoc, ap, subst, ◌∙◌, sym, refl, inl, inr, ◌⊎◌, arith}
use Rattle.std.proofs.lemmas.Bool.{eq-eqb, ne_eqb, le-ltb, lt-leb, le-leb, cases_eq, and_parts, or_cases, leb-true, eqb-true, false≢true}
use Rattle.std.specs.Prelude.{replicate}
use Rattle.std.proofs.lemmas.List.{append-nil}
use Rattle.std.proofs.Math.Path.{fun_ext}
use Rattle.tw_surface.specs.Characters.{is_printable}
use Rattle.laws_screens.specs.Strokes.{PictureOf, put_in, put_all, scrolled}
use Rattle.laws_screens.specs.Pens.{Pen, cluster_cells}
use Rattle.laws_screens.specs.Screens.{blank_of}
use Rattle.tw_ansi.specs.declared.encode.Encoder.{Encoder}
use Rattle.tw_ansi.specs.Encoding.{at_column}
use Rattle.tw_ansi.specs.EcmaScreen.{EcmaScreen, receive, receive_all, receive_by, return_to_start, step_back, feed_line, write, write_here, write_character, joined_in, join_mark, is_whole_character, columns_of}
use Rattle.tw_ansi.specs.EcmaScreen as terminal
use Rattle.tw_ansi.specs.EcmaTexts.{IsOfRows, ShowsPicture, are_marks, is_character_by, is_character, JoinsMarks}
use Rattle.tw_ansi.proofs.EcmaScrolls.{Fed, fed}

module _ {C : Type 0} where
  put_all-rows : (cells : List C) (f g : ℕ → ℕ → C) (h w r q k c : ℕ) → r + k ≡ q → ((i j : ℕ) → i < h → j < w → f i j ≡ g (i + k) j)
      → (i j : ℕ) → i < h → j < w → put_all f r c cells i j ≡ put_all g q c cells (i + k) j
  put_all-rows [] f g h w r q k c e same i j low left = same i j low left
  put_all-rows (x ∷ cells) f g h w r q k c e same i j low left =
      put_all-rows cells (put_in f r c x) (put_in g q c x) h w r q k (c + 1) e (λ m n a b. one m n a b) i j low left
    where
      one : (m n : ℕ) → m < h → n < w → put_in f r c x m n ≡ put_in g q c x (m + k) n
      one m n a b = ap (λ y. cond (y && eqb n c) x (f m n)) (row_test m (cases_eq m r)) ∙ ap (λ v. cond (eqb (m + k) q && eqb n c) x v) (same m n a b)
        where
          row_test : (m : ℕ) → (m ≡ r) ⊎ (m ≡ r → ⊥) → eqb m r ≡ eqb (m + k) q
          row_test m (inl a) = eq-eqb m r a ∙ sym (eq-eqb (m + k) q (omega (arith, a, e)))
          row_test m (inr n) = ne_eqb m r n ∙ sym (ne_eqb (m + k) q (λ z. n (omega (arith, z, e))))

  -- a row in which none of them is put
  pub put_all-other : (cells : List C) (f : ℕ → ℕ → C) (r c i j : ℕ) → (i ≡ r → ⊥) → put_all f r c cells i j ≡ f i j
  put_all-other [] f r c i j n = refl
  put_all-other (x ∷ cells) f r c i j n =
      put_all-other cells (put_in f r c x) r (c + 1) i j n ∙ ap (λ y. cond (y && eqb j c) x (f i j)) (ne_eqb i r n)

  -- ---- what is written

  -- the terminal u is t with these cells at its cursor, in a row in which they fit
  record Written (w : ℕ) (cells : List C) (t u : EcmaScreen C) : Type 0 where
    cell : u.cell ≡ put_all t.cell t.row t.col cells
    row : u.row ≡ t.row
    col : u.col ≡ min (t.col + length cells) (w - 1)
    waits : u.waits ≡ (eqb (t.col + length cells) w && true)
    reading : u.reading ≡ t.reading
    rendition : u.rendition ≡ t.rendition

  written : (w : ℕ) (cells : List C) (t : EcmaScreen C) → t.waits ≡ false → t.col + length cells ≤ w → Written w cells t (write_here w cells t)
  written w cells t idle room = elim (cases_eq (t.col + length cells) w) [
    | inl last ↦
        let now : EcmaScreen C = record t { cell = put_all t.cell t.row t.col cells; col = w - 1; waits = true; last = length cells } in
        let other : EcmaScreen C = record t { cell = put_all t.cell t.row t.col cells; col = t.col + length cells; last = length cells } in
        subst (Written w cells t) (sym (ap (λ x. cond x now other) (eq-eqb (t.col + length cells) w last)))
        (record { cell = refl; row = refl; col = omega (arith, last); waits = ap (λ x. x && true) (sym (eq-eqb (t.col + length cells) w last)); reading = refl; rendition = refl })
    | inr more ↦
        let now : EcmaScreen C = record t { cell = put_all t.cell t.row t.col cells; col = w - 1; waits = true; last = length cells } in
        let other : EcmaScreen C = record t { cell = put_all t.cell t.row t.col cells; col = t.col + length cells; last = length cells } in
        subst (Written w cells t) (sym (ap (λ x. cond x now other) (ne_eqb (t.col + length cells) w more)))
        (record { cell = refl; row = refl; col = omega (arith, more, room); waits = idle ∙ ap (λ x. x && true) (sym (ne_eqb (t.col + length cells) w more)); reading = refl; rendition = refl })
  ]

  -- writing where the cells fit, and where they do not
  pub writes_here : (blank : C) (h w : ℕ) (cells : List C) (t : EcmaScreen C) → t.waits ≡ false → t.col + length cells ≤ w → write blank h w cells t ≡ write_here w cells t
  writes_here blank h w cells t idle fits =
      let below : EcmaScreen C = write_here w cells (return_to_start (feed_line blank h t)) in
      let here : EcmaScreen C = write_here w cells t in
      ap (λ x. cond (x || ltb w (t.col + length cells)) below here) idle ∙ ap (λ x. cond x below here) (le-ltb w (t.col + length cells) fits)

  feed-col : (blank : C) (h : ℕ) (t : EcmaScreen C) → (feed_line blank h t).col ≡ t.col
  feed-col blank h t = go (eqb (t.row + 1) h)
    where
      go : (k : Bool) → (let r : EcmaScreen C = cond k (record t { cell = λ r c. cond (ltb (r + 1) h) (t.cell (r + 1) c) blank; waits = false }) (record t { row = t.row + 1; waits = false }) in r.col) ≡ t.col
      go true = refl
      go false = refl

module _ {A C : Type 0} (pen : Pen A C) where
  -- the picture with cells at its cursor, and in the first columns of the next row
  abbrev pub put_here : List C → PictureOf C → PictureOf C
  put_here cells s = record { cell = put_all s.cell s.row s.col cells; row = s.row; col = s.col + length cells }

  abbrev pub put_below : List C → PictureOf C → PictureOf C
  put_below cells s = record { cell = put_all s.cell (s.row + 1) 0 cells; row = s.row + 1; col = length cells }

  -- in the row
  pub written_inside : (h w : ℕ) (cells : List C) (e : Encoder) (t : EcmaScreen C) (s : PictureOf C) → ShowsPicture pen h w e t s → 0 < length cells → s.col + length cells ≤ w
      → ShowsPicture pen h w (at_column (e.x + length cells) e) (write (blank_of pen) h w cells t) (put_here cells s)
  written_inside h w cells e t s a some room =
      let idle : t.waits ≡ false = a.waits ∙ ap (λ x. x && not e.parted) (ne_eqb s.col w (λ q. omega (arith, q, some, room))) in
      let col : t.col ≡ s.col = omega (arith, a.col, some, room) in
      let fits : t.col + length cells ≤ w = omega (arith, col, room) in
      let u = written w cells t idle fits in
      subst (λ v. ShowsPicture pen h w (at_column (e.x + length cells) e) v (put_here cells s)) (sym (writes_here (blank_of pen) h w cells t idle fits))
      (record {
        within = record {
          row = a.within.row;
          below = λ r c low. put_all-other cells s.cell s.row s.col r c (λ q. omega (arith, q, a.within.row, low)) ∙ a.within.below r c low;
        };
        edge = room;
        cells = λ r c low left.
            ap (λ f. f r c) u.cell
            ∙ put_all-rows cells t.cell s.cell h w t.row s.row 0 t.col (omega (arith, a.row)) (λ i j p q. a.cells i j p q ∙ ap (λ x. s.cell x j) (omega arith)) r c low left
            ∙ ap (λ x. put_all s.cell s.row x cells (r + 0) c) col ∙ ap (λ n. put_all s.cell s.row s.col cells n c) (omega arith);
        row = u.row ∙ a.row;
        col = u.col ∙ ap (λ n. min (n + length cells) (w - 1)) col;
        waits = u.waits ∙ ap (λ n. eqb (n + length cells) w && true) col;
        parted = λ y. absurd (cc y);
        reading = u.reading ∙ a.reading;
        rendition = u.rendition ∙ a.rendition;
        cols = a.cols;
        x = ap (λ n. n + length cells) a.x;
      })

  -- in the first columns of the next row
  pub wrapped : (h w : ℕ) (cells : List C) (e : Encoder) (t u : EcmaScreen C) (s : PictureOf C) → IsOfRows (blank_of pen) h s → length cells ≤ w → e.cols ≡ w → Fed h w t u s → u.col ≡ 0 → u.reading ≡ terminal.Text → u.rendition ≡ e.attributes
      → ShowsPicture pen h w (at_column (length cells) e) (write_here w cells u) (scrolled (Some h) (put_below cells s))
  wrapped h w cells e t u s within narrow cols fed col reading rendition =
      let v = written w cells u fed.waits (omega (arith, col, narrow)) in
      record {
        within = record {
          row = omega (arith, within.row);
          below = λ r c low. put_all-other cells s.cell (s.row + 1) 0 (r + (s.row + 1 + 1 - h)) c (λ q. omega (arith, q, within.row, low)) ∙ within.below (r + (s.row + 1 + 1 - h)) c (omega (arith, low));
        };
        edge = narrow;
        cells = λ r c low left.
            ap (λ f. f r c) v.cell ∙ ap (λ x. put_all u.cell u.row x cells r c) col
            ∙ put_all-rows cells u.cell s.cell h w u.row (s.row + 1) (s.row + 1 + 1 - h) 0 (omega (arith, fed.row, within.row)) fed.cells r c low left;
        row = v.row ∙ fed.row;
        col = v.col ∙ omega (arith, col);
        waits = v.waits ∙ ap (λ n. eqb n w && true) (omega (arith, col));
        parted = λ x. absurd (cc x);
        reading = v.reading ∙ reading;
        rendition = v.rendition ∙ rendition;
        cols = cols;
        x = refl;
      }

  -- ---- what the terminal makes of the bytes of a character

  -- a printable character outside a sequence is written
  pub text_write : (h w b : ℕ) (t : EcmaScreen C) → t.reading ≡ terminal.Text → is_printable b ≡ true
      → receive pen h w b t ≡ write (blank_of pen) h w (cluster_cells pen (pen.attributes t.rendition) (b ∷ []) 1) t
  text_write h w b t text printable =
      let low : 32 ≤ b = leb-true 32 b (and_parts _ _ printable).0 in
      let fed : EcmaScreen C = feed_line (blank_of pen) h t in
      let written : EcmaScreen C = write (blank_of pen) h w (cluster_cells pen (pen.attributes t.rendition) (b ∷ []) 1) t in
      let begun : EcmaScreen C = cond (leb 194 b) (record t { reading = terminal.Begun (b ∷ []) }) t in
      let last : EcmaScreen C = cond (is_printable b) written begun in
      let back : EcmaScreen C = step_back t in
      ap (λ r. receive_by pen h w r b t) text
      ∙ ap (λ x. cond x (record t { reading = terminal.Escaped }) (cond (eqb b 13) (return_to_start t) (cond (eqb b 10) fed (cond (eqb b 8) back last)))) (ne_eqb b 27 (λ e. omega arith))
      ∙ ap (λ x. cond x (return_to_start t) (cond (eqb b 10) fed (cond (eqb b 8) back last))) (ne_eqb b 13 (λ e. omega arith))
      ∙ ap (λ x. cond x fed (cond (eqb b 8) back last)) (ne_eqb b 10 (λ e. omega arith))
      ∙ ap (λ x. cond x back last) (ne_eqb b 8 (λ e. omega arith))
      ∙ ap (λ x. cond x written begun) printable

  -- the first byte of several begins a character
  pub begins : (h w b : ℕ) (t : EcmaScreen C) → t.reading ≡ terminal.Text → 194 ≤ b → receive pen h w b t ≡ record t { reading = terminal.Begun (b ∷ []) }
  begins h w b t text high =
      let fed : EcmaScreen C = feed_line (blank_of pen) h t in
      let written : EcmaScreen C = write (blank_of pen) h w (cluster_cells pen (pen.attributes t.rendition) (b ∷ []) 1) t in
      let now : EcmaScreen C = record t { reading = terminal.Begun (b ∷ []) } in
      let begun : EcmaScreen C = cond (leb 194 b) now t in
      let last : EcmaScreen C = cond (is_printable b) written begun in
      let back : EcmaScreen C = step_back t in
      ap (λ r. receive_by pen h w r b t) text
      ∙ ap (λ x. cond x (record t { reading = terminal.Escaped }) (cond (eqb b 13) (return_to_start t) (cond (eqb b 10) fed (cond (eqb b 8) back last)))) (ne_eqb b 27 (λ e. omega (arith, e, high)))
      ∙ ap (λ x. cond x (return_to_start t) (cond (eqb b 10) fed (cond (eqb b 8) back last))) (ne_eqb b 13 (λ e. omega (arith, e, high)))
      ∙ ap (λ x. cond x fed (cond (eqb b 8) back last)) (ne_eqb b 10 (λ e. omega (arith, e, high)))
      ∙ ap (λ x. cond x back last) (ne_eqb b 8 (λ e. omega (arith, e, high)))
      ∙ ap (λ x. cond (leb 32 b && x) written begun) (lt-leb b 126 (omega (arith, high)))
      ∙ ap (λ x. cond x written begun) (none (leb 32 b))
      ∙ ap (λ x. cond x now t) (le-leb 194 b high)
    where
      none : (k : Bool) → (k && false) ≡ false
      none true = refl
      none false = refl

  -- ---- marks

  -- what is written after the first cell does not change it, and what is written there changes nothing else
  put_all-kept : (cells : List C) (f : ℕ → ℕ → C) (r c i j : ℕ) → j < c → put_all f r c cells i j ≡ f i j
  put_all-kept [] f r c i j less = refl
  put_all-kept (x ∷ cells) f r c i j less =
      put_all-kept cells (put_in f r c x) r (c + 1) i j (omega arith) ∙ ap (λ y. cond y x (f i j)) (none (eqb i r) (ne_eqb j c (λ e. omega (arith, e, less))))
    where
      none : (k : Bool) → eqb j c ≡ false → (k && eqb j c) ≡ false
      none true e = e
      none false e = refl

  put_all-same : (cells : List C) (f g : ℕ → ℕ → C) (r c i j : ℕ) → f i j ≡ g i j → put_all f r c cells i j ≡ put_all g r c cells i j
  put_all-same [] f g r c i j e = e
  put_all-same (x ∷ cells) f g r c i j e = put_all-same cells (put_in f r c x) (put_in g r c x) r (c + 1) i j (ap (λ y. cond (eqb i r && eqb j c) x y) e)

  joined_put : (f : ℕ → ℕ → C) (r c : ℕ) (x : C) (more : List C) (mark : List ℕ) (i j : ℕ) → joined_in pen.join (put_all f r c (x ∷ more)) r c mark i j ≡ put_all f r c (pen.join x mark ∷ more) i j
  joined_put f r c x more mark i j = elim (cases_eq i r) [
    | inr n ↦
        ap (λ y. cond (y && eqb j c) (pen.join (put_all f r c (x ∷ more) i j) mark) (put_all f r c (x ∷ more) i j)) (ne_eqb i r n)
        ∙ put_all-other (x ∷ more) f r c i j n ∙ sym (put_all-other (pen.join x mark ∷ more) f r c i j n)
    | inl e ↦ elim (cases_eq j c) [
      | inr n ↦
          ap (λ y. cond y (pen.join (put_all f r c (x ∷ more) i j) mark) (put_all f r c (x ∷ more) i j)) (off (eqb i r) (ne_eqb j c n))
          ∙ put_all-same more (put_in f r c x) (put_in f r c (pen.join x mark)) r (c + 1) i j
          (ap (λ y. cond y x (f i j)) (off (eqb i r) (ne_eqb j c n)) ∙ sym (ap (λ y. cond y (pen.join x mark) (f i j)) (off (eqb i r) (ne_eqb j c n))))
      | inl d ↦
          let here : (eqb i r && eqb j c) ≡ true = ap (λ y. y && eqb j c) (eq-eqb i r e) ∙ eq-eqb j c d in
          let head : (y : C) → put_all f r c (y ∷ more) i j ≡ y = λ y. put_all-kept more (put_in f r c y) r (c + 1) i j (omega (arith, d)) ∙ ap (λ k. cond k y (f i j)) here in
          ap (λ y. cond y (pen.join (put_all f r c (x ∷ more) i j) mark) (put_all f r c (x ∷ more) i j)) here
          ∙ ap (λ y. pen.join y mark) (head x) ∙ sym (head (pen.join x mark))
    ]
  ]
    where
      off : (k : Bool) → eqb j c ≡ false → (k && eqb j c) ≡ false
      off true e = e
      off false e = refl

  -- a mark joins what was written in a row in which it fits
  here_joined : (w : ℕ) (x : C) (more : List C) (mark : List ℕ) (t : EcmaScreen C) → t.waits ≡ false → join_mark pen w mark (write_here w (x ∷ more) t) ≡ write_here w (pen.join x mark ∷ more) t
  here_joined w x more mark t idle = elim (cases_eq (t.col + length (x ∷ more)) w) [
    | inl last ↦
        let at : w - length (x ∷ more) ≡ t.col = omega (arith, last) in
        rw (eq-eqb (t.col + length (x ∷ more)) w last)
        (ap (λ n. record t { cell = joined_in pen.join (put_all t.cell t.row t.col (x ∷ more)) t.row n mark; col = w - 1; waits = true; last = length (x ∷ more) }) at
        ∙ ap (λ f. record t { cell = f; col = w - 1; waits = true; last = length (x ∷ more) }) (fun_ext (λ i. fun_ext (λ j. joined_put t.cell t.row t.col x more mark i j))))
    | inr inside ↦
        let at : t.col + length (x ∷ more) - length (x ∷ more) ≡ t.col = omega arith in
        rw (ne_eqb (t.col + length (x ∷ more)) w inside)
        (ap (λ k. record t { cell = joined_in pen.join (put_all t.cell t.row t.col (x ∷ more)) t.row ((cond k w (t.col + length (x ∷ more))) - length (x ∷ more)) mark; col = t.col + length (x ∷ more); last = length (x ∷ more) }) idle
        ∙ ap (λ n. record t { cell = joined_in pen.join (put_all t.cell t.row t.col (x ∷ more)) t.row n mark; col = t.col + length (x ∷ more); last = length (x ∷ more) }) at
        ∙ ap (λ f. record t { cell = f; col = t.col + length (x ∷ more); last = length (x ∷ more) }) (fun_ext (λ i. fun_ext (λ j. joined_put t.cell t.row t.col x more mark i j))))
  ]

  write_joined : (h w : ℕ) (x : C) (more : List C) (mark : List ℕ) (t : EcmaScreen C) → join_mark pen w mark (write (blank_of pen) h w (x ∷ more) t) ≡ write (blank_of pen) h w (pen.join x mark ∷ more) t
  write_joined h w x more mark t = go t.waits refl (ltb w (t.col + length (x ∷ more)))
    where
      go : (k : Bool) → t.waits ≡ k → (q : Bool)
          → join_mark pen w mark (cond (k || q) (write_here w (x ∷ more) (return_to_start (feed_line (blank_of pen) h t))) (write_here w (x ∷ more) t))
          ≡ cond (k || q) (write_here w (pen.join x mark ∷ more) (return_to_start (feed_line (blank_of pen) h t))) (write_here w (pen.join x mark ∷ more) t)
      go true is q = here_joined w x more mark (return_to_start (feed_line (blank_of pen) h t)) refl
      go false is true = here_joined w x more mark (return_to_start (feed_line (blank_of pen) h t)) refl
      go false is false = here_joined w x more mark t is

  -- ---- a character and its marks

  feed_reading : (h : ℕ) (t : EcmaScreen C) → (feed_line (blank_of pen) h t).reading ≡ t.reading
  feed_reading h t = go (eqb (t.row + 1) h)
    where
      go : (k : Bool) → (let r : EcmaScreen C = cond k (record t { cell = λ r c. cond (ltb (r + 1) h) (t.cell (r + 1) c) (blank_of pen); waits = false }) (record t { row = t.row + 1; waits = false }) in r.reading) ≡ t.reading
      go true = refl
      go false = refl

  here_reading : (w : ℕ) (cells : List C) (t : EcmaScreen C) → (write_here w cells t).reading ≡ t.reading
  here_reading w cells t = go (eqb (t.col + length cells) w)
    where
      go : (k : Bool) → (let r : EcmaScreen C = cond k (record t { cell = put_all t.cell t.row t.col cells; col = w - 1; waits = true; last = length cells }) (record t { cell = put_all t.cell t.row t.col cells; col = t.col + length cells; last = length cells }) in r.reading) ≡ t.reading
      go true = refl
      go false = refl

  write_reading : (h w : ℕ) (cells : List C) (t : EcmaScreen C) → (write (blank_of pen) h w cells t).reading ≡ t.reading
  write_reading h w cells t = go (t.waits || ltb w (t.col + length cells))
    where
      go : (k : Bool) → (let r : EcmaScreen C = cond k (write_here w cells (return_to_start (feed_line (blank_of pen) h t))) (write_here w cells t) in r.reading) ≡ t.reading
      go true = here_reading w cells (return_to_start (feed_line (blank_of pen) h t)) ∙ feed_reading h t
      go false = here_reading w cells t

  module _ (joins : JoinsMarks pen) (h w more_columns : ℕ) (t : EcmaScreen C) (text : t.reading ≡ terminal.Text) where
    -- the terminal with a cluster written
    abbrev wrote : List ℕ → EcmaScreen C
    wrote cluster = write (blank_of pen) h w (cluster_cells pen (pen.attributes t.rendition) cluster (suc more_columns)) t

    wrote_text : (cluster : List ℕ) → record (wrote cluster) { reading = terminal.Text } ≡ wrote cluster
    wrote_text cluster = ap (λ r. record (wrote cluster) { reading = r }) (sym (write_reading h w (cluster_cells pen (pen.attributes t.rendition) cluster (suc more_columns)) t ∙ text))

    mark_joined : (cluster mark : List ℕ) → join_mark pen w mark (wrote cluster) ≡ wrote (cluster ++ mark)
    mark_joined cluster mark =
        let a : A = pen.attributes t.rendition in
        write_joined h w (pen.ink a cluster) (replicate more_columns (pen.rest a)) mark t
        ∙ ap (λ x. write (blank_of pen) h w (x ∷ replicate more_columns (pen.rest a)) t) (joins a cluster mark)

    -- so much of a mark has come
    abbrev with_begun : List ℕ → EcmaScreen C → EcmaScreen C
    with_begun [] u = u
    with_begun (lead ∷ begun) u = record u { reading = terminal.Begun (lead ∷ begun) }

    marks_received : (bytes cluster begun : List ℕ) → are_marks begun bytes ≡ true → receive_all pen h w bytes (with_begun begun (wrote cluster)) ≡ wrote (cluster ++ (begun ++ bytes))
    marks_received [] cluster [] fits = ap wrote (sym (append-nil cluster))
    marks_received [] cluster (b ∷ begun) fits = absurd (false≢true fits)
    marks_received (b ∷ bytes) cluster [] fits =
        let both = and_parts (leb 194 b) (are_marks (b ∷ []) bytes) fits in
        ap (receive_all pen h w bytes) (begins h w b (wrote cluster) (write_reading h w (cluster_cells pen (pen.attributes t.rendition) cluster (suc more_columns)) t ∙ text) (leb-true _ _ both.0))
        ∙ marks_received bytes cluster (b ∷ []) both.1
    marks_received (b ∷ bytes) cluster (lead ∷ begun) fits =
        go (λ c. marks_received bytes c []) (marks_received bytes cluster mark) (is_whole_character mark) fits
      where
        mark : List ℕ
        mark = lead ∷ (begun ++ b ∷ [])

        go : ((c : List ℕ) → are_marks [] bytes ≡ true → receive_all pen h w bytes (wrote c) ≡ wrote (c ++ ([] ++ bytes)))
            → (are_marks mark bytes ≡ true → receive_all pen h w bytes (with_begun mark (wrote cluster)) ≡ wrote (cluster ++ (mark ++ bytes)))
            → (k : Bool) → cond k (eqb (columns_of mark) 0 && are_marks [] bytes) (are_marks mark bytes) ≡ true
            → receive_all pen h w bytes (cond k (write_character pen h w mark (record (wrote cluster) { reading = terminal.Text })) (record (wrote cluster) { reading = terminal.Begun mark }))
            ≡ wrote (cluster ++ ((lead ∷ begun) ++ b ∷ bytes))
        go rest on true both0 =
            let both = and_parts (eqb (columns_of mark) 0) (are_marks [] bytes) both0 in
            ap (receive_all pen h w bytes) (
            ap (write_character pen h w mark) (wrote_text cluster)
            ∙ ap (λ k. let v : EcmaScreen C = cond k (join_mark pen w mark (wrote cluster)) (write (blank_of pen) h w (cluster_cells pen (pen.attributes (wrote cluster).rendition) mark (columns_of mark)) (wrote cluster)) in v) both.0
            ∙ mark_joined cluster mark)
            ∙ rest (cluster ++ mark) both.1
            ∙ ap wrote (append_assoc cluster mark bytes ∙ ap (λ l. cluster ++ (lead ∷ l)) (append_assoc begun (b ∷ []) bytes))
        go rest on false fits = on fits ∙ ap wrote (ap (λ l. cluster ++ (lead ∷ l)) (append_assoc begun (b ∷ []) bytes))

    -- the character
    base_received : (bytes begun : List ℕ) → is_character_by (suc more_columns) begun bytes ≡ true → receive_all pen h w bytes (record t { reading = terminal.Begun begun }) ≡ wrote (begun ++ bytes)
    base_received [] begun fits = absurd (false≢true fits)
    base_received (b ∷ bytes) begun fits = go (base_received bytes character) (is_whole_character character) fits
      where
        character : List ℕ
        character = begun ++ b ∷ []

        go : (is_character_by (suc more_columns) character bytes ≡ true → receive_all pen h w bytes (record t { reading = terminal.Begun character }) ≡ wrote (character ++ bytes))
            → (k : Bool) → cond k (eqb (columns_of character) (suc more_columns) && are_marks [] bytes) (is_character_by (suc more_columns) character bytes) ≡ true
            → receive_all pen h w bytes (cond k (write_character pen h w character (record t { reading = terminal.Text })) (record t { reading = terminal.Begun character }))
            ≡ wrote (begun ++ b ∷ bytes)
        go on true both0 =
            let both = and_parts (eqb (columns_of character) (suc more_columns)) (are_marks [] bytes) both0 in
            let columns : columns_of character ≡ suc more_columns = eqb-true _ _ both.0 in
            let same : record t { reading = terminal.Text } ≡ t = ap (λ r. record t { reading = r }) (sym text) in
            ap (receive_all pen h w bytes) (
            ap (write_character pen h w character) same
            ∙ ap (λ n. let v : EcmaScreen C = cond (eqb n 0) (join_mark pen w character t) (write (blank_of pen) h w (cluster_cells pen (pen.attributes t.rendition) character n) t) in v) columns
            ∙ ap (λ k. let v : EcmaScreen C = cond k (join_mark pen w character t) (wrote character) in v) (ne_eqb (suc more_columns) 0 (λ z. omega (arith, z))))
            ∙ marks_received bytes character [] both.1
            ∙ ap wrote (append_assoc begun (b ∷ []) bytes)
        go on false fits = on fits ∙ ap wrote (append_assoc begun (b ∷ []) bytes)

    cluster_received : (cluster : List ℕ) → is_character (suc more_columns) cluster ≡ true → receive_all pen h w cluster t ≡ wrote cluster
    cluster_received [] fits = absurd (false≢true fits)
    cluster_received (lead ∷ bytes) fits = elim (or_cases _ _ fits) [
      | inl printable ↦
          let both = and_parts (is_printable lead) (eqb (suc more_columns) 1 && are_marks [] bytes) printable in
          let rest = and_parts (eqb (suc more_columns) 1) (are_marks [] bytes) both.1 in
          let none : suc more_columns ≡ 1 = eqb-true _ _ rest.0 in
          ap (receive_all pen h w bytes) (text_write h w lead t text both.0
          ∙ ap (λ n. write (blank_of pen) h w (cluster_cells pen (pen.attributes t.rendition) (lead ∷ []) n) t) (sym none))
          ∙ marks_received bytes (lead ∷ []) [] rest.1
      | inr several ↦
          let both = and_parts (leb 194 lead) (is_character_by (suc more_columns) (lead ∷ []) bytes) several in
          ap (receive_all pen h w bytes) (begins h w lead t text (leb-true _ _ both.0)) ∙ base_received bytes (lead ∷ []) both.1
    ]

  -- a character and its marks are written by its columns
  pub lone_received : (h w width : ℕ) (cluster : List ℕ) (t : EcmaScreen C) → JoinsMarks pen → t.reading ≡ terminal.Text → 0 < width → is_character width cluster ≡ true
      → receive_all pen h w cluster t ≡ write (blank_of pen) h w (cluster_cells pen (pen.attributes t.rendition) cluster width) t
  lone_received h w zero cluster t joins text some fits = absurd (omega arith)
  lone_received h w (suc more) cluster t joins text some fits = cluster_received joins h w more t text cluster fits
