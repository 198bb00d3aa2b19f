-- A line feed on a terminal, and a picture that scrolls.
use Rattle.std.proofs.Common.{Some, ◌≡◌, ◌≤◌, ◌<◌, ◌+◌, ◌-◌, ℕ, false, cond, ltb, ap, subst, ◌∙◌, sym, refl, inl, inr, ◌⊎◌, arith}
use Rattle.std.proofs.lemmas.Bool.{eq-eqb, ne_eqb, lt-ltb, le-ltb, cases_eq, cases_lt}
use Rattle.laws_screens.specs.Strokes.{PictureOf, scrolled}
use Rattle.laws_screens.specs.Pens.{Pen}
use Rattle.tw_ansi.specs.declared.encode.Encoder.{Encoder}
use Rattle.tw_ansi.specs.EcmaScreen.{EcmaScreen, feed_line}
use Rattle.tw_ansi.specs.EcmaTexts.{IsOfRows, ShowsPicture}

-- a picture that does not scroll
pub still : {A C : Type 0} (pen : Pen A C) (h w : ℕ) (e : Encoder) (t : EcmaScreen C) (s : PictureOf C) → ShowsPicture pen h w e t s → ShowsPicture pen h w e t (scrolled (Some h) s)
still pen h w e t s a =
    let inside : s.row < h = a.within.row in
    record {
      within = record {
        row = omega (arith, inside);
        below = λ r c low. a.within.below (r + (s.row + 1 - h)) c (omega (arith, low));
      };
      edge = a.edge;
      cells = λ r c low left. a.cells r c low left ∙ ap (λ i. s.cell i c) (omega (arith, inside));
      row = omega (arith, a.row, inside);
      col = a.col;
      waits = a.waits;
      parted = a.parted;
      reading = a.reading;
      rendition = a.rendition;
      cols = a.cols;
      x = a.x;
    }

-- the terminal u is t after a line feed, as the rows of s go
pub record Fed {C : Type 0} (h w : ℕ) (t u : EcmaScreen C) (s : PictureOf C) : Type 0 where
  pub cells : (r c : ℕ) → r < h → c < w → u.cell r c ≡ s.cell (r + (s.row + 1 + 1 - h)) c
  pub row : u.row ≡ s.row + 1 - (s.row + 1 + 1 - h)
  pub col : u.col ≡ t.col
  pub waits : u.waits ≡ false
  pub reading : u.reading ≡ t.reading
  pub rendition : u.rendition ≡ t.rendition

-- a cell of the row that comes from below
cell_below : {C : Type 0} (blank : C) (h w : ℕ) (t : EcmaScreen C) (s : PictureOf C) (r c : ℕ) → IsOfRows blank h s → s.row + 1 ≡ h → ((i j : ℕ) → i < h → j < w → t.cell i j ≡ s.cell i j)
    → r < h → c < w → (r + 1 < h) ⊎ (h ≤ r + 1) → cond (ltb (r + 1) h) (t.cell (r + 1) c) blank ≡ s.cell (r + (s.row + 1 + 1 - h)) c
cell_below blank h w t s r c within last same low left (inl inside) =
    ap (λ x. cond x (t.cell (r + 1) c) blank) (lt-ltb (r + 1) h inside) ∙ same (r + 1) c inside left ∙ ap (λ i. s.cell i c) (omega (arith, last))
cell_below blank h w t s r c within last same low left (inr outside) =
    ap (λ x. cond x (t.cell (r + 1) c) blank) (le-ltb (r + 1) h outside) ∙ sym (within.below (r + (s.row + 1 + 1 - h)) c (omega (arith, last, outside)))

fed_cases : {C : Type 0} (blank : C) (h w : ℕ) (t : EcmaScreen C) (s : PictureOf C) → IsOfRows blank h s → t.row ≡ s.row → ((i j : ℕ) → i < h → j < w → t.cell i j ≡ s.cell i j)
    → (t.row + 1 ≡ h) ⊎ (t.row + 1 ≡ h → ⊥) → Fed h w t (feed_line blank h t) s
fed_cases {C} blank h w t s within row same (inl last) =
    let up : EcmaScreen C = record t { cell = λ r c. cond (ltb (r + 1) h) (t.cell (r + 1) c) blank; waits = false } in
    let down : EcmaScreen C = record t { row = t.row + 1; waits = false } in
    let is_up : feed_line blank h t ≡ up = ap (λ x. cond x up down) (eq-eqb (t.row + 1) h last) in
    let at_last : s.row + 1 ≡ h = omega (arith, row, last) in
    let fed : Fed h w t up s = record {
      cells = λ r c low left. cell_below blank h w t s r c within at_last same low left (cases_lt (r + 1) h);
      row = omega (arith, row, last);
      col = refl;
      waits = refl;
      reading = refl;
      rendition = refl;
    } in
    subst (λ u. Fed h w t u s) (sym is_up) fed
fed_cases {C} blank h w t s within row same (inr other) =
    let up : EcmaScreen C = record t { cell = λ r c. cond (ltb (r + 1) h) (t.cell (r + 1) c) blank; waits = false } in
    let down : EcmaScreen C = record t { row = t.row + 1; waits = false } in
    let is_down : feed_line blank h t ≡ down = ap (λ x. cond x up down) (ne_eqb (t.row + 1) h other) in
    let inside : s.row + 1 < h = lower h t.row s.row row within.row other in
    let fed : Fed h w t down s = record {
      cells = λ r c low left. same r c low left ∙ ap (λ i. s.cell i c) (omega (arith, inside));
      row = omega (arith, row, inside);
      col = refl;
      waits = refl;
      reading = refl;
      rendition = refl;
    } in
    subst (λ u. Fed h w t u s) (sym is_down) fed
  where
    lower : (h m n : ℕ) → m ≡ n → n < h → (m + 1 ≡ h → ⊥) → n + 1 < h
    lower h m n e below other = elim (cases_lt (n + 1) h) [ inl less ↦ less | inr more ↦ absurd (other (omega (arith, e, below, more))) ]

pub fed : {C : Type 0} (blank : C) (h w : ℕ) (t : EcmaScreen C) (s : PictureOf C) → IsOfRows blank h s → t.row ≡ s.row → ((i j : ℕ) → i < h → j < w → t.cell i j ≡ s.cell i j) → Fed h w t (feed_line blank h t) s
fed blank h w t s within row same = fed_cases blank h w t s within row same (cases_eq (t.row + 1) h)
