-- A picture as one line of cells: row r and column c at place r * w + c.
use Rattle.std.proofs.Common.{◌≡◌, ℕ, zero, suc, ◌+◌, ◌*◌, ◌<◌, ◌≤◌, Bool, true, false, ◌&&◌, ◌||◌, cond, eqb, ltb, leb, List, [], ◌∷◌, length, get_or, refl, sym, ◌∙◌, arith, ◌⊎◌, inl, inr}
use Rattle.std.proofs.lemmas.Bool.{cases_eq, cases_lt, eq-eqb, ne_eqb, eqb-true, eqb-false, and_left, and_right, cond-true, cond-false, le-leb, lt-leb, lt-ltb, le-ltb}
use Rattle.std.proofs.lemmas.Nat.{same_from_place, rows}
use Rattle.std.proofs.Math.Nat.{add-mul, one-mul}
use Rattle.tw_surface.specs.Pictures.{Picture, blank, cells_with, picture_with}

-- ---- one line of cells

abbrev pub point : ℕ → ℕ → (ℕ → ℕ) → ℕ → ℕ
point p ch f i = cond (eqb i p) ch (f i)

abbrev pub over : ℕ → List ℕ → (ℕ → ℕ) → ℕ → ℕ
over p [] f i = f i
over p (ch ∷ t) f i = over (p + 1) t (point p ch f) i

abbrev pub blank_from : ℕ → (ℕ → ℕ) → ℕ → ℕ
blank_from p f i = cond (leb p i) blank (f i)

pub over-outside : (p : ℕ) (t : List ℕ) (f : ℕ → ℕ) (i : ℕ) → (i < p) ⊎ (p + length t ≤ i) → over p t f i ≡ f i
over-outside p [] f i h = refl
over-outside p (ch ∷ t) f i (inl h) =
    over-outside (p + 1) t (point p ch f) i (inl (omega arith)) ∙ cond-false _ _ _ (ne_eqb i p (λ e. omega arith))
over-outside p (ch ∷ t) f i (inr h) =
    over-outside (p + 1) t (point p ch f) i (inr (omega arith)) ∙ cond-false _ _ _ (ne_eqb i p (λ e. omega arith))

pub over-inside : (p : ℕ) (t : List ℕ) (f : ℕ → ℕ) (k : ℕ) → k < length t → over p t f (p + k) ≡ get_or t k 0
over-inside p [] f k h = absurd (omega arith)
over-inside p (ch ∷ t) f zero h =
    over-outside (p + 1) t (point p ch f) (p + 0) (inl (omega arith)) ∙ cond-true _ _ _ (eq-eqb (p + 0) p (omega arith))
over-inside p (ch ∷ t) f (suc k) h =
    let e : p + suc k ≡ p + 1 + k = omega arith in
    rw e (over-inside (p + 1) t (point p ch f) k (omega arith))

-- ---- rows and columns

pub same_cell : (w r c i j : ℕ) → c < w → j < w → (eqb r i && eqb c j) ≡ eqb (r * w + c) (i * w + j)
same_cell w r c i j h k =
    elim (cases_eq (r * w + c) (i * w + j)) [
      | inl e ↦
          let p = same_from_place r c i j w h k e in
          rw (eq-eqb r i p.0, eq-eqb c j p.1, eq-eqb _ _ e) refl
      | inr n ↦
          elim (cases_eq r i) [
            | inl a ↦
                rw (ne_eqb _ _ n) (and_right (eqb r i) (eqb c j) (ne_eqb c j (λ b. n (rw (a, b) refl))))
            | inr a ↦ rw (ne_eqb _ _ n) (and_left (eqb r i) (eqb c j) (ne_eqb r i a))
          ]
    ]

pub below_row : (w r c i : ℕ) → r < i → c < w → r * w + c < i * w
below_row w r c i a h = grind (arith, rows)

leb_past : (a c j : ℕ) → leb c j ≡ leb (a + c) (a + j)
leb_past a c j =
    elim (cases_lt j c) [
      | inl h ↦ rw (lt-leb c j h) (sym (lt-leb (a + c) (a + j) (omega arith)))
      | inr h ↦ rw (le-leb c j h) (sym (le-leb (a + c) (a + j) (omega arith)))
    ]

pub next_row : (r w x : ℕ) → (r + 1) * w + x ≡ r * w + w + x
next_row r w x = omega (arith, add-mul r 1 w, one-mul w)

-- a cell is after another in its row or below where its place is
pub behind : (w r c i j : ℕ) → c < w → j < w → (ltb r i || (eqb r i && leb c j)) ≡ leb (r * w + c) (i * w + j)
behind w r c i j h k =
    elim (cases_lt r i) [
      | inl a ↦ rw (lt-ltb r i a) (sym (le-leb _ _ (omega (arith, below_row w r c i a h))))
      | inr a ↦ rw (le-ltb r i a)
          (elim (cases_eq r i) [
            | inl e ↦ rw (eq-eqb r i e, e) (leb_past (i * w) c j)
            | inr n ↦ rw (ne_eqb r i n) (sym (lt-leb _ _ (omega (arith, below_row w i j r (omega arith) k))))
          ])
    ]

-- the picture f on one line with the cursor at place p, where the column may wait at w
pub record Stands (w : ℕ) (s : Picture) (p : ℕ) (f : ℕ → ℕ) : Type 0 where
  pub at : (r c : ℕ) → c < w → s.cell r c ≡ f (r * w + c)
  pub place : s.row * w + s.col ≡ p
  pub within : s.col ≤ w

cells_with-at : (w ch : ℕ) (s : Picture) (f : ℕ → ℕ) (i j p : ℕ) → j < w → i * w + j ≡ p
    → ((r c : ℕ) → c < w → s.cell r c ≡ f (r * w + c))
    → (r c : ℕ) → c < w → cells_with s.cell i j ch r c ≡ point p ch f (r * w + c)
cells_with-at w ch s f i j p h e at r c k = rw (same_cell w r c i j k h, e, at r c k) refl

pub picture_with-stands : (w ch : ℕ) (s : Picture) (p : ℕ) (f : ℕ → ℕ) → 0 < w → Stands w s p f → Stands w (picture_with w ch s) (p + 1) (point p ch f)
picture_with-stands w ch s p f h t = go (eqb s.col w) refl
  where
    go : (b : Bool) → eqb s.col w ≡ b → Stands w (picture_with w ch s) (p + 1) (point p ch f)
    go true e =
        let e' : s.col ≡ w = eqb-true _ _ e in
        rw e (record {
          at = cells_with-at w ch s f (s.row + 1) 0 p h (omega (arith, next_row s.row w 0, t.place)) t.at;
          place = omega (arith, next_row s.row w 1, t.place);
          within = omega arith;
        })
    go false e =
        let n : s.col ≡ w → ⊥ = eqb-false _ _ e in
        let k : s.col < w = omega (arith, n, t.within) in
        rw e (record {
          at = cells_with-at w ch s f s.row s.col p k t.place t.at;
          place = omega (arith, t.place);
          within = omega arith;
        })

-- after a character the column is not 0
pub picture_with-col : (w ch : ℕ) (s : Picture) → 0 < (picture_with w ch s).col
picture_with-col w ch s = elim (eqb s.col w) as (λ b. 0 < (cond {A = Picture} b record { cell = cells_with s.cell (s.row + 1) 0 ch; row = s.row + 1; col = 1 } record { cell = cells_with s.cell s.row s.col ch; row = s.row; col = s.col + 1 }).col) [ true ↦ omega arith | false ↦ omega arith ]
