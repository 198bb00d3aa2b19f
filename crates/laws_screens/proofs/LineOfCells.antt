-- A picture as one line of cells: row r and column c at place r * w + c.
use Rattle.std.proofs.Common.{◌≡◌, ℕ, zero, suc, ◌+◌, ◌-◌, ◌*◌, ◌/◌, ◌%◌, ◌<◌, ◌≤◌, Bool, true, false, cond, eqb, leb, List, [], ◌∷◌, ◌++◌, length, length-append, refl, sym, ap, ◌∙◌, arith, add-zero, ◌⊎◌, inr, slice_index_or, replicate}
use Rattle.std.specs.List.{list_all}
use Rattle.std.proofs.lemmas.Bool.{ne_eqb, cond-false, and_parts, leb-true}
use Rattle.std.proofs.lemmas.List.{append_assoc, length-replicate}
use Rattle.std.proofs.lemmas.Bool.Decides.{nat_tests}
use Rattle.std.proofs.lemmas.Nat.{div-mul-add, mod-mul-add}
use Rattle.std.proofs.Math.Nat.{mul-add-div_right, mul-add-mod_self_right}
pub use Rattle.tw_surface.proofs.LineOfCells.{same_cell, below_row, next_row, behind as behind_cell}
use Rattle.laws_screens.specs.Strokes.{PictureOf, Stroke, put_in, put_all, cleared_in, put, step, steps}
use Rattle.laws_screens.specs.Sheets.{typed, laid, is_narrow}

-- ---- division

pub at_row : (w s k : ℕ) → 0 < w → (s * w + k) / w ≡ s + k / w
at_row w s k h = mul-add-div_right h s k

pub at_col : (w s k : ℕ) → (s * w + k) % w ≡ k % w
at_col w s k = mul-add-mod_self_right s w k

module _ {C : Type 0} where
  -- ---- one line of cells

  abbrev pub point : ℕ → C → (ℕ → C) → ℕ → C
  point p x f i = cond (eqb i p) x (f i)

  abbrev pub over : ℕ → List C → (ℕ → C) → ℕ → C
  over p [] f i = f i
  over p (x ∷ t) f i = over (p + 1) t (point p x f) i

  abbrev pub all_from : C → ℕ → (ℕ → C) → ℕ → C
  all_from b p f i = cond (leb p i) b (f i)

  pub over-outside : (p : ℕ) (t : List C) (f : ℕ → C) (i : ℕ) → (i < p) ⊎ (p + length t ≤ i) → over p t f i ≡ f i
  over-outside p [] f i h = refl
  over-outside p (x ∷ t) f i h = grind (arith, nat_tests, h, over-outside (p + 1) t (point p x f) i)

  pub over-inside : (d : C) (p : ℕ) (t : List C) (f : ℕ → C) (k : ℕ) → k < length t → over p t f (p + k) ≡ slice_index_or t k d
  over-inside d p [] f k h = absurd (omega arith)
  over-inside d p (x ∷ t) f zero h = grind (arith, nat_tests, over-outside (p + 1) t (point p x f) (p + 0))
  over-inside d p (x ∷ t) f (suc k) h = let e : p + suc k ≡ p + 1 + k = omega arith in rw e (over-inside d (p + 1) t (point p x f) k (omega arith))

  -- the same cells over the same ones
  pub over-same : (p : ℕ) (t : List C) (f g : ℕ → C) → ((i : ℕ) → f i ≡ g i) → (i : ℕ) → over p t f i ≡ over p t g i
  over-same p [] f g h i = h i
  over-same p (x ∷ t) f g h i = over-same (p + 1) t (point p x f) (point p x g) (λ j. ap (λ y. cond (eqb j p) x y) (h j)) i

  -- two texts are one
  pub over-append : (p : ℕ) (t u : List C) (f : ℕ → C) (i : ℕ) → over p (t ++ u) f i ≡ over (p + length t) u (over p t f) i
  over-append p [] u f i = ap (λ q. over q u f i) (sym (add-zero p))
  over-append p (x ∷ t) u f i = over-append (p + 1) t u (point p x f) i ∙ ap (λ q. over q u (over (p + 1) t (point p x f)) i) (omega arith)

  -- where all is b from a place on, b over it changes nothing
  pub over-blanks : (b : C) (p k : ℕ) (f : ℕ → C) → ((i : ℕ) → p ≤ i → f i ≡ b) → (i : ℕ) → over p (replicate k b) f i ≡ f i
  over-blanks b p zero f h i = refl
  over-blanks b p (suc k) f h i =
      over-blanks b (p + 1) k (point p b f) (λ j q. cond-false _ _ _ (ne_eqb j p (λ e. omega arith)) ∙ h j (omega arith)) i
      ∙ grind (arith, nat_tests, h i)

  -- ---- a picture

  -- the picture f on one line with the cursor at place p, where the column may wait at w
  pub record Stands (w : ℕ) (s : PictureOf C) (p : ℕ) (f : ℕ → C) : Type 0 where
    pub at : (r c : ℕ) → c < w → s.cell r c ≡ f (r * w + c)
    pub place : s.row * w + s.col ≡ p
    pub within : s.col ≤ w

  -- the cells of a cluster, in one row
  put_all-at : (w : ℕ) (cells : List C) (cell : ℕ → ℕ → C) (f : ℕ → C) (i j p : ℕ) → j + length cells ≤ w → i * w + j ≡ p
      → ((r c : ℕ) → c < w → cell r c ≡ f (r * w + c))
      → (r c : ℕ) → c < w → put_all cell i j cells r c ≡ over p cells f (r * w + c)
  put_all-at w [] cell f i j p h e at r c k = at r c k
  put_all-at w (x ∷ cells) cell f i j p h e at r c k =
      put_all-at w cells (put_in cell i j x) (point p x f) i (j + 1) (p + 1) (omega arith) (omega (arith, e))
      (λ r c k. rw (same_cell w r c i j k (omega arith), e, at r c k) refl) r c k

  -- the places that it skips, and the column in which it begins
  abbrev pub skips : ℕ → ℕ → List C → ℕ
  skips w x cells = cond (leb (x + length cells) w) 0 (w - x)

  put-stands : (w : ℕ) (cells : List C) (s : PictureOf C) (p : ℕ) (f : ℕ → C) → 0 < w → length cells ≤ w → Stands w s p f
      → Stands w (put w cells s) (p + skips w s.col cells + length cells) (over (p + skips w s.col cells) cells f)
  put-stands w cells s p f h narrow t = go (leb (s.col + length cells) w) refl
    where
      go : (k : Bool) → leb (s.col + length cells) w ≡ k → Stands w (put w cells s) (p + skips w s.col cells + length cells) (over (p + skips w s.col cells) cells f)
      go true e =
          let room : s.col + length cells ≤ w = leb-true _ _ e in
          rw (e, add-zero p) (record {
            at = put_all-at w cells s.cell f s.row s.col p room t.place t.at;
            place = omega (arith, t.place);
            within = room;
          })
      go false e =
          let start : (s.row + 1) * w + 0 ≡ p + (w - s.col) = omega (arith, next_row s.row w 0, t.place, t.within) in
          rw e (record {
            at = put_all-at w cells s.cell f (s.row + 1) 0 (p + (w - s.col)) (omega (arith, narrow)) start t.at;
            place = omega (arith, start);
            within = narrow;
          })

  -- a cluster of one cell is put where the cursor stands, or in the first cell of the next row
  pub put-one : (w : ℕ) (x : C) (s : PictureOf C) → s.col ≤ w
      → put w (x ∷ []) s ≡ cond (eqb s.col w) (record { cell = put_in s.cell (s.row + 1) 0 x; row = s.row + 1; col = 1 }) (record { cell = put_in s.cell s.row s.col x; row = s.row; col = s.col + 1 })
  put-one w x s within = grind (arith, nat_tests)

  pub cleared-stands : (w : ℕ) (x : C) (s : PictureOf C) (p : ℕ) (f : ℕ → C) → s.col < w → Stands w s p f
      → Stands w (record s { cell = cleared_in s.cell s.row s.col x }) p (all_from x p f)
  cleared-stands w x s p f h t = record {
    at = λ r c k. rw (behind_cell w s.row s.col r c h k, t.place, t.at r c k) refl;
    place = t.place;
    within = t.within;
  }

  -- the same picture, its cells told otherwise
  pub stands-as : (w : ℕ) (s : PictureOf C) (p q : ℕ) (f g : ℕ → C) → p ≡ q → ((i : ℕ) → f i ≡ g i) → Stands w s p f → Stands w s q g
  stands-as w s p q f g e h t = record { at = λ r c k. t.at r c k ∙ h (r * w + c); place = t.place ∙ e; within = t.within }

  -- what is laid of a cluster and of those after it
  pub laid-put : (w : ℕ) (b : C) (cells : List C) (t : List (List C)) (s : PictureOf C)
      → laid b w s.col (cells ∷ t) ≡ replicate (skips w s.col cells) b ++ (cells ++ laid b w (put w cells s).col t)
  laid-put w b cells t s = grind (arith, nat_tests)

  -- of two texts the second one is laid where the first one leaves the cursor
  pub laid-append : (w : ℕ) (b : C) (t u : List (List C)) (s : PictureOf C)
      → laid b w s.col (t ++ u) ≡ laid b w s.col t ++ laid b w (steps w (typed t) s).col u
  laid-append w b [] u s = refl
  laid-append w b (cells ∷ t) u s =
      let gap : List C = replicate (skips w s.col cells) b in
      let near : List C = laid b w (put w cells s).col t in
      let last : List C = laid b w (steps w (typed t) (put w cells s)).col u in
      cc (laid-put w b cells (t ++ u) s, laid-append w b t u (put w cells s), laid-put w b cells t s, append_assoc cells near last, append_assoc gap (cells ++ near) last)

  -- a cluster of one cell takes one
  pub laid-one : (b : C) (w x : ℕ) (cell : C) → laid b w x ((cell ∷ []) ∷ []) ≡ cell ∷ []
  laid-one b w x cell = grind (arith, nat_tests)

  -- clusters, typed where all is b from the cursor on
  pub typed-stands : (w : ℕ) (b : C) (t : List (List C)) (s : PictureOf C) (p : ℕ) (f : ℕ → C) → 0 < w → list_all (is_narrow w) t ≡ true
      → ((i : ℕ) → p ≤ i → f i ≡ b) → Stands w s p f
      → Stands w (steps w (typed t) s) (p + length (laid b w s.col t)) (over p (laid b w s.col t) f)
  typed-stands w b [] s p f h narrow blank st = rw add-zero st
  typed-stands w b (cells ∷ t) s p f h narrow blank st =
      let both = and_parts (is_narrow w cells) (list_all (is_narrow w) t) narrow in
      let n : ℕ = skips w s.col cells in
      let gap : List C = replicate n b in
      let more : List C = laid b w (put w cells s).col t in
      let whole : laid b w s.col (cells ∷ t) ≡ gap ++ (cells ++ more) = laid-put w b cells t s in
      stands-as w _ _ _ _ _
      (omega (arith, ap length whole, length-append gap (cells ++ more), length-append cells more, length-replicate n b))
      (λ i. cc (whole, over-append p gap (cells ++ more) f i, length-replicate n b, over-same (p + n) (cells ++ more) (over p gap f) f (over-blanks b p n f blank) i, over-append (p + n) cells more f i))
      (typed-stands w b t (put w cells s) (p + n + length cells) (over (p + n) cells f) h both.1
      (λ i k. over-outside (p + n) cells f i (inr k) ∙ blank i (omega arith)) (put-stands w cells s p f h (leb-true _ _ both.0) st))

  -- the cursor is still at column 0 of row r, or behind column 0 of that row or one below
  abbrev pub Began : ℕ → PictureOf C → Type 0
  Began r s = ((s.row ≡ r) × (s.col ≡ 0)) ⊎ ((r ≤ s.row) × (0 < s.col))

  put-began : (w r : ℕ) (cells : List C) (s : PictureOf C) → length cells ≤ w → s.col ≤ w → Began r s → ((put w cells s).col ≤ w) × Began r (put w cells s)
  put-began w r cells s narrow h k = grind (arith, nat_tests)

  pub typed-began : (w r : ℕ) (t : List (List C)) (s : PictureOf C) → list_all (is_narrow w) t ≡ true → s.col ≤ w → Began r s → Began r (steps w (typed t) s)
  typed-began w r [] s narrow h k = k
  typed-began w r (cells ∷ t) s narrow h k =
      let both = and_parts (is_narrow w cells) (list_all (is_narrow w) t) narrow in
      let one = put-began w r cells s (leb-true _ _ both.0) h k in
      typed-began w r t (put w cells s) both.1 one.0 one.1

  -- ---- strokes one after the other

  pub steps-append : (w : ℕ) (a b : List (Stroke C)) (s : PictureOf C) → steps w (a ++ b) s ≡ steps w b (steps w a s)
  steps-append w [] b s = refl
  steps-append w (stroke ∷ a) b s = steps-append w a b (step w stroke s)

  -- ---- any picture is a line of cells

  abbrev pub line_of : ℕ → PictureOf C → ℕ → C
  line_of w s i = s.cell (i / w) (i % w)

  pub line_of-at : (w : ℕ) (s : PictureOf C) (r c : ℕ) → c < w → line_of w s (r * w + c) ≡ s.cell r c
  line_of-at w s r c k = ap (λ i. s.cell i ((r * w + c) % w)) (div-mul-add r w c k) ∙ ap (λ j. s.cell r j) (mod-mul-add r w c k)

  pub line_of-stands : (w s : ℕ) (before : PictureOf C) → 0 < w → before.row ≡ s → before.col ≡ 0 → Stands w before (s * w) (line_of w before)
  line_of-stands w s before h row col = record {
    at = λ r c k. sym (line_of-at w before r c k);
    place = rw (row, col) (add-zero (s * w));
    within = omega arith;
  }
