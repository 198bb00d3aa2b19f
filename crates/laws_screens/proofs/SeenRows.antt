-- A screen of some rows shows a window of the screen without a bottom.
use Rattle.std.proofs.Common.{◌≡◌, ℕ, ◌+◌, ◌-◌, ◌≤◌, Bool, true, false, Option, Some, None, List, [], ◌∷◌, ◌++◌, refl, sym, ap, ◌∙◌, subst, arith, eqb, ltb}
use Rattle.std.specs.List.{list_all}
use Rattle.std.proofs.lemmas.Bool.{false≢true, and_parts}
use Rattle.std.proofs.lemmas.Bool.Decides.{nat_tests}
use Rattle.laws_screens.specs.Strokes.{PictureOf, Stroke, put_in, put_all, cleared_in, put, step, steps, excess, scrolled, steps_on, InSight}
use Rattle.laws_screens.specs.Strokes.Stroke.{Put, Return, Feed}
use Rattle.laws_screens.specs.Sheets.{Writing, typed, broken}

shift-eqb : (i r t : ℕ) → eqb i r ≡ eqb (i + t) (r + t)
shift-eqb i r t = grind (arith, nat_tests)

shift-ltb : (i r t : ℕ) → ltb i r ≡ ltb (i + t) (r + t)
shift-ltb i r t = grind (arith, nat_tests)

-- the first row that is seen, once the cursor has come from a row that is seen down to row r
abbrev pub seen_from : Option ℕ → ℕ → ℕ → ℕ
seen_from rows t r = t + (excess rows r - t)

-- strokes go on: what is seen then is what is seen where they end
seen-step : (rows : Option ℕ) (t from row last : ℕ) → row ≡ from + t → row ≤ last → seen_from rows (t + excess rows from) last ≡ seen_from rows t last
seen-step None t from row last at down = omega arith
seen-step (Some h) t from row last at down = omega (arith, at, down)

pub in-sight-again : {C : Type 0} (rows : Option ℕ) (before : ℕ) (s : PictureOf C) → InSight rows before → InSight rows (scrolled rows s).row
in-sight-again None before s h = tt
in-sight-again (Some h) before s low = omega (arith, low)

module _ {C : Type 0} where
  -- the picture b is the picture u from row t on
  pub record Sees (t : ℕ) (b u : PictureOf C) : Type 0 where
    pub row : u.row ≡ b.row + t
    pub col : u.col ≡ b.col
    pub cell : (i j : ℕ) → b.cell i j ≡ u.cell (i + t) j

  pub sees-same : (s : PictureOf C) → Sees 0 s s
  sees-same s = record { row = omega arith; col = refl; cell = λ i j. ap (λ r. s.cell r j) (omega arith) }

  pub sees-scrolled : (rows : Option ℕ) (t : ℕ) (b u : PictureOf C) → (known : ℕ) → InSight rows known → Sees t b u → Sees (t + excess rows b.row) (scrolled rows b) u
  sees-scrolled None t b u known some s = record {
    row = omega (arith, s.row);
    col = s.col;
    cell = λ i j. s.cell i j ∙ ap (λ r. u.cell r j) (omega arith);
  }
  sees-scrolled (Some h) t b u known some s = record {
    row = omega (arith, s.row, some);
    col = s.col;
    cell = λ i j. s.cell (i + (b.row + 1 - h)) j ∙ ap (λ r. u.cell r j) (omega arith);
  }

  -- ---- strokes that type

  abbrev pub is_typing : Stroke C → Bool
  is_typing (Put x) = true
  is_typing Return = true
  is_typing Feed = true
  is_typing _ = false

  typed-types : (line : List (List C)) (more : List (Stroke C)) → list_all is_typing more ≡ true → list_all is_typing (typed line ++ more) ≡ true
  typed-types [] more h = h
  typed-types (x ∷ line) more h = typed-types line more h

  broken-types : (lines : List (List (List C))) → list_all is_typing (broken lines) ≡ true
  broken-types [] = refl
  broken-types (line ∷ more) = typed-types line (broken more) (broken-types more)

  pub drawing-types : (writing : Writing C) → list_all is_typing (typed writing.text ++ broken writing.lower) ≡ true
  drawing-types writing = typed-types writing.text (broken writing.lower) (broken-types writing.lower)

  -- none of them leads up
  typing-row : (w : ℕ) (stroke : Stroke C) (s : PictureOf C) → is_typing stroke ≡ true → s.row ≤ (step w stroke s).row
  typing-row w (Put cells) s k = grind (arith, nat_tests)
  typing-row w Return s k = omega arith
  typing-row w Feed s k = omega arith
  typing-row w _ s k = absurd (false≢true k)

  all-typing-row : (w : ℕ) (strokes : List (Stroke C)) (s : PictureOf C) → list_all is_typing strokes ≡ true → s.row ≤ (steps w strokes s).row
  all-typing-row w [] s k = omega arith
  all-typing-row w (stroke ∷ more) s k =
      let both = and_parts (is_typing stroke) (list_all is_typing more) k in
      omega (arith, typing-row w stroke s both.0, all-typing-row w more (step w stroke s) both.1)

  -- ---- they keep what is seen

  sees-put_in : (t r c : ℕ) (x : C) (f g : ℕ → ℕ → C) → ((i j : ℕ) → f i j ≡ g (i + t) j) → (i j : ℕ) → put_in f r c x i j ≡ put_in g (r + t) c x (i + t) j
  sees-put_in t r c x f g h i j = rw (shift-eqb i r t, h i j) refl

  sees-put_all : (t r c : ℕ) (cells : List C) (f g : ℕ → ℕ → C) → ((i j : ℕ) → f i j ≡ g (i + t) j) → (i j : ℕ) → put_all f r c cells i j ≡ put_all g (r + t) c cells (i + t) j
  sees-put_all t r c [] f g h i j = h i j
  sees-put_all t r c (x ∷ cells) f g h i j = sees-put_all t r (c + 1) cells (put_in f r c x) (put_in g (r + t) c x) (sees-put_in t r c x f g h) i j

  sees-put : (w t : ℕ) (cells : List C) (b u : PictureOf C) → Sees t b u → Sees t (put w cells b) (put w cells u)
  sees-put w t cells b u s = record {
    row = grind (arith, nat_tests, s.row, s.col);
    col = grind (arith, nat_tests, s.row, s.col);
    cell = λ i j. grind (arith, nat_tests, s.row, s.col, sees-put_all t b.row b.col cells b.cell u.cell s.cell i j, sees-put_all t (b.row + 1) 0 cells b.cell u.cell s.cell i j);
  }

  sees-stroke : (w t : ℕ) (stroke : Stroke C) (b u : PictureOf C) → is_typing stroke ≡ true → Sees t b u → Sees t (step w stroke b) (step w stroke u)
  sees-stroke w t (Put cells) b u k s = sees-put w t cells b u s
  sees-stroke w t Return b u k s = record { row = s.row; col = refl; cell = s.cell }
  sees-stroke w t Feed b u k s = record { row = omega (arith, s.row); col = s.col; cell = s.cell }
  sees-stroke w t _ b u k s = absurd (false≢true k)

  -- what is typed on some rows shows what it shows without a bottom
  pub sees-typing : (rows : Option ℕ) (w : ℕ) (strokes : List (Stroke C)) (t : ℕ) (b u : PictureOf C) → list_all is_typing strokes ≡ true → InSight rows b.row → Sees t b u
      → Sees (seen_from rows t (steps w strokes u).row) (steps_on rows w strokes b) (steps w strokes u)
  sees-typing None w [] t b u k low s = subst (λ n. Sees n b u) (omega arith) s
  sees-typing (Some h) w [] t b u k low s = subst (λ n. Sees n b u) (omega (arith, low, s.row)) s
  sees-typing rows w (stroke ∷ more) t b u k low s =
      let both = and_parts (is_typing stroke) (list_all is_typing more) k in
      let c : PictureOf C = step w stroke b in
      let v : PictureOf C = step w stroke u in
      let one : Sees t c v = sees-stroke w t stroke b u both.0 s in
      let rest = sees-typing rows w more (t + excess rows c.row) (scrolled rows c) v both.1 (in-sight-again rows b.row c low) (sees-scrolled rows t c v b.row low one) in
      subst (λ n. Sees n (steps_on rows w more (scrolled rows c)) (steps w more v))
      (seen-step rows t c.row v.row (steps w more v).row one.row (all-typing-row w more v both.1)) rest

  -- ---- a clearing from the cursor on

  sees-cleared_in : (t r c : ℕ) (x : C) (f g : ℕ → ℕ → C) → ((i j : ℕ) → f i j ≡ g (i + t) j) → (i j : ℕ) → cleared_in f r c x i j ≡ cleared_in g (r + t) c x (i + t) j
  sees-cleared_in t r c x f g h i j = rw (shift-ltb r i t, shift-eqb r i t, h i j) refl

  pub sees-clear : (t : ℕ) (x : C) (b u : PictureOf C) → Sees t b u → Sees t (record b { cell = cleared_in b.cell b.row b.col x }) (record u { cell = cleared_in u.cell u.row u.col x })
  sees-clear t x b u s = record {
    row = s.row;
    col = s.col;
    cell = λ i j. sees-cleared_in t b.row b.col x b.cell u.cell s.cell i j ∙ ap (λ r. cleared_in u.cell r b.col x (i + t) j) (sym s.row) ∙ ap (λ c. cleared_in u.cell u.row c x (i + t) j) (sym s.col);
  }

  -- a cursor in sight scrolls nothing
  pub sees-still : (rows : Option ℕ) (t : ℕ) (b u : PictureOf C) → InSight rows b.row → Sees t b u → Sees t (scrolled rows b) u
  sees-still rows t b u low s = subst (λ n. Sees n (scrolled rows b) u) (none rows low) (sees-scrolled rows t b u b.row low s)
    where
      none : (rows : Option ℕ) → InSight rows b.row → t + excess rows b.row ≡ t
      none None low = omega arith
      none (Some h) low = omega (arith, low)

  pub steps_on-append : (rows : Option ℕ) (w : ℕ) (a b : List (Stroke C)) (s : PictureOf C) → steps_on rows w (a ++ b) s ≡ steps_on rows w b (steps_on rows w a s)
  steps_on-append rows w [] b s = refl
  steps_on-append rows w (stroke ∷ a) b s = steps_on-append rows w a b (scrolled rows (step w stroke s))

  -- the cursor stays in sight
  pub low-on : (rows : Option ℕ) (w : ℕ) (strokes : List (Stroke C)) (s : PictureOf C) → InSight rows s.row → InSight rows (steps_on rows w strokes s).row
  low-on rows w [] s low = low
  low-on rows w (stroke ∷ more) s low = low-on rows w more (scrolled rows (step w stroke s)) (in-sight-again rows s.row (step w stroke s) low)
