-- What a terminal does at each move that is sent.
use Rattle.std.proofs.Common.{◌≡◌, ◌<◌, ◌≤◌, ◌+◌, ◌-◌, ◌^◌, ℕ, zero, suc, Bool, eqb, ltb, leb, true, false, cond, min, replicate, List, [], ◌∷◌, ◌++◌, codes, arith, ap, ◌∙◌, sym, refl, inl, inr, ◌⊎◌, append_assoc, append-nil}
use Rattle.std.specs.Fmt.{decimal}
use Rattle.std.specs.List.{list_all}
use Rattle.std.proofs.lemmas.Bool.{eq-eqb, eqb-true, ne_eqb, ltb-true, ltb-false, cases_eq, and_parts, false≢true}
use Rattle.laws_screens.specs.Pens.{Pen}
use Rattle.laws_screens.specs.Screens.{blank_of}
use Rattle.tw_ansi.specs.KeyBytes.{is_digit, is_parameter, value_after}
use Rattle.tw_ansi.specs.Sequences.{sequence, step_count, along_row, to_column, most_rows}
use Rattle.tw_ansi.specs.EcmaScreen.{EcmaScreen, receive, receive_all, feed_line, told_steps, act, act_by}
use Rattle.tw_ansi.specs.EcmaScreen as terminal
use Rattle.tw_ansi.specs.Selections.{selected}
use Rattle.tw_ansi.specs.EcmaLaws.{at_rest, ColumnsAreReached, AlongRowsAreReached, RowsAboveAreReached, RowsBelowAreReached}
use Rattle.tw_ansi.proofs.Numbers.{decimal_value, decimal_digits, decimal_parameters}

-- a number of steps that is not 0
pub steps_taken : (n : ℕ) → 0 < n → told_steps n ≡ n
steps_taken n some = ap (λ x. cond x 1 n) (ne_eqb n 0 (λ e. omega arith))

module _ {A C : Type 0} (pen : Pen A C) where
  -- bytes that come in two parts
  pub received : (h w : ℕ) (xs ys : List ℕ) (t : EcmaScreen C) → receive_all pen h w (xs ++ ys) t ≡ receive_all pen h w ys (receive_all pen h w xs t)
  received h w [] ys t = refl
  received h w (x ∷ xs) ys t = received h w xs ys (receive pen h w x t)

  -- more parameters
  parameters_read : (h w : ℕ) (xs ps : List ℕ) (t : EcmaScreen C) → list_all is_parameter ps ≡ true
      → receive_all pen h w ps (record t { reading = terminal.Parameters xs }) ≡ record t { reading = terminal.Parameters (xs ++ ps) }
  parameters_read h w xs [] t all = ap (λ ys. record t { reading = terminal.Parameters ys }) (sym (append-nil xs))
  parameters_read h w xs (p ∷ ps) t all =
      let parts = and_parts _ _ all in
      let here : EcmaScreen C = record t { reading = terminal.Parameters xs } in
      ap (λ x. receive_all pen h w ps (cond x (record t { reading = terminal.Parameters (xs ++ p ∷ []) }) (record (act pen h w xs p here) { reading = terminal.Text }))) parts.0
      ∙ parameters_read h w (xs ++ p ∷ []) ps t parts.1
      ∙ ap (λ ys. record t { reading = terminal.Parameters ys }) (append_assoc xs (p ∷ []) ps)

  -- a sequence of parameters and the letter that ends it
  pub acted : (h w letter : ℕ) (ps : List ℕ) (t : EcmaScreen C) → list_all is_parameter ps ≡ true → is_parameter letter ≡ false
      → receive_all pen h w (sequence ps (letter ∷ [])) (at_rest t) ≡ record (act pen h w ps letter (record t { reading = terminal.Parameters ps })) { reading = terminal.Text }
  acted h w letter ps t all ends =
      let read : EcmaScreen C = record t { reading = terminal.Parameters ps } in
      received h w ps (letter ∷ []) _
      ∙ ap (receive pen h w letter) (parameters_read h w [] ps t all)
      ∙ ap (λ x. cond x (record t { reading = terminal.Parameters (ps ++ letter ∷ []) }) (record (act pen h w ps letter read) { reading = terminal.Text })) ends

  -- a sequence of one number, which selects nothing
  pub numbered : (h w n letter : ℕ) (t : EcmaScreen C) → n < 2 ^ 64 → is_parameter letter ≡ false → eqb letter 109 ≡ false
      → receive_all pen h w (sequence (decimal n) (letter ∷ [])) (at_rest t)
      ≡ record (act_by pen h w n letter (record t { reading = terminal.Parameters (decimal n) })) { reading = terminal.Text }
  numbered h w n letter t small ends other =
      let read : EcmaScreen C = record t { reading = terminal.Parameters (decimal n) } in
      let value = value_after 0 (decimal n) in
      acted h w letter (decimal n) t (decimal_parameters n small) ends
      ∙ ap (λ x. record (cond x (record read { rendition = selected (decimal n) t.rendition }) (cond (list_all is_digit (decimal n)) (act_by pen h w value letter read) read)) { reading = terminal.Text }) other
      ∙ ap (λ x. record (cond x (act_by pen h w value letter read) read) { reading = terminal.Text }) (decimal_digits n small)
      ∙ ap (λ k. record (act_by pen h w k letter read) { reading = terminal.Text }) (decimal_value n small)

  -- to the right by one sequence, and no further than to the last column
  steps_right : (h w n : ℕ) (t : EcmaScreen C) → 0 < n → n < 2 ^ 64
      → receive_all pen h w (sequence (step_count n) (codes "C")) (at_rest t) ≡ record t { col = min (w - 1) (t.col + n); waits = false; reading = terminal.Text }
  steps_right h w n t some small = elim (cases_eq n 1) [
    | inl e ↦
        ap (λ x. receive_all pen h w (sequence (cond x [] (decimal n)) (codes "C")) (at_rest t)) (eq-eqb n 1 e)
        ∙ ap (λ k. record t { col = min (w - 1) (t.col + k); waits = false; reading = terminal.Text }) (sym e)
    | inr many ↦
        ap (λ x. receive_all pen h w (sequence (cond x [] (decimal n)) (codes "C")) (at_rest t)) (ne_eqb n 1 many)
        ∙ numbered h w n 67 t small refl refl
        ∙ ap (λ k. record t { col = min (w - 1) (t.col + k); waits = false; reading = terminal.Text }) (steps_taken n some)
  ]

  -- to the left by one sequence
  steps_left : (h w n : ℕ) (t : EcmaScreen C) → 0 < n → n < 2 ^ 64
      → receive_all pen h w (sequence (decimal n) (codes "D")) (at_rest t) ≡ record t { col = t.col - n; waits = false; reading = terminal.Text }
  steps_left h w n t some small =
      numbered h w n 68 t small refl refl
      ∙ ap (λ k. record t { col = t.col - k; waits = false; reading = terminal.Text }) (steps_taken n some)

  -- to the left by backspaces
  steps_back : (h w n : ℕ) (t : EcmaScreen C)
      → receive_all pen h w (replicate n 8) (record t { waits = false; reading = terminal.Text }) ≡ record t { col = t.col - n; waits = false; reading = terminal.Text }
  steps_back h w zero t = ap (λ c. record t { col = c; waits = false; reading = terminal.Text }) (let e : t.col ≡ t.col - 0 = omega arith in e)
  steps_back h w (suc n) t =
      steps_back h w n (record t { col = t.col - 1 })
      ∙ ap (λ c. record t { col = c; waits = false; reading = terminal.Text }) (let e : t.col - 1 - n ≡ t.col - suc n = omega arith in e)

  module _ (h w from to : ℕ) (t : EcmaScreen C) (left : from < w) (right : to < w) (small : w < 2 ^ 64) (at : t.col ≡ from) where
    abbrev along_reached : EcmaScreen C
    along_reached = record t { col = to; waits = false; reading = terminal.Text }

    abbrev still : EcmaScreen C
    still = record t { waits = false; reading = terminal.Text }

    left_cases : to < from → (b : Bool) → leb (from - to) 3 ≡ b
        → receive_all pen h w (cond b (replicate (from - to) 8) (sequence (decimal (from - to)) (codes "D"))) still ≡ along_reached
    left_cases less true is = steps_back h w (from - to) t ∙ ap (λ c. record t { col = c; waits = false; reading = terminal.Text }) (let e : t.col - (from - to) ≡ to = omega (arith, at, less) in e)
    left_cases less false is =
        steps_left h w (from - to) (record t { waits = false }) (omega (arith, less)) (omega (arith, left, small))
        ∙ ap (λ c. record t { col = c; waits = false; reading = terminal.Text }) (let e : t.col - (from - to) ≡ to = omega (arith, at, less) in e)

    way_cases : (from ≡ to → ⊥) → (b : Bool) → ltb from to ≡ b
        → receive_all pen h w (cond b (sequence (step_count (to - from)) (codes "C")) (cond (leb (from - to) 3) (replicate (from - to) 8) (sequence (decimal (from - to)) (codes "D")))) still
        ≡ along_reached
    way_cases other true is =
        let less : from < to = ltb-true from to is in
        steps_right h w (to - from) (record t { waits = false }) (omega (arith, less)) (omega (arith, right, small))
        ∙ ap (λ c. record t { col = c; waits = false; reading = terminal.Text }) (let e : min (w - 1) (t.col + (to - from)) ≡ to = omega (arith, at, less, right) in e)
    way_cases other false is = left_cases (let most : to ≤ from = ltb-false from to is in omega (arith, most, other)) (leb (from - to) 3) refl

    start_cases : (from ≡ to → ⊥) → (b : Bool) → eqb to 0 ≡ b
        → receive_all pen h w (cond b (13 ∷ []) (cond (ltb from to) (sequence (step_count (to - from)) (codes "C")) (cond (leb (from - to) 3) (replicate (from - to) 8) (sequence (decimal (from - to)) (codes "D"))))) still
        ≡ along_reached
    start_cases other true is = ap (λ c. record t { col = c; waits = false; reading = terminal.Text }) (sym (eqb-true to 0 is))
    start_cases other false is = way_cases other (ltb from to) refl

    same_cases : (b : Bool) → eqb from to ≡ b
        → receive_all pen h w (cond b [] (cond (eqb to 0) (13 ∷ []) (cond (ltb from to) (sequence (step_count (to - from)) (codes "C")) (cond (leb (from - to) 3) (replicate (from - to) 8) (sequence (decimal (from - to)) (codes "D")))))) still
        ≡ along_reached
    same_cases true is = ap (λ c. record t { col = c; waits = false; reading = terminal.Text }) (at ∙ eqb-true from to is)
    same_cases false is = start_cases (λ e. false≢true (sym is ∙ eq-eqb from to e)) (eqb to 0) refl

    pub along_is : receive_all pen h w (along_row from to) still ≡ along_reached
    along_is = same_cases (eqb from to) refl

  pub along_rows_are_reached : AlongRowsAreReached pen
  along_rows_are_reached h w to t left right small = along_is h w t.col to t left right small refl

  column_cases : (h w col : ℕ) (t : EcmaScreen C) → col < w → col < 2 ^ 64 → (col ≡ 0) ⊎ (col ≡ 0 → ⊥)
      → receive_all pen h w (to_column col) (at_rest t) ≡ record t { col = col; waits = false; reading = terminal.Text }
  column_cases h w col t inside small (inl e) =
      ap (λ x. receive_all pen h w (13 ∷ cond x [] (sequence (decimal col) (codes "C"))) (at_rest t)) (eq-eqb col 0 e)
      ∙ ap (λ c. record t { col = c; waits = false; reading = terminal.Text }) (sym e)
  column_cases h w col t inside small (inr n) =
      let right : min (w - 1) (0 + told_steps col) ≡ col = omega (arith, steps_taken col (omega arith)) in
      ap (λ x. receive_all pen h w (13 ∷ cond x [] (sequence (decimal col) (codes "C"))) (at_rest t)) (ne_eqb col 0 n)
      ∙ numbered h w col 67 (record t { col = 0; waits = false }) small refl refl
      ∙ ap (λ c. record t { col = c; waits = false; reading = terminal.Text }) right

  pub columns_are_reached : ColumnsAreReached pen
  columns_are_reached h w col t inside small = column_cases h w col t inside small (cases_eq col 0)

  pub rows_above_are_reached : RowsAboveAreReached pen
  rows_above_are_reached h w n t small =
      let fewer : min (n + 1) most_rows ≡ n + 1 = omega arith in
      let up : told_steps (n + 1) ≡ n + 1 = steps_taken (n + 1) (omega arith) in
      ap (λ k. receive_all pen h w (sequence (decimal k) (codes "A")) (at_rest t)) fewer
      ∙ numbered h w (n + 1) 65 t (omega arith) refl refl
      ∙ ap (λ k. record t { row = t.row - k; waits = false; reading = terminal.Text }) up

  -- a line feed that does not scroll
  fed_low : (h w : ℕ) (t : EcmaScreen C) → t.row + 1 < h → receive pen h w 10 (at_rest t) ≡ record t { row = t.row + 1; waits = false; reading = terminal.Text }
  fed_low h w t low =
      let scrolls : EcmaScreen C = record t { cell = λ r c. cond (ltb (r + 1) h) (t.cell (r + 1) c) (blank_of pen); waits = false; reading = terminal.Text } in
      let down : EcmaScreen C = record t { row = t.row + 1; waits = false; reading = terminal.Text } in
      ap (λ x. cond x scrolls down) (ne_eqb (t.row + 1) h (λ e. omega (arith, e, low)))

  -- some of them
  pub feeds_low : (h w n : ℕ) (t : EcmaScreen C) → t.row + suc n < h
      → receive_all pen h w (replicate (suc n) 10) (at_rest t) ≡ record t { row = t.row + suc n; waits = false; reading = terminal.Text }
  feeds_low h w zero t low = fed_low h w t low
  feeds_low h w (suc n) t low =
      ap (receive_all pen h w (replicate (suc n) 10)) (fed_low h w t (omega (arith, low)))
      ∙ feeds_low h w n (record t { row = t.row + 1; waits = false }) (omega (arith, low))
      ∙ ap (λ r. record t { row = r; waits = false; reading = terminal.Text }) (let e : t.row + 1 + suc n ≡ t.row + suc (suc n) = omega arith in e)

  -- down by one sequence
  steps_down : (h w n : ℕ) (t : EcmaScreen C) → 0 < n → n ≤ most_rows → t.row + n < h
      → receive_all pen h w (sequence (decimal (min n most_rows)) (codes "B")) (at_rest t) ≡ record t { row = t.row + n; waits = false; reading = terminal.Text }
  steps_down h w n t some most low =
      ap (λ k. receive_all pen h w (sequence (decimal k) (codes "B")) (at_rest t)) (let e : min n most_rows ≡ n = omega (arith, most) in e)
      ∙ numbered h w n 66 t (omega (arith, most)) refl refl
      ∙ ap (λ k. record t { row = min (h - 1) (t.row + k); waits = false; reading = terminal.Text }) (steps_taken n some)
      ∙ ap (λ r. record t { row = r; waits = false; reading = terminal.Text }) (let e : min (h - 1) (t.row + n) ≡ t.row + n = omega (arith, low) in e)

  pub rows_below_are_reached : RowsBelowAreReached pen
  rows_below_are_reached h w zero t some most low = absurd (omega (arith, some))
  rows_below_are_reached h w (suc n) t some most low = by_few (leb (suc n) 3)
    where
      by_few : (b : Bool)
          → receive_all pen h w (cond b (replicate (suc n) 10) (sequence (decimal (min (suc n) most_rows)) (codes "B"))) (at_rest t)
          ≡ record t { row = t.row + suc n; waits = false; reading = terminal.Text }
      by_few true = feeds_low h w n t low
      by_few false = steps_down h w (suc n) t some most low
