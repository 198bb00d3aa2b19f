-- What a terminal shows once it has changed.
use Rattle.std.proofs.Common.{◌≡◌, ℕ, ◌+◌, ◌-◌, ◌<◌, ◌≤◌, Bool, true, false, ◌&&◌, ◌||◌, eqb, ltb, min, List, [], ◌∷◌, ◌++◌, length, take, get_or, refl, sym, ap, ◌∙◌, subst, arith, inl, inr, if◌then◌else◌}
use Rattle.std.specs.Prelude.{Some, None, Result, Ok, Err, OnOk, unwrap_or, chars, encode_utf8}
use Rattle.std.specs.List.{list_all, sum_by}
use Rattle.std.specs.Str.{IsUtf8}
use Rattle.std.proofs.lemmas.Str.{chars-nil, chars_past_char, IsUtf8-past_char}
use Rattle.unicode_width.specs.Width.{char_width}
use Rattle.std.proofs.lemmas.Bool.{cases_eq, cases_lt, eq-eqb, ne_eqb}
use Rattle.std.proofs.lemmas.List.{take_more, take_all}
use Rattle.laws_screens.specs.Pens.{cluster_cells}
use Rattle.laws_screens.specs.Screens.{blank_of}
use Rattle.laws_screens.specs.Strokes.{cleared_in}
use Rattle.laws_screens.specs.StyledCells.{StyledCell, styled}
use Rattle.tw_surface.specs.Width.{char_columns}
use Rattle.tw_ansi.specs.KeyBytes.{is_digit, is_parameter, most, value_after}
use Rattle.tw_ansi.specs.Selections.{selected}
use Rattle.tw_ansi.specs.EcmaScreen.{EcmaScreen, act, act_by, feed_line, columns_of, is_whole_character, join_mark, receive, receive_all, receive_by, return_to_start, row_cleared, told_steps, write, write_character, write_here}
use Rattle.tw_ansi.specs.EcmaScreen as terminal
use Rattle.tw_ansi.proofs.EcmaSequences.{received}
use Rattle.ecma_terminal.specs.Cells.{shown_cell}
use Rattle.ecma_terminal.specs.Grids.{GridView, Redraws, grid_cell}
use Rattle.ecma_terminal.specs.Terminals.{TerminalView, Becomes, ShowsTerminal, only_one, wrapped}

-- rules that make the same of all that is shown
pub same_rule : (old new : TerminalView) (f g : EcmaScreen StyledCell → EcmaScreen StyledCell) → Becomes old f new
    → ((t : EcmaScreen StyledCell) → ShowsTerminal old t → g t ≡ f t) → Becomes old g new
same_rule old new f g done same = record {
  rows = done.rows;
  cols = done.cols;
  shown = λ t s. subst (ShowsTerminal new) (sym (same t s)) (done.shown t s);
}

-- one after the other
pub becomes_then : (old mid new : TerminalView) (f g : EcmaScreen StyledCell → EcmaScreen StyledCell) → Becomes old f mid → Becomes mid g new → Becomes old (λ t. g (f t)) new
becomes_then old mid new f g first next = record {
  rows = next.rows ∙ first.rows;
  cols = next.cols ∙ first.cols;
  shown = λ t s. next.shown (f t) (first.shown t s);
}

-- the cells alone change
pub becomes_redrawn : (old : TerminalView) (grid : GridView) (cells : (ℕ → ℕ → StyledCell) → ℕ → ℕ → StyledCell) → Redraws old.grid cells grid
    → Becomes old (λ t. record t { cell = cells t.cell }) (record old { grid = grid })
becomes_redrawn old grid cells done = record {
  rows = done.rows;
  cols = done.cols;
  shown = λ t s. record { cell = done.shown t.cell s.cell; row = s.row; col = s.col; waits = s.waits; last = s.last; rendition = s.rendition; reading = s.reading };
}

-- what a terminal shows by its own cells
abbrev itself : TerminalView → EcmaScreen StyledCell
itself view = record {
  cell = λ r c. shown_cell (grid_cell view.grid r c);
  row = view.row;
  col = view.col;
  waits = view.waits;
  last = view.last;
  rendition = view.attributes;
  reading = view.reading;
}

pub becomes_at : (old new : TerminalView) (rule : EcmaScreen StyledCell → EcmaScreen StyledCell) → Becomes old rule new → ShowsTerminal new (rule (itself old))
becomes_at old new rule done = done.shown (itself old) (record { cell = λ r c below within. refl; row = refl; col = refl; waits = refl; last = refl; rendition = refl; reading = refl })

-- ---- writing

-- whether these columns go past the end of the cursor's row
pub passes : (view : TerminalView) (t : EcmaScreen StyledCell) (n : ℕ) → ShowsTerminal view t → (t.waits || ltb view.grid.cols (t.col + n)) ≡ (view.waits || ltb view.grid.cols (view.col + n))
passes view t n s = ap (λ x. x || ltb view.grid.cols (t.col + n)) s.waits ∙ ap (λ k. view.waits || ltb view.grid.cols (k + n)) s.col

pub wraps : (h w n : ℕ) (blank : StyledCell) (t : EcmaScreen StyledCell) → (t.waits || ltb w (t.col + n)) ≡ true → wrapped blank h w n t ≡ return_to_start (feed_line blank h t)
wraps h w n blank t e = ap (λ b. if b then return_to_start (feed_line blank h t) else t) e

pub wraps_not : (h w n : ℕ) (blank : StyledCell) (t : EcmaScreen StyledCell) → (t.waits || ltb w (t.col + n)) ≡ false → wrapped blank h w n t ≡ t
wraps_not h w n blank t e = ap (λ b. if b then return_to_start (feed_line blank h t) else t) e

pub write_wrapped : (h w : ℕ) (blank : StyledCell) (cells : List StyledCell) (t : EcmaScreen StyledCell) → write blank h w cells t ≡ write_here w cells (wrapped blank h w (length cells) t)
write_wrapped h w blank cells t = by_room (t.waits || ltb w (t.col + length cells))
  where
    by_room : (b : Bool) → (if b then write_here w cells (return_to_start (feed_line blank h t)) else write_here w cells t) ≡ write_here w cells (if b then return_to_start (feed_line blank h t) else t)
    by_room true = refl
    by_room false = refl

-- a character of no columns is a mark
pub marks : (old new : TerminalView) (h w : ℕ) (bytes : List ℕ) → columns_of bytes ≡ 0 → Becomes old (join_mark styled w bytes) new → Becomes old (write_character styled h w bytes) new
marks old new h w bytes none done =
    same_rule old new (join_mark styled w bytes) (write_character styled h w bytes) done
    (λ t s. let written : EcmaScreen StyledCell = write (blank_of styled) h w (cluster_cells styled t.rendition bytes (columns_of bytes)) t in
    ap (λ k. if k then join_mark styled w bytes t else written) (eq-eqb (columns_of bytes) 0 none))

pub on_ok : {X E : Type 0} {P Q : Type 0} (r : Result X E) → (P → Q) → OnOk r P → OnOk r Q
on_ok (Ok x) f p = f p
on_ok (Err e) f p = tt

-- ---- characters

pub one_none : (bytes : List ℕ) → length bytes ≡ 0 → only_one (chars bytes) ≡ None
one_none [] e = ap only_one chars-nil
one_none (b ∷ bytes) e = absurd (omega (arith, e))

pub one_last : (bytes rest : List ℕ) (c : ℕ) → IsUtf8 bytes → bytes ≡ encode_utf8 c ++ rest → length rest ≡ 0 → only_one (chars bytes) ≡ Some c
one_last bytes [] c utf8 split e = ap only_one (chars_past_char bytes [] c utf8 split ∙ ap (λ l. c ∷ l) chars-nil)
one_last bytes (b ∷ rest) c utf8 split e = absurd (omega (arith, e))

pub one_more : (bytes rest more : List ℕ) (c d : ℕ) → IsUtf8 bytes → bytes ≡ encode_utf8 c ++ rest → rest ≡ encode_utf8 d ++ more → only_one (chars bytes) ≡ None
one_more bytes rest more c d utf8 first second =
    ap only_one (chars_past_char bytes rest c utf8 first ∙ ap (λ l. c ∷ l) (chars_past_char rest more d (IsUtf8-past_char bytes rest c utf8 first) second))

-- the columns of the only character
pub one_columns : (bytes : List ℕ) (c : ℕ) → only_one (chars bytes) ≡ Some c → columns_of bytes ≡ unwrap_or (char_width false c) 0
one_columns bytes c e = by_list (chars bytes) e
  where
    by_list : (l : List ℕ) → only_one l ≡ Some c → sum_by char_columns l ≡ unwrap_or (char_width false c) 0
    by_list [] e = absurd (cc e)
    by_list (x ∷ []) e = let same : unwrap_or (only_one (x ∷ [])) 0 ≡ c = ap (λ o. unwrap_or o 0) e in omega (arith, ap char_columns same)
    by_list (x ∷ y ∷ more) e = absurd (cc e)

-- ---- sequences

-- the same place
pub led_there : (t : EcmaScreen StyledCell) (row col r c : ℕ) → row ≡ r → col ≡ c → record t { row = row; col = col; waits = false } ≡ record t { row = r; col = c; waits = false }
led_there t row col r c e f = ap (λ x. record t { row = x; col = col; waits = false }) e ∙ ap (λ y. record t { row = r; col = y; waits = false }) f

-- what a sequence does, by where it leads up, down, to the right and to the left, by which row has the number, and by
-- whether no number or a 2 is written
abbrev acted : ℕ → ℕ → EcmaScreen StyledCell → ℕ → ℕ → ℕ → ℕ → ℕ → Bool → Bool → EcmaScreen StyledCell
acted w letter t up down right left there none two =
    let paper = styled.paper t.rendition.background in
    if eqb letter 65 then record t { row = up; waits = false }
    else if eqb letter 66 then record t { row = down; waits = false }
    else if eqb letter 67 then record t { col = right; waits = false }
    else if eqb letter 68 then record t { col = left; waits = false }
    else if eqb letter 72 then record t { row = there; col = 0; waits = false }
    else if eqb letter 74 && none then record t { cell = cleared_in t.cell t.row t.col paper }
    else if eqb letter 74 && two then record t { cell = λ r c. paper }
    else if eqb letter 75 && none then record t { cell = row_cleared t.cell t.row t.col paper }
    else if eqb letter 100 then record t { row = there; waits = false }
    else t

steps_large : (n : ℕ) → 0 < n → told_steps n ≡ n
steps_large n some = ap (λ b. if b then 1 else n) (ne_eqb n 0 (λ e. omega arith))

-- a number above all places leads as far as a greater one
pub act_by_most : (h w n letter : ℕ) (t : EcmaScreen StyledCell) → h ≤ 65535 → w ≤ 65535 → t.row ≤ 65535 → t.col ≤ 65535
    → act_by styled h w n letter t ≡ act_by styled h w (min n most) letter t
act_by_most h w n letter t rows cols at across = elim (cases_lt n most) [
  | inl less ↦ let same : n ≡ min n most = omega arith in ap (λ k. act_by styled h w k letter t) same
  | inr more ↦
      let top : min n most ≡ most = omega arith in
      let steps = steps_large n (omega arith) in
      let up : ℕ = t.row - most in
      let down : ℕ = min (h - 1) (t.row + most) in
      let right : ℕ = min (w - 1) (t.col + most) in
      let left : ℕ = t.col - most in
      ap (λ k. acted w letter t (t.row - k) (min (h - 1) (t.row + k)) (min (w - 1) (t.col + k)) (t.col - k) (min (h - 1) (k - 1)) (eqb n 0) (eqb n 2)) steps
      ∙ ap (λ x. acted w letter t x (min (h - 1) (t.row + n)) (min (w - 1) (t.col + n)) (t.col - n) (min (h - 1) (n - 1)) (eqb n 0) (eqb n 2)) (let e : t.row - n ≡ t.row - most = omega arith in e)
      ∙ ap (λ x. acted w letter t up x (min (w - 1) (t.col + n)) (t.col - n) (min (h - 1) (n - 1)) (eqb n 0) (eqb n 2)) (let e : min (h - 1) (t.row + n) ≡ min (h - 1) (t.row + most) = omega arith in e)
      ∙ ap (λ x. acted w letter t up down x (t.col - n) (min (h - 1) (n - 1)) (eqb n 0) (eqb n 2)) (let e : min (w - 1) (t.col + n) ≡ min (w - 1) (t.col + most) = omega arith in e)
      ∙ ap (λ x. acted w letter t up down right x (min (h - 1) (n - 1)) (eqb n 0) (eqb n 2)) (let e : t.col - n ≡ t.col - most = omega arith in e)
      ∙ ap (λ x. acted w letter t up down right left x (eqb n 0) (eqb n 2)) (let e : min (h - 1) (n - 1) ≡ min (h - 1) (most - 1) = omega arith in e)
      ∙ ap (λ x. acted w letter t up down right left (min (h - 1) (most - 1)) x (eqb n 2)) (ne_eqb n 0 (λ e. omega arith))
      ∙ ap (λ x. acted w letter t up down right left (min (h - 1) (most - 1)) false x) (ne_eqb n 2 (λ e. omega arith))
      ∙ sym (ap (λ k. act_by styled h w k letter t) top)
]

-- a sequence of one number
pub acts_by : (h w letter : ℕ) (ps : List ℕ) (t : EcmaScreen StyledCell) → h ≤ 65535 → w ≤ 65535 → t.row ≤ 65535 → t.col ≤ 65535 → (letter ≡ 109 → ⊥) → list_all is_digit ps ≡ true
    → act styled h w ps letter t ≡ act_by styled h w (min (value_after 0 ps) most) letter t
acts_by h w letter ps t rows cols at across other digits =
    let done = act_by styled h w (value_after 0 ps) letter t in
    ap (λ b. if b then record t { rendition = selected ps t.rendition } else if list_all is_digit ps then done else t) (ne_eqb letter 109 other)
    ∙ ap (λ b. if b then done else t) digits
    ∙ act_by_most h w (value_after 0 ps) letter t rows cols at across

-- ---- how far a sequence was read

abbrev at_rest : EcmaScreen StyledCell → EcmaScreen StyledCell
at_rest t = record t { reading = terminal.Text }

choice : (b : Bool) (x y : EcmaScreen StyledCell) → at_rest (if b then x else y) ≡ (if b then at_rest x else at_rest y)
choice true x y = refl
choice false x y = refl

act_by_rests : (h w n letter : ℕ) (t : EcmaScreen StyledCell) → at_rest (act_by styled h w n letter t) ≡ act_by styled h w n letter (at_rest t)
act_by_rests h w n letter t = elim (cases_eq letter 65) [
  | inl up ↦ rw up refl
  | inr other ↦ elim (cases_eq letter 66) [
    | inl down ↦ rw down refl
    | inr neither ↦ rw (ne_eqb letter 65 other, ne_eqb letter 66 neither) (simp choice)
  ]
]

-- what a sequence does does not depend on that
pub act_rests : (h w letter : ℕ) (ps : List ℕ) (t : EcmaScreen StyledCell) → at_rest (act styled h w ps letter t) ≡ act styled h w ps letter (at_rest t)
act_rests h w letter ps t =
    choice (eqb letter 109) (record t { rendition = selected ps t.rendition }) (if list_all is_digit ps then act_by styled h w (value_after 0 ps) letter t else t)
    ∙ ap (λ x. if eqb letter 109 then record t { rendition = selected ps t.rendition; reading = terminal.Text } else x)
    (choice (list_all is_digit ps) (act_by styled h w (value_after 0 ps) letter t) t ∙ ap (λ x. if list_all is_digit ps then x else at_rest t) (act_by_rests h w (value_after 0 ps) letter t))

-- a byte that ends a sequence
pub ended : (h w byte : ℕ) (ps : List ℕ) (t : EcmaScreen StyledCell) → t.reading ≡ terminal.Parameters ps → is_parameter byte ≡ false
    → receive styled h w byte t ≡ act styled h w ps byte (at_rest t)
ended h w byte ps t read ends =
    ap (λ r. receive_by styled h w r byte t) read
    ∙ ap (λ b. if b then record t { reading = terminal.Parameters (ps ++ byte ∷ []) } else at_rest (act styled h w ps byte t)) ends
    ∙ act_rests h w byte ps t

-- a byte that is one more parameter
pub added : (h w byte : ℕ) (ps : List ℕ) (t : EcmaScreen StyledCell) → t.reading ≡ terminal.Parameters ps → is_parameter byte ≡ true
    → receive styled h w byte t ≡ record t { reading = terminal.Parameters (ps ++ byte ∷ []) }
added h w byte ps t read more =
    ap (λ r. receive_by styled h w r byte t) read
    ∙ ap (λ b. if b then record t { reading = terminal.Parameters (ps ++ byte ∷ []) } else at_rest (act styled h w ps byte t)) more

-- a byte that ends a character
pub finished : (h w byte : ℕ) (bytes : List ℕ) (t : EcmaScreen StyledCell) → t.reading ≡ terminal.Begun bytes → is_whole_character (bytes ++ byte ∷ []) ≡ true
    → receive styled h w byte t ≡ write_character styled h w (bytes ++ byte ∷ []) (at_rest t)
finished h w byte bytes t read whole =
    ap (λ r. receive_by styled h w r byte t) read
    ∙ ap (λ b. if b then write_character styled h w (bytes ++ byte ∷ []) (at_rest t) else record t { reading = terminal.Begun (bytes ++ byte ∷ []) }) whole

-- ---- bytes one after the other

-- bytes were received up to one of them
abbrev pub HasReceived : TerminalView → List ℕ → ℕ → TerminalView → Type 0
HasReceived first bytes i now = Becomes first (receive_all styled first.grid.rows first.grid.cols (take i bytes)) now

pub received_none : (first : TerminalView) (bytes : List ℕ) → HasReceived first bytes 0 first
received_none first bytes = record { rows = refl; cols = refl; shown = λ t s. s }

pub received_more : (first old new : TerminalView) (bytes : List ℕ) (i byte : ℕ) → i < length bytes → byte ≡ get_or bytes i 0 → HasReceived first bytes i old
    → Becomes old (receive styled old.grid.rows old.grid.cols byte) new → HasReceived first bytes (i + 1) new
received_more first old new bytes i byte inside at before next =
    same_rule first new (λ t. receive styled old.grid.rows old.grid.cols byte (receive_all styled first.grid.rows first.grid.cols (take i bytes) t)) _ (becomes_then first old new _ _ before next)
    (λ t s.
    ap (λ bs. receive_all styled first.grid.rows first.grid.cols bs t) (take_more bytes i 0 inside)
    ∙ received styled first.grid.rows first.grid.cols (take i bytes) (get_or bytes i 0 ∷ []) t
    ∙ ap (λ b. receive styled first.grid.rows first.grid.cols b (receive_all styled first.grid.rows first.grid.cols (take i bytes) t)) (sym at)
    ∙ ap (λ h. receive styled h first.grid.cols byte (receive_all styled first.grid.rows first.grid.cols (take i bytes) t)) (sym before.rows)
    ∙ ap (λ w. receive styled old.grid.rows w byte (receive_all styled first.grid.rows first.grid.cols (take i bytes) t)) (sym before.cols))

pub received_all : (first now : TerminalView) (bytes : List ℕ) (i : ℕ) → length bytes ≤ i → HasReceived first bytes i now
    → Becomes first (receive_all styled first.grid.rows first.grid.cols bytes) now
received_all first now bytes i end done = subst (λ bs. Becomes first (receive_all styled first.grid.rows first.grid.cols bs) now) (take_all i bytes end) done
