use Rattle.std.proofs.lemmas.Bool.{cases_lt}
use Rattle.std.proofs.Common.{ℕ, ◌+◌, ◌-◌, ◌≤◌, min, replicate, sym, inl, inr, Result, Ok, Err, OnOk, is_ok, if◌then◌else◌, List, ◌<◌, ◌≡◌, ◌∷◌, [], ◌++◌, length, ap, ◌∙◌, arith}
use Rattle.std.specs.Prelude.{string_bytes, encode_utf8}
use Rattle.std.proofs.lemmas.List.{append_assoc}
use Rattle.std.proofs.Math.Nat.{le-min, max-le, min-le_right, le-max_left, le-max_right}
use Rattle.tw_surface.specs.Cells.{cell_in, picture, row_of}
use Rattle.tw_surface.specs.Pictures.{blank}
use Rattle.tw_surface.proofs.NearCells.{shown_far, row_blanks, near_row_of, near_row_ascii, row_more, shown_ascii}
use Rattle.tw_surface.proofs.screen.Screen.push_row.Goals as goal

-- a row of near cells alone
pub push_ascii-requires : goal.push_ascii-requires
push_ascii-requires c =
    near_row_ascii c.deref.result.now c.near_row-first.result.now _ c.near_row-first.ensures.near (rw c.deref.ensures.value c.self.invariant.sound.ascii)

added : {A : Type 0} → {E : Type 0} → (r : Result A E) (old new more row : List ℕ) → new ≡ (if is_ok r then old ++ more else old) → more ≡ row → OnOk r (new ≡ old ++ row)
added (Ok value) old new more row is same = is ∙ ap (λ l. old ++ l) same
added (Err fault) old new more row is same = tt

pub returns-then-first-cols-clause-added : goal.returns-then-first-cols-clause-added
returns-then-first-cols-clause-added c =
    let now = c.self.inside in
    let cell = (picture c.args.self.now).cell in
    let all : length c.near_row-first.result.now ≡ c.args.cols = omega arith in
    let first : c.near_row-first.result.now ≡ row_of cell c.args.row (length c.near_row-first.result.now) =
    rw (← c.self.view_is) (rw c.deref.ensures.value at (near_row_of now.width c.deref.result.now now.far.items c.args.row c.near_row-first.result.now c.near_row-first.ensures.width c.near_row-first.ensures.near)) in
    added c.push_ascii.result _ _ _ _ c.push_ascii.ensures.bytes (first ∙ ap (row_of cell c.args.row) all)

-- or with others after them
pub push_ascii-requires-2 : goal.push_ascii-requires-2
push_ascii-requires-2 c =
    near_row_ascii c.deref.result.now c.near_row-first.result.now _ c.near_row-first.ensures.near (rw c.deref.ensures.value c.self.invariant.sound.ascii)

-- the near cells are the row's first characters
pub loop-col-init : goal.loop-col-init
loop-col-init c =
    let now = c.self.inside in
    let first = near_row_of now.width c.deref.result.now now.far.items c.args.row c.near_row-first.result.now c.near_row-first.ensures.width c.near_row-first.ensures.near in
    record {
      bytes = rw (← c.self.view_is) (c.in_ok-push_ascii.ensures.bytes ∙ rw c.in_ok-reserve.ensures.bytes (ap (λ b. string_bytes c.args.shown.now ++ b) (rw c.deref.ensures.value at first)));
      room = omega (arith, c.in_ok-push_ascii.ensures.len, c.in_ok-reserve.ensures.ok, c.near_row-first.ensures.len);
      in_range = omega (arith, c.max-end.ensures, le-max_right c.min.result (length c.near_row-first.result.now));
    }

-- each further character is one byte
pub loop-col-preserved : goal.loop-col-preserved
loop-col-preserved c =
    let now = c.self.inside in
    let here = c.loop-col in
    let cell = (picture c.args.self.now).cell in
    let low : c.char_at.result < 128 =
    rw (c.char_at.ensures.shown, ← c.self.view_is) (shown_ascii now.width now.near.items now.far.items c.args.row here.col c.self.invariant.sound.ascii c.self.invariant.sound.sparse) in
    let one : encode_utf8 c.char_at.result ≡ cell c.args.row here.col ∷ [] = c.push.ensures.ascii low ∙ ap (λ ch. ch ∷ []) c.char_at.ensures.shown in
    record {
      bytes = c.in_ok-push.ensures.bytes ∙ rw (one, here.invariant.bytes, row_more cell c.args.row here.col) (append_assoc (string_bytes c.args.shown.now) (row_of cell c.args.row here.col) (cell c.args.row here.col ∷ []));
      room = omega (arith, c.in_ok-push.ensures.len, ap length one, here.invariant.room, c.push.ensures.capacity);
      in_range = omega arith;
    }

-- for which there is room
pub returns-in_err-push-clause-refused : goal.returns-in_err-push-clause-refused
returns-in_err-push-clause-refused c =
    let now = c.self.inside in
    let here = c.loop-col in
    let low : c.char_at.result < 128 =
    rw (c.char_at.ensures.shown, ← c.self.view_is) (shown_ascii now.width now.near.items now.far.items c.args.row here.col c.self.invariant.sound.ascii c.self.invariant.sound.sparse) in
    absurd (omega (arith, c.in_err-push.ensures.full, ap length (c.push.ensures.ascii low), here.invariant.room))

-- after the row's near cells and its last far cell all is blank
blank_from : (c : goal.After-push_blanks) (k : ℕ) → c.max-end.result ≤ k → k < c.args.cols → (picture c.args.self.now).cell c.args.row k ≡ blank
blank_from c k from below =
    let now = c.self.inside in
    let sound = c.self.invariant.sound in
    let most : c.min.result ≤ k = omega (arith, from, c.max-end.ensures, le-max_left c.min.result (length c.near_row-first.result.now)) in
    let past : length c.near_row-first.result.now ≤ k = omega (arith, from, c.max-end.ensures, le-max_right c.min.result (length c.near_row-first.result.now)) in
    let behind : c.row_end.result ≤ k = elim (cases_lt k c.row_end.result) [
      | inl low ↦ let both : k + 1 ≤ min c.row_end.result c.args.cols = le-min (omega arith) (omega arith) in absurd (omega (arith, most, c.min.ensures))
      | inr high ↦ high
    ] in
    let far : cell_in now.far.items c.args.row k ≡ blank = rw c.deref-2.ensures.value at (c.row_end.ensures k behind) in
    rw (← c.self.view_is) (elim (cases_lt k now.width) [
      | inl inside ↦ shown_far now.width now.near.items now.far.items c.args.row k (λ h. rw c.deref.ensures.value at (c.near_row-first.ensures.all k past below inside)) ∙ far
      | inr outside ↦ shown_far now.width now.near.items now.far.items c.args.row k (λ h. absurd (omega arith)) ∙ far
    ])

on_either : {A : Type 0} → {E : Type 0} → (P : Type 0) (r : Result A E) → P → OnOk r P
on_either P (Ok value) holds = holds
on_either P (Err fault) holds = tt

pub returns-clause-added : goal.returns-clause-added
returns-clause-added c =
    let cell = (picture c.args.self.now).cell in
    let end = c.max-end.result in
    let at : c.loop-col.col ≡ end = omega arith in
    let least : c.min.result ≤ c.args.cols = omega (arith, c.min.ensures, min-le_right c.row_end.result c.args.cols) in
    let within : end ≤ c.args.cols = omega (arith, c.max-end.ensures, max-le {a = c.min.result} {b = length c.near_row-first.result.now} {k = c.args.cols} least c.near_row-first.ensures.len) in
    let all : end + (c.args.cols - end) ≡ c.args.cols = omega arith in
    let blanks = row_blanks cell c.args.row end (c.args.cols - end) (λ k from below. blank_from c k from (omega arith)) in
    let bytes : string_bytes c.push_blanks.new.shown ≡ string_bytes c.args.shown.now ++ row_of cell c.args.row c.args.cols =
    c.push_blanks.ensures.bytes ∙ ap (λ l. l ++ replicate (c.args.cols - end) blank) (c.loop-col.invariant.bytes ∙ ap (λ n. string_bytes c.args.shown.now ++ row_of cell c.args.row n) at)
    ∙ append_assoc (string_bytes c.args.shown.now) (row_of cell c.args.row end) (replicate (c.args.cols - end) blank)
    ∙ ap (λ l. string_bytes c.args.shown.now ++ l) (sym blanks ∙ ap (λ n. row_of cell c.args.row n) all) in
    on_either _ c.push_blanks.result bytes
