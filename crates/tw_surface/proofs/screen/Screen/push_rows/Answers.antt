use Rattle.std.proofs.Common.{◌≡◌, ◌<◌, ◌≤◌, ◌+◌, ◌++◌, inl, length, Result, Ok, Err, OnErr, append-nil, sym, ap, ◌∙◌, arith}
use Rattle.std.specs.Prelude.{string_bytes}
use Rattle.std.specs.Slice.Iter.{chunks_exact_rest}
use Rattle.tw_surface.specs.Cells.{picture, row_of}
use Rattle.tw_surface.proofs.NearCells.{AreLeft, near_row_ascii, near_row_of, next_left, next_near, none_passed, part_added, part_of_row, row_added}
use Rattle.tw_surface.proofs.screen.Screen.push_rows.Goals.{After-push_str, in-Some+in_ok-push_ascii-in-Some, in-None+in_ok-push_row-in-None}
use Rattle.tw_surface.proofs.screen.Screen.push_rows.Goals as goal

pub loop-row-init : goal.loop-row-init
loop-row-init c = record {
  bytes = sym (append-nil (string_bytes c.args.shown.now));
  size = rw (← c.self.view_is) c.chunks_exact-near.ensures.size;
  left = rw (← c.self.view_is, c.chunks_exact-near.ensures.rest, c.deref.ensures.value) (none_passed _ _);
}

pub push_ascii-requires : goal.push_ascii-requires
push_ascii-requires c =
    let steps = c.in-Some.ensures.steps in
    near_row_ascii _ c.in-Some.cells.now _ (next_near _ _ _ _ _ _ c.loop-row.invariant.left steps.1.0 (steps.1.1 ∙ c.loop-row.invariant.size)) (rw (← c.self.view_is) c.self.invariant.sound.ascii)

on_err : {A : Type 0} → {E : Type 0} → (P : Type 0) (r : Result A E) → P → OnErr r P
on_err P (Ok value) holds = tt
on_err P (Err fault) holds = holds

pub returns-in_err-push_ascii-in-Some-clause-refused : goal.returns-in_err-push_ascii-in-Some-clause-refused
returns-in_err-push_ascii-in-Some-clause-refused c =
    let most : c.loop-row.row ≤ c.args.rows = omega arith in
    on_err _ c.from_residual.result (part_added _ _ _ _ c.loop-row.row _ _ most (c.in_err-push_ascii-in-Some.ensures.bytes ∙ c.loop-row.invariant.bytes))

pub returns-in_err-push_row-in-None-clause-refused : goal.returns-in_err-push_row-in-None-clause-refused
returns-in_err-push_row-in-None-clause-refused c =
    let most : c.loop-row.row ≤ c.args.rows = omega arith in
    on_err _ c.from_residual-in_err-push_row-in-None.result (part_added _ _ _ _ c.loop-row.row _ _ most (c.in_err-push_row-in-None.ensures.refused ∙ c.loop-row.invariant.bytes))

-- near or not, the row is there
with_row : (c : After-push_str) → string_bytes c.match-next.shown ≡ string_bytes c.loop-row.shown ++ row_of (picture c.args.self.now).cell c.loop-row.row c.args.self.now.width
with_row c = elim c.match-next.branch [
  | in-Some+in_ok-push_ascii-in-Some w ↦
      let now = c.args.self.now in
      let steps = w.in-Some.ensures.steps in
      let len : length w.in-Some.cells.now ≡ now.width = steps.1.1 ∙ c.loop-row.invariant.size in
      let near = next_near _ _ _ _ _ _ c.loop-row.invariant.left steps.1.0 len in
      let first = near_row_of now.width now.near now.far c.loop-row.row w.in-Some.cells.now (omega (arith, len)) near in
      ap string_bytes w.shown-is ∙ w.in_ok-push_ascii-in-Some.ensures.bytes ∙ ap (λ t. string_bytes c.loop-row.shown ++ t) (first ∙ ap (row_of (picture now).cell c.loop-row.row) len)
  | in-None+in_ok-push_row-in-None w ↦ ap string_bytes w.shown-is ∙ w.in_ok-push_row-in-None.ensures.added
      ∙ ap (λ n. string_bytes c.loop-row.shown ++ row_of (picture c.args.self.now).cell c.loop-row.row n) (ap (λ s. s.width) c.self.view_is)
]

pub returns-in_err-push_str-clause-refused : goal.returns-in_err-push_str-clause-refused
returns-in_err-push_str-clause-refused c =
    let row = row_of (picture c.args.self.now).cell c.loop-row.row c.args.self.now.width in
    let below : c.loop-row.row < c.args.rows = c.loop-row-test.true in
    on_err _ c.from_residual-in_err-push_str.result
    (part_of_row _ _ _ _ c.loop-row.row _ _ below (c.in_err-push_str.ensures.bytes ∙ with_row (goal.at.returns-in_err-push_str-clause-refused c).After-push_str ∙ ap (λ t. t ++ row) c.loop-row.invariant.bytes))

pub loop-row-preserved : goal.loop-row-preserved
loop-row-preserved c =
    let at_end = (goal.at.loop-row-preserved c).After-push_str in
    let row = row_of (picture c.args.self.now).cell c.loop-row.row c.args.self.now.width in
    record {
      bytes = row_added _ _ _ _ c.loop-row.row _ (c.in_ok-push_str.ensures.bytes ∙ ap (λ t. t ++ c.args.end.now) (with_row at_end ∙ ap (λ t. t ++ row) c.loop-row.invariant.bytes));
      size = c.next.ensures.steps.0 ∙ c.loop-row.invariant.size;
      left = left_of at_end;
    }
  where
    left_of : (c : After-push_str) → AreLeft c.args.self.now.width (c.loop-row.row + 1) c.args.self.now.near (chunks_exact_rest c.next.new.self)
    left_of c = elim c.match-next.branch [
      | in-Some+in_ok-push_ascii-in-Some w ↦
          let steps = w.in-Some.ensures.steps in
          next_left _ _ _ _ _ _ c.loop-row.invariant.left steps.1.0 (steps.1.1 ∙ c.loop-row.invariant.size)
      | in-None+in_ok-push_row-in-None w ↦
          let steps = w.in-None.ensures.steps in
          inl (rw (steps.1.1, ← c.loop-row.invariant.size) steps.1.0)
    ]
