use Rattle.std.proofs.Common.{◌≡◌, ◌+◌, ◌*◌, ◌≤◌, true, length, take, drop, get_or, sym, ap, ◌∙◌, ◌<◌, ◌-◌, ◌^◌, arith, inl, inr}
use Rattle.std.proofs.lemmas.Bool.{cases_lt, false≢true}
use Rattle.std.specs.List.{list_all}
use Rattle.std.proofs.lemmas.List.{get_or-take, length-take-le, take-take, take-append-drop, drop_more}
use Rattle.std.proofs.Math.Nat.{min-le_left, min-le_right}
use Rattle.tw_surface.specs.Characters.{is_printable}
use Rattle.tw_surface.specs.Pictures.{Picture, play_text}
use Rattle.tw_surface.specs.Cells.{picture_of, reach_of}
use Rattle.tw_surface.proofs.NearCells.{place_within}
use Rattle.tw_surface.proofs.RunLemmas.{run_shown, reach_behind}
use Rattle.tw_surface.proofs.TextCursor.{reach_step, row_of_text, col_of_text}
use Rattle.tw_surface.proofs.screen.play.play_front.Goals as goal

-- ---- one character

-- a printable one stands after the near cells, since there is no run on them
from_near : (c : goal.After-play_far-new_row) → c.printable_run-run.result ≡ 0 → is_printable (get_or c.args.text.now 0 0) ≡ true → length c.args.near.now ≤ c.args.row * c.args.width + c.args.col
from_near c none printable =
    elim (cases_lt (c.args.row * c.args.width + c.args.col) (length c.args.near.now)) [
      | inr past ↦ past
      | inl low ↦
          let some : 0 < c.min.result = omega (arith, c.min.ensures, low, c.requires.some, c.place_of.ensures, min-le_left (c.args.row * c.args.width + c.args.col) (2 ^ 64 - 1)) in
          let first : get_or (take c.min.result c.args.text.now) 0 0 ≡ get_or c.args.text.now 0 0 = get_or-take c.min.result c.args.text.now 0 0 some in
          let size : length (take c.min.result c.args.text.now) ≡ c.min.result = length-take-le c.min.result c.args.text.now (omega (arith, c.min.ensures, min-le_right c.saturating_sub-room.result (length c.args.text.now))) in
          let stops = rw (none, first) at (c.printable_run-run.ensures.stops (omega arith)) in
          absurd (false≢true (sym stops ∙ printable))
    ]

pub returns-then-run-eq0-clause-place : goal.returns-then-run-eq0-clause-place
returns-then-run-eq0-clause-place c =
    let text = c.args.text.now in
    let width = c.args.width in
    let step = reach_step width (get_or text 0 0) (drop 1 text) (picture_of width c.args.near.now c.args.far.now.items c.args.row c.args.col) c.requires.sound.col_most in
    let places = ap (λ s. s.row * width + s.col) (c.play_far-new_row.ensures.played c.args.near.now (from_near c (omega arith))) in
    omega (arith, step, places, ap (λ t. reach_of width t) (drop_more text 0 0 c.requires.some))

pub returns-then-run-eq0-clause-sparse : goal.returns-then-run-eq0-clause-sparse
returns-then-run-eq0-clause-sparse c = c.play_far-new_row.ensures.sparse (length c.args.near.now) (from_near c (omega arith)) c.requires.sound.sparse

-- ---- a run

pub returns-clause-played : goal.returns-clause-played
returns-clause-played c =
    let run = take c.printable_run-run.result c.args.text.now in
    let space = c.saturating_sub-room.result in
    let fits : c.min.result ≤ space = omega (arith, c.min.ensures, min-le_left space (length c.args.text.now)) in
    let inside : c.min.result ≤ length c.args.text.now = omega (arith, c.min.ensures, min-le_right space (length c.args.text.now)) in
    let most : c.printable_run-run.result ≤ c.min.result = omega (arith, c.printable_run-run.ensures.within, length-take-le c.min.result c.args.text.now inside) in
    let printable : list_all is_printable run ≡ true = rw (take-take c.printable_run-run.result c.min.result c.args.text.now most) at c.printable_run-run.ensures.printable in
    let place : c.place_of.result ≡ c.args.row * c.args.width + c.args.col = place_within _ _ _ c.place_of.ensures (omega arith) in
    let room : c.args.row * c.args.width + c.args.col + length run ≤ length c.args.near.now = omega (arith, length-take-le c.printable_run-run.result c.args.text.now (omega arith)) in
    let sound = c.requires.sound in
    let near = c.args.near.now in
    let far = c.args.far.now.items in
    let end : Picture = play_text c.args.width run (picture_of c.args.width near far c.args.row c.args.col) in
    let went = c.write_run-new_row in
    let shown = run_shown c.args.width near went.new.near far c.args.row c.args.col run sound.width_above sound.col_most printable room went.ensures.near_len went.ensures.written in
    ap (λ cell. record { cell = cell; row = went.result.0; col = went.result.1 }) (sym shown)
    ∙ ap (λ k. record { cell = end.cell; row = k; col = went.result.1 }) (went.ensures.row ∙ sym (row_of_text c.args.width run near far c.args.row c.args.col))
    ∙ ap (λ k. record { cell = end.cell; row = end.row; col = k }) (went.ensures.col ∙ sym (col_of_text c.args.width run near far c.args.row c.args.col))

pub returns-clause-place : goal.returns-clause-place
returns-clause-place c =
    let run = take c.printable_run-run.result c.args.text.now in
    let rest = drop c.printable_run-run.result c.args.text.now in
    let whole = ap (λ t. reach_of c.args.width t) (take-append-drop c.printable_run-run.result c.args.text.now) in
    omega (arith, c.write_run-new_row.ensures.place, whole, reach_behind c.args.width run rest)

pub returns-clause-ascii : goal.returns-clause-ascii
returns-clause-ascii c = c.write_run-new_row.ensures.ascii c.requires.sound.ascii
