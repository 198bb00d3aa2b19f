use Rattle.std.proofs.Common.{◌≡◌, ◌+◌, drop, take, ap, sym, ◌∙◌, arith}
use Rattle.std.proofs.lemmas.List.{take-append-drop, take_rest, drop-drop, length-drop}
use Rattle.tw_surface.specs.Pictures.{Picture, play_text}
use Rattle.tw_surface.specs.Cells.{picture_of}
use Rattle.tw_surface.proofs.RunLemmas.{play_text-append, plain_rest}
use Rattle.tw_surface.proofs.TextCursor.{text-row}
use Rattle.tw_surface.proofs.screen.play.play_bytes.Goals as goal

-- the text ends no higher than here
pub play_front-count-requires-clause-sound : goal.play_front-count-requires-clause-sound
play_front-count-requires-clause-sound c =
    let screen = c.requires.sound in
    let here = c.loop-at in
    record {
      width_above = screen.width_above;
      width_most = screen.width_most;
      row_most = omega (arith, c.requires.row, text-row c.args.width (drop here.at c.args.text.now) (picture_of c.args.width here.near here.far.items here.row here.col), ap (λ q. q.row) here.invariant.ends);
      col_most = here.invariant.col;
      ascii = here.invariant.ascii;
      sparse = here.invariant.sparse;
    }

pub play_front-count-requires-clause-plain : goal.play_front-count-requires-clause-plain
play_front-count-requires-clause-plain c = rw (take_rest c.args.text.now c.loop-at.at) (plain_rest c.loop-at.at c.args.text.now c.requires.plain)

pub loop-at-preserved : goal.loop-at-preserved
loop-at-preserved c =
    let here = c.loop-at in
    let count = c.play_front-count.result.0 in
    let width = c.args.width in
    let rest = drop here.at c.args.text.now in
    let left : drop count rest ≡ drop (here.at + count) c.args.text.now = drop-drop count here.at c.args.text.now in
    let passed = rw (take_rest c.args.text.now here.at) at c.play_front-count.ensures.played in
    let places = rw (take_rest c.args.text.now here.at) at c.play_front-count.ensures.place in
    let most = rw (take_rest c.args.text.now here.at) at c.play_front-count.ensures.count_most in
    let was : Picture = picture_of width here.near here.far.items here.row here.col in
    record {
      in_range = omega (arith, most, length-drop here.at c.args.text.now);
      ends = rw (← left) (ap (λ s. play_text width (drop count rest) s) passed
          ∙ sym (play_text-append width (take count rest) (drop count rest) was)
          ∙ ap (λ t. play_text width t was) (take-append-drop count rest) ∙ here.invariant.ends);
      room = rw (← left) (λ lacks.
          let had = here.invariant.room (omega (arith, places, c.play_front-count.ensures.near_len)) in
          omega (arith, most, length-drop count rest, c.play_front-count.ensures.len, c.play_front-count.ensures.capacity));
      col = c.play_front-count.ensures.within;
      ascii = c.play_front-count.ensures.ascii;
      sparse = rw c.play_front-count.ensures.near_len c.play_front-count.ensures.sparse;
    }
