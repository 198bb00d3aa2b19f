use Rattle.std.proofs.Common.{◌≡◌, length, ap, ◌∙◌, sym, rules}
use Rattle.std.proofs.lemmas.List.{with_items_is}
use Rattle.tw_surface.specs.Pictures.{play_text}
use Rattle.tw_surface.specs.Cells.{IsGrown, AreSoundCells}
use Rattle.tw_surface.proofs.NearCells.{shown_grown, shown_same, sound_trimmed}
use Rattle.tw_surface.proofs.screen.Screen.write_text.Goals as goal

kept : (c : goal.After-self-3-1) → IsGrown c.trim.new.near.items c.play_bytes-row.new.near
kept c =
    let size : length c.play_bytes-row.new.near ≡ c.make_room.new.near.len = c.play_bytes-row.auto.near ∙ c.deref_mut.ensures.len in
    rw (with_items_is c.make_room.new.near c.play_bytes-row.new.near size) at c.trim.ensures.kept

-- the near cells without the blanks at their end
trimmed : (c : goal.After-self-3-1) → AreSoundCells c.self.inside.width c.play_bytes-row.result.0 c.play_bytes-row.result.1 c.trim.new.near.items c.play_bytes-row.new.far.items
trimmed c = sound_trimmed c.self.inside.width c.play_bytes-row.result.0 c.play_bytes-row.result.1 c.play_bytes-row.new.near c.trim.new.near.items c.play_bytes-row.new.far.items (kept c) c.play_bytes-row.ensures.sound

pub invariant_of-self-2 : goal.invariant_of-self-2
invariant_of-self-2 c =
    let sound = trimmed c in
    record {
      sound = record {
        width_above = sound.width_above;
        width_most = sound.width_most;
        row_most = sound.row_most;
        col_most = sound.col_most;
        ascii = sound.ascii;
        sparse = c.trim_cells.ensures.sparse _ _ sound.sparse;
      };
      trimmed = c.trim.ensures.trimmed;
      ended = c.trim_cells.ensures.ended;
    }

-- the text is played on what was shown before there was more room
pub returns-clause-played : goal.returns-clause-played
returns-clause-played c =
    let now = c.self.inside in
    let played = c.play_bytes-row in
    let far = shown_same now.width c.trim.new.near.items played.new.far.items c.trim_cells.new.cells.items c.trim_cells.ensures.shown in
    let near = shown_grown now.width c.trim.new.near.items played.new.near played.new.far.items (kept c) played.ensures.sound.sparse in
    ap (λ cell. record { cell = cell; row = played.result.0; col = played.result.1 }) (far ∙ sym near)
    ∙ played.ensures.played
    ∙ rw (c.deref_mut.ensures.value, ← c.self.view_is) (ap (λ cell. play_text now.width c.args.text.now (record { cell = cell; row = now.row; col = now.col })) c.make_room.ensures.shown)

pub returns-then-not-ends_in_range-clause-plain : goal.returns-then-not-ends_in_range-clause-plain
returns-then-not-ends_in_range-clause-plain c = search rules

pub returns-then-is_err-clause-plain : goal.returns-then-is_err-clause-plain
returns-then-is_err-clause-plain c = search rules

pub play_bytes-row-requires-clause-plain : goal.play_bytes-row-requires-clause-plain
play_bytes-row-requires-clause-plain c = search rules
