use Rattle.std.proofs.Common.{Some, string_bytes, subst}
use Rattle.std.proofs.lemmas.Result.{on_ok_weaker}
use Rattle.tw_sparing.specs.Differences.{last_changed}
use Rattle.tw_sparing.specs.Redrawings.{left_of, span_redrawn}
use Rattle.tw_sparing.specs.Sending.{IsAdded, screen_cells}
use Rattle.tw_sparing.proofs.AddedChanges.{row_single, span_added}
use Rattle.tw_sparing.proofs.redrawer.Redrawer.draw_row.Goals as goal

pub write_cells-requires-clause-single : goal.write_cells-requires-clause-single
write_cells-requires-clause-single c =
    row_single c.args.new.now.width c.width.result c.args.row c.in-Some.first c.in-Some-last_changed.last (screen_cells c.args.new.now) c.width.ensures.value c.in-Some-last_changed.ensures.bound c.requires.single

pub returns-clause-ok : goal.returns-clause-ok
returns-clause-ok c =
    let w = c.args.new.now.width in
    let old = left_of c.args.old.now.width c.args.from (screen_cells c.args.old.now) c.args.row in
    let new = screen_cells c.args.new.now in
    let hand = c.args.self.now.hand in
    on_ok_weaker c.write_cells.result
    (λ typed. subst (λ first. IsAdded (span_redrawn w c.args.row new first (last_changed w old (new c.args.row)) hand) c.args.self.now (string_bytes c.args.out.now) c.write_cells.new.self (string_bytes c.write_cells.new.out)) c.in-Some.ensures.value
    (subst (λ last. IsAdded (span_redrawn w c.args.row new (Some c.in-Some.first) last hand) c.args.self.now (string_bytes c.args.out.now) c.write_cells.new.self (string_bytes c.write_cells.new.out)) c.in-Some-last_changed.ensures.value
    (span_added w c.width.result c.args.row c.in-Some.first c.in-Some-last_changed.last new c.args.self.now c.lead_to.new.self c.write_cells.new.self (string_bytes c.args.out.now) (string_bytes c.lead_to.new.out) (string_bytes c.write_cells.new.out)
    c.width.ensures.value c.in_ok-lead_to.ensures.ok typed)))
    c.write_cells.ensures.ok
