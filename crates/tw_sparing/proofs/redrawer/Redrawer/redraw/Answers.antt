use Rattle.std.proofs.Common.{string_bytes}
use Rattle.std.proofs.lemmas.Result.{on_err_weaker, on_ok_weaker}
use Rattle.tw_sparing.specs.Sending.{screen_cells}
use Rattle.tw_sparing.proofs.AddedChanges.{extends_more, holds_on_err, rows_single, added_onward, added_by_rows, rest_by_end, rows_added}
use Rattle.tw_sparing.proofs.redrawer.Redrawer.redraw.Goals as goal

pub go_on-requires-clause-single : goal.go_on-requires-clause-single
go_on-requires-clause-single c =
    rows_single c.args.new.now.width c.args.rows c.end_of-end.result (screen_cells c.args.new.now) c.end_of-end.ensures.bound c.requires.typable

pub returns-then-goes_onward-clause-ok : goal.returns-then-goes_onward-clause-ok
returns-then-goes_onward-clause-ok c =
    on_ok_weaker c.go_on.result
    (added_onward c.args.new.now.width c.args.reached c.args.rows (screen_cells c.args.old.now) (screen_cells c.args.new.now) c.args.to c.args.self.now c.go_on.new.self (string_bytes c.args.out.now) (string_bytes c.go_on.new.out)
    c.goes_onward.result c.end_of-end.result c.goes_onward.ensures c.if-goes_onward.true c.end_of-end.ensures.value)
    c.go_on.ensures.ok

pub returns-clause-ok : goal.returns-clause-ok
returns-clause-ok c =
    on_ok_weaker c.hand_over.result
    (λ last. added_by_rows c.args.new.now.width c.args.reached c.args.rows (screen_cells c.args.old.now) (screen_cells c.args.new.now) c.args.to c.args.self.now c.hand_over.new.self (string_bytes c.args.out.now) (string_bytes c.hand_over.new.out)
    c.goes_onward.result c.goes_onward.ensures c.if-goes_onward.false
    (rows_added c.args.new.now.width c.args.old.now.width c.width.result c.max.result c.args.reached c.args.rows (screen_cells c.args.old.now) (screen_cells c.args.new.now) c.args.to c.rest_of-rest.result
    c.args.self.now c.lower.new.self c.empty_rest.new.self c.draw_rows.new.self c.hand_over.new.self
    (string_bytes c.args.out.now) (string_bytes c.lower.new.out) (string_bytes c.empty_rest.new.out) (string_bytes c.draw_rows.new.out) (string_bytes c.hand_over.new.out)
    c.requires.width c.width.ensures.value c.max.ensures
    (rest_by_end c.args.new.now.width c.args.old.now.width c.args.rows c.end_of-end.result (screen_cells c.args.old.now) (screen_cells c.args.new.now) c.rest_of-rest.result c.requires.width c.end_of-end.ensures.value c.rest_of-rest.ensures.value)
    c.in_ok-lower.ensures.ok c.in_ok-empty_rest.ensures.ok c.in_ok-draw_rows.ensures.ok last))
    c.hand_over.ensures.ok

pub returns-in_err-draw_rows-clause-err : goal.returns-in_err-draw_rows-clause-err
returns-in_err-draw_rows-clause-err c =
    let old = string_bytes c.args.out.now in
    let low = string_bytes c.lower.new.out in
    let empty = string_bytes c.empty_rest.new.out in
    let more = c.in_err-draw_rows.ensures.err in
    holds_on_err _ c.from_residual-in_err-draw_rows.result
    (extends_more old empty (string_bytes c.draw_rows.new.out) more.0 (extends_more old low empty _ (_, c.in_ok-lower.ensures.ok.bytes) c.in_ok-empty_rest.ensures.ok.bytes) more.1)

pub returns-clause-err : goal.returns-clause-err
returns-clause-err c =
    let old = string_bytes c.args.out.now in
    let low = string_bytes c.lower.new.out in
    let empty = string_bytes c.empty_rest.new.out in
    let typed = string_bytes c.draw_rows.new.out in
    on_err_weaker c.hand_over.result
    (λ last. extends_more old typed (string_bytes c.hand_over.new.out) last.0
    (extends_more old empty typed _ (extends_more old low empty _ (_, c.in_ok-lower.ensures.ok.bytes) c.in_ok-empty_rest.ensures.ok.bytes) c.in_ok-draw_rows.ensures.ok.bytes) last.1)
    c.hand_over.ensures.err
