use Rattle.std.proofs.Common.{rules, Some, None, subst, sym, arith}
use Rattle.std.proofs.lemmas.Str.Pattern.{split_parts}
use Rattle.script_player.specs.Events.{IsWholeNumber}
use Rattle.script_player.proofs.EventLemmas.{size_parts, whole_number_parses}
use Rattle.script_player.proofs.events.size_named.Goals as goal

pub returns-clause-named : goal.returns-clause-named
returns-clause-named c =
    let parts = split_parts 120 _ (Some (c.in_ok-cols.cols, c.in_ok-cols.rows)) c.in_ok-cols.ensures.cases (omega arith) in
    (_, _, parts.0, search rules, search rules)

pub returns-in_err-cols-clause-size : goal.returns-in_err-cols-clause-size
returns-in_err-cols-clause-size c = λ cols rows _ _ size. absurd (size_parts _ cols rows None c.in_err-cols.ensures.cases size)

pub returns-in_err-ok-clause-size : goal.returns-in_err-ok-clause-size
returns-in_err-ok-clause-size c =
    λ cols rows low _ size.
    let parts = size_parts _ cols rows (Some (c.in_ok-cols.cols, c.in_ok-cols.rows)) c.in_ok-cols.ensures.cases size in
    let number = subst (λ text. IsWholeNumber text cols) (sym parts.0) size.3 in
    absurd (whole_number_parses c.in_ok-cols.cols.now cols _ c.parse.ensures.value.0 c.in_err-ok.ensures.value number low)

pub returns-in_err-ok-2-clause-size : goal.returns-in_err-ok-2-clause-size
returns-in_err-ok-2-clause-size c =
    λ cols rows _ low size.
    let parts = size_parts _ cols rows (Some (c.in_ok-cols.cols, c.in_ok-cols.rows)) c.in_ok-cols.ensures.cases size in
    let number = subst (λ text. IsWholeNumber text rows) (sym parts.1) size.4 in
    absurd (whole_number_parses c.in_ok-cols.rows.now rows _ c.parse-2.ensures.value.0 c.in_err-ok-2.ensures.value number low)
