use Rattle.std.proofs.Common.{◌≡◌, ap, sym, subst, is_none, ◌∙◌, inl, inr, arith, rules}
use Rattle.std.proofs.lemmas.Bool.{cases_eq}
use Rattle.tw_line.specs.Extremes.{least_from}
use Rattle.tw_sparing.specs.Differences.{differ_in}
use Rattle.tw_sparing.specs.Sending.{screen_cells}
use Rattle.tw_sparing.proofs.FoundColumns.{none_differs, no_change}
use Rattle.tw_sparing.proofs.shown.is_same_above.Goals as goal

pub returns-then-not-is_same_in_row-clause-found : goal.returns-then-not-is_same_in_row-clause-found
returns-then-not-is_same_in_row-clause-found c keeps =
    let row = c.loop-row.row in
    let old = screen_cells c.args.old.now row in
    let new = screen_cells c.args.new.now row in
    let is = subst (λ w. c.is_same_in_row.result ≡ is_none (least_from (differ_in old new) 0 w)) c.width.ensures.value c.is_same_in_row.ensures in
    sym c.if-not-is_same_in_row.true ∙ is ∙ ap is_none (no_change c.args.new.now.width old new (λ j left. keeps.cell row j c.loop-row-test.true left))

pub loop-row-preserved : goal.loop-row-preserved
loop-row-preserved c i j low left =
    let row = c.loop-row.row in
    let old = screen_cells c.args.old.now in
    let new = screen_cells c.args.new.now in
    let is = subst (λ w. c.is_same_in_row.result ≡ is_none (least_from (differ_in (old row) (new row)) 0 w)) c.width.ensures.value c.is_same_in_row.ensures in
    elim (cases_eq i row) [
      | inl e ↦
          ap (λ k. old k j) e ∙ none_differs c.args.new.now.width (old row) (new row) (sym is ∙ c.if-not-is_same_in_row.false) j left ∙ ap (λ k. new k j) (sym e)
      | inr other ↦ c.loop-row.invariant i j (omega (arith, low, other)) left
    ]

pub returns-then-at-top-clause-found : goal.returns-then-at-top-clause-found
returns-then-at-top-clause-found c = search rules
