use Rattle.std.proofs.Common.{sym, subst, ◌∷◌, [], ◌∙◌}
use Rattle.tw_surface.specs.Openings.{IsFront}
use Rattle.tw_surface.proofs.LoneWidths.{base_by_table, base_in_block}
use Rattle.tw_surface.proofs.clusters.base_columns.Goals as goal

pub returns-then-columns-gt0 : goal.returns-then-columns-gt0
returns-then-columns-gt0 c =
    let columns = c.lone_columns-columns.ensures.value in
    subst (IsFront (c.args.c ∷ [])) (sym columns) (base_in_block c.args.c (rw (← columns) c.if-columns-gt0.true))

pub returns-in-Some : goal.returns-in-Some
returns-in-Some c =
    base_by_table c.args.c c.in-Some.columns c.if-c-le-LAST_ALONE.false (sym c.stands_alone.ensures ∙ c.if-not-stands_alone.false) c.if-columns-le2.true c.in-Some.ensures.value
