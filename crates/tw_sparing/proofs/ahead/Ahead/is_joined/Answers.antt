use Rattle.std.proofs.Common.{ap, sym, ◌∙◌}
use Rattle.tw_surface.specs.ChangeView.{batch_view}
use Rattle.tw_sparing.specs.Ahead.{all_changes, leaves_sight}
use Rattle.tw_sparing.proofs.AheadLemmas.{above_ahead, joined_ahead, next_width}
use Rattle.tw_sparing.proofs.ahead.Ahead.is_joined.Goals as goal

pub is_same_above-requires : goal.is_same_above-requires
is_same_above-requires c =
    next_width c.self.inside.size c.args.self.now c.self.inside.shown c.self.inside.drawn c.args.next.now (all_changes c.self.inside.kept) (batch_view c.args.changes.now)
    c.in-Some-Some.shown c.in-Some-Some.next c.self.view_is c.in-Some-Some.is-0 c.in-Some-Some.is-1 c.self.invariant c.requires

pub returns-then-not-leaves_sight-clause-joined : goal.returns-then-not-leaves_sight-clause-joined
returns-then-not-leaves_sight-clause-joined c is =
    joined_ahead c.self.inside.size c.args.self.now c.self.inside.shown c.self.inside.drawn c.args.next.now (all_changes c.self.inside.kept) (batch_view c.args.changes.now)
    c.in-Some-Some.shown c.in-Some-Some.next c.self.view_is c.in-Some-Some.is-0 c.in-Some-Some.is-1 c.left_behind-top.result c.left_behind-top.ensures c.self.invariant c.requires
    (ap (λ x. leaves_sight c.self.inside.size.rows x (batch_view c.args.changes.now)) (sym c.latest.ensures) ∙ sym c.leaves_sight.ensures ∙ c.if-not-leaves_sight.true)
    (c.is_same_above.ensures.same is)

pub returns-then-not-leaves_sight-clause-found : goal.returns-then-not-leaves_sight-clause-found
returns-then-not-leaves_sight-clause-found c joined =
    c.is_same_above.ensures.found
    (above_ahead c.self.inside.size c.args.self.now c.self.inside.shown c.self.inside.drawn c.args.next.now (all_changes c.self.inside.kept) (batch_view c.args.changes.now)
    c.in-Some-Some.shown c.in-Some-Some.next c.self.view_is c.in-Some-Some.is-0 c.in-Some-Some.is-1 c.left_behind-top.result c.left_behind-top.ensures joined)
