use Rattle.std.proofs.Common.{◌≡◌, ◌≤◌, ◌<◌, ap, sym, ◌∙◌, nat_abs, arith, true, rules, inl, inr}
use Rattle.std.proofs.lemmas.Int.{ints, to_z-of_z}
use Rattle.std.specs.Int.{w64}
use mir.Val.{SFits}
use Rattle.std.proofs.lemmas.Bool.{false≢true}
use Rattle.tw_surface.specs.ChangeView.{change_view, batch_view}
use Rattle.tw_surface.specs.Places.{Place, move_between, stays_in_range}
use Rattle.tw_surface.specs.Drawings.{place}
use Rattle.tw_surface.proofs.DrawingLemmas.{place_of-measured, place-move, stays_in_range-move_between}
use Rattle.tw_surface.proofs.sequence.ChangeSequence.move_to.Goals as goal

abbrev target : goal.After-add_change → Place
target c = record { x = c.args.to.0; y = c.args.to.1 }

-- the change that is added
change_is : (c : goal.After-add_change) → change_view c.relative_move-change.result ≡ move_between (place c.args.self.now) (target c)
change_is c =
    let fits : SFits w64 c.args.to.1 = search rules in
    rw (to_z-of_z w64 c.args.to.1 fits) at c.relative_move-change.ensures
    ∙ ap (λ p. move_between p (target c))
    (place_of-measured (record { cols = c.self.inside.cols; changes = batch_view c.self.inside.changes.items }) c.self.inside.reached c.self.invariant
    ∙ ap place c.self.view_is)

pub returns-clause-moved : goal.returns-clause-moved
returns-clause-moved c = rw (← change_is c) c.add_change.ensures.added

-- the column, and so the move, is one of the screen
column : (c : goal.After-add_change) → c.args.to.0 < c.args.self.now.cols
column c = let same : c.self.inside.cols ≡ c.args.self.now.cols = ap (λ d. d.cols) c.self.view_is in omega arith

pub returns-clause-place : goal.returns-clause-place
returns-clause-place c = grind (arith, returns-clause-moved c, place-move c.args.self.now (target c) (column c))

pub returns-clause-range : goal.returns-clause-range
returns-clause-range c =
    let near : nat_abs c.args.to.1 ≤ 2147483647 = omega (arith, ints) in
    let few : c.args.self.now.cols ≤ 65535 = let same : c.self.inside.cols ≡ c.args.self.now.cols = ap (λ d. d.cols) c.self.view_is in omega (arith, c.self.invariant.columns) in
    let inside : c.args.to.0 < c.args.self.now.cols = column c in
    let stays : stays_in_range c.args.self.now.cols (change_view c.relative_move-change.result) (place c.args.self.now) ≡ true =
    ap (λ change. stays_in_range c.args.self.now.cols change (place c.args.self.now)) (change_is c)
    ∙ stays_in_range-move_between c.args.self.now.cols (place c.args.self.now) (target c) inside few near in (
      (λ is. absurd (false≢true (sym (c.add_change.ensures.range.0 is) ∙ stays))),
      (λ out. elim out [ inl far ↦ absurd (omega arith) | inr far ↦ absurd (omega arith) ]),
    )
