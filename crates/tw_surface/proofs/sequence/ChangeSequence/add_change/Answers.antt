use Rattle.std.proofs.Common.{◌≡◌, ◌↔◌, ◌∷◌, [], ◌++◌, Bool, true, false, ap, sym, ◌∙◌, refl, rules, Result, Err}
use Rattle.std.proofs.lemmas.Bool.{false≢true}
use Rattle.std.proofs.lemmas.List.{map-append}
use Rattle.tw_surface.specs.declared.sequence.AddFault.{AddFault}
use Rattle.tw_surface.specs.declared.sequence.AddFault.TheVariants.{OutOfRange}
use Rattle.tw_surface.specs.ChangeView.{change_view, batch_view}
use Rattle.tw_surface.specs.Places.{stays_in_range}
use Rattle.tw_surface.specs.Drawings.{Drawing, place}
use Rattle.tw_surface.proofs.DrawingLemmas.{stays-measured, measured-add}
use Rattle.tw_surface.proofs.sequence.ChangeSequence.add_change.Goals as goal

-- a result other than `OutOfRange`, where the change stays in range
in_range : (b : Bool) (result : Result Unit AddFault) → b ≡ true → (result ≡ Err OutOfRange → ⊥) → (result ≡ Err OutOfRange) ↔ (b ≡ false)
in_range b result e other = ((λ is. absurd (other is)), (λ is. absurd (false≢true (sym is ∙ e))))

pub returns-in_default : goal.returns-in_default
returns-in_default c =
    let d : Drawing = record { cols = c.self.inside.cols; changes = batch_view c.self.inside.changes.items } in
    let e : stays_in_range c.args.self.now.cols (change_view c.args.change) (place c.args.self.now) ≡ false =
    ap (λ d. stays_in_range d.cols (change_view c.args.change) (place d)) (sym c.self.view_is)
    ∙ stays-measured d c.self.inside.reached (change_view c.args.change) false c.self.invariant c.in_default.ensures in
    record { added = search rules; refused = refl; range = ((λ _. e), (λ _. refl)) }

pub returns-then-is_err : goal.returns-then-is_err
returns-then-is_err c =
    let d : Drawing = record { cols = c.self.inside.cols; changes = batch_view c.self.inside.changes.items } in
    let e : stays_in_range c.args.self.now.cols (change_view c.args.change) (place c.args.self.now) ≡ true =
    ap (λ d. stays_in_range d.cols (change_view c.args.change) (place d)) (sym c.self.view_is)
    ∙ stays-measured d c.self.inside.reached (change_view c.args.change) true c.self.invariant c.in-Some.ensures.0 in
    record { added = search rules; refused = rw (c.push_change.ensures.items, c.if-is_err.ensures.negation) c.self.view_is; range = in_range _ _ e (λ is. cc) }

pub invariant_of-self-2 : goal.invariant_of-self-2
invariant_of-self-2 c =
    measured-add (record { cols = c.self.inside.cols; changes = batch_view c.self.inside.changes.items }) c.self.inside.reached c.in-Some.next (change_view c.args.change) _
    c.self.invariant c.in-Some.ensures.0 c.in-Some.ensures.1
    (rw (c.push_change.ensures.items, c.if-is_err.ensures.negation) (map-append change_view c.self.inside.changes.items (c.args.change ∷ [])))

pub returns : goal.returns
returns c =
    let d : Drawing = record { cols = c.self.inside.cols; changes = batch_view c.self.inside.changes.items } in
    let e : stays_in_range c.args.self.now.cols (change_view c.args.change) (place c.args.self.now) ≡ true =
    ap (λ d. stays_in_range d.cols (change_view c.args.change) (place d)) (sym c.self.view_is)
    ∙ stays-measured d c.self.inside.reached (change_view c.args.change) true c.self.invariant c.in-Some.ensures.0 in
    record {
      added = rw (c.push_change.ensures.items, c.if-is_err.ensures.negation, map-append change_view c.self.inside.changes.items (c.args.change ∷ [])) (ap (λ d. more d) c.self.view_is);
      refused = search rules;
      range = in_range _ _ e (λ is. cc);
    }
  where
    more : Drawing → Drawing
    more d = record d { changes = d.changes ++ change_view c.args.change ∷ [] }
