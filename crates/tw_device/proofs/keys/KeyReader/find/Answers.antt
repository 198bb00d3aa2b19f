use Rattle.std.proofs.Common.{rules, ◌≡◌, ◌∷◌, [], ap, sym, ◌∙◌, refl, subst, arith, inr}
use Rattle.std.proofs.lemmas.Result.{err_from_is_err_and}
use Rattle.tw_input.specs.EventView.{event_view}
use Rattle.tw_device.specs.Keys.{held_by}
use Rattle.tw_device.specs.Told.{events_in_option}
use Rattle.tw_device.specs.Typed.{TellsIn, most_steps}
use Rattle.tw_device.proofs.TypedLemmas.{held_is, no_event_at_hand, none_at_hand, tells_kept, tells_same, tells_came, tells_took, wants_more, wants_memory}
use Rattle.tw_device.proofs.keys.KeyReader.find.Goals.{in-Some+in_ok-event-in-Some+in_default, in-None-2+in_ok-is_last-in-None-2}
use Rattle.tw_device.proofs.keys.KeyReader.find.Goals as goal

pub returns-in-Some-2-clause-tells : goal.returns-in-Some-2-clause-tells
returns-in-Some-2-clause-tells g c =
    let held = held_by g.R.Read.remaining in
    let scanned = c.in-Some.ensures in
    let taken = c.in_ok-event-in-Some.ensures in (
      _,
      tells_took _ _ (held c.loop-turn.self) (held c.scan.new.self) (held c.take.new.self) (event_view c.in-Some-2.event ∷ []) c.loop-turn.is_last c.in-Some.found
          c.loop-turn.invariant.tells scanned.held c.loop-turn.invariant.at_end scanned.token
          (ap events_in_option (sym c.in-Some-2.is) ∙ taken.event)
          (held_is (held c.take.new.self) _ _ _ _ _ taken.rest.1 taken.rest.3 taken.taken taken.rest.2 (ap g.R.Read.remaining taken.rest.0)),
    )

pub returns-in_err-event-in-Some-clause-tells : goal.returns-in_err-event-in-Some-clause-tells
returns-in_err-event-in-Some-clause-tells g c =
    let held = held_by g.R.Read.remaining in
    let p = err_from_is_err_and c.from_residual.result c.from_residual.ensures.1 in
    let refused = c.in_err-event-in-Some.ensures in
    rw p.1 (tells_same _ _ (held c.loop-turn.self) (held c.take.new.self) c.loop-turn.invariant.tells
    (held_is (held c.take.new.self) _ _ _ _ _ refused.rest.1 refused.rest.3 refused.kept refused.rest.2 (ap g.R.Read.remaining refused.rest.0) ∙ c.in-Some.ensures.held))

pub returns-in_err-event-in-Some-clause-held_up : goal.returns-in_err-event-in-Some-clause-held_up
returns-in_err-event-in-Some-clause-held_up g c =
    let held = held_by g.R.Read.remaining in
    let p = err_from_is_err_and c.from_residual.result c.from_residual.ensures.1 in
    let refused = c.in_err-event-in-Some.ensures in
    rw (p.1, p.2) (wants_memory _ _ (held c.loop-turn.self) (held c.take.new.self) c.loop-turn.is_last c.in-Some.found
    (held_is (held c.take.new.self) _ _ _ _ _ refused.rest.1 refused.rest.3 refused.kept refused.rest.2 (ap g.R.Read.remaining refused.rest.0) ∙ c.in-Some.ensures.held)
    c.in-Some.ensures.token refused.refused)

pub returns-in_err-is_last-in-None-2-clause-tells : goal.returns-in_err-is_last-in-None-2-clause-tells
returns-in_err-is_last-in-None-2-clause-tells g c =
    let held = held_by g.R.Read.remaining in
    let p = err_from_is_err_and c.from_residual-in_err-is_last-in-None-2.result c.from_residual-in_err-is_last-in-None-2.ensures.1 in
    let refused = c.in_err-is_last-in-None-2.ensures in
    rw p.1 (tells_kept _ _ (held c.loop-turn.self) (held c.scan.new.self) (held c.read.new.self) c.loop-turn.invariant.tells c.in-None-2.ensures.held
    (held_is (held c.read.new.self) _ _ _ _ _ refused.choices.0 refused.choices.1 refused.err.0 refused.err.1 refl) refused.err.2)

pub returns-in_err-is_last-in-None-2-clause-held_up : goal.returns-in_err-is_last-in-None-2-clause-held_up
returns-in_err-is_last-in-None-2-clause-held_up g c =
    let held = held_by g.R.Read.remaining in
    let p = err_from_is_err_and c.from_residual-in_err-is_last-in-None-2.result c.from_residual-in_err-is_last-in-None-2.ensures.1 in
    let refused = c.in_err-is_last-in-None-2.ensures in
    rw (p.1, p.2) (wants_more _ _ (held c.loop-turn.self) (held c.scan.new.self) (held c.read.new.self) c.in-None-2.ensures.held
    (rw c.if-is_last.false at c.in-None-2.ensures.token)
    (held_is (held c.read.new.self) _ _ _ _ _ refused.choices.0 refused.choices.1 refused.err.0 refused.err.1 refl))

pub loop-turn-preserved : goal.loop-turn-preserved
loop-turn-preserved g c = elim c.match-scan.branch [
  | in-Some+in_ok-event-in-Some+in_default w ↦
      let held = held_by g.R.Read.remaining in
      let scanned = w.in-Some.ensures in
      let taken = w.in_ok-event-in-Some.ensures in
      record {
        told = search rules;
        tells = rw w.self-is (tells_took _ _ (held c.loop-turn.self) (held c.scan.new.self) (held w.take.new.self) [] c.loop-turn.is_last w.in-Some.found
            c.loop-turn.invariant.tells scanned.held c.loop-turn.invariant.at_end scanned.token
            (ap events_in_option (sym w.in_default.is) ∙ taken.event)
            (held_is (held w.take.new.self) _ _ _ _ _ taken.rest.1 taken.rest.3 taken.taken taken.rest.2 (ap g.R.Read.remaining taken.rest.0)));
        at_end = search rules;
        at_hand = λ there.
            let first = c.loop-turn.invariant.at_hand there in
            absurd (no_event_at_hand (held c.args.self.now) (held c.loop-turn.self) c.loop-turn.is_last w.in-Some.found _ _ there first.0 first.1 scanned.token (ap events_in_option (sym w.in_default.is) ∙ taken.event));
      }
  | in-None-2+in_ok-is_last-in-None-2 w ↦
      let held = held_by g.R.Read.remaining in
      let came = w.in_ok-is_last-in-None-2.ensures.ok in
      record {
        told = search rules;
        tells = rw w.self-is (tells_came _ _ (held c.loop-turn.self) (held c.scan.new.self) (held w.read.new.self) came.0
            c.loop-turn.invariant.tells w.in-None-2.ensures.held (rw w.if-is_last.false at w.in-None-2.ensures.token)
            (held_is (held w.read.new.self) _ _ _ _ _ w.in_ok-is_last-in-None-2.ensures.choices.0 w.in_ok-is_last-in-None-2.ensures.choices.1 came.1 came.2 refl) came.3);
        at_end = search rules;
        at_hand = λ there.
            let first = c.loop-turn.invariant.at_hand there in
            absurd (none_at_hand (held c.args.self.now) (held c.loop-turn.self) c.loop-turn.is_last there first.0 first.1 w.in-None-2.ensures.token);
      }
]

pub returns-clause-held_up : goal.returns-clause-held_up
returns-clause-held_up g c =
    let held = held_by g.R.Read.remaining in
    let all : c.loop-turn.turn ≡ most_steps = omega (arith, c.loop-turn.auto.turn-end, c.loop-turn-test.false) in
    inr (subst (λ n. TellsIn n (held c.args.self.now) (held c.loop-turn.self) []) all c.loop-turn.invariant.tells)
