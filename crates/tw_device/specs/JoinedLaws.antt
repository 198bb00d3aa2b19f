-- Steps of a device of two parts, one after the other.
use Rattle.std.proofs.Common.{◌≡◌, Bool, true, List, [], ◌∷◌, ◌++◌, map, refl, sym, ap, ◌∙◌, subst, append_assoc, append-nil}
use Rattle.std.proofs.lemmas.Bool.{false≢true}
use Rattle.tw_input.specs.EventView.{EventView}
use Rattle.tw_terminal.specs.TerminalState.{TerminalState}
use Rattle.tw_terminal.specs.Uses.{Other, Took as TookCall, Refused as RefusedCall}
use Rattle.tw_lineedit.proofs.UseLemmas.{both_uses}
use Rattle.tw_device.specs.Calls.{all_events}
use Rattle.tw_device.specs.Deeds.{Deed, Called, Sized, Said, IsDone, deeds_of, sizes_in, telling}
use Rattle.tw_device.specs.Joined.{none_lost, IsAsked, Leads, LeadsOn}
use Rattle.tw_device.specs.Steps.{Step, Took, Refused, Sent, Flushed, Waited, Told, Ended, Failed, events_in}
use Rattle.tw_device.specs.declared.joined.Joined.{Joined}

pub told_then : (a b : List Step) → events_in (a ++ b) ≡ events_in a ++ events_in b
told_then [] b = refl
told_then (Took x ∷ a) b = told_then a b
told_then (Refused ∷ a) b = told_then a b
told_then (Sent ∷ a) b = told_then a b
told_then (Flushed ∷ a) b = told_then a b
told_then (Waited ∷ a) b = told_then a b
told_then (Told e ∷ a) b = ap (λ all. e ∷ all) (told_then a b)
told_then (Ended ∷ a) b = told_then a b
told_then (Failed f ∷ a) b = told_then a b

pub deeds_then : (a b : List Step) → deeds_of (a ++ b) ≡ deeds_of a ++ deeds_of b
deeds_then [] b = refl
deeds_then (Took x ∷ a) b = ap (λ all. Called (TookCall x) ∷ all) (deeds_then a b)
deeds_then (Refused ∷ a) b = deeds_then a b
deeds_then (Sent ∷ a) b = deeds_then a b
deeds_then (Flushed ∷ a) b = deeds_then a b
deeds_then (Waited ∷ a) b = deeds_then a b
deeds_then (Told e ∷ a) b = ap (λ all. map Sized (sizes_in (e ∷ [])) ++ all) (deeds_then a b) ∙ sym (append_assoc (map Sized (sizes_in (e ∷ []))) (deeds_of a) (deeds_of b))
deeds_then (Ended ∷ a) b = deeds_then a b
deeds_then (Failed f ∷ a) b = deeds_then a b

telling_then : (a b : List Deed) → telling (a ++ b) ≡ telling a ++ telling b
telling_then [] b = refl
telling_then (Called Other ∷ a) b = telling_then a b
telling_then (Called RefusedCall ∷ a) b = ap (λ all. Called RefusedCall ∷ all) (telling_then a b)
telling_then (Called (TookCall x) ∷ a) b = ap (λ all. Called (TookCall x) ∷ all) (telling_then a b)
telling_then (Sized z ∷ a) b = ap (λ all. Sized z ∷ all) (telling_then a b)
telling_then (Said t ∷ a) b = ap (λ all. Said t ∷ all) (telling_then a b)

events_then : (a b : List (List EventView)) → all_events (a ++ b) ≡ all_events a ++ all_events b
events_then [] b = refl
events_then (x ∷ a) b = ap (λ all. x ++ all) (events_then a b) ∙ sym (append_assoc x (all_events a) (all_events b))

whole_parts : (a b : List Step) → none_lost (a ++ b) ≡ true → (none_lost a ≡ true) × (none_lost b ≡ true)
whole_parts [] b all = (refl, all)
whole_parts (Took x ∷ a) b all = whole_parts a b all
whole_parts (Refused ∷ a) b all = absurd (false≢true all)
whole_parts (Sent ∷ a) b all = whole_parts a b all
whole_parts (Flushed ∷ a) b all = whole_parts a b all
whole_parts (Waited ∷ a) b all = whole_parts a b all
whole_parts (Told e ∷ a) b all = whole_parts a b all
whole_parts (Ended ∷ a) b all = whole_parts a b all
whole_parts (Failed f ∷ a) b all = whole_parts a b all

module _ {S T : Type 0} (told : S → List EventView) (Tells : S → S → List EventView → Type 0)
    (state : T → TerminalState) (keeps : T → Bool) (Does : T → T → Deed → Type 0) where
  asked_then : (xs ys : List EventView) (old mid new : S) → IsAsked told Tells xs old mid → IsAsked told Tells ys mid new → IsAsked told Tells (xs ++ ys) old new
  asked_then xs ys old mid new first next = record {
    added = next.added ∙ (ap (λ l. l ++ ys) first.added ∙ append_assoc (told old) xs ys);
    calls = (
      first.calls.0 ++ next.calls.0,
      events_then first.calls.0 next.calls.0 ∙ (ap (λ l. l ++ all_events next.calls.0) first.calls.1 ∙ ap (λ l. xs ++ l) next.calls.1),
      both_uses Tells first.calls.0 next.calls.0 old mid new first.calls.2 next.calls.2,
    );
  }

  done_then : (xs ys : List Deed) (old mid new : T) → IsDone Does xs old mid → IsDone Does ys mid new → IsDone Does (xs ++ ys) old new
  done_then xs ys old mid new first next = (
    first.0 ++ next.0,
    telling_then first.0 next.0 ∙ (ap (λ l. l ++ telling next.0) first.1 ∙ ap (λ l. xs ++ l) next.1),
    both_uses Does first.0 next.0 old mid new first.2 next.2,
  )

  -- no step
  pub leads_nowhere : (it : Joined S T) → Leads told Tells state keeps Does [] it it
  leads_nowhere it = record {
    log = sym (append-nil it.log);
    source = record { added = sym (append-nil (told it.source)); calls = ([], refl, refl) };
    terminal = λ all. ([], refl, refl);
    prompt = λ was. was;
    settled = λ prompt was. was;
  }

  -- some steps, and then others
  pub leads_then : (a b : List Step) (old mid new : Joined S T) → Leads told Tells state keeps Does a old mid → Leads told Tells state keeps Does b mid new
      → Leads told Tells state keeps Does (a ++ b) old new
  leads_then a b old mid new first next = record {
    log = next.log ∙ (ap (λ l. l ++ b) first.log ∙ append_assoc old.log a b);
    source = subst (λ l. IsAsked told Tells l old.source new.source) (sym (told_then a b)) (asked_then (events_in a) (events_in b) old.source mid.source new.source first.source next.source);
    terminal = λ all. let both = whole_parts a b all in
        subst (λ l. IsDone Does l old.terminal new.terminal) (sym (deeds_then a b))
        (done_then (deeds_of a) (deeds_of b) old.terminal mid.terminal new.terminal (first.terminal both.0) (next.terminal both.1));
    prompt = λ was. next.prompt (first.prompt was);
    settled = λ prompt was. next.settled (first.prompt prompt) (first.settled prompt was);
  }

  -- the law of such a device
  pub stays : (it : Joined S T) → LeadsOn told Tells state keeps Does it it
  stays it = ([], leads_nowhere it)

  pub joins : (old mid new : Joined S T) → LeadsOn told Tells state keeps Does old mid → LeadsOn told Tells state keeps Does mid new → LeadsOn told Tells state keeps Does old new
  joins old mid new (a, first) (b, next) = (a ++ b, leads_then a b old mid new first next)
