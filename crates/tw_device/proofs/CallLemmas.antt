-- What the calls of a reader of keys come to.
use Rattle.std.proofs.Common.{◌≡◌, ◌+◌, List, [], ◌∷◌, ◌++◌, Option, Some, None, Result, Ok, Err, IfOk, OnErr, MatchOption, sym, ◌∙◌, subst, append-nil}
use Rattle.tw_input.specs.declared.event.InputEvent.{InputEvent}
use Rattle.tw_input.specs.EventView.{EventView, event_view}
use Rattle.tw_terminal.specs.Uses.{Uses}
use Rattle.tw_device.specs.Calls.{all_events}
use Rattle.tw_device.specs.Told.{answer_events}
use Rattle.tw_device.specs.Typed.{Held, TellsTyped}
use Rattle.tw_device.proofs.TypedLemmas.{tells_nothing, tells_then}

-- what each call of a reader tells is told by them all
pub calls_tell : {S : Type 0} (told : S → List EventView) (held : S → Held) (parts : List (List EventView)) (old new : S)
    → Uses (λ a b events. TellsTyped (held a) (held b) events) parts old new → TellsTyped (held old) (held new) (all_events parts)
calls_tell told held [] old new same = subst (λ s. TellsTyped (held old) (held s) []) (sym same) (0, tells_nothing (held old))
calls_tell told held (events ∷ parts) old new calls =
    let later = calls_tell told held parts calls.0 new calls.2 in
    (calls.1.0 + later.0, tells_then calls.1.0 later.0 (held old) (held calls.0) (held new) events (all_events parts) calls.1.1 later.1)

-- what one call tells
pub told_answer : {E : Type 0} (P : Type 0) (answer : Result (Option InputEvent) E) (old new : List EventView)
    → IfOk answer (λ event. MatchOption event ((new ≡ old) × P) (λ event. new ≡ old ++ event_view event ∷ [])) → OnErr answer (new ≡ old)
    → new ≡ old ++ answer_events answer
told_answer P (Ok (Some event)) old new ok err = ok
told_answer P (Ok None) old new ok err = ok.0 ∙ sym (append-nil old)
told_answer P (Err e) old new ok err = err ∙ sym (append-nil old)
