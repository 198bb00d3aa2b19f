-- Deeds, one after the other, and what they send.
use Rattle.std.proofs.Common.{◌≡◌, ◌≤◌, true, ℕ, List, [], ◌∷◌, ◌++◌, Option, Some, None, length, refl, sym, ap, ◌∙◌, subst, append_assoc, append-nil, inl, inr, arith}
use Rattle.std.proofs.lemmas.Bool.{false≢true}
use Rattle.std.specs.Io.KnownBytes.{Appends, Keeps}
use Rattle.std.specs.List.{AllByRecursion}
use Rattle.tw_input.specs.EventView.{Key, Resized, Paste, Wake}
use Rattle.tw_terminal.specs.Uses.{Took, Refused, Other, Uses}
use Rattle.tw_ansi.specs.declared.encode.Encoder.{Encoder}
use Rattle.tw_ansi.specs.Encoding.{sent_batch}
use Rattle.tw_ansi.specs.EcmaPaintings.{sent_batches}
use Rattle.tw_ansi.proofs.KnownTerminals.{batch_in}
use Rattle.tw_terminal.specs.declared.terminal.ScreenSize.{ScreenSize}
use Rattle.tw_device.specs.Terminal.{terminal_state}
use Rattle.tw_device.specs.declared.terminal.AnsiTerminal.{AnsiTerminal}
use Rattle.tw_device.specs.Deeds.{Deed, Called, Sized, Said, sent_deed, sent_by, batches_by, deeds_of, none_refused, sizes_by, sizes_in, telling, texts_by, Sends, Does, DeedsAreSent, DoneIsSent, FailuresAreCounted, IsDone}
use Rattle.tw_device.specs.Steps as step
use Rattle.tw_device.specs.Steps.{Step, batches_in, events_in}
use Rattle.tw_lineedit.proofs.FailureLemmas.{le_count, rose_once}

-- ---- known bytes

-- no byte
pub appends_nothing : (known : Option (List ℕ)) → Appends known known []
appends_nothing None = tt
appends_nothing (Some bytes) = sym (append-nil bytes)

-- bytes after bytes
pub appends_then : (a b c : Option (List ℕ)) (xs ys : List ℕ) → Appends a b xs → Appends b c ys → Appends a c (xs ++ ys)
appends_then None b c xs ys first then = tt
appends_then (Some old) None c xs ys first then = absurd first
appends_then (Some old) (Some between) None xs ys first then = absurd then
appends_then (Some old) (Some between) (Some new) xs ys first then = then ∙ ap (λ v. v ++ ys) first ∙ append_assoc old xs ys

-- known bytes that stay
kept-nothing : (a b : Option (List ℕ)) → Keeps a b → Appends a b []
kept-nothing None b keeps = tt
kept-nothing (Some old) None keeps = absurd keeps
kept-nothing (Some old) (Some new) keeps = keeps ∙ sym (append-nil old)

-- ---- what deeds are

batches-first : (deed : Deed) (deeds : List Deed) → batches_by (deed ∷ deeds) ≡ batches_by (deed ∷ []) ++ batches_by deeds
batches-first (Called (Took batch)) deeds = refl
batches-first (Called Refused) deeds = refl
batches-first (Called Other) deeds = refl
batches-first (Sized size) deeds = refl
batches-first (Said text) deeds = refl

-- sizes of so many columns
abbrev AreOf : ℕ → List ScreenSize → Type 0
AreOf w sizes = AllByRecursion (λ size. size.cols ≡ w) sizes

-- where no text is sent, and no other number of columns is given, deeds send their batches
sent-batches-of : (deeds : List Deed) (e : Encoder) → texts_by deeds ≡ [] → AreOf e.cols (sizes_by deeds)
    → sent_by deeds e ≡ sent_batches (batches_by deeds) e
sent-batches-of [] e none same = refl
sent-batches-of (Called (Took batch) ∷ deeds) e none same =
    let next : Encoder = (sent_batch batch e).next in
    ap (λ s. record { bytes = (sent_batch batch e).bytes ++ s.bytes; next = s.next })
    (sent-batches-of deeds next none (subst (λ w. AreOf w (sizes_by deeds)) (sym (batch_in batch e)) same))
sent-batches-of (Called Refused ∷ deeds) e none same = sent-batches-of deeds e none same
sent-batches-of (Called Other ∷ deeds) e none same = sent-batches-of deeds e none same
sent-batches-of (Sized size ∷ deeds) e none (first, more) =
    ap (λ w. sent_by deeds (record e { cols = w })) first ∙ sent-batches-of deeds e none more
sent-batches-of (Said text ∷ deeds) e none same = absurd (let some : length (text ∷ texts_by deeds) ≡ 0 = ap length none in omega arith)

module _ {W : Type 0} (contents : W → Option (List ℕ)) where
  -- ---- failures

  -- no deed lowers the count of failures
  does-counts : (deed : Deed) (old new : AnsiTerminal W) → Does contents old new deed → old.sent.failures ≤ new.sent.failures
  does-counts (Called (Took batch)) old new does = does.failures
  does-counts (Called Refused) old new does = rw does.failures (le_count old.sent.failures)
  does-counts (Called Other) old new does = does.failures
  does-counts (Sized size) old new does = does.failures
  does-counts (Said text) old new does = does.failures

  pub use-counts : (deeds : List Deed) (old new : AnsiTerminal W) → Uses (Does contents) deeds old new → old.sent.failures ≤ new.sent.failures
  use-counts [] old new same = rw same (omega arith)
  use-counts (deed ∷ deeds) old new (between, does, uses) =
      let first : old.sent.failures ≤ between.sent.failures = does-counts deed old between does in
      let later : between.sent.failures ≤ new.sent.failures = use-counts deeds between new uses in
      omega arith

  -- none of some deeds is refused, where the count of failures stays after the first one
  whole-later : (deeds : List Deed) (old between new : AnsiTerminal W) → old.sent.failures ≤ between.sent.failures
      → Uses (Does contents) deeds between new → new.sent.failures ≡ old.sent.failures
      → (new.sent.failures ≡ between.sent.failures) × (between.sent.failures ≡ old.sent.failures)
  whole-later deeds old between new first uses same =
      let later : between.sent.failures ≤ new.sent.failures = use-counts deeds between new uses in
      (omega arith, omega arith)

  pub failures_are_counted : FailuresAreCounted contents
  failures_are_counted [] old new same kept below = refl
  failures_are_counted (Called (Took batch) ∷ deeds) old new (between, does, uses) kept below =
      let same = whole-later deeds old between new does.failures uses kept in
      failures_are_counted deeds between new uses same.0 (λ full. below (sym same.1 ∙ full))
  failures_are_counted (Called Refused ∷ deeds) old new (between, does, uses) kept below =
      let same = whole-later deeds old between new (does-counts (Called Refused) old between does) uses kept in
      elim (rose_once old.sent.failures between.sent.failures does.failures) [
        | inl rises ↦ absurd (let stays : between.sent.failures ≡ old.sent.failures = same.1 in omega arith)
        | inr full ↦ absurd (below full)
      ]
  failures_are_counted (Called Other ∷ deeds) old new (between, does, uses) kept below =
      let same = whole-later deeds old between new does.failures uses kept in
      failures_are_counted deeds between new uses same.0 (λ full. below (sym same.1 ∙ full))
  failures_are_counted (Sized size ∷ deeds) old new (between, does, uses) kept below =
      let same = whole-later deeds old between new does.failures uses kept in
      failures_are_counted deeds between new uses same.0 (λ full. below (sym same.1 ∙ full))
  failures_are_counted (Said text ∷ deeds) old new (between, does, uses) kept below =
      let same = whole-later deeds old between new does.failures uses kept in
      failures_are_counted deeds between new uses same.0 (λ full. below (sym same.1 ∙ full))

  -- ---- what deeds send

  -- the first of some deeds is sent, and then the others
  sent_first : (deed : Deed) (deeds : List Deed) (old between new : AnsiTerminal W) → Sends contents deed old between
      → Appends (contents between.writer) (contents new.writer) (sent_by deeds between.sent.encoder).bytes
      × (new.sent.encoder ≡ (sent_by deeds between.sent.encoder).next)
      × ((terminal_state new).batches ≡ (terminal_state between).batches ++ batches_by deeds)
      → Appends (contents old.writer) (contents new.writer) (sent_by (deed ∷ deeds) old.sent.encoder).bytes
      × (new.sent.encoder ≡ (sent_by (deed ∷ deeds) old.sent.encoder).next)
      × ((terminal_state new).batches ≡ (terminal_state old).batches ++ batches_by (deed ∷ deeds))
  sent_first deed deeds old between new sends later = (
    appends_then (contents old.writer) (contents between.writer) (contents new.writer) (sent_deed deed old.sent.encoder).bytes
        (sent_by deeds (sent_deed deed old.sent.encoder).next).bytes sends.bytes
        (subst (λ e. Appends (contents between.writer) (contents new.writer) (sent_by deeds e).bytes) sends.known later.0),
    later.1 ∙ ap (λ e. (sent_by deeds e).next) sends.known,
    later.2 ∙ ap (λ batches. batches ++ batches_by deeds) sends.batches
        ∙ append_assoc (terminal_state old).batches (batches_by (deed ∷ [])) (batches_by deeds)
        ∙ ap (λ batches. (terminal_state old).batches ++ batches) (sym (batches-first deed deeds)),
  )

  pub deeds_are_sent : DeedsAreSent contents
  deeds_are_sent [] old new same whole = rw same (appends_nothing (contents old.writer), refl, sym (append-nil (terminal_state old).batches))
  deeds_are_sent (Called (Took batch) ∷ deeds) old new (between, does, uses) whole =
      sent_first (Called (Took batch)) deeds old between new does (deeds_are_sent deeds between new uses whole)
  deeds_are_sent (Called Refused ∷ deeds) old new uses whole = absurd (false≢true whole)
  deeds_are_sent (Called Other ∷ deeds) old new (between, does, uses) whole =
      sent_first (Called Other) deeds old between new does (deeds_are_sent deeds between new uses whole)
  deeds_are_sent (Sized size ∷ deeds) old new (between, does, uses) whole =
      sent_first (Sized size) deeds old between new does (deeds_are_sent deeds between new uses whole)
  deeds_are_sent (Said text ∷ deeds) old new (between, does, uses) whole =
      sent_first (Said text) deeds old between new does (deeds_are_sent deeds between new uses whole)

  -- a call that writes nothing
  pub writes_nothing : (old new : AnsiTerminal W) → Keeps (contents old.writer) (contents new.writer) → new.sent.encoder ≡ old.sent.encoder
      → (terminal_state new).batches ≡ (terminal_state old).batches → old.sent.failures ≤ new.sent.failures → Sends contents (Called Other) old new
  writes_nothing old new keeps known batches failures = record {
    bytes = kept-nothing (contents old.writer) (contents new.writer) keeps;
    known = known;
    batches = batches ∙ sym (append-nil (terminal_state old).batches);
    failures = failures;
  }

  -- a call that leaves all as it was
  pub does_nothing : (it : AnsiTerminal W) → Sends contents (Called Other) it it
  does_nothing it = record {
    bytes = appends_nothing (contents it.writer);
    known = refl;
    batches = sym (append-nil (terminal_state it).batches);
    failures = omega arith;
  }

-- ---- the deeds of steps

-- calls that render nothing take, give, send and refuse nothing
telling_takes : (deeds : List Deed) → batches_by (telling deeds) ≡ batches_by deeds
telling_takes [] = refl
telling_takes (Called (Took batch) ∷ deeds) = ap (λ all. batch ∷ all) (telling_takes deeds)
telling_takes (Called Refused ∷ deeds) = telling_takes deeds
telling_takes (Called Other ∷ deeds) = telling_takes deeds
telling_takes (Sized size ∷ deeds) = telling_takes deeds
telling_takes (Said text ∷ deeds) = telling_takes deeds

telling_sizes : (deeds : List Deed) → sizes_by (telling deeds) ≡ sizes_by deeds
telling_sizes [] = refl
telling_sizes (Called (Took batch) ∷ deeds) = telling_sizes deeds
telling_sizes (Called Refused ∷ deeds) = telling_sizes deeds
telling_sizes (Called Other ∷ deeds) = telling_sizes deeds
telling_sizes (Sized size ∷ deeds) = ap (λ all. size ∷ all) (telling_sizes deeds)
telling_sizes (Said text ∷ deeds) = telling_sizes deeds

telling_texts : (deeds : List Deed) → texts_by (telling deeds) ≡ texts_by deeds
telling_texts [] = refl
telling_texts (Called (Took batch) ∷ deeds) = telling_texts deeds
telling_texts (Called Refused ∷ deeds) = telling_texts deeds
telling_texts (Called Other ∷ deeds) = telling_texts deeds
telling_texts (Sized size ∷ deeds) = telling_texts deeds
telling_texts (Said text ∷ deeds) = ap (λ all. text ∷ all) (telling_texts deeds)

telling_sends : (deeds : List Deed) (e : Encoder) → sent_by (telling deeds) e ≡ sent_by deeds e
telling_sends [] e = refl
telling_sends (Called (Took batch) ∷ deeds) e =
    ap (λ s. record { bytes = (sent_batch batch e).bytes ++ s.bytes; next = s.next }) (telling_sends deeds (sent_batch batch e).next)
telling_sends (Called Refused ∷ deeds) e = telling_sends deeds e
telling_sends (Called Other ∷ deeds) e = telling_sends deeds e
telling_sends (Sized size ∷ deeds) e = telling_sends deeds (record e { cols = size.cols })
telling_sends (Said text ∷ deeds) e =
    ap (λ s. record { bytes = (sent_deed (Said text) e).bytes ++ s.bytes; next = s.next }) (telling_sends deeds (sent_deed (Said text) e).next)

telling_whole : (deeds : List Deed) → none_refused (telling deeds) ≡ none_refused deeds
telling_whole [] = refl
telling_whole (Called (Took batch) ∷ deeds) = telling_whole deeds
telling_whole (Called Refused ∷ deeds) = refl
telling_whole (Called Other ∷ deeds) = telling_whole deeds
telling_whole (Sized size ∷ deeds) = telling_whole deeds
telling_whole (Said text ∷ deeds) = telling_whole deeds

-- what the deeds of steps take, give, send and refuse
deeds_take : (steps : List Step) → batches_by (deeds_of steps) ≡ batches_in steps
deeds_take [] = refl
deeds_take (step.Took batch ∷ steps) = ap (λ all. batch ∷ all) (deeds_take steps)
deeds_take (step.Refused ∷ steps) = deeds_take steps
deeds_take (step.Sent ∷ steps) = deeds_take steps
deeds_take (step.Flushed ∷ steps) = deeds_take steps
deeds_take (step.Waited ∷ steps) = deeds_take steps
deeds_take (step.Told (Key key) ∷ steps) = deeds_take steps
deeds_take (step.Told (Resized cols rows) ∷ steps) = deeds_take steps
deeds_take (step.Told (Paste text) ∷ steps) = deeds_take steps
deeds_take (step.Told Wake ∷ steps) = deeds_take steps
deeds_take (step.Ended ∷ steps) = deeds_take steps
deeds_take (step.Failed fault ∷ steps) = deeds_take steps

deeds_size : (steps : List Step) → sizes_by (deeds_of steps) ≡ sizes_in (events_in steps)
deeds_size [] = refl
deeds_size (step.Took batch ∷ steps) = deeds_size steps
deeds_size (step.Refused ∷ steps) = deeds_size steps
deeds_size (step.Sent ∷ steps) = deeds_size steps
deeds_size (step.Flushed ∷ steps) = deeds_size steps
deeds_size (step.Waited ∷ steps) = deeds_size steps
deeds_size (step.Told (Key key) ∷ steps) = deeds_size steps
deeds_size (step.Told (Resized cols rows) ∷ steps) = ap (λ all. record { rows = rows; cols = cols } ∷ all) (deeds_size steps)
deeds_size (step.Told (Paste text) ∷ steps) = deeds_size steps
deeds_size (step.Told Wake ∷ steps) = deeds_size steps
deeds_size (step.Ended ∷ steps) = deeds_size steps
deeds_size (step.Failed fault ∷ steps) = deeds_size steps

deeds_say : (steps : List Step) → texts_by (deeds_of steps) ≡ []
deeds_say [] = refl
deeds_say (step.Took batch ∷ steps) = deeds_say steps
deeds_say (step.Refused ∷ steps) = deeds_say steps
deeds_say (step.Sent ∷ steps) = deeds_say steps
deeds_say (step.Flushed ∷ steps) = deeds_say steps
deeds_say (step.Waited ∷ steps) = deeds_say steps
deeds_say (step.Told (Key key) ∷ steps) = deeds_say steps
deeds_say (step.Told (Resized cols rows) ∷ steps) = deeds_say steps
deeds_say (step.Told (Paste text) ∷ steps) = deeds_say steps
deeds_say (step.Told Wake ∷ steps) = deeds_say steps
deeds_say (step.Ended ∷ steps) = deeds_say steps
deeds_say (step.Failed fault ∷ steps) = deeds_say steps

deeds_whole : (steps : List Step) → none_refused (deeds_of steps) ≡ true
deeds_whole [] = refl
deeds_whole (step.Took batch ∷ steps) = deeds_whole steps
deeds_whole (step.Refused ∷ steps) = deeds_whole steps
deeds_whole (step.Sent ∷ steps) = deeds_whole steps
deeds_whole (step.Flushed ∷ steps) = deeds_whole steps
deeds_whole (step.Waited ∷ steps) = deeds_whole steps
deeds_whole (step.Told (Key key) ∷ steps) = deeds_whole steps
deeds_whole (step.Told (Resized cols rows) ∷ steps) = deeds_whole steps
deeds_whole (step.Told (Paste text) ∷ steps) = deeds_whole steps
deeds_whole (step.Told Wake ∷ steps) = deeds_whole steps
deeds_whole (step.Ended ∷ steps) = deeds_whole steps
deeds_whole (step.Failed fault ∷ steps) = deeds_whole steps

module _ {T : Type 0} (Leads : T → T → Deed → Type 0) (steps : List Step) (old new : T) (done : IsDone Leads (deeds_of steps) old new) where
  pub done_takes : batches_by done.0 ≡ batches_in steps
  done_takes = sym (telling_takes done.0) ∙ ap batches_by done.1 ∙ deeds_take steps

  pub done_sizes : sizes_by done.0 ≡ sizes_in (events_in steps)
  done_sizes = sym (telling_sizes done.0) ∙ ap sizes_by done.1 ∙ deeds_size steps

  pub done_says : texts_by done.0 ≡ []
  done_says = sym (telling_texts done.0) ∙ ap texts_by done.1 ∙ deeds_say steps

module _ {T : Type 0} (Leads : T → T → Deed → Type 0) where
  -- deeds that were done, in two parts
  split_done : (all xs ys : List Deed) (old new : T) → telling all ≡ xs ++ ys → Uses Leads all old new → (mid : T) × IsDone Leads xs old mid × IsDone Leads ys mid new
  split_done all [] ys old new is uses = (old, ([], refl, refl), (all, is, uses))
  split_done [] (x ∷ xs) ys old new is uses = absurd (cc is)
  split_done (Called Other ∷ all) (x ∷ xs) ys old new is (mid, does, uses) =
      let parts = split_done all (x ∷ xs) ys mid new is uses in
      (parts.0, (Called Other ∷ parts.1.0, parts.1.1, (mid, does, parts.1.2)), parts.2)
  split_done (Called (Took batch) ∷ all) (x ∷ xs) ys old new is (mid, does, uses) =
      let parts = split_done all xs ys mid new (cc is) uses in
      (parts.0, (Called (Took batch) ∷ parts.1.0, cc (is, parts.1.1), (mid, does, parts.1.2)), parts.2)
  split_done (Called Refused ∷ all) (x ∷ xs) ys old new is (mid, does, uses) =
      let parts = split_done all xs ys mid new (cc is) uses in
      (parts.0, (Called Refused ∷ parts.1.0, cc (is, parts.1.1), (mid, does, parts.1.2)), parts.2)
  split_done (Sized size ∷ all) (x ∷ xs) ys old new is (mid, does, uses) =
      let parts = split_done all xs ys mid new (cc is) uses in
      (parts.0, (Sized size ∷ parts.1.0, cc (is, parts.1.1), (mid, does, parts.1.2)), parts.2)
  split_done (Said text ∷ all) (x ∷ xs) ys old new is (mid, does, uses) =
      let parts = split_done all xs ys mid new (cc is) uses in
      (parts.0, (Said text ∷ parts.1.0, cc (is, parts.1.1), (mid, does, parts.1.2)), parts.2)

  pub done_parts : (xs ys : List Deed) (old new : T) → IsDone Leads (xs ++ ys) old new → (mid : T) × IsDone Leads xs old mid × IsDone Leads ys mid new
  done_parts xs ys old new done = split_done done.0 xs ys old new done.1 done.2

module _ {W : Type 0} (contents : W → Option (List ℕ)) where
  -- deeds that were done, none of which is a refused batch
  pub done_sends : (deeds : List Deed) (old new : AnsiTerminal W) → IsDone (Does contents) deeds old new → none_refused deeds ≡ true
      → ((terminal_state new).batches ≡ (terminal_state old).batches ++ batches_by deeds)
      × Appends (contents old.writer) (contents new.writer) (sent_by deeds old.sent.encoder).bytes
      × (new.sent.encoder ≡ (sent_by deeds old.sent.encoder).next)
  done_sends deeds old new done whole =
      let sent = deeds_are_sent contents done.0 old new done.2 (sym (telling_whole done.0) ∙ ap none_refused done.1 ∙ whole) in
      let is : sent_by done.0 old.sent.encoder ≡ sent_by deeds old.sent.encoder = sym (telling_sends done.0 old.sent.encoder) ∙ ap (λ all. sent_by all old.sent.encoder) done.1 in (
        sent.2 ∙ ap (λ all. (terminal_state old).batches ++ all) (sym (telling_takes done.0) ∙ ap batches_by done.1),
        subst (λ s. Appends (contents old.writer) (contents new.writer) s.bytes) is sent.0,
        sent.1 ∙ ap (λ s. s.next) is,
      )

  pub done_is_sent : DoneIsSent contents
  done_is_sent steps old new done same =
      let deeds = deeds_of steps in
      let sent = done_sends deeds old new done (deeds_whole steps) in
      let is : sent_by deeds old.sent.encoder ≡ sent_batches (batches_in steps) old.sent.encoder =
      sent-batches-of deeds old.sent.encoder (deeds_say steps) (subst (λ all. AreOf old.sent.encoder.cols all) (sym (deeds_size steps)) same)
      ∙ ap (λ all. sent_batches all old.sent.encoder) (deeds_take steps) in (
        sent.0 ∙ ap (λ all. (terminal_state old).batches ++ all) (deeds_take steps),
        subst (λ s. Appends (contents old.writer) (contents new.writer) s.bytes) is sent.1,
        sent.2 ∙ ap (λ s. s.next) is,
      )
