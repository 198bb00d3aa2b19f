-- Deeds of a terminal that waits while more is at hand, one after the other, and what they send.
use Rattle.std.proofs.Common.{◌≡◌, ◌≢◌, ◌≤◌, ℕ, List, [], ◌∷◌, ◌++◌, Option, length, refl, sym, ap, ◌∙◌, subst, append_assoc, append-nil, inl, inr, arith}
use Rattle.std.specs.Io.KnownBytes.{Appends}
use Rattle.tw_surface.specs.ChangeView.{Batch}
use Rattle.tw_terminal.specs.TerminalState.{TerminalState, usize_max}
use Rattle.tw_terminal.specs.Uses.{Took, Refused, Other, Uses}
use Rattle.tw_lineedit.proofs.FailureLemmas.{le_count, rose_once}
use Rattle.tw_device.specs.Deeds.{Deed, Called, Sized, Said, batches_by, sizes_by, texts_by}
use Rattle.tw_device.proofs.DeedLemmas.{appends_nothing, appends_then, done_says, done_sizes, done_takes}
use Rattle.tw_sparing.specs.declared.patient.PatientTerminal.{PatientTerminal}
use Rattle.tw_sparing.specs.KnownRuns.{AreKnownSince, KnownBatch, last_known, sent_for_all}
use Rattle.tw_sparing.specs.Ahead.{AheadView, all_changes, changes_among, groups_with}
use Rattle.tw_sparing.specs.Terminal.{patient_state}
use Rattle.tw_sparing.specs.PatientDeeds.{DoesPatiently, FailsPatiently, IsTakenPatiently, KeepsBack, RestsPatiently, SendsGroups}
use Rattle.tw_sparing.specs.PatientRuns.{IsSentPatiently, PatientlyDoneIsSent, SettledIsSent}
use Rattle.tw_sparing.proofs.GroupLemmas.{all_changes-both, changes_among-both, changes_among-with, known_since-both, last_known-both, sent_bytes-both, sent_next-both}

module _ {W : Type 0} (contents : W → Option (List ℕ)) where
  -- what a state counts
  counted : {s : TerminalState} (it : PatientTerminal W) → patient_state it ≡ s → it.sent.failures ≡ s.failures
  counted it is = ap (λ (t : TerminalState). t.failures) is

  counted_on : {s : TerminalState} (old new : PatientTerminal W) → patient_state new ≡ s → old.sent.failures ≤ s.failures → old.sent.failures ≤ new.sent.failures
  counted_on old new is more = rw (counted new is) more

  -- no deed lowers the count of failures
  counts_on : (deed : Deed) (old new : PatientTerminal W) → DoesPatiently contents old new deed → old.sent.failures ≤ new.sent.failures
  counts_on (Called (Took batch)) old new does = counted_on old new does.state (omega arith)
  counts_on (Called Refused) old new does = counted_on old new does.state (le_count old.sent.failures)
  counts_on (Called Other) old new (inl rests) = counted_on old new (ap patient_state rests) (omega arith)
  counts_on (Called Other) old new (inr (inl flushes)) = elim flushes.state [
    | inl settled ↦ counted_on old new settled (omega arith)
    | inr flushed ↦ elim flushed [
      | inl done ↦ counted_on old new done (omega arith)
      | inr refused ↦ counted_on old new refused (le_count old.sent.failures)
    ]
  ]
  counts_on (Called Other) old new (inr (inr fails)) = counted_on old new fails.state (le_count old.sent.failures)
  counts_on (Sized size) old new does = counted_on old new does.state (omega arith)
  counts_on (Said text) old new does = counted_on old new does.state (omega arith)

  uses_count_on : (deeds : List Deed) (old new : PatientTerminal W) → Uses (DoesPatiently contents) deeds old new → old.sent.failures ≤ new.sent.failures
  uses_count_on [] old new same = rw same (omega arith)
  uses_count_on (deed ∷ deeds) old new (between, does, uses) =
      let first : old.sent.failures ≤ between.sent.failures = counts_on deed old between does in
      let later : between.sent.failures ≤ new.sent.failures = uses_count_on deeds between new uses in
      omega arith

  -- where the count of failures stays, it stays after the first deed
  stays_on : (deed : Deed) (deeds : List Deed) (old between new : PatientTerminal W) → DoesPatiently contents old between deed
      → Uses (DoesPatiently contents) deeds between new → new.sent.failures ≡ old.sent.failures
      → (new.sent.failures ≡ between.sent.failures) × (between.sent.failures ≡ old.sent.failures)
  stays_on deed deeds old between new does uses same =
      let first : old.sent.failures ≤ between.sent.failures = counts_on deed old between does in
      let later : between.sent.failures ≤ new.sent.failures = uses_count_on deeds between new uses in
      (omega arith, omega arith)

  -- nothing
  none_sent_ahead : (it : PatientTerminal W) → IsSentPatiently contents [] [] it it
  none_sent_ahead it = record {
    taken = sym (append-nil (patient_state it).batches);
    changes = append-nil (changes_among it.ahead.kept);
    known = tt;
    bytes = appends_nothing (contents it.writer);
    next = refl;
    shown = refl;
  }

  -- groups are sent, and then others: by what is known between them
  sent_after : (first then : List KnownBatch) (taken more : List Batch) (old between new : PatientTerminal W)
      → AreKnownSince old.ahead.size old.ahead.shown old.sent.encoder first
      → Appends (contents old.writer) (contents between.writer) (sent_for_all old.ahead.size.rows old.ahead.shown first old.sent.encoder).bytes
      → between.sent.encoder ≡ (sent_for_all old.ahead.size.rows old.ahead.shown first old.sent.encoder).next
      → between.ahead.size ≡ old.ahead.size → between.ahead.shown ≡ last_known old.ahead.shown first
      → (patient_state between).batches ≡ (patient_state old).batches ++ taken
      → changes_among old.ahead.kept ++ all_changes taken ≡ changes_among first ++ changes_among between.ahead.kept
      → IsSentPatiently contents then more between new → IsSentPatiently contents (first ++ then) (taken ++ more) old new
  sent_after first then taken more old between new known bytes next size shown batches changes later =
      let kept = changes_among old.ahead.kept in
      let between_kept = changes_among between.ahead.kept in
      let new_kept = changes_among new.ahead.kept in
      let later_known : AreKnownSince old.ahead.size (last_known old.ahead.shown first) (sent_for_all old.ahead.size.rows old.ahead.shown first old.sent.encoder).next then =
      rw (size, shown, next) at later.known in
      let later_bytes : Appends (contents between.writer) (contents new.writer) (sent_for_all old.ahead.size.rows (last_known old.ahead.shown first) then (sent_for_all old.ahead.size.rows old.ahead.shown first old.sent.encoder).next).bytes =
      rw (size, shown, next) at later.bytes in
      let later_next : new.sent.encoder ≡ (sent_for_all old.ahead.size.rows (last_known old.ahead.shown first) then (sent_for_all old.ahead.size.rows old.ahead.shown first old.sent.encoder).next).next =
      rw (size, shown, next) at later.next in
      record {
        taken = later.taken ∙ ap (λ xs. xs ++ more) batches ∙ append_assoc (patient_state old).batches taken more;
        changes = ap (λ xs. kept ++ xs) (all_changes-both taken more)
            ∙ sym (append_assoc kept (all_changes taken) (all_changes more))
            ∙ ap (λ xs. xs ++ all_changes more) changes
            ∙ append_assoc (changes_among first) between_kept (all_changes more)
            ∙ ap (λ xs. changes_among first ++ xs) later.changes
            ∙ sym (append_assoc (changes_among first) (changes_among then) new_kept)
            ∙ ap (λ xs. xs ++ new_kept) (sym (changes_among-both first then));
        known = known_since-both old.ahead.size old.ahead.shown old.sent.encoder first then known later_known;
        bytes = subst (λ xs. Appends (contents old.writer) (contents new.writer) xs) (sym (sent_bytes-both old.ahead.size.rows old.ahead.shown first then old.sent.encoder))
            (appends_then (contents old.writer) (contents between.writer) (contents new.writer) _ _ bytes later_bytes);
        next = later_next ∙ sym (sent_next-both old.ahead.size.rows old.ahead.shown first then old.sent.encoder);
        shown = later.shown ∙ ap (λ known. last_known known then) shown ∙ sym (last_known-both old.ahead.shown first then);
      }

  -- a batch is kept back, and then others are taken
  kept_then : (batch : Batch) (groups : List KnownBatch) (more : List Batch) (old between new : PatientTerminal W) → KeepsBack contents batch old between
      → (patient_state between).batches ≡ (patient_state old).batches ++ batch ∷ []
      → IsSentPatiently contents groups more between new → IsSentPatiently contents groups (batch ∷ more) old new
  kept_then batch groups more old between new keeps batches later =
      sent_after [] groups (batch ∷ []) more old between new tt
      (subst (λ w. Appends (contents old.writer) (contents w) []) (sym keeps.writer) (appends_nothing (contents old.writer)))
      keeps.encoder
      (ap (λ (ahead : AheadView). ahead.size) keeps.ahead)
      (ap (λ (ahead : AheadView). ahead.shown) keeps.ahead)
      batches
      (ap (λ xs. changes_among old.ahead.kept ++ xs) (append-nil batch)
      ∙ sym (ap (λ (ahead : AheadView). changes_among ahead.kept) keeps.ahead ∙ append-nil (changes_among old.ahead.kept ++ batch)))
      later

  -- groups are sent with a batch, and then others
  groups_then : (batch : Batch) (first groups : List KnownBatch) (more : List Batch) (old between new : PatientTerminal W) → SendsGroups contents first old between
      → changes_among first ≡ changes_among old.ahead.kept ++ batch
      → (patient_state between).batches ≡ (patient_state old).batches ++ batch ∷ []
      → IsSentPatiently contents groups more between new → IsSentPatiently contents (first ++ groups) (batch ∷ more) old new
  groups_then batch first groups more old between new sends changes batches later =
      sent_after first groups (batch ∷ []) more old between new sends.known sends.bytes sends.encoder
      (ap (λ (ahead : AheadView). ahead.size) sends.ahead)
      (ap (λ (ahead : AheadView). ahead.shown) sends.ahead)
      batches
      (ap (λ xs. changes_among old.ahead.kept ++ xs) (append-nil batch) ∙ sym changes ∙ sym (append-nil (changes_among first))
      ∙ ap (λ xs. changes_among first ++ xs) (sym (ap (λ (ahead : AheadView). changes_among ahead.kept) sends.ahead)))
      later

  -- a batch is taken, and then others
  taken_then : (batch : Batch) (groups : List KnownBatch) (more : List Batch) (old between new : PatientTerminal W) → IsTakenPatiently contents batch old between
      → (patient_state between).batches ≡ (patient_state old).batches ++ batch ∷ []
      → IsSentPatiently contents groups more between new → (all : List KnownBatch) × IsSentPatiently contents all (batch ∷ more) old new
  taken_then batch groups more old between new (inl keeps) batches later = (groups, kept_then batch groups more old between new keeps batches later)
  taken_then batch groups more old between new (inr sends) batches later =
      let first : List KnownBatch = groups_with sends.is_joined batch old.ahead sends.drawn between.ahead.shown in (
        first ++ groups,
        groups_then batch first groups more old between new sends.sends (changes_among-with sends.is_joined batch old.ahead sends.drawn between.ahead.shown) batches later,
      )

  -- nothing is done, and then batches are taken
  rests_then : (groups : List KnownBatch) (more : List Batch) (old between new : PatientTerminal W) → RestsPatiently contents old between
      → IsSentPatiently contents groups more between new → IsSentPatiently contents groups more old new
  rests_then groups more old between new rests later =
      sent_after [] groups [] more old between new tt
      (subst (λ w. Appends (contents old.writer) (contents w) []) (sym (ap (λ (it : PatientTerminal W). it.writer) rests)) (appends_nothing (contents old.writer)))
      (ap (λ (it : PatientTerminal W). it.sent.encoder) rests)
      (ap (λ (it : PatientTerminal W). it.ahead.size) rests)
      (ap (λ (it : PatientTerminal W). it.ahead.shown) rests)
      (ap (λ (it : PatientTerminal W). (patient_state it).batches) rests ∙ sym (append-nil (patient_state old).batches))
      (append-nil (changes_among old.ahead.kept) ∙ sym (ap (λ (it : PatientTerminal W). changes_among it.ahead.kept) rests))
      later

  -- what is kept back is sent, and then batches are taken
  flushes_then : (groups : List KnownBatch) (more : List Batch) (old between new : PatientTerminal W) → SendsGroups contents old.ahead.kept old between
      → (patient_state between).batches ≡ (patient_state old).batches
      → IsSentPatiently contents groups more between new → IsSentPatiently contents (old.ahead.kept ++ groups) more old new
  flushes_then groups more old between new sends batches later =
      sent_after old.ahead.kept groups [] more old between new sends.known sends.bytes sends.encoder
      (ap (λ (ahead : AheadView). ahead.size) sends.ahead)
      (ap (λ (ahead : AheadView). ahead.shown) sends.ahead)
      (batches ∙ sym (append-nil (patient_state old).batches))
      (ap (λ xs. changes_among old.ahead.kept ++ xs) (sym (ap (λ (ahead : AheadView). changes_among ahead.kept) sends.ahead)))
      later

  -- a refusal is counted
  not_refused : (deeds : List Deed) (old between new : PatientTerminal W) → FailsPatiently contents old between → Uses (DoesPatiently contents) deeds between new
      → new.sent.failures ≡ old.sent.failures → old.sent.failures ≢ usize_max → ⊥
  not_refused deeds old between new fails uses kept below =
      let same = stays_on (Called Refused) deeds old between new fails uses kept in
      elim (rose_once old.sent.failures between.sent.failures (counted between fails.state)) [
        | inl rises ↦ (let stays : between.sent.failures ≡ old.sent.failures = same.1 in omega arith)
        | inr full ↦ below full
      ]

  -- deeds that give no size and send no text, of which no failure was counted
  all_sent_ahead : (deeds : List Deed) (old new : PatientTerminal W) → Uses (DoesPatiently contents) deeds old new → new.sent.failures ≡ old.sent.failures
      → old.sent.failures ≢ usize_max → sizes_by deeds ≡ [] → texts_by deeds ≡ []
      → (groups : List KnownBatch) × IsSentPatiently contents groups (batches_by deeds) old new
  all_sent_ahead [] old new same kept below sizes texts = ([], rw same (none_sent_ahead old))
  all_sent_ahead (Called (Took batch) ∷ deeds) old new (between, does, uses) kept below sizes texts =
      let same = stays_on (Called (Took batch)) deeds old between new does uses kept in
      let later = all_sent_ahead deeds between new uses same.0 (λ full. below (sym same.1 ∙ full)) sizes texts in
      taken_then batch later.0 (batches_by deeds) old between new does.taken (ap (λ (t : TerminalState). t.batches) does.state) later.1
  all_sent_ahead (Called Refused ∷ deeds) old new (between, does, uses) kept below sizes texts =
      absurd (not_refused deeds old between new does uses kept below)
  all_sent_ahead (Called Other ∷ deeds) old new (between, inl rests, uses) kept below sizes texts =
      let same = stays_on (Called Other) deeds old between new (inl rests) uses kept in
      let later = all_sent_ahead deeds between new uses same.0 (λ full. below (sym same.1 ∙ full)) sizes texts in
      (later.0, rests_then later.0 (batches_by deeds) old between new rests later.1)
  all_sent_ahead (Called Other ∷ deeds) old new (between, inr (inl flushes), uses) kept below sizes texts =
      let same = stays_on (Called Other) deeds old between new (inr (inl flushes)) uses kept in
      let later = all_sent_ahead deeds between new uses same.0 (λ full. below (sym same.1 ∙ full)) sizes texts in
      let batches : (patient_state between).batches ≡ (patient_state old).batches = elim flushes.state [
        | inl settled ↦ ap (λ (t : TerminalState). t.batches) settled
        | inr flushed ↦ elim flushed [
          | inl done ↦ ap (λ (t : TerminalState). t.batches) done
          | inr refused ↦ ap (λ (t : TerminalState). t.batches) refused
        ]
      ] in
      (old.ahead.kept ++ later.0, flushes_then later.0 (batches_by deeds) old between new flushes.sends batches later.1)
  all_sent_ahead (Called Other ∷ deeds) old new (between, inr (inr fails), uses) kept below sizes texts =
      absurd (not_refused deeds old between new fails uses kept below)
  all_sent_ahead (Sized size ∷ deeds) old new uses kept below sizes texts =
      absurd (let some : length (size ∷ sizes_by deeds) ≡ 0 = ap length sizes in omega arith)
  all_sent_ahead (Said text ∷ deeds) old new uses kept below sizes texts =
      absurd (let some : length (text ∷ texts_by deeds) ≡ 0 = ap length texts in omega arith)

  pub patiently_done_is_sent : PatientlyDoneIsSent contents
  patiently_done_is_sent steps old new done kept below none =
      let does = DoesPatiently contents in
      let all = all_sent_ahead done.0 old new done.2 kept below (done_sizes does steps old new done ∙ none) (done_says does steps old new done) in
      (all.0, subst (λ batches. IsSentPatiently contents all.0 batches old new) (done_takes does steps old new done) all.1)

  pub settled_is_sent : SettledIsSent contents
  settled_is_sent groups batches old new sent before after =
      sym (append-nil (changes_among groups)) ∙ ap (λ v. changes_among groups ++ changes_among v) (sym after)
      ∙ sym sent.changes ∙ ap (λ v. changes_among v ++ all_changes batches) before
