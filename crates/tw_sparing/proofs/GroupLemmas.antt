-- Groups of batches, one after the other.
use Rattle.std.proofs.Common.{◌≡◌, ℕ, Bool, true, false, Option, List, [], ◌∷◌, ◌++◌, ap, ◌∙◌, sym, refl, append_assoc, append-nil}
use Rattle.std.proofs.lemmas.List.{map-append}
use Rattle.tw_surface.specs.ChangeView.{Batch}
use Rattle.tw_terminal.specs.declared.terminal.ScreenSize.{ScreenSize}
use Rattle.tw_ansi.specs.declared.encode.Encoder.{Encoder}
use Rattle.tw_ansi.specs.Encoding.{Sent}
use Rattle.tw_sparing.specs.declared.shown.Shown.{Shown}
use Rattle.tw_sparing.specs.Shown.{sent_for}
use Rattle.tw_sparing.specs.KnownRuns.{AreKnownSince, KnownBatch, batches_among, last_known, sent_for_all}
use Rattle.tw_sparing.specs.Ahead.{AheadView, all_changes, changes_among, groups_with}

-- ---- the changes of lists

pub all_changes-both : (xs ys : List Batch) → all_changes (xs ++ ys) ≡ all_changes xs ++ all_changes ys
all_changes-both [] ys = refl
all_changes-both (x ∷ xs) ys = ap (λ v. x ++ v) (all_changes-both xs ys) ∙ sym (append_assoc x (all_changes xs) (all_changes ys))

pub all_changes-last : (xs : List Batch) (y : Batch) → all_changes (xs ++ y ∷ []) ≡ all_changes xs ++ y
all_changes-last xs y = all_changes-both xs (y ∷ []) ∙ ap (λ v. all_changes xs ++ v) (append-nil y)

pub changes_among-both : (xs ys : List KnownBatch) → changes_among (xs ++ ys) ≡ changes_among xs ++ changes_among ys
changes_among-both xs ys =
    ap all_changes (map-append (λ (call : KnownBatch). call.batch) xs ys) ∙ all_changes-both (batches_among xs) (batches_among ys)

-- the groups that are sent with a batch have the changes that are kept back, and those of the batch
pub changes_among-with : (is_joined : Bool) (batch : Batch) (ahead : AheadView) (drawn known : Option Shown)
    → changes_among (groups_with is_joined batch ahead drawn known) ≡ changes_among ahead.kept ++ batch
changes_among-with true batch ahead drawn known = append-nil (changes_among ahead.kept ++ batch)
changes_among-with false batch ahead drawn known =
    changes_among-both ahead.kept (record { batch = batch; drawn = drawn; known = known } ∷ []) ∙ ap (λ v. changes_among ahead.kept ++ v) (append-nil batch)

-- ---- groups, and groups after them

pub last_known-both : (old : Option Shown) (xs ys : List KnownBatch) → last_known old (xs ++ ys) ≡ last_known (last_known old xs) ys
last_known-both old [] ys = refl
last_known-both old (x ∷ xs) ys = last_known-both x.known xs ys

pub last_known-with : (is_joined : Bool) (batch : Batch) (ahead : AheadView) (drawn known : Option Shown)
    → last_known ahead.shown (groups_with is_joined batch ahead drawn known) ≡ known
last_known-with true batch ahead drawn known = refl
last_known-with false batch ahead drawn known = last_known-both ahead.shown ahead.kept (record { batch = batch; drawn = drawn; known = known } ∷ [])

module _ (rows : ℕ) where
  pub sent_bytes-both : (old : Option Shown) (xs ys : List KnownBatch) (e : Encoder)
      → (sent_for_all rows old (xs ++ ys) e).bytes
      ≡ (sent_for_all rows old xs e).bytes ++ (sent_for_all rows (last_known old xs) ys (sent_for_all rows old xs e).next).bytes
  sent_bytes-both old [] ys e = refl
  sent_bytes-both old (x ∷ xs) ys e =
      let one : Sent = sent_for rows x.batch old x.drawn e in
      let rest : Sent = sent_for_all rows x.known xs one.next in
      ap (λ v. one.bytes ++ v) (sent_bytes-both x.known xs ys one.next)
      ∙ sym (append_assoc one.bytes rest.bytes (sent_for_all rows (last_known x.known xs) ys rest.next).bytes)

  pub sent_next-both : (old : Option Shown) (xs ys : List KnownBatch) (e : Encoder)
      → (sent_for_all rows old (xs ++ ys) e).next ≡ (sent_for_all rows (last_known old xs) ys (sent_for_all rows old xs e).next).next
  sent_next-both old [] ys e = refl
  sent_next-both old (x ∷ xs) ys e = sent_next-both x.known xs ys (sent_for rows x.batch old x.drawn e).next

pub known_since-both : (size : ScreenSize) (old : Option Shown) (e : Encoder) (xs ys : List KnownBatch) → AreKnownSince size old e xs
    → AreKnownSince size (last_known old xs) (sent_for_all size.rows old xs e).next ys → AreKnownSince size old e (xs ++ ys)
known_since-both size old e [] ys first then = then
known_since-both size old e (x ∷ xs) ys first then =
    (first.0, first.1, first.2, known_since-both size x.known (sent_for size.rows x.batch old x.drawn e).next xs ys first.3 then)
