-- How little is sent for a batch.
use Rattle.std.proofs.Common.{◌≡◌, ◌<◌, ◌-◌, ℕ, max, Bool, true, false, cond, leb, Some, ap, ◌∙◌, refl, arith}
use Rattle.tw_ansi.specs.Encoding.{terse_batch}
use Rattle.tw_sparing.specs.declared.hand.Hand.{Hand}
use Rattle.tw_sparing.specs.Redrawings.{redrawn}
use Rattle.tw_sparing.proofs.ShortChanges.{nothing_is_sent}
use Rattle.tw_sparing.proofs.TypedChanges.{typed_is_sent_alone}
use Rattle.tw_sparing.specs.declared.shown.Shown.{Shown}
use Rattle.tw_sparing.specs.Shown.{changes_below, gone_rows, left_behind}
use Rattle.tw_sparing.specs.Shortness.{cells_below, hand_below, NoBatchIsSentForNothing, TypedBatchIsSentAlone}
use Rattle.tw_sparing.proofs.PlayedBatches.{known_fits}

-- where no row is new the same rows have left the terminal
same_gone : (rows : ℕ) (old new : Shown) → new.reached ≡ old.reached → gone_rows rows old new ≡ left_behind rows new
same_gone rows old new is = by_row (leb (left_behind rows new) old.screen.row)
  where
    by_row : (b : Bool) → cond b (max (left_behind rows old) (left_behind rows new)) (left_behind rows old) ≡ left_behind rows new
    by_row true = omega (arith, is)
    by_row false = omega (arith, is)

pub nothing_for_nothing : NoBatchIsSentForNothing
nothing_for_nothing rows cols batch old new known reached cells hands e =
    let fits = (known_fits cols rows batch (Some old) (Some new) old new refl refl known).0 in
    let some : 0 < new.screen.width = omega (arith, fits.col) in
    let is : new.reached ≡ old.reached = reached in
    ap (λ changes. (terse_batch changes e).bytes)
    (ap (λ n. changes_below n (left_behind rows new) old new) (same_gone rows old new reached)
    ∙ ap (λ (hand : Hand). (redrawn new.screen.width (old.reached - left_behind rows new) (new.reached - left_behind rows new)
    (cells_below (left_behind rows new) old) (cells_below (left_behind rows new) new) hand (hand_below (left_behind rows new) old)).changes) hands
    ∙ nothing_is_sent new.screen.width (old.reached - left_behind rows new) (new.reached - left_behind rows new)
    (cells_below (left_behind rows new) old) (cells_below (left_behind rows new) new) (hand_below (left_behind rows new) old) some (omega (arith, is)) cells)

pub typed_alone : TypedBatchIsSentAlone
typed_alone rows cols n batch old new e known reached typed cols_known at =
    ap (λ n. (terse_batch (changes_below n (left_behind rows new) old new) e).bytes) (same_gone rows old new reached)
    ∙ typed_is_sent_alone new.screen.width (old.reached - left_behind rows new) (new.reached - left_behind rows new) n
    (cells_below (left_behind rows new) old) (cells_below (left_behind rows new) new) (hand_below (left_behind rows new) old) (hand_below (left_behind rows new) new) e
    (omega (arith, reached)) typed cols_known at
