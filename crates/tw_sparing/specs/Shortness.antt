-- How little is sent for a batch.
use Rattle.std.specs.Prelude.{◌≡◌, ◌<◌, ◌-◌, ℕ, Some, []}
use Rattle.laws_screens.specs.StyledCells.{StyledCell}
use Rattle.tw_ansi.specs.declared.encode.Encoder.{Encoder}
use Rattle.tw_surface.specs.ChangeView.{Batch}
use Rattle.tw_sparing.specs.StyledScreens.{without_rows}
use Rattle.tw_sparing.specs.Sending.{screen_cells, hand_of}
use Rattle.tw_sparing.specs.ShortDifferences.{IsTypedAt, characters_from}
use Rattle.tw_sparing.specs.declared.hand.Hand.{Hand}
use Rattle.tw_sparing.specs.declared.shown.Shown.{Shown}
use Rattle.tw_sparing.specs.Shown.{IsKnownAfter, left_behind, sent_for}

-- the cells below the first rows
abbrev pub cells_below : ℕ → Shown → ℕ → ℕ → StyledCell
cells_below top shown = screen_cells (without_rows top shown.screen)

-- the cursor, by its row of those below, and the attributes
abbrev pub hand_below : ℕ → Shown → Hand
hand_below top shown = hand_of (without_rows top shown.screen)

-- where a batch reaches no new row, and the cells in sight, the cursor and the attributes are as before, nothing is
-- sent
abbrev pub NoBatchIsSentForNothing : Type 0
NoBatchIsSentForNothing = (rows cols : ℕ) (batch : Batch) (old new : Shown) → IsKnownAfter cols rows batch (Some old) (Some new) → new.reached ≡ old.reached
    → let top = left_behind rows new in
    ((i j : ℕ) → i < new.reached - top → j < new.screen.width → cells_below top old i j ≡ cells_below top new i j)
    → hand_below top new ≡ hand_below top old
    → (e : Encoder) → (sent_for rows batch (Some old) (Some new) e).bytes ≡ []

-- and of characters of one column that were typed at the cursor, these alone are sent
abbrev pub TypedBatchIsSentAlone : Type 0
TypedBatchIsSentAlone = (rows cols n : ℕ) (batch : Batch) (old new : Shown) (e : Encoder) → IsKnownAfter cols rows batch (Some old) (Some new) → new.reached ≡ old.reached
    → let top = left_behind rows new in
    let sent = sent_for rows batch (Some old) (Some new) e in
    IsTypedAt new.screen.width (new.reached - top) n (cells_below top old) (cells_below top new) (hand_below top old) (hand_below top new)
    → e.cols ≡ new.screen.width → e.x ≡ old.screen.col
    → sent.bytes ≡ characters_from (cells_below top new (old.screen.row - top)) old.screen.col n
