-- What a terminal shows, what is drawn ahead of it, and the groups of batches that are then sent.
use Rattle.std.specs.Prelude.{◌≡◌, Bool, true, false, ℕ, Option, Some, None, List, [], ◌∷◌, ◌++◌}
use Rattle.tw_surface.specs.ChangeView.{Batch}
use Rattle.tw_terminal.specs.declared.terminal.ScreenSize.{ScreenSize}
use Rattle.tw_ansi.specs.declared.encode.Encoder.{Encoder}
use Rattle.tw_ansi.specs.Encoding.{Sent}
use Rattle.tw_sparing.specs.declared.shown.Shown.{Shown}
use Rattle.tw_sparing.specs.Shown.{IsDrawnAfter, goes_out_of_sight, rows_above}
use Rattle.tw_sparing.specs.KnownRuns.{KnownBatch, batches_among, last_known, sent_for_all}

-- the changes of batches, one after the other
abbrev pub all_changes : List Batch → Batch
all_changes [] = []
all_changes (batch ∷ more) = batch ++ all_changes more

-- the changes of groups
abbrev pub changes_among : List KnownBatch → Batch
changes_among groups = all_changes (batches_among groups)

-- a terminal of a size: what it shows, and what is kept back, the batches that were drawn since as one group, and what
-- is known after them
pub record AheadView : Type 0 where
  pub size : ScreenSize
  pub shown : Option Shown
  pub kept : List KnownBatch

-- it shows this, and nothing is kept back
abbrev pub settled_at : ScreenSize → Option Shown → AheadView
settled_at size shown = record { size = size; shown = shown; kept = [] }

-- the latest picture: after what is kept back, or else what is shown
abbrev pub latest_known : AheadView → Option Shown
latest_known ahead = last_known ahead.shown ahead.kept

-- what is kept back, where something is drawn ahead
abbrev pub group_kept : Option Shown → Batch → List KnownBatch
group_kept None batch = []
group_kept (Some drawn) batch = record { batch = batch; drawn = Some drawn; known = Some drawn } ∷ []

-- a terminal by what it shows, what is drawn ahead, and what was drawn since
abbrev pub ahead_view : ScreenSize → Option Shown → Option Shown → Batch → AheadView
ahead_view size shown drawn batch = record { size = size; shown = shown; kept = group_kept drawn batch }

-- either nothing is drawn ahead, and no batch is kept back, or what is drawn is known after what is shown by the
-- batches that are kept back
abbrev pub AreAhead : ScreenSize → Option Shown → Option Shown → Batch → Type 0
AreAhead size shown None batch = batch ≡ []
AreAhead size None (Some drawn) batch = ⊥
AreAhead size (Some shown) (Some drawn) batch = IsDrawnAfter size.rows batch shown drawn

-- what is sent for what is kept back
abbrev pub sent_ahead : AheadView → Encoder → Sent
sent_ahead ahead e = sent_for_all ahead.size.rows ahead.shown ahead.kept e

-- what is kept back and a batch after it, as one group
abbrev pub joined_group : Batch → AheadView → Option Shown → Option Shown → KnownBatch
joined_group batch ahead drawn known = record { batch = changes_among ahead.kept ++ batch; drawn = drawn; known = known }

-- the groups that are sent with a batch: all in one, or what is kept back, and then the batch
abbrev pub groups_with : Bool → Batch → AheadView → Option Shown → Option Shown → List KnownBatch
groups_with true batch ahead drawn known = joined_group batch ahead drawn known ∷ []
groups_with false batch ahead drawn known = ahead.kept ++ record { batch = batch; drawn = drawn; known = known } ∷ []

-- a batch goes out of sight of what is known, where anything is known
abbrev pub leaves_sight : ℕ → Option Shown → Batch → Bool
leaves_sight rows None batch = false
leaves_sight rows (Some shown) batch = goes_out_of_sight (rows_above rows shown) batch

-- what is known before a batch and after it, which was drawn on it
abbrev pub IsDrawnBetween : ℕ → Batch → Option Shown → Option Shown → Type 0
IsDrawnBetween rows batch None known = ⊥
IsDrawnBetween rows batch (Some old) None = ⊥
IsDrawnBetween rows batch (Some old) (Some new) = IsDrawnAfter rows batch old new

-- All is known that one difference takes: the batch does not go out of sight, and what is known then is what is shown
-- once all that is kept back, and the batch, are drawn on what is shown. So the rows that have left the terminal then
-- are the same in both.
abbrev pub IsJoined : Batch → AheadView → Option Shown → Type 0
IsJoined batch ahead known =
    (leaves_sight ahead.size.rows (latest_known ahead) batch ≡ false)
    × IsDrawnBetween ahead.size.rows (changes_among ahead.kept ++ batch) ahead.shown known
