-- A history whose lines are written too.
use Rattle.std.specs.Prelude.{◌≡◌, ◌⊎◌, ℕ, Bool, true, List, Option, Some, None}
use Rattle.std.specs.Io.KnownBytes.{Appends}
use Rattle.tw_history_parts.specs.HistoryFile.{AddsAll, lines_in, unread_lines, written_line}
use Rattle.tw_history_parts.specs.Recent.{RecentLines, gives_recent}
use Rattle.tw_history_parts.specs.declared.file.Unread.TheVariants.{File}
use Rattle.tw_history_parts.specs.declared.written.WrittenHistory.{WrittenHistory}

-- these bytes were written, and no others, or the writer refused and was let go; if there was none, nothing happened
abbrev pub IsPut : {W : Type 0} → (W → Option (List ℕ)) → List ℕ → Bool → Option W → Bool → Option W → Type 0
IsPut contents bytes failed (Some old) fails (Some new) = Appends (contents old) (contents new) bytes × (fails ≡ failed)
IsPut contents bytes failed (Some old) fails None = fails ≡ true
IsPut contents bytes failed None fails new = (new ≡ None) × (fails ≡ failed)

-- a line is added, by what the other history says of that, and written
pub record Writes {L W : Type 0} (gives : L → List ℕ → L → Type 0) (contents : W → Option (List ℕ)) (line : List ℕ) (old new : WrittenHistory L W) : Type 0 where
  pub added : gives old.history line new.history
  pub put : IsPut contents (written_line line) old.has_failed old.writer new.has_failed new.writer
  pub unread : new.unread ≡ old.unread

-- the lines of some bytes were added to these lines, or nothing of the file was read, and nothing is written
abbrev pub IsOpened : {W : Type 0} → RecentLines → WrittenHistory RecentLines W → Type 0
IsOpened lines it =
    ((bytes : List ℕ) × AddsAll gives_recent (lines_in bytes) lines it.history × (it.unread ≡ unread_lines bytes))
    ⊎ ((it.unread ≡ Some File) × (it.history ≡ lines) × (it.writer ≡ None))
