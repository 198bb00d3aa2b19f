-- What was recalled of a history last.
use Rattle.std.specs.Prelude.{ℕ, Bool, List, Option, Some, None, option_map, unwrap_or, if◌then◌else◌}
use Rattle.tw_line.specs.Cut.{Cut}
use Rattle.tw_line.specs.NearestMatch.{last_index, next_index}
use Rattle.tw_line.specs.declared.history.SearchDirection.TheVariants.{Backwards}
use Rattle.tw_host.specs.ActionView.{ActionView}
use Rattle.tw_key_parts.specs.declared.recalled.Recalled.{Recalled}

-- the line before it, or else the line itself
abbrev pub line_before_recall : Option Recalled → Cut → Cut
line_before_recall recalled cut = unwrap_or (option_map (λ recalled. recalled.before) recalled) cut

-- the line before that of the history, or else the last line
abbrev pub older_index : Option Recalled → List (List ℕ) → Option ℕ
older_index None lines = last_index lines
older_index (Some recalled) lines = next_index Backwards recalled.index

-- a key of the part keeps it where nothing comes of it; all else ends it
abbrev pub recalled_kept : Bool → Option ActionView → Option Recalled → Option Recalled
recalled_kept is_own (Some _) recalled = None
recalled_kept is_own None recalled = if is_own then recalled else None
