-- Sizes that terminals tell.
use Rattle.std.specs.Prelude.{ℕ, eqb, ltb, ◌||◌, if◌then◌else◌, Option, Some, None}
use Rattle.tw_terminal.specs.declared.terminal.ScreenSize.{ScreenSize}

-- a number, or another one in the place of 0
abbrev pub or_else : ℕ → ℕ → ℕ
or_else n other = if eqb n 0 then other else n

-- the size to take where a terminal tells this one
abbrev pub usable : ScreenSize → ScreenSize
usable size = record { rows = or_else size.rows 24; cols = or_else size.cols 80 }

-- the usable size, if a screen can be so large
abbrev pub fitting : ScreenSize → Option ScreenSize
fitting size = if ltb 65535 size.rows || ltb 65535 size.cols then None else Some (usable size)
