-- Where a position leads.
use Rattle.std.specs.Prelude.{ℕ, ℤ, pos, negsuc, ◌+ℤ◌}
use Rattle.tw_surface.specs.declared.change.Position.{Position}
use Rattle.tw_surface.specs.declared.change.Position.TheVariants.{Absolute, Relative}

-- where a position puts a column or a row that stands at a number
abbrev pub position_after : Position → ℤ → ℤ
position_after (Absolute n) at = pos n
position_after (Relative by) at = at +ℤ by

-- the whole number, or 0 in place of a negative one
abbrev pub at_least_0 : ℤ → ℕ
at_least_0 (pos n) = n
at_least_0 (negsuc n) = 0
