-- Where a movement leads.
use Rattle.std.specs.Prelude.{ℕ, length}
use Rattle.std.specs.Str.{chars}
use Rattle.tw_line.specs.Cut.{Cut, cut_at}
use Rattle.tw_line.specs.Extremes.{iterate}
use Rattle.tw_line.specs.Clusters.{cluster_after, cluster_before}
use Rattle.tw_line.specs.Indices.{index_of, offset_of}
use Rattle.tw_line.specs.Words.{word_after, word_before}
use Rattle.tw_line.specs.declared.movements.Movement.{Movement}
use Rattle.tw_line.specs.declared.movements.Movement.TheVariants as movement

-- where the movement leads from the cursor
unfoldable pub destination : Movement → Cut → ℕ
destination (movement.BackwardChar r) c = iterate (cluster_before c.line) r c.cursor
destination (movement.ForwardChar r) c = iterate (cluster_after c.line) r c.cursor
destination (movement.BackwardWord r) c = offset_of c.line (iterate (word_before (chars c.line)) r (index_of c.line c.cursor))
destination (movement.ForwardWord r) c = offset_of c.line (iterate (word_after (chars c.line)) r (index_of c.line c.cursor))
destination movement.StartOfLine c = 0
destination movement.EndOfLine c = length c.line
destination movement.None c = c.cursor

-- the cursor goes there
abbrev pub after_move : Movement → Cut → Cut
after_move m c = cut_at c.line (destination m c)
