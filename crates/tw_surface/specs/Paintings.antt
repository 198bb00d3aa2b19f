-- The changes of a painting, and the moves before and after it.
use Rattle.std.specs.Prelude.{ℕ, ℤ, pos, ◌+ℤ◌, ◌-ℤ◌, neg_ℤ, ◌+◌, ◌/◌, ◌%◌, eqb, if◌then◌else◌, [], ◌∷◌, ◌++◌}
use Rattle.tw_surface.specs.declared.change.Position.TheVariants.{Absolute, Relative}
use Rattle.tw_surface.specs.ChangeView.{ChangeView, Batch}
use Rattle.tw_surface.specs.ChangeView.{AllAttributes, Text, ClearToEndOfScreen, CursorPosition}
use Rattle.tw_surface.specs.Characters.{cr, lf}
use Rattle.tw_surface.specs.Defaults.{default_color, default_attributes}
use Rattle.tw_surface.specs.Drawings.{height}
use Rattle.tw_surface.specs.Places.{Place, place_after_all, origin, move_between}
use Rattle.tw_surface.specs.Pictures.{blank}
use Rattle.tw_surface.specs.Scenes.{Lower, Scene}
use Rattle.tw_surface.specs.Scenes.Lower.{NoLower, Preview, Search}

-- the changes before the line
abbrev pub before_line : Batch → Batch
before_line prompt = ClearToEndOfScreen default_color ∷ AllAttributes default_attributes ∷ prompt ++ AllAttributes default_attributes ∷ []

-- a space after a line that ends at the edge
abbrev pub edge_space : ℕ → Place → Batch
edge_space cols p = if eqb p.x cols then Text (blank ∷ []) ∷ [] else []

-- the cell d columns after a place
abbrev pub place_at : ℕ → Place → ℕ → Place
place_at cols p d = record { x = (p.x + d) % cols; y = p.y +ℤ pos ((p.x + d) / cols) }

-- the changes of the lower text, with the CR LF before it
abbrev pub lower_changes : Lower → Batch
lower_changes NoLower = []
lower_changes (Preview elements) = Text (cr ∷ lf ∷ []) ∷ AllAttributes default_attributes ∷ elements
lower_changes (Search text) = AllAttributes default_attributes ∷ Text (cr ∷ lf ∷ text) ∷ []

-- everything before the last move
abbrev pub shown_part : ℕ → Scene → Batch
shown_part cols scene =
    let shown = before_line scene.prompt ++ scene.line in
    shown ++ (edge_space cols (place_after_all cols shown origin) ++ lower_changes scene.lower)

-- the place of the cursor's cell
abbrev pub cursor_place : ℕ → Scene → Place
cursor_place cols scene = place_at cols (place_after_all cols (before_line scene.prompt) origin) scene.column

-- a painting: its changes, and the row of its cursor and its height, both counted from its first row
pub record Painting : Type 0 where
  pub changes : Batch
  pub row : ℤ
  pub height : ℕ

-- the painting of a scene at cols columns
abbrev pub painting : ℕ → Scene → Painting
painting cols scene =
    let all = shown_part cols scene in
    record {
      changes = all ++ move_between (place_after_all cols all origin) (cursor_place cols scene) ∷ [];
      row = (cursor_place cols scene).y;
      height = height cols all;
    }

-- where a painting leaves the cursor and how high it is, both counted from its first row
pub record Mark : Type 0 where
  pub row : ℤ
  pub height : ℕ

-- the mark of a painting
abbrev pub mark_of : Painting → Mark
mark_of p = record { row = p.row; height = p.height }

-- from the cursor of a painting back to its first row
abbrev pub start_move : Mark → ChangeView
start_move m = CursorPosition (Absolute 0) (Relative (neg_ℤ m.row))

-- from the cursor of a painting to the row under it, and the clearing from there on
abbrev pub closing : Mark → Batch
closing m = CursorPosition (Absolute 0) (Relative (pos (1 + m.height) -ℤ m.row)) ∷ ClearToEndOfScreen default_color ∷ []
