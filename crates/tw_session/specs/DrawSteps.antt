-- The steps of a painting.
use Rattle.std.specs.Prelude.{◌≡◌, ◌<◌, ◌≤◌, ℕ, ◌+◌, Bool, true, false, ◌&&◌, nat_le, ◌++◌, Option, Result, Ok, Err, alloc_error, List, ℤ}
use Rattle.std.specs.Global.{Vec}
use Rattle.std.specs.List.{list_all}
use Rattle.tw_surface.specs.declared.change.Change.{Change}
use Rattle.tw_surface.specs.declared.sequence.AddFault.{AddFault}
use Rattle.tw_surface.specs.declared.sequence.AddFault.TheVariants as add
use Rattle.tw_surface.specs.declared.size.SizeFault.{SizeFault}
use Rattle.tw_surface.specs.declared.size.SizeFault.TheVariants as size
use Rattle.tw_surface.specs.ChangeView.{Batch, batch_view}
use Rattle.tw_surface.specs.Places.{Place, places_of_all, is_in_range}
use Rattle.tw_surface.specs.Drawings.{Drawing, place}
use Rattle.tw_surface.specs.Paintings.{painting, edge_space, place_at, Mark, mark_of}
use Rattle.tw_surface.specs.Scenes.{Scene, Lower}
use Rattle.tw_surface.specs.Scenes.Lower.{NoLower, Search}
use Rattle.tw_session.specs.declared.error.Error.{Error}
use Rattle.tw_session.specs.declared.error.Error.TheVariants as error
use Rattle.tw_session.specs.declared.painter.Below.{Below}
use Rattle.tw_session.specs.declared.painter.Below.TheVariants.{Nothing}
use Rattle.tw_session.specs.declared.painter.Below.TheVariants as below
use Rattle.tw_terminal.specs.declared.terminal.ScreenSize.{ScreenSize}
use Rattle.tw_line.specs.Cut.{Cut}
use Rattle.tw_host.specs.HostRules.{HostRules}
use Rattle.tw_session.specs.Refusal.{ZeroSize, SizeOutOfRange}
use Rattle.tw_session.specs.Painting.{search_text, preview_of, is_paintable, painted_on, rendering_of, scene_with}

-- the error for a change that is refused
abbrev pub add_error : AddFault → Error
add_error add.Memory = error.Memory alloc_error
add_error add.OutOfRange = error.SizeOutOfRange

-- the error for a size that is refused
abbrev pub size_error : SizeFault → Error
size_error size.ZeroSize = error.ZeroSize
size_error size.OutOfRange = error.SizeOutOfRange

-- why a step is refused: no memory, or it does not fit
abbrev pub IsStepRefusal : Bool → Error → Type 0
IsStepRefusal fits (error.Memory e) = Unit {0}
IsStepRefusal fits error.SizeOutOfRange = fits ≡ false
IsStepRefusal fits _ = ⊥

-- whether each place that the changes reach is in range
abbrev pub stay_in_range : Drawing → Batch → Bool
stay_in_range d changes = list_all is_in_range (places_of_all d.cols changes (place d))

-- a drawing with more changes
abbrev pub with_all : Drawing → Batch → Drawing
with_all d changes = record d { changes = d.changes ++ changes }

-- the changes go last, and each place that they reach is in range
pub record Drawn (changes : Batch) (old new : Drawing) : Type 0 where
  pub drawing : new ≡ with_all old changes
  pub in_range : stay_in_range old changes ≡ true

-- the changes are drawn, or one of them is refused
abbrev pub Draws : Batch → Drawing → Drawing → Result Unit Error → Type 0
Draws changes old new (Ok done) = Drawn changes old new
Draws changes old new (Err e) = IsStepRefusal (stay_in_range old changes) e

-- a line, and the space after it where it ends at the edge
abbrev pub with_edge : Drawing → Batch → Batch
with_edge d line = line ++ edge_space d.cols (place (with_all d line))

-- whether the cell some columns after a place can be the cursor's
abbrev pub has_cell : ℕ → Place → ℕ → Bool
has_cell cols p column = nat_le (p.x + column) 2147483647 && is_in_range (place_at cols p column)

-- a column and a row, as a place
abbrev pub place_of_pair : ℕ × ℤ → Place
place_of_pair p = record { x = p.0; y = p.1 }

-- the cell some columns after a place is this one, and can be the cursor's
abbrev pub IsCellAfter : ℕ → Place → ℕ → Place → Type 0
IsCellAfter cols p column cell = (has_cell cols p column ≡ true) × (cell ≡ place_at cols p column)

-- what the painter puts under a line
abbrev pub lower_of : {V : Type 0} → HostRules V → V → Cut → Below → Lower
lower_of rules v line Nothing = NoLower
lower_of rules v line below.Preview = preview_of (rules.preview v line.line)
lower_of rules v line (below.Search direction pattern) = Search (search_text direction pattern.now)

-- what is shown of a prompt, a line and what stands under it, where the screen was not cleared
abbrev pub scene_of_line : {V : Type 0} → HostRules V → V → List ℕ → Cut → Below → Scene
scene_of_line rules v prompt line below = scene_with rules v prompt line (lower_of rules v line below) false

-- a scene's painting is drawn
pub record DrawnScene (cols : ℕ) (scene : Scene) (new : Drawing) (left : Mark) : Type 0 where
  pub paintable : is_paintable cols scene ≡ true
  pub changes : new.changes ≡ (painting cols scene).changes
  pub leaves : left ≡ mark_of (painting cols scene)

-- a scene's painting is drawn, or a step of it is refused
abbrev pub DrawsScene : ℕ → Scene → Drawing → Result Mark Error → Type 0
DrawsScene cols scene new (Ok left) = DrawnScene cols scene new left
DrawsScene cols scene new (Err e) = IsStepRefusal (is_paintable cols scene) e

-- a screen of 1 to 65,535 rows and columns
pub record IsSized (size : ScreenSize) : Type 0 where
  pub rows : 0 < size.rows
  pub cols : 0 < size.cols
  pub few_rows : size.rows ≤ 65535
  pub few_cols : size.cols ≤ 65535

-- the batch and the mark are those of the scene's painting, as it is rendered after the one before
abbrev pub IsPainted : Option Mark → ScreenSize → Scene → Vec Change × Mark → Type 0
IsPainted before size scene painted =
    rendering_of before (painted_on size scene) ≡ Ok (record { changes = batch_view painted.0.items; mark = painted.1 })

-- why there is no painting of the scene: no memory, or the refusal of the painting
abbrev pub IsUnpainted : ScreenSize → Scene → Error → Type 0
IsUnpainted size scene (error.Memory e) = IsSized size
IsUnpainted size scene error.ZeroSize = painted_on size scene ≡ Err ZeroSize
IsUnpainted size scene error.SizeOutOfRange = painted_on size scene ≡ Err SizeOutOfRange
IsUnpainted size scene _ = ⊥
