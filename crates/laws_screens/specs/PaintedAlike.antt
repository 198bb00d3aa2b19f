-- Stations that are painted as measured ones are.
use Rattle.std.specs.Prelude.{ℕ, ◌≡◌, Option, List, [], ◌∷◌, ◌++◌}
use Rattle.tw_surface.specs.Paintings.{Mark, painting, mark_of}
use Rattle.tw_surface.specs.PaintingBatches.{SizedScene, start_of}
use Rattle.tw_surface.specs.Scenes.{Scene}
use Rattle.laws_screens.specs.Glyphs.{IsMeasuredWide}
use Rattle.laws_screens.specs.Pens.{Pen, strokes_of}

-- Two scenes are painted alike: their paintings draw the same, whatever is kept of attributes where each begins, and
-- leave the same mark.
pub record ArePaintedAlike {A C : Type 0} (pen : Pen A C) (cols : ℕ) (scene other : Scene) : Type 0 where
  pub strokes : (a c : A) (before : Option Mark)
      → strokes_of pen a (start_of before ++ (painting cols scene).changes) ≡ strokes_of pen c (start_of before ++ (painting cols other).changes)
  pub mark : mark_of (painting cols scene) ≡ mark_of (painting cols other)

-- A station is painted as a measured one is.
pub record IsPaintedAs {A C : Type 0} (pen : Pen A C) (station other : SizedScene) : Type 0 where
  pub cols : other.cols ≡ station.cols
  pub cleared : other.scene.cleared ≡ station.scene.cleared
  pub measured : IsMeasuredWide other
  pub alike : ArePaintedAlike pen station.cols station.scene other.scene

-- each station of a list as one of another list
abbrev pub ArePaintedAs : {A C : Type 0} → Pen A C → List SizedScene → List SizedScene → Type 0
ArePaintedAs pen [] [] = Unit {0}
ArePaintedAs pen (station ∷ stations) (other ∷ others) = IsPaintedAs pen station other × ArePaintedAs pen stations others
ArePaintedAs pen _ _ = ⊥

-- A measured station is painted as itself.
abbrev pub MeasuredIsItself : {A C : Type 0} → Pen A C → Type 0
MeasuredIsItself pen = (station : SizedScene) → IsMeasuredWide station → IsPaintedAs pen station station
