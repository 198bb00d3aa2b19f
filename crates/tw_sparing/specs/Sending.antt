-- What is added to a text for the difference of two screens.
use Rattle.std.specs.Prelude.{◌≡◌, ◌<◌, ℕ, ◌+◌, ◌*◌, List, ◌++◌}
use Rattle.tw_surface.specs.ChangeView.{Batch}
use Rattle.laws_screens.specs.StyledCells.{StyledCell}
use Rattle.tw_sparing.specs.SingleCharacters.{IsSingle}
use Rattle.tw_sparing.specs.StyledScreens.{StyledView, styled_at}
use Rattle.tw_ansi.specs.Encoding.{terse_batch}
use Rattle.tw_sparing.specs.declared.hand.Hand.{Hand}
use Rattle.tw_sparing.specs.declared.redrawer.Redrawer.{Redrawer}
use Rattle.tw_sparing.specs.Redrawings.{Redrawing, redrawn}

-- the cells of a screen, by row and column
abbrev pub screen_cells : StyledView → ℕ → ℕ → StyledCell
screen_cells screen r c = styled_at screen (r * screen.width + c)

-- its cursor and its attributes
abbrev pub hand_of : StyledView → Hand
hand_of screen = record { row = screen.row; col = screen.col; attributes = screen.kept }

-- the cells of a row of w columns hold characters of one column
abbrev pub AreSingle : ℕ → (ℕ → StyledCell) → Type 0
AreSingle w line = (j : ℕ) → j < w → IsSingle (line j).ch

-- so do the first rows of a screen
abbrev pub IsTypable : ℕ → StyledView → Type 0
IsTypable rows screen = (i : ℕ) → i < rows → AreSingle screen.width (screen_cells screen i)

-- the changes that make one screen of another, which has reached so many rows
abbrev pub changes_between : ℕ → ℕ → StyledView → StyledView → Batch
changes_between reached rows old new = (redrawn new.width reached rows (screen_cells old) (screen_cells new) (hand_of new) (hand_of old)).changes

-- what a redrawing is sent as stands after a text, and the hand and what is known are as they are after it
pub record IsAdded (d : Redrawing) (old : Redrawer) (before : List ℕ) (new : Redrawer) (after : List ℕ) : Type 0 where
  pub bytes : after ≡ before ++ (terse_batch d.changes old.encoder).bytes
  pub next : new.encoder ≡ (terse_batch d.changes old.encoder).next
  pub hand : new.hand ≡ d.hand
