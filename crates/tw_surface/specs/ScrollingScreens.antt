-- What a screen of some rows, which scrolls, holds.
use Rattle.std.specs.Prelude.{ℕ, ◌*◌, ◌≤◌, length}
use Rattle.tw_surface.specs.Cells.{ScreenView, blank_screen, picture}
use Rattle.tw_surface.specs.ChangeView.{ChangeView}
use Rattle.tw_surface.specs.Pictures.{Picture}
use Rattle.tw_surface.specs.Scrolling.{IsWithin, play_on}

-- a screen, and how many rows it has
pub record ScrollingView : Type 0 where
  pub screen : ScreenView
  pub rows : ℕ

-- a screen of some rows and a width, at first
abbrev pub blank_rows : ℕ → ℕ → ScrollingView
blank_rows rows width = record { screen = blank_screen width; rows = rows }

-- what a change leaves on such a screen
abbrev pub play_in : ChangeView → ScrollingView → Picture
play_in change s = play_on s.rows s.screen.width change (picture s.screen)

-- what is true of every screen of some rows: nothing stands below them, and no more near cells are kept than they have
pub record IsRowed (rows : ℕ) (screen : ScreenView) : Type 0 where
  pub most : rows ≤ 65535
  pub within : IsWithin rows (picture screen)
  pub near : length screen.near ≤ rows * screen.width
