-- A screen that scrolls.
use Rattle.std.specs.Prelude.{ℕ, ◌≡◌, ◌<◌, List}
use Rattle.tw_surface.specs.ChangeView.{ChangeView, Batch}
use Rattle.tw_surface.specs.Pictures.{Picture, play}
use Rattle.tw_surface.specs.Scrolling.{IsWithin, scroll, play_on, play_batches_on}

-- a screen of h rows stays one
abbrev pub StaysWithin : Type 0
StaysWithin = (h w : ℕ) (played : List Batch) (before : Picture) → IsWithin h before → IsWithin h (play_batches_on h w played before)

-- a change plays on h rows as it does without a bottom, and then the screen scrolls
abbrev pub ScrollsBehindChanges : Type 0
ScrollsBehindChanges = (h w : ℕ) (change : ChangeView) (s : Picture) → s.row < h → play_on h w change s ≡ scroll h (play w change s)
