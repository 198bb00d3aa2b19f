-- A terminal after ECMA-48 that shows what is known of it.
use Rattle.std.specs.Prelude.{◌≡◌, ◌≤◌, ◌<◌, ◌+◌, ◌-◌, ◌^◌, ℕ, Some, None}
use Rattle.laws_screens.specs.Strokes.{PictureOf, steps_on}
use Rattle.tw_surface.specs.ChangeView.{Batch}
use Rattle.laws_screens.specs.Pens.{strokes_of}
use Rattle.laws_screens.specs.StyledCells.{StyledCell, styled}
use Rattle.tw_ansi.specs.declared.encode.Encoder.{Encoder}
use Rattle.tw_ansi.specs.EcmaScreen.{EcmaScreen, receive_all}
use Rattle.tw_ansi.specs.EcmaLaws.{IsColor}
use Rattle.tw_ansi.specs.EcmaTexts.{ShowsPicture}
use Rattle.tw_sparing.specs.StyledScreens.{without_rows}
use Rattle.tw_sparing.specs.ChangedScreens.{IsBlankFrom, IsSeenFrom}
use Rattle.tw_sparing.specs.Sending.{screen_cells, hand_of}
use Rattle.tw_sparing.specs.declared.shown.Shown.{Shown}
use Rattle.tw_sparing.specs.Shown.{FitsTerminal, IsFromStart, IsKnownAfter, left_behind, sent_for}

-- a terminal of h rows and w columns shows a picture, in which what is known stands: from some row on the rows that
-- have not left it, as far as they were reached, with the cursor and the attributes, and nothing below them
pub record IsShownBy (h w : ℕ) (e : Encoder) (t : EcmaScreen StyledCell) (p : PictureOf StyledCell) (shown : Shown) : Type 0 where
  pub picture : ShowsPicture styled h w e t p
  pub fits : FitsTerminal h shown
  pub width : shown.screen.width ≡ w
  pub from : ℕ
  pub room : from + (shown.reached - left_behind h shown) ≤ h
  pub seen : IsSeenFrom w from (screen_cells (without_rows (left_behind h shown) shown.screen)) (hand_of (without_rows (left_behind h shown) shown.screen)) p
  pub blank : IsBlankFrom shown.reached (screen_cells shown.screen)
  pub attributes : shown.screen.kept ≡ e.attributes

-- A terminal that shows what is known before a batch, and is sent for the batch what differs, shows the picture on
-- which the batch was drawn, as if it had been sent the batch itself; and what is known after the batch stands in that
-- picture.
abbrev pub KnownIsShown : Type 0
KnownIsShown = (h w : ℕ) (batch : Batch) (old new : Shown) (e : Encoder) (t : EcmaScreen StyledCell) (p : PictureOf StyledCell)
    → w < 2 ^ 64 → IsKnownAfter w h batch (Some old) (Some new) → IsShownBy h w e t p old
    → let sent = sent_for h batch (Some old) (Some new) e in
    IsShownBy h w sent.next (receive_all styled h w sent.bytes t) (steps_on (Some h) w (strokes_of styled e.attributes batch) p) new

-- So does a terminal of which nothing was known, but that it shows some picture, and which is sent the batch itself:
-- wherever its cursor stands, as long as the batch begins in column 0, and the colour that is known to be set is by
-- bytes.
abbrev pub FirstIsKnown : Type 0
FirstIsKnown = (h w : ℕ) (batch : Batch) (new : Shown) (e : Encoder) (t : EcmaScreen StyledCell) (p : PictureOf StyledCell)
    → 0 < w → w < 2 ^ 64 → IsColor e.attributes.background → IsKnownAfter w h batch None (Some new) → IsFromStart e.x batch None (Some new) → ShowsPicture styled h w e t p
    → let sent = sent_for h batch None (Some new) e in
    IsShownBy h w sent.next (receive_all styled h w sent.bytes t) (steps_on (Some h) w (strokes_of styled e.attributes batch) p) new
