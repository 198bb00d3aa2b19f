-- What a terminal shows that is sent several batches, each as what differs or as it is.
use Rattle.std.specs.Prelude.{◌≡◌, ◌<◌, ◌^◌, ℕ, false, Option, Some, None, List, [], ◌∷◌, map, ⊤}
use Rattle.laws_screens.specs.Strokes.{PictureOf, steps_on}
use Rattle.tw_surface.specs.ChangeView.{Batch}
use Rattle.laws_screens.specs.Pens.{strokes_of}
use Rattle.laws_screens.specs.Screens.{play_sized}
use Rattle.laws_screens.specs.SizedBatches.{sized_at}
use Rattle.laws_screens.specs.StyledCells.{StyledCell, styled}
use Rattle.tw_terminal.specs.declared.terminal.ScreenSize.{ScreenSize}
use Rattle.tw_ansi.specs.declared.encode.Encoder.{Encoder}
use Rattle.tw_ansi.specs.Encoding.{Sent, sends, sent_then}
use Rattle.tw_ansi.specs.EcmaBatches.{AreSendable}
use Rattle.tw_ansi.specs.EcmaLaws.{IsColor}
use Rattle.tw_ansi.specs.EcmaPaintings.{AreAllSendable, sent_batches}
use Rattle.tw_ansi.specs.EcmaScreen.{EcmaScreen, receive_all}
use Rattle.tw_ansi.specs.EcmaTexts.{ShowsPicture}
use Rattle.tw_sparing.specs.declared.shown.Shown.{Shown}
use Rattle.tw_sparing.specs.Shown.{IsFromStart, IsKnownAfter, IsStillKnown, sent_for}
use Rattle.tw_sparing.specs.ShownTerminals.{IsShownBy}

-- a batch, what is shown after it, as far as it is known, and what is still known of that before the next one
pub record KnownBatch : Type 0 where
  pub batch : Batch
  pub drawn : Option Shown
  pub known : Option Shown

-- the batches alone
abbrev pub batches_among : List KnownBatch → List Batch
batches_among calls = map (λ call. call.batch) calls

-- what is still known after all of them
abbrev pub last_known : Option Shown → List KnownBatch → Option Shown
last_known old [] = old
last_known old (call ∷ more) = last_known call.known more

-- what is sent for them, one after the other
abbrev pub sent_for_all : ℕ → Option Shown → List KnownBatch → Encoder → Sent
sent_for_all rows old [] e = sends [] e
sent_for_all rows old (call ∷ more) e = sent_then (sent_for rows call.batch old call.drawn e) (sent_for_all rows call.known more)

-- of each batch what is known after it follows from what was known before it, on a terminal of this size
abbrev pub AreKnownSince : ScreenSize → Option Shown → Encoder → List KnownBatch → Type 0
AreKnownSince size old e [] = ⊤
AreKnownSince size old e (call ∷ more) =
    IsKnownAfter size.cols size.rows call.batch old call.drawn × IsFromStart e.x call.batch old call.drawn
    × IsStillKnown call.drawn call.known
    × AreKnownSince size call.known (sent_for size.rows call.batch old call.drawn e).next more

-- a terminal shows a picture, in which what is known stands, where anything is known
abbrev pub IsShownAs : ℕ → ℕ → Encoder → EcmaScreen StyledCell → PictureOf StyledCell → Option Shown → Type 0
IsShownAs h w e t p None = ShowsPicture styled h w e t p
IsShownAs h w e t p (Some shown) = IsShownBy h w e t p shown

-- a batch that is sent as it is can be sent so: it begins in column 0 where something is known from it on, the known
-- colour being by bytes, and else its bytes do what it draws
abbrev pub CanBeSent : ℕ → ℕ → Encoder → PictureOf StyledCell → Batch → Option Shown → Option Shown → Type 0
CanBeSent h w e p batch old None = AreSendable styled h w e batch p
CanBeSent h w e p batch None (Some new) = IsFromStart e.x batch None (Some new) × IsColor e.attributes.background
CanBeSent h w e p batch (Some old) (Some new) = ⊤

-- it is so of each batch where it comes, after those before it
abbrev pub AreKnown : ℕ → ℕ → Encoder → PictureOf StyledCell → Option Shown → List KnownBatch → Type 0
AreKnown h w e p old [] = ⊤
AreKnown h w e p old (call ∷ more) =
    IsKnownAfter w h call.batch old call.drawn
    × CanBeSent h w e p call.batch old call.drawn
    × IsStillKnown call.drawn call.known
    × AreKnown h w (sent_for h call.batch old call.drawn e).next (steps_on (Some h) w (strokes_of styled e.attributes call.batch) p) call.known more

-- A terminal that shows a picture, and is sent what is sent for batches, one after the other, shows the picture on
-- which all of them were drawn; and what is known at the end stands in it.
abbrev pub RunsAreShown : Type 0
RunsAreShown = (h w : ℕ) (calls : List KnownBatch) (old : Option Shown) (e : Encoder) (t : EcmaScreen StyledCell) (p : PictureOf StyledCell)
    → 0 < w → w < 2 ^ 64 → AreKnown h w e p old calls → IsShownAs h w e t p old
    → let sent = sent_for_all h old calls e in
    IsShownAs h w sent.next (receive_all styled h w sent.bytes t) (play_sized (Some h) false styled w e.attributes (sized_at w (batches_among calls)) p) (last_known old calls)

-- two terminals of h rows and w columns show the same cells, with the cursor in the same place, and the same attributes
-- are selected
pub record IsAlike (h w : ℕ) (a b : EcmaScreen StyledCell) : Type 0 where
  pub cell : (r c : ℕ) → r < h → c < w → a.cell r c ≡ b.cell r c
  pub row : a.row ≡ b.row
  pub col : a.col ≡ b.col
  pub rendition : a.rendition ≡ b.rendition

-- Of two terminals that show one picture, one is sent what is sent for batches, and the other one the batches
-- themselves. Then they look the same.
abbrev pub LooksTheSame : Type 0
LooksTheSame = (h w : ℕ) (calls : List KnownBatch) (old : Option Shown) (e f : Encoder) (t u : EcmaScreen StyledCell) (p : PictureOf StyledCell)
    → 0 < w → w < 2 ^ 64 → AreKnown h w e p old calls → IsShownAs h w e t p old
    → AreAllSendable styled h w f (batches_among calls) p → ShowsPicture styled h w f u p → f.attributes ≡ e.attributes
    → IsAlike h w (receive_all styled h w (sent_for_all h old calls e).bytes t) (receive_all styled h w (sent_batches (batches_among calls) f).bytes u)
