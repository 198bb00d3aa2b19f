-- What a terminal shows that is sent the difference of two screens.
use Rattle.std.specs.Prelude.{◌≡◌, ◌≤◌, ◌<◌, ◌+◌, ◌-◌, ◌^◌, ℕ, ltb, min, if◌then◌else◌}
use Rattle.tw_surface.specs.declared.cell.CellAttributes.{CellAttributes}
use Rattle.laws_screens.specs.Strokes.{PictureOf}
use Rattle.laws_screens.specs.StyledCells.{StyledCell, styled}
use Rattle.tw_ansi.specs.declared.encode.Encoder.{Encoder}
use Rattle.tw_ansi.specs.Sequences.{most_rows}
use Rattle.tw_ansi.specs.Encoding.{terse_batch}
use Rattle.tw_ansi.specs.EcmaScreen.{EcmaScreen, receive_all}
use Rattle.tw_ansi.specs.EcmaLaws.{IsColor}
use Rattle.tw_ansi.specs.EcmaTexts.{ShowsPicture}
use Rattle.tw_sparing.specs.SingleCharacters.{IsSingle}
use Rattle.tw_sparing.specs.Differences.{blank_cell}
use Rattle.tw_sparing.specs.declared.hand.Hand.{Hand}
use Rattle.tw_sparing.specs.Redrawings.{redrawn}

-- attributes whose colours are by bytes
abbrev pub AreByBytes : CellAttributes → Type 0
AreByBytes a = IsColor a.foreground × IsColor a.background

-- so are those of the cells of w columns and of these rows
abbrev pub AreAllByBytes : ℕ → ℕ → (ℕ → ℕ → StyledCell) → Type 0
AreAllByBytes w rows cells = (i j : ℕ) → i < rows → j < w → AreByBytes (cells i j).attributes

-- a character of one column under such attributes
abbrev pub IsInk : StyledCell → Type 0
IsInk x = IsSingle x.ch × AreByBytes x.attributes

-- nothing stands below the first rows
abbrev pub IsBlankFrom : ℕ → (ℕ → ℕ → StyledCell) → Type 0
IsBlankFrom rows cells = (i j : ℕ) → rows ≤ i → cells i j ≡ blank_cell

-- the cells of w columns and of these rows are such characters, and nothing stands below
pub record IsInked (w rows : ℕ) (cells : ℕ → ℕ → StyledCell) : Type 0 where
  pub ink : (i j : ℕ) → i < rows → j < w → IsInk (cells i j)
  pub blank : IsBlankFrom rows cells

-- the cursor stands in one of w columns and of these rows
pub record IsHandWithin (w rows : ℕ) (hand : Hand) : Type 0 where
  pub row : hand.row < rows
  pub col : hand.col < w
  pub colors : AreByBytes hand.attributes

-- from row s on a picture of w columns shows these cells, and the cursor where the hand is
pub record IsSeenFrom (w s : ℕ) (cells : ℕ → ℕ → StyledCell) (hand : Hand) (p : PictureOf StyledCell) : Type 0 where
  pub cell : (i j : ℕ) → j < w → p.cell (s + i) j ≡ cells i j
  pub row : p.row ≡ s + hand.row
  pub col : p.col ≡ hand.col

-- the picture that shows other cells from row t on, and above them what stood above row s, moved up
abbrev pub turned_to : ℕ → ℕ → (ℕ → ℕ → StyledCell) → Hand → PictureOf StyledCell → PictureOf StyledCell
turned_to s t cells hand p = record { cell = λ i j. if ltb i t then p.cell (i + (s - t)) j else cells (i - t) j; row = t + hand.row; col = hand.col }

-- A terminal of h rows shows old cells from row s on, of which it has reached some rows. It is sent what makes new ones
-- of them, whose rows have room on it. Then it shows the new ones, from row s on or as far above as their rows need,
-- with the new cursor and the new attributes.
abbrev pub ChangedIsShown : Type 0
ChangedIsShown = (h w s reached rows : ℕ) (old new : ℕ → ℕ → StyledCell) (hand to : Hand) (e : Encoder) (t : EcmaScreen StyledCell) (p : PictureOf StyledCell)
    → 0 < w → w < 2 ^ 64 → h ≤ most_rows → rows ≤ h → s + reached ≤ h
    → IsBlankFrom rows old → IsInked w rows new → IsHandWithin w rows to
    → IsSeenFrom w s old hand p → hand.attributes ≡ e.attributes → IsColor e.attributes.background
    → ShowsPicture styled h w e t p
    → let sent = terse_batch (redrawn w reached rows old new to hand).changes e in
    ShowsPicture styled h w sent.next (receive_all styled h w sent.bytes t) (turned_to s (min s (h - rows)) new to p) × (sent.next.attributes ≡ to.attributes)
