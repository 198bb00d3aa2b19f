-- A terminal that shows one screen, and is sent what differs of another one, shows the other one.
use Rattle.std.proofs.Common.{◌≡◌, ◌<◌, ◌≤◌, ◌+◌, ◌-◌, ◌^◌, ◌&&◌, not, ℕ, cond, eqb, min, inl, inr, ap, subst, ◌∙◌, sym, arith}
use Rattle.std.proofs.lemmas.Bool.{cases_lt, lt-ltb, le-ltb}
use Rattle.tw_surface.specs.declared.cell.CellAttributes.{CellAttributes}
use Rattle.laws_screens.specs.Strokes.{PictureOf}
use Rattle.laws_screens.specs.Screens.{blank_of}
use Rattle.laws_screens.specs.StyledCells.{StyledCell, styled}
use Rattle.tw_ansi.specs.declared.encode.Encoder.{Encoder}
use Rattle.tw_ansi.specs.Encoding.{Sent, terse_batch}
use Rattle.tw_ansi.specs.EcmaScreen.{EcmaScreen, receive_all}
use Rattle.tw_ansi.specs.EcmaLaws.{IsColor}
use Rattle.tw_ansi.specs.EcmaTexts.{IsOfRows, ShowsPicture}
use Rattle.tw_sparing.specs.StyledScreens.{without_rows}
use Rattle.tw_sparing.specs.declared.hand.Hand.{Hand}
use Rattle.tw_sparing.specs.Redrawings.{redrawn}
use Rattle.tw_sparing.specs.ChangedScreens.{IsBlankFrom, IsInk, IsInked, IsHandWithin, IsSeenFrom, turned_to}
use Rattle.tw_sparing.specs.Sending.{screen_cells, hand_of}
use Rattle.tw_sparing.proofs.ShownChanges.{changed_is_shown}
use Rattle.tw_sparing.specs.declared.shown.Shown.{Shown}
use Rattle.tw_sparing.specs.Shown.{changes_below, left_behind, FitsTerminal}
use Rattle.tw_sparing.specs.ShownTerminals.{IsShownBy}
use Rattle.tw_sparing.proofs.CutScreens.{cut_cells}
use Rattle.tw_sparing.proofs.SpannedPictures.{IsSpanned}
use Rattle.tw_sparing.proofs.StandingScreens.{stands_at, span_cell, span_seen, span_within, span_blank}

-- a terminal shows each picture that looks the same
same_picture : (h w : ℕ) (e : Encoder) (t : EcmaScreen StyledCell) (p q : PictureOf StyledCell) → IsOfRows (blank_of styled) h q
    → ((r c : ℕ) → r < h → c < w → p.cell r c ≡ q.cell r c) → p.row ≡ q.row → p.col ≡ q.col → ShowsPicture styled h w e t p → ShowsPicture styled h w e t q
same_picture h w e t p q within cell row col a = record {
  within = within;
  edge = omega (arith, col, a.edge);
  cells = λ r c low left. a.cells r c low left ∙ cell r c low left;
  row = a.row ∙ row;
  col = a.col ∙ ap (λ n. min n (w - 1)) col;
  waits = a.waits ∙ ap (λ n. eqb n w && not e.parted) col;
  parted = λ is. sym col ∙ a.parted is;
  reading = a.reading;
  rendition = a.rendition;
  cols = a.cols;
  x = a.x ∙ col;
}

-- An old screen without its first rows is seen in a picture from a row on, and a new one in another picture, which
-- shows above it what the first picture shows there, moved up.
module _ (h w old_top old_row s : ℕ) (old new : Shown) (e : Encoder) (t : EcmaScreen StyledCell) (p first drawn : PictureOf StyledCell)
    (some : 0 < w) (small : w < 2 ^ 64) (fits : FitsTerminal h new) (a : IsShownBy h w e t p old) (spans : IsSpanned h w s first new drawn)
    (old_seen : IsSeenFrom w old_row (screen_cells (without_rows old_top old.screen)) (hand_of (without_rows old_top old.screen)) p)
    (old_blank : IsBlankFrom (new.reached - left_behind h new) (screen_cells (without_rows old_top old.screen)))
    (room : old_row + (old.reached - old_top) ≤ h)
    (stands : min old_row (h - (new.reached - left_behind h new)) ≡ stands_at h w s first new drawn spans)
    (above : (r c : ℕ) → r < stands_at h w s first new drawn spans → p.cell (r + (old_row - stands_at h w s first new drawn spans)) c ≡ drawn.cell r c) where
  abbrev top : ℕ
  top = left_behind h new

  -- how many rows there are of both
  abbrev reached : ℕ
  reached = old.reached - old_top

  abbrev rows : ℕ
  rows = new.reached - top

  abbrev old_cells : ℕ → ℕ → StyledCell
  old_cells = screen_cells (without_rows old_top old.screen)

  abbrev new_cells : ℕ → ℕ → StyledCell
  new_cells = screen_cells (without_rows top new.screen)

  abbrev hand : Hand
  hand = hand_of (without_rows old_top old.screen)

  abbrev to : Hand
  to = hand_of (without_rows top new.screen)

  new_blank : IsBlankFrom new.reached (screen_cells new.screen)
  new_blank = span_blank h w s first new drawn spans some

  inked : IsInked w rows new_cells
  inked = record {
    ink = λ i j less left.
        let inside : j < new.screen.width = subst (λ n. j < n) (sym spans.width) left in
        subst (λ x. IsInk x) (sym (cut_cells top new.screen i j))
        (fits.typable (top + i) (omega (arith, less)) j inside, fits.colors (top + i) j (omega (arith, less)) inside);
    blank = λ i j far. cut_cells top new.screen i j ∙ new_blank (top + i) j (omega (arith, far));
  }

  within : IsHandWithin w rows to
  within = record {
    row = omega (arith, fits.row, fits.low);
    col = subst (λ n. new.screen.col < n) spans.width fits.col;
    colors = fits.kept;
  }

  redrawing : (n : ℕ) → n ≡ w → ShowsPicture styled h w (terse_batch (redrawn n reached rows old_cells new_cells to hand).changes e).next
      (receive_all styled h w (terse_batch (redrawn n reached rows old_cells new_cells to hand).changes e).bytes t) (turned_to old_row (min old_row (h - rows)) new_cells to p)
      × ((terse_batch (redrawn n reached rows old_cells new_cells to hand).changes e).next.attributes ≡ new.screen.kept)
  redrawing n is =
      subst (λ m. ShowsPicture styled h w (terse_batch (redrawn m reached rows old_cells new_cells to hand).changes e).next
      (receive_all styled h w (terse_batch (redrawn m reached rows old_cells new_cells to hand).changes e).bytes t) (turned_to old_row (min old_row (h - rows)) new_cells to p)
      × ((terse_batch (redrawn m reached rows old_cells new_cells to hand).changes e).next.attributes ≡ new.screen.kept)) (sym is)
      (changed_is_shown h w old_row reached rows old_cells new_cells hand to e t p some small fits.tall (omega arith) room
      old_blank inked within old_seen a.attributes
      (subst (λ (c : CellAttributes). IsColor c.background) a.attributes a.fits.kept.1) a.picture)

  agrees : (r c : ℕ) → r < h → c < w → (turned_to old_row (min old_row (h - rows)) new_cells to p).cell r c ≡ drawn.cell r c
  agrees r c low left =
      let at : ℕ = stands_at h w s first new drawn spans in
      ap (λ m. (turned_to old_row m new_cells to p).cell r c) stands ∙ elim (cases_lt r (stands_at h w s first new drawn spans)) [
        | inl up ↦ ap (λ b. cond b (p.cell (r + (old_row - at)) c) (new_cells (r - at) c)) (lt-ltb r at up) ∙ above r c up
        | inr below ↦
            ap (λ b. cond b (p.cell (r + (old_row - at)) c) (new_cells (r - at) c)) (le-ltb r at below)
            ∙ sym (span_cell h w s first new drawn spans (r - at) c left)
            ∙ ap (λ n. drawn.cell n c) (omega (arith, below))
      ]

  pub redrawn_by : IsShownBy h w (terse_batch (changes_below old_top (left_behind h new) old new) e).next
      (receive_all styled h w (terse_batch (changes_below old_top (left_behind h new) old new) e).bytes t) drawn new
  redrawn_by =
      let sent : Sent = terse_batch (changes_below old_top (left_behind h new) old new) e in
      let is = redrawing new.screen.width spans.width in
      let stood = span_seen h w s first new drawn spans fits in
      let at = stands in
      let low : new.reached - h ≤ new.screen.row = fits.row in
      record {
        picture = same_picture h w sent.next (receive_all styled h w sent.bytes t) (turned_to old_row (min old_row (h - rows)) new_cells to p) drawn
            (span_within h w s first new drawn spans) agrees (omega (arith, at, stood.row)) (sym stood.col) is.0;
        fits = fits;
        width = spans.width;
        from = stands_at h w s first new drawn spans;
        room = omega arith;
        seen = stood;
        blank = new_blank;
        attributes = sym is.1;
      }
