-- A terminal that shows what is known, and is sent what differs after a batch, shows what is known then.
use Rattle.std.proofs.Common.{◌≡◌, ◌<◌, ◌≤◌, ◌+◌, ◌-◌, ◌^◌, ◌∷◌, ℕ, pos, negsuc, ℤ, ◌+ℤ◌, min, max, not, Bool, true, false, Some, inl, inr, ap, subst, ◌∙◌, sym, refl, arith}
use Rattle.std.proofs.lemmas.Bool.{cases_lt, lt-ltb, false≢true}
use Rattle.std.proofs.lemmas.Int.{ints}
use Rattle.tw_surface.specs.declared.cell.CellAttributes.{CellAttributes}
use Rattle.tw_surface.specs.declared.change.Position.{Position}
use Rattle.tw_surface.specs.declared.change.Position.TheVariants.{Absolute, Relative}
use Rattle.tw_surface.specs.ChangeView.{Batch, CursorPosition}
use Rattle.laws_screens.specs.Strokes.{PictureOf, step, steps_on, scrolled}
use Rattle.laws_screens.specs.Strokes.Stroke.{Move}
use Rattle.laws_screens.specs.Pens.{led, strokes_of}
use Rattle.laws_screens.specs.StyledCells.{StyledCell, styled}
use Rattle.tw_ansi.specs.declared.encode.Encoder.{Encoder}
use Rattle.tw_ansi.specs.Encoding.{sent_change, terse_batch}
use Rattle.tw_ansi.specs.EcmaScreen.{EcmaScreen, receive_all}
use Rattle.tw_ansi.specs.EcmaLaws.{IsColor}
use Rattle.tw_sparing.specs.StyledScreens.{without_rows}
use Rattle.tw_sparing.specs.ChangedScreens.{IsBlankFrom, IsSeenFrom}
use Rattle.tw_sparing.specs.Sending.{screen_cells, hand_of}
use Rattle.tw_sparing.specs.declared.shown.Shown.{Shown}
use Rattle.tw_sparing.specs.Shown.{changes_below, first_shown, goes_out_of_sight, gone_rows, left_behind, rows_above, IsDrawnAfter, IsKnownBy, IsPlayed, IsRefilled, IsShortMove}
use Rattle.tw_sparing.specs.ShownTerminals.{IsShownBy, KnownIsShown}
use Rattle.tw_sparing.proofs.CutScreens.{cut_cells}
use Rattle.tw_sparing.proofs.PlayedBatches.{drawn_gone, gone_within, played_reached}
use Rattle.tw_sparing.proofs.SpannedPictures.{IsSpanned, seen_row}
use Rattle.tw_sparing.proofs.PlayedPictures.{batch_spans}
use Rattle.tw_sparing.proofs.StandingScreens.{start_spans, stands_at}
use Rattle.tw_sparing.proofs.RedrawnScreens.{redrawn_by}
use Rattle.tw_sparing.proofs.FirstScreens.{first_of_batch}

module _ (h w : ℕ) (batch : Batch) (old new : Shown) (e : Encoder) (t : EcmaScreen StyledCell) (p : PictureOf StyledCell) (small : w < 2 ^ 64) (a : IsShownBy h w e t p old) where
  -- the picture on which the batch was drawn
  abbrev drawn : PictureOf StyledCell
  drawn = steps_on (Some h) w (strokes_of styled e.attributes batch) p

  -- what is sent of the old screen without its first rows
  abbrev IsShownWithout : ℕ → Type 0
  IsShownWithout old_top = IsShownBy h w (terse_batch (changes_below old_top (left_behind h new) old new) e).next
      (receive_all styled h w (terse_batch (changes_below old_top (left_behind h new) old new) e).bytes t) drawn new

  some : 0 < w
  some = omega (arith, a.fits.col, a.width)

  -- what is left of the old screen without some of its rows, which may have left the terminal or not
  seen_below : (gone : ℕ) → left_behind h old ≤ gone → gone ≤ old.screen.row
      → IsSeenFrom w (a.from + (gone - left_behind h old)) (screen_cells (without_rows gone old.screen)) (hand_of (without_rows gone old.screen)) p
  seen_below gone low above = record {
    cell = λ i j left.
        ap (λ n. p.cell n j) (omega arith)
        ∙ a.seen.cell (gone - left_behind h old + i) j left
        ∙ cut_cells (left_behind h old) old.screen (gone - left_behind h old + i) j
        ∙ ap (λ n. screen_cells old.screen n j) (omega (arith, low))
        ∙ sym (cut_cells gone old.screen i j);
    row = omega (arith, a.seen.row, low, above);
    col = a.seen.col;
  }

  blank_below : (gone rows : ℕ) → old.reached - gone ≤ rows → IsBlankFrom rows (screen_cells (without_rows gone old.screen))
  blank_below gone rows fewer i j far = cut_cells gone old.screen i j ∙ a.blank (gone + i) j (omega (arith, far, fewer))

  -- ---- a batch that was drawn on the old screen

  module _ (known : IsDrawnAfter h batch old new) where
    abbrev top : ℕ
    top = left_behind h new

    -- the first row of what is left of the old screen
    abbrev old_row : ℕ
    old_row = a.from + (top - left_behind h old)

    mono : old.reached ≤ new.reached
    mono = played_reached h batch old new known.1

    spans : IsSpanned h w a.from p new drawn
    spans = subst (λ c. IsSpanned h w a.from p new (steps_on (Some h) w (strokes_of styled c batch) p)) a.attributes
        (batch_spans h w a.from p batch old new p (start_spans h w e t p old a) known.1)

    stands : min old_row (h - (new.reached - top)) ≡ stands_at h w a.from p new drawn spans
    stands =
        let room : a.from + (old.reached - (old.reached - h)) ≤ h = a.room in
        omega (arith, room, mono)

    still_above : (r c : ℕ) → r < stands_at h w a.from p new drawn spans → p.cell (r + (old_row - stands_at h w a.from p new drawn spans)) c ≡ drawn.cell r c
    still_above r c up =
        let room : a.from + (old.reached - (old.reached - h)) ≤ h = a.room in
        ap (λ n. p.cell n c) (omega (arith, up, room, mono))
        ∙ sym (spans.above (r + seen_row h a.from new) c (omega (arith, up, room, mono)))
        ∙ sym (spans.seen.cell r c)

    pub drawn_shown : IsShownWithout (gone_rows h old new)
    drawn_shown =
        let room : a.from + (old.reached - (old.reached - h)) ≤ h = a.room in
        subst IsShownWithout (sym (drawn_gone h batch old new known))
        (redrawn_by h w top old_row a.from old new e t p p drawn some small known.0 a spans (seen_below top (omega (arith, mono)) known.2.row)
        (blank_below top (new.reached - top) (omega (arith, mono))) (omega (arith, room, mono)) stands still_above)

  -- ---- a batch that filled the terminal again

  module _ (r : IsRefilled h batch old new) (gone : goes_out_of_sight (rows_above h old) batch ≡ true) where
    -- the terminal shows rows of what is known alone
    from_first : a.from ≡ 0
    from_first =
        let room : a.from + (old.reached - (old.reached - h)) ≤ h = a.room in
        omega (arith, room, r.before)

    at_row : p.row ≡ rows_above h old
    at_row = a.seen.row ∙ ap (λ n. n + rows_above h old) from_first ∙ omega arith

    -- the cursor once it is led up
    abbrev led_to_first : Position → PictureOf StyledCell
    led_to_first y = scrolled (Some h) (step w (Move (led y) (led (Absolute 0))) p)

    leads_up : (y : Position) → IsShortMove y → goes_out_of_sight (rows_above h old) (CursorPosition (Absolute 0) y ∷ r.rest) ≡ true → (led_to_first y).row ≡ 0
    leads_up (Absolute row) near is = absurd near
    leads_up (Relative (pos n)) near is = absurd (false≢true is)
    leads_up (Relative (negsuc n)) near is = elim (cases_lt n (rows_above h old)) [
      | inl less ↦ absurd (false≢true (sym (ap not (lt-ltb n (rows_above h old) less)) ∙ is))
      | inr more ↦ up (pos p.row +ℤ negsuc n) refl more
    ]
      where
        up : (z : ℤ) → z ≡ (pos p.row +ℤ negsuc n) → rows_above h old ≤ n → (scrolled (Some h) (record p { row = elim z [ pos m ↦ m | negsuc m ↦ 0 ]; col = min (w - 1) 0 })).row ≡ 0
        up (pos m) is more = omega (arith, ints, is, more, at_row)
        up (negsuc m) is more = omega arith

    abbrev gone_then : ℕ
    gone_then = gone_rows h old new

    refilled_shown : IsShownWithout gone_then
    refilled_shown =
        let y : Position = r.moved.0 in
        let q : PictureOf StyledCell = led_to_first y in
        let first_row : q.row ≡ 0 = leads_up y r.moved.1 (subst (λ xs. goes_out_of_sight (rows_above h old) xs ≡ true) r.moved.2 gone) in
        let inside : p.row < h = a.picture.within.row in
        let color : IsColor e.attributes.background = subst (λ (c : CellAttributes). IsColor c.background) a.attributes a.fits.kept.1 in
        let f = first_of_batch h w new r.rest (sent_change (CursorPosition (Absolute 0) y) e).next q some (omega (arith, first_row, inside)) (omega arith) color r.fits.most r.empties
        (subst (λ n. IsPlayed h r.rest (first_shown n) new) a.width r.played) in
        let is : drawn ≡ steps_on (Some h) w (strokes_of styled e.attributes r.rest) q = ap (λ xs. steps_on (Some h) w (strokes_of styled e.attributes xs) p) r.moved.2 in
        let spans : IsSpanned h w f.s f.first new drawn = subst (IsSpanned h w f.s f.first new) (sym is) f.spans in
        let old_row : ℕ = a.from + (gone_then - left_behind h old) in
        let bounds = gone_within h old new r.row in
        let low : left_behind h old ≤ gone_then = bounds.0 in
        let room : a.from + (old.reached - (old.reached - h)) ≤ h = a.room in
        let most : gone_then ≤ max (left_behind h old) (left_behind h new) = bounds.2 in
        let stands : min old_row (h - (new.reached - left_behind h new)) ≡ stands_at h w f.s f.first new drawn spans = omega (arith, r.after) in
        redrawn_by h w gone_then old_row f.s old new e t p f.first drawn some small r.fits a spans (seen_below gone_then low bounds.1)
        (blank_below gone_then (new.reached - left_behind h new) (omega (arith, low, r.before, r.after))) (omega (arith, low, room, from_first)) stands
        (λ i c up. absurd (omega (arith, up, stands, r.after)))

  by_sight : (b : Bool) → goes_out_of_sight (rows_above h old) batch ≡ b → IsKnownBy b h batch old new → IsShownWithout (gone_rows h old new)
  by_sight true is known = refilled_shown known is
  by_sight false is known = drawn_shown known

pub known_is_shown : KnownIsShown
known_is_shown h w batch old new e t p small known a = by_sight h w batch old new e t p small a (goes_out_of_sight (rows_above h old) batch) refl known
