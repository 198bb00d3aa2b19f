-- A terminal that is sent the difference of two screens shows the new one.
use Rattle.std.proofs.Common.{◌≡◌, ◌<◌, ◌≤◌, ◌+◌, ◌-◌, ◌/◌, ◌%◌, ◌^◌, ℕ, Bool, true, false, not, max, ◌&&◌, eqb, cond, ltb, min, Some, None, [], ◌∷◌, ◌++◌, ap, subst, ◌∙◌, sym, refl, inl, inr, arith}
use Rattle.std.proofs.Math.Nat.{mod-lt, div-lt_iff_lt-mul}
use Rattle.std.proofs.lemmas.Bool.{cases_lt, lt-ltb, le-ltb, ltb-true}
use Rattle.tw_surface.specs.declared.cell.CellAttributes.{CellAttributes}
use Rattle.tw_surface.specs.ChangeView.{Batch}
use Rattle.tw_surface.specs.ChangeView.{AllAttributes}
use Rattle.tw_surface.specs.contracts.cell.CellAttributesPartialEq.TheImpl.{ghosts as attributes}
use Rattle.tw_surface.proofs.EqualityLemmas.{attributes_equal}
use Rattle.tw_ansi.proofs.JoinedMarks.{styled_join}
use Rattle.laws_screens.specs.Strokes.{PictureOf, steps_on}
use Rattle.laws_screens.specs.Pens.{change_strokes, strokes_of, kept_after_all}
use Rattle.laws_screens.specs.StyledCells.{StyledCell, styled}
use Rattle.tw_ansi.specs.declared.encode.Encoder.{Encoder}
use Rattle.tw_ansi.specs.Sequences.{most_rows}
use Rattle.tw_ansi.specs.Encoding.{sent_change, terse_batch}
use Rattle.tw_ansi.specs.EcmaScreen.{EcmaScreen, receive_all}
use Rattle.tw_ansi.specs.EcmaLaws.{IsColor}
use Rattle.tw_ansi.specs.EcmaTexts.{ShowsPicture}
use Rattle.tw_ansi.specs.EcmaBatches.{CarriesAttributes, AreSendable, AllStayInRows}
use Rattle.tw_ansi.proofs.EcmaSequences.{received}
use Rattle.tw_ansi.proofs.EcmaBatches.{keeps_change, terse_next, terse_batch_is_shown}
use Rattle.tw_sparing.specs.Differences.{end_of}
use Rattle.tw_sparing.specs.declared.hand.Hand.{Hand}
use Rattle.tw_sparing.specs.Redrawings.{Redrawing, at_ease, redraw_then, led_to, emptied_here, emptied, rest_of, rest_emptied, left_of, lowered, rows_redrawn, sunk_to, handed_to, rows_drawn_on, hand_index, indexed, cells_redrawn, goes_onward, gone_onward, redrawn}
use Rattle.tw_sparing.specs.Sending.{AreSingle}
use Rattle.tw_sparing.specs.ChangedScreens.{IsInk, IsInked, IsHandWithin, IsBlankFrom, IsSeenFrom, turned_to, ChangedIsShown}
use Rattle.tw_sparing.proofs.DrawnRows.{Holds, redrawn_on, redrawn_both, gone}
use Rattle.tw_sparing.proofs.DrawnScreens.{rows_drawn}
use Rattle.tw_sparing.proofs.DrawnEnds.{end_within, rest, rises}
use Rattle.tw_sparing.proofs.DrawnChangedScreens.{Becomes, becomes, handed}
use Rattle.tw_sparing.proofs.OnwardScreens.{GoesOn, going_on, typed_place, typing_goes, handing, becomes_onward}
use Rattle.tw_sparing.proofs.SentBatches.{both_next, both_bytes}
use Rattle.tw_sparing.proofs.SentChanges.{all_sendable, sent_move, sent_rows, sent_handed, sent_lowered, sent_cells}

-- at the end the attributes of the new hand are selected
handed_attributes : (reached : ℕ) (to hand : Hand) → (handed_to reached to hand).hand.attributes ≡ to.attributes
handed_attributes reached to hand = by_same (sunk_to reached to.row to.col hand).hand (attributes.eq (sunk_to reached to.row to.col hand).hand.attributes to.attributes) refl
  where
    by_same : (there : Hand) (b : Bool) → attributes.eq there.attributes to.attributes ≡ b
        → (cond b (at_ease there) (record { changes = AllAttributes to.attributes ∷ []; hand = record there { attributes = to.attributes } })).hand.attributes ≡ to.attributes
    by_same there true is = (attributes_equal there.attributes to.attributes).0 is
    by_same there false is = refl

follows : CarriesAttributes styled
follows change a = refl

module _ (h w : ℕ) where
  -- the attributes that are kept are those that the encoder then knows
  keeps_all : (xs : Batch) (e : Encoder) (p : PictureOf StyledCell) → AreSendable styled h w e xs p → kept_after_all styled e.attributes xs ≡ (terse_batch xs e).next.attributes
  keeps_all [] e p fits = refl
  keeps_all (x ∷ xs) e p fits =
      ap (λ a. kept_after_all styled a xs) (keeps_change styled h w x e p follows fits.0)
      ∙ keeps_all xs (sent_change x e).next (steps_on (Some h) w (change_strokes styled (styled.attributes e.attributes) x) p) fits.1
      ∙ ap (λ n. (terse_batch xs n).next.attributes) (sym (terse_next styled x e))

  -- the terminal is sent the changes of a redrawing, and shows what they leave of the picture
  pub record Sends (hand : Hand) (d : Redrawing) (e : Encoder) (t : EcmaScreen StyledCell) (p : PictureOf StyledCell) : Type 0 where
    pub shown : ShowsPicture styled h w (terse_batch d.changes e).next (receive_all styled h w (terse_batch d.changes e).bytes t) (redrawn_on h w hand d p)
    pub attributes : d.hand.attributes ≡ (terse_batch d.changes e).next.attributes

  sends : (hand : Hand) (d : Redrawing) (e : Encoder) (t : EcmaScreen StyledCell) (p : PictureOf StyledCell) → 0 < w → w < 2 ^ 64
      → AreSendable styled h w e d.changes p → AllStayInRows styled h w hand.attributes d.changes p → hand.attributes ≡ e.attributes
      → kept_after_all styled hand.attributes d.changes ≡ d.hand.attributes → ShowsPicture styled h w e t p → Sends hand d e t p
  sends hand d e t p some small fits stays same kept a = record {
    shown = subst (λ (c : CellAttributes). ShowsPicture styled h w (terse_batch d.changes e).next (receive_all styled h w (terse_batch d.changes e).bytes t) (steps_on (Some h) w (strokes_of styled c d.changes) p)) (sym same)
        (terse_batch_is_shown styled h w d.changes e t p follows styled_join some small fits (subst (λ (c : CellAttributes). AllStayInRows styled h w c d.changes p) same stays) a);
    attributes = sym kept ∙ ap (λ c. kept_after_all styled c d.changes) same ∙ keeps_all d.changes e p fits;
  }

  sends_both : (hand : Hand) (d : Redrawing) (more : Hand → Redrawing) (e : Encoder) (t : EcmaScreen StyledCell) (p : PictureOf StyledCell)
      → kept_after_all styled hand.attributes d.changes ≡ d.hand.attributes
      → Sends d.hand (more d.hand) (terse_batch d.changes e).next (receive_all styled h w (terse_batch d.changes e).bytes t) (redrawn_on h w hand d p)
      → Sends hand (redraw_then d more) e t p
  sends_both hand d more e t p kept b =
      let xs : Batch = d.changes in
      let ys : Batch = (more d.hand).changes in
      let mid : Encoder = (terse_batch xs e).next in
      record {
        shown = subst (λ q. ShowsPicture styled h w (terse_batch (xs ++ ys) e).next (receive_all styled h w (terse_batch (xs ++ ys) e).bytes t) q) (sym (redrawn_both h w hand d more p kept))
            (subst (λ bytes. ShowsPicture styled h w (terse_batch (xs ++ ys) e).next (receive_all styled h w bytes t) (redrawn_on h w d.hand (more d.hand) (redrawn_on h w hand d p))) (sym (both_bytes xs ys e))
            (subst (λ u. ShowsPicture styled h w (terse_batch (xs ++ ys) e).next u (redrawn_on h w d.hand (more d.hand) (redrawn_on h w hand d p))) (sym (received styled h w (terse_batch xs e).bytes (terse_batch ys mid).bytes t))
            (subst (λ n. ShowsPicture styled h w n (receive_all styled h w (terse_batch ys mid).bytes (receive_all styled h w (terse_batch xs e).bytes t)) (redrawn_on h w d.hand (more d.hand) (redrawn_on h w hand d p))) (sym (both_next xs ys e)) b.shown)));
        attributes = b.attributes ∙ ap (λ (n : Encoder). n.attributes) (sym (both_next xs ys e));
      }

  emptied_sends : (s from : ℕ) (hand : Hand) (e : Encoder) (t : EcmaScreen StyledCell) (p : PictureOf StyledCell) → 0 < w → w < 2 ^ 64 → s + from / w < h → h ≤ most_rows
      → hand.row ≤ most_rows → Holds s hand p → hand.attributes ≡ e.attributes → IsColor e.attributes.background → ShowsPicture styled h w e t p → Sends hand (emptied w from hand) e t p
  emptied_sends s from hand e t p some small low most held holds same color a =
      let move : Redrawing = led_to (from / w) (from % w) hand in
      let left : from % w < w = mod-lt from some in
      let g = gone h w s (from / w) (from % w) hand p low left holds in
      let q : PictureOf StyledCell = redrawn_on h w hand move p in
      let there = sent_move (from / w) (from % w) hand (omega (arith, low, most)) held in
      let m = sends hand move e t p some small (all_sendable h w move.changes e p some there.easy) g.leads.stays same g.leads.kept a in
      let known : Encoder = (terse_batch move.changes e).next in
      let colors : (terse_batch move.changes e).next.attributes ≡ e.attributes = sym m.attributes ∙ g.attributes ∙ same in
      let by_bytes : IsColor (terse_batch move.changes e).next.attributes.background = subst (λ (c : CellAttributes). IsColor c.background) (sym colors) color in
      let at_col : q.col ≡ from % w = g.leads.holds.col ∙ g.col in
      let more : Hand → Redrawing = emptied_here in
      sends_both hand move more e t p g.leads.kept
      (sends move.hand (more move.hand) (terse_batch move.changes e).next (receive_all styled h w (terse_batch move.changes e).bytes t) q some small
      ((tt, by_bytes, refl, λ edge. absurd (omega (arith, edge, at_col, left))), tt) (tt, tt) m.attributes refl m.shown)

  module _ (s rows : ℕ) (old new : ℕ → ℕ → StyledCell) (hand : Hand) (e : Encoder) (t : EcmaScreen StyledCell) (p : PictureOf StyledCell) (some : 0 < w) (small : w < 2 ^ 64) (low : s + rows ≤ h) (most : h ≤ most_rows)
      (held : hand.row ≤ most_rows) (holds : Holds s hand p) (same : hand.attributes ≡ e.attributes) (color : IsColor e.attributes.background) (a : ShowsPicture styled h w e t p) where
    rest_sends_by : (b : Bool) → ltb (end_of w rows new) (end_of w rows old) ≡ b → Sends hand (rest_emptied w (cond b (Some (end_of w rows new)) None) hand) e t p
    rest_sends_by true is =
        let less : end_of w rows new < end_of w rows old = ltb-true _ _ is in
        let within = end_within w rows old in
        let line : end_of w rows new / w < rows = (div-lt_iff_lt-mul some).1 (omega (arith, less, within)) in
        emptied_sends s (end_of w rows new) hand e t p some small (omega (arith, line, low)) most held holds same color a
    rest_sends_by false is = sends hand (at_ease hand) e t p some small tt tt same refl a

    rest_sends : Sends hand (rest_emptied w (rest_of w rows old new) hand) e t p
    rest_sends = rest_sends_by (ltb (end_of w rows new) (end_of w rows old)) refl

  -- ---- all of it

  module _ (s reached rows : ℕ) (old new : ℕ → ℕ → StyledCell) (hand to : Hand) (e : Encoder) (t : EcmaScreen StyledCell) (p : PictureOf StyledCell)
      (some : 0 < w) (small : w < 2 ^ 64) (most : h ≤ most_rows) (room : rows ≤ h) (low : s + reached ≤ h)
      (inked : IsInked w rows new) (reach : IsHandWithin w rows to) (seen : IsSeenFrom w s old hand p)
      (same : hand.attributes ≡ e.attributes) (color : IsColor e.attributes.background) (a : ShowsPicture styled h w e t p) where
    changed_sends : Sends hand (rows_drawn_on w reached rows old new to hand) e t p
    changed_sends =
        let holds : Holds s hand p = record { row = seen.row; col = seen.col } in
        let inside : p.row < h = a.within.row in
        let held : hand.row ≤ most_rows = omega (arith, seen.row, inside, most) in
        let last : Hand → Redrawing = handed_to (max reached rows) to in
        let third : Hand → Redrawing = λ rest. redraw_then (rows_redrawn w (left_of w (rest_of w rows old new) old) new 0 rows rest) last in
        let second : Hand → Redrawing = λ low. redraw_then (rest_emptied w (rest_of w rows old new) low) third in
        let d1 : Redrawing = lowered reached rows hand in
        let p1 : PictureOf StyledCell = redrawn_on h w hand d1 p in
        let a1 = rises h w s reached rows old hand p some room low inside seen.cell holds in
        let i1 = sent_lowered reached rows hand (omega (arith, room, most)) held in
        let s1 = sends hand d1 e t p some small (all_sendable h w d1.changes e p some i1.easy) a1.leads.stays same a1.leads.kept a in
        let e1 : Encoder = (terse_batch d1.changes e).next in
        let t1 : EcmaScreen StyledCell = receive_all styled h w (terse_batch d1.changes e).bytes t in
        let up : s - (s + rows - h) + rows ≤ h = omega (arith, room) in
        let color1 : IsColor (terse_batch d1.changes e).next.attributes.background =
        subst (λ (c : CellAttributes). IsColor c.background) (sym (sym s1.attributes ∙ a1.attributes ∙ same)) color in
        let d2 : Redrawing = rest_emptied w (rest_of w rows old new) d1.hand in
        let p2 : PictureOf StyledCell = redrawn_on h w d1.hand d2 p1 in
        let a2 = rest h w (s - (s + rows - h)) rows old new d1.hand p1 some up a1.shown a1.leads.holds in
        let s2 = rest_sends (s - (s + rows - h)) rows old new d1.hand e1 t1 p1 some small up most i1.low a1.leads.holds s1.attributes color1 s1.shown in
        let e2 : Encoder = (terse_batch d2.changes e1).next in
        let t2 : EcmaScreen StyledCell = receive_all styled h w (terse_batch d2.changes e1).bytes t1 in
        let held2 : d2.hand.row ≤ most_rows = omega (arith, a2.leads.holds.row, s2.shown.within.row, most) in
        let ink : (i j : ℕ) → 0 ≤ i → i < 0 + rows → j < w → IsInk (new i j) = λ i j from less left. inked.ink i j (omega (arith, less)) left in
        let d3 : Redrawing = rows_redrawn w (left_of w (rest_of w rows old new) old) new 0 rows d2.hand in
        let p3 : PictureOf StyledCell = redrawn_on h w d2.hand d3 p2 in
        let a3 = rows_drawn h w (s - (s + rows - h)) 0 rows (left_of w (rest_of w rows old new) old) new d2.hand p2 (omega (arith, up))
        (λ i from less j left. (ink i j from less left).0) (λ i j from less left. a2.shown i j left) a2.leads.holds in
        let i3 = sent_rows w 0 rows (left_of w (rest_of w rows old new) old) new d2.hand ink (omega (arith, room, most)) held2 in
        let s3 = sends d2.hand d3 e2 t2 p2 some small (all_sendable h w d3.changes e2 p2 some i3.easy) a3.leads.stays s2.attributes a3.leads.kept s2.shown in
        let e3 : Encoder = (terse_batch d3.changes e2).next in
        let t3 : EcmaScreen StyledCell = receive_all styled h w (terse_batch d3.changes e2).bytes t2 in
        let d4 : Redrawing = handed_to (max reached rows) to d3.hand in
        let a4 = handed h w (s - (s + rows - h)) (max reached rows) to d3.hand p3 (omega (arith, low, room)) (omega (arith, reach.row, room)) reach.col s3.shown.within.row a3.leads.holds in
        let i4 = sent_handed (max reached rows) to d3.hand reach.colors (omega (arith, reach.row, room, most)) i3.low in
        let s4 = sends d3.hand d4 e3 t3 p3 some small (all_sendable h w d4.changes e3 p3 some i4.easy) a4.leads.stays s3.attributes a4.leads.kept s3.shown in
        sends_both hand d1 second e t p a1.leads.kept
        (sends_both d1.hand d2 third e1 t1 p1 a2.leads.kept
        (sends_both d2.hand d3 last e2 t2 p2 a3.leads.kept s4))

  -- ---- what goes on at the cursor

  module _ (s reached rows : ℕ) (old new : ℕ → ℕ → StyledCell) (hand to : Hand) (e : Encoder) (t : EcmaScreen StyledCell) (p : PictureOf StyledCell)
      (some : 0 < w) (small : w < 2 ^ 64) (most : h ≤ most_rows) (room : rows ≤ h) (low : s + reached ≤ h) (blank : IsBlankFrom rows old)
      (inked : IsInked w rows new) (reach : IsHandWithin w rows to) (seen : IsSeenFrom w s old hand p)
      (same : hand.attributes ≡ e.attributes) (a : ShowsPicture styled h w e t p) (goes : GoesOn w reached rows old new to hand) where
    holding : Holds s hand p
    holding = record { row = seen.row; col = seen.col }

    edged : hand.col ≤ w
    edged = omega (arith, a.edge, seen.col)

    ink_there : (i : ℕ) → i < rows → AreSingle w (new i)
    ink_there i less j left = (inked.ink i j less left).0

    pub onward_becomes : Becomes h w s (s - (s + rows - h)) new to hand (gone_onward w reached rows new to hand) p
    onward_becomes = becomes_onward h w s reached rows old new to hand p some room low a.within.row edged reach.row reach.col blank inked.blank ink_there seen.cell holding goes

    pub onward_sends : Sends hand (gone_onward w reached rows new to hand) e t p
    onward_sends =
        let k : ℕ = hand_index w hand in
        let n : ℕ = end_of w rows new - k in
        let d : Redrawing = cells_redrawn w new (hand_index w hand) (end_of w rows new - hand_index w hand) hand in
        let g = typing_goes h w s reached rows old new to hand p some room low a.within.row edged reach.row reach.col blank inked.blank ink_there seen.cell holding goes in
        let ink : (m : ℕ) → k ≤ m → m < k + n → IsInk (indexed w new m) × (m / w ≤ most_rows) =
        λ m from less.
        let place = typed_place h w s reached rows old new to hand p some room low a.within.row edged reach.row reach.col blank inked.blank ink_there seen.cell holding goes m from less in
        (inked.ink (m / w) (m % w) place.0 place.1, let row = place.0 in omega (arith, row, room, most)) in
        let i1 = sent_cells w k n new hand ink (omega (arith, seen.row, a.within.row, most)) in
        let s1 = sends hand d e t p some small (all_sendable h w d.changes e p some i1.easy) g.leads.stays same g.leads.kept a in
        let last : Redrawing = handed_to reached to d.hand in
        let b = handing h w s reached rows old new to hand p some room low a.within.row edged reach.row reach.col blank inked.blank ink_there seen.cell holding goes in
        let easy = (sent_handed reached to d.hand reach.colors (omega (arith, reach.row, room, most)) i1.low).easy in
        sends_both hand d (handed_to reached to) e t p g.leads.kept
        (sends d.hand last (terse_batch d.changes e).next (receive_all styled h w (terse_batch d.changes e).bytes t) (redrawn_on h w hand d p) some small
        (all_sendable h w last.changes (terse_batch d.changes e).next (redrawn_on h w hand d p) some easy) b.leads.stays s1.attributes b.leads.kept s1.shown)

  -- ---- the picture is what it was made into

  module _ (s rows : ℕ) (new : ℕ → ℕ → StyledCell) (hand to : Hand) (d : Redrawing) (e : Encoder) (t : EcmaScreen StyledCell) (p : PictureOf StyledCell)
      (room : rows ≤ h) (inked : IsInked w rows new) (reach : IsHandWithin w rows to)
      (b : Becomes h w s (s - (s + rows - h)) new to hand d p) (x : Sends hand d e t p) where
    becomes_shown : ShowsPicture styled h w (terse_batch d.changes e).next (receive_all styled h w (terse_batch d.changes e).bytes t) (turned_to s (s - (s + rows - h)) new to p)
    becomes_shown =
        let f : ℕ = s - (s + rows - h) in
        let q : PictureOf StyledCell = redrawn_on h w hand d p in
        let goal : PictureOf StyledCell = turned_to s (s - (s + rows - h)) new to p in
        let same_cell : (i j : ℕ) → i < h → j < w → q.cell i j ≡ goal.cell i j =
        λ i j inside left. elim (cases_lt i (s - (s + rows - h))) [
          | inl up ↦ b.above i j up ∙ sym (ap (λ c. cond c (p.cell (i + (s - f)) j) (new (i - f) j)) (lt-ltb i f up))
          | inr under ↦
              ap (λ n. q.cell n j) (omega (arith, under)) ∙ b.shown (i - f) j left
              ∙ sym (ap (λ c. cond c (p.cell (i + (s - f)) j) (new (i - f) j)) (le-ltb i f under))
        ] in
        record {
          within = record {
            row = omega (arith, reach.row, room);
            below = λ r c far. ap (λ x. cond x (p.cell (r + (s - f)) c) (new (r - f) c)) (le-ltb r f (omega (arith, far, room))) ∙ inked.blank (r - f) c (omega (arith, far, room));
          };
          edge = omega (arith, reach.col);
          cells = λ r c inside left. x.shown.cells r c inside left ∙ same_cell r c inside left;
          row = x.shown.row ∙ b.row;
          col = x.shown.col ∙ ap (λ n. min n (w - 1)) b.col;
          waits = x.shown.waits ∙ ap (λ n. eqb n w && not (terse_batch d.changes e).next.parted) b.col;
          parted = λ is. sym b.col ∙ x.shown.parted is;
          reading = x.shown.reading;
          rendition = x.shown.rendition;
          cols = x.shown.cols;
          x = x.shown.x ∙ b.col;
        }

-- a redrawing that leaves the attributes of the new hand, and what is shown once it is sent
module _ (h w s reached rows : ℕ) (old new : ℕ → ℕ → StyledCell) (hand to : Hand) (e : Encoder) (t : EcmaScreen StyledCell) (p : PictureOf StyledCell)
    (some : 0 < w) (small : w < 2 ^ 64) (most : h ≤ most_rows) (room : rows ≤ h) (low : s + reached ≤ h)
    (blank : IsBlankFrom rows old) (inked : IsInked w rows new) (reach : IsHandWithin w rows to) (seen : IsSeenFrom w s old hand p)
    (same : hand.attributes ≡ e.attributes) (color : IsColor e.attributes.background) (a : ShowsPicture styled h w e t p) where
  abbrev IsShownBy : Redrawing → Type 0
  IsShownBy d =
      ShowsPicture styled h w (terse_batch d.changes e).next (receive_all styled h w (terse_batch d.changes e).bytes t) (turned_to s (s - (s + rows - h)) new to p)
      × ((terse_batch d.changes e).next.attributes ≡ to.attributes)

  way_is_shown : (b : Bool) → goes_onward w reached rows old new to hand ≡ b
      → IsShownBy (cond b (gone_onward w reached rows new to hand) (rows_drawn_on w reached rows old new to hand))
  way_is_shown true is =
      let goes = going_on w reached rows old new to hand is in
      let x = onward_sends h w s reached rows old new hand to e t p some small most room low blank inked reach seen same a goes in
      let b = onward_becomes h w s reached rows old new hand to e t p some small most room low blank inked reach seen same a goes in
      (becomes_shown h w s rows new hand to (gone_onward w reached rows new to hand) e t p room inked reach b x, sym x.attributes ∙ handed_attributes _ to _)
  way_is_shown false is =
      let x = changed_sends h w s reached rows old new hand to e t p some small most room low inked reach seen same color a in
      let b = becomes h w s reached rows old new to hand p some room low a.within.row reach.row reach.col blank inked.blank
      (λ i less j left. (inked.ink i j less left).0) seen.cell (record { row = seen.row; col = seen.col }) in
      (becomes_shown h w s rows new hand to (rows_drawn_on w reached rows old new to hand) e t p room inked reach b x, sym x.attributes ∙ handed_attributes _ to _)

pub changed_is_shown : ChangedIsShown
changed_is_shown h w s reached rows old new hand to e t p some small most room low blank inked reach seen same color a =
    let d : Redrawing = redrawn w reached rows old new to hand in
    let both = way_is_shown h w s reached rows old new hand to e t p some small most room low blank inked reach seen same color a (goes_onward w reached rows old new to hand) refl in
    let first_row : s - (s + rows - h) ≡ min s (h - rows) = omega (arith, room) in
    (subst (λ n. ShowsPicture styled h w (terse_batch d.changes e).next (receive_all styled h w (terse_batch d.changes e).bytes t) (turned_to s n new to p)) first_row both.0, both.1)
