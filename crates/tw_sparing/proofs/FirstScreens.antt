-- A terminal of which nothing was known shows what is known after a batch that empties it.
use Rattle.std.proofs.Common.{◌≡◌, ◌<◌, ◌≤◌, ◌+◌, ◌-◌, ◌^◌, ◌&&◌, ◌||◌, ℕ, pos, negsuc, Bool, true, false, cond, eqb, ltb, leb, Some, None, [], ◌∷◌, inl, inr, ◌⊎◌, ap, subst, ◌∙◌, sym, refl, arith}
use Rattle.std.proofs.lemmas.Bool.{cases_lt, eq-eqb, le-leb, le-ltb, lt-ltb}
use Rattle.tw_surface.specs.declared.change.Position.{Position}
use Rattle.tw_surface.specs.declared.change.Position.TheVariants.{Absolute, Relative}
use Rattle.tw_surface.specs.ChangeView.{ChangeView, Batch}
use Rattle.tw_surface.specs.ChangeView.{Attribute, AllAttributes, Text, ClearScreen, ClearToEndOfScreen, CursorPosition}
use Rattle.tw_surface.specs.Defaults.{default_color}
use Rattle.laws_screens.specs.Strokes.{PictureOf, step, steps_on, scrolled, cleared_in}
use Rattle.laws_screens.specs.Strokes.Stroke.{Move}
use Rattle.laws_screens.proofs.SeenRows.{Sees, sees-same, sees-still}
use Rattle.laws_screens.specs.Pens.{led, strokes_of}
use Rattle.laws_screens.specs.StyledCells.{StyledCell, styled}
use Rattle.tw_ansi.specs.declared.encode.Encoder.{Encoder}
use Rattle.tw_ansi.specs.Sequences.{most_rows}
use Rattle.tw_ansi.specs.Encoding.{sent_change, sent_batch}
use Rattle.tw_ansi.specs.EcmaScreen.{EcmaScreen, receive_all}
use Rattle.tw_ansi.specs.EcmaLaws.{IsColor}
use Rattle.tw_ansi.specs.EcmaTexts.{ShowsPicture}
use Rattle.tw_ansi.specs.EcmaBatches.{IsReached, AreSendable}
use Rattle.tw_ansi.proofs.JoinedMarks.{styled_join}
use Rattle.tw_ansi.proofs.EcmaBatches.{batch_is_shown}
use Rattle.tw_sparing.specs.Differences.{blank_cell}
use Rattle.tw_sparing.specs.declared.shown.Shown.{Shown}
use Rattle.tw_sparing.specs.Shown.{first_shown, FitsTerminal, IsShortMove, IsPlayedOnce, IsPlayed, SetsAttributes, Empties, IsFromStart, LeadsToStart}
use Rattle.tw_sparing.specs.ShownTerminals.{IsShownBy, FirstIsKnown}
use Rattle.tw_sparing.proofs.SpannedPictures.{IsSpanned}
use Rattle.tw_sparing.proofs.PlayedPictures.{batch_spans}
use Rattle.tw_sparing.proofs.SendableBatches.{batch_sent, follows}
use Rattle.tw_sparing.proofs.StandingScreens.{stands_at, span_seen, span_blank}

either_blank : (b : Bool) (x : StyledCell) → x ≡ blank_cell → cond b blank_cell x ≡ blank_cell
either_blank true x e = refl
either_blank false x e = e

-- below the start of a row from which on all is blank
cleared_below : (f : ℕ → ℕ → StyledCell) (r c i j : ℕ) → c ≡ 0 → r ≤ i → cleared_in f r c blank_cell i j ≡ blank_cell
cleared_below f r c i j start low = elim (cases_lt r i) [
  | inl below ↦ ap (λ b. cond (b || (eqb r i && leb c j)) blank_cell (f i j)) (lt-ltb r i below)
  | inr above ↦
      ap (λ b. cond (b || (eqb r i && leb c j)) blank_cell (f i j)) (le-ltb r i above)
      ∙ ap (λ b. cond (b && leb c j) blank_cell (f i j)) (eq-eqb r i (omega (arith, low, above)))
      ∙ ap (λ b. cond b blank_cell (f i j)) (le-leb c j (omega (arith, start)))
]

near_reached : (h : ℕ) (y : Position) → IsShortMove y → IsReached h y
near_reached h (Absolute row) near = absurd near
near_reached h (Relative (pos n)) near = near
near_reached h (Relative (negsuc n)) near = near

module _ (h w : ℕ) (new : Shown) where
  -- the picture once it is emptied from the cursor on
  abbrev emptied : PictureOf StyledCell → PictureOf StyledCell
  emptied p = record p { cell = cleared_in p.cell p.row p.col blank_cell }

  first_spans : (p : PictureOf StyledCell) (between : Shown) → p.row < h → p.col ≡ 0 → IsPlayedOnce h (ClearToEndOfScreen default_color) (first_shown w) between
      → IsSpanned h w p.row (emptied p) between (scrolled (Some h) (emptied p))
  first_spans p between inside start is =
      let none : PictureOf StyledCell = record { cell = λ i j. blank_cell; row = 0; col = 0 } in
      let part : PictureOf StyledCell = emptied none in
      let shows = is.drawn.drawn none (record { cell = λ r c left. refl; row = refl; col = refl }) in
      let row : 0 ≡ between.screen.row = shows.row in
      let one : between.reached ≡ 1 = omega (arith, is.reached, row) in
      let blanks : (i j : ℕ) → part.cell i j ≡ blank_cell = λ i j. either_blank (ltb 0 i || (eqb 0 i && leb 0 j)) blank_cell refl in
      record {
        part = part;
        whole = emptied p;
        width = is.drawn.width;
        screen = shows;
        known = record { row = omega arith; col = start; cell = λ i j. blanks i j ∙ sym (cleared_below p.cell p.row p.col (i + p.row) j start (omega arith)) };
        seen = subst (λ n. Sees n (scrolled (Some h) (emptied p)) (emptied p)) (omega (arith, inside, one)) (sees-still (Some h) 0 (emptied p) (emptied p) inside (sees-same (emptied p)));
        inside = omega (arith, inside);
        low = omega (arith, one);
        blank = λ i j far left. blanks i j;
        bottom = λ i j far. cleared_below p.cell p.row p.col i j start (omega (arith, far, inside));
        above = λ i j up. refl;
      }

  -- what a batch leaves that empties the terminal from column 0 on
  pub record IsFirst (rest : Batch) (e : Encoder) (p : PictureOf StyledCell) : Type 0 where
    pub s : ℕ
    pub first : PictureOf StyledCell
    pub spans : IsSpanned h w s first new (steps_on (Some h) w (strokes_of styled e.attributes rest) p)
    pub sendable : AreSendable styled h w e rest p
    pub attributes : new.screen.kept ≡ (sent_batch rest e).next.attributes

  first_by : (second : ChangeView) (more : Batch) (e : Encoder) (p : PictureOf StyledCell) → 0 < w → p.row < h → p.col ≡ 0 → IsColor e.attributes.background → new.reached ≤ most_rows
      → SetsAttributes second → IsPlayed h (ClearToEndOfScreen default_color ∷ second ∷ more) (first_shown w) new → IsFirst (ClearToEndOfScreen default_color ∷ second ∷ more) e p
  first_by (Text text) more e p some inside start color most sets is = absurd sets
  first_by (Attribute change) more e p some inside start color most sets is = absurd sets
  first_by (ClearScreen c) more e p some inside start color most sets is = absurd sets
  first_by (ClearToEndOfScreen c) more e p some inside start color most sets is = absurd sets
  first_by (CursorPosition x y) more e p some inside start color most sets is = absurd sets
  first_by (AllAttributes to) more e p some inside start color most sets is =
      let between : Shown = is.0 in
      let q : PictureOf StyledCell = scrolled (Some h) (emptied p) in
      let begun : IsSpanned h w p.row (emptied p) between q = first_spans p is.0 inside start is.1 in
      let set : Shown = is.2.0 in
      let set_spans : IsSpanned h w p.row (emptied p) is.2.0 q = batch_spans h w p.row (emptied p) (AllAttributes to ∷ []) is.0 is.2.0 q begun (is.2.0, is.2.1, refl) in
      let known : Encoder = (sent_change (AllAttributes to) (sent_change (ClearToEndOfScreen default_color) e).next).next in
      let rest = batch_sent h w p.row (emptied p) more is.2.0 new q known set_spans is.2.2 most is.2.1.drawn.kept is.2.1.playable in
      record {
        s = p.row;
        first = emptied p;
        spans = batch_spans h w p.row (emptied p) (AllAttributes to ∷ more) is.0 new q begun is.2;
        sendable = ((tt, color, refl, λ edge. absurd (omega (arith, edge, start, some))), (is.2.1.playable, rest.sendable));
        attributes = rest.attributes;
      }

  pub first_of_batch : (rest : Batch) (e : Encoder) (p : PictureOf StyledCell) → 0 < w → p.row < h → p.col ≡ 0 → IsColor e.attributes.background → new.reached ≤ most_rows
      → Empties rest → IsPlayed h rest (first_shown w) new → IsFirst rest e p
  first_of_batch rest e p some inside start color most empties is =
      subst (λ xs. IsFirst xs e p) (sym empties.3)
      (first_by empties.0 empties.1 e p some inside start color most empties.2 (subst (λ xs. IsPlayed h xs (first_shown w) new) empties.3 is))

  pub first_shown_by : (s : ℕ) (first : PictureOf StyledCell) (batch : Batch) (e : Encoder) (t : EcmaScreen StyledCell) (p : PictureOf StyledCell) → 0 < w → w < 2 ^ 64 → FitsTerminal h new
      → IsSpanned h w s first new (steps_on (Some h) w (strokes_of styled e.attributes batch) p) → AreSendable styled h w e batch p
      → new.screen.kept ≡ (sent_batch batch e).next.attributes → ShowsPicture styled h w e t p
      → IsShownBy h w (sent_batch batch e).next (receive_all styled h w (sent_batch batch e).bytes t) (steps_on (Some h) w (strokes_of styled e.attributes batch) p) new
  first_shown_by s first batch e t p some small fits spans sendable kept a =
      let drawn : PictureOf StyledCell = steps_on (Some h) w (strokes_of styled e.attributes batch) p in
      let above : new.reached - h ≤ new.screen.row = fits.row in
      record {
        picture = batch_is_shown styled h w batch e t p follows styled_join some small sendable a;
        fits = fits;
        width = spans.width;
        from = stands_at h w s first new drawn spans;
        room = omega arith;
        seen = span_seen h w s first new drawn spans fits;
        blank = span_blank h w s first new drawn spans some;
        attributes = kept;
      }

pub first_is_known : FirstIsKnown
first_is_known h w batch new e t p some small color known start a = by_start known.1.1.1 start
  where
    rest : Batch
    rest = known.1.0

    goal : Batch → Type 0
    goal xs = IsShownBy h w (sent_batch xs e).next (receive_all styled h w (sent_batch xs e).bytes t) (steps_on (Some h) w (strokes_of styled e.attributes xs) p) new

    here : p.col ≡ 0 → goal known.1.0
    here col =
        let f = first_of_batch h w new known.1.0 e p some a.within.row col color known.0.most known.1.1.0 known.1.2 in
        first_shown_by h w new f.s f.first known.1.0 e t p some small known.0 f.spans f.sendable f.attributes a

    behind : (y : Position) → IsShortMove y → goal (CursorPosition (Absolute 0) y ∷ known.1.0)
    behind y near =
        let q : PictureOf StyledCell = scrolled (Some h) (step w (Move (led y) (led (Absolute 0))) p) in
        let inside : p.row < h = a.within.row in
        let f = first_of_batch h w new known.1.0 (sent_change (CursorPosition (Absolute 0) y) e).next q some (omega (arith, inside)) (omega arith) color known.0.most known.1.1.0 known.1.2 in
        first_shown_by h w new f.s f.first (CursorPosition (Absolute 0) y ∷ known.1.0) e t p some small known.0 f.spans (near_reached h y near, f.sendable) f.attributes a

    by_start : ((batch ≡ known.1.0) ⊎ ((y : Position) × IsShortMove y × (batch ≡ CursorPosition (Absolute 0) y ∷ known.1.0))) → IsFromStart e.x batch None (Some new) → goal batch
    by_start (inl is) (inl x) = subst (λ xs. goal xs) (sym is) (here (sym a.x ∙ x))
    by_start (inl is) (inr move) = absurd (clash known.1.1.0 is move)
      where
        clash : Empties known.1.0 → batch ≡ known.1.0 → LeadsToStart batch → ⊥
        clash empties is move = other (sym move.1.2 ∙ is ∙ empties.3)
          where
            other : CursorPosition (Absolute 0) move.1.0 ∷ move.0 ≡ ClearToEndOfScreen default_color ∷ empties.0 ∷ empties.1 → ⊥
            other e = cc
    by_start (inr move) other = subst (λ xs. goal xs) (sym move.2) (behind move.0 move.1)
