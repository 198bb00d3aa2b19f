-- A terminal that is sent what is sent for batches shows the picture on which they were drawn.
use Rattle.std.proofs.Common.{◌≡◌, ◌<◌, ◌^◌, ℕ, Bool, true, false, Option, Some, None, List, [], ◌∷◌, inl, inr, ◌⊎◌, ap, subst, ◌∙◌, sym, refl}
use Rattle.laws_screens.specs.Strokes.{PictureOf, steps_on}
use Rattle.tw_surface.specs.declared.cell.CellAttributes.{CellAttributes}
use Rattle.tw_surface.specs.declared.change.Position.{Position}
use Rattle.tw_surface.specs.declared.change.Position.TheVariants.{Absolute}
use Rattle.tw_surface.specs.ChangeView.{ChangeView, Batch}
use Rattle.tw_surface.specs.ChangeView.{Attribute, AllAttributes, Text, ClearScreen, ClearToEndOfScreen, CursorPosition}
use Rattle.tw_surface.specs.Defaults.{default_color, default_attributes}
use Rattle.laws_screens.specs.Pens.{change_strokes, strokes_of, kept_after_all}
use Rattle.laws_screens.specs.Screens.{play_sized}
use Rattle.laws_screens.specs.SizedBatches.{sized_at}
use Rattle.laws_screens.specs.StyledCells.{StyledCell, styled}
use Rattle.tw_ansi.specs.declared.encode.Encoder.{Encoder}
use Rattle.tw_ansi.specs.Encoding.{Sent, sent_change, sent_batch}
use Rattle.tw_ansi.specs.EcmaBatches.{AreSendable}
use Rattle.tw_ansi.specs.EcmaPaintings.{AreAllSendable, sent_batches}
use Rattle.tw_ansi.specs.EcmaScreen.{EcmaScreen, receive_all}
use Rattle.tw_ansi.specs.EcmaTexts.{ShowsPicture}
use Rattle.tw_ansi.proofs.EcmaSequences.{received}
use Rattle.tw_ansi.proofs.EcmaPaintings.{batches_are_shown}
use Rattle.tw_ansi.proofs.JoinedMarks.{styled_join}
use Rattle.tw_ansi.proofs.EcmaBatches.{batch_is_shown, keeps_change}
use Rattle.tw_sparing.specs.declared.shown.Shown.{Shown}
use Rattle.tw_sparing.specs.Shown.{first_shown, goes_out_of_sight, rows_above, IsKnownAfter, IsKnownBy, IsPlayed, IsBegunBy, IsShortMove, SetsAttributes, sent_for}
use Rattle.tw_sparing.specs.KnownRuns.{KnownBatch, batches_among, last_known, sent_for_all, IsShownAs, CanBeSent, AreKnown, IsAlike, LooksTheSame, RunsAreShown}
use Rattle.tw_sparing.proofs.KnownScreens.{known_is_shown}
use Rattle.tw_sparing.proofs.FirstScreens.{first_is_known}
use Rattle.tw_sparing.proofs.SendableBatches.{follows}
use Rattle.tw_sparing.proofs.LeftScreens.{picture_of, still_shown}

-- ---- the attributes

played_kept : (rows : ℕ) (xs : Batch) (a b : Shown) → IsPlayed rows xs a b → b.screen.kept ≡ kept_after_all styled a.screen.kept xs
played_kept rows [] a b is = ap (λ (k : Shown). k.screen.kept) is
played_kept rows (x ∷ xs) a b is = played_kept rows xs is.0 b is.2 ∙ ap (λ k. kept_after_all styled k xs) is.1.drawn.kept

-- a batch that sets all of them leaves the same whatever was set before
emptying_kept : (batch rest : Batch) (a b : CellAttributes) → IsBegunBy batch rest → kept_after_all styled a batch ≡ kept_after_all styled b rest
emptying_kept batch rest a b begun =
    by_start begun.1 ∙ ap (kept_after_all styled a) begun.0.3 ∙ set begun.0.0 begun.0.1 begun.0.2 ∙ ap (kept_after_all styled b) (sym begun.0.3)
  where
    by_start : ((batch ≡ rest) ⊎ ((y : Position) × IsShortMove y × (batch ≡ CursorPosition (Absolute 0) y ∷ rest))) → kept_after_all styled a batch ≡ kept_after_all styled a rest
    by_start (inl is) = ap (kept_after_all styled a) is
    by_start (inr move) = ap (kept_after_all styled a) move.2

    set : (second : ChangeView) (more : Batch) → SetsAttributes second
        → kept_after_all styled a (ClearToEndOfScreen default_color ∷ second ∷ more) ≡ kept_after_all styled b (ClearToEndOfScreen default_color ∷ second ∷ more)
    set (AllAttributes to) more is = refl
    set (Text text) more is = absurd is
    set (Attribute change) more is = absurd is
    set (ClearScreen c) more is = absurd is
    set (ClearToEndOfScreen c) more is = absurd is
    set (CursorPosition x y) more is = absurd is

module _ (h w : ℕ) where
  keeps_all : (xs : Batch) (e : Encoder) (p : PictureOf StyledCell) → AreSendable styled h w e xs p → kept_after_all styled e.attributes xs ≡ (sent_batch xs e).next.attributes
  keeps_all [] e p fits = refl
  keeps_all (x ∷ xs) e p fits =
      ap (λ a. kept_after_all styled a xs) (keeps_change styled h w x e p follows fits.0)
      ∙ keeps_all xs (sent_change x e).next (steps_on (Some h) w (change_strokes styled (styled.attributes e.attributes) x) p) fits.1

  -- ---- one batch

  -- after a batch it is shown what is known, and the encoder knows the attributes that are kept
  pub record Goes (batch : Batch) (old new : Option Shown) (e : Encoder) (t : EcmaScreen StyledCell) (p : PictureOf StyledCell) : Type 0 where
    pub shown : IsShownAs h w (sent_for h batch old new e).next (receive_all styled h w (sent_for h batch old new e).bytes t)
        (steps_on (Some h) w (strokes_of styled e.attributes batch) p) new
    pub attributes : (sent_for h batch old new e).next.attributes ≡ kept_after_all styled e.attributes batch

  whole_goes : (batch : Batch) (old : Option Shown) (e : Encoder) (t : EcmaScreen StyledCell) (p : PictureOf StyledCell) → 0 < w → w < 2 ^ 64 → sent_for h batch old None e ≡ sent_batch batch e
      → AreSendable styled h w e batch p → ShowsPicture styled h w e t p → Goes batch old None e t p
  whole_goes batch old e t p some small is fits a =
      let drawn : PictureOf StyledCell = steps_on (Some h) w (strokes_of styled e.attributes batch) p in
      record {
        shown = subst (λ (x : Sent). ShowsPicture styled h w x.next (receive_all styled h w x.bytes t) drawn) (sym is)
            (batch_is_shown styled h w batch e t p follows styled_join some small fits a);
        attributes = ap (λ (x : Sent). x.next.attributes) is ∙ sym (keeps_all batch e p fits);
      }

  pub goes : (batch : Batch) (old new : Option Shown) (e : Encoder) (t : EcmaScreen StyledCell) (p : PictureOf StyledCell) → 0 < w → w < 2 ^ 64
      → IsKnownAfter w h batch old new → CanBeSent h w e p batch old new → IsShownAs h w e t p old → Goes batch old new e t p
  goes batch None None e t p some small known fits a = whole_goes batch None e t p some small refl fits a
  goes batch (Some old) None e t p some small known fits a = whole_goes batch (Some old) e t p some small refl fits a.picture
  goes batch None (Some new) e t p some small known fits a =
      let b = first_is_known h w batch new e t p some small fits.1 known fits.0 a in
      record {
        shown = b;
        attributes = sym b.attributes ∙ played_kept h known.1.0 (first_shown w) new known.1.2 ∙ sym (emptying_kept batch known.1.0 e.attributes default_attributes known.1.1);
      }
  goes batch (Some old) (Some new) e t p some small known fits a =
      let b = known_is_shown h w batch old new e t p small known a in
      record {
        shown = b;
        attributes = sym b.attributes ∙ known_kept (goes_out_of_sight (rows_above h old) batch) old new batch known ∙ ap (λ k. kept_after_all styled k batch) a.attributes;
      }
    where
      known_kept : (b : Bool) (old new : Shown) (batch : Batch) → IsKnownBy b h batch old new → new.screen.kept ≡ kept_after_all styled old.screen.kept batch
      known_kept true old new batch known =
          played_kept h known.rest (first_shown old.screen.width) new known.played
          ∙ sym (emptying_kept batch known.rest old.screen.kept default_attributes (known.empties, inr known.moved))
      known_kept false old new batch known = played_kept h batch old new known.1

  -- ---- one after the other

  pub runs : (calls : List KnownBatch) (old : Option Shown) (e : Encoder) (t : EcmaScreen StyledCell) (p : PictureOf StyledCell) → 0 < w → w < 2 ^ 64
      → AreKnown h w e p old calls → IsShownAs h w e t p old
      → IsShownAs h w (sent_for_all h old calls e).next (receive_all styled h w (sent_for_all h old calls e).bytes t)
      (play_sized (Some h) false styled w e.attributes (sized_at w (batches_among calls)) p) (last_known old calls)
  runs [] old e t p some small known a = a
  runs (call ∷ more) old e t p some small known a =
      let sent : Sent = sent_for h call.batch old call.drawn e in
      let drawn : PictureOf StyledCell = steps_on (Some h) w (strokes_of styled e.attributes call.batch) p in
      let one = goes call.batch old call.drawn e t p some small known.0 known.1 a in
      let rest : Sent = sent_for_all h call.known more sent.next in
      let then : EcmaScreen StyledCell = receive_all styled h w sent.bytes t in
      let left = still_shown h w sent.next then drawn call.drawn call.known known.2 one.shown in
      let after = runs more call.known sent.next then drawn some small known.3 left in
      subst (λ u. IsShownAs h w rest.next u (play_sized (Some h) false styled w e.attributes (sized_at w (batches_among (call ∷ more))) p) (last_known call.known more))
      (sym (received styled h w sent.bytes rest.bytes t))
      (subst (λ a. IsShownAs h w rest.next (receive_all styled h w rest.bytes (receive_all styled h w sent.bytes t)) (play_sized (Some h) false styled w a (sized_at w (batches_among more)) drawn) (last_known call.known more))
      one.attributes after)

  -- ---- beside a terminal that is sent the batches themselves

  -- what is kept of attributes after batches
  abbrev kept_over : CellAttributes → List Batch → CellAttributes
  kept_over a [] = a
  kept_over a (batch ∷ more) = kept_over (kept_after_all styled a batch) more

  runs_keep : (calls : List KnownBatch) (old : Option Shown) (e : Encoder) (t : EcmaScreen StyledCell) (p : PictureOf StyledCell) → 0 < w → w < 2 ^ 64
      → AreKnown h w e p old calls → IsShownAs h w e t p old → (sent_for_all h old calls e).next.attributes ≡ kept_over e.attributes (batches_among calls)
  runs_keep [] old e t p some small known a = refl
  runs_keep (call ∷ more) old e t p some small known a =
      let sent : Sent = sent_for h call.batch old call.drawn e in
      let drawn : PictureOf StyledCell = steps_on (Some h) w (strokes_of styled e.attributes call.batch) p in
      let one = goes call.batch old call.drawn e t p some small known.0 known.1 a in
      let then : EcmaScreen StyledCell = receive_all styled h w sent.bytes t in
      let left = still_shown h w sent.next then drawn call.drawn call.known known.2 one.shown in
      runs_keep more call.known sent.next then drawn some small known.3 left
      ∙ ap (λ k. kept_over k (batches_among more)) one.attributes

  wholes_keep : (batches : List Batch) (f : Encoder) (p : PictureOf StyledCell) → AreAllSendable styled h w f batches p
      → (sent_batches batches f).next.attributes ≡ kept_over f.attributes batches
  wholes_keep [] f p fits = refl
  wholes_keep (batch ∷ more) f p fits =
      wholes_keep more (sent_batch batch f).next (steps_on (Some h) w (strokes_of styled f.attributes batch) p) fits.1
      ∙ ap (λ k. kept_over k more) (sym (keeps_all batch f p fits.0))

  alike : (e f : Encoder) (t u : EcmaScreen StyledCell) (p : PictureOf StyledCell) → e.attributes ≡ f.attributes → ShowsPicture styled h w e t p → ShowsPicture styled h w f u p → IsAlike h w t u
  alike e f t u p same a b = record {
    cell = λ r c low left. a.cells r c low left ∙ sym (b.cells r c low left);
    row = a.row ∙ sym b.row;
    col = a.col ∙ sym b.col;
    rendition = a.rendition ∙ same ∙ sym b.rendition;
  }

  pub look_alike : (calls : List KnownBatch) (old : Option Shown) (e f : Encoder) (t u : EcmaScreen StyledCell) (p : PictureOf StyledCell) → 0 < w → w < 2 ^ 64
      → AreKnown h w e p old calls → IsShownAs h w e t p old → AreAllSendable styled h w f (batches_among calls) p → ShowsPicture styled h w f u p → f.attributes ≡ e.attributes
      → IsAlike h w (receive_all styled h w (sent_for_all h old calls e).bytes t) (receive_all styled h w (sent_batches (batches_among calls) f).bytes u)
  look_alike calls old e f t u p some small known a fits b same =
      let mine : Sent = sent_for_all h old calls e in
      let its : Sent = sent_batches (batches_among calls) f in
      let end : PictureOf StyledCell = play_sized (Some h) false styled w e.attributes (sized_at w (batches_among calls)) p in
      alike mine.next its.next (receive_all styled h w mine.bytes t) (receive_all styled h w its.bytes u) end
      (runs_keep calls old e t p some small known a ∙ ap (λ k. kept_over k (batches_among calls)) (sym same) ∙ sym (wholes_keep (batches_among calls) f p fits))
      (picture_of h w mine.next (receive_all styled h w mine.bytes t) end (last_known old calls) (runs calls old e t p some small known a))
      (subst (λ k. ShowsPicture styled h w its.next (receive_all styled h w its.bytes u) (play_sized (Some h) false styled w k (sized_at w (batches_among calls)) p)) same
      (batches_are_shown styled h w (batches_among calls) f u p follows styled_join some small fits b))

pub runs_are_shown : RunsAreShown
runs_are_shown h w calls old e t p some small known a = runs h w calls old e t p some small known a

pub looks_the_same : LooksTheSame
looks_the_same h w calls old e f t u p some small known a fits b same = look_alike h w calls old e f t u p some small known a fits b same
