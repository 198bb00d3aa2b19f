-- The changes of a batch that is played can be sent as they are.
use Rattle.std.proofs.Common.{◌≡◌, ◌<◌, ◌≤◌, ◌+◌, ◌-◌, ℕ, pos, negsuc, Some, true, [], ◌∷◌, ap, subst, ◌∙◌, sym, refl, arith}
use Rattle.tw_surface.specs.declared.cell.AttributeChange.{AttributeChange}
use Rattle.tw_surface.specs.declared.cell.AttributeChange.TheVariants.{Intensity, Underline, Italic, Blink, Reverse, StrikeThrough, Invisible, Foreground, Background}
use Rattle.tw_surface.specs.declared.cell.CellAttributes.{CellAttributes}
use Rattle.tw_surface.specs.declared.change.Position.{Position}
use Rattle.tw_surface.specs.declared.change.Position.TheVariants.{Absolute, Relative}
use Rattle.tw_surface.specs.Attributes.{with_attribute}
use Rattle.tw_surface.specs.ChangeView.{ChangeView, Batch}
use Rattle.tw_surface.specs.ChangeView.{Attribute, AllAttributes, Text, ClearScreen, ClearToEndOfScreen, CursorPosition}
use Rattle.laws_screens.specs.Strokes.{PictureOf, steps_on}
use Rattle.laws_screens.specs.Pens.{change_strokes, kept_after}
use Rattle.laws_screens.specs.StyledCells.{StyledCell, styled}
use Rattle.tw_ansi.specs.declared.encode.Encoder.{Encoder}
use Rattle.tw_ansi.specs.Sequences.{most_rows}
use Rattle.tw_ansi.specs.Encoding.{sent_change, sent_batch}
use Rattle.tw_ansi.specs.EcmaLaws.{IsColor, IsAttribute}
use Rattle.tw_ansi.specs.EcmaBatches.{CarriesAttributes, IsReached, IsSendable, AreSendable}
use Rattle.tw_ansi.specs.EcmaTexts.{is_sent}
use Rattle.tw_ansi.proofs.EcmaBatches.{keeps_change}
use Rattle.tw_sparing.specs.ChangedScreens.{AreByBytes}
use Rattle.tw_sparing.specs.declared.shown.Shown.{Shown}
use Rattle.tw_sparing.specs.Shown.{left_behind, IsInSight, IsPlayable, IsPlayedOnce, IsPlayed}
use Rattle.tw_sparing.proofs.PlayedBatches.{played_reached}
use Rattle.tw_sparing.proofs.SpannedPictures.{IsSpanned}
use Rattle.tw_sparing.proofs.PlayedPictures.{change_spans}

pub follows : CarriesAttributes styled
follows change a = refl

-- attributes by bytes stay so
one_by_bytes : (change : AttributeChange) (a : CellAttributes) → IsAttribute change → AreByBytes a → AreByBytes (with_attribute change a)
one_by_bytes (Intensity to) a is all = all
one_by_bytes (Underline to) a is all = all
one_by_bytes (Italic to) a is all = all
one_by_bytes (Blink to) a is all = all
one_by_bytes (Reverse to) a is all = all
one_by_bytes (StrikeThrough to) a is all = all
one_by_bytes (Invisible to) a is all = all
one_by_bytes (Foreground to) a is all = (is, all.1)
one_by_bytes (Background to) a is all = (all.0, is)

kept_by_bytes : (h : ℕ) (shown : Shown) (x : ChangeView) (a : CellAttributes) → IsPlayable h shown x → AreByBytes a → AreByBytes (kept_after styled a x)
kept_by_bytes h shown (Text text) a is all = all
kept_by_bytes h shown (Attribute change) a is all = one_by_bytes change a is all
kept_by_bytes h shown (AllAttributes to) a is all = is
kept_by_bytes h shown (ClearScreen color) a is all = absurd is
kept_by_bytes h shown (ClearToEndOfScreen color) a is all = all
kept_by_bytes h shown (CursorPosition x y) a is all = all

module _ (h w s : ℕ) (first : PictureOf StyledCell) where
  module _ (old new : Shown) (p : PictureOf StyledCell) (a : IsSpanned h w s first old p) (most : new.reached ≤ most_rows) (e : Encoder) (color : IsColor e.attributes.background) where
    move_sendable : (x y : Position) → IsInSight (old.screen.row - left_behind h old) y → IsPlayedOnce h (CursorPosition x y) old new → IsReached h y
    move_sendable x (Absolute row) sight is = absurd sight
    move_sendable x (Relative (pos k)) sight is =
        let shows = is.drawn.drawn a.part a.screen in
        let row : a.part.row + k ≡ new.screen.row = shows.row in
        omega (arith, row, is.reached, most)
    move_sendable x (Relative (negsuc k)) sight is =
        let row : a.part.row ≡ old.screen.row = a.screen.row in
        let low : a.part.row < old.reached = a.low in
        omega (arith, sight, row, low, is.reached, most)

    pub change_sendable : (x : ChangeView) → IsPlayedOnce h x old new → IsSendable styled h w e x p
    change_sendable (Text text) is = subst (λ n. is_sent n text ≡ true) a.width is.playable
    change_sendable (Attribute change) is = is.playable
    change_sendable (AllAttributes to) is = is.playable
    change_sendable (ClearScreen c) is = absurd is.playable
    change_sendable (ClearToEndOfScreen c) is =
        let col : p.col ≡ old.screen.col = sym a.seen.col ∙ a.known.col ∙ a.screen.col in
        let inside : old.screen.col < w = subst (λ n. old.screen.col < n) a.width is.playable.1 in
        (subst (λ k. IsColor k) (sym is.playable.0) tt, color, ap styled.paper is.playable.0, λ edge. absurd (omega (arith, edge, col, inside)))
    change_sendable (CursorPosition x y) is = move_sendable x y is.playable is

  -- they can be sent, and what is kept of attributes is what the encoder then knows
  pub record IsSent (xs : Batch) (new : Shown) (e : Encoder) (p : PictureOf StyledCell) : Type 0 where
    pub sendable : AreSendable styled h w e xs p
    pub attributes : new.screen.kept ≡ (sent_batch xs e).next.attributes

  pub batch_sent : (xs : Batch) (old new : Shown) (p : PictureOf StyledCell) (e : Encoder) → IsSpanned h w s first old p → IsPlayed h xs old new → new.reached ≤ most_rows
      → old.screen.kept ≡ e.attributes → AreByBytes e.attributes → IsSent xs new e p
  batch_sent [] old new p e a is most kept bytes = record { sendable = tt; attributes = ap (λ (k : Shown). k.screen.kept) is ∙ kept }
  batch_sent (x ∷ xs) old new p e a is most kept bytes =
      let q : PictureOf StyledCell = steps_on (Some h) w (change_strokes styled e.attributes x) p in
      let spans : IsSpanned h w s first is.0 q =
      subst (λ (k : CellAttributes). IsSpanned h w s first is.0 (steps_on (Some h) w (change_strokes styled k x) p)) kept (change_spans h w s first old is.0 p a x is.1) in
      let more : is.0.reached ≤ new.reached = played_reached h xs is.0 new is.2 in
      let fits = change_sendable old is.0 p a (omega (arith, most, more)) e bytes.1 x is.1 in
      let known : kept_after styled e.attributes x ≡ (sent_change x e).next.attributes = keeps_change styled h w x e p follows fits in
      let next_kept : is.0.screen.kept ≡ (sent_change x e).next.attributes = is.1.drawn.kept ∙ ap (λ k. kept_after styled k x) kept ∙ known in
      let next_bytes : AreByBytes (sent_change x e).next.attributes = subst (λ (k : CellAttributes). AreByBytes k) known (kept_by_bytes h old x e.attributes is.1.playable bytes) in
      let rest = batch_sent xs is.0 new q (sent_change x e).next spans is.2 most next_kept next_bytes in
      record { sendable = (fits, rest.sendable); attributes = rest.attributes }
