-- What is still known of a screen is shown, too.
use Rattle.std.proofs.Common.{◌≡◌, ◌≤◌, ◌+◌, ◌-◌, ℕ, Option, Some, None, inl, inr, ap, subst, ◌∙◌, sym, arith}
use Rattle.laws_screens.specs.Strokes.{PictureOf}
use Rattle.laws_screens.specs.StyledCells.{StyledCell, styled}
use Rattle.tw_ansi.specs.declared.encode.Encoder.{Encoder}
use Rattle.tw_ansi.specs.EcmaScreen.{EcmaScreen}
use Rattle.tw_ansi.specs.EcmaTexts.{ShowsPicture}
use Rattle.tw_sparing.specs.StyledScreens.{without_rows}
use Rattle.tw_sparing.specs.ChangedScreens.{AreByBytes}
use Rattle.tw_sparing.specs.Sending.{screen_cells}
use Rattle.tw_sparing.specs.declared.shown.Shown.{Shown}
use Rattle.tw_sparing.specs.Shown.{from_cursor, left_behind, IsStillKnown}
use Rattle.tw_sparing.specs.ShownTerminals.{IsShownBy}
use Rattle.tw_sparing.specs.KnownRuns.{IsShownAs}
use Rattle.tw_sparing.proofs.CutScreens.{cut_cells, cut_typable}

-- what is shown is shown from the row of its cursor on
shown_below : (h w : ℕ) (e : Encoder) (t : EcmaScreen StyledCell) (p : PictureOf StyledCell) (shown : Shown) → IsShownBy h w e t p shown → IsShownBy h w e t p (from_cursor shown)
shown_below h w e t p shown is =
    let row = shown.screen.row in
    let left = left_behind h shown in
    let n = left_behind h (from_cursor shown) in
    let above : left ≤ row = is.fits.row in
    let none : n ≡ 0 = omega (arith, above) in
    record {
      picture = is.picture;
      fits = record {
        tall = is.fits.tall;
        most = omega (arith, is.fits.most);
        row = omega (arith, none);
        low = omega (arith, is.fits.low);
        col = is.fits.col;
        typable = cut_typable row shown.reached shown.screen is.fits.typable;
        colors = λ i j low in_row. subst (λ (x : StyledCell). AreByBytes x.attributes) (sym (cut_cells row shown.screen i j)) (is.fits.colors (row + i) j (omega (arith, low)) in_row);
        kept = is.fits.kept;
      };
      width = is.width;
      from = is.from + (row - left);
      room = omega (arith, above, is.room, is.fits.low);
      seen = record {
        cell = λ i j in_row.
            ap (λ k. p.cell k j) (let same : is.from + (row - left) + i ≡ is.from + (row - left + i) = omega arith in same)
            ∙ is.seen.cell (row - left + i) j in_row
            ∙ cut_cells left shown.screen (row - left + i) j
            ∙ ap (λ k. screen_cells shown.screen k j) (let same : left + (row - left + i) ≡ row + (n + i) = omega (arith, above, none) in same)
            ∙ sym (cut_cells n (without_rows row shown.screen) i j ∙ cut_cells row shown.screen (n + i) j);
        row = is.seen.row ∙ (let same : is.from + (row - left) ≡ is.from + (row - left) + (row - row - n) = omega arith in same);
        col = is.seen.col;
      };
      blank = λ i j below. cut_cells row shown.screen i j ∙ is.blank (row + i) j (omega (arith, below));
      attributes = is.attributes;
    }

module _ (h w : ℕ) (e : Encoder) (t : EcmaScreen StyledCell) (p : PictureOf StyledCell) where
  pub picture_of : (known : Option Shown) → IsShownAs h w e t p known → ShowsPicture styled h w e t p
  picture_of None a = a
  picture_of (Some shown) a = a.picture

  pub still_shown : (drawn known : Option Shown) → IsStillKnown drawn known → IsShownAs h w e t p drawn → IsShownAs h w e t p known
  still_shown drawn None still a = picture_of drawn a
  still_shown None (Some known) still a = absurd still
  still_shown (Some drawn) (Some known) (inl same) a = subst (λ shown. IsShownBy h w e t p shown) (sym same) a
  still_shown (Some drawn) (Some known) (inr below) a = subst (λ shown. IsShownBy h w e t p shown) (sym below) (shown_below h w e t p drawn a)
