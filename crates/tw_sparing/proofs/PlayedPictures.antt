-- What is known of a terminal and what the terminal shows stay parts of one picture while a batch is played.
use Rattle.std.proofs.Common.{◌≡◌, ◌<◌, ◌+◌, ◌-◌, ℕ, pos, negsuc, Some, List, [], ◌∷◌, ap, subst, ◌∙◌, sym, arith}
use Rattle.tw_surface.specs.declared.color.ColorAttribute.{ColorAttribute}
use Rattle.tw_surface.specs.declared.change.Position.{Position}
use Rattle.tw_surface.specs.declared.change.Position.TheVariants.{Absolute, Relative}
use Rattle.tw_surface.specs.ChangeView.{ChangeView, Batch}
use Rattle.tw_surface.specs.ChangeView.{Attribute, AllAttributes, Text, ClearScreen, ClearToEndOfScreen, CursorPosition}
use Rattle.laws_screens.specs.Strokes.{PictureOf, Stroke, step, steps, steps_on, scrolled}
use Rattle.laws_screens.specs.Strokes.Stroke.{Move, ClearBehind}
use Rattle.laws_screens.proofs.SeenRows.{steps_on-append}
use Rattle.laws_screens.specs.Glyphs.{glyphs}
use Rattle.laws_screens.specs.Pens.{led, change_strokes, strokes_of, kept_after}
use Rattle.laws_screens.specs.StyledCells.{StyledCell, styled}
use Rattle.tw_sparing.specs.StyledScreens.{ShowsStyled}
use Rattle.tw_sparing.specs.declared.shown.Shown.{Shown}
use Rattle.tw_sparing.specs.Shown.{left_behind, IsInSight, IsPlayedOnce, IsPlayed}
use Rattle.tw_sparing.proofs.TypedPictures.{glyphs_type}
use Rattle.tw_sparing.proofs.SpannedPictures.{IsSpanned, seen_row, typing_spans, still_spans, clear_spans, move_spans, led_up}

module _ (h w s : ℕ) (first : PictureOf StyledCell) where
  module _ (old new : Shown) (p : PictureOf StyledCell) (a : IsSpanned h w s first old p) where
    move_played : (x y : Position) → IsInSight (old.screen.row - left_behind h old) y → IsPlayedOnce h (CursorPosition x y) old new
        → IsSpanned h w s first new (scrolled (Some h) (step w (Move (led y) (led x)) p))
    move_played x (Absolute row) sight is = absurd sight
    move_played x (Relative (pos k)) sight is =
        let known : a.whole.row ≡ a.part.row + s = a.known.row in
        let seen : a.whole.row ≡ p.row + seen_row h s old = a.seen.row in
        move_spans h w s first old new p a is.reached is.drawn.width (led (Relative (pos k))) (led x) (omega (arith, known)) (omega (arith, seen))
        (subst (λ n. ShowsStyled new.screen (step n (Move (led (Relative (pos k))) (led x)) a.part)) a.width (is.drawn.drawn a.part a.screen))
    move_played x (Relative (negsuc k)) sight is =
        let known : a.whole.row ≡ a.part.row + s = a.known.row in
        let seen : a.whole.row ≡ p.row + seen_row h s old = a.seen.row in
        let row : a.part.row ≡ old.screen.row = a.screen.row in
        let low : a.part.row < old.reached = a.low in
        let up_whole = led_up k a.whole.row (omega (arith, sight, known, row)) in
        let up_part = led_up k a.part.row (omega (arith, sight, row)) in
        let up_seen = led_up k p.row (omega (arith, sight, known, seen, row, low)) in
        move_spans h w s first old new p a is.reached is.drawn.width (led (Relative (negsuc k))) (led x)
        (omega (arith, up_whole, up_part, known, sight, row)) (omega (arith, up_whole, up_seen, seen, known, sight, row, low))
        (subst (λ n. ShowsStyled new.screen (step n (Move (led (Relative (negsuc k))) (led x)) a.part)) a.width (is.drawn.drawn a.part a.screen))

    clear_played : (color : ColorAttribute) → IsPlayedOnce h (ClearToEndOfScreen color) old new
        → IsSpanned h w s first new (steps_on (Some h) w (change_strokes styled old.screen.kept (ClearToEndOfScreen color)) p)
    clear_played color is =
        subst (λ c. IsSpanned h w s first new (scrolled (Some h) (step w (ClearBehind (styled.paper c)) p))) (sym is.playable.0)
        (clear_spans h w s first old new p a is.reached is.drawn.width
        (subst (λ c. ShowsStyled new.screen (step w (ClearBehind (styled.paper c)) a.part)) is.playable.0 (is.drawn.drawn a.part a.screen)))

    pub change_spans : (x : ChangeView) → IsPlayedOnce h x old new → IsSpanned h w s first new (steps_on (Some h) w (change_strokes styled old.screen.kept x) p)
    change_spans (Text text) is =
        let strokes : List (Stroke StyledCell) = change_strokes styled old.screen.kept (Text text) in
        typing_spans h w s first old new p a is.reached is.drawn.width strokes (glyphs_type styled old.screen.kept (glyphs text))
        (subst (λ n. ShowsStyled new.screen (steps n strokes a.part)) a.width (is.drawn.drawn a.part a.screen))
    change_spans (Attribute change) is = still_spans h w s first old new p a is.reached is.drawn.width (is.drawn.drawn a.part a.screen)
    change_spans (AllAttributes to) is = still_spans h w s first old new p a is.reached is.drawn.width (is.drawn.drawn a.part a.screen)
    change_spans (ClearScreen color) is = absurd is.playable
    change_spans (ClearToEndOfScreen color) is = clear_played color is
    change_spans (CursorPosition x y) is = move_played x y is.playable is

  pub batch_spans : (xs : Batch) (old new : Shown) (p : PictureOf StyledCell) → IsSpanned h w s first old p → IsPlayed h xs old new
      → IsSpanned h w s first new (steps_on (Some h) w (strokes_of styled old.screen.kept xs) p)
  batch_spans [] old new p a is = subst (λ (k : Shown). IsSpanned h w s first k p) (sym is) a
  batch_spans (x ∷ xs) old new p a is =
      let q : PictureOf StyledCell = steps_on (Some h) w (change_strokes styled old.screen.kept x) p in
      let rest = batch_spans xs is.0 new q (change_spans old is.0 p a x is.1) is.2 in
      subst (λ end. IsSpanned h w s first new end)
      (ap (λ k. steps_on (Some h) w (strokes_of styled k xs) q) is.1.drawn.kept
      ∙ sym (steps_on-append (Some h) w (change_strokes styled old.screen.kept x) (strokes_of styled (kept_after styled old.screen.kept x) xs) p)) rest
