-- A screen of some rows scrolls after each change.
use Rattle.std.proofs.Common.{◌≡◌, ℕ, ◌+◌, ◌-◌, ◌<◌, refl, sym, ap, ◌∙◌, arith}
use Rattle.std.proofs.Math.Path.{fun_ext}
use Rattle.tw_surface.specs.ChangeView.{ChangeView}
use Rattle.tw_surface.specs.ChangeView.{Attribute, AllAttributes, Text, ClearScreen, ClearToEndOfScreen, CursorPosition}
use Rattle.tw_surface.specs.Pictures.{Picture, cursor_at, cells_cleared_from, play, play_text}
use Rattle.tw_surface.specs.Scrolling.{IsWithin, from_row, scroll, play_text_on, play_on}
use Rattle.tw_surface.specs.ScrollingLaws.{ScrollsBehindChanges}
use Rattle.tw_surface.proofs.ScrolledTexts.{sees-same, sees-text, within-change}

same_picture : (a b : Picture) → ((i j : ℕ) → a.cell i j ≡ b.cell i j) → a.row ≡ b.row → a.col ≡ b.col → a ≡ b
same_picture a b cells row col =
    ap (λ f. record { cell = f; row = a.row; col = a.col }) (fun_ext (λ i. fun_ext (λ j. cells i j)))
    ∙ ap (λ r. record { cell = b.cell; row = r; col = a.col }) row
    ∙ ap (λ c. record { cell = b.cell; row = b.row; col = c }) col

-- a picture whose cursor is in sight stays
still : (h : ℕ) (s : Picture) → s.row < h → s ≡ scroll h s
still h s low = same_picture s (scroll h s) (λ i j. ap (λ r. s.cell r j) (omega arith)) (omega arith) refl

pub scrolls_behind : ScrollsBehindChanges
scrolls_behind h w (Attribute a) s low = still h s low
scrolls_behind h w (AllAttributes a) s low = still h s low
scrolls_behind h w (Text text) s low =
    let seen = sees-text h w text 0 s s low (sees-same s) in
    same_picture (play_text_on h w text s) (scroll h (play_text w text s))
    (λ i j. seen.cell i j ∙ ap (λ r. (play_text w text s).cell r j) (omega arith)) (omega (arith, seen.row)) (sym seen.col)
scrolls_behind h w (ClearScreen color) s low = still h (cursor_at 0 0) (omega arith)
scrolls_behind h w (ClearToEndOfScreen color) s low = still h (record s { cell = cells_cleared_from s.cell s.row s.col }) low
scrolls_behind h w (CursorPosition x y) s low = refl

-- ---- once a change was played without a bottom, and the rows went up

module _ (h w k : ℕ) (change : ChangeView) (old played new : Picture) (within : IsWithin h old)
    (is : played ≡ play w change old) (rows : k ≡ played.row + 1 - h) (up : new ≡ from_row k played) where
  pub played_behind : new ≡ play_on h w change old
  played_behind =
      up ∙ ap (λ n. from_row n played) rows ∙ ap (λ p. from_row (p.row + 1 - h) p) is ∙ sym (scrolls_behind h w change old within.row)

  pub within_behind : IsWithin h new
  within_behind = rw played_behind (within-change h w change old within)
