-- A screen without its first rows.
use Rattle.std.proofs.Common.{◌≡◌, ◌+◌, ◌-◌, ◌*◌, ℕ, drop, ap, subst, ◌∙◌, sym, arith}
use Rattle.std.proofs.Math.Nat.{add-mul, zero-mul}
use Rattle.std.proofs.lemmas.List.{get_or-drop}
use Rattle.std.specs.Prelude.{slice_index_or}
use Rattle.laws_screens.specs.StyledCells.{StyledCell}
use Rattle.tw_sparing.specs.SingleCharacters.{IsSingle}
use Rattle.tw_sparing.specs.StyledScreens.{StyledView, styled_cell, without_rows}
use Rattle.tw_sparing.specs.Sending.{screen_cells, changes_between, IsTypable}
use Rattle.tw_sparing.specs.declared.shown.Shown.{Shown}
use Rattle.tw_sparing.specs.Shown.{changes_below}

add_rows : (top r w : ℕ) → (top + r) * w ≡ top * w + r * w
add_rows top r w = add-mul top r w

pub cut_cells : (top : ℕ) (screen : StyledView) (r c : ℕ) → screen_cells (without_rows top screen) r c ≡ screen_cells screen (top + r) c
cut_cells top screen r c =
    ap styled_cell (get_or-drop (top * screen.width) screen.cells (r * screen.width + c) screen.rest
    ∙ ap (λ k. slice_index_or screen.cells k screen.rest) (omega (arith, add_rows top r screen.width)))

pub cut_typable : (top rows : ℕ) (screen : StyledView) → IsTypable rows screen → IsTypable (rows - top) (without_rows top screen)
cut_typable top rows screen typable i low j left =
    subst (λ (x : StyledCell). IsSingle x.ch) (sym (cut_cells top screen i j)) (typable (top + i) (omega (arith, low)) j left)

-- what differs of two cut screens, by what they are
pub same_changes : (old new : Shown) (old_top top reached rows : ℕ) (before after : StyledView) → reached ≡ old.reached - old_top → rows ≡ new.reached - top
    → before ≡ without_rows old_top old.screen → after ≡ without_rows top new.screen → changes_between reached rows before after ≡ changes_below old_top top old new
same_changes old new old_top top reached rows before after is_reached is_rows is_before is_after =
    ap (λ n. changes_between n rows before after) is_reached
    ∙ ap (λ n. changes_between (old.reached - old_top) n before after) is_rows
    ∙ ap (λ v. changes_between (old.reached - old_top) (new.reached - top) v after) is_before
    ∙ ap (λ v. changes_between (old.reached - old_top) (new.reached - top) (without_rows old_top old.screen) v) is_after

-- a screen that loses no row is as it is
cut_none : (screen : StyledView) → without_rows 0 screen ≡ screen
cut_none screen =
    ap (λ n. let v : StyledView = record screen { row = n; cells = drop (0 * screen.width) screen.cells } in v) (let e : screen.row - 0 ≡ screen.row = omega arith in e)
    ∙ ap (λ n. let v : StyledView = record screen { cells = drop n screen.cells } in v) (zero-mul screen.width)

-- what differs of two screens that lose none
pub same_whole : (old new : Shown) (old_top top : ℕ) → old_top ≡ 0 → top ≡ 0
    → changes_between old.reached new.reached old.screen new.screen ≡ changes_below old_top top old new
same_whole old new old_top top old_none none =
    sym (ap (λ n. changes_below n top old new) old_none ∙ ap (λ n. changes_below 0 n old new) none
    ∙ ap (λ n. changes_between n (new.reached - 0) (without_rows 0 old.screen) (without_rows 0 new.screen)) (let e : old.reached - 0 ≡ old.reached = omega arith in e)
    ∙ ap (λ n. changes_between old.reached n (without_rows 0 old.screen) (without_rows 0 new.screen)) (let e : new.reached - 0 ≡ new.reached = omega arith in e)
    ∙ ap (λ v. changes_between old.reached new.reached v (without_rows 0 new.screen)) (cut_none old.screen)
    ∙ ap (λ v. changes_between old.reached new.reached old.screen v) (cut_none new.screen))
