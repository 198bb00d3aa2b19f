-- From which place on all cells of a screen have the default attributes.
use Rattle.std.proofs.Common.{◌+◌, map, sym, ◌≡◌, ℕ, zero, suc, ◌≤◌, Bool, true, false, eqb, List, [], ◌∷◌, ◌++◌, length, take, replicate, refl, ap, ◌∙◌, arith, if◌then◌else◌, Option, Some, None, IfSome}
use Rattle.std.specs.Prelude.{slice_index_or}
use Rattle.std.proofs.Math.ListN.{get_or-eq_default}
use Rattle.std.proofs.lemmas.Bool.{ne_eqb}
use Rattle.std.proofs.lemmas.List.{length-append, length-map}
use Rattle.tw_surface.specs.declared.cell.CellAttributes.{CellAttributes}
use Rattle.tw_surface.specs.Defaults.{default_attributes}
use Rattle.laws_screens.specs.StyledCells.{StyledCell}
use Rattle.tw_sparing.specs.declared.cell.ScreenCell.{ScreenCell}
use Rattle.tw_sparing.specs.StyledScreens.{StyledView, IsKept, IsPlainFrom, IsPutAt, cell_under, plain_behind, styled_at}

all_one : (n i : ℕ) (d : ScreenCell) → slice_index_or (replicate n d) i d ≡ d
all_one zero i d = refl
all_one (suc n) zero d = refl
all_one (suc n) (suc i) d = all_one n i d

-- cells as the one after all others are added behind the last one
pub grown_at : (k : ℕ) (cells : List ScreenCell) (n i : ℕ) (d : ScreenCell) → length cells ≤ k → slice_index_or (take k cells ++ replicate n d) i d ≡ slice_index_or cells i d
grown_at zero [] n i d h = all_one n i d
grown_at (suc k) [] n i d h = all_one n i d
grown_at zero (x ∷ cells) n i d h = absurd (omega (arith, h))
grown_at (suc k) (x ∷ cells) n zero d h = refl
grown_at (suc k) (x ∷ cells) n (suc i) d h = grown_at k cells n i d (omega (arith, h))

-- nothing else is shown
pub still_plain : (from : Option ℕ) (old new : StyledView) → ((i : ℕ) → styled_at new i ≡ styled_at old i) → IfSome from (λ f. IsPlainFrom f old) → IfSome from (λ f. IsPlainFrom f new)
still_plain None old new same h = tt
still_plain (Some f) old new same h = λ i low. ap (λ x. x.attributes) (same i) ∙ h i low

-- a cell is put at a place, under the attributes that are selected
pub plain_put : (is_plain : Bool) (from : Option ℕ) (old new : StyledView) (place : ℕ) (x : StyledCell) → (is_plain ≡ true → old.kept ≡ default_attributes) → x.attributes ≡ old.kept
    → IsPutAt place x old new → IfSome from (λ f. IsPlainFrom f old) → IfSome (plain_behind is_plain place from) (λ f. IsPlainFrom f new)
plain_put is_plain None old new place x plain kept put h = tt
plain_put true (Some f) old new place x plain kept put h = λ i low. ap (λ y. y.attributes) (put.cells i) ∙ by_place (eqb i place) (styled_at old i) (h i low)
  where
    by_place : (b : Bool) (y : StyledCell) → y.attributes ≡ default_attributes → (if b then x else y).attributes ≡ default_attributes
    by_place true y e = kept ∙ plain refl
    by_place false y e = e
plain_put false (Some f) old new place x plain kept put h = λ i low.
    let behind : i ≡ place → ⊥ = λ e. omega (arith, low, e) in
    ap (λ y. y.attributes) (put.cells i ∙ ap (λ b. if b then x else styled_at old i) (ne_eqb i place behind)) ∙ h i (omega (arith, low))

-- the cell at a place where characters under the default attributes stand behind others
typed-plain : (cells : List ScreenCell) (text : List ℕ) (a : CellAttributes) (i : ℕ) (rest : ScreenCell) → a ≡ default_attributes
    → (slice_index_or cells i rest).attributes ≡ default_attributes → (slice_index_or (cells ++ map (cell_under a) text) i rest).attributes ≡ default_attributes
typed-plain [] [] a i rest plain h = h
typed-plain [] (ch ∷ text) a zero rest plain h = plain
typed-plain [] (ch ∷ text) a (suc i) rest plain h = typed-plain [] text a i rest plain h
typed-plain (x ∷ cells) text a zero rest plain h = h
typed-plain (x ∷ cells) text a (suc i) rest plain h = typed-plain cells text a i rest plain h

-- characters are typed behind all cells
pub plain_typed : (is_plain : Bool) (from : Option ℕ) (old : StyledView) (text : List ℕ) (last : ℕ) → (is_plain ≡ true → old.kept ≡ default_attributes) → length old.cells + length text ≡ last + 1
    → IfSome from (λ f. IsPlainFrom f old) → IfSome (plain_behind is_plain last from) (λ f. IsPlainFrom f (record old { cells = old.cells ++ map (cell_under old.kept) text }))
plain_typed is_plain None old text last plain len h = tt
plain_typed true (Some f) old text last plain len h = λ i low. typed-plain old.cells text old.kept i old.rest (plain refl) (h i low)
plain_typed false (Some f) old text last plain len h = λ i low.
    let cells = old.cells ++ map (cell_under old.kept) text in
    let all : length cells ≡ length old.cells + length text =
    length-append old.cells (map (cell_under old.kept) text) ∙ ap (λ n. length old.cells + n) (length-map text (cell_under old.kept)) in
    let behind : slice_index_or cells i old.rest ≡ old.rest = get_or-eq_default cells old.rest (omega (arith, low, all, len)) in
    let before : slice_index_or old.cells i old.rest ≡ old.rest = get_or-eq_default old.cells old.rest (omega (arith, low, len)) in
    ap (λ x. x.attributes) (behind ∙ sym before) ∙ h i (omega (arith, low))

-- what is kept beside the cells holds of other cells, from where on these have the default attributes
pub kept_with : (is_plain : Bool) (before from : Option ℕ) (old : StyledView) (cells : List ScreenCell) → IsKept is_plain before old
    → IfSome from (λ f. IsPlainFrom f (record old { cells = cells })) → IsKept is_plain from (record old { cells = cells })
kept_with is_plain before from old cells kept plain = record {
  reach = record { width_above = kept.reach.width_above; width_most = kept.reach.width_most; row_most = kept.reach.row_most; col_most = kept.reach.col_most };
  plain = kept.plain;
  cells = plain;
}
