-- The parameters of SGR one after the other.
use Rattle.std.proofs.Common.{◌≡◌, ℕ, zero, suc, ◌+◌, true, false, ◌&&◌, not, eqb, if◌then◌else◌, List, [], ◌∷◌, length, take, drop, refl, sym, ap, ◌∙◌, arith, Option, Some, None, inl, inr}
use Rattle.std.specs.List.{position_or_len}
use Rattle.std.specs.Option.{MatchOption}
use Rattle.std.proofs.lemmas.Bool.{cases_Bool}
use Rattle.tw_surface.specs.declared.cell.CellAttributes.{CellAttributes}
use Rattle.tw_ansi.specs.KeyBytes.{is_semicolon}
use Rattle.tw_ansi.specs.Selections.{Selection, fields, onto_first, select, selected_by}
use Rattle.ecma_terminal.specs.Colors.{fits_awaited, all_fit}

-- ---- the first parameter

head_semicolon : (b : ℕ) (bytes : List ℕ) → eqb b 59 ≡ true → fields (b ∷ bytes) ≡ [] ∷ fields bytes
head_semicolon b bytes e = ap (λ t. if t then [] ∷ fields bytes else onto_first b (fields bytes)) e

head_other : (b : ℕ) (bytes : List ℕ) → eqb b 59 ≡ false → fields (b ∷ bytes) ≡ onto_first b (fields bytes)
head_other b bytes e = ap (λ t. if t then [] ∷ fields bytes else onto_first b (fields bytes)) e

-- there is one where no semicolon stands
pub fields_last : (bytes : List ℕ) → position_or_len is_semicolon bytes ≡ length bytes → fields bytes ≡ bytes ∷ []
fields_last [] e = refl
fields_last (b ∷ bytes) e = elim (cases_Bool (eqb b 59)) [
  | inl semicolon ↦ absurd (omega (arith, sym e ∙ ap (λ t. if not t then 1 + position_or_len is_semicolon bytes else 0) semicolon))
  | inr other ↦
      let rest : position_or_len is_semicolon bytes ≡ length bytes = omega (arith, sym (ap (λ t. if not t then 1 + position_or_len is_semicolon bytes else 0) other) ∙ e) in
      head_other b bytes other ∙ ap (onto_first b) (fields_last bytes rest)
]

-- and else it ends at the first one
pub fields_more : (bytes : List ℕ) (at x : ℕ) (more : List ℕ) → at ≡ position_or_len is_semicolon bytes → drop at bytes ≡ x ∷ more → fields bytes ≡ take at bytes ∷ fields more
fields_more [] at x more e split = absurd (omega (arith, ap length split, drop_none at))
  where
    drop_none : (n : ℕ) → length (drop n (let none : List ℕ = [] in none)) ≡ 0
    drop_none zero = refl
    drop_none (suc n) = refl
fields_more (b ∷ bytes) at x more e split = elim (cases_Bool (eqb b 59)) [
  | inl semicolon ↦
      let first : at ≡ 0 = e ∙ ap (λ t. if not t then 1 + position_or_len is_semicolon bytes else 0) semicolon in
      let rest : bytes ≡ more = grind (arith, rw first at split) in
      rw (first, ← rest) (head_semicolon b bytes semicolon)
  | inr other ↦
      let next : at ≡ 1 + position_or_len is_semicolon bytes = e ∙ ap (λ t. if not t then 1 + position_or_len is_semicolon bytes else 0) other in
      let there : at ≡ suc (position_or_len is_semicolon bytes) = omega (arith, next) in
      rw there (head_other b bytes other ∙ ap (onto_first b) (fields_more bytes (position_or_len is_semicolon bytes) x more refl (rw there at split)))
]

-- ---- what the parameters select

-- the attributes after some parameters where all numbers of colours are below 256
abbrev pub outcome : List (List ℕ) → Selection → Option CellAttributes
outcome fs s = if all_fit fs s then Some (selected_by fs s).attributes else None

pub outcome_more : (field : List ℕ) (more : List (List ℕ)) (s next : Selection) → fits_awaited s.awaited field ≡ true → next ≡ select s.awaited field s.attributes
    → outcome (field ∷ more) s ≡ outcome more next
outcome_more field more s next fit e =
    ap (λ b. if b && all_fit more (select s.awaited field s.attributes) then Some (selected_by more (select s.awaited field s.attributes)).attributes else None) fit
    ∙ ap (outcome more) (sym e)

pub outcome_none : (field : List ℕ) (more : List (List ℕ)) (s : Selection) → fits_awaited s.awaited field ≡ false → outcome (field ∷ more) s ≡ None
outcome_none field more s fit =
    ap (λ b. if b && all_fit more (select s.awaited field s.attributes) then Some (selected_by more (select s.awaited field s.attributes)).attributes else None) fit

-- none are told where the first parameter does not fit, whether others stand after it or not
pub outcome_refused : {A : Type 0} (view : A → List ℕ) (Q : A → Type 0) (more : Option A) (bytes field : List ℕ) (s : Selection)
    → MatchOption more (fields bytes ≡ field ∷ []) (λ m. (fields bytes ≡ field ∷ fields (view m)) × Q m) → fits_awaited s.awaited field ≡ false → outcome (fields bytes) s ≡ None
outcome_refused view Q None bytes field s parts fit = ap (λ fs. outcome fs s) parts ∙ outcome_none field [] s fit
outcome_refused view Q (Some m) bytes field s parts fit = ap (λ fs. outcome fs s) parts.0 ∙ outcome_none field (fields (view m)) s fit

-- one parameter was taken
pub outcome_taken : (bytes field : List ℕ) (more : List (List ℕ)) (s next : Selection) → fields bytes ≡ field ∷ more → fits_awaited s.awaited field ≡ true
    → next ≡ select s.awaited field s.attributes → outcome (fields bytes) s ≡ outcome more next
outcome_taken bytes field more s next parts fit e = ap (λ fs. outcome fs s) parts ∙ outcome_more field more s next fit e
