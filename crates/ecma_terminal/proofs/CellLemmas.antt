-- Numbers of cells, byte by byte, and the cells of a character.
use Rattle.std.proofs.Common.{◌≡◌, ◌≤◌, ◌<◌, ◌+◌, ◌*◌, ℕ, zero, suc, List, [], ◌∷◌, length, map, take, get_or, ap, ◌∙◌, refl, arith}
use Rattle.tw_surface.specs.declared.cell.CellAttributes.{CellAttributes}
use Rattle.laws_screens.specs.Pens.{cluster_cells}
use Rattle.laws_screens.specs.StyledCells.{number_from, styled}
use Rattle.ecma_terminal.specs.declared.cell.TerminalCell.{TerminalCell}
use Rattle.ecma_terminal.specs.Cells.{shown_cell}

number_next : (n : ℕ) (bytes : List ℕ) (i : ℕ) → i < length bytes → number_from n (take (suc i) bytes) ≡ number_from n (take i bytes) * 256 + get_or bytes i 0
number_next n [] i inside = absurd (omega arith)
number_next n (b ∷ bytes) zero inside = refl
number_next n (b ∷ bytes) (suc i) inside = number_next (n * 256 + b) bytes i (omega (arith, inside))

-- one byte more
pub number_more : (n : ℕ) (bytes : List ℕ) (i : ℕ) → i < length bytes → number_from n (take (i + 1) bytes) ≡ number_from n (take i bytes) * 256 + get_or bytes i 0
number_more n bytes i inside = ap (λ k. number_from n (take k bytes)) (let e : i + 1 ≡ suc i = omega arith in e) ∙ number_next n bytes i inside

-- more bytes make no smaller number
number_grows : (n : ℕ) (bytes : List ℕ) → n ≤ number_from n bytes
number_grows n [] = omega arith
number_grows n (b ∷ bytes) = omega (arith, number_grows (n * 256 + b) bytes)

-- so all of them make no smaller one than the first ones
pub number_most : (n : ℕ) (bytes : List ℕ) (i : ℕ) → i < length bytes → number_from n (take i bytes) * 256 + get_or bytes i 0 ≤ number_from n bytes
number_most n [] i inside = absurd (omega arith)
number_most n (b ∷ bytes) zero inside = number_grows (n * 256 + b) bytes
number_most n (b ∷ bytes) (suc i) inside = number_most (n * 256 + b) bytes i (omega (arith, inside))

-- the first cell of a character of one to three columns, and its further ones
pub cells_are : (a : CellAttributes) (bytes : List ℕ) (first rest : TerminalCell) (n : ℕ) → 0 < n → n ≤ 3 → shown_cell first ≡ styled.ink a bytes → shown_cell rest ≡ styled.rest a
    → map shown_cell (take n (first ∷ rest ∷ rest ∷ [])) ≡ cluster_cells styled a bytes n
cells_are a bytes first rest zero some most e f = absurd (omega arith)
cells_are a bytes first rest (suc zero) some most e f = ap (λ x. x ∷ []) e
cells_are a bytes first rest (suc (suc zero)) some most e f = ap (λ x. x ∷ shown_cell rest ∷ []) e ∙ ap (λ y. styled.ink a bytes ∷ y ∷ []) f
cells_are a bytes first rest (suc (suc (suc zero))) some most e f = ap (λ x. x ∷ shown_cell rest ∷ shown_cell rest ∷ []) e ∙ ap (λ y. styled.ink a bytes ∷ y ∷ y ∷ []) f
cells_are a bytes first rest (suc (suc (suc (suc n)))) some most e f = absurd (omega (arith, most))
