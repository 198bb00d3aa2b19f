-- A line of three rows at eight columns, by computation: "abcdef", "gh" and "ij", after "> " and ". ".
use Rattle.std.proofs.Common.{◌≡◌, ℕ, pos, List, [], ◌∷◌, ◌++◌, refl, ap, arith}
use Rattle.tw_surface.specs.Places.{Place}
use Rattle.laws_prompt.specs.Rows.{rows_of_text, rows_taken, row_cell, row_edge, spread, shown_cut}

abbrev first : List ℕ
first = 97 ∷ 98 ∷ 99 ∷ 100 ∷ 101 ∷ 102 ∷ []

abbrev text : List ℕ
text = first ++ 10 ∷ 103 ∷ 104 ∷ 10 ∷ 105 ∷ 106 ∷ []

abbrev continuation : List ℕ
continuation = 46 ∷ 32 ∷ []

abbrev cell : ℕ → ℕ → Place
cell x y = record { x = x; y = pos y }

-- its rows; a line feed at the end begins one more
three_rows : rows_of_text text ≡ first ∷ (103 ∷ 104 ∷ []) ∷ (105 ∷ 106 ∷ []) ∷ []
three_rows = refl

empty_row : rows_of_text (97 ∷ 10 ∷ []) ≡ (97 ∷ []) ∷ [] ∷ []
empty_row = refl

-- the first row fills eight columns, and takes two rows of the screen
rows_are : (rows_taken 8 8 ≡ 2) × (rows_taken 8 7 ≡ 1) × (rows_taken 8 0 ≡ 1)
rows_are = (refl, refl, refl)

-- the cells of "a", of "f", of the cursor after it, of "g" and of "i", and of the cursor at the end
cells_are : (row_cell 8 2 2 [] ≡ cell 2 0) × (row_cell 8 2 2 (97 ∷ 98 ∷ 99 ∷ 100 ∷ 101 ∷ []) ≡ cell 7 0) × (row_cell 8 2 2 first ≡ cell 0 1)
    × (row_cell 8 2 2 (first ++ 10 ∷ []) ≡ cell 2 2) × (row_cell 8 2 2 (first ++ 10 ∷ 103 ∷ 104 ∷ 10 ∷ []) ≡ cell 2 3) × (row_cell 8 2 2 text ≡ cell 4 3)
cells_are = (refl, refl, refl, refl, refl, refl)

-- at four columns, which are those of a prompt, the line begins in the second row of the screen
narrow_cells : (row_cell 4 4 0 [] ≡ cell 0 1) × (row_cell 4 4 0 (97 ∷ 10 ∷ []) ≡ cell 0 2)
narrow_cells = (refl, refl)

-- a space stands after the first row, and none after the second
edges_are : (row_edge 8 8 ≡ 32 ∷ []) × (row_edge 8 4 ≡ []) × (row_edge 8 0 ≡ [])
edges_are = (refl, refl, refl)

shown_is : spread 8 continuation 2 text ≡ first ++ 32 ∷ 13 ∷ 10 ∷ 46 ∷ 32 ∷ 103 ∷ 104 ∷ 13 ∷ 10 ∷ 46 ∷ 32 ∷ 105 ∷ 106 ∷ []
shown_is = refl

-- with the cursor after the first row it stands before the space
cursor_is : shown_cut 8 continuation 2 first (10 ∷ 103 ∷ []) ≡ record { line = first ++ 32 ∷ 13 ∷ 10 ∷ 46 ∷ 32 ∷ 103 ∷ []; cursor = 6 }
cursor_is = refl

-- the cursor does not wait after the last column, and the next row does not begin where it stands
not_waiting : row_cell 8 2 2 first ≡ cell 8 0 → ⊥
not_waiting h = omega (arith, ap (λ (p : Place). p.x) h)

not_there : row_cell 8 2 2 (first ++ 10 ∷ []) ≡ cell 2 1 → ⊥
not_there h = cc (ap (λ (p : Place). p.y) h)
