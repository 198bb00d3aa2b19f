-- What writing and clearing do to cells in order, and to what they show.
use Rattle.std.proofs.Common.{◌≡◌, ℕ, suc, ◌+◌, ◌*◌, ◌-◌, ◌<◌, ◌≤◌, List, ◌∷◌, ◌++◌, length, set, take, drop, refl, sym, ap, subst, ◌∙◌, arith, inl, inr}
use Rattle.std.specs.List.{insert}
use Rattle.std.proofs.Math.Path.{fun_ext}
use Rattle.std.proofs.Math.Seq.{drop-cons}
use Rattle.std.proofs.lemmas.Bool.{cases_eq, cases_lt, eq-eqb, ne_eqb}
use Rattle.std.proofs.lemmas.List.{get_or_default, get_or-set_same, get_or-set_other, length-set, set_split, take-append-drop}
use Rattle.std.proofs.lemmas.List.Edits.{length-insert, get_or-insert_below, get_or-insert_at, get_or-insert_above}
use Rattle.std.proofs.lemmas.List.Elements.{All-set, All-take, All-drop, All-append, All-cons}
use Rattle.tw_surface.specs.declared.screen.far.Cell.{Cell}
use Rattle.tw_surface.specs.Pictures.{blank, cells_with}
use Rattle.tw_surface.specs.Cells.{cell_in, cell_at, IsBefore, IsInOrder, IsAt, IsGapFor, IsSparse}
use Rattle.tw_surface.proofs.CellLookups.{StandsAt, cell_in-past, cell_in-same_front, cell_in_at, cell_in_gap}

-- a list that shows ch at row and col, and elsewhere what it showed
record Writes (row col ch : ℕ) (old new : List Cell) : Type 0 where
  pub here : cell_in new row col ≡ ch
  pub elsewhere : (r c : ℕ) → ((r ≡ row) × (c ≡ col) → ⊥) → cell_in new r c ≡ cell_in old r c

written_at : (row col ch : ℕ) (old new : List Cell) → Writes row col ch old new → (r c : ℕ) → cell_in new r c ≡ cells_with (cell_in old) row col ch r c
written_at row col ch old new writes r c =
    elim (cases_eq r row) [
      | inl same_row ↦ elim (cases_eq c col) [
        | inl same_col ↦ rw (eq-eqb r row same_row, eq-eqb c col same_col, same_row, same_col) writes.here
        | inr other ↦ rw (eq-eqb r row same_row, ne_eqb c col other) (writes.elsewhere r c (λ q. other q.1))
      ]
      | inr other ↦ rw (ne_eqb r row other) (writes.elsewhere r c (λ q. other q.0))
    ]

-- such a list is one equation
written_from : (row col ch : ℕ) (old new : List Cell) → Writes row col ch old new → cell_in new ≡ cells_with (cell_in old) row col ch
written_from row col ch old new writes = fun_ext (λ r. fun_ext (λ c. written_at row col ch old new writes r c))

-- order, by the cell at each index
in_order_from : (cells : List Cell) → ((i j : ℕ) → i < j → j < length cells → IsBefore (cell_at cells i).row (cell_at cells i).col (cell_at cells j).row (cell_at cells j).col) → IsInOrder cells
in_order_from cells before i j d below within =
    rw (get_or_default cells i d (record { row = 0; col = 0; ch = 0 }) (omega arith), get_or_default cells j d (record { row = 0; col = 0; ch = 0 }) within) (before i j below within)

-- the list around one of its cells
split_around : (cells : List Cell) (i : ℕ) → i < length cells → take i cells ++ cell_at cells i ∷ drop (suc i) cells ≡ cells
split_around cells i within =
    ap (λ rest. take i cells ++ rest) (sym (drop-cons cells i (record { row = 0; col = 0; ch = 0 }) within)) ∙ take-append-drop i cells

-- a cell at one place does not stand at another
stands_elsewhere : (cell : Cell) (row col r c : ℕ) → StandsAt cell row col → ((r ≡ row) × (c ≡ col) → ⊥) → StandsAt cell r c → ⊥
stands_elsewhere cell row col r c at other there = other (sym there.row_is ∙ at.row_is, sym there.col_is ∙ at.col_is)

-- a cell of a row, a column and a character
abbrev new_cell : ℕ → ℕ → ℕ → Cell
new_cell row col ch = record { row = row; col = col; ch = ch }

-- ---- a character where a cell stands

module _ (cells : List Cell) (ordered : IsInOrder cells) (row col i : ℕ) (at : IsAt cells row col i) where
  found_stands : StandsAt (cell_at cells i) row col
  found_stands = record { row_is = at.row_is; col_is = at.col_is }

  -- the new list holds each cell where it stood
  set_places : (ch k : ℕ) → StandsAt (cell_at (set cells i (new_cell row col ch)) k) (cell_at cells k).row (cell_at cells k).col
  set_places ch k =
      elim (cases_eq k i) [
        | inl same ↦
            let here : cell_at (set cells i (new_cell row col ch)) i ≡ new_cell row col ch = get_or-set_same cells i _ _ at.in_range in
            rw (same, here) (record { row_is = sym at.row_is; col_is = sym at.col_is })
        | inr other ↦ rw (get_or-set_other cells i k (new_cell row col ch) _ other) (record { row_is = refl; col_is = refl })
      ]

  pub ordered_set : (ch : ℕ) → IsInOrder (set cells i (new_cell row col ch))
  ordered_set ch = in_order_from _ (λ a b below within.
      let size : length (set cells i (new_cell row col ch)) ≡ length cells = length-set cells i _ in
      let old : IsBefore (cell_at cells a).row (cell_at cells a).col (cell_at cells b).row (cell_at cells b).col = ordered a b _ below (omega arith) in
      let first = set_places ch a in
      let second = set_places ch b in
      record { rows = omega (arith, old.rows, first.row_is, second.row_is); columns = λ same. omega (arith, old.columns, first.row_is, first.col_is, second.row_is, second.col_is) })

  pub written_set : (ch : ℕ) → cell_in (set cells i (new_cell row col ch)) ≡ cells_with (cell_in cells) row col ch
  written_set ch =
      let new = set cells i (new_cell row col ch) in
      let here : cell_at new i ≡ new_cell row col ch = get_or-set_same cells i _ _ at.in_range in
      let at_new : IsAt new row col i = record { in_range = omega (arith, length-set cells i (new_cell row col ch), at.in_range); row_is = ap (λ x. x.row) here; col_is = ap (λ x. x.col) here } in
      written_from row col ch cells new (record {
        here = cell_in_at new (ordered_set ch) row col i at_new ∙ ap (λ x. x.ch) here;
        elsewhere = λ r c other.
            let new_past : cell_in (new_cell row col ch ∷ drop (suc i) cells) r c ≡ cell_in (drop (suc i) cells) r c = cell_in-past _ _ r c (stands_elsewhere _ row col r c (record { row_is = refl; col_is = refl }) other) in
            let old_past : cell_in (cell_at cells i ∷ drop (suc i) cells) r c ≡ cell_in (drop (suc i) cells) r c = cell_in-past _ _ r c (stands_elsewhere _ row col r c found_stands other) in
            ap (λ l. cell_in l r c) (set_split cells i (new_cell row col ch) at.in_range)
            ∙ cell_in-same_front (take i cells) _ _ r c (new_past ∙ sym old_past)
            ∙ ap (λ l. cell_in l r c) (split_around cells i at.in_range);
      })

  pub sparse_set : (ch width first : ℕ) → ch < 128 → IsSparse width first cells → col < width → first ≤ row * width + col → IsSparse width first (set cells i (new_cell row col ch))
  sparse_set ch width first ascii sparse inside behind = record {
    ordered = ordered_set ch;
    inside = All-set (λ x. x.col < width) cells i _ inside sparse.inside;
    ascii = All-set (λ x. x.ch < 128) cells i _ ascii sparse.ascii;
    behind = All-set (λ x. first ≤ x.row * width + x.col) cells i _ behind sparse.behind;
  }

-- ---- a character and a blank where no cell stands

module _ (cells : List Cell) (row col i : ℕ) (gap : IsGapFor cells row col i) where
  pub written_nothing : cell_in cells ≡ cells_with (cell_in cells) row col blank
  written_nothing = written_from row col blank cells cells (record { here = cell_in_gap cells row col i gap; elsewhere = λ r c other. refl })

  module _ (ordered : IsInOrder cells) (ch : ℕ) where
    abbrev inserted : List Cell
    inserted = insert cells i (new_cell row col ch)

    inserted_below : (k : ℕ) → k < i → cell_at inserted k ≡ cell_at cells k
    inserted_below k below = get_or-insert_below cells i _ _ k below gap.in_range

    inserted_here : cell_at inserted i ≡ new_cell row col ch
    inserted_here = get_or-insert_at cells i _ _ gap.in_range

    inserted_above : (k : ℕ) → i < k → cell_at inserted k ≡ cell_at cells (k - 1)
    inserted_above k above =
        let e : k - 1 + 1 ≡ k = omega arith in
        subst (λ n. cell_at inserted n ≡ cell_at cells (k - 1)) e (get_or-insert_above cells i _ _ (k - 1) (omega arith) gap.in_range)

    -- each cell below the new one stands before each later one
    before_from_below : (a b : ℕ) → a < i → a < b → b < length inserted → IsBefore (cell_at cells a).row (cell_at cells a).col (cell_at inserted b).row (cell_at inserted b).col
    before_from_below a b low below within =
        let size : length inserted ≡ length cells + 1 = length-insert cells i _ gap.in_range in
        elim (cases_lt b i) [
          | inl lower ↦ rw (inserted_below b lower) (ordered a b _ below (omega (arith, gap.in_range)))
          | inr up ↦ elim (cases_eq b i) [
            | inl here ↦ rw (here, inserted_here) (gap.before a low)
            | inr other ↦ rw (inserted_above b (omega arith)) (ordered a (b - 1) _ (omega arith) (omega arith))
          ]
        ]

    -- and so do the new one and those above it
    before_from_up : (a b : ℕ) → i ≤ a → a < b → b < length inserted → IsBefore (cell_at inserted a).row (cell_at inserted a).col (cell_at inserted b).row (cell_at inserted b).col
    before_from_up a b up below within =
        let size : length inserted ≡ length cells + 1 = length-insert cells i _ gap.in_range in
        elim (cases_eq a i) [
          | inl here ↦ rw (here, inserted_here, inserted_above b (omega arith)) (gap.behind (b - 1) (omega arith) (omega arith))
          | inr other ↦ rw (inserted_above a (omega arith), inserted_above b (omega arith)) (ordered (a - 1) (b - 1) _ (omega arith) (omega arith))
        ]

    pub ordered_insert : IsInOrder inserted
    ordered_insert = in_order_from inserted (λ a b below within.
        elim (cases_lt a i) [
          | inl lower ↦ rw (inserted_below a lower) (before_from_below a b lower below within)
          | inr up ↦ before_from_up a b up below within
        ])

    pub written_insert : cell_in inserted ≡ cells_with (cell_in cells) row col ch
    written_insert =
        let at_new : IsAt inserted row col i = record { in_range = omega (arith, length-insert cells i (new_cell row col ch) gap.in_range, gap.in_range); row_is = ap (λ x. x.row) inserted_here; col_is = ap (λ x. x.col) inserted_here } in
        written_from row col ch cells inserted (record {
          here = cell_in_at inserted ordered_insert row col i at_new ∙ ap (λ x. x.ch) inserted_here;
          elsewhere = λ r c other.
              let new_past : cell_in (new_cell row col ch ∷ drop i cells) r c ≡ cell_in (drop i cells) r c = cell_in-past _ _ r c (stands_elsewhere _ row col r c (record { row_is = refl; col_is = refl }) other) in
              cell_in-same_front (take i cells) _ _ r c new_past ∙ ap (λ l. cell_in l r c) (take-append-drop i cells);
        })

    pub sparse_insert : (width first : ℕ) → ch < 128 → IsSparse width first cells → col < width → first ≤ row * width + col → IsSparse width first inserted
    sparse_insert width first ascii sparse within behind = record {
      ordered = ordered_insert;
      inside = let P : Cell → Type 0 = λ x. x.col < width in All-append P _ _ (All-take P i cells sparse.inside) (All-cons P _ _ within (All-drop P i cells sparse.inside));
      ascii = let P : Cell → Type 0 = λ x. x.ch < 128 in All-append P _ _ (All-take P i cells sparse.ascii) (All-cons P _ _ ascii (All-drop P i cells sparse.ascii));
      behind = let P : Cell → Type 0 = λ x. first ≤ x.row * width + x.col in All-append P _ _ (All-take P i cells sparse.behind) (All-cons P _ _ behind (All-drop P i cells sparse.behind));
    }
