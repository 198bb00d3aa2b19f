-- What is shown of cells once the first rows are dropped.
use Rattle.std.proofs.Common.{◌≡◌, ℕ, ◌+◌, ◌-◌, ◌*◌, ◌/◌, ◌%◌, ◌<◌, ◌≤◌, suc, min, ◌&&◌, eqb, if◌then◌else◌, List, [], ◌∷◌, ◌++◌, length, map, take, drop, get_or, refl, sym, ap, ◌∙◌, arith, inl, inr}
use Rattle.std.specs.List.{All}
use Rattle.std.proofs.Math.Path.{fun_ext}
use Rattle.std.proofs.Math.Nat.{add-mul, min-eq_left, min-eq_right}
use Rattle.std.proofs.lemmas.Bool.{cases_eq, cases_lt, eq-eqb, ne_eqb}
use Rattle.std.proofs.lemmas.List.{get_or-take, get_or-drop, get_or-map, get_or_default, length-take-le, length-drop, length-map, take-append-drop}
use Rattle.std.proofs.lemmas.List.Elements.{All-head, All-tail, All-drop, All-map}
use Rattle.tw_surface.specs.declared.screen.far.Cell.{Cell}
use Rattle.tw_surface.specs.Pictures.{blank}
use Rattle.tw_surface.specs.Cells.{cell_in, cell_at, shown_at, higher_cell, IsBefore, IsInOrder, IsPartedAt, IsSparse, IsTrimmed, AreEnded}
use Rattle.tw_surface.proofs.CellLookups.{StandsAt, NoneAtBefore, cell_in-past}
use Rattle.std.proofs.lemmas.Nat.{mod_below, div-add-mod'}
use Rattle.tw_surface.proofs.LineOfCells.{below_row}
use Rattle.tw_surface.proofs.NearCells.{shown_near, shown_far}

-- ---- far cells

-- cells that all stand elsewhere are passed over
cell_in-behind : (front cells : List Cell) (row col : ℕ) → NoneAtBefore front (length front) row col → cell_in (front ++ cells) row col ≡ cell_in cells row col
cell_in-behind [] cells row col none = refl
cell_in-behind (cell ∷ front) cells row col none =
    cell_in-past cell (front ++ cells) row col (none 0 (omega arith)) ∙ cell_in-behind front cells row col (λ k below. none (suc k) (omega arith))

-- a row less k is another one where it is that one k rows below
raised_row-eqb : (row k r : ℕ) → k ≤ row → eqb (row - k) r ≡ eqb row (r + k)
raised_row-eqb row k r low = elim (cases_eq row (r + k)) [
  | inl e ↦ rw (eq-eqb row (r + k) e, eq-eqb (row - k) r (omega (arith, e))) refl
  | inr n ↦ rw (ne_eqb row (r + k) n, ne_eqb (row - k) r (λ e. n (omega (arith, e)))) refl
]

-- raised cells show what stood below
cell_in-higher_cell : (k : ℕ) (cells : List Cell) (r c : ℕ) → All (λ x. k ≤ x.row) cells → cell_in (map (higher_cell k) cells) r c ≡ cell_in cells (r + k) c
cell_in-higher_cell k [] r c low = refl
cell_in-higher_cell k (cell ∷ cells) r c low =
    ap (λ e. if e && eqb cell.col c then cell.ch else cell_in (map (higher_cell k) cells) r c) (raised_row-eqb cell.row k r (All-head (λ x. k ≤ x.row) cell cells low))
    ∙ ap (λ x. if eqb cell.row (r + k) && eqb cell.col c then cell.ch else x) (cell_in-higher_cell k cells r c (All-tail (λ x. k ≤ x.row) cell cells low))

module _ (cells : List Cell) (rows i : ℕ) (parted : IsPartedAt cells rows i) where
  -- the cells from there on stand in the row or below
  pub low_enough : All (λ x. rows ≤ x.row) (drop i cells)
  low_enough = λ k d below.
      let size : length (drop i cells) ≡ length cells - i = length-drop i cells in
      let place : get_or (drop i cells) k d ≡ cell_at cells (i + k) = get_or-drop i cells k d ∙ get_or_default cells (i + k) d _ (omega arith) in
      rw place (parted.others (i + k) (omega arith) (omega arith))

  -- the others stand above
  dropped_none : (r c : ℕ) → NoneAtBefore (take i cells) (length (take i cells)) (r + rows) c
  dropped_none r c k below there =
      let size : length (take i cells) ≡ i = length-take-le i cells parted.in_range in
      let place : cell_at (take i cells) k ≡ cell_at cells k = get_or-take i cells k _ (omega arith) in
      let stands : StandsAt (cell_at cells k) (r + rows) c = rw place at there in
      let above = parted.above k (omega arith) in
      omega (arith, above, stands.row_is)

  -- so dropping them and raising the others shows what stood below
  pub raised_drop : cell_in (map (higher_cell rows) (drop i cells)) ≡ (λ r c. cell_in cells (r + rows) c)
  raised_drop = fun_ext (λ r. fun_ext (λ c.
      cell_in-higher_cell rows (drop i cells) r c low_enough
      ∙ sym (cell_in-behind (take i cells) (drop i cells) (r + rows) c (dropped_none r c))
      ∙ ap (λ l. cell_in l (r + rows) c) (take-append-drop i cells)))

  -- their order and their places
  raised_order : IsInOrder cells → IsInOrder (map (higher_cell rows) (drop i cells))
  raised_order ordered a b d before within =
      let size : length (map (higher_cell rows) (drop i cells)) ≡ length (drop i cells) = length-map (drop i cells) (higher_cell rows) in
      let less : length (drop i cells) ≡ length cells - i = length-drop i cells in
      let first : get_or (map (higher_cell rows) (drop i cells)) a d ≡ higher_cell rows (get_or (drop i cells) a d) = get_or-map (higher_cell rows) (drop i cells) a d d (omega arith) in
      let second : get_or (map (higher_cell rows) (drop i cells)) b d ≡ higher_cell rows (get_or (drop i cells) b d) = get_or-map (higher_cell rows) (drop i cells) b d d (omega arith) in
      let was : IsBefore (get_or (drop i cells) a d).row (get_or (drop i cells) a d).col (get_or (drop i cells) b d).row (get_or (drop i cells) b d).col =
      rw (get_or-drop i cells a d, get_or-drop i cells b d) (ordered (i + a) (i + b) d (omega arith) (omega arith)) in
      let low = low_enough a d (omega arith) in
      let low' = low_enough b d (omega arith) in
      rw (first, second) (record { rows = omega (arith, was.rows); columns = λ same. was.columns (omega (arith, same, low, low', was.rows)) })

  raised_behind : (width first : ℕ) → All (λ x. first ≤ x.row * width + x.col) cells
      → All (λ x. first - rows * width ≤ x.row * width + x.col) (map (higher_cell rows) (drop i cells))
  raised_behind width first behind = All-map (λ x. first - rows * width ≤ x.row * width + x.col) (higher_cell rows) (drop i cells) (λ k d below.
      let low : rows ≤ (get_or (drop i cells) k d).row = low_enough k d below in
      let from : first ≤ (get_or (drop i cells) k d).row * width + (get_or (drop i cells) k d).col = All-drop (λ x. first ≤ x.row * width + x.col) i cells behind k d below in
      let split : (get_or (drop i cells) k d).row ≡ (get_or (drop i cells) k d).row - rows + rows = omega arith in
      let product : (get_or (drop i cells) k d).row * width ≡ ((get_or (drop i cells) k d).row - rows) * width + rows * width =
      ap (λ n. n * width) split ∙ add-mul ((get_or (drop i cells) k d).row - rows) rows width in
      omega (arith, from, product))

  -- the last one is as visible as it was
  pub ended_raised : AreEnded cells → AreEnded (map (higher_cell rows) (drop i cells))
  ended_raised ended some =
      let zeros : Cell = record { row = 0; col = 0; ch = 0 } in
      let new = map (higher_cell rows) (drop i cells) in
      let size : length new ≡ length (drop i cells) = length-map (drop i cells) (higher_cell rows) in
      let less : length (drop i cells) ≡ length cells - i = length-drop i cells in
      let raised : cell_at new (length new - 1) ≡ higher_cell rows (cell_at (drop i cells) (length new - 1)) = get_or-map (higher_cell rows) (drop i cells) (length new - 1) zeros zeros (omega arith) in
      let last : cell_at (drop i cells) (length new - 1) ≡ cell_at cells (i + (length new - 1)) = get_or-drop i cells (length new - 1) zeros in
      let at : i + (length new - 1) ≡ length cells - 1 = omega (arith, size, less, some) in
      λ e. ended (omega (arith, size, less, some)) (ap (λ n. (cell_at cells n).ch) (sym at) ∙ sym (ap (λ x. x.ch) last) ∙ sym (ap (λ x. x.ch) raised) ∙ e)

  pub sparse_raised : (width first : ℕ) → IsSparse width first cells → IsSparse width (first - rows * width) (map (higher_cell rows) (drop i cells))
  sparse_raised width first sparse = record {
    ordered = raised_order sparse.ordered;
    inside = All-map (λ x. x.col < width) (higher_cell rows) (drop i cells) (All-drop (λ x. x.col < width) i cells sparse.inside);
    ascii = All-map (λ x. x.ch < 128) (higher_cell rows) (drop i cells) (All-drop (λ x. x.ch < 128) i cells sparse.ascii);
    behind = raised_behind width first sparse.behind;
  }

-- ---- near and far cells

module _ (width rows count : ℕ) (near : List ℕ) (far new : List Cell) (is : count ≡ min (rows * width) (length near))
    (raised_far : cell_in new ≡ (λ r c. cell_in far (r + rows) c)) where
  dropped_size : length (drop count near) ≡ length near - rows * width
  dropped_size = elim (cases_lt (rows * width) (length near)) [
    | inl some ↦ length-drop count near ∙ omega (arith, is, min-eq_left {n = rows * width} {m = length near} (omega arith))
    | inr all ↦ length-drop count near ∙ omega (arith, is, min-eq_right {n = length near} {m = rows * width} all)
  ]

  far_up : (r c : ℕ) → cell_in new r c ≡ cell_in far (r + rows) c
  far_up r c = ap (λ f. f r c) raised_far

  raised_cell : (r c : ℕ) → shown_at width (drop count near) new r c ≡ shown_at width near far (r + rows) c
  raised_cell r c =
      let product : (r + rows) * width ≡ r * width + rows * width = add-mul r rows width in
      elim (cases_lt c width) [
        | inr outside ↦ shown_far width (drop count near) new r c (λ h. absurd (omega arith)) ∙ far_up r c
            ∙ sym (shown_far width near far (r + rows) c (λ h. absurd (omega arith)))
        | inl left ↦ elim (cases_lt ((r + rows) * width + c) (length near)) [
          | inl low ↦
              let all : count ≡ rows * width = is ∙ min-eq_left {n = rows * width} {m = length near} (omega (arith, product)) in
              shown_near width (drop count near) new r c left (omega (arith, dropped_size, product)) ∙ get_or-drop count near (r * width + c) 0
              ∙ ap (λ k. get_or near k 0) (omega (arith, all, product)) ∙ sym (shown_near width near far (r + rows) c left low)
          | inr high ↦ shown_far width (drop count near) new r c (λ h. omega (arith, dropped_size, product)) ∙ far_up r c
              ∙ sym (shown_far width near far (r + rows) c (λ h. high))
        ]
      ]

  -- the near cells of the first rows are dropped, and the far ones are raised
  pub shown_raised : shown_at width (drop count near) new ≡ (λ r c. shown_at width near far (r + rows) c)
  shown_raised = fun_ext (λ r. fun_ext (λ c. raised_cell r c))

  pub sparse_dropped : IsSparse width (length near - rows * width) new → IsSparse width (length (drop count near)) new
  sparse_dropped sparse = rw dropped_size sparse

-- where the first near cells are dropped, the last one is as it was
pub trimmed_drop : (near : List ℕ) (n : ℕ) → IsTrimmed near → IsTrimmed (drop n near)
trimmed_drop near n trimmed some =
    let size : length (drop n near) ≡ length near - n = length-drop n near in
    λ e. trimmed (omega arith) (ap (λ k. get_or near k 0) (omega arith) ∙ sym (get_or-drop n near (length (drop n near) - 1) 0) ∙ e)

-- near cells that end in no blank have no row of blanks
pub trimmed_rows : (width : ℕ) (near : List ℕ) (far : List Cell) (h : ℕ) → 0 < width → IsTrimmed near
    → ((r c : ℕ) → h ≤ r → shown_at width near far r c ≡ blank) → length near ≤ h * width
trimmed_rows width near far h positive trimmed blanks =
    elim (cases_lt (h * width) (length near)) [
      | inr most ↦ most
      | inl more ↦
          let at : ℕ = length near - 1 in
          let place : at / width * width + at % width ≡ at = div-add-mod' at width in
          let inside : at % width < width = mod_below at width positive in
          let low : h ≤ at / width = elim (cases_lt (at / width) h) [
            | inl above ↦ absurd (let less : at / width * width + at % width < h * width = below_row width (at / width) (at % width) h above inside in omega arith)
            | inr below ↦ below
          ] in
          absurd (trimmed (omega arith) (ap (λ k. get_or near k 0) (sym place) ∙ sym (shown_near width near far (at / width) (at % width) inside (omega arith)) ∙ blanks (at / width) (at % width) low))
    ]

-- the least of a number that is kept below a limit and one below that limit
pub kept_min : (n kept most len count size : ℕ) → kept ≡ min n most → count ≡ min kept len → len ≡ size → size ≤ most → count ≡ min n size
kept_min n kept most len count size k c l below =
    elim (cases_lt n most) [
      | inl low ↦ c ∙ ap (λ x. min x len) (k ∙ min-eq_left {n = n} {m = most} (omega arith)) ∙ ap (min n) l
      | inr high ↦ c ∙ ap (λ x. min x len) (k ∙ min-eq_right {n = most} {m = n} high) ∙ ap (min most) l
          ∙ min-eq_right {n = size} {m = most} below ∙ sym (min-eq_right {n = size} {m = n} (omega arith))
    ]
