-- What near and far cells show together, and what writing, clearing and more room do to it.
use Rattle.std.specs.List.{All}
use Rattle.std.proofs.Common.{add-zero, zero, suc, ◌≡◌, ◌⊎◌, ℕ, ◌+◌, ◌*◌, ◌-◌, ◌/◌, ◌%◌, min, Some, false, if◌then◌else◌, ◌<◌, ◌≤◌, ◌&&◌, ◌||◌, eqb, ltb, leb, List, [], ◌∷◌, ◌++◌, length, set, take, drop, get_or, replicate, refl, sym, ap, ap₂, ◌∙◌, arith, inl, inr}
use Rattle.std.proofs.Math.Path.{fun_ext}
use Rattle.std.proofs.lemmas.Bool.{cases_eq, cases_lt, eq-eqb, ne_eqb, lt-ltb, le-ltb, le-leb, lt-leb, and_right}
use Rattle.std.proofs.lemmas.List.{get_or-set_same, get_or-set_other, length-set, length-append, length-replicate, get_or_append_left, get_or-append_right, get_or-replicate, get_or-take, get_or-drop, take_all, length-take, length-drop, take-append-drop, ext_get_or, append-nil, append_assoc, replicate-append-replicate}
use Rattle.std.proofs.lemmas.List.Elements.{All-nil, All-weaker, All-append, All-replicate, All-from_get_or}
use Rattle.std.proofs.lemmas.List.FromFn.{fill_by_all, map-range_with_len_more}
use Rattle.std.proofs.lemmas.Nat.{mod_below, div-add-mod'}
use Rattle.std.proofs.Math.Nat.{min-eq_left, min-eq_right, min-le_left, min-le_right, le-min}
use Rattle.tw_surface.specs.declared.screen.far.Cell.{Cell}
use Rattle.tw_surface.specs.Pictures.{blank, cells_with, cells_cleared_from}
use Rattle.tw_surface.specs.Cells.{cell_in, cell_at, ended_rows, shown_at, row_of, AddsPart, IsSparse, AreSoundCells, IsGrown, IsLastRow, AreEnded}
use Rattle.tw_surface.specs.ScreenSteps.{AreNearFrom}
use Rattle.tw_surface.proofs.LineOfCells.{same_cell, behind, next_row, below_row}
use Rattle.tw_surface.proofs.CellLookups.{cell_in-none, cell_in_at, cell_ascii}
use Rattle.tw_surface.proofs.CellClears.{blank_outside, last_row_is}

-- a place among the near cells
pub shown_near : (width : ℕ) (near : List ℕ) (far : List Cell) (row col : ℕ) → col < width → row * width + col < length near
    → shown_at width near far row col ≡ get_or near (row * width + col) 0
shown_near width near far row col inside within = rw (lt-ltb col width inside, lt-ltb (row * width + col) (length near) within) refl

-- any other place
pub shown_far : (width : ℕ) (near : List ℕ) (far : List Cell) (row col : ℕ) → (col < width → length near ≤ row * width + col)
    → shown_at width near far row col ≡ cell_in far row col
shown_far width near far row col past =
    elim (cases_lt col width) [
      | inl inside ↦ rw (lt-ltb col width inside, le-ltb (row * width + col) (length near) (past inside)) refl
      | inr outside ↦ rw (le-ltb col width outside) refl
    ]

-- a number that is kept below a limit, and is less, is the number
pub place_within : (place kept most : ℕ) → kept ≡ min place most → kept < most → kept ≡ place
place_within place kept most is below =
    elim (cases_lt place most) [
      | inl low ↦ is ∙ min-eq_left {n = place} {m = most} (omega arith)
      | inr high ↦ absurd (let e : min place most ≡ most = min-eq_right {n = most} {m = place} high in omega arith)
    ]

-- taking as many elements as a number that is kept below a limit, above all lengths
pub take_within : (near : List ℕ) (place kept most : ℕ) → kept ≡ min place most → length near ≤ most → take kept near ≡ take place near
take_within near place kept most is below =
    elim (cases_lt place most) [
      | inl low ↦ ap (λ n. take n near) (is ∙ min-eq_left {n = place} {m = most} (omega arith))
      | inr high ↦
          let e : min place most ≡ most = min-eq_right {n = most} {m = place} high in
          take_all kept near (omega arith) ∙ sym (take_all place near (omega arith))
    ]

-- a write shows nothing in another column
written_column : (cell : ℕ → ℕ → ℕ) (row col ch r c : ℕ) → (c ≡ col → ⊥) → cells_with cell row col ch r c ≡ cell r c
written_column cell row col ch r c other = rw (and_right (eqb r row) (eqb c col) (ne_eqb c col other)) refl

-- inside the width, a write shows by its place
written_place : (width : ℕ) (cell : ℕ → ℕ → ℕ) (row col ch r c : ℕ) → c < width → col < width → (r * width + c ≡ row * width + col → ⊥)
    → cells_with cell row col ch r c ≡ cell r c
written_place width cell row col ch r c inside within other =
    rw (same_cell width r c row col inside within, ne_eqb (r * width + c) (row * width + col) other) refl

written_here : (width : ℕ) (cell : ℕ → ℕ → ℕ) (row col ch r c : ℕ) → c < width → col < width → r * width + c ≡ row * width + col
    → cells_with cell row col ch r c ≡ ch
written_here width cell row col ch r c inside within same =
    rw (same_cell width r c row col inside within, eq-eqb (r * width + c) (row * width + col) same) refl

module _ (width : ℕ) (near : List ℕ) (far : List Cell) (row col ch : ℕ) (inside : col < width) where
  -- ---- a write

  near_write : row * width + col < length near → (r c : ℕ) → shown_at width (set near (row * width + col) ch) far r c ≡ cells_with (shown_at width near far) row col ch r c
  near_write within r c =
      let new : List ℕ = set near (row * width + col) ch in
      let size : length new ≡ length near = length-set near _ _ in
      elim (cases_lt c width) [
        | inr outside ↦ shown_far width new far r c (λ h. absurd (omega arith)) ∙ sym (shown_far width near far r c (λ h. absurd (omega arith)))
            ∙ sym (written_column (shown_at width near far) row col ch r c (λ e. omega arith))
        | inl left ↦ elim (cases_eq (r * width + c) (row * width + col)) [
          | inl same ↦ shown_near width new far r c left (omega arith) ∙ ap (λ k. get_or new k 0) same ∙ get_or-set_same near _ ch 0 within
              ∙ sym (written_here width (shown_at width near far) row col ch r c left inside same)
          | inr other ↦ elim (cases_lt (r * width + c) (length near)) [
            | inl low ↦ shown_near width new far r c left (omega arith) ∙ get_or-set_other near _ _ ch 0 other ∙ sym (shown_near width near far r c left low)
                ∙ sym (written_place width (shown_at width near far) row col ch r c left inside other)
            | inr high ↦ shown_far width new far r c (λ h. omega arith) ∙ sym (shown_far width near far r c (λ h. high))
                ∙ sym (written_place width (shown_at width near far) row col ch r c left inside other)
          ]
        ]
      ]

  pub written_near : row * width + col < length near → shown_at width (set near (row * width + col) ch) far ≡ cells_with (shown_at width near far) row col ch
  written_near within = fun_ext (λ r. fun_ext (λ c. near_write within r c))

  far_write : (new : List Cell) → length near ≤ row * width + col → cell_in new ≡ cells_with (cell_in far) row col ch → (r c : ℕ)
      → shown_at width near new r c ≡ cells_with (shown_at width near far) row col ch r c
  far_write new past is r c =
      elim (cases_lt c width) [
        | inr outside ↦ shown_far width near new r c (λ h. absurd (omega arith)) ∙ ap (λ f. f r c) is ∙ written_column (cell_in far) row col ch r c (λ e. omega arith)
            ∙ sym (shown_far width near far r c (λ h. absurd (omega arith))) ∙ sym (written_column (shown_at width near far) row col ch r c (λ e. omega arith))
        | inl left ↦ elim (cases_lt (r * width + c) (length near)) [
          | inl low ↦ shown_near width near new r c left low ∙ sym (shown_near width near far r c left low)
              ∙ sym (written_place width (shown_at width near far) row col ch r c left inside (λ e. omega arith))
          | inr high ↦ shown_far width near new r c (λ h. high) ∙ ap (λ f. f r c) is ∙ elim (cases_eq (r * width + c) (row * width + col)) [
            | inl same ↦ written_here width (cell_in far) row col ch r c left inside same ∙ sym (written_here width (shown_at width near far) row col ch r c left inside same)
            | inr other ↦ written_place width (cell_in far) row col ch r c left inside other ∙ sym (shown_far width near far r c (λ h. high))
                ∙ sym (written_place width (shown_at width near far) row col ch r c left inside other)
          ]
        ]
      ]

  pub written_far : (new : List Cell) → length near ≤ row * width + col → cell_in new ≡ cells_with (cell_in far) row col ch
      → shown_at width near new ≡ cells_with (shown_at width near far) row col ch
  written_far new past is = fun_ext (λ r. fun_ext (λ c. far_write new past is r c))

-- ---- more room, and less

-- no far cell stands before the first place
pub blank_before : (width first : ℕ) (far : List Cell) (r c : ℕ) → IsSparse width first far → r * width + c < first → cell_in far r c ≡ blank
blank_before width first far r c sparse before =
    cell_in-none far r c (λ k within there.
    let behind : first ≤ (cell_at far k).row * width + (cell_at far k).col = sparse.behind k (record { row = 0; col = 0; ch = 0 }) within in
    absurd (omega (arith, (rw (there.row_is, there.col_is) at behind))))

grown_cell : (width more : ℕ) (near : List ℕ) (far : List Cell) (r c : ℕ) → IsSparse width (length near + more) far
    → shown_at width (near ++ replicate more blank) far r c ≡ shown_at width near far r c
grown_cell width more near far r c sparse =
    let new : List ℕ = near ++ replicate more blank in
    let size : length new ≡ length near + more = length-append near (replicate more blank) ∙ ap (λ n. length near + n) (length-replicate more blank) in
    elim (cases_lt c width) [
      | inr outside ↦ shown_far width new far r c (λ h. absurd (omega arith)) ∙ sym (shown_far width near far r c (λ h. absurd (omega arith)))
      | inl left ↦ elim (cases_lt (r * width + c) (length near)) [
        | inl low ↦ shown_near width new far r c left (omega arith) ∙ get_or_append_left near (replicate more blank) 0 _ low ∙ sym (shown_near width near far r c left low)
        | inr high ↦ sym (shown_far width near far r c (λ h. high) ∙ sym (elim (cases_lt (r * width + c) (length new)) [
          | inl low ↦ shown_near width new far r c left low ∙ get_or-append_right near (replicate more blank) (length near) _ 0 refl high ∙ get_or-replicate more _ blank 0 (omega arith)
              ∙ sym (blank_before width (length near + more) far r c sparse (omega arith))
          | inr past ↦ shown_far width new far r c (λ h. past)
        ]))
      ]
    ]

-- blanks after the near cells show what was shown, where the far ones stand after them
pub shown_grown : (width : ℕ) (old new : List ℕ) (far : List Cell) → IsGrown old new → IsSparse width (length new) far → shown_at width new far ≡ shown_at width old far
shown_grown width old new far grown sparse =
    let size : length new ≡ length old + grown.more = rw grown.grown (length-append old (replicate grown.more blank) ∙ ap (λ n. length old + n) (length-replicate grown.more blank)) in
    let stands : IsSparse width (length old + grown.more) far = rw size at sparse in
    rw grown.grown (fun_ext (λ r. fun_ext (λ c. grown_cell width grown.more old far r c stands)))

pub length_grown : (old new : List ℕ) → IsGrown old new → length old ≤ length new
length_grown old new grown = omega (arith, ap length grown.grown, length-append old (replicate grown.more blank))

-- and are of ASCII
pub ascii_grown : (old new : List ℕ) → IsGrown old new → All (λ b. b < 128) old → All (λ b. b < 128) new
ascii_grown old new grown ascii = rw grown.grown (All-append (λ b. b < 128) old (replicate grown.more blank) ascii (All-replicate (λ b. b < 128) grown.more blank (omega arith)))

pub ascii_trimmed : (old new : List ℕ) → IsGrown new old → All (λ b. b < 128) old → All (λ b. b < 128) new
ascii_trimmed old new grown ascii k d within =
    let here : get_or old k d ≡ get_or new k d = rw grown.grown (get_or_append_left new (replicate grown.more blank) d k within) in
    rw (← here) (ascii k d (omega (arith, length_grown new old grown)))

-- near cells without the blanks that they end in
pub trimmed_at : (near : List ℕ) (end : ℕ) → end ≤ length near → ((k : ℕ) → end ≤ k → k < length near → get_or near k 0 ≡ blank) → IsGrown (take end near) near
trimmed_at near end within blanks =
    let rest : drop end near ≡ replicate (length near - end) blank =
    ext_get_or 0 (drop end near) (replicate (length near - end) blank) (length-drop end near ∙ sym (length-replicate (length near - end) blank))
    (λ k below. get_or-drop end near k 0 ∙ blanks (end + k) (omega arith) (omega (arith, length-drop end near)) ∙ sym (get_or-replicate (length near - end) k blank 0 (omega (arith, length-drop end near)))) in
    record { more = length near - end; grown = sym (take-append-drop end near) ∙ ap (λ l. take end near ++ l) rest }

-- ---- a clear

-- a cell is after the cursor's, which may wait after the last column
behind_cursor : (w row col r c : ℕ) → col ≤ w → c < w → (ltb row r || (eqb row r && leb col c)) ≡ leb (row * w + col) (r * w + c)
behind_cursor w row col r c most inside =
    elim (cases_lt col w) [
      | inl left ↦ behind w row col r c left inside
      | inr waits ↦
          let e : col ≡ w = omega arith in
          let none : (eqb row r && leb col c) ≡ false = and_right (eqb row r) (leb col c) (lt-leb col c (omega arith)) in
          let next : (row + 1) * w + 0 ≡ row * w + w + 0 = next_row row w 0 in
          elim (cases_lt row r) [
            | inl above ↦ rw (lt-ltb row r above) (sym (le-leb _ _ (elim (cases_eq r (row + 1)) [
              | inl one ↦ rw one (omega arith)
              | inr more ↦ let far : (row + 1) * w + 0 < r * w = below_row w (row + 1) 0 r (omega arith) (omega arith) in omega arith
            ])))
            | inr not_above ↦ rw (le-ltb row r not_above, none) (sym (lt-leb _ _ (elim (cases_eq r row) [
              | inl one ↦ rw one (omega arith)
              | inr less ↦ let low : r * w + c < row * w = below_row w r c row (omega arith) inside in omega arith
            ])))
          ]
    ]

module _ (width : ℕ) (near : List ℕ) (far new : List Cell) (row col : ℕ) (most : col ≤ width) (is : cell_in new ≡ cells_cleared_from (cell_in far) row col) where
  abbrev kept : List ℕ
  kept = take (row * width + col) near

  size_kept : length kept ≡ min (row * width + col) (length near)
  size_kept = length-take (row * width + col) near

  -- outside the width only far cells show
  cleared_outside : (r c : ℕ) → width ≤ c → shown_at width kept new r c ≡ cells_cleared_from (shown_at width near far) row col r c
  cleared_outside r c outside =
      shown_far width kept new r c (λ h. absurd (omega arith)) ∙ ap (λ f. f r c) is
      ∙ ap (λ ch. if ltb row r || (eqb row r && leb col c) then blank else ch) (sym (shown_far width near far r c (λ h. absurd (omega arith))))

  cleared_inside : (r c : ℕ) → c < width → shown_at width kept new r c ≡ cells_cleared_from (shown_at width near far) row col r c
  cleared_inside r c left =
      let by_place = behind_cursor width row col r c most left in
      elim (cases_lt (r * width + c) (row * width + col)) [
        | inl before ↦ elim (cases_lt (r * width + c) (length near)) [
          | inl low ↦ rw (by_place, lt-leb _ _ before)
              (shown_near width kept new r c left (let both : r * width + c + 1 ≤ min (row * width + col) (length near) = le-min (omega arith) (omega arith) in omega (arith, size_kept)) ∙ get_or-take _ near _ 0 before ∙ sym (shown_near width near far r c left low))
          | inr high ↦ rw (by_place, lt-leb _ _ before)
              (shown_far width kept new r c (λ h. omega (arith, size_kept, min-le_right (row * width + col) (length near))) ∙ ap (λ f. f r c) is
              ∙ rw (by_place, lt-leb _ _ before) (sym (shown_far width near far r c (λ h. high))))
        ]
        | inr after ↦ rw (by_place, le-leb _ _ after)
            (shown_far width kept new r c (λ h. omega (arith, size_kept, min-le_left (row * width + col) (length near))) ∙ ap (λ f. f r c) is ∙ rw (by_place, le-leb _ _ after) refl)
      ]

  pub cleared_kept : shown_at width kept new ≡ cells_cleared_from (shown_at width near far) row col
  cleared_kept = fun_ext (λ r. fun_ext (λ c. elim (cases_lt c width) [ inl inside ↦ cleared_inside r c inside | inr outside ↦ cleared_outside r c outside ]))

-- with fewer near cells, the far ones stand after them still
pub sparse_behind : (width first less : ℕ) (far : List Cell) → less ≤ first → IsSparse width first far → IsSparse width less far
sparse_behind width first less far fewer sparse = record {
  ordered = sparse.ordered;
  inside = sparse.inside;
  ascii = sparse.ascii;
  behind = All-weaker (λ x. first ≤ x.row * width + x.col) (λ x. less ≤ x.row * width + x.col) (λ x from. omega (arith, from, fewer)) far sparse.behind;
}

pub sparse_kept : (width : ℕ) (near : List ℕ) (far : List Cell) (n : ℕ) → IsSparse width (length near) far → IsSparse width (length (take n near)) far
sparse_kept width near far n sparse = sparse_behind width (length near) (length (take n near)) far (omega (arith, length-take n near, min-le_right n (length near))) sparse

-- and far cells that show the same leave all that is shown
pub shown_same : (width : ℕ) (near : List ℕ) (old new : List Cell) → cell_in new ≡ cell_in old → shown_at width near new ≡ shown_at width near old
shown_same width near old new same = fun_ext (λ r. fun_ext (λ c.
    ap (λ cell. if ltb c width && ltb (r * width + c) (length near) then get_or near (r * width + c) 0 else cell r c) same))

-- a screen without the blanks that its near cells end in
pub sound_trimmed : (width row col : ℕ) (near new : List ℕ) (far : List Cell) → IsGrown new near → AreSoundCells width row col near far → AreSoundCells width row col new far
sound_trimmed width row col near new far grown sound = record {
  width_above = sound.width_above;
  width_most = sound.width_most;
  row_most = sound.row_most;
  col_most = sound.col_most;
  ascii = ascii_trimmed near new grown sound.ascii;
  sparse = sparse_behind width (length near) (length new) far (length_grown new near grown) sound.sparse;
}

-- no far cells
pub sparse_none : (width first : ℕ) → IsSparse width first []
sparse_none width first = record {
  ordered = λ i j d below within. absurd (omega arith);
  inside = All-nil (λ x. x.col < width);
  ascii = All-nil (λ x. x.ch < 128);
  behind = All-nil (λ x. first ≤ x.row * width + x.col);
}

-- ---- look-ups

-- from the width on, a blank
pub shown_outside : (width : ℕ) (near : List ℕ) (far : List Cell) (row col : ℕ) → IsSparse width (length near) far → width ≤ col → shown_at width near far row col ≡ blank
shown_outside width near far row col sparse outside =
    shown_far width near far row col (λ h. absurd (omega arith)) ∙ blank_outside width (length near) far row col sparse outside

module _ (width : ℕ) (near : List ℕ) (positive : 0 < width) where
  -- the last near cell that is not a blank stands in the last row
  pub last_row_near : (at : ℕ) → at < length near → (get_or near at 0 ≡ blank → ⊥) → ((k : ℕ) → at < k → k < length near → get_or near k 0 ≡ blank)
      → IsLastRow (shown_at width near []) (Some (at / width))
  last_row_near at within visible blanks =
      let place : at / width * width + at % width ≡ at = div-add-mod' at width in
      let inside : at % width < width = mod_below at width positive in (
        (at % width, λ e. visible (sym (shown_near width near [] (at / width) (at % width) inside (omega arith) ∙ ap (λ k. get_or near k 0) place) ∙ e)),
        λ row col below.
            let later : at / width * width + at % width < row * width = below_row width (at / width) (at % width) row below inside in
            elim (cases_lt col width) [
              | inr outside ↦ shown_far width near [] row col (λ h. absurd (omega arith))
              | inl left ↦ elim (cases_lt (row * width + col) (length near)) [
                | inl low ↦ shown_near width near [] row col left low ∙ blanks _ (omega arith) low
                | inr high ↦ shown_far width near [] row col (λ h. high)
              ]
            ],
      )

  -- and the last far cell, if there is one
  pub last_row_far : (far : List Cell) → IsSparse width (length near) far → AreEnded far → 0 < length far → IsLastRow (shown_at width near far) (Some (cell_at far (length far - 1)).row)
  last_row_far far sparse ended some =
      let last = cell_at far (length far - 1) in
      let among : IsLastRow (cell_in far) (Some last.row) = last_row_is far sparse.ordered ended some in
      let behind : length near ≤ last.row * width + last.col = sparse.behind (length far - 1) (record { row = 0; col = 0; ch = 0 }) (omega arith) in
      let inside : last.col < width = sparse.inside (length far - 1) (record { row = 0; col = 0; ch = 0 }) (omega arith) in (
        (
          last.col,
          λ e. ended some
              (sym (cell_in_at far sparse.ordered last.row last.col (length far - 1) (record { in_range = omega arith; row_is = refl; col_is = refl }))
              ∙ sym (shown_far width near far last.row last.col (λ h. behind)) ∙ e),
        ),
        λ row col below.
            let later : last.row * width + last.col < row * width = below_row width last.row last.col row below inside in
            shown_far width near far row col (λ h. omega arith) ∙ among.1 row col below,
      )

-- all that is shown is of ASCII
pub shown_ascii : (width : ℕ) (near : List ℕ) (far : List Cell) (row col : ℕ) → All (λ b. b < 128) near → IsSparse width (length near) far → shown_at width near far row col < 128
shown_ascii width near far row col ascii sparse =
    elim (cases_lt col width) [
      | inl left ↦ elim (cases_lt (row * width + col) (length near)) [
        | inl low ↦ rw (shown_near width near far row col left low) (ascii _ 0 low)
        | inr high ↦ rw (shown_far width near far row col (λ h. high)) (cell_ascii far sparse.ascii row col)
      ]
      | inr outside ↦ rw (shown_far width near far row col (λ h. absurd (omega arith))) (cell_ascii far sparse.ascii row col)
    ]

-- ---- rows

-- near cells that stand in a row are its first characters
pub near_row_of : (width : ℕ) (near : List ℕ) (far : List Cell) (row : ℕ) (first : List ℕ) → length first ≤ width
    → ((k : ℕ) → k < length first → (row * width + k < length near) × (get_or first k 0 ≡ get_or near (row * width + k) 0))
    → first ≡ row_of (shown_at width near far) row (length first)
near_row_of width near far row first within is =
    fill_by_all (shown_at width near far row) first (length first) 0 refl
    (λ k below. (is k below).1 ∙ sym (shown_near width near far row k (omega arith) (is k below).0))

-- and are of ASCII where all are
pub near_row_ascii : (near cells : List ℕ) (at : ℕ) → AreNearFrom at near cells → All (λ b. b < 128) near → All (λ b. b < 128) cells
near_row_ascii near cells at are ascii = All-from_get_or (λ b. b < 128) cells 0 (λ k below. rw (are k below).1 (ascii (at + k) 0 (are k below).0))

-- one more column
pub row_more : (cell : ℕ → ℕ → ℕ) (row col : ℕ) → row_of cell row (col + 1) ≡ row_of cell row col ++ cell row col ∷ []
row_more cell row col = map-range_with_len_more (cell row) 0 col col (omega arith)

-- columns that are blank
pub row_blanks : (cell : ℕ → ℕ → ℕ) (row col more : ℕ) → ((k : ℕ) → col ≤ k → k < col + more → cell row k ≡ blank) → row_of cell row (col + more) ≡ row_of cell row col ++ replicate more blank
row_blanks cell row col zero blanks = rw add-zero (sym (append-nil (row_of cell row col)))
row_blanks cell row col (suc more) blanks =
    let next : col + suc more ≡ col + more + 1 = omega arith in
    let one : more + 1 ≡ suc more = omega arith in
    ap (λ n. row_of cell row n) next ∙ row_more cell row (col + more)
    ∙ ap (λ l. l ++ cell row (col + more) ∷ []) (row_blanks cell row col more (λ k from below. blanks k from (omega arith)))
    ∙ ap (λ ch. (row_of cell row col ++ replicate more blank) ++ ch ∷ []) (blanks (col + more) (omega arith) (omega arith))
    ∙ append_assoc (row_of cell row col) (replicate more blank) (blank ∷ [])
    ∙ ap (λ l. row_of cell row col ++ l) (replicate-append-replicate more 1 blank ∙ ap (λ n. replicate n blank) one)

-- ---- rows one after another

-- near cells are left from a row on, or too few for a row
abbrev pub AreLeft : (width row : ℕ) (near rest : List ℕ) → Type 0
AreLeft width row near rest = (length rest < width) ⊎ ((front : List ℕ) × (near ≡ front ++ rest) × (length front ≡ row * width))

pub none_passed : (width : ℕ) (near : List ℕ) → AreLeft width 0 near near
none_passed width near = inr ([], refl, omega arith)

module _ (width row : ℕ) (near rest cells more : List ℕ) (left : AreLeft width row near rest) (cut : rest ≡ cells ++ more) (len : length cells ≡ width) where
  parts : length rest ≡ width + length more
  parts = ap length cut ∙ length-append cells more ∙ ap (λ n. n + length more) len

  pub next_near : AreNearFrom (row * width) near cells
  next_near = elim left [
    | inl few ↦ absurd (omega (arith, few, parts))
    | inr (front, whole, size) ↦ λ k below.
        let inside = ap length whole ∙ length-append front rest in
        let here : get_or near (row * width + k) 0 ≡ get_or rest k 0 =
        ap (λ t. get_or t (row * width + k) 0) whole ∙ get_or-append_right front rest (row * width) (row * width + k) 0 size (omega arith) ∙ ap (λ n. get_or rest n 0) (omega arith) in
        (omega (arith, inside, size, parts, len), sym (here ∙ ap (λ t. get_or t k 0) cut ∙ get_or_append_left cells more 0 k below))
  ]

  pub next_left : AreLeft width (row + 1) near more
  next_left = elim left [
    | inl few ↦ absurd (omega (arith, few, parts))
    | inr (front, whole, size) ↦ inr (front ++ cells, whole ∙ ap (λ t. front ++ t) cut ∙ sym (append_assoc front cells more), length-append front cells ∙ ap₂ (λ m n. m + n) size len ∙ omega arith)
  ]

-- ended rows, one after another
module _ (cell : ℕ → ℕ → ℕ) (cols : ℕ) (end : List ℕ) where
  first_rows : (row more : ℕ) → (rest : List ℕ) × (ended_rows cell cols end (row + more) ≡ ended_rows cell cols end row ++ rest)
  first_rows row zero = ([], ap (ended_rows cell cols end) (add-zero row) ∙ sym (append-nil (ended_rows cell cols end row)))
  first_rows row (suc more) =
      let before = first_rows row more in
      let next : row + suc more ≡ suc (row + more) = omega arith in
      let last = row_of cell (row + more) cols in (
        (before.0 ++ last) ++ end,
        ap (ended_rows cell cols end) next ∙ ap (λ t. (t ++ last) ++ end) before.1 ∙ joined (ended_rows cell cols end row) before.0 last end,
      )
    where
      joined : (a b c d : List ℕ) → ((a ++ b) ++ c) ++ d ≡ a ++ ((b ++ c) ++ d)
      joined a b c d = ap (λ t. t ++ d) (append_assoc a b c) ∙ append_assoc a (b ++ c) d

  module _ (old : List ℕ) (row : ℕ) where
    pub row_added : (new : List ℕ) → new ≡ ((old ++ ended_rows cell cols end row) ++ row_of cell row cols) ++ end → new ≡ old ++ ended_rows cell cols end (row + 1)
    row_added new is =
        let one : row + 1 ≡ suc row = omega arith in
        let before = ended_rows cell cols end row in
        let last = row_of cell row cols in
        is ∙ ap (λ t. t ++ end) (append_assoc old before last) ∙ append_assoc old (before ++ last) end ∙ ap (λ n. old ++ ended_rows cell cols end n) (sym one)

    pub part_added : (rows : ℕ) (new : List ℕ) → row ≤ rows → new ≡ old ++ ended_rows cell cols end row → AddsPart old (ended_rows cell cols end rows) new
    part_added rows new most is =
        let all : rows ≡ row + (rows - row) = omega arith in
        let more = first_rows row (rows - row) in
        let before = ended_rows cell cols end row in
        (more.0, ap (λ n. old ++ ended_rows cell cols end n) all ∙ ap (λ t. old ++ t) more.1 ∙ sym (append_assoc old before more.0) ∙ ap (λ t. t ++ more.0) (sym is))

  pub part_of_row : (old : List ℕ) (row rows : ℕ) (new : List ℕ) → row < rows → new ≡ (old ++ ended_rows cell cols end row) ++ row_of cell row cols
      → AddsPart old (ended_rows cell cols end rows) new
  part_of_row old row rows new below is =
      let next = part_added old (row + 1) rows _ (omega arith) (row_added old row (new ++ end) (ap (λ t. t ++ end) is)) in
      (end ++ next.0, next.1 ∙ append_assoc new end next.0)
