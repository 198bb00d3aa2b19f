-- What a grid shows once its cells have changed.
use Rattle.std.proofs.Common.{◌≡◌, ℕ, zero, suc, ◌+◌, ◌-◌, ◌*◌, ◌<◌, ◌≤◌, Bool, true, false, ◌&&◌, ◌||◌, eqb, ltb, leb, List, [], ◌∷◌, ◌++◌, length, map, take, get_or, refl, sym, ap, subst, ◌∙◌, arith, inl, inr, ◌⊎◌, if◌then◌else◌}
use Rattle.std.specs.Prelude.{slice_index_or, slice_set}
use Rattle.std.proofs.lemmas.Bool.{cases_eq, cases_lt, eq-eqb, ne_eqb, le-leb, lt-leb, lt-ltb, le-ltb, and_right, false≢true}
use Rattle.std.proofs.lemmas.Bool.Decides.{nat_tests}
use Rattle.std.proofs.Math.Seq.{take-suc}
use Rattle.std.proofs.lemmas.List.{get_or-set_same, get_or-set_other, length-map, length-take, map-append, take_all}
use Rattle.std.proofs.lemmas.Nat.{mul-le}
use Rattle.laws_screens.specs.Strokes.{put_in, put_all}
use Rattle.laws_screens.proofs.LineOfCells.{same_cell, next_row, behind_cell, below_row}
use Rattle.tw_surface.specs.Defaults.{default_color}
use Rattle.laws_screens.specs.StyledCells.{StyledCell, styled}
use Rattle.tw_ansi.specs.EcmaScreen.{joined_in}
use Rattle.ecma_terminal.specs.declared.cell.TerminalCell.{TerminalCell}
use Rattle.ecma_terminal.specs.Cells.{shown_cell, cleared_cell}
use Rattle.ecma_terminal.specs.Grids.{GridView, Redraws, ShowsCells, AreFilled, AreShifted, grid_cell, raised_rows}

-- ---- lists of cells

set_at : (cells : List TerminalCell) (k i : ℕ) (x d : TerminalCell) → k < length cells → slice_index_or (slice_set cells k x) i d ≡ (if eqb i k then x else slice_index_or cells i d)
set_at cells k i x d h = elim (cases_eq i k) [
  | inl e ↦ rw (eq-eqb i k e, e) (get_or-set_same cells k x d h)
  | inr n ↦ rw (ne_eqb i k n) (get_or-set_other cells k i x d n)
]

none_between : (from k : ℕ) → (leb from k && ltb k from) ≡ false
none_between from k = grind (arith, nat_tests)

-- no cell is filled before the first one
pub filled_none : (from : ℕ) (cells : List TerminalCell) (x : TerminalCell) → AreFilled from from x cells cells
filled_none from cells x k d h = rw (none_between from k) refl

between_more : (from place k : ℕ) → from ≤ place → (leb from k && ltb k (place + 1)) ≡ (eqb k place || (leb from k && ltb k place))
between_more from place k h = grind (arith, nat_tests)

choice_or : {X : Type 0} (a b : Bool) (x y : X) → (if a then x else (if b then x else y)) ≡ (if a || b then x else y)
choice_or true b x y = refl
choice_or false b x y = refl

-- one more cell is filled
pub filled_more : (from place : ℕ) (old cells : List TerminalCell) (x : TerminalCell) → from ≤ place → place < length cells
    → AreFilled from place x old cells → AreFilled from (place + 1) x old (slice_set cells place x)
filled_more from place old cells x before inside h k d low =
    set_at cells place k x d inside
    ∙ ap (λ y. if eqb k place then x else y) (h k d low)
    ∙ choice_or (eqb k place) (leb from k && ltb k place) x (slice_index_or old k d)
    ∙ ap (λ b. if b then x else slice_index_or old k d) (sym (between_more from place k before))

-- cells went so many places to the front, as far as those before one
abbrev pub ShiftedTo : ℕ → ℕ → List TerminalCell → List TerminalCell → Type 0
ShiftedTo by place old new = (k : ℕ) (d : TerminalCell) → k < length old
    → slice_index_or new k d ≡ (if ltb (k + by) place then slice_index_or old (k + by) d else slice_index_or old k d)

pub shifted_none : (by : ℕ) (cells : List TerminalCell) → ShiftedTo by by cells cells
shifted_none by cells k d h = rw (le-ltb (k + by) by (omega arith)) refl

-- one more cell goes
pub shifted_more : (by place : ℕ) (old cells : List TerminalCell) (x : TerminalCell) → by ≤ place → place < length old → length cells ≡ length old
    → x ≡ slice_index_or cells place x → ShiftedTo by place old cells → ShiftedTo by (place + 1) old (slice_set cells (place - by) x)
shifted_more by place old cells x low inside same read h k d below = elim (cases_eq k (place - by)) [
  | inl e ↦
      let here : k + by ≡ place = omega (arith, e, low) in
      let place_kept : slice_index_or cells place x ≡ slice_index_or old place x = h place x inside ∙ ap (λ b. if b then slice_index_or old (place + by) x else slice_index_or old place x) (le-ltb (place + by) place (omega arith)) in
      set_at cells (place - by) k x d (omega (arith, same, inside))
      ∙ ap (λ b. if b then x else slice_index_or cells k d) (eq-eqb k (place - by) e)
      ∙ read ∙ place_kept ∙ same_inside old place x d inside
      ∙ ap (λ i. slice_index_or old i d) (sym here)
      ∙ ap (λ b. if b then slice_index_or old (k + by) d else slice_index_or old k d) (sym (lt-ltb (k + by) (place + 1) (omega (arith, here))))
  | inr n ↦
      set_at cells (place - by) k x d (omega (arith, same, inside))
      ∙ ap (λ b. if b then x else slice_index_or cells k d) (ne_eqb k (place - by) n)
      ∙ h k d below
      ∙ ap (λ b. if b then slice_index_or old (k + by) d else slice_index_or old k d) (other n)
]
  where
    other : (k ≡ place - by → ⊥) → ltb (k + by) place ≡ ltb (k + by) (place + 1)
    other n = grind (arith, nat_tests)

    same_inside : (xs : List TerminalCell) (i : ℕ) (d e : TerminalCell) → i < length xs → slice_index_or xs i d ≡ slice_index_or xs i e
    same_inside [] i d e h = absurd (omega arith)
    same_inside (x ∷ xs) zero d e h = refl
    same_inside (x ∷ xs) (suc i) d e h = same_inside xs i d e (omega arith)

-- ---- one change of a grid

-- a cell is put
pub put_redraws : (h w row col : ℕ) (cells : List TerminalCell) (x : TerminalCell) → row < h → col < w → length cells ≡ h * w
    → Redraws (record { rows = h; cols = w; cells = cells }) (λ cell. put_in cell row col (shown_cell x)) (record { rows = h; cols = w; cells = slice_set cells (row * w + col) x })
put_redraws h w row col cells x low inner all = record {
  rows = refl;
  cols = refl;
  shown = λ cell shows r c below within.
      rw (same_cell w r c row col within inner, shows r c below within) (by_place (eqb (r * w + c) (row * w + col)) (slice_index_or cells (r * w + c) (cleared_cell default_color)))
      ∙ ap shown_cell (sym (set_at cells (row * w + col) (r * w + c) x _ (omega (arith, all, below_row w row col h low inner))));
}
  where
    by_place : (b : Bool) (y : TerminalCell) → (if b then shown_cell x else shown_cell y) ≡ shown_cell (if b then x else y)
    by_place true y = refl
    by_place false y = refl

-- cells were put, one after the other
abbrev pub PutSoFar : ℕ → ℕ → List TerminalCell → GridView → GridView → Type 0
PutSoFar row col cells old new = Redraws old (λ shown. put_all shown row col (map shown_cell cells)) new

pub put_none : (row col : ℕ) (grid : GridView) → PutSoFar row col [] grid grid
put_none row col grid = record { rows = refl; cols = refl; shown = λ cell shows. shows }

put_last : (cells : List StyledCell) (x : StyledCell) (f : ℕ → ℕ → StyledCell) (r c i j : ℕ)
    → put_all f r c (cells ++ x ∷ []) i j ≡ put_in (put_all f r c cells) r (c + length cells) x i j
put_last [] x f r c i j = ap (λ k. if eqb i r && eqb j k then x else f i j) (let e : c ≡ c + 0 = omega arith in e)
put_last (y ∷ cells) x f r c i j =
    put_last cells x (put_in f r c y) r (c + 1) i j
    ∙ ap (λ k. if eqb i r && eqb j k then x else put_all (put_in f r c y) r (c + 1) cells i j) (let e : c + 1 + length cells ≡ c + suc (length cells) = omega arith in e)

-- one more cell is put
pub put_more : (row col i : ℕ) (cells : List TerminalCell) (x : TerminalCell) (old mid new : GridView) → i < length cells → x ≡ get_or cells i x
    → PutSoFar row col (take i cells) old mid → Redraws mid (λ cell. put_in cell row (col + i) (shown_cell x)) new → PutSoFar row col (take (i + 1) cells) old new
put_more row col i cells x old mid new inside item before next = record {
  rows = next.rows ∙ before.rows;
  cols = next.cols ∙ before.cols;
  shown = λ cell shows r c low left. same cell r c ∙ next.shown (put_all cell row col (map shown_cell (take i cells))) (before.shown cell shows) r c low left;
}
  where
    len : length (map shown_cell (take i cells)) ≡ i
    len = omega (arith, length-map (take i cells) shown_cell, length-take i cells, inside)

    cells_are : map shown_cell (take (i + 1) cells) ≡ map shown_cell (take i cells) ++ shown_cell x ∷ []
    cells_are =
        ap (λ k. map shown_cell (take k cells)) (let e : i + 1 ≡ suc i = omega arith in e)
        ∙ ap (map shown_cell) (take-suc cells i x inside) ∙ map-append shown_cell (take i cells) (get_or cells i x ∷ [])
        ∙ ap (λ y. map shown_cell (take i cells) ++ shown_cell y ∷ []) (sym item)

    same : (cell : ℕ → ℕ → StyledCell) (r c : ℕ) → put_all cell row col (map shown_cell (take (i + 1) cells)) r c ≡ put_in (put_all cell row col (map shown_cell (take i cells))) row (col + i) (shown_cell x) r c
    same cell r c =
        ap (λ l. put_all cell row col l r c) cells_are ∙ put_last (map shown_cell (take i cells)) (shown_cell x) cell row col r c
        ∙ ap (λ k. put_in (put_all cell row col (map shown_cell (take i cells))) row (col + k) (shown_cell x) r c) len

pub put_done : (row col i : ℕ) (cells : List TerminalCell) (old new : GridView) → length cells ≤ i → PutSoFar row col (take i cells) old new → PutSoFar row col cells old new
put_done row col i cells old new end done = subst (λ l. PutSoFar row col l old new) (take_all i cells end) done

-- a mark joins a cell
pub join_redraws : (row col : ℕ) (mark : List ℕ) (old new : GridView) (y : StyledCell) → y ≡ styled.join (shown_cell (grid_cell old row col)) mark → row < old.rows → col < old.cols
    → Redraws old (λ cell. put_in cell row col y) new → Redraws old (λ cell. joined_in styled.join cell row col mark) new
join_redraws row col mark old new y is low inner done = record {
  rows = done.rows;
  cols = done.cols;
  shown = λ cell shows r c below within. same cell shows r c ∙ done.shown cell shows r c below within;
}
  where
    same : (cell : ℕ → ℕ → StyledCell) → ShowsCells old cell → (r c : ℕ) → joined_in styled.join cell row col mark r c ≡ put_in cell row col y r c
    same cell shows r c = elim (cases_eq r row) [
      | inr n ↦ rw (ne_eqb r row n) refl
      | inl e ↦ elim (cases_eq c col) [
        | inr n ↦ rw (e, ne_eqb c col n) (none (eqb row row))
        | inl d ↦ rw (e, d) (ap (λ x. if eqb row row && eqb col col then x else cell row col) (ap (λ z. styled.join z mark) (shows row col low inner) ∙ sym is))
      ]
    ]
      where
        none : (b : Bool) → (if b && false then styled.join (cell row c) mark else cell row c) ≡ (if b && false then y else cell row c)
        none true = refl
        none false = refl

-- and none joins one that is not there
pub join_outside : (row col : ℕ) (mark : List ℕ) (grid : GridView) → grid.cols ≤ col → Redraws grid (λ cell. joined_in styled.join cell row col mark) grid
join_outside row col mark grid out = record {
  rows = refl;
  cols = refl;
  shown = λ cell shows r c below within. other cell r c (ne_eqb c col (λ e. omega (arith, e, out, within))) ∙ shows r c below within;
}
  where
    other : (cell : ℕ → ℕ → StyledCell) (r c : ℕ) → eqb c col ≡ false → joined_in styled.join cell row col mark r c ≡ cell r c
    other cell r c e = by_row (eqb r row) (eqb c col) e
      where
        by_row : (a b : Bool) → b ≡ false → (if a && b then styled.join (cell r c) mark else cell r c) ≡ cell r c
        by_row true false e = refl
        by_row false false e = refl
        by_row a true e = absurd (false≢true (sym e))

-- cells are filled, where a test says of a row and a column whether their place is among them
pub fill_redraws : (h w from to : ℕ) (cells new : List TerminalCell) (x : TerminalCell) (test : ℕ → ℕ → Bool) → length cells ≡ h * w
    → AreFilled from to x cells new → ((r c : ℕ) → r < h → c < w → test r c ≡ (leb from (r * w + c) && ltb (r * w + c) to))
    → Redraws (record { rows = h; cols = w; cells = cells }) (λ cell r c. if test r c then shown_cell x else cell r c) (record { rows = h; cols = w; cells = new })
fill_redraws h w from to cells new x test all filled tested = record {
  rows = refl;
  cols = refl;
  shown = λ cell shows r c below within.
      rw (tested r c below within, shows r c below within) (by_test (leb from (r * w + c) && ltb (r * w + c) to) (slice_index_or cells (r * w + c) (cleared_cell default_color)))
      ∙ ap shown_cell (sym (filled (r * w + c) _ (omega (arith, all, below_row w r c h below within))));
}
  where
    by_test : (b : Bool) (y : TerminalCell) → (if b then shown_cell x else shown_cell y) ≡ shown_cell (if b then x else y)
    by_test true y = refl
    by_test false y = refl

-- a place in a row, from a column on
pub row_test : (w row col r c : ℕ) → col < w → c < w → (eqb row r && leb col c) ≡ (leb (row * w + col) (r * w + c) && ltb (r * w + c) (row * w + w))
row_test w row col r c inner within = elim (cases_eq row r) [
  | inl e ↦ rw (eq-eqb row r e, ← e) (in_row (cases_lt c col))
  | inr n ↦ rw (ne_eqb row r n) (other_row n (cases_lt row r))
]
  where
    in_row : (c < col) ⊎ (col ≤ c) → leb col c ≡ (leb (row * w + col) (row * w + c) && ltb (row * w + c) (row * w + w))
    in_row (inl less) = rw (lt-leb col c less, lt-leb (row * w + col) (row * w + c) (omega arith)) refl
    in_row (inr more) = rw (le-leb col c more, le-leb (row * w + col) (row * w + c) (omega arith), lt-ltb (row * w + c) (row * w + w) (omega arith)) refl

    other_row : (row ≡ r → ⊥) → (row < r) ⊎ (r ≤ row) → false ≡ (leb (row * w + col) (r * w + c) && ltb (r * w + c) (row * w + w))
    other_row n (inl less) =
        let rows : (row + 1) * w ≤ r * w = mul-le (row + 1) w r w (omega arith) (omega arith) in
        let next : (row + 1) * w + 0 ≡ row * w + w + 0 = next_row row w 0 in
        sym (and_right (leb (row * w + col) (r * w + c)) _ (le-ltb (r * w + c) (row * w + w) (omega (arith, rows, next))))
    other_row n (inr more) =
        let rows : (r + 1) * w ≤ row * w = mul-le (r + 1) w row w (omega arith) (omega arith) in
        let next : (r + 1) * w + 0 ≡ r * w + w + 0 = next_row r w 0 in
        rw (lt-leb (row * w + col) (r * w + c) (omega (arith, rows, next, within))) refl

-- a place after a cell, of all places
pub behind_test : (h w row col r c : ℕ) → col < w → r < h → c < w → (ltb row r || (eqb row r && leb col c)) ≡ (leb (row * w + col) (r * w + c) && ltb (r * w + c) (h * w))
behind_test h w row col r c inner below within =
    rw (lt-ltb (r * w + c) (h * w) (below_row w r c h below within), and_true (leb (row * w + col) (r * w + c))) (behind_cell w row col r c inner within)
  where
    and_true : (b : Bool) → (b && true) ≡ b
    and_true true = refl
    and_true false = refl

-- any place is among all places
pub all_test : (h w r c : ℕ) → r < h → c < w → true ≡ (leb 0 (r * w + c) && ltb (r * w + c) (h * w))
all_test h w r c below within = rw (lt-ltb (r * w + c) (h * w) (below_row w r c h below within), le-leb 0 (r * w + c) (omega arith)) refl

-- all rows go up, and one of blanks comes
pub raise_redraws : (h w : ℕ) (cells mid new : List TerminalCell) (x : TerminalCell) → length cells ≡ h * w → length mid ≡ h * w
    → AreShifted w cells mid → AreFilled (h * w - w) (h * w) x mid new
    → Redraws (record { rows = h; cols = w; cells = cells }) (raised_rows h (shown_cell x)) (record { rows = h; cols = w; cells = new })
raise_redraws h w cells mid new x all same shifted filled = record {
  rows = refl;
  cols = refl;
  shown = λ cell shows r c below within. at cell shows r c below within (cases_lt (r + 1) h);
}
  where
    at : (cell : ℕ → ℕ → StyledCell) → ShowsCells (record { rows = h; cols = w; cells = cells }) cell → (r c : ℕ) → r < h → c < w → (r + 1 < h) ⊎ (h ≤ r + 1)
        → raised_rows h (shown_cell x) cell r c ≡ shown_cell (slice_index_or new (r * w + c) (cleared_cell default_color))
    at cell shows r c below within (inl higher) =
        let next : (r + 1) * w + c ≡ r * w + w + c = next_row r w c in
        let inside : (r + 1) * w + c < h * w = below_row w (r + 1) c h higher within in
        let place : (r + 1) * w + c ≡ r * w + c + w = omega (arith, next) in
        rw (lt-ltb (r + 1) h higher, shows (r + 1) c higher within)
        (ap shown_cell (sym (filled (r * w + c) (cleared_cell default_color) (omega (arith, same, inside, place))
        ∙ ap (λ b. if b && ltb (r * w + c) (h * w) then x else slice_index_or mid (r * w + c) (cleared_cell default_color)) (lt-leb (h * w - w) (r * w + c) (omega (arith, inside, place)))
        ∙ shifted (r * w + c) (cleared_cell default_color) (omega (arith, all, inside, place))
        ∙ ap (λ b. if b then slice_index_or cells (r * w + c + w) (cleared_cell default_color) else slice_index_or cells (r * w + c) (cleared_cell default_color)) (lt-ltb (r * w + c + w) (length cells) (omega (arith, all, inside, place)))
        ∙ ap (λ i. slice_index_or cells i (cleared_cell default_color)) (sym place))))
    at cell shows r c below within (inr last) =
        let whole : (r + 1) * w + 0 ≡ r * w + w + 0 = next_row r w 0 in
        let is_last : r + 1 ≡ h = omega arith in
        let rows : (r + 1) * w ≡ h * w = ap (λ i. i * w) is_last in
        rw (le-ltb (r + 1) h last)
        (ap shown_cell (sym (filled (r * w + c) (cleared_cell default_color) (omega (arith, same, rows, whole, within))
        ∙ ap (λ b. if b && ltb (r * w + c) (h * w) then x else slice_index_or mid (r * w + c) (cleared_cell default_color)) (le-leb (h * w - w) (r * w + c) (omega (arith, rows, whole)))
        ∙ ap (λ b. if b then x else slice_index_or mid (r * w + c) (cleared_cell default_color)) (lt-ltb (r * w + c) (h * w) (omega (arith, rows, whole, within))))))
