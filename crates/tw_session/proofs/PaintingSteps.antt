-- The steps of a painting make the painting.
use Rattle.std.specs.Prelude.{nat_le}
use Rattle.std.proofs.Common.{◌≡◌, ℕ, ◌+◌, ◌≤◌, ℤ, nat_abs, Bool, true, false, List, [], ◌∷◌, ◌++◌, ◌<◌, length, ap, sym, ◌∙◌, append_assoc, subst, Result, arith}
use Rattle.std.proofs.lemmas.Bool.{and_from, and_left, and_parts}
use Rattle.tw_surface.specs.declared.cell.CellAttributes.{CellAttributes}
use Rattle.tw_surface.specs.ChangeView.{Batch, AllAttributes, Text, ClearToEndOfScreen}
use Rattle.tw_surface.specs.Characters.{cr, lf}
use Rattle.tw_surface.specs.Defaults.{default_color, default_attributes}
use Rattle.tw_surface.specs.Drawings.{Drawing, place, height}
use Rattle.tw_surface.specs.Places.{Place, place_after_all, origin, is_in_range, move_between}
use Rattle.tw_surface.specs.Scenes.{Scene, Lower}
use Rattle.tw_surface.specs.Scenes.Lower.{Search}
use Rattle.tw_surface.specs.Paintings.{before_line, edge_space, lower_changes, shown_part, cursor_place, place_at, Mark}
use Rattle.tw_session.specs.declared.error.Error.{Error}
use Rattle.tw_host.specs.ElementView.{ElementView, changes_of}
use Rattle.tw_session.specs.Painting.{is_paintable, preview_of}
use Rattle.tw_session.specs.DrawSteps.{IsStepRefusal, stay_in_range, with_all, with_edge, has_cell, Drawn, Draws, DrawnScene}
use Rattle.tw_session.proofs.DrawingLimits.{empty, row-in_range}
use Rattle.tw_session.proofs.DrawLemmas.{drawn-append, draws-later, refused-along, refused-first, refused-later}

-- what stands before the prompt's elements
abbrev start : Batch
start = ClearToEndOfScreen default_color ∷ AllAttributes default_attributes ∷ []

abbrev last : Batch
last = AllAttributes default_attributes ∷ []

drawn-start : (d0 d1 d2 : Drawing) (a : CellAttributes) → a ≡ default_attributes → Drawn (ClearToEndOfScreen default_color ∷ []) d0 d1 → Drawn (AllAttributes a ∷ []) d1 d2
    → Drawn start d0 d2
drawn-start d0 d1 d2 a e clear attributes = drawn-append d0 d1 d2 (ClearToEndOfScreen default_color ∷ []) last clear (rw e at attributes)

-- the prompt is refused
pub refused-before_line : (d0 d1 d2 : Drawing) (a : CellAttributes) (prompt elements : Batch) (e : Error) → a ≡ default_attributes → elements ≡ prompt
    → Drawn (ClearToEndOfScreen default_color ∷ []) d0 d1 → Drawn (AllAttributes a ∷ []) d1 d2 → IsStepRefusal (stay_in_range d2 elements) e
    → IsStepRefusal (stay_in_range d0 (before_line prompt)) e
refused-before_line d0 d1 d2 a prompt elements e is_default same clear attributes refused =
    refused-first d0 (start ++ prompt) last e
    (refused-later d0 d2 start prompt e (drawn-start d0 d1 d2 a is_default clear attributes) (rw same at refused))

-- what stands before the line is drawn
pub draws-before_line : (d0 d1 d2 d3 d4 : Drawing) (a b : CellAttributes) (prompt elements : Batch) (result : Result Unit Error) → a ≡ default_attributes → elements ≡ prompt
    → Drawn (ClearToEndOfScreen default_color ∷ []) d0 d1 → Drawn (AllAttributes a ∷ []) d1 d2 → Drawn elements d2 d3
    → b ≡ default_attributes → Draws (AllAttributes b ∷ []) d3 d4 result → Draws (before_line prompt) d0 d4 result
draws-before_line d0 d1 d2 d3 d4 a b prompt elements result a_is same clear attributes drawn b_is more =
    draws-later d0 d3 d4 (start ++ prompt) last result
    (drawn-append d0 d2 d3 start prompt (drawn-start d0 d1 d2 a a_is clear attributes) (rw same at drawn))
    (rw b_is at more)

-- the line is refused before its space
pub refused-with_edge : (old : Drawing) (line : Batch) (e : Error) → IsStepRefusal (stay_in_range old line) e → IsStepRefusal (stay_in_range old (with_edge old line)) e
refused-with_edge old line e refused = refused-first old line (edge_space old.cols (place (with_all old line))) e refused

-- the line is drawn with its space
pub draws-with_edge : (cols : ℕ) (old mid new : Drawing) (line : Batch) (result : Result Unit Error) → old.cols ≡ cols → Drawn line old mid → Draws (edge_space cols (place mid)) mid new result
    → Draws (with_edge old line) old new result
draws-with_edge cols old mid new line result same drawn more =
    let P : ℕ → Type 0 = λ n. Draws (edge_space n (place (with_all old line))) mid new result in
    let Q : Drawing → Type 0 = λ d. Draws (edge_space cols (place d)) mid new result in
    draws-later old mid new line (edge_space old.cols (place (with_all old line))) result drawn
    (subst P (sym same) (subst Q drawn.drawing more))

-- the text of a search is drawn
pub draws-search : (old mid new : Drawing) (a : CellAttributes) (shown text : List ℕ) (result : Result Unit Error) → a ≡ default_attributes → shown ≡ cr ∷ lf ∷ text
    → Drawn (AllAttributes a ∷ []) old mid → Draws (Text shown ∷ []) mid new result → Draws (lower_changes (Search text)) old new result
draws-search old mid new a shown text result a_is shown_is first more =
    draws-later old mid new (AllAttributes default_attributes ∷ []) (Text (cr ∷ lf ∷ text) ∷ []) result (rw a_is at first) (rw shown_is at more)

-- what stands before the elements of a preview
abbrev preview-start : Batch
preview-start = Text (cr ∷ lf ∷ []) ∷ last

-- a preview with elements is drawn
pub draws-preview : (old mid next new : Drawing) (a : CellAttributes) (shown : List ℕ) (elements : List ElementView) (result : Result Unit Error) → 0 < length elements
    → a ≡ default_attributes → shown ≡ cr ∷ lf ∷ [] → Drawn (Text shown ∷ []) old mid → Drawn (AllAttributes a ∷ []) mid next → Draws (changes_of elements) next new result
    → Draws (lower_changes (preview_of elements)) old new result
draws-preview old mid next new a shown [] result some a_is shown_is first second more = absurd (omega (arith, some))
draws-preview old mid next new a shown (e ∷ elements) result some a_is shown_is first second more =
    draws-later old next new preview-start (changes_of (e ∷ elements)) result
    (drawn-append old mid next (Text (cr ∷ lf ∷ []) ∷ []) last (rw shown_is at first) (rw a_is at second)) more

-- a scene, with no screen cleared before it
abbrev pub uncleared : Batch → Batch → ℕ → Lower → Scene
uncleared prompt line column lower = record { prompt = prompt; line = line; column = column; lower = lower; cleared = false }

-- what is shown up to the end of the line
abbrev pub line_part : ℕ → Batch → Batch → Batch
line_part cols prompt line = before_line prompt ++ with_edge (with_all (empty cols) (before_line prompt)) line

-- what is shown of a scene, in two parts
shown_part-parts : (cols : ℕ) (prompt line : Batch) (column : ℕ) (lower : Lower)
    → shown_part cols (uncleared prompt line column lower) ≡ line_part cols prompt line ++ lower_changes lower
shown_part-parts cols prompt line column lower =
    let edge : Batch = edge_space cols (place_after_all cols (before_line prompt ++ line) origin) in
    sym (append_assoc (before_line prompt ++ line) edge (lower_changes lower))
    ∙ ap (λ shown. shown ++ lower_changes lower) (append_assoc (before_line prompt) line edge)

-- what is shown does not fit
not_paintable : (cols : ℕ) (prompt line : Batch) (column : ℕ) (lower : Lower) (e : Error)
    → IsStepRefusal (stay_in_range (empty cols) (line_part cols prompt line ++ lower_changes lower)) e
    → IsStepRefusal (is_paintable cols (uncleared prompt line column lower)) e
not_paintable cols prompt line column lower e refused =
    refused-along _ _ e
    (λ out. and_left _ _ (ap (stay_in_range (empty cols)) (shown_part-parts cols prompt line column lower) ∙ out))
    refused

-- the line, or what stands before it, is refused
not_paintable-line : (cols : ℕ) (prompt line : Batch) (column : ℕ) (lower : Lower) (e : Error)
    → IsStepRefusal (stay_in_range (empty cols) (line_part cols prompt line)) e
    → IsStepRefusal (is_paintable cols (uncleared prompt line column lower)) e
not_paintable-line cols prompt line column lower e refused =
    not_paintable cols prompt line column lower e (refused-first (empty cols) (line_part cols prompt line) (lower_changes lower) e refused)

-- the prompt is refused
pub refused-prompt : (cols : ℕ) (prompt line : Batch) (column : ℕ) (lower : Lower) (e : Error) → IsStepRefusal (stay_in_range (empty cols) (before_line prompt)) e
    → IsStepRefusal (is_paintable cols (uncleared prompt line column lower)) e
refused-prompt cols prompt line column lower e refused =
    not_paintable-line cols prompt line column lower e
    (refused-first (empty cols) (before_line prompt) (with_edge (with_all (empty cols) (before_line prompt)) line) e refused)

-- the line is refused
pub refused-line : (cols : ℕ) (prompt line : Batch) (column : ℕ) (lower : Lower) (mid : Drawing) (e : Error) → Drawn (before_line prompt) (empty cols) mid
    → IsStepRefusal (stay_in_range mid (with_edge mid line)) e → IsStepRefusal (is_paintable cols (uncleared prompt line column lower)) e
refused-line cols prompt line column lower mid e drawn refused =
    let P : Drawing → Type 0 = λ d. IsStepRefusal (stay_in_range mid (with_edge d line)) e in
    not_paintable-line cols prompt line column lower e
    (refused-later (empty cols) mid (before_line prompt) (with_edge (with_all (empty cols) (before_line prompt)) line) e drawn
    (subst P drawn.drawing refused))

-- what stands under the line is refused
pub refused-lower : (cols : ℕ) (prompt line : Batch) (column : ℕ) (lower : Lower) (mid : Drawing) (e : Error) → Drawn (line_part cols prompt line) (empty cols) mid
    → IsStepRefusal (stay_in_range mid (lower_changes lower)) e → IsStepRefusal (is_paintable cols (uncleared prompt line column lower)) e
refused-lower cols prompt line column lower mid e drawn refused =
    not_paintable cols prompt line column lower e (refused-later (empty cols) mid (line_part cols prompt line) (lower_changes lower) e drawn refused)

place_is : (p : Place) (x : ℕ) (y : ℤ) → x ≡ p.x → y ≡ p.y → record { x = x; y = y } ≡ p
place_is p x y ex ey = ap (λ k. make k y) ex ∙ ap (λ k. make p.x k) ey
  where
    make : ℕ → ℤ → Place
    make x y = record { x = x; y = y }

-- the cell that was found, from the place where the prompt ends
pub record HasCell (cols : ℕ) (p : Place) (column : ℕ) (cell : Place) : Type 0 where
  pub fits : has_cell cols p column ≡ true
  pub is_cell : cell ≡ place_at cols p column

pub cell-from : (cols : ℕ) (p : Place) (x : ℕ) (y : ℤ) (found column : ℕ) (cell : Place) → x ≡ p.x → y ≡ p.y → found ≡ column
    → (has_cell cols (record { x = x; y = y }) found ≡ true) × (cell ≡ place_at cols (record { x = x; y = y }) found) → HasCell cols p column cell
cell-from cols p x y found column cell ex ey same h =
    let e = place_is p x y ex ey in
    let has : Place → ℕ → Bool = λ q n. has_cell cols q n in
    let at : Place → ℕ → Place = λ q n. place_at cols q n in
    record { fits = sym (ap (λ q. has q found) e ∙ ap (has p) same) ∙ h.0; is_cell = h.1 ∙ ap (λ q. at q found) e ∙ ap (at p) same }

-- the cursor's cell is in range
pub cell-in_range : (cols : ℕ) (mid : Drawing) (column : ℕ) (cell : Place) → HasCell cols (place mid) column cell → nat_abs cell.y ≤ 2147483647
cell-in_range cols mid column cell h =
    row-in_range cell
    (ap is_in_range h.is_cell ∙ (and_parts (nat_le ((place mid).x + column) 2147483647) (is_in_range (place_at cols (place mid) column)) h.fits).1)

-- the line is drawn, after what stands before it
pub drawn-line : (cols : ℕ) (prompt line : Batch) (mid end : Drawing) → Drawn (before_line prompt) (empty cols) mid → Drawn (with_edge mid line) mid end
    → Drawn (line_part cols prompt line) (empty cols) end
drawn-line cols prompt line mid end first second =
    let P : Drawing → Type 0 = λ d. Drawn (before_line prompt ++ with_edge d line) (empty cols) end in
    subst P first.drawing (drawn-append (empty cols) mid end (before_line prompt) (with_edge mid line) first second)

-- the shown part is drawn
pub drawn-shown : (cols : ℕ) (prompt line : Batch) (column : ℕ) (lower : Lower) (mid shown : Drawing) → Drawn (line_part cols prompt line) (empty cols) mid
    → Drawn (lower_changes lower) mid shown → Drawn (shown_part cols (uncleared prompt line column lower)) (empty cols) shown
drawn-shown cols prompt line column lower mid shown first second =
    let P : Batch → Type 0 = λ b. Drawn b (empty cols) shown in
    subst P (sym (shown_part-parts cols prompt line column lower))
    (drawn-append (empty cols) mid shown (line_part cols prompt line) (lower_changes lower) first second)

-- the whole scene is drawn
pub drawn-scene : (cols : ℕ) (prompt line : Batch) (column : ℕ) (lower : Lower) (mid shown new : Drawing) (cell : Place) (h : ℕ)
    → Drawn (before_line prompt) (empty cols) mid → Drawn (shown_part cols (uncleared prompt line column lower)) (empty cols) shown
    → HasCell cols (place mid) column cell
    → new ≡ record shown { changes = shown.changes ++ move_between (place shown) cell ∷ [] } → h ≡ height shown.cols shown.changes
    → DrawnScene cols (uncleared prompt line column lower) new (record { row = cell.y; height = h })
drawn-scene cols prompt line column lower mid shown new cell h first all found moved is_height =
    let scene : Scene = uncleared prompt line column lower in
    let c : cell ≡ cursor_place cols scene = found.is_cell ∙ ap (λ d. place_at cols (place d) column) first.drawing in
    let e : h ≡ height cols (shown_part cols scene) = is_height ∙ ap (λ d. height d.cols d.changes) all.drawing in
    record {
      paintable = and_from (stay_in_range (empty cols) (shown_part cols scene)) (has_cell cols (place (with_all (empty cols) (before_line prompt))) column)
          all.in_range (ap (λ d. has_cell cols (place d) column) (sym first.drawing) ∙ found.fits);
      changes = ap (λ d. d.changes) moved
          ∙ ap (λ d. d.changes ++ move_between (place d) cell ∷ []) all.drawing
          ∙ ap (λ p. shown_part cols scene ++ move_between (place_after_all cols (shown_part cols scene) origin) p ∷ []) c;
      leaves = ap (λ p. left p.y h) c ∙ ap (left (cursor_place cols scene).y) e;
    }
  where
    left : ℤ → ℕ → Mark
    left row h = record { row = row; height = h }
