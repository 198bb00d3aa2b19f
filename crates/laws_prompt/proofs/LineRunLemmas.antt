-- The last row of a painting is that of its line, and after each painting of a run whose stations show lines their
-- characters stand in their cells.
use Rattle.std.proofs.Common.{◌≡◌, ℕ, ◌+◌, ◌-◌, ◌/◌, ◌%◌, ◌<◌, ◌≤◌, max, Bool, true, false, List, [], ◌∷◌, ◌++◌, length, refl, ap, sym, ◌∙◌, arith, inl, inr, length-append, append_assoc, append-nil, if◌then◌else◌, Option, map, subst}
use Rattle.std.specs.List.{list_all, sum_by, All, AllByRecursion}
use Rattle.std.proofs.lemmas.Bool.{and_parts, and_from, false≢true, cases_eq, eq-eqb, ne_eqb}
use Rattle.std.proofs.lemmas.List.Sums.{sum_by-cons}
use Rattle.laws_screens.specs.Sheets.{rows_of_line, sheet_last_row, IsFreshSheet}
use Rattle.tw_surface.specs.ChangeView.{Batch, Attribute, AllAttributes, Text}
use Rattle.tw_surface.specs.Characters.{is_printable, cr, lf}
use Rattle.tw_surface.specs.Fresh.{text_of}
use Rattle.tw_surface.specs.Lines.{lines_of}
use Rattle.tw_surface.specs.Paintings.{before_line, edge_space, lower_changes}
use Rattle.tw_surface.specs.Places.{Place, origin, end_of_pieces, pieces, place_after, place_after_all}
use Rattle.tw_surface.specs.Scenes.{Scene, typed_text}
use Rattle.tw_surface.specs.Scenes.Lower.{NoLower}
use Rattle.laws_screens.specs.SceneSheets.{sheet_of, painting_of}
use Rattle.laws_screens.specs.StyledCells.{characters}
use Rattle.laws_screens.proofs.PlainTexts.{one_line}
use Rattle.laws_prompt.specs.Rows.{is_row_character, rows_of_text, rows_taken, rows_down, row_edge, spread, columns_behind}
use Rattle.laws_screens.specs.RowScenes.{place_behind, folded}
use Rattle.laws_prompt.specs.MeasuredRows.{is_row_typing, has_pair, first_row_changes, other_rows, HasPlainRows}
use Rattle.laws_prompt.specs.RowCells.{ShowsLine, LastRowByDivision}
use Rattle.laws_prompt.proofs.RowTexts.{each_holds, over_rows, an-edge, no-edge, edge-printable, some-rows, before-row, both_hold, ends_there, are_rows, rows_plain, edge-off, rows-off-edge, rows-with-edge}
use Rattle.laws_prompt.proofs.ColumnLemmas.{IsTip, tip-off, tip-full, after, after-append, plain-pieces, spread-tip}
use Rattle.laws_prompt.proofs.MeasuredRowLemmas.{typed-both}
use Rattle.laws_prompt.proofs.CellLemmas.{edge_of, text-is, printable_typed, unpaired, other, head, below, folded_text, folded_lower, folded_lines, head_rows, line-is, rows-typed, has_rows, is_plain_scene, prompt_tip, shown_lines_are_plain, cells_by_division}
use Rattle.std.proofs.lemmas.List.{map-append}
use Rattle.laws_screens.specs.Strokes.{PictureOf, resized}
use Rattle.laws_screens.specs.Paintings.{IsClosedSheet, top_row}
use Rattle.tw_surface.specs.PaintingBatches.{SizedScene}
use Rattle.tw_surface.specs.Pictures.{blank}
use Rattle.laws_screens.specs.Screens.{HasRoom}
use Rattle.tw_host.specs.HostRules.{HostRules}
use Rattle.tw_lineedit.specs.Frame.{Frame}
use Rattle.tw_lineedit.specs.ScreenRuns.{sized_scene}
use Rattle.tw_lineedit.specs.Stations.{Station}
use Rattle.laws_screens.specs.PaintedAlike.{IsPaintedAs, ArePaintedAs}
use Rattle.laws_runs.specs.DrawnRuns.{play_stations, closed_by, ComesMeasured}
use Rattle.laws_runs.proofs.DrawnRunLemmas.{drawn_paintings, drawn_closings}
use Rattle.laws_prompt.specs.LineRuns.{ShowsSomeLine, plain_station, line_stations, ComesToLine, LinesStandInRows, LinesCloseBelow}

-- ---- the rows of the lines

module _ (cols : ℕ) (two : 2 ≤ cols) (continuation : List ℕ) (printable : list_all is_printable continuation ≡ true) where
  abbrev c : ℕ
  c = length continuation

  -- a row with its edge
  edged : (n : ℕ) (x : List ℕ) → length x ≡ n → rows_of_line cols (x ++ row_edge cols n) ≡ rows_taken cols n
  edged n x long =
      ap (λ i. max 1 ((i + cols - 1) / cols)) (length-append x (row_edge cols n) ∙ ap (λ i. i + length (row_edge cols n)) long) ∙ rows-with-edge cols n two

  -- the rows of the lines of a text, after the x before its first row
  rows-summed : (n : ℕ) (x text : List ℕ) → length x ≡ n → list_all is_printable x ≡ true → list_all is_row_character text ≡ true
      → sum_by (rows_of_line cols) (lines_of (x ++ (spread cols continuation n text ++ row_edge cols (columns_behind c n text)))) ≡ 1 + rows_down cols n c (rows_of_text text)
  rows-summed n x text long plain rows =
      over_rows c (λ n text. (x : List ℕ) → length x ≡ n → list_all is_printable x ≡ true
      → sum_by (rows_of_line cols) (lines_of (x ++ (spread cols continuation n text ++ row_edge cols (columns_behind c n text)))) ≡ 1 + rows_down cols n c (rows_of_text text))
      (λ n x long plain.
      let all = one_line (x ++ row_edge cols n) (both_hold is_printable x (row_edge cols n) plain (edge-printable cols n)) in
      let none : n ≡ n + 0 = omega arith in
      rw (all, edged n x long, ← none) (omega arith))
      (λ n text so x long plain.
      let shown : List ℕ = spread cols continuation c text in
      let last : List ℕ = row_edge cols (columns_behind c c text) in
      let edge : List ℕ = row_edge cols n in
      let under : List ℕ = continuation ++ (shown ++ last) in
      let all : x ++ ((edge ++ (cr ∷ lf ∷ (continuation ++ shown))) ++ last) ≡ (x ++ edge) ++ (cr ∷ lf ∷ under) =
      ap (λ (l : List ℕ). x ++ l) (append_assoc edge (cr ∷ lf ∷ (continuation ++ shown)) last)
      ∙ ap (λ (l : List ℕ). x ++ (edge ++ (cr ∷ lf ∷ l))) (append_assoc continuation shown last)
      ∙ sym (append_assoc x edge (cr ∷ lf ∷ under)) in
      let cut : lines_of ((x ++ edge) ++ (cr ∷ lf ∷ under)) ≡ (x ++ edge) ∷ lines_of under = ends_there (x ++ edge) under (both_hold is_printable x edge plain (edge-printable cols n)) in
      let it = some-rows text in
      let rest = rw it.2 at (so continuation refl printable) in
      let none : n ≡ n + 0 = omega arith in
      rw it.2 (rw (← none) (ap (λ (t : List ℕ). sum_by (rows_of_line cols) (lines_of t)) all ∙ ap (sum_by (rows_of_line cols)) cut
      ∙ sum_by-cons (rows_of_line cols) (x ++ edge) (lines_of under)
      ∙ ap (λ i. i + sum_by (rows_of_line cols) (lines_of under)) (edged n x long) ∙ ap (λ i. rows_taken cols n + i) rest ∙ omega arith)))
      (λ n ch text here e so x long plain.
      let shown : List ℕ = spread cols continuation (n + 1) text in
      let last : List ℕ = row_edge cols (columns_behind c (n + 1) text) in
      let it = some-rows text in
      let same = before-row cols n c ch it.0 it.1 in
      let long' : length (x ++ ch ∷ []) ≡ n + 1 = length-append x (ch ∷ []) ∙ ap (λ i. i + 1) long in
      let plain' = both_hold is_printable x (ch ∷ []) plain (and_from (is_printable ch) true here refl) in
      let all : x ++ ((ch ∷ shown) ++ last) ≡ (x ++ ch ∷ []) ++ (shown ++ last) = sym (append_assoc x (ch ∷ []) (shown ++ last)) in
      let rest = rw it.2 at (so (x ++ ch ∷ []) long' plain') in
      rw (e, it.2) (ap (λ (t : List ℕ). sum_by (rows_of_line cols) (lines_of t)) all ∙ rest ∙ ap (λ i. 1 + i) same.0))
      n text rows x long plain

  -- a printable text that shows a line is the line
  printable-alone : (n : ℕ) (text : List ℕ) → list_all is_row_character text ≡ true → list_all is_printable (spread cols continuation n text) ≡ true
      → (spread cols continuation n text ≡ text) × (columns_behind c n text ≡ n + length text)
  printable-alone = over_rows c (λ n text. list_all is_printable (spread cols continuation n text) ≡ true → (spread cols continuation n text ≡ text) × (columns_behind c n text ≡ n + length text))
      (λ n h. (refl, omega arith))
      (λ n text so h.
      let rest : List ℕ = continuation ++ spread cols continuation c text in
      absurd (false≢true (each_holds is_printable (row_edge cols n) (cr ∷ lf ∷ rest) h).1))
      (λ n ch text here e so h.
      let rest = so (and_parts (is_printable ch) (list_all is_printable (spread cols continuation (n + 1) text)) (rw e at h)).1 in
      rw e (ap (λ (l : List ℕ). ch ∷ l) rest.0, rest.1 ∙ omega arith))

-- ---- the space at the edge

edge-typed : (cols from n : ℕ) (p : Place) → 0 < cols → IsTip cols from n p → typed_text (edge_space cols p) ≡ row_edge cols n
edge-typed cols from n p some tip = elim (cases_eq p.x cols) [
  | inl full ↦ rw (eq-eqb p.x cols full) (sym (an-edge cols n (omega (arith, tip.columns, full, some)) (tip-full cols from n p some tip full).col))
  | inr more ↦ rw (ne_eqb p.x cols more) (sym (no-edge cols n (tip-off cols from n p tip (omega (arith, tip.within, more)))))
]

-- attributes and texts of printable rows lead where their characters lead
changes-after : (cols : ℕ) (changes : Batch) (p : Place) → list_all is_row_typing changes ≡ true → place_after_all cols changes p ≡ after cols (typed_text changes) p
changes-after cols [] p h = refl
changes-after cols (Text text ∷ more) p h =
    let both = and_parts (are_rows text) (list_all is_row_typing more) h in
    changes-after cols more (end_of_pieces cols (pieces text) p) both.1
    ∙ ap (λ ps. after cols (typed_text more) (end_of_pieces cols ps p)) (plain-pieces text (rows_plain text both.0))
    ∙ sym (after-append cols text (typed_text more) p)
changes-after cols (Attribute x ∷ more) p h = changes-after cols more p h
changes-after cols (AllAttributes x ∷ more) p h = changes-after cols more p h
changes-after cols (change ∷ more) p h = absurd (false≢true h)

place-both : (cols : ℕ) (a b : Batch) (p : Place) → place_after_all cols (a ++ b) p ≡ place_after_all cols b (place_after_all cols a p)
place-both cols [] b p = refl
place-both cols (change ∷ a) b p = place-both cols a b (place_after cols change p)

-- ---- the last row

module _ (cols : ℕ) (prompt continuation before rest : List ℕ) (scene : Scene) (h : ShowsLine cols prompt continuation before rest scene) (bare : scene.lower ≡ NoLower) where
  abbrev n : ℕ
  n = length prompt

  abbrev text : List ℕ
  text = before ++ rest

  abbrev edge : List ℕ
  edge = row_edge cols (columns_behind (length continuation) n text)

  -- all lines
  summed : sum_by (rows_of_line cols) (lines_of (typed_text scene.prompt ++ (typed_text scene.line ++ edge))) ≡ 1 + rows_down cols n (length continuation) (rows_of_text text)
  summed =
      rw (h.prompt_is, line-is cols prompt continuation before rest scene h)
      (rows-summed cols h.wide continuation h.printable.printable_continuation n prompt text refl h.printable.printable_prompt (rows-typed cols prompt continuation before rest scene h))

  -- the space that is painted after the line
  edge_painted : typed_text (edge_space cols (place_behind cols scene scene.line) ++ lower_changes scene.lower) ≡ edge
  edge_painted =
      let some : 0 < cols = omega (arith, h.wide) in
      let from : Place = place_after_all cols (before_line scene.prompt) origin in
      let long : length (typed_text scene.prompt) ≡ n = ap (λ (t : List ℕ). length t) h.prompt_is in
      let tip : IsTip cols 0 n from = rw long at (prompt_tip cols prompt continuation before rest scene h) in
      let went = spread-tip cols continuation 0 n text from some h.printable.printable_continuation (rows-typed cols prompt continuation before rest scene h) tip in
      let at : place_behind cols scene scene.line ≡ after cols (spread cols continuation n text) from =
      place-both cols (before_line scene.prompt) scene.line origin ∙ changes-after cols scene.line from h.line_typing
      ∙ ap (λ (t : List ℕ). after cols t from) (line-is cols prompt continuation before rest scene h) in
      typed-both (edge_space cols (place_behind cols scene scene.line)) (lower_changes scene.lower)
      ∙ ap (λ lower. typed_text (edge_space cols (place_behind cols scene scene.line)) ++ typed_text (lower_changes lower)) bare
      ∙ append-nil (typed_text (edge_space cols (place_behind cols scene scene.line)))
      ∙ ap (λ p. typed_text (edge_space cols p)) at
      ∙ edge-typed cols went.last (columns_behind (length continuation) n text) (after cols (spread cols continuation n text) from) some went.tip

  -- a line of rows
  last_of_rows : (rows : HasPlainRows cols scene) → sheet_last_row cols (sheet_of characters cols (other cols scene rows)) ≡ rows_down cols n (length continuation) (rows_of_text text)
  last_of_rows rows =
      let first : List ℕ = head cols scene rows in
      let lines = ap (λ (t : List ℕ). lines_of (typed_text scene.prompt ++ (typed_text scene.line ++ t))) edge_painted in
      let all : rows_of_line cols first + sum_by (rows_of_line cols) (below cols scene rows) ≡ 1 + rows_down cols n (length continuation) (rows_of_text text) =
      sym (sum_by-cons (rows_of_line cols) first (below cols scene rows)) ∙ ap (sum_by (rows_of_line cols)) (sym (folded_lines cols scene rows) ∙ lines) ∙ summed in
      rw (folded_text cols scene rows, folded_lower cols scene rows) (omega (arith, all, head_rows cols scene rows))

  -- a line of one row
  last_of_row : has_pair scene.line ≡ false → sheet_last_row cols (sheet_of characters cols scene) ≡ rows_down cols n (length continuation) (rows_of_text text)
  last_of_row none =
      let line : List ℕ = typed_text scene.line in
      let typing = unpaired scene.line h.line_typing none in
      let shown = line-is cols prompt continuation before rest scene h in
      let plain : list_all is_printable line ≡ true = printable_typed scene.line typing in
      let alone = printable-alone cols h.wide continuation h.printable.printable_continuation n text (rows-typed cols prompt continuation before rest scene h) (rw shown at plain) in
      let count : columns_behind (length continuation) n text ≡ length (text_of scene) =
      alone.1 ∙ ap (λ (t : List ℕ). n + length t) (sym (shown ∙ alone.0)) ∙ ap (λ (t : List ℕ). length t + length line) (sym h.prompt_is) ∙ sym (length-append (typed_text scene.prompt) line) in
      let last : edge_of cols scene ≡ edge = ap (row_edge cols) (sym count) in
      let all : List ℕ = typed_text scene.prompt ++ (line ++ edge) in
      let one : lines_of all ≡ all ∷ [] =
      one_line all (both_hold is_printable (typed_text scene.prompt) (line ++ edge) (printable_typed scene.prompt h.prompt_typing) (both_hold is_printable line edge plain (edge-printable cols (columns_behind (length continuation) n text)))) in
      let long : length all ≡ length (text_of scene) + length (row_edge cols (length (text_of scene))) =
      omega (arith, length-append (typed_text scene.prompt) (line ++ edge), length-append line edge, length-append (typed_text scene.prompt) line, ap (λ i. length (row_edge cols i)) count) in
      let off : length all % cols ≡ 0 → length all ≡ 0 = λ e. long ∙ edge-off cols (length (text_of scene)) h.wide (ap (λ i. i % cols) (sym long) ∙ e) in
      let rows : rows_of_line cols all + 0 ≡ 1 + rows_down cols n (length continuation) (rows_of_text text) =
      sym (sum_by-cons (rows_of_line cols) all []) ∙ ap (sum_by (rows_of_line cols)) (sym one) ∙ summed in
      let text_is : (sheet_of characters cols scene).text ≡ all = text-is cols scene h.wide (is_plain_scene cols prompt continuation before rest scene h none) ∙ ap (λ (l : List ℕ). typed_text scene.prompt ++ (line ++ l)) last in
      let lower_is : (sheet_of characters cols scene).lower ≡ [] = ap (λ lower. (sheet_of characters cols (record scene { lower = lower })).lower) bare in
      rw (text_is, lower_is) (omega (arith, rows, rows-off-edge cols (length all) h.wide off))

pub last_row_by_division : LastRowByDivision
last_row_by_division cols prompt continuation before rest scene h bare = by (has_pair scene.line) refl
  where
    by : (k : Bool) → has_pair scene.line ≡ k
        → sheet_last_row cols (sheet_of characters cols (if k then folded cols scene (first_row_changes scene.line) (other_rows scene.line) else scene))
        ≡ rows_down cols (length prompt) (length continuation) (rows_of_text (before ++ rest))
    by true e = last_of_rows cols prompt continuation before rest scene h bare (has_rows cols prompt continuation before rest scene h e)
    by false e = last_of_row cols prompt continuation before rest scene h bare e

-- ---- a run

module _ {V : Type 0} (rules : HostRules V) where
  -- stations that show lines are painted as plain ones
  all_alike : (earlier : List (Station V)) (station : Station V) → AllByRecursion (λ s. ShowsSomeLine (sized_scene rules s)) earlier
      → IsPaintedAs characters (sized_scene rules station) (plain_station (sized_scene rules station))
      → ArePaintedAs characters (map (sized_scene rules) (earlier ++ station ∷ [])) (line_stations rules earlier ++ plain_station (sized_scene rules station) ∷ [])
  all_alike [] station lines it = (it, tt)
  all_alike (first ∷ more) station lines it =
      let line = lines.0 in
      (shown_lines_are_plain characters first.size.cols line.prompt line.continuation line.left line.right (sized_scene rules first).scene line.shows, all_alike more station lines.1 it)

  pub comes_measured : (rows : Option ℕ) (f : Frame V) (earlier : List (Station V)) (station : Station V) (later : List (Station V)) (prompt continuation left right : List ℕ) (screen : PictureOf ℕ)
      → ComesToLine rules rows f earlier station later prompt continuation left right screen
      → ComesMeasured rules characters rows f earlier station later (line_stations rules earlier) (plain_station (sized_scene rules station)) screen
  comes_measured rows f earlier station later prompt continuation left right screen h = record {
    comes = h.comes;
    alike = all_alike earlier station h.lines (shown_lines_are_plain characters station.size.cols prompt continuation left right (sized_scene rules station).scene h.line);
    low = subst (All (HasRoom rows characters)) (map-append (λ s. plain_station (sized_scene rules s)) earlier (station ∷ [])) h.low;
    at_start = h.at_start;
    in_sight = h.in_sight;
  }

  pub lines_stand_in_rows : LinesStandInRows rules
  lines_stand_in_rows f rows cuts v earlier station later prompt continuation left right screen h =
      let shown : PictureOf ℕ = play_stations rules characters rows cuts v tt (earlier ++ station ∷ []) screen in
      let last : SizedScene = plain_station (sized_scene rules station) in
      let p = drawn_paintings rules characters f rows cuts v tt earlier station later (line_stations rules earlier) last screen
      (comes_measured rows f earlier station later prompt continuation left right screen h) in
      let top : List SizedScene → ℕ = λ stations. top_row rows screen.row (map (painting_of characters) stations) in
      let fresh = subst (λ (l : List SizedScene). IsFreshSheet last.cols (top l) blank (painting_of characters last).sheet shown) (sym (map-append (λ s. plain_station (sized_scene rules s)) earlier (station ∷ []))) p.shown.fresh in
      cells_by_division station.size.cols (top (line_stations rules (earlier ++ station ∷ []))) prompt continuation left right (sized_scene rules station).scene shown h.line fresh

  pub lines_close_below : LinesCloseBelow rules
  lines_close_below f rows cuts v w earlier station later prompt continuation left right screen h bare none wide =
      let cols : ℕ = station.size.cols in
      let shown : PictureOf ℕ = play_stations rules characters rows cuts v tt (earlier ++ station ∷ []) screen in
      let after : PictureOf ℕ = closed_by rules characters rows cuts cols w tt f shown in
      let last : SizedScene = plain_station (sized_scene rules station) in
      let c = (drawn_closings rules characters f rows cuts v w tt tt earlier station later (line_stations rules earlier) last screen
      (comes_measured rows f earlier station later prompt continuation left right screen h) none wide).1 in
      let top : List SizedScene → ℕ = λ stations. top_row rows screen.row (map (painting_of characters) stations) in
      let two = subst (λ (l : List SizedScene). IsClosedSheet rows w blank (top l + sheet_last_row cols (painting_of characters last).sheet) (resized cuts blank cols w shown) after) (sym (map-append (λ s. plain_station (sized_scene rules s)) earlier (station ∷ []))) c in
      subst (λ n. IsClosedSheet rows w blank (top (line_stations rules (earlier ++ station ∷ [])) + n) (resized cuts blank cols w shown) after)
      (last_row_by_division cols prompt continuation left right (sized_scene rules station).scene h.line bare) two
