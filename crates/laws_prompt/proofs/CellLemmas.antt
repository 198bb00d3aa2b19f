-- Each character of a line stands in its cell.
use Rattle.std.proofs.Common.{◌≡◌, ℕ, ◌+◌, ◌-◌, ◌/◌, ◌%◌, ◌<◌, ◌≤◌, max, Bool, true, false, eqb, List, [], ◌∷◌, ◌++◌, length, refl, ap, sym, subst, ◌∙◌, arith, length-append, append_assoc, pos, ◌+ℤ◌, ◌*◌, ltb, append-nil, Option, Some, None, take, drop, take-append-drop}
use Rattle.std.specs.Prelude.{slice_index_or, unwrap_or}
use Rattle.std.specs.List.{list_all}
use Rattle.std.proofs.lemmas.Bool.{and_parts, and_from, or_parts, false≢true, lt-ltb}
use Rattle.std.proofs.lemmas.List.{get_or_append_left, map-append}
use Rattle.std.proofs.Math.Seq.{get_or-append_seam}
use Rattle.laws_screens.specs.Strokes.{PictureOf}
use Rattle.laws_screens.specs.Sheets.{AreLinesShown, IsTextShown, rows_of_line, IsFreshSheet}
use Rattle.tw_surface.specs.Characters.{is_printable, cr, lf}
use Rattle.tw_surface.specs.Lines.{before_lines, lines_of, text_of_lines}
use Rattle.tw_surface.specs.Pictures.{blank}
use Rattle.laws_prompt.specs.Rows.{is_row_character, rows_of_text, rows_taken, rows_down, column_after, row_edge, spread, before_rows}
use Rattle.laws_prompt.proofs.RowTexts.{over_rows, printable-row, edge-printable, some-rows, before-row, no-edge, both_hold, each_holds, some_lines, all_first, ends_there, not_cr, put_first, are_rows, rows-with-edge, spread-lines, spread-both, rows-off-edge, printable_rows}
use Rattle.std.proofs.lemmas.Int.{ints}
use Rattle.std.proofs.Math.Nat.{mul-add-mod_self_right, mul-add-div_right}
use Rattle.tw_surface.specs.ChangeView.{Batch, Attribute, AllAttributes, Text}
use Rattle.tw_surface.specs.Defaults.{default_attributes}
use Rattle.tw_surface.specs.Fresh.{text_of}
use Rattle.tw_surface.specs.Paintings.{before_line}
use Rattle.tw_surface.specs.Places.{Place, origin, place_after_all}
use Rattle.tw_surface.specs.Scenes.{Scene, IsPlain, is_typing, typed_text}
use Rattle.laws_screens.specs.PaintedAlike.{IsPaintedAs}
use Rattle.laws_screens.specs.Pens.{Pen}
use Rattle.laws_screens.specs.SceneSheets.{sheet_of}
use Rattle.laws_screens.specs.StyledCells.{characters}
use Rattle.laws_screens.proofs.FreshCharacters.{at_is, text_is, lower_is}
use Rattle.laws_screens.proofs.PaintedAlikeLemmas.{measured_is_itself}
use Rattle.laws_screens.proofs.PlainScenes.{plain_is_measured}
use Rattle.laws_screens.proofs.RowSceneLemmas.{rows_are_a_preview}
use Rattle.laws_screens.proofs.PlainTexts.{one_line}
use Rattle.laws_screens.specs.RowScenes.{folded}
use Rattle.laws_prompt.specs.MeasuredRows.{is_row_typing, has_pair, first_row_changes, other_rows, HasPlainRows, plain_folded}
use Rattle.laws_prompt.specs.RowCells.{ShowsLine, AnswersShowLines, ShownLinesArePlain, StandInRows, CellsByDivision, RowsAnswerLine}
use Rattle.laws_prompt.proofs.ColumnLemmas.{cursor_stands_in_its_row, row_column_is_settled, IsTip, tip-start, tip-changes}
use Rattle.laws_prompt.proofs.MeasuredRowLemmas.{parts_of, end, typed-both, line_text, first_typed, folded_is_plain, plain_rows_are_rows}
use Rattle.tw_surface.specs.Attributes.{with_attribute}
use Rattle.tw_surface.specs.declared.cell.CellAttributes.{CellAttributes}
use Rattle.tw_host.specs.ElementView as element
use Rattle.tw_host.specs.ElementView.{ElementView, changes_of, element_change}
use Rattle.tw_host.specs.Faithful.{text_of_elements}
use Rattle.tw_hosts.specs.Settling.{PromptScreenView}
use Rattle.tw_prompt_host.specs.Rows.{RowView, next_row, row_with, row_behind, row_break, row_columns, break_elements, elements_of_rows, elements_from}
use Rattle.tw_prompt_host.proofs.RowLemmas.{printable_is_shown}

-- what begins the first line stands from its first cell on
pub first_cells : (cols : ℕ) (shown : PictureOf ℕ) (from : ℕ) (x rest : List ℕ) → list_all is_printable x ≡ true → AreLinesShown cols from blank (lines_of (x ++ rest)) shown
    → (k : ℕ) → k < length x → shown.cell (from + k / cols) (k % cols) ≡ slice_index_or x k blank
first_cells cols shown from x rest plain lines k inside =
    let it = some_lines rest in
    let text : IsTextShown cols from blank (x ++ it.0) shown = (subst (λ (ls : List (List ℕ)). AreLinesShown cols from blank ls shown) (all_first x rest it.0 it.1 plain it.2) lines).0 in
    text k (omega (arith, inside, length-append x it.0)) ∙ get_or_append_left x it.0 blank k inside

module _ (cols : ℕ) (two : 2 ≤ cols) (continuation : List ℕ) (printable : list_all is_printable continuation ≡ true) (tail : List ℕ) (shown : PictureOf ℕ) where
  abbrev c : ℕ
  c = length continuation

  -- the screen shows these lines from a row on
  abbrev Shows : ℕ → List ℕ → Type 0
  Shows from text = AreLinesShown cols from blank (lines_of text) shown

  -- after a row and its edge the next one begins below
  under_row : (from n : ℕ) (x text : List ℕ) → length x ≡ n → list_all is_printable x ≡ true
      → Shows from (x ++ ((row_edge cols n ++ (cr ∷ lf ∷ (continuation ++ text))) ++ tail)) → Shows (from + rows_taken cols n) (continuation ++ (text ++ tail))
  under_row from n x text long plain lines =
      let below : List ℕ = continuation ++ (text ++ tail) in
      let edge : List ℕ = row_edge cols n in
      let all : x ++ ((edge ++ (cr ∷ lf ∷ (continuation ++ text))) ++ tail) ≡ (x ++ edge) ++ (cr ∷ lf ∷ below) =
      ap (λ (l : List ℕ). x ++ l) (append_assoc edge (cr ∷ lf ∷ (continuation ++ text)) tail)
      ∙ ap (λ (l : List ℕ). x ++ (edge ++ (cr ∷ lf ∷ l))) (append_assoc continuation text tail)
      ∙ sym (append_assoc x edge (cr ∷ lf ∷ below)) in
      let cut : lines_of ((x ++ edge) ++ (cr ∷ lf ∷ below)) ≡ (x ++ edge) ∷ lines_of below = ends_there (x ++ edge) below (both_hold is_printable x edge plain (edge-printable cols n)) in
      let rows : rows_of_line cols (x ++ edge) ≡ rows_taken cols n =
      ap (λ i. max 1 ((i + cols - 1) / cols)) (length-append x edge ∙ ap (λ i. i + length edge) long) ∙ rows-with-edge cols n two in
      rw rows at (subst (λ (ls : List (List ℕ)). AreLinesShown cols from blank ls shown) (ap lines_of all ∙ cut) lines).1

  -- a character more before the first row
  moved : (from : ℕ) (x : List ℕ) (d : ℕ) (text : List ℕ) → Shows from (x ++ ((d ∷ text) ++ tail)) → Shows from ((x ++ d ∷ []) ++ (text ++ tail))
  moved from x d text lines = subst (λ (l : List ℕ). Shows from l) (sym (append_assoc x (d ∷ []) (text ++ tail))) lines

  longer : (n : ℕ) (x : List ℕ) (d : ℕ) → length x ≡ n → length (x ++ d ∷ []) ≡ n + 1
  longer n x d long = length-append x (d ∷ []) ∙ ap (λ i. i + 1) long

  still-plain : (x : List ℕ) (d : ℕ) → list_all is_printable x ≡ true → is_printable d ≡ true → list_all is_printable (x ++ d ∷ []) ≡ true
  still-plain x d plain here = both_hold is_printable x (d ∷ []) plain (and_from (is_printable d) true here refl)

  -- a character of the first row, after the x before it
  cell_here : (from n : ℕ) (x : List ℕ) (ch : ℕ) (right : List ℕ) → length x ≡ n → list_all is_printable x ≡ true → is_printable ch ≡ true
      → Shows from (x ++ (ch ∷ right)) → shown.cell (from + n / cols) (n % cols) ≡ ch
  cell_here from n x ch right long plain mine lines =
      let it = some_lines right in
      let one : lines_of (ch ∷ right) ≡ (ch ∷ it.0) ∷ it.1 = ap (λ ls. before_lines ch ls) it.2 ∙ put_first ch it.0 it.1 (not_cr ch mine) in
      let all = all_first x (ch ∷ right) (ch ∷ it.0) it.1 plain one in
      let text : IsTextShown cols from blank (x ++ ch ∷ it.0) shown = (subst (λ (ls : List (List ℕ)). AreLinesShown cols from blank ls shown) all lines).0 in
      let inside : length x < length (x ++ ch ∷ it.0) = omega (arith, length-append x (ch ∷ it.0)) in
      let cell = text (length x) inside ∙ get_or-append_seam x ch it.0 blank in
      rw long at cell

  -- a character of a text, after the x before its first row
  pub cell_there : (n : ℕ) (left : List ℕ) (ch : ℕ) (right : List ℕ) → list_all is_row_character (left ++ ch ∷ right) ≡ true → eqb ch lf ≡ false
      → (from : ℕ) (x : List ℕ) → length x ≡ n → list_all is_printable x ≡ true → Shows from (x ++ (spread cols continuation n (left ++ ch ∷ right) ++ tail))
      → shown.cell (from + rows_down cols n c (rows_of_text left)) (column_after cols n c (rows_of_text left)) ≡ ch
  cell_there n left ch right rows mine =
      let both = each_holds is_row_character left (ch ∷ right) rows in
      let here = printable-row ch (and_parts (is_row_character ch) (list_all is_row_character right) both.1).0 mine in
      over_rows c (λ n left. (from : ℕ) (x : List ℕ) → length x ≡ n → list_all is_printable x ≡ true → Shows from (x ++ (spread cols continuation n (left ++ ch ∷ right) ++ tail))
      → shown.cell (from + rows_down cols n c (rows_of_text left)) (column_after cols n c (rows_of_text left)) ≡ ch)
      (λ n from x long plain lines.
      let none : n ≡ n + 0 = omega arith in
      rw (← none) (cell_here from n x ch (spread cols continuation (n + 1) right ++ tail) long plain here (rw mine at lines)))
      (λ n left so from x long plain lines.
      let it = some-rows left in
      let cell = rw it.2 at (so (from + rows_taken cols n) continuation refl printable (under_row from n x (spread cols continuation c (left ++ ch ∷ right)) long plain lines)) in
      let none : n ≡ n + 0 = omega arith in
      let down : from + rows_taken cols n + rows_down cols c c (it.0 ∷ it.1) ≡ from + (rows_taken cols n + rows_down cols c c (it.0 ∷ it.1)) = omega arith in
      rw it.2 (rw (← none) (rw (← down) cell)))
      (λ n d left plain_d e so from x long plain lines.
      let it = some-rows left in
      let same = before-row cols n c d it.0 it.1 in
      let cell = so from (x ++ d ∷ []) (longer n x d long) (still-plain x d plain plain_d) (moved from x d (spread cols continuation (n + 1) (left ++ ch ∷ right)) (rw e at lines)) in
      rw (e, it.2) (rw (← same.0, ← same.1) (rw it.2 at cell)))
      n left both.0

  -- what comes after a line feed begins in the row below that in which the text before it ends
  pub lines_behind : (n : ℕ) (left right : List ℕ) → list_all is_row_character (left ++ lf ∷ right) ≡ true
      → (from : ℕ) (x : List ℕ) → length x ≡ n → list_all is_printable x ≡ true → Shows from (x ++ (spread cols continuation n (left ++ lf ∷ right) ++ tail))
      → Shows (from + rows_down cols n c (rows_of_text left) + 1) (continuation ++ (spread cols continuation c right ++ tail))
  lines_behind n left right rows =
      let below : List ℕ = continuation ++ (spread cols continuation c right ++ tail) in
      over_rows c (λ n left. (from : ℕ) (x : List ℕ) → length x ≡ n → list_all is_printable x ≡ true → Shows from (x ++ (spread cols continuation n (left ++ lf ∷ right) ++ tail))
      → Shows (from + rows_down cols n c (rows_of_text left) + 1) below)
      (λ n from x long plain lines.
      let down : from + rows_taken cols n ≡ from + (n + 0) / cols + 1 = (let none : n + 0 ≡ n = omega arith in rw none (omega arith)) in
      subst (λ i. Shows i below) down (under_row from n x (spread cols continuation c right) long plain lines))
      (λ n left so from x long plain lines.
      let it = some-rows left in
      let rest = rw it.2 at (so (from + rows_taken cols n) continuation refl printable (under_row from n x (spread cols continuation c (left ++ lf ∷ right)) long plain lines)) in
      let none : n ≡ n + 0 = omega arith in
      let down : from + rows_taken cols n + rows_down cols c c (it.0 ∷ it.1) + 1 ≡ from + (rows_taken cols (n + 0) + rows_down cols c c (it.0 ∷ it.1)) + 1 = rw (← none) (omega arith) in
      rw it.2 (subst (λ i. Shows i below) down rest))
      (λ n d left plain_d e so from x long plain lines.
      let it = some-rows left in
      let same = before-row cols n c d it.0 it.1 in
      let rest = rw it.2 at (so from (x ++ d ∷ []) (longer n x d long) (still-plain x d plain plain_d) (moved from x d (spread cols continuation (n + 1) (left ++ lf ∷ right)) (rw e at lines))) in
      rw (e, it.2) (subst (λ i. Shows (from + i + 1) below) same.0 rest))
      n left (each_holds is_row_character left (lf ∷ right) rows).0

-- ---- a sheet of characters

-- the characters of attributes and printable texts
pub printable_typed : (changes : Batch) → list_all is_typing changes ≡ true → list_all is_printable (typed_text changes) ≡ true
printable_typed [] h = refl
printable_typed (Text text ∷ more) h =
    let both = and_parts (list_all is_printable text) (list_all is_typing more) h in
    both_hold is_printable text (typed_text more) both.0 (printable_typed more both.1)
printable_typed (Attribute a ∷ more) h = printable_typed more h
printable_typed (AllAttributes a ∷ more) h = printable_typed more h
printable_typed (change ∷ more) h = absurd (false≢true h)

-- a line without a pair of CR and LF is printable
pub unpaired : (line : Batch) → list_all is_row_typing line ≡ true → has_pair line ≡ false → list_all is_typing line ≡ true
unpaired [] h p = refl
unpaired (Text text ∷ more) h p =
    let both = and_parts (are_rows text) (list_all is_row_typing more) h in
    let parts = or_parts (ltb 1 (length (lines_of text))) (has_pair more) p in
    let it = parts_of text in
    and_from (list_all is_printable text) (list_all is_typing more)
    (one it.line it.more it.text_is (sym (ap (list_all (list_all is_printable)) it.are) ∙ both.0) (sym (ap (λ (ls : List (List ℕ)). ltb 1 (length ls)) it.are) ∙ parts.0)) (unpaired more both.1 parts.1)
  where
    one : (line : List ℕ) (lines : List (List ℕ)) → text_of_lines (line ∷ lines) ≡ text → list_all (list_all is_printable) (line ∷ lines) ≡ true → ltb 1 (length (line ∷ lines)) ≡ false
        → list_all is_printable text ≡ true
    one line [] is k few = subst (λ (t : List ℕ). list_all is_printable t ≡ true) is (and_parts (list_all is_printable line) true k).0
    one line (next ∷ lines) is k few = absurd (false≢true (sym few ∙ lt-ltb 1 (length (line ∷ next ∷ lines)) (omega arith)))
unpaired (Attribute a ∷ more) h p = unpaired more h p
unpaired (AllAttributes a ∷ more) h p = unpaired more h p
unpaired (change ∷ more) h p = absurd (false≢true h)

-- the space at the edge
abbrev pub edge_of : ℕ → Scene → List ℕ
edge_of cols scene = row_edge cols (length (text_of scene))

-- its first line
pub text-is : (cols : ℕ) (scene : Scene) → 2 ≤ cols → IsPlain scene → (sheet_of characters cols scene).text ≡ typed_text scene.prompt ++ (typed_text scene.line ++ edge_of cols scene)
text-is cols scene two plain = text_is cols 0 scene two plain ∙ append_assoc (typed_text scene.prompt) (typed_text scene.line) (edge_of cols scene)

module _ (cols : ℕ) (scene : Scene) (h : HasPlainRows cols scene) where
  abbrev pub other : Scene
  other = folded cols scene (first_row_changes scene.line) (other_rows scene.line)

  -- the prompt and the first row
  abbrev pub head : List ℕ
  head = typed_text scene.prompt ++ typed_text (first_row_changes scene.line)

  abbrev pub below : List (List ℕ)
  below = lines_of (typed_text (other_rows scene.line) ++ typed_text (end cols scene h))

  pub folded_text : (sheet_of characters cols other).text ≡ head
  folded_text =
      let prompt : List ℕ = typed_text scene.prompt in
      let first : List ℕ = typed_text (first_row_changes scene.line) in
      text-is cols other h.wide (folded_is_plain cols scene h) ∙ ap (λ (l : List ℕ). prompt ++ (first ++ l)) (no-edge cols (length (text_of other)) h.off_edge) ∙ ap (λ (l : List ℕ). prompt ++ l) (append-nil first)

  pub folded_lower : (sheet_of characters cols other).lower ≡ below
  folded_lower =
      let plain = folded_is_plain cols scene h in
      lower_is cols 0 other h.wide plain other.lower plain.lower ∙ ap lines_of (typed-both (other_rows scene.line) (end cols scene h))

  -- the lines of all that is typed
  pub folded_lines : lines_of (typed_text scene.prompt ++ (typed_text scene.line ++ typed_text (end cols scene h))) ≡ head ∷ below
  folded_lines =
      let prompt : List ℕ = typed_text scene.prompt in
      let first : List ℕ = typed_text (first_row_changes scene.line) in
      let others : List ℕ = typed_text (other_rows scene.line) in
      let all : prompt ++ (typed_text scene.line ++ typed_text (end cols scene h)) ≡ head ++ (cr ∷ lf ∷ (others ++ typed_text (end cols scene h))) =
      ap (λ (l : List ℕ). prompt ++ (l ++ typed_text (end cols scene h))) (line_text scene.line h.pair)
      ∙ ap (λ (l : List ℕ). prompt ++ l) (append_assoc first (cr ∷ lf ∷ others) (typed_text (end cols scene h)))
      ∙ sym (append_assoc prompt first (cr ∷ lf ∷ (others ++ typed_text (end cols scene h)))) in
      let plain = both_hold is_printable prompt first (printable_typed scene.prompt h.prompt) (printable_typed (first_row_changes scene.line) (first_typed scene.line h.line)) in
      ap lines_of all ∙ ends_there head (others ++ typed_text (end cols scene h)) plain

  pub head_rows : rows_of_line cols head ≡ 1 + length head / cols
  head_rows = rows-off-edge cols (length head) h.wide h.off_edge

module _ (cols s : ℕ) (scene : Scene) (shown : PictureOf ℕ) where
  -- a line of rows
  lines_below : (h : HasPlainRows cols scene) → IsFreshSheet cols s blank (sheet_of characters cols (other cols scene h)) shown
      → AreLinesShown cols s blank (lines_of (typed_text scene.prompt ++ (typed_text scene.line ++ typed_text (end cols scene h)))) shown
  lines_below h fresh =
      let text = folded_text cols scene h in
      let first : List ℕ = head cols scene h in
      let lines : List (List ℕ) = below cols scene h in
      let sheet_text : List ℕ = (sheet_of characters cols (other cols scene h)).text in
      let from : s + length first / cols + 1 ≡ s + rows_of_line cols first = omega (arith, head_rows cols scene h) in
      let shown_first : IsTextShown cols s blank first shown = subst (λ (l : List ℕ). IsTextShown cols s blank l shown) text fresh.shown in
      let under : AreLinesShown cols (s + length sheet_text / cols + 1) blank lines shown =
      subst (λ (ls : List (List ℕ)). AreLinesShown cols (s + length sheet_text / cols + 1) blank ls shown) (folded_lower cols scene h) fresh.below in
      let under_first : AreLinesShown cols (s + length first / cols + 1) blank lines shown = subst (λ (l : List ℕ). AreLinesShown cols (s + length l / cols + 1) blank lines shown) text under in
      subst (λ (ls : List (List ℕ)). AreLinesShown cols s blank ls shown) (sym (folded_lines cols scene h)) (shown_first, rw from at under_first)

  -- a line of one row
  line_alone : 2 ≤ cols → IsPlain scene → IsFreshSheet cols s blank (sheet_of characters cols scene) shown
      → AreLinesShown cols s blank (lines_of (typed_text scene.prompt ++ (typed_text scene.line ++ edge_of cols scene))) shown
  line_alone two k fresh =
      let all : List ℕ = typed_text scene.prompt ++ (typed_text scene.line ++ edge_of cols scene) in
      let plain : list_all is_printable all ≡ true =
      both_hold is_printable (typed_text scene.prompt) (typed_text scene.line ++ edge_of cols scene) (printable_typed scene.prompt k.prompt)
      (both_hold is_printable (typed_text scene.line) (edge_of cols scene) (printable_typed scene.line k.line) (edge-printable cols (length (text_of scene)))) in
      subst (λ (ls : List (List ℕ)). AreLinesShown cols s blank ls shown) (sym (one_line all plain))
      (subst (λ (t : List ℕ). IsTextShown cols s blank t shown) (text-is cols scene two k) fresh.shown, tt)

-- ---- a scene that shows a line

module _ (cols : ℕ) (prompt continuation before rest : List ℕ) (scene : Scene) (h : ShowsLine cols prompt continuation before rest scene) where
  pub line-is : typed_text scene.line ≡ spread cols continuation (length prompt) (before ++ rest)
  line-is = h.line_is ∙ sym (spread-both cols continuation (length prompt) before rest h.printable.rows_before)

  pub rows-typed : list_all is_row_character (before ++ rest) ≡ true
  rows-typed = both_hold is_row_character before rest h.printable.rows_before h.printable.rows_behind

  -- with a pair of CR and LF it has rows
  pub has_rows : has_pair scene.line ≡ true → HasPlainRows cols scene
  has_rows pair =
      let first : List ℕ = typed_text (first_row_changes scene.line) in
      let others : List ℕ = typed_text (other_rows scene.line) in
      let lines = spread-lines cols continuation (length prompt) (before ++ rest) h.wide h.printable.printable_continuation rows-typed in
      let same : lines.first ∷ lines.more ≡ first ∷ lines_of others =
      sym lines.are ∙ ap lines_of (sym line-is ∙ line_text scene.line pair) ∙ ends_there first others (printable_typed (first_row_changes scene.line) (first_typed scene.line h.line_typing)) in
      let head : lines.first ≡ first = cc (same) in
      let tail : lines.more ≡ lines_of others = cc (same) in
      let it = some_lines others in
      let some : 0 < length lines.more = rw (tail, it.2) (omega arith) in
      let n : length (typed_text scene.prompt ++ first) ≡ length prompt + length lines.first =
      length-append (typed_text scene.prompt) first ∙ ap (λ (t : List ℕ). length t + length first) h.prompt_is ∙ ap (λ (t : List ℕ). length prompt + length t) (sym head) in
      record {
        wide = h.wide;
        prompt = h.prompt_typing;
        line = h.line_typing;
        lower = h.lower;
        pair = pair;
        off_edge = λ e. n ∙ lines.off some (ap (λ i. i % cols) (sym n) ∙ e);
      }

  -- without one it is plain
  pub is_plain_scene : has_pair scene.line ≡ false → IsPlain scene
  is_plain_scene none = record { prompt = h.prompt_typing; line = unpaired scene.line h.line_typing none; lower = h.lower }

  -- the cursor
  abbrev at : ℕ
  at = length (typed_text scene.prompt) + scene.column

  pub prompt_tip : IsTip cols 0 (length (typed_text scene.prompt)) (place_after_all cols (before_line scene.prompt) origin)
  prompt_tip =
      let all : Batch = scene.prompt ++ AllAttributes default_attributes ∷ [] in
      let typing : list_all is_typing all ≡ true = both_hold is_typing scene.prompt (AllAttributes default_attributes ∷ []) h.prompt_typing refl in
      let n : 0 + length (typed_text all) ≡ length (typed_text scene.prompt) = (let e = ap (λ (t : List ℕ). length t) (typed-both scene.prompt (AllAttributes default_attributes ∷ []) ∙ append-nil (typed_text scene.prompt)) in omega (arith, e)) in
      rw n at (tip-changes cols 0 0 all origin (omega (arith, h.wide)) typing (tip-start cols 0))

  cursor_row : at / cols ≡ rows_down cols (length prompt) (length continuation) (rows_of_text before)
  cursor_row =
      let p : Place = place_after_all cols (before_line scene.prompt) origin in
      let e : at ≡ prompt_tip.down * cols + (p.x + scene.column) = omega (arith, prompt_tip.columns) in
      let row : at / cols ≡ prompt_tip.down + (p.x + scene.column) / cols = ap (λ i. i / cols) e ∙ mul-add-div_right (omega (arith, h.wide)) prompt_tip.down (p.x + scene.column) in
      let y : p.y +ℤ pos ((p.x + scene.column) / cols) ≡ pos (rows_down cols (length prompt) (length continuation) (rows_of_text before)) = ap (λ (q : Place). q.y) h.cursor in
      omega (arith, ints, y, prompt_tip.row, row)

  cursor_col : at % cols ≡ column_after cols (length prompt) (length continuation) (rows_of_text before)
  cursor_col =
      let p : Place = place_after_all cols (before_line scene.prompt) origin in
      let e : at ≡ prompt_tip.down * cols + (p.x + scene.column) = omega (arith, prompt_tip.columns) in
      ap (λ i. i % cols) e ∙ mul-add-mod_self_right prompt_tip.down cols (p.x + scene.column) ∙ ap (λ (q : Place). q.x) h.cursor

  -- a fresh painting has the line's characters in their cells
  stands : (s : ℕ) (shown : PictureOf ℕ) (tail : List ℕ)
      → AreLinesShown cols s blank (lines_of (typed_text scene.prompt ++ (typed_text scene.line ++ tail))) shown
      → shown.row ≡ s + at / cols → shown.col ≡ at % cols → StandInRows cols s prompt continuation before rest shown
  stands s shown tail lines row col = record {
    row = row ∙ ap (λ i. s + i) cursor_row;
    col = col ∙ cursor_col;
    prompt_cells = first_cells cols shown s prompt (typed_text scene.line ++ tail) h.printable.printable_prompt (rw h.prompt_is at lines);
    continuation_cells = λ left right e k inside.
        let rows : list_all is_row_character (left ++ lf ∷ right) ≡ true = sym (ap (list_all is_row_character) e) ∙ rows-typed in
        let below = lines_behind cols h.wide continuation h.printable.printable_continuation tail shown (length prompt) left right rows s prompt refl h.printable.printable_prompt
        (rw (h.prompt_is, line-is ∙ ap (spread cols continuation (length prompt)) e) at lines) in
        first_cells cols shown (s + rows_down cols (length prompt) (length continuation) (rows_of_text left) + 1) continuation (spread cols continuation (length continuation) right ++ tail)
        h.printable.printable_continuation below k inside;
    cells = λ left ch right e not_lf.
        cell_there cols h.wide continuation h.printable.printable_continuation tail shown (length prompt) left ch right (sym (ap (list_all is_row_character) e) ∙ rows-typed) not_lf
        s prompt refl h.printable.printable_prompt (rw (h.prompt_is, line-is ∙ ap (spread cols continuation (length prompt)) e) at lines);
  }

pub shown_lines_are_plain : {A C : Type 0} (pen : Pen A C) → ShownLinesArePlain pen
shown_lines_are_plain pen cols prompt continuation before rest scene h = by (has_pair scene.line) refl
  where
    by : (k : Bool) → has_pair scene.line ≡ k → IsPaintedAs pen (record { scene = scene; cols = cols }) (record { scene = plain_folded cols scene; cols = cols })
    by true e =
        let rows = plain_rows_are_rows pen cols scene (has_rows cols prompt continuation before rest scene h e) in
        rw e (rows_are_a_preview pen (record { scene = scene; cols = cols }) (first_row_changes scene.line) (other_rows scene.line) rows)
    by false e =
        rw e (measured_is_itself pen (record { scene = scene; cols = cols }) (h.wide, plain_is_measured cols scene h.wide (is_plain_scene cols prompt continuation before rest scene h e)))

pub cells_by_division : CellsByDivision
cells_by_division cols s prompt continuation before rest scene shown h fresh = by (has_pair scene.line) refl
  where
    by : (k : Bool) → has_pair scene.line ≡ k → StandInRows cols s prompt continuation before rest shown
    by true e =
        let rows = has_rows cols prompt continuation before rest scene h e in
        let at = at_is cols s (other cols scene rows) h.wide (folded_is_plain cols scene rows) in
        let f : IsFreshSheet cols s blank (sheet_of characters cols (other cols scene rows)) shown = rw e at fresh in
        stands cols prompt continuation before rest scene h s shown _ (lines_below cols s scene shown rows f) (f.row ∙ ap (λ i. s + i / cols) at) (f.col ∙ ap (λ i. i % cols) at)
    by false e =
        let plain = is_plain_scene cols prompt continuation before rest scene h e in
        let at = at_is cols s scene h.wide plain in
        let f : IsFreshSheet cols s blank (sheet_of characters cols scene) shown = rw e at fresh in
        stands cols prompt continuation before rest scene h s shown (edge_of cols scene) (line_alone cols s scene shown h.wide plain f) (f.row ∙ ap (λ i. s + i / cols) at) (f.col ∙ ap (λ i. i % cols) at)

-- what a host answers shows a line
pub answers_show_lines : AnswersShowLines
answers_show_lines cols prompt continuation before rest scene h =
    let some : 1 ≤ cols = omega (arith, h.wide) in
    let settled = row_column_is_settled cols prompt continuation before rest h.printable some h.narrow h.short in
    record {
      wide = h.wide;
      printable = h.printable;
      prompt_typing = ap (list_all is_typing) h.prompt_is ∙ and_from (list_all is_printable prompt) true h.printable.printable_prompt refl;
      prompt_is = ap typed_text h.prompt_is ∙ append-nil prompt;
      line_typing = h.line_typing;
      line_is = h.line_is;
      lower = h.lower;
      cursor = cursor_stands_in_its_row cols prompt continuation before rest scene h.printable settled h.prompt_is h.column_is;
    }

-- ---- a line that a host shows itself and that is then shown in rows

-- the rows of a text of printable characters and line feeds are printable
rows-printable : (text : List ℕ) → list_all is_row_character text ≡ true → list_all (list_all is_printable) (rows_of_text text) ≡ true
rows-printable =
    over_rows 0 (λ n text. list_all (list_all is_printable) (rows_of_text text) ≡ true) (λ n. refl) (λ n text rest. rest)
    (λ n b text here e rest.
    let it = some-rows text in
    let rows = and_parts (list_all is_printable it.0) (list_all (list_all is_printable) it.1) (sym (ap (list_all (list_all is_printable)) it.2) ∙ rest) in
    rw e (ap (λ all. list_all (list_all is_printable) (before_rows b all)) it.2 ∙ and_from (list_all is_printable (b ∷ it.0)) _ (and_from (is_printable b) _ here rows.0) rows.1)) 0

module _ (screen : PromptScreenView) (continuation : List ℕ) (printable : list_all is_printable continuation ≡ true) where
  -- so is a break between two of them
  break-rows : (row : RowView) → are_rows (row_break screen continuation row) ≡ true
  break-rows row =
      let edge = edge-printable screen.cols (row_columns screen continuation row) in
      ap (list_all (list_all is_printable)) (ends_there (row_edge screen.cols (row_columns screen continuation row)) continuation edge)
      ∙ and_from (list_all is_printable (row_edge screen.cols (row_columns screen continuation row))) (are_rows continuation) edge (printable_rows continuation printable)

  typing-break : (set : Option CellAttributes) (row : RowView) → list_all is_row_typing (changes_of (break_elements screen continuation set row)) ≡ true
  typing-break None row = and_from (are_rows (row_break screen continuation row)) true (break-rows row) refl
  typing-break (Some attributes) row = and_from (are_rows (row_break screen continuation row)) true (break-rows row) refl

  -- elements one after the other
  typing-both : (a b : List ElementView) → list_all is_row_typing (changes_of a) ≡ true → list_all is_row_typing (changes_of b) ≡ true → list_all is_row_typing (changes_of (a ++ b)) ≡ true
  typing-both a b first second =
      ap (list_all is_row_typing) (map-append element_change a b) ∙ both_hold is_row_typing (changes_of a) (changes_of b) first second

  typing-rows : (set : Option CellAttributes) (row : RowView) (rows : List (List ℕ)) → list_all (list_all is_printable) rows ≡ true
      → list_all is_row_typing (changes_of (elements_of_rows screen continuation set row rows)) ≡ true
  typing-rows set row [] all = refl
  typing-rows set row (text ∷ []) all = and_from (are_rows text) true (printable_rows text (and_parts (list_all is_printable text) true all).0) refl
  typing-rows set row (text ∷ next ∷ more) all =
      let both = and_parts (list_all is_printable text) (list_all (list_all is_printable) (next ∷ more)) all in
      and_from (are_rows text) _ (printable_rows text both.0)
      (typing-both (break_elements screen continuation set (row_with row text)) (elements_of_rows screen continuation set next_row (next ∷ more))
      (typing-break set (row_with row text)) (typing-rows set next_row (next ∷ more) both.1))

  -- what shows a line of printable rows types them
  typing-elements : (set : Option CellAttributes) (row : RowView) (elements : List ElementView) → list_all is_row_character (text_of_elements elements) ≡ true
      → list_all is_row_typing (changes_of (elements_from screen continuation set row elements)) ≡ true
  typing-elements set row [] all = refl
  typing-elements set row (element.Attribute change ∷ more) all = typing-elements (Some (with_attribute change (unwrap_or set default_attributes))) row more all
  typing-elements set row (element.AllAttributes attributes ∷ more) all = typing-elements (Some attributes) row more all
  typing-elements set row (element.Text text ∷ more) all =
      let both = each_holds is_row_character text (text_of_elements more) all in
      typing-both (elements_of_rows screen continuation set row (rows_of_text text)) (elements_from screen continuation set (row_behind row text) more)
      (typing-rows set row (rows_of_text text) (rows-printable text both.0)) (typing-elements set (row_behind row text) more both.1)

pub rows_answer_line : RowsAnswerLine
rows_answer_line screen continuation cut shown scene it =
    let before = take cut.cursor cut.line in
    let rest = drop cut.cursor cut.line in
    let parts : before ++ rest ≡ cut.line = take-append-drop cut.cursor cut.line in
    let both = each_holds is_row_character before rest (ap (list_all is_row_character) parts ∙ it.printable) in
    let shows = printable_is_shown screen continuation cut shown it.prompts it.printable it.faithful in
    record {
      wide = it.wide;
      narrow = it.narrow;
      printable = record {
        printable_prompt = it.prompts.prompt;
        printable_continuation = it.prompts.continuation;
        rows_before = both.0;
        rows_behind = both.1;
      };
      short = it.short;
      prompt_is = it.prompt_is;
      line_typing =
          ap (list_all is_row_typing) it.line_is
          ∙ typing-elements screen continuation it.prompts.continuation None _ shown.elements (ap (list_all is_row_character) it.faithful ∙ it.printable);
      line_is =
          ap typed_text it.line_is ∙ shows.0 ∙ ap (spread screen.cols continuation (length screen.prompt)) (sym parts)
          ∙ spread-both screen.cols continuation (length screen.prompt) before rest both.0;
      lower = it.lower;
      column_is = it.column_is ∙ shows.1;
    }
