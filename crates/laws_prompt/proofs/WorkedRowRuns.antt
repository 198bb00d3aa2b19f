-- A worked run of a host that shows rows, on a screen and on a terminal of four rows and five columns, by the laws and
-- by computing: a line of "abc", which fills the first row after the prompt, and "d".
use Rattle.std.proofs.Common.{◌≡◌, ℕ, ◌+◌, List, [], ◌∷◌, ◌++◌, take, drop, map, min, codes, false, refl, ap, Some, ◌∙◌, arith}
use Rattle.std.proofs.lemmas.List.Elements.{All-nil, All-from_recursion}
use Rattle.laws_screens.specs.Screens.{HasRoom}
use Rattle.laws_screens.specs.Strokes.{InSight, PictureOf}
use Rattle.laws_screens.specs.SceneSheets.{painting_of}
use Rattle.laws_screens.specs.Sheets.{sheet_last_row}
use Rattle.laws_screens.specs.StyledCells.{characters}
use Rattle.tw_surface.specs.Defaults.{default_attributes}
use Rattle.tw_surface.specs.PaintingBatches.{SizedScene}
use Rattle.tw_line.specs.Cut.{Cut}
use Rattle.tw_host.specs.HostRules.{HostRules, Highlight, plain_text}
use Rattle.tw_hosts.specs.Settling.{settled_column, settled_pieces, needed_by_text}
use Rattle.tw_lineedit.specs.Frame.{Frame}
use Rattle.tw_lineedit.specs.Reading.{start}
use Rattle.tw_lineedit.specs.ScreenRuns.{sized_scene, RendersNothing}
use Rattle.tw_lineedit.specs.Stations.{Station}
use Rattle.tw_ansi.specs.Encoding.{first_known}
use Rattle.tw_ansi.specs.EcmaBatches.{first_picture}
use Rattle.tw_ansi.specs.EcmaScreen.{EcmaScreen, receive_all}
use Rattle.tw_ansi.specs.EcmaScreen as terminal
use Rattle.tw_ansi.proofs.EcmaBatches.{first_is_shown}
use Rattle.tw_ansi.proofs.JoinedMarks.{characters_join}
use Rattle.tw_device.specs.declared.terminal.AnsiTerminal.{AnsiTerminal}
use Rattle.laws_runs.specs.DrawnRuns.{play_stations, closed_by}
use Rattle.laws_runs.specs.SentRuns.{sent_run}
use Rattle.laws_runs.proofs.DrawnRunLemmas.{drawn_calls_stack, drawn_paintings}
use Rattle.laws_runs.proofs.SentRunLemmas.{closings_are_shown}
use Rattle.laws_runs.proofs.WorkedParts.{worked_runs, prompt, Wrote, Lines, rules, nth_station, frame}
use Rattle.laws_prompt.specs.Rows.{shown_cut}
use Rattle.laws_prompt.specs.RowCells.{ShowsLine}
use Rattle.laws_prompt.specs.LineRuns.{ComesToLine, plain_station, line_stations}
use Rattle.laws_prompt.proofs.CellLemmas.{answers_show_lines}
use Rattle.laws_prompt.proofs.LineRunLemmas.{last_row_by_division, comes_measured, lines_close_below, lines_stand_in_rows}

abbrev continuation : List ℕ
continuation = codes ". "

abbrev text : List ℕ
text = codes "abc" ++ 10 ∷ codes "d"

abbrev in_rows : Lines → Cut → Highlight
in_rows v cut =
    let shown = shown_cut 5 continuation 2 (take cut.cursor cut.line) (drop cut.cursor cut.line) in
    record { elements = plain_text shown.line; column = settled_column 5 prompt shown }

abbrev rows_rules : HostRules Lines
rows_rules = record rules { highlight = in_rows }

-- four rows of A, of B, of C and of D, the cursor at the start of the last
abbrev full : EcmaScreen ℕ
full = record { cell = λ r c. 65 + r; row = 3; col = 0; waits = false; last = 0; rendition = default_attributes; reading = terminal.Text }

abbrev before : PictureOf ℕ
before = first_picture characters 4 full

module _ (it : AnsiTerminal Wrote) where
  abbrev run : Frame Lines
  run = start (Some text) (frame it [])

  abbrev station : Station Lines
  station = nth_station rows_rules run 0

  abbrev scene : SizedScene
  scene = sized_scene rows_rules station

  -- the host answers the line, so the scene shows it
  line : ShowsLine 5 prompt continuation text [] scene.scene
  unfolding worked_runs settled_pieces needed_by_text
  line = answers_show_lines 5 prompt continuation text [] scene.scene (record {
    wide = omega arith;
    narrow = omega arith;
    printable = record { printable_prompt = refl; printable_continuation = refl; rows_before = refl; rows_behind = refl };
    short = omega arith;
    prompt_is = refl;
    line_typing = refl;
    line_is = refl;
    lower = tt;
    column_is = refl;
  })

  comes : (screen : PictureOf ℕ) → screen.col ≡ 0 → InSight (Some 4) screen.row → ComesToLine rows_rules (Some 4) run [] station [] prompt continuation text [] screen
  unfolding worked_runs settled_pieces needed_by_text
  comes screen start sight = record {
    comes = record { nothing_painted = refl; stations = refl; painting = _; painted = refl };
    lines = tt;
    line = line;
    low = All-from_recursion (HasRoom (Some 4) characters) (line_stations rows_rules (station ∷ [])) (omega arith, tt);
    at_start = start;
    in_sight = sight;
  }

  -- ---- on a screen

  abbrev shown : PictureOf ℕ → PictureOf ℕ
  shown screen = play_stations rows_rules characters (Some 4) false 5 tt (station ∷ []) screen

  abbrev closed : PictureOf ℕ
  closed = closed_by rows_rules characters (Some 4) false 5 5 tt run (shown before)

  -- "c" at the edge, "d" after the continuation prompt, and the cursor after it
  by_law : ((shown before).cell 1 4 ≡ 99) × ((shown before).cell 3 2 ≡ 100) × ((shown before).cell 1 0 ≡ 62) × ((shown before).cell 3 0 ≡ 46) × ((shown before).row ≡ 3) × ((shown before).col ≡ 3)
  unfolding worked_runs settled_pieces needed_by_text
  by_law =
      let stand = lines_stand_in_rows rows_rules run (Some 4) false 5 [] station [] prompt continuation text [] before (comes before refl (omega arith)) in (
        stand.cells (codes "ab") 99 (10 ∷ codes "d") refl refl,
        stand.cells (codes "abc" ++ 10 ∷ []) 100 [] refl refl,
        stand.prompt_cells 0 (omega arith),
        stand.continuation_cells (codes "abc") (codes "d") refl 0 (omega arith),
        stand.row,
        stand.col,
      )

  -- a second such run on the screen that the first one left: the last row of the first line stands above it
  stacked_by_law : (closed.row ≡ 3) × (closed.col ≡ 0) × ((shown closed).row ≡ 3) × ((shown closed).cell 0 2 ≡ 100)
  unfolding worked_runs settled_pieces needed_by_text
  stacked_by_law =
      let ends = lines_close_below rows_rules run (Some 4) false 5 5 [] station [] prompt continuation text [] before (comes before refl (omega arith)) refl (All-nil (RendersNothing rows_rules)) (omega arith) in
      let again = comes_measured rows_rules (Some 4) run [] station [] prompt continuation text [] closed (comes closed refl (omega arith)) in
      let over = (drawn_paintings rows_rules characters run (Some 4) false 5 tt [] station [] [] (plain_station scene) closed again).shown in
      let above = drawn_calls_stack characters (Some 4) false 5 _ _ closed (shown closed) (painting_of characters (plain_station scene)) (map (painting_of characters) (line_stations rows_rules (station ∷ []))) ends over in
      (ends.row, ends.col, over.fresh.row, above 0 2 (omega arith) (omega arith) (omega arith))

  -- and the last row is the second after the first one
  last_row : sheet_last_row 5 (painting_of characters (plain_station scene)).sheet ≡ 2
  unfolding worked_runs settled_pieces needed_by_text
  last_row = last_row_by_division 5 prompt continuation text [] scene.scene line refl

  seen : ((shown before).cell 1 4 ≡ 99) × ((shown before).cell 2 0 ≡ 32) × ((shown before).cell 3 2 ≡ 100) × ((shown before).cell 0 0 ≡ 67) × (closed.cell 2 2 ≡ 100) × (closed.cell 3 0 ≡ 32) × ((shown closed).cell 0 2 ≡ 100)
  unfolding worked_runs settled_pieces needed_by_text
  seen = (refl, refl, refl, refl, refl, refl, refl)

  -- the second row does not begin in the row after the text of the first one
  is_down : (shown before).cell 2 2 ≡ 100 → ⊥
  unfolding worked_runs settled_pieces needed_by_text
  is_down higher = let off : 32 ≡ 100 = higher in omega (arith, off)

  -- ---- on a terminal

  abbrev ended : EcmaScreen ℕ
  ended = receive_all characters 4 5 (sent_run rows_rules run (station ∷ []) (first_known 5)).bytes full

  ended_by_law : (ended.row ≡ 3) × (ended.col ≡ 0) × (ended.cell 3 0 ≡ 32)
  unfolding worked_runs settled_pieces needed_by_text
  ended_by_law =
      let s = closings_are_shown characters rows_rules run 4 5 [] station [] [] (plain_station scene) (first_known 5) full before (λ change a. refl) characters_join (record {
        comes = comes_measured rows_rules (Some 4) run [] station [] prompt continuation text [] before (comes before refl (omega arith));
        sent = (record { cols = refl; typed = record { prompt = (refl, tt); line = (refl, tt); lower = tt } }, tt);
        high = omega arith;
        narrow = omega arith;
        color = tt;
        shows = first_is_shown characters 4 5 full (omega arith) (omega arith) refl refl refl refl;
      }) (All-nil (RendersNothing rows_rules)) in
      (s.1.0.row ∙ s.1.1.row, s.1.0.col ∙ ap (λ c. min c 4) s.1.1.col, s.1.0.cells 3 0 (omega arith) (omega arith) ∙ s.1.1.blank_below 3 0 (omega (arith, s.1.1.row)) (omega arith))

  ended_by_bytes : (ended.row ≡ 3) × (ended.col ≡ 0) × (ended.cell 0 4 ≡ 99) × (ended.cell 2 2 ≡ 100) × (ended.cell 3 0 ≡ 32)
  unfolding worked_runs settled_pieces needed_by_text
  ended_by_bytes = (refl, refl, refl, refl, refl)

  -- the row of the line is not cleared
  closing_keeps : ended.cell 2 2 ≡ 32 → ⊥
  unfolding worked_runs settled_pieces needed_by_text
  closing_keeps gone = let off : 100 ≡ 32 = gone in omega (arith, off)
