-- A worked reading whose events tell another size: the line is pasted at five columns; then there are ten, the screen
-- is cleared by a Repaint, and the line is cancelled. What it has written, to the last byte, and what is shown of it on
-- a screen and on a terminal that may have shown anything.
use Rattle.std.proofs.Common.{◌≡◌, ◌≢◌, ℕ, ◌+◌, List, [], ◌∷◌, ◌++◌, Bool, false, refl, sym, ap, subst, None, Some, Option, min, codes, get_or, neg_ℤ, ◌∙◌, arith}
use Rattle.std.specs.Prelude.{unwrap_or}
use Rattle.std.proofs.lemmas.Bool.{false≢true}
use Rattle.std.proofs.lemmas.List.Elements.{All-nil, All-from_recursion}
use Rattle.laws_screens.specs.Glyphs.{IsMeasuredWide}
use Rattle.laws_screens.specs.Screens.{HasRoom}
use Rattle.laws_screens.specs.Strokes.{PictureOf}
use Rattle.laws_screens.specs.StyledCells.{characters, cluster_number}
use Rattle.laws_screens.proofs.PaintedAlikeLemmas.{are_themselves}
use Rattle.tw_surface.specs.declared.change.Position.TheVariants.{Relative}
use Rattle.tw_surface.specs.ChangeView.{Batch}
use Rattle.tw_surface.specs.Defaults.{default_attributes}
use Rattle.tw_surface.specs.Paintings.{Mark}
use Rattle.tw_surface.specs.PaintingBatches.{SizedScene, closing_if}
use Rattle.tw_input.specs.EventView.{EventView, Key, Resized, Paste}
use Rattle.tw_input.specs.declared.key.KeyCode.TheVariants.{Char}
use Rattle.tw_terminal.specs.Uses.{Took, Other}
use Rattle.tw_host.specs.KeyTable.{key_press}
use Rattle.tw_lineedit.specs.EditState.{Inactive}
use Rattle.tw_lineedit.specs.Run.{run_of}
use Rattle.tw_lineedit.specs.ScreenRuns.{RendersNothing}
use Rattle.tw_lineedit.specs.Stations.{Station}
use Rattle.tw_ansi.specs.declared.encode.Encoder.{Encoder}
use Rattle.tw_ansi.specs.Encoding.{first_known, sent_batch}
use Rattle.tw_ansi.specs.EcmaBatches.{IsReached}
use Rattle.tw_ansi.specs.EcmaPaintings.{sent_batches}
use Rattle.tw_ansi.specs.EcmaScreen.{EcmaScreen, receive_all}
use Rattle.tw_ansi.specs.EcmaScreen as terminal
use Rattle.tw_ansi.proofs.JoinedMarks.{characters_join}
use Rattle.tw_device.specs.Deeds.{Called, Sized}
use Rattle.tw_device.specs.Live.{fresh_frame, taken_over}
use Rattle.tw_device.specs.Steps as step
use Rattle.tw_device.specs.Steps.{Step, IsDueBy, IsInTime}
use Rattle.tw_device.proofs.InTimeLemmas.{in_time_silent}
use Rattle.tw_device.specs.Terminal.{terminal_state}
use Rattle.tw_device.specs.declared.reading.Answer.TheVariants.{Cancelled}
use Rattle.tw_device.specs.declared.terminal.AnsiTerminal.{AnsiTerminal}
use Rattle.laws_runs.specs.DrawnRuns.{play_since, closed_by}
use Rattle.laws_runs.specs.Rests.{Rests}
use Rattle.laws_runs.specs.SentRuns.{HealsSent, taken_since}
use Rattle.laws_runs.specs.SentReadings.{sent_sized, stations_sized, run_sized, IsSizedReading}
use Rattle.laws_runs.proofs.DrawnRunLemmas.{drawn_healings, healed_closings}
use Rattle.laws_runs.proofs.SentRunLemmas.{healed_closings_are_shown, healings_are_shown}
use Rattle.laws_runs.proofs.RestLemmas.{resized_heals}
use Rattle.laws_runs.proofs.ReadingLemmas.{readings_are_sized, since_is_sent_whole}
use Rattle.laws_runs.proofs.WorkedParts.{worked_runs, prompt, han, crab, text, csi, prompted, to_right, closing_bytes, Wrote, with_batch, with_size, flushed_now, past, told, takes, is_sized, flushes, Lines, rules, old, frame, whole, batch_at, station_at, scene_at}

abbrev events : List EventView
events = Paste text ∷ Resized 10 4 ∷ Key (key_press 8 (Char 76)) ∷ Key (key_press 8 (Char 67)) ∷ []

-- the bytes for five columns and then for ten, up to the clearing
abbrev bytes_before : List ℕ
bytes_before = prompted [] (to_right (codes "2C") (13 ∷ prompted text (to_right (codes "3C") (csi (codes "1A") (13 ∷ prompted text (to_right (codes "8C") []))))))

-- those of the clearing, of the painting after it and of the cancelled line
abbrev bytes_since : List ℕ
bytes_since = csi (codes "H") (csi (codes "2J") (13 ∷ prompted text (to_right (codes "8C") (13 ∷ prompted text (to_right (codes "8C") [])))))

-- a move back from a painting, if there is one, that leads no further than a move can
abbrev IsBack : Option Mark → Type 0
IsBack None = ⊥
IsBack (Some m) = IsReached 4 (Relative (neg_ℤ m.row))

module _ (it : AnsiTerminal Wrote) where
  abbrev batch : ℕ → Batch
  batch n = batch_at it events n

  abbrev pasted : AnsiTerminal Wrote
  pasted = with_batch (batch 1) (with_batch (batch 0) (old it))

  abbrev wide : AnsiTerminal Wrote
  wide = with_size (record { rows = 4; cols = 10 }) pasted

  abbrev repainted : AnsiTerminal Wrote
  repainted = with_batch (batch 2) wide

  abbrev cleared : AnsiTerminal Wrote
  cleared = with_batch (batch 4) (with_batch (batch 3) repainted)

  abbrev closed : AnsiTerminal Wrote
  closed = with_batch (batch 6) (with_batch (batch 5) cleared)

  abbrev new : AnsiTerminal Wrote
  new = flushed_now closed

  abbrev event : ℕ → EventView
  event n = get_or events n (Paste [])

  -- what was noted: batches in the order of the run, each event once those before it are taken
  abbrev steps : List Step
  steps =
      step.Took (batch 0) ∷ step.Told (event 0) ∷ step.Took (batch 1) ∷ step.Told (event 1) ∷ step.Took (batch 2) ∷ step.Told (event 2)
      ∷ step.Took (batch 3) ∷ step.Took (batch 4) ∷ step.Told (event 3) ∷ step.Took (batch 5) ∷ step.Took (batch 6) ∷ step.Flushed ∷ []

  abbrev due : List EventView → List EventView → List Batch
  due first seen = taken_over rules (fresh_frame prompt [] (terminal_state (old it))) (first ++ seen)

  in_time : IsInTime (IsDueBy (due [])) [] steps
  unfolding worked_runs
  in_time =
      past (due []) [] (step.Took (batch 0) ∷ []) _ refl (told (due []) (batch 0 ∷ []) (event 0) _ refl
      (past (due (event 0 ∷ [])) (batch 0 ∷ []) (step.Took (batch 1) ∷ []) _ refl (told (due (event 0 ∷ [])) (batch 0 ∷ batch 1 ∷ []) (event 1) _ refl
      (past (due (event 0 ∷ event 1 ∷ [])) (batch 0 ∷ batch 1 ∷ []) (step.Took (batch 2) ∷ []) _ refl (told (due (event 0 ∷ event 1 ∷ [])) (batch 0 ∷ batch 1 ∷ batch 2 ∷ []) (event 2) _ refl
      (past (due (event 0 ∷ event 1 ∷ event 2 ∷ [])) (batch 0 ∷ batch 1 ∷ batch 2 ∷ []) (step.Took (batch 3) ∷ step.Took (batch 4) ∷ []) _ refl (told (due (event 0 ∷ event 1 ∷ event 2 ∷ [])) (batch 0 ∷ batch 1 ∷ batch 2 ∷ batch 3 ∷ batch 4 ∷ []) (event 3) _ refl
      (in_time_silent (IsDueBy (due events)) (batch 0 ∷ batch 1 ∷ batch 2 ∷ batch 3 ∷ batch 4 ∷ []) (step.Took (batch 5) ∷ step.Took (batch 6) ∷ step.Flushed ∷ []) refl))))))))

  reading : IsSizedReading rules Some prompt [] (old it) new events (63 ∷ [])
  unfolding worked_runs
  reading = record {
    reading = record {
      before = [];
      steps = steps;
      told = refl;
      left = [];
      answer = Cancelled;
      read = (
        (
          record { state = record (whole it events).state { mode = Inactive }; mark = None },
          (events, refl, refl, record { answer_is = refl; batches = refl; left = refl; size = refl; state = refl; value = refl; mark = refl; flushed = refl; failures = refl }),
        ),
        λ unended. absurd (false≢true (sym unended)),
      );
      done = (
        Called (Took _) ∷ Called (Took _) ∷ Sized _ ∷ Called (Took _) ∷ Called (Took _) ∷ Called (Took _) ∷ Called (Took _) ∷ Called (Took _) ∷ Called Other ∷ [],
        refl,
        (_, takes _ _, (pasted, takes _ _, (wide, is_sized (record { rows = 4; cols = 10 }) pasted, (repainted, takes _ _, (_, takes _ _, (cleared, takes _ _, (_, takes _ _, (closed, takes _ _, (new, flushes closed, refl))))))))),
      );
      holds = refl;
    };
    in_time = in_time;
    cols = refl;
  }

  -- by the law, and byte by byte
  written : new.writer ≡ 63 ∷ (sent_sized (run_sized rules (frame it events)) (first_known 5)).bytes
  written = ap (λ held. unwrap_or held []) (readings_are_sized rules Some prompt [] (old it) new events (63 ∷ []) reading).0

  written_is : new.writer ≡ 63 ∷ bytes_before ++ (bytes_since ++ closing_bytes)
  unfolding worked_runs
  written_is = refl

  -- the cursor of the wider screen does not stand as where the line wraps at five columns
  not_at_five : get_or new.writer 146 0 ≡ 51 → ⊥
  unfolding worked_runs
  not_at_five same = let off : 56 ≡ 51 = same in omega (arith, off)

  -- ---- after the clearing

  abbrev at : ℕ → Station Lines
  at n = station_at it events n

  abbrev scene : ℕ → SizedScene
  scene n = scene_at it events n

  abbrev earlier : List (Station Lines)
  earlier = at 0 ∷ at 1 ∷ at 2 ∷ []

  abbrev known : Encoder
  known = record (sent_sized (stations_sized rules earlier) (first_known 5)).next { cols = 10 }

  -- a terminal that shows anything, its cursor anywhere
  module _ (cell : ℕ → ℕ → ℕ) (row col last : ℕ) (waits : Bool) where
    abbrev anything : EcmaScreen ℕ
    anything = record { cell = cell; row = row; col = col; waits = waits; last = last; rendition = default_attributes; reading = terminal.Text }

    heals : HealsSent rules characters 4 10 (frame it events) earlier (at 3 ∷ []) (at 4) [] (scene 3 ∷ []) (scene 4) known anything
    unfolding worked_runs
    heals = record {
      comes = record {
        comes = record { nothing_painted = refl; stations = refl; painting = _; painted = refl };
        cleared = refl;
        alike = are_themselves characters (scene 3 ∷ scene 4 ∷ []) (All-from_recursion IsMeasuredWide (scene 3 ∷ scene 4 ∷ []) (
          (omega arith, record { prompt = refl; line = refl; lower = tt }),
          ((omega arith, record { prompt = refl; line = refl; lower = tt }), tt),
        ));
        low = All-from_recursion (HasRoom (Some 4) characters) (scene 3 ∷ scene 4 ∷ []) (omega arith, (omega arith, tt));
        in_sight = omega arith;
      };
      sent = (
        record { cols = refl; typed = record { prompt = (refl, tt); line = (refl, tt); lower = tt } },
        (record { cols = refl; typed = record { prompt = (refl, tt); line = (refl, tt); lower = tt } }, tt),
      );
      high = omega arith;
      back = λ m is. subst IsBack is (omega arith);
      narrow = omega arith;
      color = tt;
      reading = refl;
      rendition = refl;
      cols = refl;
    }

    -- ---- on a screen that shows anything

    module _ (cuts : Bool) (before : PictureOf ℕ) where
      abbrev drawn : PictureOf ℕ
      drawn = play_since rules characters (Some 4) cuts 10 tt earlier (at 3 ∷ at 4 ∷ []) before

      drawn_by_law : let after = closed_by rules characters (Some 4) cuts 10 7 tt (frame it events) drawn in
          (drawn.row ≡ 0) × (drawn.col ≡ 8) × (drawn.cell 0 4 ≡ cluster_number han) × (after.row ≡ 1) × (after.col ≡ 0)
      unfolding worked_runs
      drawn_by_law =
          let fresh = (drawn_healings rules characters (frame it events) (Some 4) earlier (at 3 ∷ []) (at 4) [] (scene 3 ∷ []) (scene 4) heals.comes).fresh cuts 10 tt before in
          let c = (healed_closings rules characters (frame it events) (Some 4) earlier (at 3 ∷ []) (at 4) [] (scene 3 ∷ []) (scene 4) heals.comes (All-nil (RendersNothing rules))).1 cuts 10 7 tt tt before (omega arith) in
          (fresh.row, fresh.col, fresh.shown 4 (omega arith), c.row, c.col)

    -- ---- on a terminal

    abbrev healed : EcmaScreen ℕ
    healed = receive_all characters 4 10 bytes_since anything

    healed_by_law : (healed.row ≡ 0) × (healed.col ≡ 8) × (healed.cell 0 6 ≡ cluster_number crab) × (healed.cell 1 0 ≡ 32)
    unfolding worked_runs
    healed_by_law =
        let s = healings_are_shown characters rules (frame it events) 4 10 earlier (at 3 ∷ []) (at 4) [] (scene 3 ∷ []) (scene 4) known anything (λ change a. refl) characters_join heals in
        let fresh = s.2 in (
          s.1.row ∙ fresh.row,
          s.1.col ∙ ap (λ c. min c 9) fresh.col,
          s.1.cells 0 6 (omega arith) (omega arith) ∙ fresh.shown 6 (omega arith),
          s.1.cells 1 0 (omega arith) (omega arith) ∙ fresh.rest 1 0 (omega arith) (omega arith) (λ inside. omega (arith, inside)) (λ below. below),
        )

    -- not what stood there
    healed_is_fresh : (stale : ℕ) → stale ≢ 32 → healed.cell 1 0 ≡ stale → ⊥
    unfolding worked_runs
    healed_is_fresh stale other stays = other (sym stays)

    -- ---- to the end

    abbrev ended : List ℕ → EcmaScreen ℕ
    ended bytes = receive_all characters 4 10 bytes anything

    -- the law names some bytes, which are those that were written
    ended_by_law : (bytes : List ℕ) × (new.writer ≡ 63 ∷ bytes_before ++ bytes) × ((ended bytes).row ≡ 1) × ((ended bytes).col ≡ 0) × ((ended bytes).cell 1 0 ≡ 32)
    unfolding worked_runs
    ended_by_law =
        let closes = healed_closings_are_shown characters rules (frame it events) 4 10 earlier (at 3 ∷ []) (at 4) [] (scene 3 ∷ []) (scene 4) known anything (λ change a. refl) characters_join heals (All-nil (RendersNothing rules)) in
        let sent = since_is_sent_whole rules Some prompt [] (old it) new events (63 ∷ []) 10 earlier (at 3 ∷ []) (at 4) (record { reading = reading; stations = refl; sent = heals.sent }) in
        let shown = closes.3.0 in
        let below = closes.3.1 in (
          (sent_batches (taken_since rules earlier (at 3 ∷ []) (at 4) ++ closing_if (run_of rules (frame it events)).mark) known).bytes,
          ap (λ held. unwrap_or held []) sent.0,
          shown.row ∙ below.row,
          shown.col ∙ ap (λ c. min c 9) below.col,
          shown.cells 1 0 (omega arith) (omega arith) ∙ below.blank_below 1 0 (omega (arith, below.row)) (omega arith),
        )

    ended_by_bytes : let last = ended (bytes_since ++ closing_bytes) in (last.row ≡ 1) × (last.col ≡ 0) × (last.cell 1 0 ≡ 32) × (last.cell 0 4 ≡ cluster_number han) × (last.cell 3 9 ≡ 32)
    unfolding worked_runs
    ended_by_bytes = (refl, refl, refl, refl, refl)

    -- the cursor does not stay in the row of the line
    ended_is_below : (ended (bytes_since ++ closing_bytes)).row ≡ 0 → ⊥
    unfolding worked_runs
    ended_is_below stays = let no : 1 ≡ 0 = stays in omega (arith, no)

    -- ---- so it is where the terminal was at rest at five columns, and takes any shape before the painting at ten
    -- columns and again after it

    abbrev first : EcmaScreen ℕ
    first = record { cell = λ r c. 65 + r; row = 1; col = 0; waits = false; last = 0; rendition = default_attributes; reading = terminal.Text }

    heals_again : HealsSent rules characters 4 10 (frame it events) earlier (at 3 ∷ []) (at 4) [] (scene 3 ∷ []) (scene 4) known anything
    unfolding worked_runs
    heals_again = resized_heals characters rules 4 10 (frame it events) earlier (at 3 ∷ []) (at 4) [] (scene 3 ∷ []) (scene 4) (first_known 5) first anything (record {
      comes = heals.comes;
      sent = heals.sent;
      high = heals.high;
      back = heals.back;
      narrow = heals.narrow;
      typed = (
        record { typed = record { prompt = (refl, tt); line = (refl, tt); lower = tt }; narrow = omega arith },
        (
          record { typed = record { prompt = (refl, tt); line = (refl, tt); lower = tt }; narrow = omega arith },
          (record { typed = record { prompt = (refl, tt); line = (refl, tt); lower = tt }; narrow = omega arith }, tt),
        ),
      );
      color = tt;
      rests = (refl, refl);
      received = (4, 5, first, (refl, refl), (4, 5, receive_all characters 4 5 (sent_batch (batch 0) (first_known 5)).bytes first, (refl, refl), (4, 10, anything, (refl, refl), (refl, refl))));
    })

    -- one that has read an ESC is not at rest
    not_at_rest : Rests default_attributes (record anything { reading = terminal.Escaped }) → ⊥
    not_at_rest rests = absurd (cc rests.0)
