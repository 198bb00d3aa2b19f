-- A worked reading whose events tell no other size: the line is pasted and cancelled. What screens and terminals show
-- of it, and the bytes that it has written; a conclusion that is a little off does not hold.
use Rattle.std.proofs.Common.{◌≡◌, ℕ, ◌+◌, List, [], ◌∷◌, true, false, refl, sym, ap, min, codes, Some, None, ◌∙◌, arith}
use Rattle.std.specs.Prelude.{unwrap_or}
use Rattle.std.proofs.lemmas.Bool.{false≢true}
use Rattle.std.proofs.lemmas.List.Elements.{All-nil, All-from_recursion}
use Rattle.laws_screens.specs.Glyphs.{IsMeasuredWide}
use Rattle.laws_screens.specs.Screens.{HasRoom}
use Rattle.laws_screens.specs.Strokes.{PictureOf}
use Rattle.laws_screens.specs.StyledCells.{characters, cluster_number}
use Rattle.laws_screens.proofs.PaintedAlikeLemmas.{are_themselves}
use Rattle.tw_surface.specs.Defaults.{default_attributes}
use Rattle.tw_surface.specs.PaintingBatches.{SizedScene}
use Rattle.tw_input.specs.EventView.{EventView, Key, Paste}
use Rattle.tw_input.specs.declared.key.KeyCode.TheVariants.{Char}
use Rattle.tw_terminal.specs.Uses.{Took, Other}
use Rattle.tw_host.specs.KeyTable.{key_press}
use Rattle.tw_lineedit.specs.EditState.{Inactive}
use Rattle.tw_lineedit.specs.ScreenRuns.{batches_of, RendersNothing}
use Rattle.tw_lineedit.specs.Stations.{Station}
use Rattle.tw_ansi.specs.Encoding.{first_known}
use Rattle.tw_ansi.specs.EcmaBatches.{first_picture}
use Rattle.tw_ansi.specs.EcmaScreen.{EcmaScreen, receive_all}
use Rattle.tw_ansi.specs.EcmaScreen as terminal
use Rattle.tw_ansi.proofs.EcmaBatches.{first_is_shown}
use Rattle.tw_ansi.proofs.JoinedMarks.{characters_join}
use Rattle.tw_device.specs.Deeds.{Called}
use Rattle.tw_device.specs.Steps as step
use Rattle.tw_device.specs.declared.reading.Answer.TheVariants.{Cancelled}
use Rattle.tw_device.specs.declared.terminal.AnsiTerminal.{AnsiTerminal}
use Rattle.laws_runs.specs.DrawnRuns.{ComesMeasured, play_stations, closed_by}
use Rattle.laws_runs.specs.SentReadings.{IsSentReading}
use Rattle.laws_runs.specs.SentRuns.{ComesSent, IsSentAt, sent_paintings, sent_run}
use Rattle.laws_runs.proofs.SentRunLemmas.{closings_are_shown, paintings_are_shown}
use Rattle.laws_runs.proofs.DrawnRunLemmas.{drawn_paintings, drawn_closings}
use Rattle.laws_runs.proofs.ReadingLemmas.{readings_are_sent}
use Rattle.laws_runs.proofs.WorkedParts.{worked_runs, prompt, accented, han, crab, text, csi, prompted, to_right, closing_bytes, Wrote, with_batch, flushed_now, takes, flushes, Lines, rules, old, frame, whole, batch_at, station_at, scene_at}

abbrev events : List EventView
events = Paste text ∷ Key (key_press 8 (Char 67)) ∷ []

-- four rows of A, of B, of C and of D, the cursor at the start of the last
abbrev full : EcmaScreen ℕ
full = record { cell = λ r c. 65 + r; row = 3; col = 0; waits = false; last = 0; rendition = default_attributes; reading = terminal.Text }

abbrev before : PictureOf ℕ
before = first_picture characters 4 full

module _ (it : AnsiTerminal Wrote) where
  abbrev at : ℕ → Station Lines
  at n = station_at it events n

  abbrev scene : ℕ → SizedScene
  scene n = scene_at it events n

  comes : ComesMeasured rules characters (Some 4) (frame it events) (at 0 ∷ at 1 ∷ []) (at 2) [] (scene 0 ∷ scene 1 ∷ []) (scene 2) before
  unfolding worked_runs
  comes = record {
    comes = record { nothing_painted = refl; stations = refl; painting = _; painted = refl };
    alike = are_themselves characters (scene 0 ∷ scene 1 ∷ scene 2 ∷ []) (All-from_recursion IsMeasuredWide (scene 0 ∷ scene 1 ∷ scene 2 ∷ []) (
      (omega arith, record { prompt = refl; line = refl; lower = tt }),
      ((omega arith, record { prompt = refl; line = refl; lower = tt }), ((omega arith, record { prompt = refl; line = refl; lower = tt }), tt)),
    ));
    low = All-from_recursion (HasRoom (Some 4) characters) (scene 0 ∷ scene 1 ∷ scene 2 ∷ []) (omega arith, (omega arith, (omega arith, tt)));
    at_start = refl;
    in_sight = omega arith;
  }

  -- ---- on a screen that cuts its rows, and has seven columns when it is closed

  abbrev drawn : PictureOf ℕ
  drawn = play_stations rules characters (Some 4) true 5 tt (at 0 ∷ at 1 ∷ at 2 ∷ []) before

  abbrev closed : PictureOf ℕ
  closed = closed_by rules characters (Some 4) true 5 7 tt (frame it events) drawn

  drawn_by_law : (drawn.row ≡ 3) × (drawn.col ≡ 3) × (drawn.cell 2 4 ≡ 32) × (drawn.cell 3 0 ≡ cluster_number han) × (drawn.cell 1 0 ≡ 67) × (closed.row ≡ 3) × (closed.col ≡ 0) × (closed.cell 3 6 ≡ 32)
  unfolding worked_runs
  drawn_by_law =
      let s = (drawn_paintings rules characters (frame it events) (Some 4) true 5 tt (at 0 ∷ at 1 ∷ []) (at 2) [] (scene 0 ∷ scene 1 ∷ []) (scene 2) before comes).shown in
      let c = (drawn_closings rules characters (frame it events) (Some 4) true 5 7 tt tt (at 0 ∷ at 1 ∷ []) (at 2) [] (scene 0 ∷ scene 1 ∷ []) (scene 2) before comes (All-nil (RendersNothing rules)) (omega arith)).1 in
      (s.fresh.row, s.fresh.col, s.fresh.shown 4 (omega arith), s.fresh.shown 5 (omega arith), s.above 1 0 (omega arith) (omega arith) (omega arith), c.row, c.col, c.blank_below 3 6 (omega arith) (omega arith))

  -- and what is seen
  drawn_is : (drawn.row ≡ 3) × (drawn.cell 2 4 ≡ 32) × (drawn.cell 3 0 ≡ cluster_number han) × (drawn.cell 3 2 ≡ cluster_number crab) × (closed.row ≡ 3) × (closed.cell 1 3 ≡ cluster_number accented) × (closed.cell 0 0 ≡ 67)
  unfolding worked_runs
  drawn_is = (refl, refl, refl, refl, refl, refl, refl)

  -- the second row does not begin at the edge, and is not cleared by the closing batch
  drawn_is_whole : drawn.cell 2 4 ≡ cluster_number han → ⊥
  unfolding worked_runs
  drawn_is_whole parted = let off : 32 ≡ cluster_number han = parted in omega (arith, off)

  closing_keeps : closed.cell 2 0 ≡ 32 → ⊥
  unfolding worked_runs
  closing_keeps gone = let off : cluster_number han ≡ 32 = gone in omega (arith, off)

  -- ---- on a terminal that is sent its bytes

  sent : ComesSent rules characters 4 5 (frame it events) (at 0 ∷ at 1 ∷ []) (at 2) [] (scene 0 ∷ scene 1 ∷ []) (scene 2) (first_known 5) full before
  unfolding worked_runs
  sent = record {
    comes = comes;
    sent = (
      record { cols = refl; typed = record { prompt = (refl, tt); line = (refl, tt); lower = tt } },
      (
        record { cols = refl; typed = record { prompt = (refl, tt); line = (refl, tt); lower = tt } },
        (record { cols = refl; typed = record { prompt = (refl, tt); line = (refl, tt); lower = tt } }, tt),
      ),
    );
    high = omega arith;
    narrow = omega arith;
    color = tt;
    shows = first_is_shown characters 4 5 full (omega arith) (omega arith) refl refl refl refl;
  }

  -- a station for five columns is none that is sent at six
  not_sent_at_six : IsSentAt 6 (scene 1) → ⊥
  unfolding worked_runs
  not_sent_at_six at_six = let off : 5 ≡ 6 = at_six.cols in omega (arith, off)

  abbrev shown : EcmaScreen ℕ
  shown = receive_all characters 4 5 (sent_paintings rules (at 0 ∷ at 1 ∷ at 2 ∷ []) (first_known 5)).bytes full

  shown_by_law : (shown.row ≡ 3) × (shown.col ≡ 3) × (shown.cell 2 3 ≡ cluster_number accented) × (shown.cell 3 0 ≡ cluster_number han) × (shown.cell 1 0 ≡ 67)
  unfolding worked_runs
  shown_by_law =
      let s = paintings_are_shown characters rules (frame it events) 4 5 (at 0 ∷ at 1 ∷ []) (at 2) [] (scene 0 ∷ scene 1 ∷ []) (scene 2) (first_known 5) full before (λ change a. refl) characters_join sent in
      let fresh = s.1.shown.fresh in (
        s.0.row ∙ fresh.row,
        s.0.col ∙ ap (λ c. min c 4) fresh.col,
        s.0.cells 2 3 (omega arith) (omega arith) ∙ fresh.shown 3 (omega arith),
        s.0.cells 3 0 (omega arith) (omega arith) ∙ fresh.shown 5 (omega arith),
        s.0.cells 1 0 (omega arith) (omega arith) ∙ s.1.shown.above 1 0 (omega arith) (omega arith) (omega arith),
      )

  -- ---- the reading of a terminal over a writer

  abbrev second : AnsiTerminal Wrote
  second = with_batch (batch_at it events 1) (with_batch (batch_at it events 0) (old it))

  abbrev fourth : AnsiTerminal Wrote
  fourth = with_batch (batch_at it events 3) (with_batch (batch_at it events 2) second)

  abbrev new : AnsiTerminal Wrote
  new = flushed_now fourth

  reading : IsSentReading rules Some prompt [] (old it) new events (63 ∷ [])
  unfolding worked_runs
  reading = record {
    reading = record {
      before = [];
      steps = step.Took (batch_at it events 0) ∷ step.Told (Paste text) ∷ step.Took (batch_at it events 1) ∷ step.Told (Key (key_press 8 (Char 67)))
          ∷ step.Took (batch_at it events 2) ∷ step.Took (batch_at it events 3) ∷ step.Flushed ∷ [];
      told = refl;
      left = [];
      answer = Cancelled;
      read = (
        (
          record { state = record (whole it events).state { mode = Inactive }; mark = None },
          (events, refl, refl, record { answer_is = refl; batches = refl; left = refl; size = refl; state = refl; value = refl; mark = refl; flushed = refl; failures = refl }),
        ),
        λ unended. absurd (false≢true (sym unended)),
      );
      done = (
        Called (Took _) ∷ Called (Took _) ∷ Called (Took _) ∷ Called (Took _) ∷ Called Other ∷ [],
        refl,
        (_, takes _ _, (second, takes _ _, (_, takes _ _, (fourth, takes _ _, (new, flushes fourth, refl))))),
      );
      holds = refl;
    };
    cols = tt;
  }

  abbrev ended : List ℕ → EcmaScreen ℕ
  ended bytes = receive_all characters 4 5 bytes full

  -- the law names some bytes, which are those that were written
  ended_by_law : (bytes : List ℕ) × (new.writer ≡ 63 ∷ bytes) × ((ended bytes).row ≡ 3) × ((ended bytes).col ≡ 0) × ((ended bytes).cell 3 0 ≡ 32)
  unfolding worked_runs
  ended_by_law =
      let closes = closings_are_shown characters rules (frame it events) 4 5 (at 0 ∷ at 1 ∷ []) (at 2) [] (scene 0 ∷ scene 1 ∷ []) (scene 2) (first_known 5) full before (λ change a. refl) characters_join sent (All-nil (RendersNothing rules)) in
      let written = (readings_are_sent rules Some prompt [] (old it) new events (63 ∷ []) (batches_of rules (at 0 ∷ at 1 ∷ at 2 ∷ [])) reading closes.0).0 in
      let below = closes.1.1 in (
        (sent_run rules (frame it events) (at 0 ∷ at 1 ∷ at 2 ∷ []) (first_known 5)).bytes,
        ap (λ held. unwrap_or held []) written,
        closes.1.0.row ∙ below.row,
        closes.1.0.col ∙ ap (λ c. min c 4) below.col,
        closes.1.0.cells 3 0 (omega arith) (omega arith) ∙ below.blank_below 3 0 (omega (arith, below.row)) (omega arith),
      )

  abbrev written_bytes : List ℕ
  written_bytes = prompted [] (to_right (codes "2C") (13 ∷ prompted text (to_right (codes "3C") (csi (codes "1A") (13 ∷ prompted text (to_right (codes "3C") closing_bytes))))))

  written_is : new.writer ≡ 63 ∷ written_bytes
  unfolding worked_runs
  written_is = refl

  ended_by_bytes : let last = ended written_bytes in (last.row ≡ 3) × (last.col ≡ 0) × (last.cell 0 0 ≡ 67) × (last.cell 1 3 ≡ cluster_number accented) × (last.cell 2 2 ≡ cluster_number crab) × (last.cell 3 0 ≡ 32)
  unfolding worked_runs
  ended_by_bytes = (refl, refl, refl, refl, refl, refl)

  -- no D stands below
  ended_is_fresh : (ended written_bytes).cell 3 0 ≡ 68 → ⊥
  unfolding worked_runs
  ended_is_fresh stale = let off : 32 ≡ 68 = stale in omega (arith, off)
