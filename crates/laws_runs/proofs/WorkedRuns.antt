-- A worked run of printable ASCII on a screen without a bottom: the line is pasted, all of it is killed, and then a
-- painting is refused.
use Rattle.std.proofs.Common.{◌≡◌, ℕ, List, [], ◌∷◌, ◌++◌, refl, Err, arith}
use Rattle.std.specs.List.{All}
use Rattle.std.proofs.lemmas.List.Elements.{All-from_recursion}
use Rattle.tw_surface.specs.Pictures.{Picture}
use Rattle.tw_surface.specs.PaintingBatches.{IsPlainAt}
use Rattle.tw_input.specs.EventView.{EventView, Key, Resized, Paste}
use Rattle.tw_input.specs.declared.key.KeyCode.TheVariants.{Char, Home}
use Rattle.tw_host.specs.KeyTable.{key_press}
use Rattle.tw_session.specs.Refusal.{ZeroSize}
use Rattle.tw_lineedit.specs.Run.{run_of}
use Rattle.tw_lineedit.specs.Stations.{Station}
use Rattle.tw_lineedit.specs.ScreenRuns.{ReachesPlainly, RendersNothing}
use Rattle.tw_lineedit.proofs.ScreenRunLemmas.{run_is_fresh, closes_below}
use Rattle.tw_device.specs.declared.terminal.AnsiTerminal.{AnsiTerminal}
use Rattle.laws_runs.specs.PlainRuns.{painted_screen, closed_screen}
use Rattle.laws_runs.proofs.WorkedParts.{worked_runs, Wrote, Lines, rules, frame, station_at, scene_at}

-- five columns: `abcdef` is pasted, the cursor goes to its start, all after it is killed, and the screen has no columns
abbrev events : List EventView
events = Paste (97 ∷ 98 ∷ 99 ∷ 100 ∷ 101 ∷ 102 ∷ []) ∷ Key (key_press 0 Home) ∷ Key (key_press 8 (Char 75)) ∷ Resized 0 24 ∷ Paste (122 ∷ []) ∷ []

-- a screen with an X in each cell, entered in row 5
abbrev full : Picture
full = record { cell = λ r c. 88; row = 5; col = 0 }

module _ (it : AnsiTerminal Wrote) where
  abbrev at : ℕ → Station Lines
  at n = station_at it events n

  abbrev earlier : List (Station Lines)
  earlier = at 0 ∷ at 1 ∷ at 2 ∷ []

  comes : ReachesPlainly rules (frame it events) 5 earlier (at 3) (at 4 ∷ []) full
  unfolding worked_runs
  comes = record {
    nothing_painted = refl;
    stations = refl;
    painting = _;
    painted = refl;
    plain = All-from_recursion (IsPlainAt 5) (scene_at it events 0 ∷ scene_at it events 1 ∷ scene_at it events 2 ∷ scene_at it events 3 ∷ [])
        ((refl, record { prompt = refl; line = refl; lower = tt }), ((refl, record { prompt = refl; line = refl; lower = tt }), ((refl, record { prompt = refl; line = refl; lower = tt }), ((refl, record { prompt = refl; line = refl; lower = tt }), tt))));
    two_columns = omega arith;
    at_start = refl;
  }

  nothing_rendered : All (RendersNothing rules) (at 4 ∷ [])
  unfolding worked_runs
  nothing_rendered = All-from_recursion (RendersNothing rules) (at 4 ∷ []) (record { refused = (ZeroSize, refl); not_cleared = refl }, tt)

  abbrev shown : Picture
  shown = painted_screen rules 5 (earlier ++ at 3 ∷ []) full

  abbrev closed : Picture
  closed = closed_screen rules (frame it events) 5 (earlier ++ at 3 ∷ []) full

  -- what the clauses say
  by_law : ((shown.row ≡ 5) × (shown.col ≡ 2) × (shown.cell 5 0 ≡ 62) × (shown.cell 4 3 ≡ 88)) × ((closed.row ≡ 6) × (closed.col ≡ 0))
  unfolding worked_runs
  by_law =
      let s = run_is_fresh rules (frame it events) 5 earlier (at 3) (at 4 ∷ []) full comes in
      let c = (closes_below rules (frame it events) 5 earlier (at 3) (at 4 ∷ []) full comes nothing_rendered).1 in
      ((s.fresh.row, s.fresh.col, s.fresh.shown 0 (omega arith), s.above 4 3 (omega arith) (omega arith)), (c.row, c.col))

  -- and what is seen: the line is gone from both rows, and the prompt stays above the closing batch's row
  seen : ((run_of rules (frame it events)).answer ≡ Err ZeroSize) × (shown.cell 5 2 ≡ 32) × (shown.cell 6 0 ≡ 32) × (closed.row ≡ 6) × (closed.cell 5 0 ≡ 62) × (closed.cell 4 3 ≡ 88)
  unfolding worked_runs
  seen = (refl, refl, refl, refl, refl, refl)

  -- no X stays behind the killed line
  shown_is_fresh : shown.cell 6 0 ≡ 88 → ⊥
  unfolding worked_runs
  shown_is_fresh stays = let off : 32 ≡ 88 = stays in omega (arith, off)
