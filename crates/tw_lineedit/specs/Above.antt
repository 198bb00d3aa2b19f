-- A text that is printed above the painting of a line.
use Rattle.std.specs.Prelude.{◌≡◌, ℕ, ◌+◌, ◌≤◌, pos, false, List, [], ◌∷◌, ◌++◌, Option, Some, None, Ok, Err, ◌⊎◌}
use Rattle.tw_surface.specs.ChangeView.{Batch, ClearToEndOfScreen, AllAttributes, Text}
use Rattle.tw_surface.specs.Defaults.{default_color, default_attributes}
use Rattle.tw_surface.specs.Fresh.{IsFresh, IsSameAbove}
use Rattle.tw_surface.specs.Paintings.{Mark}
use Rattle.tw_surface.specs.PaintingBatches.{start_of}
use Rattle.tw_surface.specs.Pictures.{Picture, cells_cleared_from, play_text, play_all}
use Rattle.tw_surface.specs.Scenes.{IsPlain}
use Rattle.tw_terminal.specs.TerminalState.{Fails, Renders, RenderFails}
use Rattle.tw_host.specs.HostRules.{HostRules}
use Rattle.tw_session.specs.Painting.{Rendering, scene_of}
use Rattle.tw_session.specs.Refusal.{refusal_of}
use Rattle.tw_session.specs.declared.error.Error.{Error}
use Rattle.tw_session.specs.declared.error.Error.TheVariants.{Memory, Terminal}
use Rattle.tw_lineedit.specs.EditorSteps.{Keeps}
use Rattle.tw_lineedit.specs.Frame.{Frame}
use Rattle.tw_lineedit.specs.Run.{progress_of, painting_at}

-- the changes that go back to the first row of the painting before, if there was one, clear from there on, and show a
-- text without attributes
abbrev pub text_above : Option Mark → List ℕ → Batch
text_above mark text = start_of mark ++ ClearToEndOfScreen default_color ∷ AllAttributes default_attributes ∷ Text text ∷ []

-- the cursor stands where the last painting left it, whose first row is row s; if there was none, in column 0 of row s
abbrev pub EntersAt : Option Mark → ℕ → Picture → Type 0
EntersAt None s before = (before.row ≡ s) × (before.col ≡ 0)
EntersAt (Some mark) s before = (n : ℕ) × (mark.row ≡ pos n) × (before.row ≡ s + n)

-- the text alone, from column 0 of row s on, where all is blank
abbrev pub printed_from : ℕ → ℕ → List ℕ → Picture → Picture
printed_from w s text before =
    play_text w text (record { cell = cells_cleared_from before.cell s 0; row = s; col = 0 })

module _ {V : Type 0} (rules : HostRules V) (text : List ℕ) where
  -- the painting of f as it is rendered where nothing was painted before, below the text and in one batch with it
  pub record IsBelow (p : Rendering) (batch : Batch) (f : Frame V) : Type 0 where
    pub painted : painting_at rules (progress_of (record f { mark = None })) ≡ Ok p
    pub changes : batch ≡ text_above f.mark text ++ p.changes

  -- the text and the painting of f below it were rendered in one batch, and the mark of the painting is kept
  pub record PrintsAbove (f g : Frame V) : Type 0 where
    pub shown : (p : Rendering) × (batch : Batch) × IsBelow p batch f × (g.mark ≡ Some p.mark) × Renders batch f.terminal g.terminal
    pub state : g.state ≡ f.state
    pub value : g.value ≡ f.value

  -- nothing was rendered, or a beginning of that batch: no memory, a fault, or the painting's own refusal
  abbrev pub FailsToPrint : Frame V → Frame V → Error → Type 0
  FailsToPrint f g (Memory e) = g ≡ f
  FailsToPrint f g (Terminal e) = Keeps f g × (Fails f.terminal g.terminal
      ⊎ ((p : Rendering) × (batch : Batch) × IsBelow p batch f × RenderFails batch f.terminal g.terminal))
  FailsToPrint f g e = (g ≡ f) × (painting_at rules (progress_of (record f { mark = None })) ≡ Err (refusal_of e))

  -- What a screen of the terminal's columns shows of it, where the text leaves the cursor in column 0: the text from
  -- the first row of the painting before on, below it the painting, fresh, and above it all as it was.
  pub record StandsAbove (w s : ℕ) (batch : Batch) (f : Frame V) (before : Picture) : Type 0 where
    pub fresh : IsFresh w (printed_from w s text before).row (scene_of rules f.value f.state false) (play_all w batch before)
    pub below_text : IsSameAbove w (printed_from w s text before).row (printed_from w s text before) (play_all w batch before)
    pub above : IsSameAbove w s before (play_all w batch before)

  abbrev pub ShowsAbove : Frame V → Frame V → Type 0
  ShowsAbove f g = (w s : ℕ) (before : Picture) → 2 ≤ w → f.terminal.size.cols ≡ w → IsPlain (scene_of rules f.value f.state false)
      → EntersAt f.mark s before → (printed_from w s text before).col ≡ 0
      → (batch : Batch) × (g.terminal.batches ≡ f.terminal.batches ++ batch ∷ []) × StandsAbove w s batch f before
