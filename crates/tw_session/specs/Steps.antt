-- What each action does to the editor's state.
use Rattle.std.specs.Prelude.{ℕ, Bool, true, false, List, Option, Some, None, Result, Ok, Err}
use Rattle.tw_surface.specs.ChangeView.{Batch}
use Rattle.tw_surface.specs.PaintingBatches.{clearing}
use Rattle.tw_line.specs.Cut.{Cut}
use Rattle.tw_line.specs.Extremes.{iterate}
use Rattle.tw_line.specs.Movements.{after_move}
use Rattle.tw_line.specs.Edits.{with_char, with_text, after_kill}
use Rattle.tw_host.specs.ActionView.{ActionView, AcceptLine, Cancel, EndOfFile, InsertChar, InsertText, Repaint, Move, Kill, KillAndMove, HistoryPrevious, HistoryNext, Complete, NoAction, HistoryIncSearchBackwards, HistoryIncSearchForwards}
use Rattle.tw_host.specs.HostRules.{HostRules}
use Rattle.tw_session.specs.Completion.{completion_step}
use Rattle.tw_session.specs.Walk.{previous_step, next_step}
use Rattle.tw_session.specs.Search.{search_left, searched_again, search_step}
use Rattle.tw_session.specs.Refusal.{Refusal}
use Rattle.tw_session.specs.Refusal as refusal
use Rattle.tw_session.specs.EditState.{EditState, ModeView, Cancelled, Accepted, Searching}
use Rattle.tw_line.specs.declared.history.SearchDirection.{SearchDirection}
use Rattle.tw_line.specs.declared.history.SearchDirection.TheVariants.{Backwards, Forwards}

-- an edit of the cut text; a search applies its pattern again
abbrev pub edit_step : List (List ℕ) → (Cut → Cut) → EditState → EditState
edit_step lines edit s = searched_again lines (record s { cut = edit s.cut })

-- a movement, which leaves a search
abbrev pub move_step : (Cut → Cut) → EditState → EditState
move_step move s = record (search_left s) { cut = move (search_left s).cut }

-- a step through the history, which is a step of the search while searching
abbrev pub history_step : List (List ℕ) → SearchDirection → (EditState → EditState) → EditState → ModeView → EditState
history_step lines direction step s (Searching style before matching) = search_step lines direction s
history_step lines direction step s _ = step s

-- the candidates come in no more
abbrev pub without_cycle : EditState → EditState
without_cycle s = record s { cycle = None }

module _ {V : Type 0} (rules : HostRules V) (v : V) where
  -- the state after an action, or its refusal
  unfoldable pub apply : ActionView → EditState → Result EditState Refusal
  apply AcceptLine s = Ok (record (search_left s) { mode = Accepted })
  apply Cancel s = Ok (record s { mode = Cancelled })
  apply EndOfFile s = Err refusal.EndOfFile
  apply (InsertChar r x) s = Ok (without_cycle (edit_step (rules.lines v) (iterate (with_char x) r) s))
  apply (InsertText r text) s = Ok (without_cycle (edit_step (rules.lines v) (iterate (with_text text) r) s))
  apply Repaint s = Ok s
  apply (Move m) s = Ok (without_cycle (move_step (after_move m) s))
  apply (Kill m) s = Ok (without_cycle (edit_step (rules.lines v) (after_kill m m) s))
  apply (KillAndMove k m) s = Ok (without_cycle (edit_step (rules.lines v) (after_kill k m) s))
  apply HistoryPrevious s = Ok (without_cycle (history_step (rules.lines v) Backwards (previous_step (rules.lines v)) s s.mode))
  apply HistoryNext s = Ok (without_cycle (history_step (rules.lines v) Forwards (next_step (rules.lines v)) s s.mode))
  apply Complete s = completion_step (rules.candidates v) (search_left s)
  apply NoAction s = Ok s
  apply HistoryIncSearchBackwards s = Ok (without_cycle (search_step (rules.lines v) Backwards s))
  apply HistoryIncSearchForwards s = Ok (without_cycle (search_step (rules.lines v) Forwards s))

  -- the state after an action, if there is one
  abbrev pub apply_if : Option ActionView → EditState → Result EditState Refusal
  apply_if None s = Ok s
  apply_if (Some action) s = apply action s

-- the action that clears the screen
abbrev pub is_repaint : Option ActionView → Bool
is_repaint (Some Repaint) = true
is_repaint _ = false

-- the batches of an action, if there is one
abbrev pub clears_if : Option ActionView → List Batch
clears_if action = clearing (is_repaint action)
