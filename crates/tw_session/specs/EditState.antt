-- The state of an editor.
use Rattle.std.specs.Prelude.{ℕ, List, Option}
use Rattle.tw_line.specs.Cut.{Cut}
use Rattle.tw_host.specs.CandidateView.{CandidateView}
use Rattle.tw_line.specs.declared.history.SearchStyle.{SearchStyle}
use Rattle.tw_line.specs.declared.history.SearchDirection.{SearchDirection}

-- candidates that come in in turn, the index of the one that came in last, and the cut text that they are for
pub record CycleView : Type 0 where
  pub candidates : List CandidateView
  pub index : ℕ
  pub original : Cut

-- what the editor is doing; while it searches, the matching line with its cursor
pub data ModeView : Type 0 where
  Inactive : ModeView
  Editing : ModeView
  Cancelled : ModeView
  Accepted : ModeView
  Searching : SearchStyle → SearchDirection → Cut → ModeView

-- the prompt, the cut text, the index of the history's line that came in last, the line that was typed before it, the
-- candidates that come in in turn, and the mode; while searching, the cut text is the pattern
pub record EditState : Type 0 where
  pub prompt : List ℕ
  pub cut : Cut
  pub history_index : Option ℕ
  pub typed_line : Option (List ℕ)
  pub cycle : Option CycleView
  pub mode : ModeView
