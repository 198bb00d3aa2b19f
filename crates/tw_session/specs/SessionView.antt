-- What an editor holds beside its terminal.
use Rattle.std.specs.Prelude.{ℕ, List, ◌≡◌, codes, String, string_bytes, Option, Some, None, Ok, Err}
use Rattle.std.specs.declared.alloc.Global.{Global}
use Rattle.tw_line.specs.Cut.{Cut, at_end, empty_cut}
use Rattle.tw_session.specs.EditState.{EditState, ModeView, Inactive, Editing, Cancelled, Accepted, Searching}
use Rattle.tw_session.specs.EditState as view
use Rattle.tw_host.specs.ActionView.{ActionView}
use Rattle.tw_host.specs.HostRules.{HostRules}
use Rattle.tw_host.specs.declared.host.Overrides.{Overrides}
use Rattle.tw_session.specs.Memory.{TakesMemory}
use Rattle.tw_session.specs.Steps.{apply}
use Rattle.tw_line.specs.NearestMatch.{MatchView}
use Rattle.tw_surface.specs.Paintings.{Mark}
use Rattle.tw_session.specs.declared.session.search.Found.{Found}
use Rattle.tw_session.specs.Refusal.{refusal_of}
use Rattle.tw_session.specs.declared.session.Mode.{Mode}
use Rattle.tw_session.specs.declared.session.Mode.TheVariants as mode
use Rattle.tw_session.specs.declared.error.Error.{Error}
use Rattle.tw_session.specs.declared.error.Error.TheVariants.{Memory, Terminal}

-- the state, and the mark of the last painting, if there was one
pub record SessionView : Type 0 where
  pub state : EditState
  pub mark : Option Mark

-- the view of a mode
abbrev pub mode_view : Mode → ModeView
mode_view mode.Inactive = Inactive
mode_view mode.Editing = Editing
mode_view mode.Cancelled = Cancelled
mode_view mode.Accepted = Accepted
mode_view (mode.Searching style direction matching) = Searching style direction matching

-- the match that a session has found
abbrev pub found_view : Found → MatchView
found_view f = record { line = f.matching.line; idx = f.idx; cursor = f.matching.cursor }

-- the prompt that was set, or else the default one
abbrev pub prompt_view : Option (String Global) → List ℕ
prompt_view None = codes "> "
prompt_view (Some prompt) = string_bytes prompt

-- the state of a new editor
abbrev pub new_state : EditState
new_state = record { prompt = codes "> "; cut = empty_cut; history_index = None; typed_line = None; cycle = None; mode = view.Inactive }

-- a new editor
abbrev pub new_session : SessionView
new_session = record { state = new_state; mark = None }

-- this is done to the state, and to nothing else
abbrev pub on_state : (EditState → EditState) → SessionView → SessionView
on_state effect s = record s { state = effect s.state }

-- the line that an initial value makes, with the cursor at its end
abbrev pub initial_cut : Option (List ℕ) → Cut
initial_cut None = empty_cut
initial_cut (Some text) = at_end text

-- where a run begins, with this line
abbrev pub begun_state : Cut → EditState → EditState
begun_state cut s = record s { cut = cut; history_index = None; typed_line = None; cycle = None; mode = Editing }

module _ {V : Type 0} (rules : HostRules V) (v : V) where
  -- a session once an action is applied
  pub record ActsOn (action : ActionView) (old new : SessionView) : Type 0 where
    pub state : apply rules v action old.state ≡ Ok new.state
    pub mark : new.mark ≡ old.mark

module _ {V : Type 0} (rules : HostRules V) (overrides : Overrides) (v : V) where
  -- why an action is not applied: memory, where it may take some, or its own refusal; nothing is changed
  abbrev pub FailsToActOn : ActionView → SessionView → SessionView → Error → Type 0
  FailsToActOn a old new (Memory e) = (new ≡ old) × TakesMemory rules overrides v (Some a) old.state
  FailsToActOn a old new (Terminal e) = ⊥
  FailsToActOn a old new e = (new ≡ old) × (apply rules v a old.state ≡ Err (refusal_of e))
