-- What an editor is to its contracts.
use Rattle.std.specs.Prelude.{◌≡◌, Option, ⊤}
use Rattle.tw_surface.specs.Paintings.{Mark}
use Rattle.tw_terminal.specs.TerminalState.{TerminalState}
use Rattle.tw_session.specs.EditState.{EditState}
use Rattle.tw_session.specs.SessionView.{SessionView}
use Rattle.tw_lineedit.specs.declared.editor.EditorOver.{EditorOver}

-- an editor and its host, as contracts see them
pub record Frame (V : Type 0) : Type 0 where
  pub state : EditState
  pub value : V
  pub mark : Option Mark
  pub terminal : TerminalState

-- an editor with its host and its terminal
abbrev pub frame : {T H V : Type 0} → (T → TerminalState) → (H → V) → EditorOver T SessionView → H → Frame V
frame state value editor host = record { state = editor.session.state; value = value host; mark = editor.session.mark; terminal = state editor.terminal.now }

-- an editor with its terminal, for what is done without the host
abbrev pub own_frame : {T : Type 0} → (T → TerminalState) → EditorOver T SessionView → Frame ⊤
own_frame state editor = frame state (λ (x : ⊤). x) editor tt

-- the same with a host's value
abbrev pub with_value : {V : Type 0} → V → Frame ⊤ → Frame V
with_value v f = record { state = f.state; value = v; mark = f.mark; terminal = f.terminal }

-- a relation of an editor with its host before a call to the same after it
abbrev pub across : {T H V : Type 0} {R : Type 1} → (T → TerminalState) → (H → V) → (Frame V → Frame V → R) → EditorOver T SessionView → H → EditorOver T SessionView → H → R
across state value relation old held new holds = relation (frame state value old held) (frame state value new holds)

-- nothing is changed
abbrev pub IsSame : {V : Type 0} → Frame V → Frame V → Type 0
IsSame before after = after ≡ before
