-- What a `&mut` of an editor ends as.
use Rattle.std.specs.Prelude.{◌≡◌, ⊤, []}
use Rattle.std.specs.Borrow.{Fml, RattleType, MutBor, follows_so, Lends}
use mathlib.Core.Option.{none}
use mir.Syntax.{named}
use Rattle.tw_terminal.specs.Uses.{IsUsed}
use Rattle.tw_lineedit.specs.contracts.editor.EditorOver as editor
use Rattle.tw_session.specs.contracts.session.Session as session

-- what is after the reference is this value, once all that was lent of it is given back
abbrev pub EndsAs : (R : RattleType) → MutBor R.Denot → R.Denot → Fml
EndsAs R reference value = follows_so R R reference.ghost_name none (λ _ _. ⊤) (λ last. last ≡ value)

-- the type of an editor over a terminal of this type
abbrev pub editor_row : RattleType → RattleType
editor_row terminal = editor.the_row (record { mir = named 1; lft = [] }) terminal session.the_row

-- an editor with its terminal left like this
abbrev pub with_terminal : (terminal : RattleType) → (editor_row terminal).Denot → terminal.Denot → (editor_row terminal).Denot
with_terminal terminal e left = record e { terminal = record e.terminal { now = left } }

-- the editor ends with its terminal as it was left after the reference
abbrev pub LendsTerminal : (terminal : RattleType) → MutBor (editor_row terminal).Denot → MutBor terminal.Denot → Fml
LendsTerminal terminal editor lent = Lends (editor_row terminal) terminal editor lent (with_terminal terminal editor.now)

-- it borrows the same terminal after a call, and only calls of the terminal's trait have changed it
abbrev pub KeepsTerminal : {T K : Type 0} → (T → T → K → Type 0) → MutBor T → MutBor T → Type 0
KeepsTerminal follows before after = (after.ghost_name ≡ before.ghost_name) × IsUsed follows before.now after.now
