-- What a lawful host answers, as functions of the value that it holds.
use Rattle.std.specs.Prelude.{ℕ, ◌≡◌, List, [], ◌∷◌, Option, Some, None, option_map, take}
use Rattle.tw_surface.specs.Width.{column_width}
use Rattle.tw_input.specs.EventView.{EventView}
use Rattle.tw_line.specs.Cut.{Cut, cut_at}
use Rattle.tw_host.specs.declared.actions.Action.{Action}
use Rattle.tw_host.specs.ActionView.{ActionView, action_view}
use Rattle.tw_host.specs.CandidateView.{CandidateView}
use Rattle.tw_host.specs.ElementView.{ElementView, Text}
use Rattle.tw_host.specs.KeyTable.{action_of}

-- what a resolution leaves: the host's value and the cut text, and an action
pub record Resolution (V : Type 0) : Type 0 where
  pub value : V
  pub cut : Cut
  pub action : Option ActionView

-- a rendered line, and the column of its cursor
pub record Highlight : Type 0 where
  pub elements : List ElementView
  pub column : ℕ

-- the lines of a host's history, and its answers, by its value
pub record HostRules (V : Type 0) : Type 0 where
  pub lines : V → List (List ℕ)
  pub prompt : V → List ℕ → List ElementView
  pub preview : V → List ℕ → List ElementView
  pub highlight : V → Cut → Highlight
  pub candidates : V → Cut → List CandidateView
  pub resolve : V → EventView → Cut → Resolution V

-- the elements of a line with its cursor at an offset
abbrev pub shown_elements : {V : Type 0} → HostRules V → V → List ℕ → ℕ → List ElementView
shown_elements rules v line cursor = (rules.highlight v (cut_at line cursor)).elements

-- the column of its cursor
abbrev pub shown_column : {V : Type 0} → HostRules V → V → List ℕ → ℕ → ℕ
shown_column rules v line cursor = (rules.highlight v (cut_at line cursor)).column

-- the candidates for a line with its cursor at an offset
abbrev pub candidates_for : {V : Type 0} → HostRules V → V → List ℕ → ℕ → List CandidateView
candidates_for rules v line cursor = rules.candidates v (cut_at line cursor)

-- what the rules make of an event: a value and a cut text become others, and there may be an action
abbrev pub Resolves : {V : Type 0} → HostRules V → EventView → V → Cut → V → Cut → Option Action → Type 0
Resolves rules event v cut new_value new_cut action =
    rules.resolve v event cut ≡ record { value = new_value; cut = new_cut; action = option_map action_view action }

-- a text as it is
abbrev pub plain_text : List ℕ → List ElementView
plain_text text = Text text ∷ []

-- the line as it is, and the columns before the cursor
abbrev pub plain_highlight : Cut → Highlight
plain_highlight cut = record { elements = plain_text cut.line; column = column_width (take cut.cursor cut.line) }

-- no action, and nothing changed
abbrev pub no_resolution : {V : Type 0} → V → Cut → Resolution V
no_resolution v cut = record { value = v; cut = cut; action = None }

-- the host with this history that shows all as it is, and neither previews, completes nor resolves anything
abbrev pub plain_rules : {V : Type 0} → (V → List (List ℕ)) → HostRules V
plain_rules lines = record {
  lines = lines;
  prompt = λ v text. plain_text text;
  preview = λ v line. [];
  highlight = λ v cut. plain_highlight cut;
  candidates = λ v cut. [];
  resolve = λ v event cut. no_resolution v cut;
}

-- the host's action, else the key table's
abbrev pub or_default : Option ActionView → EventView → Option ActionView
or_default (Some action) e = Some action
or_default None e = action_of e
