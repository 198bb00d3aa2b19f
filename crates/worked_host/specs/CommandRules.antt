-- What the worked host answers.
use Rattle.std.specs.Prelude.{ℕ, List, [], ◌∷◌, ◌++◌, take, if◌then◌else◌}
use Rattle.tw_surface.specs.Defaults.{default_attributes}
use Rattle.tw_surface.specs.Width.{column_width}
use Rattle.tw_surface.specs.declared.cell.CellAttributes.{CellAttributes}
use Rattle.tw_surface.specs.declared.cell.Intensity.TheVariants.{Bold}
use Rattle.tw_input.specs.declared.key.KeyCode.TheVariants.{Char, Escape}
use Rattle.tw_input.specs.Modifiers.{none, ctrl}
use Rattle.tw_lineedit.specs.declared.Movement.TheVariants.{StartOfLine}
use Rattle.tw_lineedit.specs.Cut.{Cut}
use Rattle.tw_lineedit.specs.ElementView.{ElementView}
use Rattle.tw_lineedit.specs.HostRules.{HostRules, Highlight, plain_text, plain_rules}
use Rattle.tw_lineedit.specs.KeyTable.{key_press}
use Rattle.tw_hosts.specs.Bindings.{resolved_event}
use Rattle.tw_hosts.specs.Tokens.{styled_text}
use Rattle.tw_hosts.specs.Words.{word_completions, is_known, leading_word, after_word}
use Rattle.tw_hosts.specs.declared.bindings.Binding.TheVariants.{Cancel, Kill}
use Rattle.tw_hosts.specs.declared.bindings.KeyBinding.{KeyBinding}
use Rattle.worked_host.specs.Commands.{Commands}

-- bold, and else as by default
abbrev pub bold : CellAttributes
bold = record default_attributes { intensity = Bold }

-- a line whose first word is bold if it is a command
abbrev pub shown_line : List (List ℕ) → List ℕ → List ElementView
shown_line known line =
    if is_known known (leading_word line) then styled_text bold (leading_word line) ++ plain_text (after_word line) else plain_text line

-- the line so, and the columns before the cursor
abbrev pub highlight_of : Commands → Cut → Highlight
highlight_of v cut = record { elements = shown_line v.known cut.line; column = column_width (take cut.cursor cut.line) }

-- the keys of the host's own
abbrev pub own_keys : List KeyBinding
own_keys =
    record { key = key_press none Escape; binding = Cancel }
    ∷ record { key = key_press ctrl (Char 85); binding = Kill StartOfLine }
    ∷ []

-- the prompt as it is, no preview, and the answers above; a command completes the word before the cursor
abbrev pub command_rules : HostRules Commands
command_rules = record (plain_rules (λ (v : Commands). v.lines)) {
  highlight = highlight_of;
  candidates = λ v cut. word_completions v.known cut;
  resolve = λ v event cut. resolved_event v own_keys event cut;
}
