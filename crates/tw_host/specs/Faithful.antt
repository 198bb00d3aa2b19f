-- Hosts that show the prompt and the line themselves, in whatever attributes.
use Rattle.std.specs.Prelude.{ℕ, ◌≡◌, List, take}
use Rattle.tw_surface.specs.Scenes.{typed_text}
use Rattle.tw_surface.specs.Width.{column_width}
use Rattle.tw_line.specs.Cut.{Cut}
use Rattle.tw_host.specs.ElementView.{ElementView, changes_of}
use Rattle.tw_host.specs.HostRules.{HostRules}

-- the texts of elements, one after the other
abbrev pub text_of_elements : List ElementView → List ℕ
text_of_elements elements = typed_text (changes_of elements)

-- the texts that are shown are the prompt and the line, and the cursor stands after the columns before it
pub record IsFaithful {V : Type 0} (rules : HostRules V) : Type 0 where
  pub prompt : (v : V) (text : List ℕ) → text_of_elements (rules.prompt v text) ≡ text
  pub line : (v : V) (cut : Cut) → text_of_elements (rules.highlight v cut).elements ≡ cut.line
  pub column : (v : V) (cut : Cut) → (rules.highlight v cut).column ≡ column_width (take cut.cursor cut.line)
