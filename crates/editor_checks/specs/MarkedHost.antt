-- A host that shows the line in two parts, with a preview of one text, and the same candidates at every request.
use Rattle.std.specs.Prelude.{ℕ, Bool, true, false, ⊤, List, [], ◌∷◌, Option, Some, None, take, drop, refl}
use Rattle.std.proofs.Common.{subst}
use Rattle.tw_surface.specs.declared.cell.AttributeChange.TheVariants.{Reverse}
use Rattle.tw_lineedit.specs.declared.Overrides.{Overrides}
use Rattle.tw_lineedit.specs.Cut.{Cut}
use Rattle.tw_lineedit.specs.CandidateView.{CandidateView}
use Rattle.tw_lineedit.specs.ElementView.{ElementView, Attribute, Text}
use Rattle.tw_lineedit.specs.HostRules.{HostRules, plain_text, no_resolution}
use Rattle.tw_lineedit.specs.PlainAnswers.{IsPlainBut}

-- the lines of the history, the text of the preview, the candidates, and the column where it is always the same
pub record Marked : Type 0 where
  pub lines : List (List ℕ)
  pub preview : List ℕ
  pub candidates : List CandidateView
  pub column : Option ℕ

-- a text as it is, and nothing for the empty one
abbrev pub text_unless_empty : List ℕ → List ElementView
text_unless_empty [] = []
text_unless_empty (x ∷ xs) = plain_text (x ∷ xs)

-- the column, or else the cursor's offset
abbrev pub column_or : Option ℕ → ℕ → ℕ
column_or None cursor = cursor
column_or (Some column) cursor = column

-- the text before the cursor, and the text from there on in reverse
abbrev pub two_parts : Cut → List ElementView
two_parts cut = Text (take cut.cursor cut.line) ∷ Attribute (Reverse true) ∷ Text (drop cut.cursor cut.line) ∷ []

-- the prompt as it is, the preview, and the line in two parts
abbrev pub marked_rules : HostRules Marked
marked_rules = record {
  lines = λ v. v.lines;
  prompt = λ v text. plain_text text;
  preview = λ v line. text_unless_empty v.preview;
  highlight = λ v cut. record { elements = two_parts cut; column = column_or v.column cut.cursor };
  candidates = λ v cut. v.candidates;
  resolve = λ v event cut. no_resolution v cut;
}

-- the preview, the highlighted line and the candidates are answers of its own
abbrev pub marked_overrides : Overrides
marked_overrides = record { render_prompt = false; render_preview = true; highlight_line = true; complete = true; resolve_action = false }

abbrev IsOn : Bool → Type 0
IsOn true = ⊤
IsOn false = ⊥

pub marked_is_plain : IsPlainBut marked_rules marked_overrides
marked_is_plain = record {
  prompt = λ e v text. refl;
  preview = λ e v line. absurd (subst IsOn e tt);
  highlight = λ e v cut. absurd (subst IsOn e tt);
  complete = λ e v cut. absurd (subst IsOn e tt);
  resolve = λ e v event cut. refl;
}
