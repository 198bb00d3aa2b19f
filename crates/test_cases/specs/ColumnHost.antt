-- A host that puts the cursor of every line at one column.
use Rattle.std.specs.Prelude.{ℕ, true, false, List, [], refl}
use Rattle.std.proofs.lemmas.Bool.{true≢false}
use Rattle.tw_lineedit.specs.declared.Overrides.{Overrides}
use Rattle.tw_lineedit.specs.HostRules.{HostRules, plain_text, no_resolution}
use Rattle.tw_lineedit.specs.PlainAnswers.{IsPlainBut}

-- the lines of its history, and the column
pub record Placed : Type 0 where
  pub lines : List (List ℕ)
  pub column : ℕ

-- all as it is, and the column that the host holds
abbrev pub column_rules : HostRules Placed
column_rules = record {
  lines = λ v. v.lines;
  prompt = λ v text. plain_text text;
  preview = λ v line. [];
  highlight = λ v cut. record { elements = plain_text cut.line; column = v.column };
  candidates = λ v cut. [];
  resolve = λ v event cut. no_resolution v cut;
}

-- the highlighted line alone is an answer of its own
abbrev pub highlight_override : Overrides
highlight_override = record { render_prompt = false; render_preview = false; highlight_line = true; complete = false; resolve_action = false }

pub column_is_plain : IsPlainBut column_rules highlight_override
column_is_plain = record {
  prompt = λ e v text. refl;
  preview = λ e v line. refl;
  highlight = λ e v cut. absurd (true≢false e);
  complete = λ e v cut. refl;
  resolve = λ e v event cut. refl;
}
