-- A host that counts how often it is asked, and answers plainly.
use Rattle.std.specs.Prelude.{ℕ, true, false, List, refl}
use Rattle.tw_lineedit.specs.declared.Overrides.{Overrides}
use Rattle.tw_lineedit.specs.HostRules.{plain_rules}
use Rattle.tw_lineedit.specs.PlainAnswers.{IsPlainBut}

-- prompt, preview and highlighted line are answers of its own
abbrev pub shown_overrides : Overrides
shown_overrides = record { render_prompt = true; render_preview = true; highlight_line = true; complete = false; resolve_action = false }

pub asked_is_plain : IsPlainBut (plain_rules (λ (lines : List (List ℕ)). lines)) shown_overrides
asked_is_plain = record {
  prompt = λ e v text. refl;
  preview = λ e v line. refl;
  highlight = λ e v cut. refl;
  complete = λ e v cut. refl;
  resolve = λ e v event cut. refl;
}
