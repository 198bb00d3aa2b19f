-- A host that has a line of its own for one key, and gives up at another.
use Rattle.std.specs.Prelude.{ℕ, true, false, ◌==◌, if◌then◌else◌, List, [], Some, codes, refl}
use Rattle.std.proofs.lemmas.Bool.{true≢false}
use Rattle.tw_input.specs.declared.key.KeyCode.{KeyCode}
use Rattle.tw_input.specs.declared.key.KeyCode.TheVariants.{Escape, Function}
use Rattle.tw_input.specs.EventView.{EventView, Key}
use Rattle.tw_lineedit.specs.declared.Overrides.{Overrides}
use Rattle.tw_lineedit.specs.ActionView.{Cancel, NoAction}
use Rattle.tw_lineedit.specs.Cut.{Cut, cut_at}
use Rattle.tw_lineedit.specs.HostRules.{HostRules, Resolution, plain_text, plain_highlight, no_resolution}
use Rattle.tw_lineedit.specs.PlainAnswers.{IsPlainBut}

-- the first function key makes the line `clear`, and Escape cancels
abbrev pub on_key : {V : Type 0} → V → KeyCode → Cut → Resolution V
on_key v (Function number) cut =
    if number == 1 then record { value = v; cut = cut_at (codes "clear") 5; action = Some NoAction } else no_resolution v cut
on_key v Escape cut = record { value = v; cut = cut; action = Some Cancel }
on_key v _ cut = no_resolution v cut

-- other events are left to the key table
abbrev pub on_event : {V : Type 0} → V → EventView → Cut → Resolution V
on_event v (Key key) cut = on_key v key.key cut
on_event v _ cut = no_resolution v cut

-- its own resolutions, and all else plain
abbrev pub resolving_rules : HostRules (List (List ℕ))
resolving_rules = record {
  lines = λ v. v;
  prompt = λ v text. plain_text text;
  preview = λ v line. [];
  highlight = λ v cut. plain_highlight cut;
  candidates = λ v cut. [];
  resolve = λ v event cut. on_event v event cut;
}

-- the resolutions alone are answers of its own
abbrev pub resolve_override : Overrides
resolve_override = record { render_prompt = false; render_preview = false; highlight_line = false; complete = false; resolve_action = true }

pub resolving_is_plain : IsPlainBut resolving_rules resolve_override
resolving_is_plain = record {
  prompt = λ e v text. refl;
  preview = λ e v line. refl;
  highlight = λ e v cut. refl;
  complete = λ e v cut. refl;
  resolve = λ e v event cut. absurd (true≢false e);
}
