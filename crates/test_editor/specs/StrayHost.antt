-- A host with three stray keys: one empties its history, one changes the line, and one sends the cursor away.
use Rattle.std.specs.Prelude.{ℕ, Bool, true, false, ◌==◌, if◌then◌else◌, List, [], Some, codes, take, refl}
use Rattle.std.proofs.lemmas.Bool.{true≢false}
use Rattle.tw_surface.specs.Width.{column_width}
use Rattle.tw_input.specs.declared.key.KeyCode.{KeyCode}
use Rattle.tw_input.specs.declared.key.KeyCode.TheVariants.{Function}
use Rattle.tw_input.specs.EventView.{EventView, Key}
use Rattle.tw_lineedit.specs.declared.Overrides.{Overrides}
use Rattle.tw_lineedit.specs.ActionView.{NoAction, Repaint}
use Rattle.tw_lineedit.specs.Cut.{Cut, cut_at}
use Rattle.tw_lineedit.specs.HostRules.{HostRules, Highlight, Resolution, plain_text, no_resolution}
use Rattle.tw_lineedit.specs.PlainAnswers.{IsPlainBut}

-- the lines of its history, and whether the cursor was sent away
pub record Stray : Type 0 where
  pub lines : List (List ℕ)
  pub is_away : Bool

-- the line as it is, its cursor in the greatest column that there is, once it was sent away
abbrev pub stray_highlight : Stray → Cut → Highlight
stray_highlight v cut = record {
  elements = plain_text cut.line;
  column = if v.is_away then 18446744073709551615 else column_width (take cut.cursor cut.line);
}

-- F1 empties the history, F2 makes the line `abc` with the cursor at 1, F3 sends the cursor away and repaints
abbrev pub stray_key : Stray → KeyCode → Cut → Resolution Stray
stray_key v (Function number) cut =
    if number == 1 then record { value = record v { lines = [] }; cut = cut; action = Some NoAction }
    else if number == 2 then record { value = v; cut = cut_at (codes "abc") 1; action = Some NoAction }
    else if number == 3 then record { value = record v { is_away = true }; cut = cut; action = Some Repaint }
    else no_resolution v cut
stray_key v _ cut = no_resolution v cut

-- other events are left to the key table
abbrev pub stray_event : Stray → EventView → Cut → Resolution Stray
stray_event v (Key key) cut = stray_key v key.key cut
stray_event v _ cut = no_resolution v cut

-- its own keys and its own column, and all else plain
abbrev pub stray_rules : HostRules Stray
stray_rules = record {
  lines = λ v. v.lines;
  prompt = λ v text. plain_text text;
  preview = λ v line. [];
  highlight = λ v cut. stray_highlight v cut;
  candidates = λ v cut. [];
  resolve = λ v event cut. stray_event v event cut;
}

-- the highlighted line and the resolutions are answers of its own
abbrev pub stray_overrides : Overrides
stray_overrides = record { render_prompt = false; render_preview = false; highlight_line = true; complete = false; resolve_action = true }

pub stray_is_plain : IsPlainBut stray_rules stray_overrides
stray_is_plain = record {
  prompt = λ e v text. refl;
  preview = λ e v line. refl;
  highlight = λ e v cut. absurd (true≢false e);
  complete = λ e v cut. refl;
  resolve = λ e v event cut. absurd (true≢false e);
}
