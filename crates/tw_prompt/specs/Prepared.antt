-- What an application prepares of a prompt.
use Rattle.std.specs.Prelude.{◌≡◌, Bool, true, false, ⊤, string_bytes}
use Rattle.tw_input.specs.EventView.{EventView, Key}
use Rattle.tw_input.specs.declared.key.KeyCode.{KeyCode}
use Rattle.tw_input.specs.declared.key.KeyCode.TheVariants.{Tab}
use Rattle.tw_lineedit.specs.Cut.{Cut}
use Rattle.tw_device.specs.Hooked.{HookRules}
use Rattle.tw_prompt_host.specs.declared.prepared.PreparedHost.{PreparedHost}
use Rattle.tw_prompt_host.specs.declared.prompt.PromptHost.{PromptHost}
use Rattle.tw_prompt_host.specs.declared.validator.PreparedLines.{PreparedLines}

-- nothing is changed but what the host within holds, and what is said of lines
abbrev pub PreparesOnly : {H L K V : Type 0} → PromptHost H L K V → PromptHost H L K V → Type 0
PreparesOnly old new = new ≡ record old { host = new.host; validator = new.validator }

-- the host of a prompt of an application
abbrev pub AskedHost : Type 0 → Type 0 → Type 0
AskedHost L K = PromptHost PreparedHost L K PreparedLines

-- a Tab, whatever its modifiers are
abbrev pub is_tab_code : KeyCode → Bool
is_tab_code Tab = true
is_tab_code _ = false

abbrev pub is_tab : EventView → Bool
is_tab (Key key) = is_tab_code key.key
is_tab _ = false

-- what completes is that of the line, at its cursor
abbrev pub IsAskedFor : {L K : Type 0} → Cut → AskedHost L K → Type 0
IsAskedFor cut host = host.host.asked ≡ cut

-- the colours, and whether the line may be accepted, are those of the line
pub record IsPreparedFor {L K : Type 0} (cut : Cut) (host : AskedHost L K) : Type 0 where
  pub colours : string_bytes host.host.line ≡ cut.line
  pub validation : string_bytes host.validator.line ≡ cut.line

-- An application is asked for what completes a line before a Tab, and for the rest before each painting.
abbrev pub application_rules : {L K : Type 0} → HookRules (AskedHost L K)
application_rules = record {
  changes = PreparesOnly;
  is_asked = λ cut event host. is_tab event ≡ true → IsAskedFor cut host;
  is_prepared = IsPreparedFor;
  prints = λ text. ⊤;
}
