-- What a validator says of a line.
use Rattle.std.specs.Prelude.{ℕ, List, string_bytes}
use Rattle.tw_host.specs.ElementView.{ElementView}
use Rattle.tw_host.specs.HostRules.{plain_text}
use Rattle.tw_prompt_host.specs.declared.validator.Validation.{Validation}
use Rattle.tw_prompt_host.specs.declared.validator.Validation.TheVariants as validation

-- it may be accepted, it lacks what is named, or it is wrong, for a reason
pub data ValidationView : Type 0 where
  Valid : ValidationView
  Incomplete : List ℕ → ValidationView
  Invalid : List ℕ → ValidationView

-- the view of an answer
abbrev pub validation_view : Validation → ValidationView
validation_view validation.Valid = Valid
validation_view (validation.Incomplete text) = Incomplete (string_bytes text)
validation_view (validation.Invalid text) = Invalid (string_bytes text)

-- what is said of a line, and else these elements
abbrev pub reason_or : ValidationView → List ElementView → List ElementView
reason_or Valid elements = elements
reason_or (Incomplete text) elements = plain_text text
reason_or (Invalid text) elements = plain_text text
