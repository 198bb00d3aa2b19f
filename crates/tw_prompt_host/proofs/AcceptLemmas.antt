-- A line that is accepted outside of a search.
use Rattle.std.proofs.Common.{◌≡◌, ◌||◌, Bool, true, false, refl, sym, ap, subst, ◌∙◌, Option, Some, None, if◌then◌else◌}
use Rattle.tw_input.specs.EventView.{EventView}
use Rattle.tw_line.specs.Cut.{Cut}
use Rattle.tw_host.specs.ActionView.{ActionView, AcceptLine}
use Rattle.tw_host.specs.HostRules.{HostRules, or_default}
use Rattle.tw_key_parts.specs.KeyRules.{KeyRules}
use Rattle.tw_key_parts.specs.SearchWatch.{has_lines}
use Rattle.tw_prompt_host.specs.Going.{event_line}
use Rattle.tw_prompt_host.specs.PromptRules.{AcceptsValid, Prompted, accepting_at, event_answer, prompt_rules, verdict_at}
use Rattle.tw_prompt_host.specs.Rows.{are_shown}
use Rattle.tw_prompt_host.specs.Validation.{ValidationView, Valid, Incomplete, Invalid}
use Rattle.tw_prompt_host.specs.Verdicts.{accepting, said, verdict_on}
use Rattle.tw_prompt_host.specs.declared.answers.Verdict.{Verdict}
use Rattle.tw_prompt_host.specs.declared.answers.Verdict.TheVariants.{Passes, Opens, Keeps, Fails}

-- accepting a line passes only if it is valid
passes_valid : (rows : Bool) (judged : ValidationView) → accepting rows judged ≡ Passes → judged ≡ Valid
passes_valid rows Valid passes = refl
passes_valid true (Incomplete text) passes = absurd (cc passes)
passes_valid false (Incomplete text) passes = absurd (cc passes)
passes_valid rows (Invalid text) passes = absurd (cc passes)

-- a line is accepted only if accepting it passes
accepted_passes : (accept verdict : Verdict) (lines : Bool) (own : Option ActionView) (event : EventView) → verdict_on accept lines (or_default own event) ≡ verdict
    → or_default (said verdict own) event ≡ Some AcceptLine → accept ≡ Passes
accepted_passes accept Passes lines own event is accepts = ap (verdict_on accept lines) (sym accepts) ∙ is
accepted_passes accept Opens lines own event is accepts = absurd (cc accepts)
accepted_passes accept Keeps lines own event is accepts = absurd (cc accepts)
accepted_passes accept Fails lines own event is accepts = absurd (cc accepts)

module _ {V S K : Type 0} (keys : KeyRules S K) (rules : HostRules V) where
  pub accepts_valid : AcceptsValid keys rules
  accepts_valid v event cut still accepts =
      let line = event_line v.going cut in
      let passes = accepted_passes (accepting_at keys rules v line.line) (verdict_at keys rules v line (or_default (event_answer keys rules v event line).action event)) (v.going.searching || has_lines v.lines)
      (event_answer keys rules v event line).action event refl accepts in
      passes_valid (are_shown v.rows) (v.judges line.line) (rw still at passes)
