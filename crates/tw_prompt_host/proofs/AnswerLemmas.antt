-- An answer of parts that are the same.
use Rattle.std.proofs.Common.{◌≡◌, ◌||◌, ℕ, Bool, List, Option, Some, None, option_map, unwrap_or, ap, refl}
use Rattle.std.specs.Borrow.{Bor}
use Rattle.std.specs.Option.{option_copied}
use Rattle.tw_line.specs.Cut.{Cut}
use Rattle.tw_input.specs.EventView.{EventView}
use Rattle.tw_host.specs.HostRules.{HostRules, or_default}
use Rattle.tw_key_parts.specs.KeyRules.{KeyRules}
use Rattle.tw_key_parts.specs.SearchWatch.{has_lines}
use Rattle.tw_prompt_host.specs.Going.{event_line}
use Rattle.tw_prompt_host.specs.PromptRules.{Answer, Prompted, accepting_at, event_answer, fails_at, judged, prompt_rules, turn_taken_at}
use Rattle.tw_prompt_host.specs.Verdicts.{verdict_on}
use Rattle.tw_prompt_host.specs.declared.answers.Verdict.{Verdict}
use Rattle.tw_prompt_host.specs.declared.menu.Menu.{Menu}

-- what is lent is seen as it is
pub seen : {X Y : Type 0} (f : X → Y) (r : Option (Bor X)) (o : Option X) → option_copied r ≡ o → option_map (λ x. f x.now) r ≡ option_map f o
seen f None o e = ap (option_map f) e
seen f (Some x) o e = ap (option_map f) e

-- and so it is where something else is lent in its place
pub lent_or : {X : Type 0} (r : Option (Bor X)) (o : Option X) (other : Bor X) → option_copied r ≡ o → (unwrap_or r other).now ≡ unwrap_or o other.now
lent_or None o other e = ap (λ o. unwrap_or o other.now) e
lent_or (Some x) o other e = ap (λ o. unwrap_or o other.now) e

-- what is done of an answer, where all parts of it are as told
pub resolved_as : {V S K : Type 0} (keys : KeyRules S K) (rules : HostRules V) (v w : Prompted V S) (event : EventView) (cut line : Cut) (answer : Answer K) (turn : Option Menu) (accept : Verdict) (failing : Bool) (text : List ℕ)
    → line ≡ event_line v.going cut → w ≡ record v { host = (rules.resolve v.host event line).value }
    → answer ≡ event_answer keys rules v event line → turn ≡ turn_taken_at keys rules v event line → accept ≡ accepting_at keys rules v text → text ≡ line.line
    → failing ≡ fails_at keys rules v event line (rules.resolve v.host event line).action
    → (prompt_rules keys rules).resolve v event cut
    ≡ judged keys rules w event line w.host answer turn (verdict_on accept (w.going.searching || has_lines w.lines) (or_default answer.action event)) failing
resolved_as keys rules v w event cut line answer turn accept failing text at p q r s is t = rw (p, q, r, s, is, t, at) refl
