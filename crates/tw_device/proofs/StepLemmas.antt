-- What steps say, one after the other.
use Rattle.std.proofs.Common.{◌≡◌, ◌≤◌, Bool, true, false, List, [], ◌∷◌, ◌++◌, length, refl, sym, ap, ◌∙◌, subst, arith}
use Rattle.std.proofs.lemmas.Bool.{and_from, and_parts}
use Rattle.tw_device.specs.Steps.{Step, Seen, IsPrompt, is_unsent, is_unsent_from, is_unsent_after, is_prompt, is_prompt_from, waits_well}

pub unsent_then : (unsent : Bool) (a b : List Step) → is_unsent_from unsent (a ++ b) ≡ is_unsent_from (is_unsent_from unsent a) b
unsent_then unsent [] b = refl
unsent_then unsent (step ∷ a) b = unsent_then (is_unsent_after unsent step) a b

pub prompt_then : (unsent : Bool) (a b : List Step) → is_prompt_from unsent a ≡ true → is_prompt_from (is_unsent_from unsent a) b ≡ true → is_prompt_from unsent (a ++ b) ≡ true
prompt_then unsent [] b first next = next
prompt_then unsent (step ∷ a) b first next =
    let both = and_parts (waits_well unsent step) (is_prompt_from (is_unsent_after unsent step) a) first in
    and_from (waits_well unsent step) (is_prompt_from (is_unsent_after unsent step) (a ++ b)) both.0 (prompt_then (is_unsent_after unsent step) a b both.1 next)

-- what is unsent after one more step
pub unsent_next : (old new : List Step) (step : Step) → new ≡ old ++ step ∷ [] → is_unsent new ≡ is_unsent_after (is_unsent old) step
unsent_next old new step log = ap is_unsent log ∙ unsent_then false old (step ∷ [])

-- one more step, where it waits for nothing that is unsent
pub prompt_next : (old new : Seen) (step : Step) → new.log ≡ old.log ++ step ∷ [] → waits_well (is_unsent old.log) step ≡ true
    → new.terminal.flushed ≤ length new.terminal.batches → (new.terminal.flushed ≡ length new.terminal.batches → is_unsent_after (is_unsent old.log) step ≡ false)
    → IsPrompt old → IsPrompt new
prompt_next old new step log well counted flushed was = record {
  waits = subst (λ l. is_prompt l ≡ true) (sym log) (prompt_then false old.log (step ∷ []) was.waits (and_from (waits_well (is_unsent old.log) step) true well refl));
  counted = counted;
  flushed = λ all. unsent_next old.log new.log step log ∙ flushed all;
}

-- one more step at which nothing is taken, sent or flushed
pub prompt_still : (old new : Seen) (step : Step) → new.log ≡ old.log ++ step ∷ [] → waits_well (is_unsent old.log) step ≡ true
    → is_unsent_after (is_unsent old.log) step ≡ is_unsent old.log
    → new.terminal.flushed ≡ old.terminal.flushed → new.terminal.batches ≡ old.terminal.batches → IsPrompt old → IsPrompt new
prompt_still old new step log well neutral flushed batches was =
    let count : length new.terminal.batches ≡ length old.terminal.batches = ap length batches in
    prompt_next old new step log well (omega (arith, was.counted, flushed, count)) (λ all. neutral ∙ was.flushed (omega (arith, all, flushed, count))) was
