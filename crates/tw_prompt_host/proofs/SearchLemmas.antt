-- A search that is left, and one that does not begin.
use Rattle.std.proofs.Common.{◌≡◌, ◌||◌, Bool, true, false, refl, ap, Option, Some, None, if◌then◌else◌}
use Rattle.tw_input.specs.EventView.{EventView}
use Rattle.tw_line.specs.Cut.{Cut}
use Rattle.tw_line.specs.declared.movements.Movement.TheVariants as movement
use Rattle.tw_host.specs.ActionView.{ActionView, AcceptLine, Cancel, EndOfFile, InsertChar, InsertText, Repaint, Move, Kill, KillAndMove, HistoryPrevious, HistoryNext, Complete, NoAction, HistoryIncSearchBackwards, HistoryIncSearchForwards}
use Rattle.tw_host.specs.HostRules.{HostRules, or_default}
use Rattle.tw_host.specs.KeyTable.{action_of}
use Rattle.tw_key_parts.specs.KeyRules.{KeyRules}
use Rattle.tw_key_parts.specs.SearchWatch.{has_lines}
use Rattle.tw_prompt_host.specs.Going.{comes_back_after, ends_search, event_line, gives_up}
use Rattle.tw_prompt_host.specs.PromptRules.{BeginsNoSearch, GivesLineBack, Prompted, accepting_at, begins_search, event_answer, prompt_rules}
use Rattle.tw_prompt_host.specs.Verdicts.{said, verdict_on}
use Rattle.tw_prompt_host.specs.declared.answers.Verdict.{Verdict}
use Rattle.tw_prompt_host.specs.declared.answers.Verdict.TheVariants.{Passes, Opens, Keeps, Fails}

-- what is done in the place of an action does not search
said_still : (accept : Verdict) (own : Option ActionView) (event : EventView) → begins_search (or_default own event) ≡ false
    → begins_search (or_default (said accept own) event) ≡ false
said_still Passes own event still = still
said_still Opens own event still = refl
said_still Keeps own event still = refl
said_still Fails own event still = refl

-- in a history without lines no action that is done begins a search
judged_by : (accept : Verdict) (own : Option ActionView) (event : EventView) (action : Option ActionView) → or_default own event ≡ action
    → begins_search (or_default (said (verdict_on accept false action) own) event) ≡ false
judged_by accept own event None e = ap begins_search e
judged_by accept own event (Some AcceptLine) e = said_still accept own event (ap begins_search e)
judged_by accept own event (Some Cancel) e = ap begins_search e
judged_by accept own event (Some EndOfFile) e = ap begins_search e
judged_by accept own event (Some (InsertChar r x)) e = ap begins_search e
judged_by accept own event (Some (InsertText r text)) e = ap begins_search e
judged_by accept own event (Some Repaint) e = ap begins_search e
judged_by accept own event (Some (Move m)) e = ap begins_search e
judged_by accept own event (Some (Kill m)) e = ap begins_search e
judged_by accept own event (Some (KillAndMove k m)) e = ap begins_search e
judged_by accept own event (Some HistoryPrevious) e = ap begins_search e
judged_by accept own event (Some HistoryNext) e = ap begins_search e
judged_by accept own event (Some Complete) e = ap begins_search e
judged_by accept own event (Some NoAction) e = ap begins_search e
judged_by accept own event (Some HistoryIncSearchBackwards) e = refl
judged_by accept own event (Some HistoryIncSearchForwards) e = refl

judged_still : (accept : Verdict) (own : Option ActionView) (event : EventView) (lines : Bool) → lines ≡ false
    → begins_search (or_default (said (verdict_on accept lines (or_default own event)) own) event) ≡ false
judged_still accept own event false none = judged_by accept own event (or_default own event) refl
judged_still accept own event true none = cc

module _ {V S K : Type 0} (keys : KeyRules S K) (rules : HostRules V) where
  abbrev Host : HostRules (Prompted V S)
  Host = prompt_rules keys rules

  -- an event that ends a search leaves it, and one that gives it up has its line come back
  gave : (v : Prompted V S) (event : EventView) (cut : Cut) → v.going.searching ≡ true → ends_search event ≡ true
      → (rules.resolve v.host event (event_line v.going cut)).action ≡ None
      → let after = Host.resolve v event cut in
      (after.action ≡ Some (Move movement.None)) × (after.value.going.comes_back ≡ (if gives_up event then v.going.before_search else None))
  gave v event cut searching ends none = (rw (searching, ends, none) refl, rw (searching, ends, none) (by (gives_up event)))
    where
      by : (b : Bool) → comes_back_after b false v.going.before_search ≡ (if b then v.going.before_search else None)
      by true = refl
      by false = refl

  -- one that cancels has it at once
  cancelled : (v : Prompted V S) (event : EventView) (line cut : Cut) → v.going.searching ≡ true → v.going.before_search ≡ Some line
      → ends_search event ≡ false → action_of event ≡ Some Cancel → (rules.resolve v.host event (event_line v.going cut)).action ≡ None
      → let after = Host.resolve v event cut in
      (after.action ≡ Some Cancel) × (after.cut ≡ line)
  cancelled v event line cut searching before goes cancels none = (rw (searching, before, goes, cancels, none) refl, rw (searching, before, goes, cancels, none) refl)

  pub gives_line_back : GivesLineBack keys rules
  gives_line_back = record {
    left = gave;
    stands = λ v event line cut back. rw back refl;
    cancelled = cancelled;
  }

  pub begins_no_search : BeginsNoSearch keys rules
  begins_no_search v event cut none still =
      let line = event_line v.going cut in
      judged_still (accepting_at keys rules v line.line) (event_answer keys rules v event line).action event (v.going.searching || has_lines v.lines) (rw (still, none) refl)
