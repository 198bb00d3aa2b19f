-- What becomes of an action.
use Rattle.std.specs.Prelude.{Bool, true, false, Option, Some, None, if◌then◌else◌}
use Rattle.tw_surface.specs.Characters.{lf}
use Rattle.tw_host.specs.ActionView.{ActionView, AcceptLine, HistoryIncSearchBackwards, HistoryIncSearchForwards, InsertChar, NoAction}
use Rattle.tw_prompt_host.specs.Validation.{ValidationView, Valid, Incomplete, Invalid}
use Rattle.tw_prompt_host.specs.declared.answers.Verdict.{Verdict}
use Rattle.tw_prompt_host.specs.declared.answers.Verdict.TheVariants.{Passes, Opens, Keeps, Fails}

-- what becomes of accepting a line, where lines are shown in rows or not: one that lacks something gets a row
abbrev pub accepting : Bool → ValidationView → Verdict
accepting rows Valid = Passes
accepting rows (Incomplete text) = if rows then Opens else Keeps
accepting rows (Invalid text) = Keeps

-- what becomes of an action, by what becomes of accepting the line, and whether there are lines to search
abbrev pub verdict_on : Verdict → Bool → Option ActionView → Verdict
verdict_on accept lines (Some AcceptLine) = accept
verdict_on accept lines (Some HistoryIncSearchBackwards) = if lines then Passes else Fails
verdict_on accept lines (Some HistoryIncSearchForwards) = if lines then Passes else Fails
verdict_on accept lines _ = Passes

-- the action that is done: a row begins in the place of one, or nothing is done
abbrev pub said : Verdict → Option ActionView → Option ActionView
said Passes action = action
said Opens action = Some (InsertChar 1 lf)
said _ action = Some NoAction

-- the line is kept
abbrev pub keeps_line : Verdict → Bool
keeps_line Keeps = true
keeps_line _ = false

-- a search finds nothing
abbrev pub finds_none : Verdict → Bool
finds_none Fails = true
finds_none _ = false

-- a pattern fails after an event: before it, where the host has an action of its own
abbrev pub failing_by : Option ActionView → Verdict → Bool → Bool
failing_by (Some own) before after = finds_none before
failing_by None before after = after
