-- What a script keeps from line to line, and what a directive does to it.
use Rattle.std.specs.Prelude.{◌≡◌, ℕ, ◌&&◌, ltb, leb, if◌then◌else◌, List, [], ◌∷◌, ◌++◌, Option, Some, None, codes, map, string_bytes}
use Rattle.std.specs.Io.KnownBytes.{Appends}
use Rattle.tw_surface.specs.Cells.{ScreenView, blank_screen}
use Rattle.tw_input.specs.EventView.{EventView, event_view}
use Rattle.tw_terminal.specs.TerminalState.{TerminalState, fresh_terminal}
use Rattle.tw_lineedit.specs.CandidateView.{candidate_view}
use Rattle.tw_lineedit.specs.Outcomes.{Outcome}
use Rattle.script_player.specs.Answers.{answer_text}
use Rattle.script_player.specs.Escapes.{unescaped_text}
use Rattle.script_player.specs.Events.{directive_events}
use Rattle.script_player.specs.NewEditor.{ReadsLine}
use Rattle.script_player.specs.ScriptRules.{Scripted, scripted_candidate, history_only, script_rules, with_last_candidate, with_line_added, with_preview}
use Rattle.script_player.specs.Written.{Contents, ExtendsInPart}
use Rattle.script_player.specs.declared.directive.Directive.{Directive}
use Rattle.script_player.specs.declared.directive.Directive.TheVariants.{Cols, Prompt, Preview, History, Candidate, «Type», Paste, Key, Read}
use Rattle.script_player.specs.declared.fault.RunFault.{RunFault}
use Rattle.script_player.specs.declared.fault.RunFault.TheVariants.{BadLine, Io, Memory}
use Rattle.script_player.specs.declared.playback.Playback.{Playback}

-- the columns, the prompt and the events for the next reading, the host's value, and the screen, if there is one
pub record Stage : Type 0 where
  pub cols : ℕ
  pub prompt : List ℕ
  pub events : List EventView
  pub host : Scripted
  pub screen : Option ScreenView

-- what a playback keeps
abbrev pub stage_of : Playback → Stage
stage_of playback = record {
  cols = playback.cols;
  prompt = string_bytes playback.prompt;
  events = map event_view playback.events.items;
  host = record {
    lines = playback.host.history;
    preview = string_bytes playback.host.preview;
    candidates = map candidate_view playback.host.candidates.items;
  };
  screen = playback.screen;
}

-- a new screen of so many columns, if there can be one
abbrev pub screen_of : ℕ → Option ScreenView
screen_of cols = if ltb 0 cols && leb cols 65535 then Some (blank_screen cols) else None

-- at the start of a script
abbrev pub first_stage : Stage
first_stage = record { cols = 80; prompt = codes "> "; events = []; host = history_only []; screen = screen_of 80 }

-- what a directive makes of what is kept: one part of it is another one, and the rest is as it was
abbrev pub obeyed : Directive → Stage → Stage
obeyed (Cols n) s = record s { cols = n; screen = screen_of n }
obeyed (Prompt text) s = record s { prompt = text.now }
obeyed (Preview text) s = record s { host = with_preview (unescaped_text text.now) s.host }
obeyed (History line) s = record s { host = with_line_added line.now s.host }
obeyed (Candidate range text) s = record s { host = with_last_candidate (scripted_candidate range.start range.end text.now) s.host }
obeyed Read s = record s { events = [] }
obeyed directive s = record s { events = s.events ++ directive_events directive }

-- an editor with the prompt, on a new terminal over the events, with the host, answers this, and leaves the host's
-- value
abbrev pub Answers : Stage → Outcome → Type 0
Answers s answer =
    (after : TerminalState) × ReadsLine script_rules s.prompt s.host s.host (fresh_terminal (record { rows = 24; cols = s.cols }) s.events) after answer

-- what a reading tells: its answer on a line, and then what the screen shows
abbrev pub Tells : Stage → List ℕ → Type 0
Tells s told = (answer : Outcome) × (shown : List ℕ) × Answers s answer × (told ≡ (answer_text answer ++ (10 ∷ [])) ++ shown)

-- A directive is obeyed: what is kept is as it makes it, and a reading has told its answer and may leave another
-- screen. No other directive writes.
abbrev pub Obeys : Directive → Stage → Stage → Contents → Contents → Type 0
Obeys Read s t old new = (t ≡ record s { events = []; screen = t.screen }) × ((told : List ℕ) × Tells s told × Appends old new told)
Obeys directive s t old new = (t ≡ obeyed directive s) × (new ≡ old)

-- what is kept where a directive is refused: all, but the events of some keys may have been added, and a reading has
-- taken them all
abbrev pub Stays : Directive → Stage → Stage → Type 0
Stays («Type» text) s t = t ≡ record s { events = t.events }
Stays (Paste text) s t = t ≡ record s { events = t.events }
Stays (Key key) s t = t ≡ record s { events = t.events }
Stays Read s t = t ≡ record s { events = []; screen = t.screen }
Stays directive s t = t ≡ s

-- A directive is refused: for want of memory, and nothing is written; or since a write failed, and a beginning of what
-- a reading tells is written.
abbrev pub FailsToObey : Directive → Stage → Stage → Contents → Contents → RunFault → Type 0
FailsToObey directive s t old new (BadLine n) = ⊥
FailsToObey directive s t old new Memory = Stays directive s t × (new ≡ old)
FailsToObey directive s t old new Io =
    (directive ≡ Read) × Stays directive s t × ((told : List ℕ) × Tells s told × ExtendsInPart old new told)
