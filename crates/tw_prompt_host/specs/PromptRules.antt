-- A prompt: a host with a history, completers, keys, hints, a validator, a menu and a screen.
use Rattle.std.specs.Prelude.{ℕ, ◌==◌, ◌&&◌, ◌||◌, Bool, true, false, not, List, [], ◌++◌, length, Option, Some, None, option_map, unwrap_or, if◌then◌else◌, ◌≡◌}
use Rattle.tw_surface.specs.Defaults.{default_attributes}
use Rattle.tw_input.specs.EventView.{EventView}
use Rattle.tw_line.specs.Cut.{Cut}
use Rattle.tw_line.specs.declared.movements.Movement.TheVariants as movement
use Rattle.tw_host.specs.ActionView.{ActionView, AcceptLine, Cancel, Complete, HistoryIncSearchBackwards, HistoryIncSearchForwards, InsertText, Move}
use Rattle.tw_host.specs.CandidateView.{CandidateView}
use Rattle.tw_host.specs.ElementView.{ElementView}
use Rattle.tw_host.specs.HostRules.{HostRules, Resolution, or_default}
use Rattle.tw_host.specs.KeyTable.{action_of}
use Rattle.tw_hosts.specs.Settling.{PromptScreenView, screen_after}
use Rattle.tw_hosts.specs.Completers.{context_candidates}
use Rattle.tw_hosts.specs.declared.completers.ContextCompleter.{ContextCompleter}
use Rattle.tw_hosts.specs.declared.file_names.Listing.{Listing}
use Rattle.tw_hosts.specs.SharedCandidate.{beginning_first}
use Rattle.tw_key_parts.specs.KeyRules.{Edited, KeyRules, step_of}
use Rattle.tw_key_parts.specs.SearchWatch.{has_lines, searches_after}
use Rattle.tw_prompt_host.specs.Going.{Came, ends_search, event_line, gives_up, going_after, hides_hint}
use Rattle.tw_prompt_host.specs.Hint.{are_on, hint_if_under, hint_of, hint_taken_by, shown_under}
use Rattle.tw_prompt_host.specs.AfterLine.{after_line_on}
use Rattle.tw_prompt_host.specs.FailingSearch.{failing_text, fails_after, is_failing}
use Rattle.tw_prompt_host.specs.MenuLayout.{style_after}
use Rattle.tw_prompt_host.specs.Menu.{asks, is_menu_open, menu_begun, offered, page_or, turn_line, turn_unless, turned}
use Rattle.tw_prompt_host.specs.MenuKeys.{edit_in_menu, menu_key}
use Rattle.tw_prompt_host.specs.Rows.{are_shown, highlight_on}
use Rattle.tw_prompt_host.specs.Validation.{ValidationView, Valid, reason_or}
use Rattle.tw_prompt_host.specs.Verdicts.{accepting, failing_by, said, verdict_on}
use Rattle.tw_prompt_host.specs.declared.answers.Verdict.{Verdict}
use Rattle.tw_prompt_host.specs.declared.answers.Verdict.TheVariants.{Passes, Fails}
use Rattle.tw_prompt_host.specs.declared.going.Going.{Going}
use Rattle.tw_prompt_host.specs.declared.hint.Hints.{Hints}
use Rattle.tw_prompt_host.specs.declared.hint.Hints.TheVariants.{After}
use Rattle.tw_prompt_host.specs.declared.layout.MenuStyle.{MenuStyle}
use Rattle.tw_prompt_host.specs.declared.menu.Menu.{Menu}
use Rattle.tw_prompt_host.specs.declared.menu.Menu.TheVariants.{Open}
use Rattle.tw_prompt_host.specs.declared.menu_keys.MenuKey.{MenuKey}

-- what the application's host holds, the lines of the history and those of them that are lent, the completers with
-- listings of directories, what the keys hold, how hints are shown, whether a search that fails is not accepted, what
-- is said of lines, how the menu is shown, the screen, the prompt before other rows of a line if it is shown in rows,
-- and what belongs to one line
pub record Prompted (V S : Type 0) : Type 0 where
  pub host : V
  pub lines : List (List ℕ)
  pub lent : List (List ℕ)
  pub completers : List ContextCompleter
  pub listings : List Listing
  pub keys : S
  pub hints : Hints
  pub stops_failing_searches : Bool
  pub judges : List ℕ → ValidationView
  pub style : MenuStyle
  pub screen : PromptScreenView
  pub rows : Option (List ℕ)
  pub going : Going

-- what is answered to an event: the line, an action if there is one, and what a part keeps of it if it was its edit
pub record Answer (K : Type 0) : Type 0 where
  pub cut : Cut
  pub action : Option ActionView
  pub kept : Option K

module _ {K : Type 0} where
  -- a hint that is taken, or else the edit of the keys
  abbrev pub hint_or : Cut → Option (List ℕ) → Option (Edited K) → Option (Edited (Option K))
  hint_or cut (Some rest) edit = Some (record { cut = Some cut; action = InsertText 1 rest; kept = None })
  hint_or cut None edit = option_map (λ (edit : Edited K). record { cut = edit.cut; action = edit.action; kept = Some edit.kept }) edit

  -- an edit, or else the completion of a line
  abbrev pub completing : Option (Edited (Option K)) → Option Cut → Option (Edited (Option K))
  completing (Some edit) line = Some edit
  completing None (Some line) = Some (record { cut = Some line; action = Complete; kept = None })
  completing None None = None

  -- an event that ends a search leaves it, and one that cancels has the line from before it; or else such an edit
  abbrev pub leaving : Bool → Option Cut → Option ActionView → Option (Edited (Option K)) → Option (Edited (Option K))
  leaving true before action edit = Some (record { cut = None; action = Move movement.None; kept = None })
  leaving false before (Some Cancel) edit = Some (record { cut = before; action = Cancel; kept = None })
  leaving false before _ edit = edit

  -- the edit of a key in an open menu, or else such an edit
  abbrev pub in_menu : Menu → Option MenuKey → Option (Edited (Option K)) → Option (Edited (Option K))
  in_menu (Open m) (Some key) edit = edit_in_menu key m
  in_menu _ _ edit = edit

  -- the action of such an edit, if there is one
  abbrev pub edit_action : Option (Edited (Option K)) → Option ActionView
  edit_action edit = option_map (λ (edit : Edited (Option K)). edit.action) edit

  -- the host's action goes first, and then such an edit
  abbrev pub answered : Option ActionView → Option (Edited (Option K)) → Cut → Answer K
  answered (Some own) edit cut = record { cut = cut; action = Some own; kept = None }
  answered None (Some edit) cut = record { cut = unwrap_or edit.cut cut; action = Some edit.action; kept = edit.kept }
  answered None None cut = record { cut = cut; action = None; kept = None }

-- an action that searches
abbrev pub begins_search : Option ActionView → Bool
begins_search (Some HistoryIncSearchBackwards) = true
begins_search (Some HistoryIncSearchForwards) = true
begins_search _ = false

-- a hint after a line, if hints stand there
abbrev pub hint_if_after : Hints → PromptScreenView → Option (List ℕ) → List ℕ → Option (List ℕ) → List ElementView
hint_if_after (After style) screen rows line (Some rest) = after_line_on screen rows line style rest
hint_if_after _ screen rows line _ = []

module _ {V S K : Type 0} (keys : KeyRules S K) (rules : HostRules V) where
  -- the hint under a line
  abbrev pub hint_under : Prompted V S → List ℕ → Option (List ℕ)
  hint_under v line = hint_if_under v.hints (hint_of v.lent line)

  -- what stands after the line: that a search fails, and else the hint, at the end of a line that is not over and was
  -- not kept, while no menu is open
  abbrev pub after_line : Prompted V S → Cut → List ElementView
  after_line v cut =
      if v.going.fails then after_line_on v.screen v.rows cut.line default_attributes (failing_text v.going.searching)
      else if v.going.searching then []
      else if (not v.going.over && not v.going.kept) && (not (is_menu_open v.going.menu) && (cut.cursor == length cut.line))
      then hint_if_after v.hints v.screen v.rows cut.line (hint_of v.lent cut.line)
      else []

  -- the candidates, but for the menu: what completers offer, or else the host's
  abbrev pub found : Prompted V S → Cut → List CandidateView
  found v cut = beginning_first (unwrap_or (context_candidates v.completers v.listings cut) (rules.candidates v.host cut))

  -- the menu with which an action begins a completion, of the candidates
  abbrev pub begun_at : Prompted V S → Option ActionView → Cut → Option Menu
  begun_at v action cut =
      option_map (λ candidates. menu_begun candidates cut) (if asks v.going.searching v.going.menu action then Some (found v cut) else None)

  -- where an event turns the menu
  abbrev pub turn_at : Prompted V S → EventView → Cut → Option Menu
  turn_at v event cut = turned v.style (begun_at v (action_of event) cut) event v.going.menu

  -- the edit of an event in a line that is not searched for: a hint is taken, or that of the parts
  abbrev pub line_edit : Prompted V S → EventView → Cut → Option (Edited (Option K))
  line_edit v event cut =
      let hint = if are_on v.hints then hint_taken_by v.lent (hides_hint v.going) (action_of event) cut else None in
      hint_or cut hint (keys.edits v.keys (record { event = event; searching = v.going.searching; lines = v.lines; cut = cut }))

  -- the edit that an event has
  abbrev pub edit_at : Prompted V S → EventView → Cut → Option (Edited (Option K))
  edit_at v event cut =
      if v.going.searching then leaving (ends_search event) v.going.before_search (action_of event) (line_edit v event cut)
      else in_menu v.going.menu (menu_key event) (line_edit v event cut)

  -- what becomes of accepting a line, and of accepting the line that a search found
  abbrev pub accepting_at : Prompted V S → List ℕ → Verdict
  accepting_at v line =
      if v.going.searching then if v.stops_failing_searches && is_failing v.lines line then Fails else Passes
      else accepting (are_shown v.rows) (v.judges line)

  -- a pattern fails: after the action of the edit or of the key table, or if the host has an action of its own, before it
  abbrev pub fails_at : Prompted V S → EventView → Cut → Option ActionView → Bool
  fails_at v event cut own =
      let action = or_default (edit_action (edit_at v event cut)) event in
      failing_by own (accepting_at v cut.line) (v.stops_failing_searches && fails_after v.lines v.going.searching action cut)

  -- an answer is done, or what became of it is done in its place, and all follow what came of the event in the end
  abbrev pub judged : Prompted V S → EventView → Cut → V → Answer K → Option Menu → Verdict → Bool → Resolution (Prompted V S)
  judged v event cut value answer turn verdict fails =
      let action = said verdict answer.action in
      let done = or_default action event in
      let came : Came = record { event = event; before = cut; after = answer.cut; action = done; verdict = verdict; fails = fails; turn = turn } in
      record {
        value = record v {
          host = value;
          keys = keys.follows v.keys answer.kept (step_of event v.going.searching cut answer.cut done);
          style = style_after event v.style;
          screen = screen_after event v.screen;
          going = going_after (has_lines v.lines) came v.going;
        };
        cut = answer.cut;
        action = action;
      }

  -- what is answered to an event at a line: the host goes first, and then the edit, which a completion is too
  abbrev pub event_answer : Prompted V S → EventView → Cut → Answer K
  event_answer v event cut =
      let own = rules.resolve v.host event cut in answered own.action (completing (edit_at v event cut) (turn_line (turn_at v event cut))) own.cut

  -- where the event turns the menu, if nothing else is answered
  abbrev pub turn_taken_at : Prompted V S → EventView → Cut → Option Menu
  turn_taken_at v event cut = turn_unless (rules.resolve v.host event cut).action (edit_at v event cut) (turn_at v event cut)

  -- what becomes of an action at a line: one that accepts it is judged, and a search begins only if there are lines
  abbrev pub verdict_at : Prompted V S → Cut → Option ActionView → Verdict
  verdict_at v cut action = verdict_on (accepting_at v cut.line) (v.going.searching || has_lines v.lines) action

  -- an event at a line
  abbrev pub resolved_at : Prompted V S → EventView → Cut → Resolution (Prompted V S)
  resolved_at v event cut =
      let own = rules.resolve v.host event cut in
      let answer = event_answer v event cut in
      judged v event cut own.value answer (turn_taken_at v event cut) (verdict_at v cut (or_default answer.action event)) (fails_at v event cut own.action)

  abbrev pub prompt_rules : HostRules (Prompted V S)
  prompt_rules = record {
    lines = λ v. v.lines;
    prompt = λ v text. rules.prompt v.host text;
    preview = λ v line. reason_or (if v.going.kept then v.judges line else Valid) (page_or v.style v.going.menu (shown_under (rules.preview v.host line) (hint_under v line)));
    highlight = λ v cut. let shown = highlight_on v.screen v.rows cut (rules.highlight v.host cut) in
        record { elements = shown.elements ++ after_line v cut; column = shown.column };
    candidates = λ v cut. offered v.going.menu (found v cut);
    resolve = λ v event cut. resolved_at v event (event_line v.going cut);
  }

-- ---- what follows at each event

module _ {V : Type 0} (rules : HostRules V) (watch : V → Bool) where
  -- a host's value has a watch: at each event it follows the action that comes of it
  abbrev pub IsWatch : Type 0
  IsWatch = (v : V) (event : EventView) (cut : Cut) → let r = rules.resolve v event cut in
      watch r.value ≡ searches_after (has_lines (rules.lines r.value)) (or_default r.action event) (watch v)

module _ {V S K : Type 0} (keys : KeyRules S K) (rules : HostRules V) where
  -- a prompt of any parts over any host has one
  abbrev pub PromptHasWatch : Type 0
  PromptHasWatch = IsWatch (prompt_rules keys rules) (λ v. v.going.searching)

  -- a line before a search is kept while the editor searches
  pub record KeepsLineOfSearch : Type 0 where
    pub begun : (v : Prompted V S) (event : EventView) (cut : Cut) → let after = (prompt_rules keys rules).resolve v event cut in
        v.going.searching ≡ false → after.value.going.searching ≡ true → after.value.going.before_search ≡ Some (event_line v.going cut)
    pub kept : (v : Prompted V S) (event : EventView) (cut : Cut) → let after = (prompt_rules keys rules).resolve v event cut in
        v.going.searching ≡ true → after.value.going.searching ≡ true → after.value.going.before_search ≡ v.going.before_search

  -- an event that ends a search leaves it, unless the application's host has another action; if it gives the search up,
  -- the line before it stands at the next event, and one that cancels has that line
  pub record GivesLineBack : Type 0 where
    pub left : (v : Prompted V S) (event : EventView) (cut : Cut) → v.going.searching ≡ true → ends_search event ≡ true
        → (rules.resolve v.host event (event_line v.going cut)).action ≡ None
        → let after = (prompt_rules keys rules).resolve v event cut in
        (after.action ≡ Some (Move movement.None)) × (after.value.going.comes_back ≡ (if gives_up event then v.going.before_search else None))
    pub stands : (v : Prompted V S) (event : EventView) (line cut : Cut) → v.going.comes_back ≡ Some line
        → (prompt_rules keys rules).resolve v event cut ≡ resolved_at keys rules v event line
    pub cancelled : (v : Prompted V S) (event : EventView) (line cut : Cut) → v.going.searching ≡ true → v.going.before_search ≡ Some line
        → ends_search event ≡ false → action_of event ≡ Some Cancel → (rules.resolve v.host event (event_line v.going cut)).action ≡ None
        → let after = (prompt_rules keys rules).resolve v event cut in
        (after.action ≡ Some Cancel) × (after.cut ≡ line)

  -- no search begins in a history without lines, whoever answers
  abbrev pub BeginsNoSearch : Type 0
  BeginsNoSearch = (v : Prompted V S) (event : EventView) (cut : Cut) → v.lines ≡ [] → v.going.searching ≡ false
      → begins_search (or_default ((prompt_rules keys rules).resolve v event cut).action event) ≡ false

  -- outside of a search a line is accepted only if it is valid, whoever accepts it
  abbrev pub AcceptsValid : Type 0
  AcceptsValid = (v : Prompted V S) (event : EventView) (cut : Cut) → v.going.searching ≡ false
      → or_default ((prompt_rules keys rules).resolve v event cut).action event ≡ Some AcceptLine → v.judges (event_line v.going cut).line ≡ Valid
