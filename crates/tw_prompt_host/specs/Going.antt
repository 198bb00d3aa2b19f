-- The state of the line that is read.
use Rattle.std.specs.Prelude.{◌&&◌, ◌||◌, Bool, true, false, codes, Option, Some, None, unwrap_or}
use Rattle.std.specs.Option.{is_none, option_map_or}
use Rattle.tw_input.specs.declared.key.KeyCode.TheVariants.{Escape}
use Rattle.tw_input.specs.EventView.{EventView}
use Rattle.tw_input.specs.Modifiers.{none, ctrl}
use Rattle.tw_line.specs.Cut.{Cut}
use Rattle.tw_host.specs.ActionView.{ActionView, ends_line}
use Rattle.tw_host.specs.KeyTable.{key_press, letter}
use Rattle.tw_key_parts.specs.Keys.{is_key}
use Rattle.tw_key_parts.specs.Ring.{is_same_cut}
use Rattle.tw_key_parts.specs.SearchWatch.{searches_after}
use Rattle.tw_prompt_host.specs.Menu.{is_menu_open, menu_after}
use Rattle.tw_prompt_host.specs.Verdicts.{finds_none, keeps_line}
use Rattle.tw_prompt_host.specs.declared.answers.Verdict.{Verdict}
use Rattle.tw_prompt_host.specs.declared.going.Going.{Going}
use Rattle.tw_prompt_host.specs.declared.menu.Menu.{Menu}
use Rattle.tw_prompt_host.specs.declared.menu.Menu.TheVariants.{Closed}

-- gives a search up: Ctrl-G or Ctrl-D
abbrev pub gives_up : EventView → Bool
gives_up event = is_key (key_press ctrl (letter (codes "G"))) event || is_key (key_press ctrl (letter (codes "D"))) event

-- leaves a search: so does Escape
abbrev pub ends_search : EventView → Bool
ends_search event = gives_up event || is_key (key_press none Escape) event

-- before a line
abbrev pub going_at_rest : Going
going_at_rest = record { searching = false; fails = false; before_search = None; comes_back = None; kept = false; over = false; menu = Closed }

-- whether no hint is shown: the editor searches, the line was kept, or the menu is open
abbrev pub hides_hint : Going → Bool
hides_hint going = going.searching || (going.kept || is_menu_open going.menu)

-- the line at an event: the one that comes back, or else the editor's
abbrev pub event_line : Going → Cut → Cut
event_line going cut = unwrap_or going.comes_back cut

-- the line before a search, by whether the editor searched before an event and does after it
abbrev pub before_search_after : Bool → Bool → Cut → Option Cut → Option Cut
before_search_after searched false line before = None
before_search_after false true line before = Some line
before_search_after true true line before = before

-- it comes back after a search that was given up
abbrev pub comes_back_after : Bool → Bool → Option Cut → Option Cut
comes_back_after true false before = before
comes_back_after given_up searches before = None

-- that a search fails is said while its pattern does; what is said outside of one stays up to the next action
abbrev pub fails_still : Bool → Bool → Bool → Option ActionView → Bool
fails_still true pattern said action = pattern
fails_still false pattern said action = said && is_none action

-- an event, the line before and after it, the action that follows if there is one, what became of the one that was
-- answered, whether the pattern of a search fails, and where it turns the menu
pub record Came : Type 0 where
  pub event : EventView
  pub before : Cut
  pub after : Cut
  pub action : Option ActionView
  pub verdict : Verdict
  pub fails : Bool
  pub turn : Option Menu

-- all of it after an event, in a history that has lines or none
abbrev pub going_after : Bool → Came → Going → Going
going_after lines came going =
    let searches = searches_after lines came.action going.searching in
    record {
      searching = searches;
      fails = finds_none came.verdict || fails_still searches came.fails going.fails came.action;
      before_search = before_search_after going.searching searches came.before going.before_search;
      comes_back = comes_back_after (gives_up came.event) searches going.before_search;
      kept = keeps_line came.verdict || (going.kept && is_none came.action);
      over = option_map_or ends_line came.action false;
      menu = unwrap_or came.turn (menu_after (is_same_cut came.before came.after) came.action going.menu);
    }
