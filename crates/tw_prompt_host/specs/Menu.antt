-- The menu of a completion: how it goes on, and what it shows and offers.
use Rattle.std.specs.Prelude.{ℕ, ◌-◌, ◌&&◌, Bool, true, false, not, nat_lt, min, List, length, take, drop, Option, Some, None, option_map, if◌then◌else◌}
use Rattle.tw_input.specs.EventView.{EventView}
use Rattle.tw_line.specs.Cut.{Cut}
use Rattle.tw_host.specs.ActionView.{ActionView, Complete, NoAction, Repaint}
use Rattle.tw_host.specs.CandidateView.{CandidateView}
use Rattle.tw_host.specs.ElementView.{ElementView}
use Rattle.tw_prompt_host.specs.MenuKeys.{menu_walked_by}
use Rattle.tw_prompt_host.specs.MenuLayout.{Shown, menu_page}
use Rattle.tw_prompt_host.specs.declared.layout.MenuStyle.{MenuStyle}
use Rattle.tw_prompt_host.specs.declared.menu.Menu.{Menu}
use Rattle.tw_prompt_host.specs.declared.menu.Menu.TheVariants.{Closed, Unseen, Few, Open}
use Rattle.tw_prompt_host.specs.declared.menu.Turn.{Turn}
use Rattle.tw_prompt_host.specs.declared.menu.Turn.TheVariants as turn

-- the candidate at an index, or the last one if there are fewer
abbrev pub chosen_at : ℕ → Shown → Shown
chosen_at index m = record m { chosen = min index (length m.candidates - 1) }

-- the menu with which a completion of a line begins
abbrev pub menu_begun : List CandidateView → Cut → Menu
menu_begun candidates line =
    if nat_lt 1 (length candidates) then Open (record { candidates = candidates; chosen = 0; line = line }) else Few candidates

-- whether an action completes
abbrev pub is_completing : Option ActionView → Bool
is_completing (Some Complete) = true
is_completing _ = false

-- the menu to which an event turns: its keys walk through an open one, or one begins if its candidates are known
abbrev pub turned : MenuStyle → Option Menu → EventView → Menu → Option Menu
turned style begun event (Open m) = option_map (λ index. Open (chosen_at index m)) (menu_walked_by style event m)
turned style begun event m = begun

-- an open menu is closed once another line comes in
abbrev pub open_if : Bool → Menu → Menu
open_if true m = m
open_if false (Open m) = Closed
open_if false m = m

-- the menu after an action, if there is one, of an event that does not turn it, where the line stays the same or not
abbrev pub menu_after : Bool → Option ActionView → Menu → Menu
menu_after same (Some Complete) m = Unseen
menu_after same (Some NoAction) m = open_if same m
menu_after same (Some Repaint) m = open_if same m
menu_after same None m = open_if same m
menu_after same (Some _) m = Closed

-- whether a menu is open
abbrev pub is_menu_open : Menu → Bool
is_menu_open (Open m) = true
is_menu_open _ = false

-- the page of an open menu, or else the other host's elements
abbrev pub page_or : MenuStyle → Menu → List ElementView → List ElementView
page_or style (Open m) elements = menu_page style m.candidates m.chosen
page_or style _ elements = elements

-- the candidate that is chosen, by itself
abbrev pub chosen_of : Shown → List CandidateView
chosen_of m = take 1 (drop m.chosen m.candidates)

-- what the editor completes with: the candidate that is chosen, those that are known, or else these
abbrev pub offered : Menu → List CandidateView → List CandidateView
offered (Few few) candidates = few
offered (Open m) candidates = chosen_of m
offered _ candidates = candidates

-- no completion goes on
abbrev pub is_still : Menu → Bool
is_still Closed = true
is_still (Few before) = true
is_still _ = false

-- a completion of the key table begins, but not during a search
abbrev pub asks : Bool → Menu → Option ActionView → Bool
asks searching menu action = not searching && (is_still menu && is_completing action)

-- an event turns the menu unless it has an action or an edit of its own
abbrev pub turn_unless : {E : Type 0} → Option ActionView → Option E → Option Menu → Option Menu
turn_unless None None turn = turn
turn_unless _ _ turn = None

-- the line on which the editor completes when the menu turns: that before the completion
abbrev pub turn_line : Option Menu → Option Cut
turn_line (Some (Open m)) = Some m.line
turn_line _ = None

-- the menu that a turn leads to; only an open one takes a step
abbrev pub turn_view : Menu → Turn → Menu
turn_view m (turn.Begins begun) = begun
turn_view (Open m) (turn.Step index) = Open (chosen_at index m)
turn_view m (turn.Step index) = m
