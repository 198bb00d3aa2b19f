-- The lines before the steps of a reading.
use Rattle.std.specs.Prelude.{ℕ, ◌&&◌, ◌||◌, Bool, true, false, not, List, [], ◌∷◌, ◌++◌, length, take, eqb, codes, Option, Some, None, if◌then◌else◌, option_map, slice_get, unwrap_or, ◌-◌, ◌≡◌}
use Rattle.std.specs.Cmp.Lexicographic.{pointwise}
use Rattle.std.specs.List.{slice_index_or}
use Rattle.std.specs.Option.{is_none, option_map_or}
use Rattle.tw_line.specs.Extremes.{greatest_below, iterate}
use Rattle.tw_input.specs.EventView.{EventView}
use Rattle.tw_input.specs.Modifiers.{alt, ctrl}
use Rattle.tw_line.specs.Cut.{Cut, empty_cut}
use Rattle.tw_host.specs.ActionView.{ActionView, InsertChar, InsertText, Repaint, Kill, KillAndMove, HistoryPrevious, HistoryNext, Complete, NoAction, HistoryIncSearchBackwards, HistoryIncSearchForwards, ends_line}
use Rattle.tw_host.specs.KeyTable.{key_press, letter}
use Rattle.tw_key_parts.specs.KeyRules.{Asked, Edited, KeyRules, KeyStep, shown}
use Rattle.tw_key_parts.specs.Keys.{is_key}
use Rattle.tw_key_parts.specs.declared.undo.UndoSteps.{UndoSteps}

-- the cut texts before the steps, the oldest first, those that undos left, whether the last step is typing that goes on,
-- and whether the last event was the prefix of the undo key
pub record Undo : Type 0 where
  pub before : List Cut
  pub undone : List Cut
  pub typing : Bool
  pub prefixed : Bool

-- the view of the steps
abbrev pub undo_view : UndoSteps → Undo
undo_view u = record { before = u.before.items; undone = u.undone.items; typing = u.typing; prefixed = u.prefixed }

-- no steps
abbrev pub no_steps : Undo
no_steps = record { before = []; undone = []; typing = false; prefixed = false }

-- ---- what a step is

-- an action that changes the line, or a search, which puts in the line that it ends at
abbrev pub is_edit : ActionView → Bool
is_edit (InsertChar r x) = true
is_edit (InsertText r text) = true
is_edit (Kill m) = true
is_edit (KillAndMove k m) = true
is_edit HistoryPrevious = true
is_edit HistoryNext = true
is_edit Complete = true
is_edit HistoryIncSearchBackwards = true
is_edit HistoryIncSearchForwards = true
is_edit _ = false

-- a step begins: by an edit, or where the host changed the line itself; a character that is typed right after others on
-- a line that the host left as it was begins none
abbrev pub begins_step : Option ActionView → Bool → Bool → Bool
begins_step (Some (InsertChar r x)) same typing = not (typing && same)
begins_step action same typing = option_map_or is_edit action false || not same

-- whether the last step is typing that goes on: where a character was typed it is, and where nothing is done it is as
-- before
abbrev pub typing_after : Option ActionView → Bool → Bool
typing_after None typing = typing
typing_after (Some NoAction) typing = typing
typing_after (Some Repaint) typing = typing
typing_after (Some (InsertChar r x)) typing = true
typing_after (Some _) typing = false

-- ---- what comes back

-- the cut text at an index
abbrev pub step_at : List Cut → ℕ → Cut
step_at before i = slice_index_or before i empty_cut

-- whether the line at an index is another one
abbrev pub differs_at : List ℕ → List Cut → ℕ → Bool
differs_at line before i = not (pointwise eqb (step_at before i).line line)

-- the index of the last step that changed the line
abbrev pub last_change : List ℕ → List Cut → Option ℕ
last_change line before = greatest_below (differs_at line before) (length before)

-- the cut text that an undo brings back: that before the last step that changed the line; where none did it stays
abbrev pub before_change : Undo → Cut → Cut
before_change u cut = unwrap_or (option_map (step_at u.before) (last_change cut.line u.before)) cut

-- the number of steps that an undo leaves
abbrev pub steps_left : Undo → Cut → ℕ
steps_left u cut = unwrap_or (last_change cut.line u.before) 0

-- the cut text that a redo brings back: the last one that an undo left
abbrev pub last_undone : Undo → Option Cut
last_undone u = slice_get u.undone (length u.undone - 1)

-- the steps after an undo, which leaves a cut text, and after a redo, which makes a step of it
abbrev pub steps_after : Option ℕ → Cut → Bool → Undo → Undo
steps_after (Some left) cut same u =
    record { before = take left u.before; undone = if same then u.undone else u.undone ++ cut ∷ []; typing = false; prefixed = false }
steps_after None cut same u =
    record { before = u.before ++ cut ∷ []; undone = take (length u.undone - 1) u.undone; typing = false; prefixed = false }

-- Ctrl-_ undoes, and so does Ctrl-U right after the prefix, Ctrl-X
abbrev pub is_undo : Undo → EventView → Bool
is_undo u event = is_key (key_press ctrl (letter (codes "_"))) event || (u.prefixed && is_key (key_press ctrl (letter (codes "U"))) event)

-- Alt-_ redoes, and so does Ctrl-_ right after the prefix
abbrev pub is_redo : Undo → EventView → Bool
is_redo u event = is_key (key_press alt (letter (codes "_"))) event || (u.prefixed && is_key (key_press ctrl (letter (codes "_"))) event)

-- the keys undo and redo, but during a search
abbrev pub undo_edit : Undo → Asked → Option (Edited (Option ℕ))
undo_edit u asked =
    if asked.searching then None
    else if is_redo u asked.event then option_map (λ cut. shown cut None) (last_undone u)
    else if is_undo u asked.event then Some (shown (before_change u asked.cut) (Some (steps_left u asked.cut)))
    else None

-- an undo or a redo leaves its steps, and all else may be one more, which forgets what was undone: an end leaves no steps,
-- and the prefix is an event for which nothing is done
abbrev pub undo_follows : Undo → Option (Option ℕ) → KeyStep → Undo
undo_follows u (Some turn) step = steps_after turn step.before (pointwise eqb step.before.line step.after.line) u
undo_follows u None step =
    let same = pointwise eqb step.before.line step.after.line in
    let ends = option_map_or ends_line step.action false in
    let begins = begins_step step.action same u.typing && not step.searching in
    record {
      before = if ends then [] else if begins then u.before ++ step.before ∷ [] else u.before;
      undone = if ends || begins then [] else u.undone;
      typing = not step.searching && (typing_after step.action u.typing && same);
      prefixed = is_none step.action && is_key (key_press ctrl (letter (codes "X"))) step.event;
    }

abbrev pub undo_key_rules : KeyRules Undo (Option ℕ)
undo_key_rules = record { edits = undo_edit; follows = undo_follows; leaves = λ u. no_steps }

-- ---- what undos lead to

-- the oldest line: that before the first step, or without steps the line itself
abbrev pub oldest_line : List Cut → Cut → List ℕ
oldest_line [] cut = cut.line
oldest_line (before ∷ later) cut = before.line

-- the steps and the cut text after one undo
abbrev pub undo_once : Undo × Cut → Undo × Cut
undo_once at =
    let back = before_change at.0 at.1 in (steps_after (Some (steps_left at.0 at.1)) at.1 (pointwise eqb at.1.line back.line) at.0, back)

-- as many undos as there are steps give the oldest line
abbrev pub UndosGiveOldest : Type 0
UndosGiveOldest = (u : Undo) (cut : Cut) → (iterate undo_once (length u.before) (u, cut)).1.line ≡ oldest_line u.before cut

-- and one undo keeps it
abbrev pub UndoKeepsOldest : Type 0
UndoKeepsOldest = (u : Undo) (cut : Cut) → let at = undo_once (u, cut) in oldest_line at.0.before at.1 ≡ oldest_line u.before cut

-- a redo right after an undo that changed the line gives the line as it was, with its cursor
abbrev pub RedoGivesBack : Type 0
RedoGivesBack = (u : Undo) (cut : Cut) → let at = undo_once (u, cut) in
    pointwise eqb cut.line at.1.line ≡ false → last_undone at.0 ≡ Some cut
