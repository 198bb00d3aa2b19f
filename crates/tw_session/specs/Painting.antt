-- The painting of a state.
use Rattle.std.specs.Prelude.{◌≤◌, nat_abs, ℕ, ◌+◌, ◌==◌, Bool, ◌&&◌, ◌||◌, nat_le, nat_lt, if◌then◌else◌, List, [], ◌∷◌, ◌++◌, codes, Option, Result, Ok, Err}
use Rattle.std.specs.List.{list_all}
use Rattle.tw_surface.specs.ChangeView.{Batch}
use Rattle.tw_surface.specs.Places.{place_after_all, places_of_all, origin, is_in_range}
use Rattle.tw_surface.specs.Scenes.{Scene, Lower}
use Rattle.tw_surface.specs.Scenes.Lower.{NoLower, Preview, Search}
use Rattle.tw_surface.specs.Paintings.{Painting, before_line, shown_part, cursor_place, painting, Mark, mark_of}
use Rattle.tw_surface.specs.PaintingBatches.{start_of}
use Rattle.tw_terminal.specs.declared.terminal.ScreenSize.{ScreenSize}
use Rattle.tw_host.specs.ElementView.{ElementView, changes_of}
use Rattle.tw_host.specs.HostRules.{HostRules}
use Rattle.tw_session.specs.Refusal.{Refusal, ZeroSize, SizeOutOfRange}
use Rattle.tw_line.specs.Cut.{Cut}
use Rattle.tw_session.specs.EditState.{EditState, ModeView, Editing, Searching}
use Rattle.tw_line.specs.declared.history.SearchDirection.{SearchDirection}
use Rattle.tw_line.specs.declared.history.SearchDirection.TheVariants.{Backwards, Forwards}

-- the line that is shown: while searching, the matching one
abbrev pub shown_in : Cut → ModeView → Cut
shown_in cut (Searching style direction matching) = matching
shown_in cut _ = cut

-- the label of a search
abbrev pub label : SearchDirection → List ℕ
label Backwards = codes "bck-i-search: "
label Forwards = codes "fwd-i-search: "

-- the text of a search: its label, the pattern and an underline
abbrev pub search_text : SearchDirection → List ℕ → List ℕ
search_text direction pattern = label direction ++ (pattern ++ codes "_")

-- a preview, if it has elements
abbrev pub preview_of : List ElementView → Lower
preview_of [] = NoLower
preview_of (e ∷ elements) = Preview (changes_of (e ∷ elements))

-- what stands under a line: while editing the host's preview, and while searching the text of the search
abbrev pub lower_in : {V : Type 0} → HostRules V → V → Cut → ModeView → Lower
lower_in rules v cut Editing = preview_of (rules.preview v cut.line)
lower_in rules v cut (Searching style direction matching) = Search (search_text direction cut.line)
lower_in rules v cut _ = NoLower

-- what is shown of a prompt, a line and what stands under it
abbrev pub scene_with : {V : Type 0} → HostRules V → V → List ℕ → Cut → Lower → Bool → Scene
scene_with rules v prompt line lower cleared = record {
  prompt = changes_of (rules.prompt v prompt);
  line = changes_of (rules.highlight v line).elements;
  column = (rules.highlight v line).column;
  lower = lower;
  cleared = cleared;
}

-- what is shown of a state
abbrev pub scene_of : {V : Type 0} → HostRules V → V → EditState → Bool → Scene
scene_of rules v s cleared = scene_with rules v s.prompt (shown_in s.cut s.mode) (lower_in rules v s.cut s.mode) cleared

-- whether each place on the way, the sum that gives the cursor's cell, and that cell are in range
abbrev pub is_paintable : ℕ → Scene → Bool
is_paintable cols scene =
    list_all is_in_range (places_of_all cols (shown_part cols scene) origin)
    && (nat_le ((place_after_all cols (before_line scene.prompt) origin).x + scene.column) 2147483647
    && is_in_range (cursor_place cols scene))

-- the painting of a scene on a screen, or its refusal
unfoldable pub painted_on : ScreenSize → Scene → Result Painting Refusal
painted_on size scene =
    if (size.rows == 0) || (size.cols == 0) then Err ZeroSize
    else if nat_lt 65535 size.rows || nat_lt 65535 size.cols then Err SizeOutOfRange
    else if is_paintable size.cols scene then Ok (painting size.cols scene) else Err SizeOutOfRange

-- a mark that a painting can have
pub record IsInLimits (m : Mark) : Type 0 where
  pub near : nat_abs m.row ≤ 2147483647
  pub low : m.height ≤ 4294967294

-- a painting as it is rendered, after its start move, and its mark
pub record Rendering : Type 0 where
  pub changes : Batch
  pub mark : Mark

-- the painting as it is rendered after the one before, or its refusal
abbrev pub rendering_of : Option Mark → Result Painting Refusal → Result Rendering Refusal
rendering_of mark (Err r) = Err r
rendering_of mark (Ok p) = Ok (record { changes = start_of mark ++ p.changes; mark = mark_of p })
