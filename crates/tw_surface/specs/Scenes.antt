-- What one painting shows.
use Rattle.std.specs.Prelude.{ℕ, ◌≡◌, Bool, true, false, List, [], ◌∷◌, ◌++◌}
use Rattle.std.specs.List.{list_all}
use Rattle.tw_surface.specs.ChangeView.{ChangeView, Batch}
use Rattle.tw_surface.specs.ChangeView.{Attribute, AllAttributes, Text, ClearScreen, ClearToEndOfScreen, CursorPosition}
use Rattle.tw_surface.specs.Characters.{is_printable}
use Rattle.tw_surface.specs.Lines.{lines_of}

-- the characters of the texts of a list of changes
abbrev pub typed_text : Batch → List ℕ
typed_text [] = []
typed_text (Text text ∷ changes) = text ++ typed_text changes
typed_text (Attribute a ∷ changes) = typed_text changes
typed_text (AllAttributes a ∷ changes) = typed_text changes
typed_text (ClearScreen color ∷ changes) = typed_text changes
typed_text (ClearToEndOfScreen color ∷ changes) = typed_text changes
typed_text (CursorPosition x y ∷ changes) = typed_text changes

-- a change that is an attribute or a text
abbrev pub is_text : ChangeView → Bool
is_text (Attribute a) = true
is_text (AllAttributes a) = true
is_text (Text text) = true
is_text (ClearScreen color) = false
is_text (ClearToEndOfScreen color) = false
is_text (CursorPosition x y) = false

-- a change that is an attribute or a text of printable characters
abbrev pub is_typing : ChangeView → Bool
is_typing (Attribute a) = true
is_typing (AllAttributes a) = true
is_typing (Text text) = list_all is_printable text
is_typing (ClearScreen color) = false
is_typing (ClearToEndOfScreen color) = false
is_typing (CursorPosition x y) = false

-- what stands under the line: nothing, a preview's changes, or the text of a search
pub data Lower : Type 0 where
  NoLower : Lower
  Preview : Batch → Lower
  Search : List ℕ → Lower

-- the lines under the prompt and the line
abbrev pub lower_lines : Lower → List (List ℕ)
lower_lines NoLower = []
lower_lines (Preview elements) = lines_of (typed_text elements)
lower_lines (Search text) = text ∷ []

-- what one painting shows: the changes of the prompt and of the line, the cursor's column in the line and what stands
-- under it, and whether the screen is cleared just before
pub record Scene : Type 0 where
  pub prompt : Batch
  pub line : Batch
  pub column : ℕ
  pub lower : Lower
  pub cleared : Bool

-- a lower text of attributes and printable characters, a preview's with pairs of CR and LF too
abbrev pub IsPlainLower : Lower → Type 0
IsPlainLower NoLower = Unit {0}
IsPlainLower (Preview elements) = (list_all is_text elements ≡ true) × (list_all (list_all is_printable) (lines_of (typed_text elements)) ≡ true)
IsPlainLower (Search text) = list_all is_printable text ≡ true

-- a scene of attributes and printable characters
pub record IsPlain (scene : Scene) : Type 0 where
  pub prompt : list_all is_typing scene.prompt ≡ true
  pub line : list_all is_typing scene.line ≡ true
  pub lower : IsPlainLower scene.lower
