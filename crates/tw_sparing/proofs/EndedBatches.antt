-- Batches that leave the cursor in column 0.
use Rattle.std.proofs.Common.{◌≡◌, true, Option, Some, None, IfSome, List, [], ◌∷◌, ◌++◌, ap, ◌∙◌, inl, inr, append_assoc}
use Rattle.std.specs.Option.{is_some}
use Rattle.std.proofs.lemmas.Bool.{false≢true}
use Rattle.std.proofs.lemmas.List.{map-append}
use Rattle.tw_surface.specs.declared.change.Change.{Change}
use Rattle.tw_surface.specs.declared.change.Position.{Position}
use Rattle.tw_surface.specs.declared.change.Position.TheVariants.{Absolute}
use Rattle.tw_surface.specs.declared.color.ColorAttribute.{ColorAttribute}
use Rattle.tw_surface.specs.ChangeView.{ClearScreen, ClearToEndOfScreen, CursorPosition, batch_view, change_view}
use Rattle.tw_sparing.specs.Shown.{EndsAtStart}

-- what is found
pub found : {A : Type 0} {P : A → Type 0} (r : Option A) → IfSome r P → is_some r ≡ true → (x : A) × P x
found None is some = absurd (false≢true some)
found (Some x) is some = (x, is)

-- a batch, by its last change
viewed_last : (changes before : List Change) (last : Change) → changes ≡ before ++ last ∷ [] → batch_view changes ≡ batch_view before ++ change_view last ∷ []
viewed_last changes before last is = ap batch_view is ∙ map-append change_view before (last ∷ [])

pub ends_cleared : (changes before : List Change) (last : Change) (color : ColorAttribute) → changes ≡ before ++ last ∷ [] → change_view last ≡ ClearScreen color → EndsAtStart (batch_view changes)
ends_cleared changes before last color is clears =
    (batch_view before, color, inl (viewed_last changes before last is ∙ ap (λ x. batch_view before ++ x ∷ []) clears))

pub ends_moved : (changes before first : List Change) (move last : Change) (color : ColorAttribute) (y : Position) → changes ≡ before ++ last ∷ [] → before ≡ first ++ move ∷ []
    → change_view last ≡ ClearToEndOfScreen color → change_view move ≡ CursorPosition (Absolute 0) y → EndsAtStart (batch_view changes)
ends_moved changes before first move last color y is is_before empties leads = (
  batch_view first,
  color,
  inr (
    y,
    viewed_last changes before last is ∙ ap (λ x. batch_view before ++ x ∷ []) empties
        ∙ ap (λ xs. xs ++ ClearToEndOfScreen color ∷ []) (viewed_last before first move is_before ∙ ap (λ x. batch_view first ++ x ∷ []) leads)
        ∙ append_assoc (batch_view first) (CursorPosition (Absolute 0) y ∷ []) (ClearToEndOfScreen color ∷ []),
  ),
)
