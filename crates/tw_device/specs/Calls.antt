-- What a source did over many calls.
use Rattle.std.specs.Prelude.{◌≡◌, List, [], ◌∷◌, ◌++◌}
use Rattle.tw_input.specs.EventView.{EventView}
use Rattle.tw_terminal.specs.Uses.{Uses}

-- all events of some calls
abbrev pub all_events : List (List EventView) → List EventView
all_events [] = []
all_events (events ∷ more) = events ++ all_events more

module _ {S : Type 0} (told : S → List EventView) (Follows : S → S → List EventView → Type 0) where
  -- calls alone led from the one to the other, and the events that they told, and no other, were told
  abbrev pub IsCalled : S → S → Type 0
  IsCalled old new = (parts : List (List EventView)) × (told new ≡ told old ++ all_events parts) × Uses Follows parts old new
