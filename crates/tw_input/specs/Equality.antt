-- What a comparison says of two values.
use Rattle.std.specs.Prelude.{◌≡◌, ◌↔◌, Bool, IsTrue}

-- a comparison that holds exactly where the values are equal
abbrev pub ComparesValues : {A : Type 0} → (A → A → Bool) → Type 0
ComparesValues {A} eq = (a b : A) → IsTrue (eq a b) ↔ (a ≡ b)

-- a comparison that holds exactly where the views of the values are equal
abbrev pub ComparesViews : {A V : Type 0} → (A → V) → (A → A → Bool) → Type 0
ComparesViews {A} view eq = (a b : A) → IsTrue (eq a b) ↔ (view a ≡ view b)
