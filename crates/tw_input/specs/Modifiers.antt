-- The bits of the modifiers.
use Rattle.std.specs.Prelude.{ℕ, List, [], ◌∷◌, codes}
use Rattle.tw_input.specs.declared.key.Modifiers.{Modifiers}

-- the bits that a set of modifiers holds
abbrev pub modifier_bits : Modifiers → ℕ
modifier_bits modifiers = modifiers.0

-- the set that holds these bits
abbrev pub modifiers_of : ℕ → Modifiers
modifiers_of bits = record { 0 = bits }

-- the bits where no modifier is held
abbrev pub none : ℕ
none = 0

-- the bits where SHIFT alone is held
abbrev pub shift : ℕ
shift = 2

-- the bits where ALT alone is held
abbrev pub alt : ℕ
alt = 4

-- the bits where CTRL alone is held
abbrev pub ctrl : ℕ
ctrl = 8

-- the name and the bits of each modifier
abbrev pub modifier_table : List (List ℕ × ℕ)
modifier_table = (codes "SHIFT", shift) ∷ (codes "ALT", alt) ∷ (codes "CTRL", ctrl) ∷ (codes "SUPER", 16) ∷ []
