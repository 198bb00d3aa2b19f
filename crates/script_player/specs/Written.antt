-- What a run writes.
use Rattle.std.specs.Prelude.{◌≡◌, ⊤, ℕ, ◌<◌, List, [], ◌∷◌, ◌++◌, Option, codes}
use Rattle.std.specs.Fmt.{decimal}
use Rattle.std.specs.Io.KnownBytes.{Appends}
use Rattle.script_player.specs.declared.fault.RunFault.{RunFault}
use Rattle.script_player.specs.declared.fault.RunFault.TheVariants.{BadLine, Io, Memory}

-- the bytes that a writer holds, where they are known
abbrev pub Contents : Type 0
Contents = Option (List ℕ)

-- the known bytes stay, and more follow them
abbrev pub Extends : Contents → Contents → Type 0
Extends old new = (more : List ℕ) × Appends old new more

-- the known bytes stay, and a beginning of a text follows them
abbrev pub ExtendsInPart : Contents → Contents → List ℕ → Type 0
ExtendsInPart old new text = (part : List ℕ) × (rest : List ℕ) × Appends old new part × (text ≡ part ++ rest)

-- the line that names a bad line, with its end
abbrev pub bad_line : ℕ → List ℕ
bad_line n = (codes "bad line " ++ decimal n) ++ (10 ∷ [])

-- a bad line is counted from 1, and the last that is written names it
abbrev pub NamesBadLine : Contents → Contents → RunFault → Type 0
NamesBadLine old new (BadLine n) = (0 < n) × (more : List ℕ) × Appends old new (more ++ bad_line n)
NamesBadLine old new Io = ⊤
NamesBadLine old new Memory = ⊤

-- no line was bad
abbrev pub IsOutside : RunFault → Type 0
IsOutside (BadLine n) = ⊥
IsOutside Io = ⊤
IsOutside Memory = ⊤
