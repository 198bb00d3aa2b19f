-- Laws of the pieces and pauses that come from a reader.
use Rattle.std.specs.Prelude.{◌≡◌, ℕ, true, List, [], ◌∷◌, ◌++◌}
use Rattle.tw_typed.specs.declared.typed.Lull.TheVariants.{Busy, Paused}
use Rattle.tw_typed.specs.Sieve.{SieveView, end_mark, outside}
use Rattle.tw_typed.specs.Typed.{by_pause, by_piece}

-- Where bytes are cut into pieces makes no difference, if no pause comes before them.
abbrev pub PiecesAreOne : Type 0
PiecesAreOne = (given : List ℕ) (s : SieveView) (first second : List ℕ)
    → by_piece (by_piece (record { given = given; sieve = s; lull = Busy }) first) second
    ≡ by_piece (record { given = given; sieve = s; lull = Busy }) (first ++ second)

-- A Ctrl-C by itself between two pauses ends a pasted text: what is held back is handed out, and then the mark, the
-- last report, and the key.
abbrev pub InterruptEnds : Type 0
InterruptEnds = (given : List ℕ) (s : SieveView) → s.is_inside ≡ true
    → by_pause (by_piece (record { given = given; sieve = s; lull = Paused }) (3 ∷ []))
    ≡ record { given = given ++ (s.held ++ end_mark ++ s.report ++ 3 ∷ []); sieve = outside; lull = Paused }

-- If bytes come behind it and no pause, it is one of them.
abbrev pub InterruptStays : Type 0
InterruptStays = (given : List ℕ) (s : SieveView) (b : ℕ) (bytes : List ℕ) → s.is_inside ≡ true
    → by_piece (by_piece (record { given = given; sieve = s; lull = Paused }) (3 ∷ [])) (b ∷ bytes)
    ≡ by_piece (record { given = given; sieve = s; lull = Busy }) (3 ∷ b ∷ bytes)
