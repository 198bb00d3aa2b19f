-- How the lines of a script are played, in order, up to the first bad one.
use Rattle.std.specs.Prelude.{◌≡◌, ℕ, ◌+◌, ◌⊎◌, List, [], ◌∷◌, ◌++◌, codes, length, Result, Ok, Err, IsUtf8}
use Rattle.std.specs.Io.KnownBytes.{Appends, Consumes, IsAtEnd, Keeps}
use Rattle.script_player.specs.Directives.{IsLineOf}
use Rattle.script_player.specs.Lines.{IsBad, IsFirstBad, script_lines}
use Rattle.script_player.specs.Playback.{Stage, first_stage, Obeys, Tells}
use Rattle.script_player.specs.Written.{Contents, ExtendsInPart, IsOutside, bad_line}
use Rattle.script_player.specs.declared.directive.Directive.{Directive}
use Rattle.script_player.specs.declared.fault.RunFault.{RunFault}
use Rattle.script_player.specs.declared.fault.RunFault.TheVariants.{BadLine, Io, Memory}

-- a line that is not bad is played: an empty one does nothing, and a directive is obeyed
abbrev pub PlaysLine : List ℕ → Stage → Stage → Contents → Contents → Type 0
PlaysLine line s t old new =
    ((line ≡ []) × (t ≡ s) × (new ≡ old))
    ⊎ (IsUtf8 line × ((directive : Directive) × IsLineOf line directive × Obeys directive s t old new))

-- what a line of a number tells: that it is bad, or what a reading tells
abbrev pub CanTell : ℕ → List ℕ → Stage → List ℕ → Type 0
CanTell number line s told = (IsBad line × (told ≡ bad_line number)) ⊎ ((line ≡ codes "read") × Tells s told)

-- what the line of a number leaves where it ends the run: it is bad and named; or memory was refused, and nothing is
-- written; or a write failed, and a beginning of what the line tells is written
abbrev pub FailsToPlay : ℕ → List ℕ → Stage → Contents → Contents → RunFault → Type 0
FailsToPlay number line s old new (BadLine n) = (n ≡ number) × IsBad line × Appends old new (bad_line number)
FailsToPlay number line s old new Memory = new ≡ old
FailsToPlay number line s old new Io = (told : List ℕ) × CanTell number line s told × ExtendsInPart old new told

-- lines are played one after the other
abbrev pub Plays : List (List ℕ) → Stage → Stage → Contents → Contents → Type 0
Plays [] s t old new = (t ≡ s) × (new ≡ old)
Plays (line ∷ lines) s t old new = (between : Stage) × (held : Contents) × PlaysLine line s between old held × Plays lines between t held new

-- The lines before some last ones were played, from the start of the script, and nothing else was; number is that of
-- the next line, counted from 1.
pub record PlaysUpTo (lines rest : List (List ℕ)) (number : ℕ) (s : Stage) (old new : Contents) : Type 0 where
  pub before : List (List ℕ)
  pub split : lines ≡ before ++ rest
  pub counted : number ≡ length before + 1
  pub played : Plays before first_stage s old new

-- How a run over these lines ends: all are played; or those before the first bad one are, and then it is named; or
-- those before some line are, and of what that line tells a beginning may be written, but nothing where memory was
-- refused.
abbrev pub Ends : List (List ℕ) → Contents → Contents → Result (Unit {0}) RunFault → Type 0
Ends lines old new (Ok done) = (number : ℕ) × (s : Stage) × PlaysUpTo lines [] number s old new
Ends lines old new (Err (BadLine n)) =
    IsFirstBad lines n × ((bad : List ℕ) × (rest : List (List ℕ)) × (s : Stage) × (held : Contents)
    × PlaysUpTo lines (bad ∷ rest) n s old held × IsBad bad × Appends held new (bad_line n))
Ends lines old new (Err Io) =
    ((line : List ℕ) × (rest : List (List ℕ)) × (number : ℕ) × (s : Stage) × (held : Contents) × (told : List ℕ)
    × PlaysUpTo lines (line ∷ rest) number s old held × CanTell number line s told × ExtendsInPart held new told)
Ends lines old new (Err Memory) =
    (rest : List (List ℕ)) × (number : ℕ) × (s : Stage) × PlaysUpTo lines rest number s old new

-- A run: what was read is played to one of these ends; or all its lines were played, and the writer could not be
-- flushed, which keeps what it holds; or the script could not be read, and nothing is written.
abbrev pub Runs : Contents → Contents → Contents → Contents → Result (Unit {0}) RunFault → Type 0
Runs unread left old new result =
    ((script : List ℕ) × (held : Contents) × Consumes unread left script × IsAtEnd left × Keeps held new
    × (Ends (script_lines script) old held result ⊎ ((result ≡ Err Io) × Ends (script_lines script) old held (Ok tt))))
    ⊎ ((fault : RunFault) × (result ≡ Err fault) × IsOutside fault × (new ≡ old))
