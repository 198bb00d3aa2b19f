-- Lines that are played one after the other.
use Rattle.std.proofs.Common.{◌≡◌, ℕ, suc, zero, ◌+◌, ◌<◌, List, [], ◌∷◌, ◌++◌, length, Some, None, Ok, Err, refl, sym, subst, ◌∙◌, append_assoc, length-append, inl, inr, arith}
use Rattle.std.specs.List.{slice_get}
use Rattle.script_player.specs.Lines.{IsBad, IsBadAt, IsFirstBad, script_lines}
use Rattle.script_player.specs.Directives.{IsLineOf}
use Rattle.script_player.specs.Playback.{FailsToObey, Stage, first_stage}
use Rattle.script_player.specs.Playing.{Ends, FailsToPlay, Plays, PlaysLine, PlaysUpTo, Runs}
use Rattle.script_player.specs.Written.{Contents, ExtendsInPart, NamesBadLine, bad_line}
use Rattle.std.specs.Io.KnownBytes.{Appends, Consumes, IsAtEnd, Keeps}
use Rattle.script_player.specs.declared.directive.Directive.{Directive}
use Rattle.script_player.specs.declared.fault.RunFault.{RunFault}
use Rattle.script_player.specs.declared.fault.RunFault.TheVariants.{BadLine, Io, Memory}

-- one line more is played
plays_more : (before : List (List ℕ)) (line : List ℕ) (s t u : Stage) (old held new : Contents)
    → Plays before s t old held → PlaysLine line t u held new → Plays (before ++ (line ∷ [])) s u old new
plays_more [] line s t u old held new (same, kept) played =
    (u, new, subst (λ x. PlaysLine line x u old new) same (subst (λ h. PlaysLine line t u h new) kept played), (refl, refl))
plays_more (first ∷ before) line s t u old held new (between, part, is, rest) played =
    (between, part, is, plays_more before line between t u part held new rest played)

-- nothing is played yet
pub plays_none : (lines : List (List ℕ)) (old : Contents) → PlaysUpTo lines lines 1 first_stage old old
plays_none lines old = record { before = []; split = refl; counted = refl; played = (refl, refl) }

-- the next line is played
pub plays_next : {lines rest : List (List ℕ)} {line : List ℕ} {number : ℕ} {s t : Stage} {old held new : Contents}
    → PlaysUpTo lines (line ∷ rest) number s old held → PlaysLine line s t held new → PlaysUpTo lines rest (number + 1) t old new
plays_next {rest = rest} {line = line} so_far next = record {
  before = so_far.before ++ (line ∷ []);
  split = so_far.split ∙ sym (append_assoc so_far.before (line ∷ []) rest);
  counted = omega (arith, so_far.counted, length-append so_far.before (line ∷ []));
  played = plays_more so_far.before line _ _ _ _ _ _ so_far.played next;
}

-- a line that is played is not bad
plays_good : (line : List ℕ) (s t : Stage) (old new : Contents) → PlaysLine line s t old new → ¬ (IsBad line)
plays_good line s t old new (inl (empty, same, kept)) bad = bad.0 empty
plays_good line s t old new (inr (utf8, (directive, is, obeys))) bad = bad.1 (utf8, (directive, is))

all_good : (before rest : List (List ℕ)) (s t : Stage) (old new : Contents) → Plays before s t old new
    → (k : ℕ) → k < length before → ¬ (IsBadAt (before ++ rest) k)
all_good [] rest s t old new played k low at = omega (arith, low)
all_good (line ∷ before) rest s t old new (between, part, is, more) zero low (found, here, bad) =
    let same : line ≡ found = cc in plays_good line s between old part is (subst IsBad (sym same) bad)
all_good (line ∷ before) rest s t old new (between, part, is, more) (suc k) low at =
    all_good before rest between t part new more k (omega (arith, low)) at

line_behind : (before : List (List ℕ)) (line : List ℕ) (rest : List (List ℕ)) → slice_get (before ++ (line ∷ rest)) (length before) ≡ Some line
line_behind [] line rest = refl
line_behind (first ∷ before) line rest = line_behind before line rest

-- the bad line after lines that are played is the first one
first_bad : {lines rest : List (List ℕ)} {bad : List ℕ} {n : ℕ} {s : Stage} {old held : Contents}
    → PlaysUpTo lines (bad ∷ rest) n s old held → IsBad bad → IsFirstBad lines n
first_bad {rest = rest} {bad = bad} {n = n} so_far is =
    subst (λ lines. IsFirstBad lines n) (sym so_far.split)
    (length so_far.before, so_far.counted, (bad, line_behind so_far.before bad rest, is), all_good so_far.before (bad ∷ rest) _ _ _ _ so_far.played)

-- how a run ends where the next line ends it
pub ends_at : {lines rest : List (List ℕ)} {line : List ℕ} {number : ℕ} {s : Stage} {old held : Contents} (new : Contents) (fault : RunFault)
    → PlaysUpTo lines (line ∷ rest) number s old held → FailsToPlay number line s held new fault → Ends lines old new (Err fault)
ends_at {lines = lines} {rest = rest} {line = line} {s = s} {old = old} {held = held} new (BadLine n) so_far (same, bad, named) =
    let here : PlaysUpTo lines (line ∷ rest) n s old held = subst (λ m. PlaysUpTo lines (line ∷ rest) m s old held) (sym same) so_far in
    (first_bad here bad, (line, rest, s, held, here, bad, subst (λ m. Appends held new (bad_line m)) (sym same) named))
ends_at {lines = lines} {rest = rest} {line = line} {number = number} {s = s} {old = old} new Memory so_far kept =
    (line ∷ rest, number, s, subst (λ (h : Contents). PlaysUpTo lines (line ∷ rest) number s old h) (sym kept) so_far)
ends_at {rest = rest} {line = line} {number = number} {s = s} {held = held} new Io so_far (told, can, part) =
    (line, rest, number, s, held, told, so_far, can, part)

-- the naming of a bad line is refused
pub naming_refused : (s : Stage) (number : ℕ) (line : List ℕ) (old new : Contents) (told : List ℕ) (fault : RunFault)
    → IsBad line → fault ≡ Io → told ≡ bad_line number → ExtendsInPart old new told → FailsToPlay number line s old new fault
naming_refused s number line old new told fault bad io names part = subst (FailsToPlay number line s old new) (sym io) (told, inl (bad, names), part)

-- a directive is refused
pub directive_refused : (number : ℕ) (line : List ℕ) (directive : Directive) (s t : Stage) (old new : Contents) (fault : RunFault)
    → IsLineOf line directive → FailsToObey directive s t old new fault → FailsToPlay number line s old new fault
directive_refused number line directive s t old new (BadLine n) is fails = absurd fails
directive_refused number line directive s t old new Memory is fails = fails.1
directive_refused number line directive s t old new Io is (reads, stays, (told, tells, part)) =
    (told, inr (subst (IsLineOf line) reads is, tells), part)

-- how a run ends where the start of the script finds no memory
pub nothing_played : (lines : List (List ℕ)) (old : Contents) → Ends lines old old (Err Memory)
nothing_played lines old = (lines, 1, first_stage, plays_none lines old)

keeps_same : (held : Contents) → Keeps held held
keeps_same None = tt
keeps_same (Some bytes) = refl

-- how a run ends where the playing of what was read ends it
pub run_stopped : (unread left old new : Contents) (script read : List ℕ) (fault : RunFault) → script ≡ read
    → Consumes unread left read → IsAtEnd left → Ends (script_lines script) old new (Err fault) → Runs unread left old new (Err fault)
run_stopped unread left old new script read fault same consumes end ends =
    inl (read, new, consumes, end, keeps_same new, inl (subst (λ s. Ends (script_lines s) old new (Err fault)) same ends))

-- how a run ends where all is played, and the writer could not be flushed
pub run_unflushed : (unread left old held new : Contents) (script read : List ℕ) → script ≡ read
    → Consumes unread left read → IsAtEnd left → Ends (script_lines script) old held (Ok tt) → Keeps held new → Runs unread left old new (Err Io)
run_unflushed unread left old held new script read same consumes end ends kept =
    inl (read, held, consumes, end, kept, inr (refl, subst (λ s. Ends (script_lines s) old held (Ok tt)) same ends))

-- a bad line is named by its number
pub bad_line_named : (old new : Contents) (n number : ℕ) → n ≡ number → 0 < number → Appends old new (bad_line number) → NamesBadLine old new (BadLine n)
bad_line_named old new n number same some named =
    subst (λ m. NamesBadLine old new (BadLine m)) (sym same) (some, [], named)
