-- Laws of what is handed out of typed bytes.
use Rattle.std.specs.Prelude.{◌≡◌, ℕ, ◌&&◌, not, Bool, true, List, [], ◌∷◌, ◌++◌}
use Rattle.tw_typed.specs.Sieve.{SieveView, end_mark, outside, is_report, sift, sifted}

-- whether a byte makes a report in a pasted text
abbrev pub makes_report : SieveView → ℕ → Bool
makes_report s b = s.is_inside && is_report s b

-- whether none of these bytes does
abbrev pub has_no_report : SieveView → List ℕ → Bool
has_no_report s [] = true
has_no_report s (b ∷ bytes) = not (makes_report s b) && has_no_report (sift s b).next bytes

-- Bytes without a report in a pasted text are handed out as they are, pasted texts and all.
abbrev pub NothingMoves : Type 0
NothingMoves = (bytes : List ℕ) → has_no_report outside bytes ≡ true → sifted outside bytes ≡ bytes

pub record HasEndMark (bytes : List ℕ) : Type 0 where
  pub before : List ℕ
  pub behind : List ℕ
  pub is : bytes ≡ before ++ end_mark ++ behind

-- behind the mark before a pasted text
abbrev pub inside : SieveView
inside = record outside { is_inside = true }

-- What is taken out of a pasted text leaves no mark that ends it: where one is handed out, one was typed.
abbrev pub NoMarkIsMade : Type 0
NoMarkIsMade = (bytes : List ℕ) → HasEndMark (sifted inside bytes) → HasEndMark bytes
