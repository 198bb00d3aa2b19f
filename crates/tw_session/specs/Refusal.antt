-- Refusals: the errors without what they carry.
use Rattle.std.specs.Prelude.{ℕ}
use Rattle.tw_session.specs.declared.error.Error.{Error}
use Rattle.tw_session.specs.declared.error.Error.TheVariants as error

-- why a call is refused
pub data Refusal : Type 0 where
  EndOfFile : Refusal
  Recursive : Refusal
  ZeroSize : Refusal
  SizeOutOfRange : Refusal
  CandidateDoesNotFit : Refusal
  OutOfMemory : Refusal
  TerminalFailed : Refusal

-- its number
abbrev pub refusal_number : Refusal → ℕ
refusal_number EndOfFile = 1
refusal_number Recursive = 2
refusal_number ZeroSize = 3
refusal_number SizeOutOfRange = 4
refusal_number CandidateDoesNotFit = 5
refusal_number OutOfMemory = 6
refusal_number TerminalFailed = 7

-- the refusal that an error is
abbrev pub refusal_of : Error → Refusal
refusal_of error.EndOfFile = EndOfFile
refusal_of error.Recursive = Recursive
refusal_of error.ZeroSize = ZeroSize
refusal_of error.SizeOutOfRange = SizeOutOfRange
refusal_of error.CandidateDoesNotFit = CandidateDoesNotFit
refusal_of (error.Memory e) = OutOfMemory
refusal_of (error.Terminal e) = TerminalFailed

-- the number of an error
abbrev pub error_number : Error → ℕ
error_number e = refusal_number (refusal_of e)

-- an error for want of memory
abbrev pub IsMemory : Error → Type 0
IsMemory (error.Memory e) = Unit {0}
IsMemory _ = ⊥
