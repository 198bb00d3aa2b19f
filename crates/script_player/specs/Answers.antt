-- What is told of a reading's answer.
use Rattle.std.specs.Prelude.{◌≡◌, ℕ, List, ◌++◌, Option, Some, None, Result, Ok, Err, IsOkAnd, String, string_bytes, codes}
use Rattle.std.specs.Fmt.{decimal}
use Rattle.std.specs.declared.alloc.Global.{Global}
use Rattle.tw_lineedit.specs.Outcomes.{Outcome, outcome_of}
use Rattle.tw_lineedit.specs.Refusal.{refusal_number}
use Rattle.tw_lineedit.specs.declared.Error.{Error}
use Rattle.tw_lineedit.specs.declared.Error.TheVariants as error
use Rattle.script_player.specs.declared.answer.Answer.{Answer}
use Rattle.script_player.specs.declared.answer.Answer.TheVariants.{Line, Cancelled, Refused}
use Rattle.script_player.specs.declared.fault.RunFault.{RunFault}
use Rattle.script_player.specs.declared.fault.RunFault.TheVariants as fault

-- a line, no line, or the number of a refusal
abbrev pub answer_text : Outcome → List ℕ
answer_text (Ok (Some line)) = codes "line " ++ line
answer_text (Ok None) = codes "cancelled"
answer_text (Err refusal) = codes "refused " ++ decimal (refusal_number refusal)

-- a text, and then more
abbrev pub IsContinuation : List ℕ → List ℕ → Type 0
IsContinuation old new = (more : List ℕ) × (new ≡ old ++ more)

-- the text of an answer
abbrev pub text_of_answer : Answer → List ℕ
text_of_answer (Line line) = codes "line " ++ string_bytes line
text_of_answer Cancelled = codes "cancelled"
text_of_answer (Refused n) = codes "refused " ++ decimal n

-- want of memory is no answer, and any other outcome has its text
abbrev pub IsAnswerTo : Result (Option (String Global)) Error → Result Answer RunFault → Type 0
IsAnswerTo (Err (error.Memory e)) result = result ≡ Err fault.Memory
IsAnswerTo outcome result = IsOkAnd result (λ answer. text_of_answer answer ≡ answer_text (outcome_of outcome))
