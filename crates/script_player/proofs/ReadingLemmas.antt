-- What a reading tells.
use Rattle.std.proofs.Common.{◌≡◌, ◌∙◌, ℕ, List, [], ◌∷◌, ◌++◌, Option, None, Result, Ok, Err, String, ap, refl, sym, subst, append_assoc, inl, inr, arith}
use Rattle.std.specs.Prelude.{IfOk, IfErr, IsOkAnd}
use Rattle.std.specs.declared.alloc.Global.{Global}
use Rattle.tw_surface.specs.Paintings.{Mark}
use Rattle.tw_terminal.specs.TerminalState.{TerminalState, count_up, fresh_terminal}
use Rattle.tw_lineedit.specs.EditState.{EditState}
use Rattle.tw_lineedit.specs.Outcomes.{Outcome, outcome_of}
use Rattle.tw_lineedit.specs.Reading.{Reads, start}
use Rattle.tw_lineedit.specs.Run.{run_of}
use Rattle.tw_lineedit.specs.declared.Error.{Error}
use Rattle.tw_lineedit.specs.declared.Error.TheVariants as error
use Rattle.script_player.specs.Written.{Contents, ExtendsInPart}
use Rattle.script_player.specs.declared.directive.Directive.{Directive}
use Rattle.script_player.specs.declared.directive.Directive.TheVariants.{Read}
use Rattle.script_player.specs.declared.fault.RunFault.{RunFault}
use Rattle.script_player.specs.declared.fault.RunFault.TheVariants.{Io}
use Rattle.script_player.specs.Answers.{IsAnswerTo, IsContinuation, answer_text, text_of_answer}
use Rattle.script_player.specs.NewEditor.{AnswersLine, ReadsLine, RefusesLine, before}
use Rattle.script_player.specs.Playback.{FailsToObey, Stage, Stays, Tells}
use Rattle.script_player.specs.ScriptRules.{Scripted, script_overrides, script_rules}
use Rattle.script_player.specs.declared.answer.Answer.{Answer}

-- a text that goes on, and then goes on again
pub continues_then : (a b c : List ℕ) → IsContinuation a b → IsContinuation b c → IsContinuation a c
continues_then a b c (xs, p) (ys, q) = (xs ++ ys, q ∙ ap (λ (l : List ℕ). l ++ ys) p ∙ append_assoc a xs ys)

-- no call of the terminal was refused
once : (m n : ℕ) → m ≡ 0 → n ≡ 0 → ¬ (n ≡ count_up m)
once m n zero none up = let one : n ≡ 1 = subst (λ k. n ≡ count_up k) zero up in omega (arith, none, one)

twice : (m n : ℕ) → m ≡ 0 → n ≡ 0 → ¬ (n ≡ count_up (count_up m))
twice m n zero none up = let two : n ≡ 2 = subst (λ k. n ≡ count_up (count_up k)) zero up in omega (arith, none, two)

-- a reading that nothing stopped closes the line
closes : (prompt : List ℕ) (v w : Scripted) (old new : TerminalState) (state : EditState) (mark : Option Mark) (answer : Outcome)
    → Reads (run_of script_rules (start None (before prompt v old))) (before prompt v old) (record { state = state; value = w; mark = mark; terminal = new }) answer
    → ReadsLine script_rules prompt v w old new answer
closes prompt v w old new state mark answer reads = record {
  answer_is = reads.answer_is;
  batches = reads.batches;
  left = reads.left;
  size = reads.size;
  state = refl;
  value = reads.value;
  mark = refl;
  flushed = reads.flushed;
  failures = reads.failures;
}

-- an outcome that has an answer is one of the abstract editor's, and the answer's text is the outcome's
answered : (prompt : List ℕ) (v w : Scripted) (old new : TerminalState) (outcome : Result (Option (String Global)) Error) (answer : Answer)
    → old.failures ≡ 0 → new.failures ≡ 0
    → IfOk outcome (AnswersLine script_rules prompt v w old new) → IfErr outcome (RefusesLine script_rules script_overrides prompt v w old new)
    → IsAnswerTo outcome (Ok answer)
    → ReadsLine script_rules prompt v w old new (outcome_of outcome) × (text_of_answer answer ≡ answer_text (outcome_of outcome))
answered prompt v w old new (Ok line) answer zero none reads refuses told = (reads, told)
answered prompt v w old new (Err (error.Memory e)) answer zero none reads refuses told = absurd (subst (λ r. IsOkAnd r (λ it. Unit {0})) told tt)
answered prompt v w old new (Err (error.Terminal e)) answer zero none reads (inl (state, mark, (m, inl (faults, whole, count)))) told = absurd (once _ _ zero none count)
answered prompt v w old new (Err (error.Terminal e)) answer zero none reads (inl (state, mark, (m, inr (inl (faults, bad, count))))) told = absurd (twice _ _ zero none count)
answered prompt v w old new (Err (error.Terminal e)) answer zero none reads (inl (state, mark, (m, inr (inr (halts, bad, count))))) told = absurd (once _ _ zero none count)
answered prompt v w old new (Err (error.Terminal e)) answer zero none reads (inr (memory, same, still)) told = absurd memory
answered prompt v w old new (Err _) answer zero none reads (inl (state, mark, done)) told = (closes prompt v w old new state mark _ done, told)
answered prompt v w old new (Err _) answer zero none reads (inr (memory, same, still)) told = absurd memory

-- what is told of a reading: its answer on a line, and then more
pub tells : (s : Stage) {prompt : List ℕ} {w : Scripted} {old : TerminalState} (new : TerminalState) (outcome : Result (Option (String Global)) Error)
    (answer : Answer) {first whole : List ℕ}
    → IfOk outcome (AnswersLine script_rules prompt s.host w old new) → IfErr outcome (RefusesLine script_rules script_overrides prompt s.host w old new)
    → IsAnswerTo outcome (Ok answer) → first ≡ text_of_answer answer ++ (10 ∷ []) → IsContinuation first whole → w ≡ s.host → prompt ≡ s.prompt
    → old ≡ fresh_terminal (record { rows = 24; cols = s.cols }) s.events → new.failures ≡ 0 → Tells s whole
tells s {prompt = prompt} {w = w} {old = old} new outcome answer reads refuses told line (more, is) kept same begins none =
    let (run, text) = answered prompt s.host w old new outcome answer (ap (λ (t : TerminalState). t.failures) begins) none reads refuses told in
    let here = subst (λ p. ReadsLine script_rules p s.host w old new (outcome_of outcome)) same run in
    let held = subst (λ v. ReadsLine script_rules s.prompt s.host v old new (outcome_of outcome)) kept here in
    let begun = subst (λ t. ReadsLine script_rules s.prompt s.host s.host t new (outcome_of outcome)) begins held in
    (outcome_of outcome, more, (new, begun), is ∙ ap (λ l. l ++ more) (line ∙ ap (λ t. t ++ (10 ∷ [])) text))

-- the writing of what a reading tells is refused
pub read_refused : (directive : Directive) (s t : Stage) (old new : Contents) (told : List ℕ) (fault : RunFault)
    → directive ≡ Read → fault ≡ Io → t ≡ record s { events = []; screen = t.screen } → Tells s told → ExtendsInPart old new told
    → FailsToObey directive s t old new fault
read_refused directive s t old new told fault is io kept tells part =
    subst (FailsToObey directive s t old new) (sym io)
    (is, subst (λ d. Stays d s t) (sym is) kept, (told, tells, part))
