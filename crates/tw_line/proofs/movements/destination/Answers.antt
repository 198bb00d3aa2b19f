use Rattle.std.proofs.Common.{ℕ, ◌≤◌, length, refl, ◌∙◌, arith}
use Rattle.std.proofs.lemmas.Str.{IsCharBoundary-start, IsUtf8-string_bytes}
use Rattle.std.specs.Str.{chars}
use Rattle.tw_line.specs.Movements.{destination}
use Rattle.tw_line.specs.Words.{word_after, word_before}
use Rattle.tw_line.specs.Text.{bytes_of}
use Rattle.tw_line.proofs.OffsetStepLemmas.{iterate-from}
use Rattle.tw_line.proofs.WordLemmas.{word_after-le, word_before-le}
use Rattle.tw_line.proofs.movements.destination.Goals as goal

pub returns-in-BackwardWord-clause-value : goal.returns-in-BackwardWord-clause-value
unfolding destination
returns-in-BackwardWord-clause-value c =
    let line = bytes_of c.args.line.now in
    let keeps : (q : ℕ) → q ≤ length (chars line) → word_before (chars line) q ≤ length (chars line) = λ q low. omega (arith, word_before-le (chars line) q) in
    rw c.in-BackwardWord.is
    (c.steps_from.ensures.value
    ∙ iterate-from line (IsUtf8-string_bytes c.args.line.now.line) (word_before (chars line)) keeps _ _ _ c.requires refl)

pub returns-in-ForwardWord-clause-value : goal.returns-in-ForwardWord-clause-value
unfolding destination
returns-in-ForwardWord-clause-value c =
    let line = bytes_of c.args.line.now in
    rw c.in-ForwardWord.is
    (c.steps_from-in-ForwardWord.ensures.value
    ∙ iterate-from line (IsUtf8-string_bytes c.args.line.now.line) (word_after (chars line)) (word_after-le (chars line)) _ _ _ c.requires refl)

pub returns-in-StartOfLine-clause-boundary : goal.returns-in-StartOfLine-clause-boundary
returns-in-StartOfLine-clause-boundary c = IsCharBoundary-start _ (IsUtf8-string_bytes c.args.line.now.line)
