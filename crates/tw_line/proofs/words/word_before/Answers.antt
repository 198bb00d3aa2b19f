use Rattle.std.proofs.Common.{◌≡◌, ◌+◌, ◌-◌, true, false, sym, ap, ◌∙◌, ⊎_elim, arith}
use Rattle.std.proofs.lemmas.Bool.{cases_lt}
use Rattle.std.specs.Char.{is_whitespace}
use Rattle.tw_line.specs.Text.{chars_of}
use Rattle.tw_line.specs.Words.{is_space, word_before}
use Rattle.tw_line.proofs.WordLemmas.{word_before-here, word_before-skip, word_before-start}
use Rattle.tw_line.proofs.words.word_before.Goals as goal

pub loop-start-init : goal.loop-start-init
loop-start-init c =
    let cs = chars_of c.args.line.now in
    let index = c.args.index in
    record {
      within = omega (arith, c.saturating_sub-start.ensures, c.requires);
      rest =
          ⊎_elim
          (λ none. word_before-start cs _ (omega (arith, c.saturating_sub-start.ensures)) ∙ sym (word_before-start cs index (omega arith)))
          (λ some. let e : c.saturating_sub-start.result + 1 ≡ index = omega (arith, c.saturating_sub-start.ensures) in ap (word_before cs) e)
          (cases_lt index 1);
    }

pub returns-then-is_whitespace-clause-value : goal.returns-then-is_whitespace-clause-value
returns-then-is_whitespace-clause-value c =
    let cs = chars_of c.args.line.now in
    let start = c.loop-start.start in
    let space : is_space cs (start - 1) ≡ true = ap is_whitespace (sym c.character.ensures) ∙ sym c.is_whitespace.ensures ∙ c.if-is_whitespace.true in
    sym (word_before-here cs (start - 1) start (omega arith) space) ∙ c.loop-start.invariant.rest

pub loop-start-preserved : goal.loop-start-preserved
loop-start-preserved c =
    let cs = chars_of c.args.line.now in
    let start = c.loop-start.start in
    let space : is_space cs (start - 1) ≡ false = ap is_whitespace (sym c.character.ensures) ∙ sym c.is_whitespace.ensures ∙ c.if-is_whitespace.false in
    record { within = omega (arith, c.loop-start.invariant.within); rest = word_before-skip cs (start - 1) start (omega arith) space ∙ c.loop-start.invariant.rest }

pub returns-clause-value : goal.returns-clause-value
returns-clause-value c = sym (word_before-start _ (c.loop-start.start + 1) (omega (arith, c.loop-start-test.false))) ∙ c.loop-start.invariant.rest
