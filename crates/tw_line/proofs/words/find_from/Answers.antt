use Rattle.std.proofs.Common.{◌≡◌, ◌<◌, length, not, refl, sym, ap, ◌∙◌, arith}
use Rattle.std.specs.Char.{is_whitespace}
use Rattle.tw_line.specs.Text.{chars_of}
use Rattle.tw_line.specs.Words.{is_space}
use Rattle.tw_line.proofs.WordLemmas.{same_kind, other_kind, kind_from-here, kind_from-skip, kind_from-end}
use Rattle.tw_line.proofs.words.find_from.Goals as goal

pub returns-then-is_whitespace-space-clause-value : goal.returns-then-is_whitespace-space-clause-value
returns-then-is_whitespace-space-clause-value c =
    let cs = chars_of c.args.line.now in
    let index = c.loop-index.index in
    let inside : index < length cs = omega (arith, c.loop-index-test.true) in
    let space : is_space cs index ≡ c.args.space = ap is_whitespace (sym c.character.ensures) ∙ sym c.is_whitespace.ensures ∙ same_kind _ _ c.if-is_whitespace-space.true in
    sym (kind_from-here c.args.space cs index inside space) ∙ c.loop-index.invariant.rest

pub loop-index-preserved : goal.loop-index-preserved
loop-index-preserved c =
    let cs = chars_of c.args.line.now in
    let index = c.loop-index.index in
    let inside : index < length cs = omega (arith, c.loop-index-test.true) in
    let space : is_space cs index ≡ not c.args.space = ap is_whitespace (sym c.character.ensures) ∙ sym c.is_whitespace.ensures ∙ other_kind _ _ c.if-is_whitespace-space.false in
    record { within = omega arith; rest = kind_from-skip c.args.space cs index _ refl inside space ∙ c.loop-index.invariant.rest }

pub returns-clause-value : goal.returns-clause-value
returns-clause-value c =
    let cs = chars_of c.args.line.now in
    let end : c.loop-index.index ≡ length cs = omega (arith, c.loop-index.invariant.within) in
    sym (kind_from-end c.args.space cs c.loop-index.index end) ∙ c.loop-index.invariant.rest
