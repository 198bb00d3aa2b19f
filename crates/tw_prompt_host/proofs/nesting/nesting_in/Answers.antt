use Rattle.std.proofs.Common.{◌≡◌, ◌∙◌, ◌+◌, length, refl, sym, ap, arith, length-append}
use Rattle.std.specs.Prelude.{encode_utf8, reverse}
use Rattle.std.specs.Str.{chars}
use Rattle.std.specs.Str.Iter.{char_indices_offset, char_indices_rest}
use Rattle.std.proofs.lemmas.List.{nil_from_length}
use Rattle.std.proofs.lemmas.Str.{IsUtf8-past_char, chars-nil}
use Rattle.tw_prompt_host.specs.Nesting.{Open, nesting_from, where_right}
use Rattle.tw_prompt_host.proofs.NestingLemmas.{nesting_next, wrong_stays}
use Rattle.tw_prompt_host.proofs.nesting.nesting_in.Goals as goal

pub returns-then-not-branch : goal.returns-then-not-branch
returns-then-not-branch c =
    let inv = c.loop-at.invariant in
    let steps = c.in-Some.ensures.steps in
    let pairs = c.args.pairs.now in
    let char = c.in-Some.c in
    let at = c.in-Some.at in
    let bytes = char_indices_rest c.loop-at.at-iterator in
    let opens = reverse c.loop-at.opens.items in
    let rest = char_indices_rest c.next.new.self in
    let step = c.in_ok-take_in.ensures ∙ ap (λ right. where_right right (reverse c.take_in.new.opens.items) at char) c.if-not-branch.true in
    sym (wrong_stays pairs (chars rest) char at (at + length (encode_utf8 char)))
    ∙ nesting_next pairs bytes rest char at (at + length (encode_utf8 char)) opens _ _ inv.utf8 steps.1 refl step (ap (nesting_from pairs (chars bytes) (Open opens)) steps.0 ∙ inv.same)

pub loop-at-preserved : goal.loop-at-preserved
loop-at-preserved c =
    let inv = c.loop-at.invariant in
    let steps = c.in-Some.ensures.steps in
    let pairs = c.args.pairs.now in
    let char = c.in-Some.c in
    let at = c.in-Some.at in
    let bytes = char_indices_rest c.loop-at.at-iterator in
    let opens = reverse c.loop-at.opens.items in
    let next = c.next.new.self in
    let step = c.in_ok-take_in.ensures ∙ ap (λ right. where_right right (reverse c.take_in.new.opens.items) at char) c.if-not-branch.false in
    let far : char_indices_offset next ≡ at + length (encode_utf8 char) = omega (arith, steps.0, steps.2) in
    record {
      utf8 = IsUtf8-past_char _ _ _ inv.utf8 steps.1;
      whole = omega (arith, inv.whole, steps.2, ap length steps.1, length-append (encode_utf8 char) (char_indices_rest next));
      same = nesting_next pairs bytes (char_indices_rest next) char at (char_indices_offset next) opens _ _ inv.utf8 steps.1 far step (ap (nesting_from pairs (chars bytes) (Open opens)) steps.0 ∙ inv.same);
    }

pub returns : goal.returns
returns c =
    let inv = c.loop-at.invariant in
    let none = ap chars (nil_from_length _ c.in-None.ensures.steps.0) ∙ chars-nil in
    sym (ap (λ cs. nesting_from c.args.pairs.now cs (Open (reverse c.loop-at.opens.items)) (char_indices_offset c.loop-at.at-iterator)) none) ∙ inv.same
