-- What is left of the text leaves after the marks that are open so far what the text leaves.
use Rattle.std.proofs.Common.{◌≡◌, ◌+◌, length}
use Rattle.std.specs.Prelude.{reverse}
use Rattle.std.specs.Str.{chars, IsUtf8}
use Rattle.std.specs.Str.Iter.{char_indices_offset, char_indices_rest}
use Rattle.tw_prompt_host.specs.Nesting.{Open, nesting_from, nesting_of}
use Rattle.tw_prompt_host.proofs.nesting.nesting_in.Given as goal

abbrev pub invariant-loop-at : goal.invariant-loop-at
invariant-loop-at l =
    let rest = char_indices_rest l.at-iterator in
    let at = char_indices_offset l.at-iterator in
    record {
      utf8 : IsUtf8 rest;
      whole : at + length rest ≡ length l.text;
      same : nesting_from l.pairs (chars rest) (Open (reverse l.opens.items)) at ≡ nesting_of l.pairs l.text;
    }
