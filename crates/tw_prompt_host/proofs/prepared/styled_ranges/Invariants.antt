-- What was shown so far, and what is left to show, are what the whole line shows.
use Rattle.std.proofs.Common.{◌≡◌, ◌++◌, drop, length, map}
use Rattle.std.specs.Str.{IsUtf8}
use Rattle.tw_host.specs.ElementView.{element_view}
use Rattle.tw_prompt_host.specs.Prepared.{styled_from, styled_ranges}
use Rattle.tw_prompt_host.proofs.prepared.styled_ranges.Given as goal

abbrev pub invariant-loop-range : goal.invariant-loop-range
invariant-loop-range l = record {
  utf8 : IsUtf8 l.rest;
  shown : map element_view l.elements.items ++ styled_from (length l.line) (drop l.range-index l.ranges) l.rest ≡ styled_ranges l.ranges l.line;
}
