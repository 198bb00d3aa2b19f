-- The ranges of a line, one after the other.
use Rattle.std.proofs.Common.{◌≡◌, ℕ, List, [], ◌∷◌, length, drop, refl, append-nil, take-append-drop}
use Rattle.tw_line.proofs.BoundaryLemmas.{boundary_below-is}
use Rattle.tw_host.specs.Faithful.{IsFaithful, text_of_elements}
use Rattle.tw_prompt_host.specs.Prepared.{bytes_before, prepared_rules, styled_from}
use Rattle.tw_prompt_host.specs.declared.prepared.StyledRange.{StyledRange}

pub ruleset boundary_steps = (boundary_below-is)

-- the text that is shown is what is left, whatever the ranges are
text-from : (total : ℕ) (ranges : List StyledRange) (rest : List ℕ) → text_of_elements (styled_from total ranges rest) ≡ rest
text-from total [] rest = append-nil rest
text-from total (range ∷ ranges) rest =
    let start = bytes_before total range.start rest in
    let inside = drop start rest in
    let end = bytes_before total range.end inside in
    rw (text-from total ranges (drop end inside), take-append-drop end inside) (take-append-drop start rest)

pub prepared_is_faithful : IsFaithful prepared_rules
prepared_is_faithful = record {
  prompt = λ v text. append-nil text;
  line = λ v cut. text-from (length cut.line) _ cut.line;
  column = λ v cut. refl;
}
