use Rattle.std.proofs.Common.{min, ap, ◌∙◌, rules}
use Rattle.tw_line.specs.Boundaries.{boundary_below}
use Rattle.tw_line.specs.Cut.{cut_at}
use Rattle.tw_line.specs.Movements.{destination}
use Rattle.tw_line.specs.Text.{bytes_of}
use Rattle.tw_line.proofs.EditLemmas.{without-is, without_same}
use Rattle.tw_line.proofs.buffer.LineEditBuffer.kill_text.Goals as goal

pub returns : goal.returns
returns c =
    let line = bytes_of c.remove.new.self in
    let end_is = c.destination-end.ensures.value ∙ ap (destination c.args.kill) c.self.view_is in
    let target_is = c.destination-target.ensures.value ∙ ap (destination c.args.movement) c.self.view_is in
    let left = rw (c.min-lower.ensures, c.max-upper.ensures) at c.remove.ensures in
    let limit = c.min-limit.ensures ∙ ap (min c.destination-target.result) c.len.ensures in
    ap (cut_at line) (c.boundary_below-boundary.ensures.value ∙ ap (boundary_below line) limit)
    ∙ without-is _ line c.self.inside.cursor c.destination-end.result c.destination-target.result left
    ∙ without_same _ _ _ _ _ _ end_is target_is c.self.view_is

pub invariant_of-self : goal.invariant_of-self
invariant_of-self c = search rules
