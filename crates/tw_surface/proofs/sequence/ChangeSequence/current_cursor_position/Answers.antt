use Rattle.std.proofs.Common.{◌≡◌, ap, ◌∙◌, rules}
use Rattle.std.proofs.lemmas.Int.{to_z-of_z}
use Rattle.std.specs.Int.{w64}
use mir.Val.{SFits}
use Rattle.tw_surface.specs.Drawings.{place}
use Rattle.tw_surface.specs.Extents.{place_of}
use Rattle.tw_surface.specs.ChangeView.{batch_view}
use Rattle.tw_surface.proofs.DrawingLemmas.{place_of-measured}
use Rattle.tw_surface.proofs.sequence.ChangeSequence.current_cursor_position.Goals as goal

reached : (c : goal.After-result-1) → place_of c.self.inside.reached ≡ place c.args.self.now
reached c =
    place_of-measured (record { cols = c.self.inside.cols; changes = batch_view c.self.inside.changes.items }) c.self.inside.reached c.self.invariant
    ∙ ap place c.self.view_is

pub returns-clause-column : goal.returns-clause-column
returns-clause-column c = ap (λ p. p.x) (reached c)

pub returns-clause-row : goal.returns-clause-row
returns-clause-row c =
    let fits : SFits w64 c.self.inside.reached.y = search rules in
    to_z-of_z w64 _ fits ∙ ap (λ p. p.y) (reached c)
