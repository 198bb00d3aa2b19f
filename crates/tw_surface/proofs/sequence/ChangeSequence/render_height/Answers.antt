use Rattle.std.proofs.Common.{◌≡◌, ◌≤◌, ◌-ℤ◌, nat_abs, ap, ◌∙◌, arith}
use Rattle.std.proofs.lemmas.Int.{ints}
use Rattle.tw_surface.specs.Drawings.{height}
use Rattle.tw_surface.specs.ChangeView.{batch_view}
use Rattle.tw_surface.proofs.DrawingLemmas.{height-measured}
use Rattle.tw_surface.proofs.sequence.ChangeSequence.render_height.Goals as goal

pub returns : goal.returns
returns c =
    let t = c.self.inside.reached in
    let low : nat_abs t.least ≤ 2147483647 = c.self.invariant.sound.low in
    let high : nat_abs t.greatest ≤ 2147483647 = c.self.invariant.sound.high in
    let same : nat_abs (t.greatest -ℤ t.least) ≡ height c.args.self.now.cols c.args.self.now.changes =
    height-measured (record { cols = c.self.inside.cols; changes = batch_view c.self.inside.changes.items }) t c.self.invariant
    ∙ ap (λ d. height d.cols d.changes) c.self.view_is in
    omega (arith, ints, same)
