use Rattle.std.proofs.Common.{◌≤◌, ◌≡◌, ◌&&◌, true, nat_abs, rules, refl, ap, arith}
use Rattle.std.proofs.lemmas.Int.{ints, to_z-of_z}
use Rattle.std.proofs.lemmas.Bool.{and_from, le-leb}
use Rattle.std.specs.Int.{w64}
use mir.Val.{SFits}
use Rattle.tw_surface.specs.Places.{is_in_range}
use Rattle.tw_surface.proofs.measure.Extent.reach.Goals as goal

pub returns : goal.returns
returns c =
    let fy : SFits w64 c.args.y = search rules in
    let fl : SFits w64 c.min.result = search rules in
    let fg : SFits w64 c.max.result = search rules in
    let ft : SFits w64 c.args.self.least = search rules in
    let gt : SFits w64 c.args.self.greatest = search rules in
    let high : nat_abs c.args.y ≤ 2147483647 = omega (arith, ints) in
    let in_range : is_in_range (record { x = c.args.x; y = c.args.y }) ≡ true =
    and_from _ _ (le-leb c.args.x 2147483647 (omega arith)) (le-leb _ _ high) in (
      ap (λ b. b && true) in_range,
      rw (to_z-of_z w64 _ fy, to_z-of_z w64 _ fl, to_z-of_z w64 _ fg, c.min.ensures.value, c.max.ensures.value, to_z-of_z w64 _ ft, to_z-of_z w64 _ gt, to_z-of_z w64 c.args.y fy) refl,
      rw (to_z-of_z w64 _ fy) in_range,
    )
