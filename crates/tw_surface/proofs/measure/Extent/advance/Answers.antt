use Rattle.std.proofs.Common.{◌≡◌, ◌≤◌, true, pos, ◌+ℤ◌, ◌+◌, nat_abs, rules, arith}
use Rattle.std.proofs.lemmas.Bool.{and_parts, le-leb, lt-leb, leb-true}
use Rattle.std.proofs.lemmas.Int.{ints, to_z-of_z}
use Rattle.std.specs.Int.{w64}
use mir.Val.{SFits}
use Rattle.tw_surface.specs.declared.measure.Extent.{Extent}
use Rattle.tw_surface.specs.Extents.{place_of}
use Rattle.tw_surface.specs.Places.{is_in_range}
use Rattle.tw_surface.proofs.measure.Extent.advance.Goals as goal

-- the next row of one in range fits
next_fits : (t : Extent) → is_in_range (place_of t) ≡ true → SFits w64 (t.y +ℤ pos 1)
next_fits t h =
    let low : nat_abs t.y ≤ 2147483647 = leb-true _ 2147483647 (and_parts _ _ h).1 in
    grind (arith, ints)

pub returns-in-Cr : goal.returns-in-Cr
returns-in-Cr c =
    let fy : SFits w64 c.args.self.y = search rules in
    rw c.in-Cr.is (rw (to_z-of_z w64 _ fy) at c.reach.ensures)

pub returns-in-Lf : goal.returns-in-Lf
returns-in-Lf c =
    let fy : SFits w64 c.args.self.y = search rules in
    rw c.in-Lf.is (rw (to_z-of_z w64 _ fy, to_z-of_z w64 _ (next_fits c.args.self c.requires.range)) at c.reach-in-Lf.ensures)

pub returns-in-CrLf : goal.returns-in-CrLf
returns-in-CrLf c =
    let fy : SFits w64 c.args.self.y = search rules in
    rw c.in-CrLf.is (rw (to_z-of_z w64 _ fy, to_z-of_z w64 _ (next_fits c.args.self c.requires.range)) at c.reach-in-CrLf.ensures)

pub returns-then-end-cols : goal.returns-then-end-cols
returns-then-end-cols c =
    let fy : SFits w64 c.args.self.y = search rules in
    let end : c.saturating_add-end.result ≡ c.args.self.x + c.in-Wide.width = omega (arith, c.saturating_add-end.ensures, c.if-end-cols.true, c.requires.cols) in
    rw (c.in-Wide.is, le-leb (c.args.self.x + c.in-Wide.width) c.args.cols (omega (arith, end, c.if-end-cols.true)))
    (rw (to_z-of_z w64 _ fy, end) at c.reach-then-end-cols.ensures)

pub returns-else-end-cols : goal.returns-else-end-cols
returns-else-end-cols c =
    let fy : SFits w64 c.args.self.y = search rules in
    rw (c.in-Wide.is, lt-leb (c.args.self.x + c.in-Wide.width) c.args.cols (omega (arith, c.saturating_add-end.ensures, c.if-end-cols.false)))
    (rw (to_z-of_z w64 _ fy, to_z-of_z w64 _ (next_fits c.args.self c.requires.range)) at c.reach-else-end-cols.ensures)
