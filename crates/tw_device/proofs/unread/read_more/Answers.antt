use Rattle.std.proofs.Common.{◌≡◌, ◌≤◌, ◌+◌, length, length-take, take, vec_len, arith}
use Rattle.tw_device.proofs.ReadLemmas.{first_kept, reaches, read_into}
use Rattle.tw_device.proofs.unread.read_more.Goals as goal

pub returns-clause-ok : goal.returns-clause-ok
returns-clause-ok g c =
    let held = c.args.held in
    let old = c.args.buffer.now.items in
    let low : held ≤ length old = c.requires in
    let long : length (take held old) ≡ held = omega (arith, low, length-take held old) in
    let fits : held ≤ c.saturating_add.result = omega (arith, c.saturating_add.ensures, c.ranges.held.fits) in
    let kept = first_kept old _ c.resize.new.self.items held c.saturating_add.result low fits c.in_ok-resize.ensures.items in
    let inside : held + c.in_ok-read.field-0 ≤ vec_len c.resize.new.self = omega (arith, c.read.auto.buf, c.in_ok-read.ensures.bound.0, c.as_mut_slice.ensures.len, c.in_ok-resize.ensures.len, fits) in
    let same = read_into old c.resize.new.self.items c.as_mut_slice.result.now c.read.new.buf _ _ held (vec_len c.resize.new.self) c.in_ok-read.field-0 kept c.as_mut_slice.ensures.value long inside c.in_ok-read.ensures.bound.0 in
    let came : length (take c.in_ok-read.field-0 c.read.new.buf) ≡ c.in_ok-read.field-0 = simp length-take (omega (arith, c.in_ok-read.ensures.bound.0)) in
    (take c.in_ok-read.field-0 c.read.new.buf, reaches _ (take held old) (take c.in_ok-read.field-0 c.read.new.buf) held c.in_ok-read.field-0 same long came, same, came, c.in_ok-read.ensures.bytes.0)
