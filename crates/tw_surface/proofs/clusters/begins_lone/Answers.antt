use Rattle.std.proofs.Common.{◌<◌, ◌≤◌, length, ltb-true, arith}
use Rattle.tw_surface.proofs.LoneCharacters.{lone_starts_apart, nothing_starts_apart}
use Rattle.tw_surface.proofs.clusters.begins_lone.Goals as goal

pub returns-in-Some : goal.returns-in-Some
returns-in-Some c more =
    let text = c.args.text.now in
    let bytes = c.as_bytes.ensures.value in
    let found = c.in-Some.ensures.item.3 in
    let some : 0 < c.lone_len.result = ltb-true _ _ more in
    lone_starts_apart text c.utf8.text (rw (← bytes) found.0) (rw (← bytes, ← (found.1 0), ← c.lone_len.ensures.value) some)

pub returns-in-None : goal.returns-in-None
returns-in-None c more =
    let none : length c.args.text.now ≤ 0 = rw (← c.as_bytes.ensures.value) c.in-None.ensures.item.3 in
    nothing_starts_apart c.args.text.now (omega (arith, none))
