use Rattle.std.proofs.Common.{◌≡◌, ◌∙◌, ◌+◌, ◌-◌, ◌≤◌, length, take, drop, ap, sym, arith, drop-drop, length-take}
use Rattle.std.proofs.lemmas.Grind.{common_steps}
use Rattle.std.proofs.lemmas.List.{drop-take}
use Rattle.tw_device.proofs.unread.Unread.take.Goals as goal

pub invariant_of-self : goal.invariant_of-self
invariant_of-self c = grind (arith, common_steps)

pub returns : goal.returns
returns c =
    let inside = c.self.inside in
    let items = inside.buffer.items in
    let rest = drop inside.taken items in
    let left = inside.filled - (inside.taken + c.args.count) in
    let few : c.args.count ≤ inside.filled - inside.taken = omega (arith, c.requires, ap length c.self.view_is, length-take (inside.filled - inside.taken) rest) in
    let all : c.args.count + left ≡ inside.filled - inside.taken = omega (arith, few) in
    ap (take left) (sym (drop-drop c.args.count inside.taken items))
    ∙ sym (drop-take c.args.count left rest)
    ∙ ap (λ n. drop c.args.count (take n rest)) all
    ∙ ap (drop c.args.count) c.self.view_is
