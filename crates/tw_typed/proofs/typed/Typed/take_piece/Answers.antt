use Rattle.std.proofs.Common.{◌≡◌, false, sym, ap, ◌∙◌}
use Rattle.tw_typed.specs.Typed.{is_alone, heard_of, untaken}
use Rattle.tw_typed.proofs.TypedLemmas.{resumed_of}
use Rattle.tw_typed.proofs.typed.Typed.take_piece.Goals as goal

pub returns-clause-heard : goal.returns-clause-heard
returns-clause-heard g c =
    let it = c.args.self.now in
    let between = c.take_interrupt.new.self in
    let resumes = c.in_ok-take_interrupt.ensures in
    let apart : is_alone (heard_of it) (untaken it) ≡ false = sym c.is_interrupted.ensures ∙ c.if-is_interrupted.false in
    let same : untaken between ≡ untaken it = ap untaken resumes.kept in
    c.take_all.ensures.heard
    ∙ resumed_of (heard_of it) (heard_of between) it.piece.items (untaken between) it.taken c.requires apart resumes.ok same
