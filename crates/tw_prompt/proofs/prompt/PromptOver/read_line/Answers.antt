use Rattle.std.proofs.Common.{◌∙◌, refl, rules, sym}
use Rattle.tw_prompt.specs.declared.prompt.Place.TheVariants.{Terminal}
use Rattle.tw_prompt.proofs.PlaceLemmas.{read_at, read_at_pipe, unread_at}
use Rattle.tw_prompt.proofs.prompt.PromptOver.read_line.Goals as goal

pub returns-in-Pipe-clause-ok : goal.returns-in-Pipe-clause-ok
returns-in-Pipe-clause-ok g c = read_at_pipe g.T.Terminal.state _ c.read_plainly.result _ _ _ (search rules)

pub returns-in-Terminal-clause-ok : goal.returns-in-Terminal-clause-ok
returns-in-Terminal-clause-ok g c =
    read_at g.T.Terminal.state _ c.read.result c.args.self.now.place.value (Terminal c.read.new.self) c.in-Terminal.place c.read.new.self _
    (sym c.deref_mut.ensures.value ∙ c.in-Terminal.is) refl (rw c.deref_mut-in-Terminal.ensures.value at c.read.ensures.ok)

pub returns-in-Terminal-clause-err : goal.returns-in-Terminal-clause-err
returns-in-Terminal-clause-err g c =
    unread_at g.T.Terminal.state _ c.read.result c.args.self.now.place.value (Terminal c.read.new.self) c.in-Terminal.place c.read.new.self _
    (sym c.deref_mut.ensures.value ∙ c.in-Terminal.is) refl (rw c.deref_mut-in-Terminal.ensures.value at c.read.ensures.err)
