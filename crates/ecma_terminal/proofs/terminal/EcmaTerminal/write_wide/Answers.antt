use Rattle.std.proofs.Common.{◌≡◌, ap, subst, refl}
use Rattle.laws_screens.specs.Screens.{blank_of}
use Rattle.laws_screens.specs.StyledCells.{styled}
use Rattle.tw_ansi.specs.EcmaScreen.{write}
use Rattle.ecma_terminal.specs.Terminals.{Becomes}
use Rattle.ecma_terminal.proofs.CellLemmas.{cells_are}
use Rattle.ecma_terminal.proofs.terminal.EcmaTerminal.write_wide.Goals as goal

pub returns-clause-ok : goal.returns-clause-ok
returns-clause-ok c =
    let grid = c.args.self.now.grid in
    let at : c.self.inside.attributes ≡ c.args.self.now.attributes = ap (λ v. v.attributes) c.self.view_is in
    subst (λ cells. Becomes c.args.self.now (write (blank_of styled) grid.rows grid.cols cells) c.write.new.self)
    (cells_are c.args.self.now.attributes c.args.character.now c.in-Some.first (record { number = 0; attributes = c.self.inside.attributes }) c.args.columns c.requires.some c.requires.most
    (rw at at c.in-Some.ensures.shown) (rw at refl)) c.write.ensures
