use Rattle.std.proofs.Common.{map, subst, ap, ◌∙◌}
use Rattle.std.proofs.lemmas.List.{length-map}
use Rattle.laws_screens.specs.Screens.{blank_of}
use Rattle.laws_screens.specs.StyledCells.{styled}
use Rattle.tw_ansi.specs.EcmaScreen.{write_here}
use Rattle.ecma_terminal.specs.Cells.{shown_cell}
use Rattle.ecma_terminal.specs.Terminals.{Becomes, wrapped}
use Rattle.ecma_terminal.proofs.TerminalSteps.{same_rule, becomes_then, write_wrapped}
use Rattle.ecma_terminal.proofs.terminal.EcmaTerminal.write.Goals as goal

pub returns : goal.returns
returns c =
    let grid = c.args.self.now.grid in
    let cells = map shown_cell c.args.cells.now in
    let here =
    subst (λ w. Becomes c.wrap.new.self (write_here w cells) c.write_here.new.self) c.wrap.ensures.wrapped.cols c.write_here.ensures in
    same_rule _ _ _ _ (becomes_then _ _ _ _ _ c.wrap.ensures.wrapped here)
    (λ t s. write_wrapped grid.rows grid.cols (blank_of styled) cells t ∙ ap (λ n. write_here grid.cols cells (wrapped (blank_of styled) grid.rows grid.cols n t)) (length-map c.args.cells.now shown_cell))
