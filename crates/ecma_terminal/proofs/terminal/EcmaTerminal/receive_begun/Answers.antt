use Rattle.std.proofs.Common.{◌≡◌, ◌∷◌, ◌++◌, [], true, not, if◌then◌else◌, sym, subst, ◌∙◌, ap}
use Rattle.laws_screens.specs.StyledCells.{styled}
use Rattle.tw_ansi.specs.EcmaScreen.{is_whole_character, write_character}
use Rattle.tw_ansi.specs.EcmaScreen as terminal
use Rattle.ecma_terminal.specs.Terminals.{Becomes, ShowsTerminal}
use Rattle.ecma_terminal.proofs.TerminalSteps.{finished}
use Rattle.ecma_terminal.proofs.terminal.EcmaTerminal.receive_begun.Goals as goal

pub returns-in-Ok-clause-ok : goal.returns-in-Ok-clause-ok
returns-in-Ok-clause-ok c =
    let grid = c.args.self.now.grid in
    let character = c.args.bytes.items ++ c.args.byte ∷ [] in
    let items : c.push-pushed.new.self.items ≡ character =
    c.push-pushed.ensures.items ∙ ap (λ b. if b then character else c.args.bytes.items) (c.is_err.ensures.negation ∙ ap not c.if-is_err.false) in
    let whole : is_whole_character character ≡ true = ap is_whole_character (sym items ∙ sym c.as_slice.ensures.value) ∙ sym c.is_whole_character.ensures ∙ c.if-not-is_whole_character.false in
    let done =
    subst (λ l. Becomes c.args.self.now (write_character styled grid.rows grid.cols l) c.write_character.new.self) (c.as_slice-2.ensures.value ∙ items) c.in-Ok.ensures.ok in
    record {
      rows = done.rows;
      cols = done.cols;
      shown = λ t s.
          subst (ShowsTerminal c.write_character.new.self) (sym (finished _ _ c.args.byte c.args.bytes.items t s.reading whole))
          (done.shown (record t { reading = terminal.Text }) (record { cell = s.cell; row = s.row; col = s.col; waits = s.waits; last = s.last; rendition = s.rendition; reading = sym c.requires }));
    }
