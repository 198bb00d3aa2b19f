use Rattle.std.proofs.Common.{◌≡◌, refl, ap, sym, subst, true, false, arith}
use Rattle.std.proofs.lemmas.Bool.Decides.{nat_tests}
use Rattle.tw_ansi.specs.KeyBytes.{is_parameter}
use Rattle.tw_ansi.specs.EcmaScreen as terminal
use Rattle.ecma_terminal.specs.Terminals.{ShowsTerminal}
use Rattle.ecma_terminal.proofs.TerminalSteps.{added, ended}
use Rattle.ecma_terminal.proofs.terminal.EcmaTerminal.receive_behind.Goals as goal

pub returns-in-Ok-clause-ok : goal.returns-in-Ok-clause-ok
returns-in-Ok-clause-ok c =
    let done = rw c.as_slice.ensures.value at c.in-Ok.ensures.ok in
    let ends : is_parameter c.args.byte ≡ false = grind (arith, nat_tests, c.if-contains.ensures) in
    record {
      rows = done.rows;
      cols = done.cols;
      shown = λ t s.
          subst (ShowsTerminal c.act.new.self) (sym (ended _ _ c.args.byte _ t s.reading ends))
          (done.shown (record t { reading = terminal.Text }) (record { cell = s.cell; row = s.row; col = s.col; waits = s.waits; last = s.last; rendition = s.rendition; reading = sym c.requires }));
    }

pub returns-then-contains-clause-ok : goal.returns-then-contains-clause-ok
returns-then-contains-clause-ok c =
    let more : is_parameter c.args.byte ≡ true = grind (arith, nat_tests, c.if-contains.ensures) in
    rw (← c.self.view_is) (record {
      rows = refl;
      cols = refl;
      shown = λ t s.
          subst (ShowsTerminal _) (sym (added _ _ c.args.byte c.args.parameters.items t s.reading more))
          (record { cell = s.cell; row = s.row; col = s.col; waits = s.waits; last = s.last; rendition = s.rendition; reading = ap terminal.Parameters (sym c.in_ok-pushed.ensures.items) });
    })
