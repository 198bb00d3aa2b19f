use Rattle.std.proofs.Common.{sym, subst, refl, get_or, take, drop, suc, arith}
use Rattle.std.proofs.lemmas.Result.{err_from_is_err_and}
use Rattle.std.proofs.Math.Seq.{split_at}
use Rattle.ecma_terminal.specs.Terminals.{IsRefusedFor}
use Rattle.ecma_terminal.proofs.TerminalSteps.{HasReceived, received_none, received_more, received_all}
use Rattle.ecma_terminal.proofs.terminal.EcmaTerminal.receive_all.Goals as goal

pub loop-byte-init : goal.loop-byte-init
loop-byte-init c = received_none c.args.self.now c.args.bytes.now

pub loop-byte-preserved : goal.loop-byte-preserved
loop-byte-preserved c =
    received_more c.args.self.now c.loop-byte.self c.receive.new.self c.args.bytes.now c.loop-byte.byte-index _ (omega arith) refl c.loop-byte.invariant c.in_ok-receive.ensures.ok

pub returns-in_err-receive-clause-err : goal.returns-in_err-receive-clause-err
returns-in_err-receive-clause-err c =
    let bytes = c.args.bytes.now in
    let i = c.loop-byte.byte-index in
    let told = c.in_err-receive.ensures in
    let p = err_from_is_err_and c.from_residual.result c.from_residual.ensures.1 in
    rw (p.1, p.2) (record {
      received = take i bytes;
      refused = get_or bytes i 0;
      left = drop (suc i) bytes;
      parts = split_at bytes i 0 (omega arith);
      becomes = subst (HasReceived c.args.self.now bytes i) (sym told.err) c.loop-byte.invariant;
      cause = subst (λ view. IsRefusedFor c.in_err-receive.field-0.0 view (get_or bytes i 0)) (sym told.err) told.cause;
    })

pub returns-clause-ok : goal.returns-clause-ok
returns-clause-ok c = received_all c.args.self.now c.loop-byte.self c.args.bytes.now c.loop-byte.byte-index (omega arith) c.loop-byte.invariant
