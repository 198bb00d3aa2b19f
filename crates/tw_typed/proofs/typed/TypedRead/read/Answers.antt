use Rattle.std.proofs.Common.{ℕ, List, take, sym, ◌∙◌, subst}
use Rattle.std.specs.Io.KnownBytes.{IsAtEnd, Keeps}
use Rattle.tw_typed.specs.Typed.{Heard, by_piece, left_after, left_in, untaken}
use Rattle.tw_typed.proofs.TypedLemmas.{hands_out}
use Rattle.tw_typed.proofs.typed.TypedRead.read.Goals as goal

pub returns-clause-bytes : goal.returns-clause-bytes
returns-clause-bytes g c =
    let it = c.fill.new.self in
    let old = left_in g.R.Read.remaining c.args.self.now in
    let left = g.R.Read.remaining it.reader in
    let with_ready = λ (ready : List ℕ). left_after (by_piece (record { given = ready; sieve = it.sieve; lull = it.lull }) (untaken it)) left in
    let handed = take c.hand_out.result c.hand_out.new.buf in
    let rest : Heard = record { given = c.hand_out.new.ready.items; sieve = it.sieve; lull = it.lull } in
    let keeps = subst (λ ready. Keeps old (with_ready ready)) c.hand_out.ensures.moved c.fill.ensures.kept in (
      hands_out handed rest (untaken it) old left keeps,
      λ zero some. let empty = c.hand_out.ensures.none zero some in
          subst (λ ready. IsAtEnd (with_ready ready)) (empty ∙ sym (c.hand_out.ensures.empty empty)) (c.in_ok-fill.ensures.end empty),
    )
