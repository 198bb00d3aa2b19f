use Rattle.std.proofs.Common.{◌∙◌, sym, subst, rules}
use Rattle.std.proofs.lemmas.Str.{IsUtf8-string_bytes}
use Rattle.std.specs.Str.{IsCharBoundary, IsUtf8}
use Rattle.tw_line.proofs.BoundaryLemmas.{IsCharBoundary-insert}
use Rattle.tw_line.proofs.buffer.LineEditBuffer.insert_char.Goals as goal

pub cluster_after-end-requires : goal.cluster_after-end-requires
cluster_after-end-requires c =
    let now = c.as_str.ensures ∙ c.in_ok-insert_char.ensures.ok in
    subst (λ s. IsCharBoundary s c.self.inside.cursor) (sym now)
    (IsCharBoundary-insert _ _ _ (IsUtf8-string_bytes c.self.inside.line.line) c.self.invariant (subst IsUtf8 now c.as_str.utf8))

pub returns-clause-ok : goal.returns-clause-ok
returns-clause-ok c = search rules
