use Rattle.std.proofs.Common.{◌≡◌, ◌-◌, refl, sym, ap, ◌∙◌, arith, rules}
use Rattle.unicode_segmentation.proofs.CursorLemmas.{IsChunkOf-whole}
use Rattle.tw_line.specs.Clusters.{cluster_after}
use Rattle.tw_line.specs.Extremes.{iterate}
use Rattle.tw_line.proofs.ClusterLemmas.{StandsAt-next, cluster_after-end}
use Rattle.tw_line.proofs.ExtremesLemmas.{repeated_none, repeated_once, repeated_stays}
use Rattle.tw_line.proofs.clusters.clusters_after.Goals as goal

pub loop-round-init : goal.loop-round-init
loop-round-init c =
    let made = c.new-cursor.ensures in
    record {
      stands = record { on = made.on _ c.utf8.line refl c.requires; offset = made.offset; kind = made.is_extended; done = made.fresh.0; awaits = made.fresh.1 };
      boundary = c.requires;
      rest = let all : c.args.count - 0 ≡ c.args.count = omega arith in ap (λ n. iterate (cluster_after c.args.line.now) n c.args.at) all;
    }

pub loop-round-preserved : goal.loop-round-preserved
loop-round-preserved c =
    let inv = c.loop-round.invariant in
    let whole = IsChunkOf-whole _ c.utf8.line in
    let on = c.in-Ok-Some.ensures.on _ inv.stands.on whole in
    let found = rw c.in-Ok-Some.field-0-is at (c.in-Ok-Some.ensures.found _ inv.stands.on whole) in
    record {
      stands = record { on = on; offset = found.moved; kind = c.in-Ok-Some.ensures.kind.is_extended ∙ inv.stands.kind; done = found.done; awaits = rw c.in-Ok-Some.field-0-is at c.in-Ok-Some.ensures.settled };
      boundary = rw found.moved at on.boundary;
      rest = repeated_once _ c.args.count c.loop-round._round c.loop-round.end _ c.loop-round-test.true (sym (StandsAt-next _ _ _ _ _ inv.stands on found)) ∙ inv.rest;
    }

pub returns-in-Ok-None-clause-value : goal.returns-in-Ok-None-clause-value
returns-in-Ok-None-clause-value c =
    let inv = c.loop-round.invariant in
    let last = c.next_boundary.ensures.end.0 (rw c.in-Ok-None.field-0-is at c.in-Ok-None.is) in
    sym (repeated_stays _ (c.args.count - c.loop-round._round) c.loop-round.end (cluster_after-end _ _ (sym inv.stands.offset ∙ last ∙ inv.stands.on.len))) ∙ inv.rest

pub unreachable-requires : goal.unreachable-requires
unreachable-requires c =
    let inv = c.loop-round.invariant in
    let ok = c.next_boundary.ensures.whole _ inv.stands.on (IsChunkOf-whole _ c.utf8.line) refl refl inv.stands.awaits in
    search (rules, arith)

pub returns-clause-value : goal.returns-clause-value
returns-clause-value c = sym (repeated_none _ _ c.loop-round.end (omega arith)) ∙ c.loop-round.invariant.rest
