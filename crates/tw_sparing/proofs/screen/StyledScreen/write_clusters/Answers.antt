use Rattle.std.proofs.Common.{rules, ◌≡◌, true, [], ◌∷◌, ◌++◌, Result, Ok, Err, OnErr, append_assoc, ap, sym, ◌∙◌, subst}
use Rattle.unicode_segmentation.specs.Grapheme.{graphemes}
use Rattle.tw_ansi.specs.EcmaTexts.{is_sent_cluster}
use Rattle.tw_sparing.specs.StyledScreens.{AreDrawn, cluster_strokes}
use Rattle.tw_sparing.proofs.DrawnCells.{draws_more}
use Rattle.tw_sparing.proofs.TypedOn.{sent_both, strokes_both}
use Rattle.tw_sparing.proofs.screen.StyledScreen.write_clusters.Goals as goal

pub loop-cluster-preserved : goal.loop-cluster-preserved
loop-cluster-preserved c =
    let inv = c.loop-cluster.invariant in
    let done = inv.written.0 in
    let old = c.args.self.now in
    let cluster = c.in-Some.cluster.now in
    let same = c.play_cluster.ensures.same in
    record {
      utf8 = search rules;
      same = record { width = same.width ∙ inv.same.width; kept = same.kept ∙ inv.same.kept };
      written = (
        done ++ cluster ∷ [],
        inv.written.1 ∙ ap (λ l. done ++ l) c.in-Some.ensures.2 ∙ sym (append_assoc done (cluster ∷ []) (graphemes true c.in-Some.behind.now)),
        rw (strokes_both old.kept done (cluster ∷ []))
            (draws_more old c.loop-cluster.self c.play_cluster.new.self (cluster_strokes old.kept done) (cluster_strokes old.kept (cluster ∷ [])) inv.same.width inv.written.2
            (subst (λ k. AreDrawn c.loop-cluster.self (cluster_strokes k (cluster ∷ [])) c.play_cluster.new.self) inv.same.kept c.in_ok-play_cluster.ensures.shown)),
        sent_both old.width done cluster inv.written.3 (subst (λ n. is_sent_cluster n cluster ≡ true) inv.same.width c.in_ok-play_cluster.ensures.sent),
      );
    }

pub returns-in_err-play_cluster-clause-refused : goal.returns-in_err-play_cluster-clause-refused
returns-in_err-play_cluster-clause-refused c =
    let inv = c.loop-cluster.invariant in
    let kept = c.args.self.now.kept in
    let left = graphemes true c.loop-cluster.left.now in
    given c.from_residual.result (record {
      drawn = cluster_strokes kept inv.written.0;
      left = cluster_strokes kept left;
      parts = ap (cluster_strokes kept) inv.written.1 ∙ strokes_both kept inv.written.0 left;
      draws = λ s h. c.in_err-play_cluster.ensures.refused _ (inv.written.2 s h);
    })
  where
    given : {X E P : Type 0} (r : Result X E) → P → OnErr r P
    given (Ok x) p = tt
    given (Err e) p = p
