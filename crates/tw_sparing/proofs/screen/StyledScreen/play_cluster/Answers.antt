use Rattle.std.proofs.Common.{OnOk, ap, sym, ◌∙◌, subst}
use Rattle.tw_surface.specs.declared.measure.Piece.TheVariants.{Cr, Lf, CrLf}
use Rattle.tw_sparing.specs.StyledScreens.{AreDrawn}
use Rattle.tw_sparing.proofs.TypedOn.{ends_line, holds_on_ok, line_end_sent, piece_strokes}
use Rattle.tw_sparing.proofs.screen.StyledScreen.play_cluster.Goals as goal

pub returns-in-Cr-clause-shown : goal.returns-in-Cr-clause-shown
returns-in-Cr-clause-shown c =
    subst (λ strokes. OnOk c.play.result (AreDrawn c.args.self.now strokes c.play.new.self)) (piece_strokes c.args.self.now.kept c.args.cluster.now Cr (sym c.of_cluster.ensures ∙ c.in-Cr.is)) c.play.ensures.shown

pub returns-in-Cr-clause-sent : goal.returns-in-Cr-clause-sent
returns-in-Cr-clause-sent c = holds_on_ok c.play.result (line_end_sent c.args.self.now.width c.args.cluster.now (ap ends_line (sym c.of_cluster.ensures ∙ c.in-Cr.is)))

pub returns-in-Lf-clause-shown : goal.returns-in-Lf-clause-shown
returns-in-Lf-clause-shown c =
    subst (λ strokes. OnOk c.play-in-Lf.result (AreDrawn c.args.self.now strokes c.play-in-Lf.new.self)) (piece_strokes c.args.self.now.kept c.args.cluster.now Lf (sym c.of_cluster.ensures ∙ c.in-Lf.is)) c.play-in-Lf.ensures.shown

pub returns-in-Lf-clause-sent : goal.returns-in-Lf-clause-sent
returns-in-Lf-clause-sent c = holds_on_ok c.play-in-Lf.result (line_end_sent c.args.self.now.width c.args.cluster.now (ap ends_line (sym c.of_cluster.ensures ∙ c.in-Lf.is)))

pub returns-in-CrLf-clause-shown : goal.returns-in-CrLf-clause-shown
returns-in-CrLf-clause-shown c =
    subst (λ strokes. OnOk c.return_and_feed.result (AreDrawn c.args.self.now strokes c.return_and_feed.new.self)) (piece_strokes c.args.self.now.kept c.args.cluster.now CrLf (sym c.of_cluster.ensures ∙ c.in-CrLf.is)) c.return_and_feed.ensures.shown

pub returns-in-CrLf-clause-sent : goal.returns-in-CrLf-clause-sent
returns-in-CrLf-clause-sent c = holds_on_ok c.return_and_feed.result (line_end_sent c.args.self.now.width c.args.cluster.now (ap ends_line (sym c.of_cluster.ensures ∙ c.in-CrLf.is)))
