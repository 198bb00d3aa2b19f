use Rattle.tw_session.specs.Painting.{search_text}
use Rattle.tw_session.proofs.PaintingSteps.{draws-search}
use Rattle.tw_session.proofs.painter.draw_below.Goals as goal

pub returns-in_ok-draw-in-Search : goal.returns-in_ok-draw-in-Search
returns-in_ok-draw-in-Search g c =
    rw c.in-Search.is
    (draws-search _ _ _ _ _ (search_text c.in-Search.direction c.in-Search.pattern.now) _
    c.default.ensures c.in_ok-text-in-Search.ensures c.in_ok-draw-in-Search.ensures c.draw-in-Search.ensures)
