use Rattle.std.proofs.Common.{map, ◌<◌, length, rules}
use Rattle.std.proofs.lemmas.List.{length-map}
use Rattle.tw_host.specs.ElementView.{element_view}
use Rattle.tw_session.proofs.PaintingSteps.{draws-preview}
use Rattle.tw_session.proofs.painter.draw_preview.Goals as goal

pub returns : goal.returns
returns c =
    let some : 0 < length (map element_view c.args.elements.items) = search (rules, length-map) in
    draws-preview _ _ _ _ _ _ (map element_view c.args.elements.items) _ some
    c.default.ensures c.in_ok-next_row.ensures.ok c.in_ok-draw.ensures c.in_ok-draw-2.ensures c.draw_elements.ensures
