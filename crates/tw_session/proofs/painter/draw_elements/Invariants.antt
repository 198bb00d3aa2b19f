use Rattle.std.proofs.Common.{◌≡◌, ◌++◌, map}
use Rattle.tw_host.specs.ElementView.{element_view, changes_of}
use Rattle.tw_session.specs.DrawSteps.{Drawn}
use Rattle.tw_session.proofs.painter.draw_elements.Given as goal

abbrev pub invariant-loop-element : goal.invariant-loop-element
invariant-loop-element l = record {
  drawn : Drawn (changes_of (map element_view l.yielded)) l.fn.drawing l.drawing;
  all : l.fn.elements.items ≡ l.yielded ++ l.element-iterator.rest.items;
}
