-- The text so far, and that of the elements that are left, is the text of all.
use Rattle.std.proofs.Common.{◌≡◌, ◌++◌, drop, map, string_bytes}
use Rattle.tw_host.specs.ElementView.{element_view}
use Rattle.tw_host.specs.Faithful.{text_of_elements}
use Rattle.tw_prompt_host.proofs.rows.text_of.Given as goal

abbrev pub invariant-loop-element : goal.invariant-loop-element
invariant-loop-element l =
    string_bytes l.text ++ text_of_elements (map element_view (drop l.element-index l.elements)) ≡ text_of_elements (map element_view l.elements)
