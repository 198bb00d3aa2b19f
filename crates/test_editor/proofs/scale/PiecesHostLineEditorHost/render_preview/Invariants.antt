-- The texts so far were copied.
use Rattle.std.proofs.Common.{◌≡◌, map, take, string_bytes}
use Rattle.tw_lineedit.specs.ElementView.{element_view, Text}
use Rattle.test_editor.proofs.scale.PiecesHostLineEditorHost.render_preview.Given as goal

abbrev pub invariant-loop-piece : goal.invariant-loop-piece
invariant-loop-piece l = map element_view l.elements.items ≡ map (λ piece. Text piece) (map string_bytes (take l.piece-index l.piece-items))
