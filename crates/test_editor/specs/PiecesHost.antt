-- A host whose preview is a list of texts.
use Rattle.std.specs.Prelude.{ℕ, true, false, List, [], map, refl}
use Rattle.std.proofs.lemmas.Bool.{true≢false}
use Rattle.tw_lineedit.specs.declared.Overrides.{Overrides}
use Rattle.tw_lineedit.specs.ElementView.{Text}
use Rattle.tw_lineedit.specs.HostRules.{HostRules, plain_text, plain_highlight, no_resolution}
use Rattle.tw_lineedit.specs.PlainAnswers.{IsPlainBut}

-- the lines of its history, and the texts of its preview
pub record Pieces : Type 0 where
  pub lines : List (List ℕ)
  pub pieces : List (List ℕ)

-- each text is an element of the preview, and all else is plain
abbrev pub pieces_rules : HostRules Pieces
pieces_rules = record {
  lines = λ v. v.lines;
  prompt = λ v text. plain_text text;
  preview = λ v line. map (λ piece. Text piece) v.pieces;
  highlight = λ v cut. plain_highlight cut;
  candidates = λ v cut. [];
  resolve = λ v event cut. no_resolution v cut;
}

-- the preview alone is an answer of its own
abbrev pub preview_override : Overrides
preview_override = record { render_prompt = false; render_preview = true; highlight_line = false; complete = false; resolve_action = false }

pub pieces_is_plain : IsPlainBut pieces_rules preview_override
pieces_is_plain = record {
  prompt = λ e v text. refl;
  preview = λ e v line. absurd (true≢false e);
  highlight = λ e v cut. refl;
  complete = λ e v cut. refl;
  resolve = λ e v event cut. refl;
}
