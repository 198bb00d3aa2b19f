-- The host of a script: one preview under every line, and the same candidates at every request.
use Rattle.std.specs.Prelude.{ℕ, true, false, List, [], ◌∷◌, ◌++◌, map, string_bytes, refl}
use Rattle.std.proofs.lemmas.Bool.{true≢false}
use Rattle.tw_lineedit.specs.declared.Overrides.{Overrides}
use Rattle.script_player.specs.declared.script_host.ScriptHost.{ScriptHost}
use Rattle.tw_lineedit.specs.CandidateView.{CandidateView, candidate_view}
use Rattle.tw_lineedit.specs.ElementView.{ElementView}
use Rattle.tw_lineedit.specs.HostRules.{HostRules, plain_text, plain_highlight, no_resolution}
use Rattle.tw_lineedit.specs.HistoryAdditions.{with_line}
use Rattle.tw_lineedit.specs.PlainAnswers.{IsPlainBut}

-- the lines of its history, the text of its preview, and its candidates
pub record Scripted : Type 0 where
  pub lines : List (List ℕ)
  pub preview : List ℕ
  pub candidates : List CandidateView

-- the value of a host, whose history has these lines
abbrev pub value_of : {L : Type 0} → (L → List (List ℕ)) → ScriptHost L → Scripted
value_of lines host = record {
  lines = lines host.history;
  preview = string_bytes host.preview;
  candidates = map candidate_view host.candidates.items;
}

-- a history, without a preview and without candidates
abbrev pub history_only : List (List ℕ) → Scripted
history_only lines = record { lines = lines; preview = []; candidates = [] }

-- the history with one more line, unless it is its last one
abbrev pub with_line_added : List ℕ → Scripted → Scripted
with_line_added line v = record v { lines = with_line v.lines line }

-- a text in the place of a part of the line
abbrev pub scripted_candidate : ℕ → ℕ → List ℕ → CandidateView
scripted_candidate start end text = record { start = start; end = end; text = text }

-- one more candidate, which is the last
abbrev pub with_last_candidate : CandidateView → Scripted → Scripted
with_last_candidate candidate v = record v { candidates = v.candidates ++ (candidate ∷ []) }

-- another preview
abbrev pub with_preview : List ℕ → Scripted → Scripted
with_preview text v = record v { preview = text }

-- the text as it is, and nothing where it is empty
abbrev pub preview_elements : List ℕ → List ElementView
preview_elements [] = []
preview_elements (x ∷ xs) = plain_text (x ∷ xs)

-- its own preview and candidates, and all else plain
abbrev pub script_rules : HostRules Scripted
script_rules = record {
  lines = λ v. v.lines;
  prompt = λ v text. plain_text text;
  preview = λ v line. preview_elements v.preview;
  highlight = λ v cut. plain_highlight cut;
  candidates = λ v cut. v.candidates;
  resolve = λ v event cut. no_resolution v cut;
}

-- the preview and the candidates are answers of its own
abbrev pub script_overrides : Overrides
script_overrides = record { render_prompt = false; render_preview = true; highlight_line = false; complete = true; resolve_action = false }

pub script_is_plain : IsPlainBut script_rules script_overrides
script_is_plain = record {
  prompt = λ e v text. refl;
  preview = λ e v line. absurd (true≢false e);
  highlight = λ e v cut. refl;
  complete = λ e v cut. absurd (true≢false e);
  resolve = λ e v event cut. refl;
}
