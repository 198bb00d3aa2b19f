-- Which of a host's answers are the plain ones.
use Rattle.std.specs.Prelude.{ℕ, ◌≡◌, true, false, List, [], refl}
use Rattle.std.proofs.lemmas.Bool.{true≢false}
use Rattle.tw_host.specs.declared.host.Overrides.{Overrides}
use Rattle.tw_line.specs.Cut.{Cut}
use Rattle.tw_host.specs.HostRules.{HostRules, plain_text, plain_highlight, no_resolution, plain_rules}
use Rattle.tw_input.specs.EventView.{EventView}

-- no answer of its own
abbrev pub no_overrides : Overrides
no_overrides = record { render_prompt = false; render_preview = false; highlight_line = false; complete = false; resolve_action = false }

-- all answers of its own
abbrev pub all_overrides : Overrides
all_overrides = record { render_prompt = true; render_preview = true; highlight_line = true; complete = true; resolve_action = true }

-- what the host does not answer for itself is the plain answer
pub record IsPlainBut {V : Type 0} (rules : HostRules V) (overrides : Overrides) : Type 0 where
  pub prompt : overrides.render_prompt ≡ false → (v : V) (text : List ℕ) → rules.prompt v text ≡ plain_text text
  pub preview : overrides.render_preview ≡ false → (v : V) (line : List ℕ) → rules.preview v line ≡ []
  pub highlight : overrides.highlight_line ≡ false → (v : V) (cut : Cut) → rules.highlight v cut ≡ plain_highlight cut
  pub complete : overrides.complete ≡ false → (v : V) (cut : Cut) → rules.candidates v cut ≡ []
  pub resolve : overrides.resolve_action ≡ false → (v : V) (event : EventView) (cut : Cut) → rules.resolve v event cut ≡ no_resolution v cut

-- the plain host answers nothing for itself
pub plain_is_plain : {V : Type 0} (lines : V → List (List ℕ)) → IsPlainBut (plain_rules lines) no_overrides
plain_is_plain lines = record {
  prompt = λ e v text. refl;
  preview = λ e v line. refl;
  highlight = λ e v cut. refl;
  complete = λ e v cut. refl;
  resolve = λ e v event cut. refl;
}

-- a host that answers all for itself leaves nothing to be plain
pub no_plain_left : {V : Type 0} {rules : HostRules V} → IsPlainBut rules all_overrides
no_plain_left = record {
  prompt = λ e v text. absurd (true≢false e);
  preview = λ e v line. absurd (true≢false e);
  highlight = λ e v cut. absurd (true≢false e);
  complete = λ e v cut. absurd (true≢false e);
  resolve = λ e v event cut. absurd (true≢false e);
}
