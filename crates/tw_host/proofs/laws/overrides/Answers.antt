use Rattle.std.proofs.Common.{◌≡◌, Bool, true, false, refl, ap, subst, ◌∙◌}
use Rattle.std.proofs.lemmas.Bool.{and_parts, and_from, false≢true}
use mathlib.Core.Bool.{beq}
use Rattle.tw_host.specs.declared.host.Overrides.{Overrides}
use Rattle.tw_host.proofs.laws.overrides.Goals as goal

beq-is : (a b : Bool) → beq a b ≡ true → a ≡ b
beq-is true true h = refl
beq-is true false h = absurd (false≢true h)
beq-is false true h = absurd (false≢true h)
beq-is false false h = refl

is-beq : (a b : Bool) → a ≡ b → beq a b ≡ true
is-beq a b e = subst (λ (x : Bool). beq a x ≡ true) e (same a)
  where
    same : (a : Bool) → beq a a ≡ true
    same true = refl
    same false = refl

-- answers are equal where each of them is
joined : (a b : Overrides) → a.render_prompt ≡ b.render_prompt → a.render_preview ≡ b.render_preview → a.highlight_line ≡ b.highlight_line → a.complete ≡ b.complete → a.resolve_action ≡ b.resolve_action → a ≡ b
joined a b e0 e1 e2 e3 e4 =
    ap (λ x. record a { render_prompt = x }) e0
    ∙ ap (λ x. record a { render_prompt = b.render_prompt; render_preview = x }) e1
    ∙ ap (λ x. record a { render_prompt = b.render_prompt; render_preview = b.render_preview; highlight_line = x }) e2
    ∙ ap (λ x. record a { render_prompt = b.render_prompt; render_preview = b.render_preview; highlight_line = b.highlight_line; complete = x }) e3
    ∙ ap (λ x. record a { render_prompt = b.render_prompt; render_preview = b.render_preview; highlight_line = b.highlight_line; complete = b.complete; resolve_action = x }) e4

pub returns : goal.returns
returns c a b = (
  (λ h.
      let s0 = and_parts _ _ h in
      let s1 = and_parts _ _ s0.1 in
      let s2 = and_parts _ _ s1.1 in
      let s3 = and_parts _ _ s2.1 in
      joined a b (beq-is _ _ s0.0) (beq-is _ _ s1.0) (beq-is _ _ s2.0) (beq-is _ _ s3.0) (beq-is _ _ s3.1)),
  (λ e.
      and_from _ _ (is-beq _ _ (ap (λ x. x.render_prompt) e))
      (and_from _ _ (is-beq _ _ (ap (λ x. x.render_preview) e))
      (and_from _ _ (is-beq _ _ (ap (λ x. x.highlight_line) e))
      (and_from _ _ (is-beq _ _ (ap (λ x. x.complete) e)) (is-beq _ _ (ap (λ x. x.resolve_action) e)))))),
)
