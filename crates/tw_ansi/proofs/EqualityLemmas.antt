-- `==` of tokens and of what an encoder knows.
use Rattle.std.proofs.Common.{◌≡◌, ◌↔◌, ◌∙◌, IsTrue, ap, refl, subst, rules}
use Rattle.std.proofs.lemmas.Bool.{and_from, and_parts, eq-eqb, eqb-true, false≢true}
use Rattle.tw_input.proofs.EqualityLemmas.{key_events_equal}
use Rattle.tw_surface.proofs.EqualityLemmas.{attributes_equal, beq-is, is-beq}
use Rattle.tw_ansi.specs.declared.encode.Encoder.{Encoder}
use Rattle.tw_ansi.specs.declared.token.Scanned.{Scanned}
use Rattle.tw_ansi.specs.declared.token.Token.{Token}
use Rattle.tw_ansi.specs.declared.token.Token.TheVariants.{Key, Size, Paste, Unknown}
use Rattle.tw_ansi.specs.contracts.encode.EncoderPartialEq.TheImpl.{ghosts as encoders}
use Rattle.tw_ansi.specs.contracts.token.ScannedPartialEq.TheImpl.{ghosts as scanned}
use Rattle.tw_ansi.specs.contracts.token.TokenPartialEq.TheImpl.{ghosts as tokens}

equal-tokens : (a b : Token) → IsTrue (tokens.eq a b) → a ≡ b
equal-tokens (Key x) (Key y) h = ap Key ((key_events_equal x y).0 h)
equal-tokens (Size cols rows) (Size v h) e = search rules
equal-tokens (Paste from len) (Paste to more) e = search rules
equal-tokens Unknown Unknown h = refl
equal-tokens _ _ h = absurd (false≢true h)

same-token : (a : Token) → IsTrue (tokens.eq a a)
same-token (Key x) = (key_events_equal x x).1 refl
same-token (Size cols rows) = search rules
same-token (Paste from len) = search rules
same-token Unknown = refl

pub tokens_equal : (a b : Token) → IsTrue (tokens.eq a b) ↔ (a ≡ b)
tokens_equal a b = (equal-tokens a b, λ e. subst (λ (x : Token). IsTrue (tokens.eq a x)) e (same-token a))

pub scanned_equal : (a b : Scanned) → IsTrue (scanned.eq a b) ↔ (a ≡ b)
scanned_equal a b = search (rules, tokens_equal)

same-encoder : (a b : Encoder) → a.cols ≡ b.cols → a.x ≡ b.x → a.parted ≡ b.parted → a.attributes ≡ b.attributes → a ≡ b
same-encoder a b e0 e1 e2 e3 =
    ap (λ v. record a { cols = v }) e0
    ∙ ap (λ v. record a { cols = b.cols; x = v }) e1
    ∙ ap (λ v. record a { cols = b.cols; x = b.x; parted = v }) e2
    ∙ ap (λ v. record a { cols = b.cols; x = b.x; parted = b.parted; attributes = v }) e3

pub encoders_equal : (a b : Encoder) → IsTrue (encoders.eq a b) ↔ (a ≡ b)
encoders_equal a b = (
  (λ h.
      let s0 = and_parts _ _ h in
      let s1 = and_parts _ _ s0.1 in
      let s2 = and_parts _ _ s1.1 in
      same-encoder a b (eqb-true _ _ s0.0) (eqb-true _ _ s1.0) (beq-is _ _ s2.0) ((attributes_equal _ _).0 s2.1)),
  (λ e.
      and_from _ _ (eq-eqb _ _ (ap (λ v. v.cols) e))
      (and_from _ _ (eq-eqb _ _ (ap (λ v. v.x) e))
      (and_from _ _ (is-beq _ _ (ap (λ v. v.parted) e))
      ((attributes_equal _ _).1 (ap (λ v. v.attributes) e))))),
)
