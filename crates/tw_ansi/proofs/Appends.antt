-- Texts that grow.
use Rattle.std.proofs.Common.{◌≡◌, ◌≤◌, ℕ, List, length, take, ap, sym, subst, arith, ◌∙◌, refl}
use Rattle.std.specs.Str.{IsUtf8, IsCharBoundary}
use Rattle.std.proofs.lemmas.Str.{IsCharBoundary-from_take}
use Rattle.std.proofs.lemmas.List.{length-append, take_at}
use Rattle.tw_ansi.specs.Encoding.{ExtendsBytes}

-- a text that grew can be cut where it ended
pub old_end : (old new : List ℕ) → IsUtf8 old → IsUtf8 new → ExtendsBytes old new → IsCharBoundary new (length old)
old_end old new u v (more, e) =
    let longer : length old ≤ length new = omega (arith, ap length e ∙ length-append old more) in
    let same : take (length old) new ≡ old = ap (λ bytes. take (length old) bytes) e ∙ take_at old more (length old) refl in
    IsCharBoundary-from_take new (length old) v longer (subst IsUtf8 (sym same) u)
