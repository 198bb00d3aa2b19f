-- What is sent for two batches.
use Rattle.std.proofs.Common.{◌≡◌, [], ◌∷◌, ◌++◌, append_assoc, ap, ◌∙◌, sym, refl}
use Rattle.tw_surface.specs.ChangeView.{Batch}
use Rattle.tw_ansi.specs.declared.encode.Encoder.{Encoder}
use Rattle.tw_ansi.specs.Encoding.{terse_change, terse_batch}

pub both_next : (xs ys : Batch) (e : Encoder) → (terse_batch (xs ++ ys) e).next ≡ (terse_batch ys (terse_batch xs e).next).next
both_next [] ys e = refl
both_next (x ∷ xs) ys e = both_next xs ys (terse_change x e).next

pub both_bytes : (xs ys : Batch) (e : Encoder) → (terse_batch (xs ++ ys) e).bytes ≡ (terse_batch xs e).bytes ++ (terse_batch ys (terse_batch xs e).next).bytes
both_bytes [] ys e = refl
both_bytes (x ∷ xs) ys e =
    let d : Encoder = (terse_change x e).next in
    ap (λ bytes. (terse_change x e).bytes ++ bytes) (both_bytes xs ys (terse_change x e).next)
    ∙ sym (append_assoc (terse_change x e).bytes (terse_batch xs d).bytes (terse_batch ys (terse_batch xs d).next).bytes)
