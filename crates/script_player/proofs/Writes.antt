-- Known bytes that are written or read one part after another.
use Rattle.std.proofs.Common.{◌≡◌, ℕ, List, ◌++◌, Option, Some, None, sym, ap, ◌∙◌, append_assoc, length, take, drop, ◌-◌, take-append-drop, subst}
use Rattle.std.proofs.lemmas.List.{take_rest}
use Rattle.std.specs.Io.KnownBytes.{Appends}
use Rattle.script_player.specs.Written.{Extends, NamesBadLine, bad_line}
use Rattle.script_player.specs.declared.fault.RunFault.{RunFault}
use Rattle.script_player.specs.declared.fault.RunFault.TheVariants.{BadLine, Io, Memory}

pub appended_then : (a b c : Option (List ℕ)) (xs ys : List ℕ) → Appends a b xs → Appends b c ys → Appends a c (xs ++ ys)
appended_then None b c xs ys p q = tt
appended_then (Some x) None c xs ys p q = absurd p
appended_then (Some x) (Some y) None xs ys p q = absurd q
appended_then (Some x) (Some y) (Some z) xs ys p q = q ∙ ap (λ (l : List ℕ). l ++ ys) p ∙ append_assoc x xs ys

-- a part of what was left goes over to what is done
pub done_more : (all done rest : List ℕ) (n : ℕ) → all ≡ done ++ rest → all ≡ (done ++ take n rest) ++ take (length rest - n) (drop n rest)
done_more all done rest n e =
    e ∙ ap (λ l. done ++ l) (sym (take-append-drop n rest)) ∙ sym (append_assoc done (take n rest) (drop n rest))
    ∙ ap (λ l. (done ++ take n rest) ++ l) (sym (take_rest rest n))

pub extends_then : (a b c : Option (List ℕ)) → Extends a b → Extends b c → Extends a c
extends_then a b c (xs, p) (ys, q) = (xs ++ ys, appended_then a b c xs ys p q)

pub names_then : (a b c : Option (List ℕ)) (fault : RunFault) → Extends a b → NamesBadLine b c fault → NamesBadLine a c fault
names_then a b c (BadLine n) (xs, p) (some, ys, q) =
    (some, xs ++ ys, subst (Appends a c) (sym (append_assoc xs ys (bad_line n))) (appended_then a b c xs (ys ++ bad_line n) p q))
names_then a b c Io p q = tt
names_then a b c Memory p q = tt
