-- Insertions that are repeated.
use Rattle.std.proofs.Common.{◌≡◌, ℕ, zero, suc, ◌+◌, ◌≤◌, List, [], ◌++◌, length, take, drop, refl, sym, ap, ◌∙◌, arith, append_assoc, take_at, drop_at, length-append, length-take-le}
use Rattle.std.specs.List.{insert_slice, repeat}
use Rattle.tw_line.specs.Cut.{Cut, cut_at}
use Rattle.tw_line.specs.Edits.{with_text}
use Rattle.tw_line.specs.Extremes.{iterate}
use Rattle.tw_line.proofs.EditLemmas.{length-insert_slice, with_text-nil}

-- a text inserted after one that was inserted
with_text-twice : (s t : List ℕ) (c : Cut) → c.cursor ≤ length c.line → with_text t (with_text s c) ≡ with_text (s ++ t) c
with_text-twice s t c within =
    let front = take c.cursor c.line in
    let back = drop c.cursor c.line in
    let at = c.cursor + length s in
    let width : length (front ++ s) ≡ at = omega (arith, length-append front s, length-take-le c.cursor c.line within) in
    let cursor : at + length t ≡ c.cursor + length (s ++ t) = omega (arith, length-append s t) in
    let line : insert_slice (insert_slice c.line c.cursor s) at t ≡ insert_slice c.line c.cursor (s ++ t) =
    ap (λ l. l ++ t ++ drop at (front ++ s ++ back)) (take_at (front ++ s) back at width) ∙ ap (λ l. front ++ s ++ t ++ l) (drop_at (front ++ s) back at width)
    ∙ ap (λ l. l ++ back) (append_assoc front s t) in
    ap (λ l. cut_at l (at + length t)) line ∙ ap (cut_at (insert_slice c.line c.cursor (s ++ t))) cursor

-- repeated insertions of a text insert it repeated
pub with_text-iterate : (s : List ℕ) (count : ℕ) (c : Cut) → c.cursor ≤ length c.line → iterate (with_text s) count c ≡ with_text (repeat count s) c
unfolding iterate
with_text-iterate s zero c within = sym (with_text-nil [] c refl)
with_text-iterate s (suc count) c within =
    let line = insert_slice c.line c.cursor s in
    let longer = length-insert_slice c.line s line c.cursor refl in
    with_text-iterate s count (with_text s c) (omega arith) ∙ with_text-twice s (repeat count s) c within
