-- The law of counted movements.
use Rattle.std.proofs.Common.{ℕ, zero, suc, ◌≤◌, length, sym, ap, ◌∙◌, arith}
use Rattle.std.specs.Str.{chars}
use Rattle.tw_line.specs.Extremes.{iterate}
use Rattle.tw_line.specs.Laws.{CountsAddUp}
use Rattle.tw_line.specs.Movements.{destination}
use Rattle.tw_line.specs.Words.{word_before, word_after}
use Rattle.tw_line.specs.Indices.{index_of, offset_of}
use Rattle.tw_line.specs.declared.movements.Movement.TheVariants as movement
use Rattle.tw_line.proofs.ExtremesLemmas.{iterate-add}
use Rattle.tw_line.proofs.WordLemmas.{word_after-le, word_before-le}
use Rattle.tw_line.proofs.IndexLemmas.{index_of-offset, index_of-le}

-- steps ahead over clusters
pub forward_char : CountsAddUp movement.ForwardChar
unfolding destination
forward_char c a b h = iterate-add _ a b c.cursor

-- steps back over clusters
pub backward_char : CountsAddUp movement.BackwardChar
unfolding destination
backward_char c a b h = iterate-add _ a b c.cursor

-- a step keeps a bound that one step keeps
iterate-le : (f : ℕ → ℕ) (bound : ℕ) → ((q : ℕ) → q ≤ bound → f q ≤ bound) → (n q : ℕ) → q ≤ bound → iterate f n q ≤ bound
unfolding iterate
iterate-le f bound keeps zero q low = low
iterate-le f bound keeps (suc n) q low = iterate-le f bound keeps n (f q) (keeps q low)

-- steps ahead over words
pub forward_word : CountsAddUp movement.ForwardWord
unfolding destination
forward_word c a b h =
    let cs = chars c.line in
    let start = index_of c.line c.cursor in
    let fits = iterate-le (word_after cs) (length cs) (word_after-le cs) a start (index_of-le c.line h.utf8 c.cursor h.boundary) in
    let back = index_of-offset c.line h.utf8 (iterate (word_after cs) a start) fits in
    ap (offset_of c.line) (iterate-add _ a b start ∙ ap (iterate (word_after cs) b) (sym back))

-- steps back over words
pub backward_word : CountsAddUp movement.BackwardWord
unfolding destination
backward_word c a b h =
    let cs = chars c.line in
    let start = index_of c.line c.cursor in
    let fits = iterate-le (word_before cs) (length cs) (λ q low. omega (arith, word_before-le cs q)) a start (index_of-le c.line h.utf8 c.cursor h.boundary) in
    let back = index_of-offset c.line h.utf8 (iterate (word_before cs) a start) fits in
    ap (offset_of c.line) (iterate-add _ a b start ∙ ap (iterate (word_before cs) b) (sym back))
