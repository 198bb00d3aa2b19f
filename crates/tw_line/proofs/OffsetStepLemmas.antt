-- Steps over characters, taken by offsets.
use Rattle.std.proofs.Common.{◌≡◌, ℕ, zero, suc, ◌≤◌, List, length, refl, sym, ap, ◌∙◌}
use Rattle.std.specs.Str.{chars, IsUtf8, IsCharBoundary}
use Rattle.tw_line.specs.Extremes.{iterate}
use Rattle.tw_line.specs.Indices.{index_of, offset_of}
use Rattle.tw_line.specs.OffsetSteps.{by_offset}
use Rattle.tw_line.proofs.IndexLemmas.{index_of-le, index_of-offset, offset_of-index}

module _ (text : List ℕ) (u : IsUtf8 text) (step : ℕ → ℕ) (keeps : (q : ℕ) → q ≤ length (chars text) → step q ≤ length (chars text)) where
  -- the steps from the offset of an index
  iterate-by_offset : (r q : ℕ) → q ≤ length (chars text) → iterate (by_offset step text) r (offset_of text q) ≡ offset_of text (iterate step r q)
  unfolding iterate
  iterate-by_offset zero q low = refl
  iterate-by_offset (suc r) q low =
      ap (λ n. iterate (by_offset step text) r (offset_of text (step n))) (index_of-offset text u q low) ∙ iterate-by_offset r (step q) (keeps q low)

  -- the steps from a boundary, of which the index is known
  pub iterate-from : (r start q : ℕ) → IsCharBoundary text start → index_of text start ≡ q
      → iterate (by_offset step text) r start ≡ offset_of text (iterate step r q)
  iterate-from r start q cut e =
      ap (iterate (by_offset step text) r) (sym (offset_of-index text u start cut)) ∙ iterate-by_offset r (index_of text start) (index_of-le text u start cut)
      ∙ ap (λ n. offset_of text (iterate step r n)) e
