-- Indices of characters and their offsets.
use Rattle.std.proofs.Common.{◌≡◌, ℕ, zero, suc, ◌≤◌, true, List, [], ◌∷◌, ◌++◌, length, take, drop, slice_index, refl, sym, ap, ◌∙◌, arith, length-append}
use Rattle.std.proofs.lemmas.Bool.{and_from, and_parts}
use Rattle.std.proofs.lemmas.List.{take_all, take-append-drop}
use Rattle.std.proofs.Common.{length-take-le}
use Rattle.std.proofs.Math.Seq.{get_or-append_seam, take-append_seam}
use Rattle.std.proofs.lemmas.Str.{chars-append, encodes-chars, scalars-chars, encodes-append, chars-encodes, IsUtf8-take}
use Rattle.std.specs.Prelude.{encode_utf8_all}
use Rattle.std.specs.Str.{all_scalars, chars, IsUtf8, IsCharBoundary}
use Rattle.unicode_segmentation.specs.Segments.{chars_from}
use Rattle.unicode_segmentation.specs.Steps.{IsCharAt}
use Rattle.tw_line.specs.Indices.{index_of, offset_of}

-- the first characters are characters
pub scalars-take : (q : ℕ) (cs : List ℕ) → all_scalars cs ≡ true → all_scalars (take q cs) ≡ true
scalars-take zero cs h = refl
scalars-take (suc q) [] h = refl
scalars-take (suc q) (c ∷ cs) h = and_from _ _ (and_parts _ _ h).0 (scalars-take q cs (and_parts _ _ h).1)

module _ (text : List ℕ) (u : IsUtf8 text) where
  -- all characters stand before the end
  pub index_of-end : (at : ℕ) → at ≡ length text → index_of text at ≡ length (chars text)
  unfolding index_of
  index_of-end at e = ap (λ t. length (chars t)) (take_all at text (omega arith))

  -- the characters before a boundary, and those from it on
  chars_split : (at : ℕ) → IsCharBoundary text at → chars text ≡ chars (take at text) ++ chars_from text at
  chars_split at cut = ap chars (sym (take-append-drop at text)) ∙ chars-append (take at text) (drop at text) (IsUtf8-take text at u cut)

  -- a boundary has at most all characters before it
  pub index_of-le : (at : ℕ) → IsCharBoundary text at → index_of text at ≤ length (chars text)
  unfolding index_of
  index_of-le at cut = omega (arith, ap length (chars_split at cut), length-append (chars (take at text)) (chars_from text at))

  -- the character at the index of the offset at which it starts
  pub index_of-char : (i c j : ℕ) → IsCharAt text i c j → slice_index (chars text) (index_of text i) ≡ c
  unfolding index_of
  index_of-char i c j h =
      let whole : chars text ≡ chars (take i text) ++ (c ∷ chars_from text j) = chars_split i h.start_boundary ∙ ap (λ t. chars (take i text) ++ t) h.from in
      ap (λ t. slice_index t (length (chars (take i text)))) whole ∙ get_or-append_seam (chars (take i text)) c (chars_from text j) 0

  -- the offset of the index of a boundary is that boundary
  pub offset_of-index : (at : ℕ) → IsCharBoundary text at → offset_of text (index_of text at) ≡ at
  unfolding index_of offset_of
  offset_of-index at cut =
      let front = chars (take at text) in
      ap (λ t. length (encode_utf8_all (take (length front) t))) (chars_split at cut)
      ∙ ap (λ t. length (encode_utf8_all t)) (take-append_seam front (chars_from text at))
      ∙ ap length (encodes-chars (take at text) (IsUtf8-take text at u cut)) ∙ length-take-le at text cut.0

  -- the text before the character of an index
  pub front_is : (q : ℕ) → take (offset_of text q) text ≡ encode_utf8_all (take q (chars text))
  unfolding offset_of
  front_is q =
      let front = encode_utf8_all (take q (chars text)) in
      let whole : text ≡ front ++ encode_utf8_all (drop q (chars text)) =
      sym (encodes-chars text u) ∙ ap encode_utf8_all (sym (take-append-drop q (chars text))) ∙ encodes-append (take q (chars text)) _ in
      ap (take (length front)) whole ∙ take-append_seam front _

  -- no character starts past the end
  pub offset_of-le : (q : ℕ) → offset_of text q ≤ length text
  unfolding offset_of
  offset_of-le q =
      let front = encode_utf8_all (take q (chars text)) in
      let rest = encode_utf8_all (drop q (chars text)) in
      let whole : text ≡ front ++ rest =
      sym (encodes-chars text u) ∙ ap encode_utf8_all (sym (take-append-drop q (chars text))) ∙ encodes-append (take q (chars text)) _ in
      omega (arith, ap length whole, length-append front rest)

  -- the index of the offset of an index is that index
  pub index_of-offset : (q : ℕ) → q ≤ length (chars text) → index_of text (offset_of text q) ≡ q
  unfolding index_of
  index_of-offset q fits =
      ap (λ t. length (chars t)) (front_is q)
      ∙ ap length (chars-encodes (take q (chars text)) (scalars-take q (chars text) (scalars-chars text u)))
      ∙ length-take-le q (chars text) fits

  -- the offset of the number of characters is the length
  pub offset_of-whole : (q : ℕ) → q ≡ length (chars text) → offset_of text q ≡ length text
  unfolding offset_of
  offset_of-whole q e = ap (λ t. length (encode_utf8_all t)) (take_all q (chars text) (omega arith)) ∙ ap length (encodes-chars text u)
