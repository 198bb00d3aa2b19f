-- A text cut after its first extended grapheme cluster.
use Rattle.std.proofs.Common.{◌≡◌, ℕ, ◌<◌, true, List, [], ◌∷◌, ◌++◌, map, length, get_or, take, drop, take_at, drop_at, append_assoc, refl, sym, ap, ap₂, subst, ◌∙◌, arith, ⊎_elim}
use Rattle.std.proofs.lemmas.Bool.{cases_Bool}
use Rattle.std.proofs.lemmas.Str.{chars-nil, encodes-chars, encodes-append, chars_from_encodes, IsUtf8-past_char, IsCharBoundary-at_seam}
use Rattle.std.specs.Prelude.{encode_utf8, encode_utf8_all, if◌then◌else◌}
use Rattle.std.specs.List.{concat}
use Rattle.std.specs.Str.{chars, IsUtf8}
use Rattle.unicode_segmentation.specs.Grapheme.{is_grapheme_break, graphemes}
use Rattle.unicode_segmentation.specs.Segments.{cut, prepend, segments}
use Rattle.unicode_segmentation.proofs.SegmentsLemmas.{AllPieces, segments_nonempty, concat-segments}
use Rattle.tw_surface.specs.Clusters.{IsFirstCluster}
use Rattle.tw_surface.proofs.ClusterSeams.{cut-from_boundary}

-- the first cluster of some characters after others, and the characters after it, which are cut as a text of their own
record FirstCut (before cs : List ℕ) : Type 0 where
  cluster : List ℕ
  rest : List ℕ
  whole : cs ≡ cluster ++ rest
  cuts : cut (is_grapheme_break true) before cs [] ≡ cluster ∷ cut (is_grapheme_break true) [] rest []

first_cut : (before : List ℕ) (c : ℕ) (cs : List ℕ) → FirstCut before (c ∷ cs)
unfolding cut is_grapheme_break
first_cut before c [] = record { cluster = c ∷ []; rest = []; whole = refl; cuts = refl }
first_cut before c (d ∷ ds) =
    ⊎_elim
    (λ breaks. record {
      cluster = c ∷ [];
      rest = d ∷ ds;
      whole = refl;
      cuts = rw breaks (ap (λ pieces. (c ∷ []) ∷ pieces) (cut-from_boundary (c ∷ before) d ds breaks));
    })
    (λ joins.
    let more = first_cut (c ∷ before) d ds in
    record {
      cluster = c ∷ more.cluster;
      rest = more.rest;
      whole = ap (λ t. c ∷ t) more.whole;
      cuts = ap₂ (λ b pieces. if b then (c ∷ []) ∷ pieces else prepend (c ∷ []) pieces) joins more.cuts;
    })
    (cases_Bool (is_grapheme_break true (c ∷ before) (d ∷ ds)))

IsUtf8-behind : (cs rest : List ℕ) → IsUtf8 (encode_utf8_all cs ++ rest) → IsUtf8 rest
IsUtf8-behind [] rest u = u
IsUtf8-behind (c ∷ cs) rest u = IsUtf8-behind cs rest (IsUtf8-past_char _ _ c u (append_assoc (encode_utf8 c) (encode_utf8_all cs) rest))

-- the clusters of a text are those of its characters
pub clusters_of : (text cs : List ℕ) → chars text ≡ cs → graphemes true text ≡ map encode_utf8_all (cut (is_grapheme_break true) [] cs [])
unfolding segments
clusters_of text cs e = ap (λ cs. map encode_utf8_all (cut (is_grapheme_break true) [] cs [])) e

no_cluster : (text : List ℕ) → chars text ≡ [] → graphemes true text ≡ []
unfolding cut
no_cluster text e = clusters_of text [] e

pub no_clusters : (text : List ℕ) → length text ≡ 0 → graphemes true text ≡ []
no_clusters [] e = no_cluster [] chars-nil
no_clusters (b ∷ bs) e = absurd (omega arith)

-- a text with a first cluster, whose others are those of the text after it
module _ (text : List ℕ) (u : IsUtf8 text) where
  by_characters : (p : List ℕ) (ps : List (List ℕ)) → graphemes true text ≡ p ∷ ps → (cs : List ℕ) → chars text ≡ cs → IsFirstCluster text (length p)
  by_characters p ps e [] none = let empty : 0 ≡ length (p ∷ ps) = ap length (sym (no_cluster text none) ∙ e) in absurd (omega arith)
  by_characters p ps e (c ∷ cs) some =
      let first = first_cut [] c cs in
      let behind = encode_utf8_all first.rest in
      let all : graphemes true text ≡ encode_utf8_all first.cluster ∷ map encode_utf8_all (cut (is_grapheme_break true) [] first.rest []) =
      clusters_of text (c ∷ cs) some ∙ ap (map encode_utf8_all) first.cuts in
      let is : encode_utf8_all first.cluster ≡ p = ap (λ pieces. get_or pieces 0 []) (sym all ∙ e) in
      let parts : text ≡ encode_utf8_all first.cluster ++ behind =
      sym (encodes-chars text u) ∙ ap encode_utf8_all (some ∙ first.whole) ∙ encodes-append first.cluster first.rest in
      let whole : text ≡ p ++ behind = parts ∙ ap (λ t. t ++ behind) is in
      let utf8 : IsUtf8 behind = IsUtf8-behind first.cluster behind (subst IsUtf8 parts u) in
      let from : drop (length p) text ≡ behind = ap (drop (length p)) whole ∙ drop_at p behind (length p) refl in
      let front : take (length p) text ≡ p = ap (take (length p)) whole ∙ take_at p behind (length p) refl in
      let others : map encode_utf8_all (cut (is_grapheme_break true) [] first.rest []) ≡ graphemes true behind =
      sym (clusters_of behind first.rest (sym (chars_from_encodes first.rest behind utf8 refl))) in
      record {
        some = (subst (AllPieces (λ piece. 0 < length piece)) e (segments_nonempty (is_grapheme_break true) text)).0;
        boundary = IsCharBoundary-at_seam text p behind whole utf8;
        first = all ∙ rw (is, front, from, others) refl;
      }

  -- a text that is not empty has one
  pub some_cluster : 0 < length text → graphemes true text ≡ [] → ⊥
  some_cluster some e =
      let empty : 0 ≡ length text = ap (λ pieces. length (concat pieces)) (sym e) ∙ ap length (concat-segments (is_grapheme_break true) text u) in
      absurd (omega arith)

  pub IsFirstCluster-from : (p : List ℕ) (ps : List (List ℕ)) → graphemes true text ≡ p ∷ ps → IsFirstCluster text (length p)
  IsFirstCluster-from p ps e = by_characters p ps e (chars text) refl
