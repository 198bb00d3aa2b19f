-- The glyphs of a text are those before a line end, or another boundary of clusters, and those behind it.
use Rattle.std.proofs.Common.{◌≡◌, ℕ, zero, suc, ◌≤◌, Bool, true, false, not, leb, List, [], ◌∷◌, ◌++◌, map, unwrap_or, refl, sym, ap, ◌∙◌, arith, inl, inr, append-nil, if◌then◌else◌, encode_utf8_all, reverse, chars, IsUtf8, IsAscii}
use Rattle.std.specs.List.{list_all, flat_map}
use Rattle.std.proofs.lemmas.Bool.{and_parts, not-true, leb-true, cases_eq}
use Rattle.std.proofs.lemmas.Bool.Decides.{nat_tests}
use Rattle.std.proofs.lemmas.List.{map-append}
use Rattle.std.proofs.lemmas.Grind.{flat_map-append}
use Rattle.std.proofs.lemmas.Str.{IsUtf8-append, IsUtf8-from_ascii, chars-append, chars-IsAscii, encodes-IsAscii}
use Rattle.ucd_table.specs.Rows.{in_ranges}
use Rattle.ucd_table.proofs.Computing.{tables}
use Rattle.ucd_breaks.specs.GraphemeClusterBreak.{grapheme_cluster_break}
use Rattle.ucd_breaks.specs.declared.GraphemeClusterBreak.{GraphemeClusterBreak}
use Rattle.ucd_breaks.specs.declared.GraphemeClusterBreak.TheVariants as breaks
use Rattle.ucd_breaks.proofs.Computing.{ucd_breaks}
use Rattle.ucd_derived.specs.IndicConjunctBreak.{indic_conjunct_break}
use Rattle.unicode_segmentation.specs.Grapheme.{break_by_pair, ends_in_half_flag, is_grapheme_break}
use Rattle.unicode_segmentation.specs.Segments.{cut, prepend}
use Rattle.unicode_width.specs.Width.{str_width}
use Rattle.unicode_width.proofs.Rules.{str_width-printable}
use Rattle.tw_surface.specs.Characters.{is_plain, is_printable, cr, lf}
use Rattle.tw_surface.specs.Clusters.{is_linking, is_other, lone_ranges}
use Rattle.tw_surface.specs.Places.{cluster_piece}
use Rattle.tw_surface.proofs.ClusterCuts.{clusters_of}
use Rattle.tw_surface.proofs.ClusterSeams.{cut-from_boundary, ends_in_linker-not}
use Rattle.tw_surface.proofs.LoneCharacters.{alone_in_range}
use Rattle.tw_surface.proofs.OpeningLemmas.{other-is}
use Rattle.laws_screens.specs.Glyphs.{Glyph, glyphs_of_piece, glyphs}
use Rattle.laws_screens.specs.Glyphs.Glyph.{Cr, Lf}
use Rattle.laws_screens.proofs.PlainGlyphs.{glyph_of, all_glyphs, plain_glyphs}

-- ---- clusters on both sides of a boundary

-- a part in front of the first of some clusters
prepend-append : (part : List ℕ) (k : Bool) (c : ℕ) (rest far : List (List ℕ))
    → prepend part ((if k then (c ∷ []) ∷ rest else prepend (c ∷ []) rest) ++ far) ≡ prepend part (if k then (c ∷ []) ∷ rest else prepend (c ∷ []) rest) ++ far
prepend-append part true c rest far = refl
prepend-append part false c [] far = refl
prepend-append part false c (first ∷ rest) far = refl

-- characters, nearest first, before others
abbrev behind : List ℕ → List ℕ → List ℕ
behind [] before = before
behind (c ∷ cs) before = behind cs (c ∷ before)

-- where they are cut, those before and those behind are cut by themselves
cut-append : (before cs ds : List ℕ) → is_grapheme_break true (behind cs before) ds ≡ true
    → cut (is_grapheme_break true) before (cs ++ ds) [] ≡ cut (is_grapheme_break true) before cs [] ++ cut (is_grapheme_break true) [] ds []
unfolding cut is_grapheme_break
cut-append before cs [] breaks = ap (λ l. cut (is_grapheme_break true) before l []) (append-nil cs) ∙ sym (append-nil (cut (is_grapheme_break true) before cs []))
cut-append before [] (d ∷ ds) breaks = cut-from_boundary before d ds breaks
cut-append before (c ∷ []) (d ∷ ds) breaks = rw breaks (ap (λ l. (c ∷ []) ∷ l) (cut-from_boundary (c ∷ before) d ds breaks))
cut-append before (c ∷ e ∷ cs) (d ∷ ds) breaks =
    let near : List (List ℕ) = cut (is_grapheme_break true) (c ∷ before) (e ∷ cs) [] in
    let far : List (List ℕ) = cut (is_grapheme_break true) [] (d ∷ ds) [] in
    ap (λ l. if is_grapheme_break true (c ∷ before) (e ∷ []) then (c ∷ []) ∷ l else prepend (c ∷ []) l) (cut-append (c ∷ before) (e ∷ cs) (d ∷ ds) breaks)
    ∙ elim (is_grapheme_break true (c ∷ before) (e ∷ [])) as (λ (k : Bool). (if k then (c ∷ []) ∷ (near ++ far) else prepend (c ∷ []) (near ++ far)) ≡ (if k then (c ∷ []) ∷ near else prepend (c ∷ []) near) ++ far) [
      | true ↦ refl
      | false ↦ prepend-append (c ∷ []) (is_grapheme_break true (e ∷ c ∷ before) (cs ++ [])) e (cut (is_grapheme_break true) (e ∷ c ∷ before) cs []) far
    ]

-- the glyphs of some clusters, and those of the clusters of some characters
abbrev cluster_glyphs : List (List ℕ) → List Glyph
cluster_glyphs clusters = flat_map (λ cluster. glyphs_of_piece cluster (cluster_piece cluster)) clusters

abbrev char_glyphs : List ℕ → List Glyph
char_glyphs cs = cluster_glyphs (map encode_utf8_all (cut (is_grapheme_break true) [] cs []))

glyphs-append : (cs ds : List ℕ) → is_grapheme_break true (behind cs []) ds ≡ true → char_glyphs (cs ++ ds) ≡ char_glyphs cs ++ char_glyphs ds
glyphs-append cs ds breaks =
    let rule = is_grapheme_break true in
    ap (λ l. cluster_glyphs (map encode_utf8_all l)) (cut-append [] cs ds breaks) ∙ ap cluster_glyphs (map-append encode_utf8_all (cut rule [] cs []) (cut rule [] ds []))
    ∙ flat_map-append _ (map encode_utf8_all (cut rule [] cs [])) (map encode_utf8_all (cut rule [] ds []))

-- ---- boundaries at a line end

cr_class : grapheme_cluster_break 13 ≡ breaks.Cr
unfolding grapheme_cluster_break ucd_breaks tables
cr_class = refl

lf_class : grapheme_cluster_break 10 ≡ breaks.Lf
unfolding grapheme_cluster_break ucd_breaks tables
lf_class = refl

before_cr : (g : GraphemeClusterBreak) (rest : Bool) → unwrap_or (break_by_pair true g breaks.Cr) rest ≡ true
before_cr breaks.Control rest = refl
before_cr breaks.Cr rest = refl
before_cr breaks.Lf rest = refl
before_cr _ rest = refl

cr_begins : (before after : List ℕ) → is_grapheme_break true before (13 ∷ after) ≡ true
unfolding is_grapheme_break
cr_begins [] after = refl
cr_begins (last ∷ before) after = rw cr_class (before_cr (grapheme_cluster_break last) _)

lf_ends : (before after : List ℕ) → is_grapheme_break true (10 ∷ before) after ≡ true
unfolding is_grapheme_break
lf_ends before [] = refl
lf_ends before (next ∷ after) = rw lf_class refl

-- ---- plain texts are cut into their characters, but for CR LF

-- a plain character is CR, LF or printable
data IsKind (c : ℕ) : Type 0 where
  Returns : c ≡ 13 → IsKind c
  Feeds : c ≡ 10 → IsKind c
  Prints : is_printable c ≡ true → IsKind c

kind_of : (c : ℕ) → is_plain c ≡ true → IsKind c
kind_of c h = elim (cases_eq c 13) [
  | inl e ↦ Returns e
  | inr n ↦ elim (cases_eq c 10) [ inl e ↦ Feeds e | inr m ↦ Prints (grind (arith, nat_tests)) ]
]

bounds : (c : ℕ) → is_printable c ≡ true → (32 ≤ c) × (c ≤ 126)
bounds c h = let parts = and_parts (leb 32 c) (leb c 126) h in (leb-true 32 c parts.0, leb-true c 126 parts.1)

plain_ascii : (text : List ℕ) → list_all is_plain text ≡ true → IsAscii text
plain_ascii [] h i = omega arith
plain_ascii (c ∷ text) h zero = let this = (and_parts (is_plain c) (list_all is_plain text) h).0 in grind (arith, nat_tests)
plain_ascii (c ∷ text) h (suc i) = plain_ascii text (and_parts (is_plain c) (list_all is_plain text) h).1 i

pub plain_utf8 : (text : List ℕ) → list_all is_plain text ≡ true → IsUtf8 text
plain_utf8 text h = IsUtf8-from_ascii text (plain_ascii text h)

plain_bytes : (text : List ℕ) → list_all is_plain text ≡ true → encode_utf8_all text ≡ text
plain_bytes text h = encodes-IsAscii text (plain_ascii text h)

pub line_end_utf8 : IsUtf8 (cr ∷ lf ∷ [])
line_end_utf8 = plain_utf8 (13 ∷ 10 ∷ []) refl

printable_alone : (c : ℕ) → is_printable c ≡ true → (grapheme_cluster_break c ≡ breaks.Other) × (is_linking (indic_conjunct_break c) ≡ false)
unfolding in_ranges
printable_alone c h =
    let bound = bounds c h in
    let inside : in_ranges lone_ranges c ≡ true = grind (arith, nat_tests) in
    let alone = and_parts (is_other (grapheme_cluster_break c)) (not (is_linking (indic_conjunct_break c))) (alone_in_range c inside) in
    (other-is (grapheme_cluster_break c) alone.0, not-true _ alone.1)

plain_breaks : (c d : ℕ) (before after : List ℕ) → IsKind c → IsKind d → (c ≡ 13 → d ≡ 10 → ⊥) → is_grapheme_break true (c ∷ before) (d ∷ after) ≡ true
unfolding is_grapheme_break ends_in_half_flag
plain_breaks c d before after first (Returns e) apart = rw e (cr_begins (c ∷ before) after)
plain_breaks c d before after (Feeds e) second apart = rw e (lf_ends before (d ∷ after))
plain_breaks c d before after (Returns e) (Feeds f) apart = absurd (apart e f)
plain_breaks c d before after (Returns e) (Prints k) apart = rw (e, (printable_alone d k).0, cr_class) refl
plain_breaks c d before after (Prints h) (Feeds f) apart = rw (f, (printable_alone c h).0, lf_class) refl
plain_breaks c d before after (Prints h) (Prints k) apart =
    let first = printable_alone c h in
    rw (ends_in_linker-not (indic_conjunct_break c) (map indic_conjunct_break before) first.1, first.0, (printable_alone d k).0) refl

plain_glyph : (c : ℕ) → is_plain c ≡ true → char_glyphs (c ∷ []) ≡ glyph_of c ∷ []
unfolding cut is_grapheme_break
plain_glyph c h =
    let one = chars-IsAscii (c ∷ []) (plain_ascii (c ∷ []) (rw h refl)) in
    ap (λ b. cluster_glyphs (b ∷ [])) (plain_bytes (c ∷ []) (rw h refl)) ∙ by (kind_of c h) one
  where
    by : IsKind c → chars (c ∷ []) ≡ c ∷ [] → cluster_glyphs ((c ∷ []) ∷ []) ≡ glyph_of c ∷ []
    by (Returns e) is = rw e refl
    by (Feeds e) is = rw e refl
    by (Prints p) is = grind (arith, nat_tests, p, ap (str_width false) is ∙ str_width-printable false (c ∷ []) (rw p refl))

line_end_glyphs : char_glyphs (13 ∷ 10 ∷ []) ≡ Cr ∷ Lf ∷ []
unfolding cut is_grapheme_break
line_end_glyphs = rw (cr_class, lf_class) (ap (λ b. cluster_glyphs (b ∷ [])) (plain_bytes (13 ∷ 10 ∷ []) refl))

plain_cut : (cs : List ℕ) → list_all is_plain cs ≡ true → char_glyphs cs ≡ map glyph_of cs
unfolding cut
plain_cut [] h = refl
plain_cut (c ∷ []) h = plain_glyph c (and_parts (is_plain c) true h).0
plain_cut (c ∷ d ∷ cs) h =
    let parts = and_parts (is_plain c) (list_all is_plain (d ∷ cs)) h in
    let more = and_parts (is_plain d) (list_all is_plain cs) parts.1 in
    elim (cases_eq c 13) [
      | inl e ↦ elim (cases_eq d 10) [
        | inl f ↦ rw (e, f) (glyphs-append (13 ∷ 10 ∷ []) cs (lf_ends (13 ∷ []) cs) ∙ ap (λ l. l ++ char_glyphs cs) line_end_glyphs ∙ ap (λ l. Cr ∷ Lf ∷ l) (plain_cut cs more.1))
        | inr n ↦ apart parts.0 more.0 (λ e f. n f) (plain_cut (d ∷ cs) parts.1)
      ]
      | inr n ↦ apart parts.0 more.0 (λ e f. n e) (plain_cut (d ∷ cs) parts.1)
    ]
  where
    apart : is_plain c ≡ true → is_plain d ≡ true → (c ≡ 13 → d ≡ 10 → ⊥) → char_glyphs (d ∷ cs) ≡ map glyph_of (d ∷ cs) → char_glyphs (c ∷ d ∷ cs) ≡ map glyph_of (c ∷ d ∷ cs)
    apart p q other more = cc (glyphs-append (c ∷ []) (d ∷ cs) (plain_breaks c d [] cs (kind_of c p) (kind_of d q) other), plain_glyph c p, more)

-- ---- texts

-- a text has the glyphs of its clusters, whether it is plain or not
by_clusters : (text : List ℕ) → glyphs text ≡ char_glyphs (chars text)
unfolding glyphs
by_clusters text = grind (arith, nat_tests, all_glyphs text, plain_cut text, clusters_of text (chars text) refl, chars-IsAscii text, plain_ascii text)

-- at each boundary of clusters a text has the glyphs of what is before it and of what is behind it
pub glyphs_at_boundary : (x y : List ℕ) → IsUtf8 x → IsUtf8 y → IsUtf8 (x ++ y) → is_grapheme_break true (reverse (chars x)) (chars y) ≡ true → glyphs (x ++ y) ≡ glyphs x ++ glyphs y
glyphs_at_boundary x y u v whole breaks =
    cc (by_clusters (x ++ y), chars-append x y u, glyphs-append (chars x) (chars y) breaks, by_clusters x, by_clusters y)

-- and so it has around a line end
pub glyphs_around : (x y : List ℕ) → IsUtf8 x → IsUtf8 y → IsUtf8 (x ++ cr ∷ lf ∷ y) → glyphs (x ++ cr ∷ lf ∷ y) ≡ glyphs x ++ Cr ∷ Lf ∷ glyphs y
glyphs_around x y u v whole =
    let end : List ℕ = cr ∷ lf ∷ [] in
    let is : chars end ≡ end = chars-IsAscii end (plain_ascii end refl) in
    let below : IsUtf8 (end ++ y) = IsUtf8-append end y line_end_utf8 v in
    let begins = ap (is_grapheme_break true (reverse (chars x))) (chars-append end y line_end_utf8 ∙ ap (λ l. l ++ chars y) is) ∙ cr_begins (reverse (chars x)) (10 ∷ chars y) in
    let ends = ap (λ l. is_grapheme_break true (reverse l) (chars y)) is ∙ lf_ends (13 ∷ []) (chars y) in
    glyphs_at_boundary x (end ++ y) u below whole begins
    ∙ ap (λ l. glyphs x ++ l) (glyphs_at_boundary end y line_end_utf8 v below ends ∙ ap (λ l. l ++ glyphs y) (plain_glyphs end refl))
