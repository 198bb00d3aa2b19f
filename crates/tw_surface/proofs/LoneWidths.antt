-- The columns of characters that are a cluster each in a row of them.
use Rattle.std.proofs.Common.{◌≡◌, if◌then◌else◌, append_assoc, Option, Some, None, IfSome, ℕ, ◌<◌, ◌≤◌, Bool, true, false, not, ◌&&◌, ◌||◌, ◌-◌, eqb, leb, nat_lt, List, [], ◌∷◌, ◌++◌, length, length-append, get_or, take, take_at, drop, drop_at, refl, sym, ap, ap₂, subst, ◌∙◌, arith, append-nil, add-zero, ⊎_elim, ◌+◌}
use Rattle.std.proofs.lemmas.Bool.{false≢true, or_cases, and_from, and_parts, eqb-true, leb-true, cases_Bool, cases_lt, cases_eq}
use Rattle.std.proofs.lemmas.Bool.Decides.{nat_tests}
use Rattle.std.proofs.lemmas.Str.{chars_from_encodes, IsCharBoundary-at_seam, IsUtf8-past_char, IsUtf8-take}
use Rattle.std.specs.Char.{encode_utf8}
use Rattle.std.specs.Prelude.{encode_utf8_all}
use Rattle.std.specs.Str.{chars, IsUtf8}
use Rattle.std.specs.List.{list_all}
use Rattle.ucd_table.specs.Rows.{Range, in_ranges}
use Rattle.ucd_table.proofs.Computing.{tables}
use Rattle.ucd_table.proofs.Stepped.{of_ranges, zip_stepped, Stepped}
use Rattle.ucd_breaks.specs.GraphemeClusterBreak.{grapheme_cluster_break}
use Rattle.ucd_breaks.proofs.Computing.{ucd_breaks}
use Rattle.ucd_breaks.proofs.GraphemeClusterBreakLemmas.{grapheme_cluster_break_stepped}
use Rattle.ucd_derived.specs.IndicConjunctBreak.{indic_conjunct_break}
use Rattle.ucd_derived.proofs.Computing.{ucd_derived}
use Rattle.ucd_derived.proofs.IndicConjunctBreakLemmas.{indic_conjunct_break_stepped}
use Rattle.ucd_breaks.specs.declared.GraphemeClusterBreak.{GraphemeClusterBreak}
use Rattle.ucd_breaks.specs.declared.GraphemeClusterBreak.TheVariants.{Extend}
use Rattle.ucd_derived.specs.declared.IndicConjunctBreak.{IndicConjunctBreak}
use Rattle.ucd_derived.specs.declared.IndicConjunctBreak.TheVariants as conjuncts
use Rattle.ucd_emoji.proofs.BinaryLemmas.{is_emoji_variation_base_stepped}
use Rattle.ucd_emoji.proofs.Computing.{ucd_emoji}
use Rattle.unicode_segmentation.specs.Grapheme.{graphemes, is_consonant, is_extend}
use Rattle.unicode_width.specs.declared.kind.Kind.{Kind}
use Rattle.unicode_width.specs.declared.kind.Kind.TheVariants as kinds
use Rattle.unicode_width.specs.Kind.{kind, kind_from_number, kind_number, number_of_kind}
use Rattle.unicode_width.specs.declared.state.After.TheVariants.{Emoji, KhmerLetter}
use Rattle.unicode_width.specs.Width.{before, char_width, is_emoji_modifier_base, is_emoji_variation_base, plain, of_kind, alone, in_context, joins, past_emoji, past_selectors, read_before, step, str_width, Reading}
use Rattle.unicode_width.proofs.Computing.{unicode_width}
use Rattle.unicode_width.proofs.KindLemmas.{kind_from_number-kind_number, kind_stepped}
use Rattle.unicode_width.proofs.Rules.{is_simple, is_simple_kind, str_width-append_simple, str_width-printable}
use Rattle.tw_surface.specs.Clusters.{conjunct_blocks, khmer_subscripts, is_joined, is_linker, is_other, mark_blocks, ends_syllable, stands_alone, skin_tones, syllables, IsFirstCluster, flag_letters, lone_columns, lone_len, narrow_blocks, picture_blocks, wide_blocks}
use Rattle.tw_surface.specs.Width.{cluster_width}
use Rattle.tw_surface.specs.Openings.{AddsColumns, IsFront, IsWithAdded}
use Rattle.tw_surface.specs.Places.{cluster_piece, IsWideSplit}
use Rattle.tw_surface.specs.declared.measure.Piece.TheVariants.{Wide}
use Rattle.tw_surface.proofs.OpeningLemmas.{first_opened, first_syllable, is_mark_break, is_plain_mark, joined, one, open_conjunct, open_flag, open_mark, other-is, picture_parts, selector_is_mark, settled_alone, IsConjunct}
use Rattle.tw_surface.proofs.TableFacts.{throughout}
use Rattle.tw_surface.proofs.LoneCharacters.{lead_high, two_bytes, three_bytes, alone_by_byte, alone_in_block, get_or-front, high_by_byte, lone_len-few, some_bytes, BeginsLone, BeginsLone-from, IsLone, no_columns, only_character, picture_in_block}

is_narrow : Kind → Bool
is_narrow kinds.Narrow = true
is_narrow kinds.Ambiguous = true
is_narrow kinds.Alef = true
is_narrow _ = false

is_wide : Kind → Bool
is_wide kinds.Wide = true
is_wide kinds.Emoji = true
is_wide _ = false

narrow_kinds : (c : ℕ) → in_ranges two_bytes c ≡ true → is_narrow (kind c) ≡ true
unfolding is_narrow tables kind_stepped
narrow_kinds = throughout is_narrow kind kind_stepped two_bytes refl refl

wide_kinds : (c : ℕ) → in_ranges three_bytes c ≡ true → is_wide (kind c) ≡ true
unfolding is_wide tables kind_stepped
wide_kinds = throughout is_wide kind kind_stepped three_bytes refl refl

-- the Hebrew letter that a joiner may stand behind
lamed : List Range
lamed = (0x05DC, 0x05DC) ∷ []

narrow_block_kinds : (c : ℕ) → in_ranges narrow_blocks c ≡ true → (is_narrow (kind c) || in_ranges lamed c) ≡ true
unfolding is_narrow lamed tables kind_stepped
narrow_block_kinds =
    throughout (λ is. is) (λ c. is_narrow (kind c) || in_ranges lamed c)
    (zip_stepped (λ k is. is_narrow k || is) kind (in_ranges lamed) kind_stepped (of_ranges lamed refl)) narrow_blocks refl refl

wide_block_kinds : (c : ℕ) → in_ranges wide_blocks c ≡ true → is_wide (kind c) ≡ true
unfolding is_wide tables kind_stepped
wide_block_kinds = throughout is_wide kind kind_stepped wide_blocks refl refl

-- such kinds say the columns
narrow-is : (c : ℕ) (k : Kind) → is_narrow k ≡ true → (of_kind false c k).0 ≡ 1
unfolding is_narrow
narrow-is c kinds.Narrow h = refl
narrow-is c kinds.Ambiguous h = refl
narrow-is c kinds.Alef h = refl
narrow-is c _ h = absurd (false≢true h)

wide-is : (c : ℕ) (k : Kind) → is_wide k ≡ true → (of_kind false c k).0 ≡ 2
unfolding is_wide
wide-is c kinds.Wide h = refl
wide-is c kinds.Emoji h = refl
wide-is c _ h = absurd (false≢true h)

lamed_columns : (of_kind false 0x05DC (kind 0x05DC)).0 ≡ 1
unfolding kind tables unicode_width
lamed_columns = refl

block_is : (c : ℕ) → in_ranges narrow_blocks c ≡ true → (of_kind false c (kind c)).0 ≡ 1
unfolding lamed in_ranges
block_is c inside = ⊎_elim (narrow-is c (kind c)) lamed_is (or_cases (is_narrow (kind c)) (in_ranges lamed c) (narrow_block_kinds c inside))
  where
    lamed_is : in_ranges lamed c ≡ true → (of_kind false c (kind c)).0 ≡ 1
    lamed_is here = let is : c ≡ 0x05DC = grind (arith, nat_tests, here) in rw is lamed_columns

-- every block lies above Latin's control characters
abbrev above_latin : (ranges : List Range) → Bool
above_latin [] = true
above_latin ((from, to) ∷ ranges) = nat_lt 0xA0 from && above_latin ranges

block_above : (ranges : List Range) (c : ℕ) → above_latin ranges ≡ true → in_ranges ranges c ≡ true → 0xA0 < c
unfolding in_ranges
block_above [] c all inside = absurd (false≢true inside)
block_above ((from, to) ∷ ranges) c all inside =
    let parts = and_parts (nat_lt 0xA0 from) (above_latin ranges) all in
    ⊎_elim (λ there. block_above ranges c parts.1 there)
    (λ out.
    let here : (leb from c && leb c to) ≡ true = grind (arith, nat_tests, inside, out) in
    let above : 0xA0 < from = grind (arith, nat_tests, parts.0) in
    let within : from ≤ c = leb-true from c (and_parts (leb from c) (leb c to) here).0 in
    omega (arith, above, within))
    (cases_Bool (in_ranges ranges c))

-- so its columns are those of the text that it makes
width_of_one : (c n : ℕ) → 0xA0 < c → (of_kind false c (kind c)).0 ≡ n → str_width false (c ∷ []) ≡ n
unfolding str_width step past_emoji alone
width_of_one c n high own = grind (arith, nat_tests, own)

narrow_columns : (c : ℕ) → in_ranges narrow_blocks c ≡ true → 1 ≡ lone_columns c
narrow_columns c narrow = rw narrow refl

wide_columns : (c : ℕ) → in_ranges narrow_blocks c ≡ false → in_ranges wide_blocks c ≡ true → 2 ≡ lone_columns c
wide_columns c other wide = rw (other, wide) refl

block_columns : (c : ℕ) → 0 < lone_columns c → str_width false (c ∷ []) ≡ lone_columns c
block_columns c some =
    ⊎_elim
    (λ narrow. width_of_one c 1 (block_above narrow_blocks c refl narrow) (block_is c narrow) ∙ narrow_columns c narrow)
    (λ other. ⊎_elim
    (λ wide. width_of_one c 2 (block_above wide_blocks c refl wide) (wide-is c (kind c) (wide_block_kinds c wide)) ∙ wide_columns c other wide)
    (λ none. absurd (omega (arith, some, no_columns c other none)))
    (cases_Bool (in_ranges wide_blocks c)))
    (cases_Bool (in_ranges narrow_blocks c))

block_low : (c : ℕ) → 0 < lone_columns c → 0xA0 < c
block_low c some =
    ⊎_elim (block_above narrow_blocks c refl)
    (λ other. ⊎_elim (block_above wide_blocks c refl)
    (λ none. absurd (omega (arith, some, no_columns c other none)))
    (cases_Bool (in_ranges wide_blocks c)))
    (cases_Bool (in_ranges narrow_blocks c))

no_line_end : (cluster : List ℕ) → 32 ≤ get_or cluster 0 0 → cluster_piece cluster ≡ Wide (cluster_width cluster)
no_line_end [] low = absurd (omega arith)
no_line_end (b ∷ bs) low =
    let no_cr : eqb b 13 ≡ false = grind (arith, nat_tests) in
    let no_lf : eqb b 10 ≡ false = grind (arith, nat_tests) in
    rw (no_cr, no_lf) refl

some_from : (cluster : List ℕ) → 32 ≤ get_or cluster 0 0 → 0 < length cluster
some_from [] low = absurd (omega arith)
some_from (b ∷ bs) low = omega arith

-- a cluster that a text begins with
split_first : (text cluster rest : List ℕ) (columns : ℕ) → IsUtf8 text → IsUtf8 rest → text ≡ cluster ++ rest → 32 ≤ get_or cluster 0 0 → columns ≤ 2
    → (IsUtf8 cluster → cluster_width cluster ≡ columns) → IsFirstCluster text (length text - length rest) → IsWideSplit text columns rest
split_first text cluster rest columns u v whole high few wide first =
    let parts = ap length whole ∙ length-append cluster rest in
    let end : length cluster ≡ length text - length rest = omega (arith, parts) in
    let front : take (length cluster) text ≡ cluster = ap (take (length cluster)) whole ∙ take_at cluster rest (length cluster) refl in
    let behind : drop (length cluster) text ≡ rest = ap (drop (length cluster)) whole ∙ drop_at cluster rest (length cluster) refl in
    let utf8 : IsUtf8 cluster = subst IsUtf8 front (IsUtf8-take text (length cluster) u (IsCharBoundary-at_seam text cluster rest whole v)) in
    let cut = subst (IsFirstCluster text) (sym end) first in
    record {
      cluster = cluster;
      split = (whole, some_from cluster high, cut.first ∙ ap₂ (λ t d. t ∷ graphemes true d) front behind);
      width = wide utf8;
      piece = no_line_end cluster high ∙ ap Wide (wide utf8);
      bound = few;
    }

syllable_kinds : (c : ℕ) → in_ranges syllables c ≡ true → is_wide (kind c) ≡ true
unfolding is_wide tables kind_stepped
syllable_kinds = throughout is_wide kind kind_stepped syllables refl refl

-- a syllable of Hangul before what does not join it
pub syllable_split : (text rest : List ℕ) (c : ℕ) → IsUtf8 text → IsUtf8 rest → text ≡ encode_utf8 c ++ rest → in_ranges syllables c ≡ true
    → ends_syllable (chars rest) ≡ true → IsWideSplit text 2 rest
syllable_split text rest c u v whole is ends =
    let cluster = encode_utf8 c in
    let high = block_above syllables c refl is in
    let wide = width_of_one c 2 high (wide-is c (kind c) (syllable_kinds c is)) in
    split_first text cluster rest 2 u v whole (lead_high c (omega (arith, high))) (omega arith)
    (λ w. ap (str_width false) (only_character cluster [] c w (sym (append-nil cluster)) (omega arith)) ∙ wide)
    (first_syllable text rest c u v whole is ends)

chars_of : (text cs : List ℕ) → IsUtf8 text → text ≡ encode_utf8_all cs → chars text ≡ cs
chars_of text cs u is = sym (chars_from_encodes cs text u (sym is))

plain_stepped : Stepped is_plain_mark
plain_stepped = zip_stepped (λ g v. is_mark_break g && not (is_linker v)) grapheme_cluster_break indic_conjunct_break grapheme_cluster_break_stepped indic_conjunct_break_stepped

-- what joins there and is no linker is a plain mark whose columns hang on nothing
is_simple_mark : GraphemeClusterBreak → Kind → Bool
is_simple_mark g k = not (is_joined g) || (is_mark_break g && is_simple_kind k)

mark_facts : (c : ℕ) → in_ranges mark_blocks c ≡ true → (is_linker (indic_conjunct_break c) || is_simple_mark (grapheme_cluster_break c) (kind c)) ≡ true
unfolding is_simple_mark tables ucd_breaks ucd_derived kind_stepped
mark_facts =
    throughout (λ is. is) (λ c. is_linker (indic_conjunct_break c) || is_simple_mark (grapheme_cluster_break c) (kind c))
    (zip_stepped (λ v is. is_linker v || is) indic_conjunct_break (λ c. is_simple_mark (grapheme_cluster_break c) (kind c)) indic_conjunct_break_stepped
    (zip_stepped is_simple_mark grapheme_cluster_break kind grapheme_cluster_break_stepped kind_stepped)) mark_blocks refl refl

some_is : (m n : ℕ) → Some m ≡ Some n → m ≡ n
some_is m n same = cc

-- what a table says of a character by itself
own_columns : (c columns : ℕ) → 0xA0 < c → Some columns ≡ char_width false c → str_width false (c ∷ []) ≡ columns
unfolding char_width alone
own_columns c columns high is =
    let own : Some columns ≡ Some (of_kind false c (kind c)).0 = is ∙ grind (arith, nat_tests) in
    width_of_one c columns high (sym (some_is columns _ own))

pub mark_is_added : (c columns : ℕ) → is_joined (grapheme_cluster_break c) ≡ true → is_linker (indic_conjunct_break c) ≡ false → in_ranges mark_blocks c ≡ true
    → Some columns ≡ char_width false c → AddsColumns (c ∷ []) columns
unfolding is_simple_mark
mark_is_added c columns joins no_linker inside own =
    let high = block_above mark_blocks c refl inside in
    let facts : (is_mark_break (grapheme_cluster_break c) && is_simple_kind (kind c)) ≡ true = rw (no_linker, joins) at (mark_facts c inside) in
    let parts = and_parts (is_mark_break (grapheme_cluster_break c)) (is_simple_kind (kind c)) facts in
    let plain : is_plain_mark c ≡ true = rw (parts.0, no_linker) refl in
    let is = parts.1 in
    let simple : list_all is_simple (c ∷ []) ≡ true = grind (arith, nat_tests, high, is) in
    record {
      joins = λ front opened. open_mark [] front c opened plain;
      adds = λ front. str_width-append_simple false front (c ∷ []) simple ∙ ap (λ n. str_width false front + n) (own_columns c columns high own);
    }

-- a linker adds none, the consonant behind it one
is_simple_of : ℕ → Kind → Bool
is_simple_of n kinds.Zero = eqb 0 n
is_simple_of n kinds.Narrow = eqb 1 n
is_simple_of n kinds.Ambiguous = eqb 1 n
is_simple_of n _ = false

simple_of : (n c : ℕ) (k : Kind) → is_simple_of n k ≡ true → ((of_kind false c k).0 ≡ n) × (is_simple_kind k ≡ true)
unfolding is_simple_of
simple_of n c kinds.Zero h = (grind (arith, nat_tests, h), refl)
simple_of n c kinds.Narrow h = (grind (arith, nat_tests, h), refl)
simple_of n c kinds.Ambiguous h = (grind (arith, nat_tests, h), refl)
simple_of n c _ h = absurd (false≢true h)

module _ (of_conjunct : IndicConjunctBreak → Bool) (of_cluster : GraphemeClusterBreak → Bool) (n : ℕ) where
  abbrev is_part : ℕ → Bool
  is_part c = not (of_conjunct (indic_conjunct_break c)) || (of_cluster (grapheme_cluster_break c) && is_simple_of n (kind c))

  abbrev part_stepped : Stepped is_part
  part_stepped =
      zip_stepped (λ v both. not (of_conjunct v) || both) indic_conjunct_break (λ c. of_cluster (grapheme_cluster_break c) && is_simple_of n (kind c)) indic_conjunct_break_stepped
      (zip_stepped (λ g k. of_cluster g && is_simple_of n k) grapheme_cluster_break kind grapheme_cluster_break_stepped kind_stepped)

linker_facts : (c : ℕ) → in_ranges conjunct_blocks c ≡ true → is_part is_linker is_extend 0 c ≡ true
unfolding is_simple_of tables ucd_breaks ucd_derived kind_stepped
linker_facts = throughout (λ is. is) _ (part_stepped is_linker is_extend 0) conjunct_blocks refl refl

letter_facts : (c : ℕ) → in_ranges conjunct_blocks c ≡ true → is_part is_consonant is_other 1 c ≡ true
unfolding is_simple_of tables ucd_breaks ucd_derived kind_stepped
letter_facts = throughout (λ is. is) _ (part_stepped is_consonant is_other 1) conjunct_blocks refl refl

extend-is : (g : GraphemeClusterBreak) → is_extend g ≡ true → g ≡ Extend
extend-is Extend h = refl
extend-is _ h = absurd (false≢true h)

linker-is : (v : IndicConjunctBreak) → is_linker v ≡ true → v ≡ conjuncts.Linker
linker-is conjuncts.Linker h = refl
linker-is _ h = absurd (false≢true h)

consonant-is : (v : IndicConjunctBreak) → is_consonant v ≡ true → v ≡ conjuncts.Consonant
consonant-is conjuncts.Consonant h = refl
consonant-is _ h = absurd (false≢true h)

simple_char : (c n : ℕ) → in_ranges conjunct_blocks c ≡ true → is_simple_of n (kind c) ≡ true → (str_width false (c ∷ []) ≡ n) × (list_all is_simple (c ∷ []) ≡ true)
simple_char c n inside is =
    let high = block_above conjunct_blocks c refl inside in
    let own = simple_of n c (kind c) is in
    let simple = own.1 in
    (width_of_one c n high own.0, grind (arith, nat_tests, high, simple))

pub conjunct_is_added : (linker letter : ℕ) → in_ranges conjunct_blocks linker ≡ true → is_linker (indic_conjunct_break linker) ≡ true
    → in_ranges conjunct_blocks letter ≡ true → is_consonant (indic_conjunct_break letter) ≡ true → AddsColumns (linker ∷ letter ∷ []) 1
conjunct_is_added linker letter first links second consonant =
    let front = and_parts (is_extend (grapheme_cluster_break linker)) (is_simple_of 0 (kind linker)) (rw links at (linker_facts linker first)) in
    let last = and_parts (is_other (grapheme_cluster_break letter)) (is_simple_of 1 (kind letter)) (rw consonant at (letter_facts letter second)) in
    let none = simple_char linker 0 first front.1 in
    let one = simple_char letter 1 second last.1 in
    let is : IsConjunct linker letter = record {
      extend = extend-is _ front.0;
      links = linker-is _ links;
      other = other-is _ last.0;
      consonant = consonant-is _ consonant;
    } in
    let simple : list_all is_simple (linker ∷ letter ∷ []) ≡ true = and_from _ _ (and_parts _ _ none.1).0 one.1 in
    let columns : str_width false (linker ∷ letter ∷ []) ≡ 1 = str_width-append_simple false (linker ∷ []) (letter ∷ []) one.1 ∙ ap₂ (λ m n. m + n) none.0 one.0 in
    record {
      joins = λ front opened. open_conjunct [] front linker letter opened is;
      adds = λ front. str_width-append_simple false front (linker ∷ letter ∷ []) simple ∙ ap (λ n. str_width false front + n) columns;
    }

-- one kind, of all
is_kind : Kind → Kind → Bool
is_kind wanted k = eqb (number_of_kind wanted) (number_of_kind k)

kind_is : (wanted : Kind) (c : ℕ) → kind_from_number (number_of_kind wanted) ≡ wanted → is_kind wanted (kind c) ≡ true → kind c ≡ wanted
unfolding is_kind kind_number
kind_is wanted c back same = sym (kind_from_number-kind_number c _ (eqb-true _ _ same)) ∙ back

-- the linker of Khmer and a subscript add none
khmer_linker : (grapheme_cluster_break 0x17D2 ≡ Extend) × (indic_conjunct_break 0x17D2 ≡ conjuncts.Linker)
unfolding grapheme_cluster_break indic_conjunct_break ucd_breaks ucd_derived tables
khmer_linker = (refl, refl)

khmer_facts : (c : ℕ) → in_ranges khmer_subscripts c ≡ true → (is_consonant (indic_conjunct_break c) && (is_other (grapheme_cluster_break c) && is_kind kinds.KhmerLetter (kind c))) ≡ true
unfolding is_kind tables ucd_breaks ucd_derived kind_stepped
khmer_facts =
    throughout (λ is. is) (λ c. is_consonant (indic_conjunct_break c) && (is_other (grapheme_cluster_break c) && is_kind kinds.KhmerLetter (kind c)))
    (zip_stepped (λ v is. is_consonant v && is) indic_conjunct_break (λ c. is_other (grapheme_cluster_break c) && is_kind kinds.KhmerLetter (kind c)) indic_conjunct_break_stepped
    (zip_stepped (λ g k. is_other g && is_kind kinds.KhmerLetter k) grapheme_cluster_break kind grapheme_cluster_break_stepped kind_stepped))
    khmer_subscripts refl refl

linker_read : step false 0x17D2 (1, before KhmerLetter) ≡ (0, plain)
unfolding unicode_width tables
linker_read = refl

subscript_read : (letter : ℕ) → 0xA0 < letter → kind letter ≡ kinds.KhmerLetter → read_before false (0x17D2 ∷ letter ∷ []) (0, plain) ≡ (0, plain)
unfolding step past_emoji alone
subscript_read letter high is =
    let last : step false letter (0, plain) ≡ (1, before KhmerLetter) = grind (arith, nat_tests, high, is) in
    ap (step false 0x17D2) last ∙ linker_read

read_past : (front behind : List ℕ) (r : Reading) → read_before false behind r ≡ r → read_before false (front ++ behind) r ≡ read_before false front r
read_past [] behind r same = same
read_past (c ∷ front) behind r same = ap (step false c) (read_past front behind r same)

pub subscript_is_added : (linker letter : ℕ) → linker ≡ 0x17D2 → in_ranges khmer_subscripts letter ≡ true → AddsColumns (linker ∷ letter ∷ []) 0
unfolding str_width
subscript_is_added linker letter links inside =
    let facts = and_parts (is_consonant (indic_conjunct_break letter)) _ (khmer_facts letter inside) in
    let last = and_parts (is_other (grapheme_cluster_break letter)) _ facts.1 in
    let read = subscript_read letter (block_above khmer_subscripts letter refl inside) (kind_is kinds.KhmerLetter letter refl last.1) in
    let is : IsConjunct 0x17D2 letter = record {
      extend = khmer_linker.0;
      links = khmer_linker.1;
      other = other-is _ last.0;
      consonant = consonant-is _ facts.0;
    } in
    subst (λ c. AddsColumns (c ∷ letter ∷ []) 0) (sym links) (record {
      joins = λ front opened. open_conjunct [] front 0x17D2 letter opened is;
      adds = λ front. ap (λ r. r.0) (read_past front (0x17D2 ∷ letter ∷ []) (0, plain) read) ∙ sym (add-zero (str_width false front));
    })

pub some_with : {A : Type 0} → {P Q : A → Type 0} → (found : Option A) → ((value : A) → P value → Q value) → IfSome found P → IfSome found Q
some_with (Some value) step holds = step value holds
some_with None step holds = tt

pub some_known : {A : Type 0} → (found : Option A) → IfSome found (λ value. Some value ≡ found)
some_known (Some value) = refl
some_known None = tt

pub past_all : (behind rest cs : List ℕ) → IsUtf8 behind → behind ≡ encode_utf8_all cs ++ rest → IsUtf8 rest
past_all behind rest [] u is = subst IsUtf8 is u
past_all behind rest (c ∷ cs) u is =
    let more = encode_utf8_all cs ++ rest in
    past_all more rest cs (IsUtf8-past_char behind more c u (is ∙ append_assoc (encode_utf8 c) (encode_utf8_all cs) rest)) refl

-- the characters that a cluster begins with, and what is added to them
lead_of : (cs : List ℕ) → 32 ≤ get_or cs 0 0 → 32 ≤ get_or (encode_utf8_all cs) 0 0
lead_of [] high = high
lead_of (c ∷ cs) high = subst (λ b. 32 ≤ b) (get_or-front (encode_utf8 c) (encode_utf8_all cs) (some_bytes c)) (lead_high c high)

pub front_split : (text behind rest front : List ℕ) (columns sum : ℕ) → IsUtf8 text → text ≡ encode_utf8_all front ++ behind → IsFront front columns
    → IsWithAdded columns behind sum rest → IsWideSplit text sum rest
front_split text behind rest front columns sum u whole is ((cs, more, next, added, sums, most), apart) =
    let v = past_all behind rest cs (past_all text behind front u whole) next in
    let cluster = encode_utf8_all (front ++ cs) in
    let all : text ≡ cluster ++ rest = joined text behind rest front cs whole next in
    let lead = lead_of (front ++ cs) (subst (λ c. 32 ≤ c) (get_or-front front cs (some_from front is.high)) is.high) in
    split_first text cluster rest sum u v all lead most
    (λ w. ap (str_width false) (chars_of cluster (front ++ cs) w refl) ∙ added.adds front ∙ ap (λ n. n + more) is.width ∙ sym sums)
    (first_opened text rest u v (front ++ cs, all, added.joins front is.opened) apart)

base_front : (c columns : ℕ) → stands_alone c ≡ true → 32 ≤ c → columns ≤ 2 → str_width false (c ∷ []) ≡ columns → IsFront (c ∷ []) columns
base_front c columns alone high few width = record { opened = settled_alone c alone; high = high; few = few; width = width }

pub base_in_block : (c : ℕ) → 0 < lone_columns c → IsFront (c ∷ []) (lone_columns c)
base_in_block c some =
    let high = block_low c some in
    let few : lone_columns c ≤ 2 = grind (arith, nat_tests) in
    base_front c (lone_columns c) (alone_in_block c some) (omega (arith, high)) few (block_columns c some)

pub base_by_table : (c columns : ℕ) → 0xA0 < c → stands_alone c ≡ true → columns ≤ 2 → Some columns ≡ char_width false c → IsFront (c ∷ []) columns
base_by_table c columns high alone few is = base_front c columns alone (omega (arith, high)) few (own_columns c columns high is)

-- an emoji with a skin tone takes two
tone_kinds : (c : ℕ) → in_ranges skin_tones c ≡ true → is_kind kinds.EmojiModifier (kind c) ≡ true
unfolding is_kind tables kind_stepped
tone_kinds = throughout (is_kind kinds.EmojiModifier) kind kind_stepped skin_tones refl refl

tone_facts : (c : ℕ) → in_ranges skin_tones c ≡ true → is_plain_mark c ≡ true
unfolding plain_stepped tables ucd_breaks ucd_derived
tone_facts = throughout (λ is. is) is_plain_mark plain_stepped skin_tones refl refl

toned_columns : (c d : ℕ) → in_ranges picture_blocks c ≡ true → is_emoji_modifier_base c ≡ true → in_ranges skin_tones d ≡ true → str_width false (c ∷ d ∷ []) ≡ 2
unfolding str_width step past_emoji alone in_context past_selectors joins
toned_columns c d picture base tone =
    let high = block_above picture_blocks c refl picture in
    let above = block_above skin_tones d refl tone in
    let last : kind d ≡ kinds.EmojiModifier = kind_is kinds.EmojiModifier d refl (tone_kinds d tone) in
    grind (arith, nat_tests, high, above, last, base)

pub toned_front : (c d : ℕ) → in_ranges picture_blocks c ≡ true → is_emoji_modifier_base c ≡ true → in_ranges skin_tones d ≡ true → IsFront (c ∷ d ∷ []) 2
toned_front c d picture base tone =
    let high = block_above picture_blocks c refl picture in
    record {
      opened = open_mark [] (c ∷ []) d (settled_alone c (picture_parts c (picture_in_block c picture)).0) (tone_facts d tone);
      high = omega (arith, high);
      few = omega arith;
      width = toned_columns c d picture base tone;
    }

-- an emoji before U+FE0F takes two
selector_kind : kind 0xFE0F ≡ kinds.Single
unfolding kind tables unicode_width
selector_kind = refl

selector_last : step false 0xFE0F (0, plain) ≡ (0, record plain { emoji = true })
unfolding step past_emoji alone
selector_last = grind (arith, nat_tests) ∙ ap (λ k. of_kind false 0xFE0F k) selector_kind

before_selector : (c : ℕ) → is_emoji_variation_base c ≡ true → step false c (0, record plain { emoji = true }) ≡ (2, before Emoji)
unfolding step
before_selector c base = rw base refl

selected_columns : (c : ℕ) → is_emoji_variation_base c ≡ true → str_width false (c ∷ 0xFE0F ∷ []) ≡ 2
unfolding str_width
selected_columns c base = ap (λ r. (step false c r).0) selector_last ∙ ap (λ r. r.0) (before_selector c base)

-- such a base is no control character
low_bases : (c : ℕ) → in_ranges ((0, 0x1F) ∷ []) c ≡ true → not (is_emoji_variation_base c) ≡ true
unfolding tables ucd_emoji
low_bases = throughout not is_emoji_variation_base is_emoji_variation_base_stepped ((0, 0x1F) ∷ []) refl refl

high_base : (c : ℕ) → is_emoji_variation_base c ≡ true → 32 ≤ c
unfolding in_ranges
high_base c base = ⊎_elim (λ low. absurd (no_base low)) (λ high. high) (cases_lt c 32)
  where
    no_base : c < 32 → ⊥
    no_base low =
        let inside : in_ranges ((0, 0x1F) ∷ []) c ≡ true = grind (arith, nat_tests) in
        absurd (false≢true (rw base at (low_bases c inside)))

pub selected_front : (c d : ℕ) → stands_alone c ≡ true → is_emoji_variation_base c ≡ true → d ≡ 0xFE0F → IsFront (c ∷ d ∷ []) 2
selected_front c d alone base selector =
    record {
      opened = open_mark [] (c ∷ []) d (settled_alone c alone) (ap is_plain_mark selector ∙ selector_is_mark);
      high = high_base c base;
      few = omega arith;
      width = ap (λ e. str_width false (c ∷ e ∷ [])) selector ∙ selected_columns c base;
    }

-- a flag takes two

half_kinds : (c : ℕ) → in_ranges flag_letters c ≡ true → is_kind kinds.RegionalIndicator (kind c) ≡ true
unfolding is_kind tables kind_stepped
half_kinds = throughout (is_kind kinds.RegionalIndicator) kind kind_stepped flag_letters refl refl

half_range : (c : ℕ) → in_ranges flag_letters c ≡ true → (0x1F1E6 ≤ c) × (c ≤ 0x1F1FF)
unfolding in_ranges
half_range c inside = (grind (arith, nat_tests, inside), grind (arith, nat_tests, inside))

flag_columns : (c d : ℕ) → in_ranges flag_letters c ≡ true → in_ranges flag_letters d ≡ true → str_width false (c ∷ d ∷ []) ≡ 2
unfolding str_width step past_emoji alone in_context past_selectors joins
flag_columns c d first second =
    let left = half_range c first in
    let right = half_range d second in
    let last : kind d ≡ kinds.RegionalIndicator = kind_is kinds.RegionalIndicator d refl (half_kinds d second) in
    grind (arith, nat_tests, left.0, left.1, right.0, right.1, last)

pub flag_front : (c d : ℕ) → in_ranges flag_letters c ≡ true → in_ranges flag_letters d ≡ true → IsFront (c ∷ d ∷ []) 2
flag_front c d first second =
    let high = block_above flag_letters c refl first in
    record { opened = open_flag c d first second; high = omega (arith, high); few = omega arith; width = flag_columns c d first second }

-- the columns of a text that is one character which its first byte tells
module _ (text : List ℕ) (u : IsUtf8 text) (some : 0 < length text) (whole : length text ≡ lone_len (get_or text 0 0)) where
  begins : BeginsLone text
  begins = BeginsLone-from text u some (rw (← whole) some)

  abbrev character : ℕ
  character = begins.character

  lone : IsLone character (length text)
  lone = subst (IsLone character) (sym whole) begins.lone

  is : chars text ≡ character ∷ []
  is = only_character text begins.rest character u begins.whole (omega (arith, whole, begins.lone.bytes))

  ascii_width : length text ≡ 1 → 1 ≡ cluster_width text
  ascii_width one = sym (ap (str_width false) is ∙ str_width-printable false (character ∷ []) (and_from _ _ (lone.ascii one) refl))

  two_bytes_width : length text ≡ 2 → 1 ≡ cluster_width text
  two_bytes_width two =
      let inside = lone.two two in
      let is_kind = narrow-is character (kind character) (narrow_kinds character inside) in
      sym (ap (str_width false) is ∙ width_of_one character 1 (block_above two_bytes character refl inside) is_kind)

  han_width : length text ≡ 3 → 2 ≡ cluster_width text
  han_width three =
      let inside = lone.three three in
      let is_kind = wide-is character (kind character) (wide_kinds character inside) in
      sym (ap (str_width false) is ∙ width_of_one character 2 (block_above three_bytes character refl inside) is_kind)

  pub byte_width : (if eqb (length text) 3 then 2 else 1) ≡ cluster_width text
  byte_width =
      let few : length text ≤ 3 = subst (λ n. n ≤ 3) (sym whole) (lone_len-few (get_or text 0 0)) in
      ⊎_elim (λ one. grind (arith, nat_tests) ∙ ascii_width (omega (arith, some)))
      (λ two. ⊎_elim (λ three. grind (arith, nat_tests) ∙ han_width three) (λ other. grind (arith, nat_tests) ∙ two_bytes_width (length_two two few other)) (cases_eq (length text) 3))
      (cases_lt (length text) 2)
    where
      length_two : 2 ≤ length text → length text ≤ 3 → (length text ≡ 3 → ⊥) → length text ≡ 2
      length_two two few other = ⊎_elim (λ three. absurd (other three)) (λ no. omega arith) (cases_eq (length text) 3)

pub byte_split : (text behind rest : List ℕ) (len sum : ℕ) → IsUtf8 text → 0 < length text → len ≡ lone_len (get_or text 0 0) → 0 < len
    → behind ≡ drop len text → IsWithAdded (if eqb len 3 then 2 else 1) behind sum rest → IsWideSplit text sum rest
byte_split text behind rest len sum u some told_len more from joined =
    let lead : 0 < lone_len (get_or text 0 0) = rw (← told_len) more in
    let first = BeginsLone-from text u some lead in
    let c = first.character in
    let cluster = encode_utf8 c in
    let bytes : length cluster ≡ len = first.lone.bytes ∙ sym told_len in
    let back : drop len text ≡ first.rest = ap (drop len) first.whole ∙ drop_at cluster first.rest len bytes in
    let whole : text ≡ cluster ++ behind = first.whole ∙ ap (λ t. cluster ++ t) (sym (from ∙ back)) in
    let utf8 : IsUtf8 cluster =
    subst IsUtf8 (ap (take (length cluster)) first.whole ∙ take_at cluster first.rest (length cluster) refl)
    (IsUtf8-take text (length cluster) u (IsCharBoundary-at_seam text cluster first.rest first.whole first.utf8)) in
    let front = some_bytes c in
    let same : get_or text 0 0 ≡ get_or cluster 0 0 = ap (λ t. get_or t 0 0) whole ∙ sym (get_or-front cluster behind front) in
    let told : length cluster ≡ lone_len (get_or cluster 0 0) = bytes ∙ told_len ∙ ap lone_len same in
    let own : cluster_width cluster ≡ (if eqb len 3 then 2 else 1) = sym (byte_width cluster utf8 front told) ∙ ap (λ n. if eqb n 3 then 2 else 1) bytes in
    let few : (if eqb len 3 then 2 else 1) ≤ 2 = grind (arith, nat_tests) in
    let width = sym (ap (str_width false) (only_character cluster [] c utf8 (sym (append-nil cluster)) (omega arith))) ∙ own in
    front_split text behind rest (c ∷ []) _ sum u (one text behind c whole)
    (base_front c _ (alone_by_byte text lead first) (high_by_byte text lead first) few width) joined
