-- First clusters of which a base and its marks decide.
use Rattle.std.proofs.Common.{◌≡◌, inl, inr, ℕ, ◌+◌, ◌-◌, ◌<◌, ◌≤◌, Bool, true, false, not, ◌&&◌, ◌||◌, List, [], ◌∷◌, ◌++◌, map, length, length-append, append_assoc, append-nil, add-zero, add_assoc, unwrap_or, refl, sym, ap, ap₂, subst, ◌∙◌, arith}
use Rattle.std.proofs.lemmas.Bool.{and_from, or_left, or_right, and_parts, not-true, true≢false, false≢true}
use Rattle.std.proofs.lemmas.Bool.Decides.{nat_tests}
use Rattle.std.proofs.lemmas.Str.{chars_past_char, encodes-chars, encodes-append, chars_from_encodes, length-encode}
use Rattle.std.specs.Prelude.{encode_utf8, encode_utf8_all, if◌then◌else◌}
use Rattle.std.specs.Str.{chars, IsUtf8}
use Rattle.ucd_table.specs.Rows.{in_ranges}
use Rattle.ucd_table.proofs.Computing.{tables}
use Rattle.ucd_table.proofs.Facts.{Stepped-everywhere}
use Rattle.ucd_table.proofs.Stepped.{map_stepped, of_ranges, zip_stepped}
use Rattle.ucd_breaks.specs.GraphemeClusterBreak.{grapheme_cluster_break}
use Rattle.ucd_breaks.specs.declared.GraphemeClusterBreak.{GraphemeClusterBreak}
use Rattle.ucd_breaks.specs.declared.GraphemeClusterBreak.TheVariants.{Control, Cr, Extend, L, Lf, Lv, Lvt, Other, Prepend, RegionalIndicator, SpacingMark, T, V, Zwj}
use Rattle.ucd_breaks.proofs.Computing.{ucd_breaks}
use Rattle.ucd_breaks.proofs.GraphemeClusterBreakLemmas.{grapheme_cluster_break_stepped}
use Rattle.ucd_derived.specs.IndicConjunctBreak.{indic_conjunct_break}
use Rattle.ucd_derived.specs.declared.IndicConjunctBreak.{IndicConjunctBreak}
use Rattle.ucd_derived.specs.declared.IndicConjunctBreak.TheVariants as conjuncts
use Rattle.ucd_derived.proofs.Computing.{ucd_derived}
use Rattle.ucd_derived.proofs.IndicConjunctBreakLemmas.{indic_conjunct_break_stepped}
use Rattle.ucd_emoji.specs.Binary.{is_extended_pictographic}
use Rattle.unicode_segmentation.specs.Grapheme.{break_by_pair, ends_in_half_flag, ends_in_linker, ends_in_pictograph, is_extend, is_grapheme_break, is_regional, is_zwj}
use Rattle.unicode_segmentation.specs.Segments.{cut, prepend}
use Rattle.unicode_width.specs.Width.{str_width}
use Rattle.tw_surface.specs.Clusters.{ends_syllable, flag_letters, lone_ranges, syllables, is_picture, is_plain_extend, is_joined, is_linker, is_linking, is_other, stands_alone, starts_apart, IsFirstCluster}
use Rattle.tw_surface.specs.Openings.{AddsColumns, IsPastAdded, IsOpen, IsPlainEnd, BeginsOpen, IsPastPictograph, GoesOn, nearest, ArePictures}
use Rattle.tw_surface.proofs.TableFacts.{throughout}
use Rattle.tw_surface.proofs.ClusterSeams.{ends_in_linker-not}
use Rattle.tw_surface.proofs.ClusterCuts.{clusters_of, IsFirstCluster-from}

-- ---- the last character decides

is_settled_break : GraphemeClusterBreak → Bool
is_settled_break Other = true
is_settled_break Extend = true
is_settled_break SpacingMark = true
is_settled_break RegionalIndicator = true
is_settled_break _ = false

pair_joins : (left right : GraphemeClusterBreak) (rest : Bool) → is_settled_break left ≡ true → is_joined right ≡ true
    → unwrap_or (break_by_pair true left right) rest ≡ false
unfolding is_settled_break
pair_joins Control right rest l r = absurd (false≢true l)
pair_joins Cr right rest l r = absurd (false≢true l)
pair_joins Lf right rest l r = absurd (false≢true l)
pair_joins _ Extend rest l r = refl
pair_joins _ Zwj rest l r = refl
pair_joins _ SpacingMark rest l r = refl
pair_joins _ _ rest l r = absurd (false≢true r)

pair_breaks : (left right : GraphemeClusterBreak) → is_settled_break left ≡ true → is_joined right ≡ false → unwrap_or (break_by_pair true left right) true ≡ true
unfolding is_settled_break
pair_breaks Cr right l r = absurd (false≢true l)
pair_breaks L right l r = absurd (false≢true l)
pair_breaks Lv right l r = absurd (false≢true l)
pair_breaks Lvt right l r = absurd (false≢true l)
pair_breaks Prepend right l r = absurd (false≢true l)
pair_breaks T right l r = absurd (false≢true l)
pair_breaks V right l r = absurd (false≢true l)
pair_breaks _ Extend l r = absurd (true≢false r)
pair_breaks _ Zwj l r = absurd (true≢false r)
pair_breaks _ SpacingMark l r = absurd (true≢false r)
pair_breaks _ _ l r = refl

settled_no_zwj : (g : GraphemeClusterBreak) → is_settled_break g ≡ true → is_zwj g ≡ false
unfolding is_settled_break
settled_no_zwj Zwj h = absurd (false≢true h)
settled_no_zwj _ h = refl

settled_by : (last : ℕ) (before : List ℕ) → is_settled_break (grapheme_cluster_break last) ≡ true
    → ends_in_linker (map indic_conjunct_break (last ∷ before)) ≡ false → ends_in_half_flag (last ∷ before) ≡ false → IsPlainEnd (last ∷ before)
unfolding is_grapheme_break
settled_by last before settled no_linker no_half =
    record {
      joins = λ next after is. pair_joins (grapheme_cluster_break last) (grapheme_cluster_break next) _ settled is;
      breaks = λ next after apart.
          rw (no_linker, no_half, settled_no_zwj (grapheme_cluster_break last) settled)
          (pair_breaks (grapheme_cluster_break last) (grapheme_cluster_break next) settled apart);
      no_linker = no_linker;
    }

pub other-is : (g : GraphemeClusterBreak) → is_other g ≡ true → g ≡ Other
other-is Other h = refl
other-is _ h = absurd (false≢true h)

pub settled_alone : (c : ℕ) → stands_alone c ≡ true → IsPlainEnd (c ∷ [])
unfolding is_settled_break ends_in_half_flag
settled_alone c alone =
    let parts = and_parts (is_other (grapheme_cluster_break c)) (not (is_linking (indic_conjunct_break c))) alone in
    let other = other-is (grapheme_cluster_break c) parts.0 in
    settled_by c [] (rw other refl) (ends_in_linker-not (indic_conjunct_break c) [] (not-true _ parts.1)) (rw other refl)

-- a plain mark: it joins whatever stands before it, and nothing else follows it either

abbrev pub is_mark_break : GraphemeClusterBreak → Bool
is_mark_break Extend = true
is_mark_break SpacingMark = true
is_mark_break _ = false

abbrev pub is_plain_mark : ℕ → Bool
is_plain_mark c = is_mark_break (grapheme_cluster_break c) && not (is_linker (indic_conjunct_break c))

-- a mark leaves it so

mark_settled : (g : GraphemeClusterBreak) → is_mark_break g ≡ true → (is_settled_break g ≡ true) × (is_regional g ≡ false) × (is_joined g ≡ true)
unfolding is_settled_break
mark_settled Extend h = (refl, refl, refl)
mark_settled SpacingMark h = (refl, refl, refl)
mark_settled _ h = absurd (false≢true h)

linker_past : (v : IndicConjunctBreak) (vs : List IndicConjunctBreak) → is_linker v ≡ false → ends_in_linker vs ≡ false → ends_in_linker (v ∷ vs) ≡ false
unfolding ends_in_linker
linker_past conjuncts.Linker vs h none = absurd (true≢false h)
linker_past conjuncts.Extend vs h none = none
linker_past _ vs h none = refl

settled_mark : (before : List ℕ) (mark : ℕ) → IsPlainEnd before → is_plain_mark mark ≡ true → IsPlainEnd (mark ∷ before)
unfolding ends_in_half_flag
settled_mark before mark settled is =
    let parts = and_parts (is_mark_break (grapheme_cluster_break mark)) (not (is_linker (indic_conjunct_break mark))) is in
    let kind = mark_settled (grapheme_cluster_break mark) parts.0 in
    settled_by mark before kind.0 (linker_past (indic_conjunct_break mark) (map indic_conjunct_break before) (not-true _ parts.1) settled.no_linker) (rw kind.1 refl)

-- the halves of a flag join

flag_facts : (c : ℕ) → in_ranges flag_letters c ≡ true → (is_regional (grapheme_cluster_break c) && not (is_linking (indic_conjunct_break c))) ≡ true
unfolding tables ucd_breaks ucd_derived
flag_facts =
    throughout (λ is. is) (λ c. is_regional (grapheme_cluster_break c) && not (is_linking (indic_conjunct_break c)))
    (zip_stepped (λ g v. is_regional g && not (is_linking v)) grapheme_cluster_break indic_conjunct_break grapheme_cluster_break_stepped indic_conjunct_break_stepped)
    flag_letters refl refl

regional-is : (g : GraphemeClusterBreak) → is_regional g ≡ true → g ≡ RegionalIndicator
regional-is RegionalIndicator h = refl
regional-is _ h = absurd (false≢true h)

record IsHalf (c : ℕ) : Type 0 where
  regional : grapheme_cluster_break c ≡ RegionalIndicator
  no_linker : is_linking (indic_conjunct_break c) ≡ false

half_of : (c : ℕ) → in_ranges flag_letters c ≡ true → IsHalf c
half_of c inside =
    let facts = and_parts (is_regional (grapheme_cluster_break c)) (not (is_linking (indic_conjunct_break c))) (flag_facts c inside) in
    record { regional = regional-is (grapheme_cluster_break c) facts.0; no_linker = not-true _ facts.1 }

pub open_flag : (c d : ℕ) → in_ranges flag_letters c ≡ true → in_ranges flag_letters d ≡ true → IsOpen [] (c ∷ d ∷ [])
unfolding is_grapheme_break is_settled_break ends_in_half_flag
open_flag c d first second =
    let left = half_of c first in
    let right = half_of d second in (
      (λ after. rw (left.regional, right.regional, ends_in_linker-not (indic_conjunct_break c) [] left.no_linker) refl),
      settled_by d (c ∷ []) (rw right.regional refl) (ends_in_linker-not (indic_conjunct_break d) (indic_conjunct_break c ∷ []) right.no_linker)
          (rw (left.regional, right.regional) refl),
    )

-- ---- marks are added

mark_joins : (mark : ℕ) → is_plain_mark mark ≡ true → is_joined (grapheme_cluster_break mark) ≡ true
mark_joins mark is = (mark_settled (grapheme_cluster_break mark) (and_parts _ (not (is_linker (indic_conjunct_break mark))) is).0).2

pub open_mark : (before cs : List ℕ) (mark : ℕ) → IsOpen before cs → is_plain_mark mark ≡ true → IsOpen before (cs ++ mark ∷ [])
open_mark before [] mark bad is = absurd bad
open_mark before (c ∷ []) mark opened is = ((λ after. opened.joins mark after (mark_joins mark is)), settled_mark (c ∷ before) mark opened is)
open_mark before (c ∷ d ∷ cs) mark opened is = (opened.0, open_mark (c ∷ before) (d ∷ cs) mark opened.1 is)

-- a text whose bytes are those of some characters and of others
pub joined : (text behind rest cs ds : List ℕ) → text ≡ encode_utf8_all cs ++ behind → behind ≡ encode_utf8_all ds ++ rest → text ≡ encode_utf8_all (cs ++ ds) ++ rest
joined text behind rest cs ds first second =
    first ∙ ap (λ t. encode_utf8_all cs ++ t) second ∙ sym (append_assoc (encode_utf8_all cs) (encode_utf8_all ds) rest)
    ∙ ap (λ t. t ++ rest) (sym (encodes-append cs ds))

pub one : (text rest : List ℕ) (c : ℕ) → text ≡ encode_utf8 c ++ rest → text ≡ encode_utf8_all (c ∷ []) ++ rest
one text rest c whole = whole ∙ ap (λ t. t ++ rest) (sym (append-nil (encode_utf8 c)))

pub two : (text behind rest : List ℕ) (c d : ℕ) → text ≡ encode_utf8 c ++ behind → behind ≡ encode_utf8 d ++ rest → text ≡ encode_utf8_all (c ∷ d ∷ []) ++ rest
two text behind rest c d whole more = joined text behind rest (c ∷ []) (d ∷ []) (one text behind c whole) (one behind rest d more)

nothing_added : AddsColumns [] 0
nothing_added =
    record {
      joins = λ front opened. subst (IsOpen []) (sym (append-nil front)) opened;
      adds = λ front. ap (str_width false) (append-nil front) ∙ sym (add-zero (str_width false front));
    }

both_added : (cs ds : List ℕ) (first second : ℕ) → AddsColumns cs first → AddsColumns ds second → AddsColumns (cs ++ ds) (first + second)
both_added cs ds first second left right =
    record {
      joins = λ front opened. subst (IsOpen []) (append_assoc front cs ds) (right.joins (front ++ cs) (left.joins front opened));
      adds = λ front.
          ap (str_width false) (sym (append_assoc front cs ds)) ∙ right.adds (front ++ cs) ∙ ap (λ n. n + second) (left.adds front)
          ∙ add_assoc (str_width false front) first second;
    }

pub no_more : (columns sum : ℕ) (text : List ℕ) → sum ≡ columns → columns ≤ 2 → IsPastAdded columns text sum text
no_more columns sum text same few = ([], 0, refl, nothing_added, omega (arith, same), omega (arith, same))

pub more_added : (columns sum added : ℕ) (behind here rest ds : List ℕ) → IsPastAdded columns behind sum here → here ≡ encode_utf8_all ds ++ rest
    → AddsColumns ds added → sum + added ≤ 2 → IsPastAdded columns behind (sum + added) rest
more_added columns sum added behind here rest ds (cs, more, whole, are, sums, most) next is few =
    (cs ++ ds, more + added, joined behind here rest cs ds whole next, both_added cs ds more added are is, omega (arith, sums), few)

-- a linker and a consonant join too
pub record IsConjunct (linker letter : ℕ) : Type 0 where
  pub extend : grapheme_cluster_break linker ≡ Extend
  pub links : indic_conjunct_break linker ≡ conjuncts.Linker
  pub other : grapheme_cluster_break letter ≡ Other
  pub consonant : indic_conjunct_break letter ≡ conjuncts.Consonant

conjunct_joins : (before after : List ℕ) (linker letter : ℕ) → IsConjunct linker letter → is_grapheme_break true (linker ∷ before) (letter ∷ after) ≡ false
unfolding is_grapheme_break ends_in_linker
conjunct_joins before after linker letter is = rw (is.extend, is.links, is.other, is.consonant) refl

settled_letter : (before : List ℕ) (linker letter : ℕ) → IsConjunct linker letter → IsPlainEnd (letter ∷ before)
unfolding is_settled_break ends_in_half_flag ends_in_linker
settled_letter before linker letter is = settled_by letter before (rw is.other refl) (rw is.consonant refl) (rw is.other refl)

pub open_conjunct : (before cs : List ℕ) (linker letter : ℕ) → IsOpen before cs → IsConjunct linker letter → IsOpen before (cs ++ linker ∷ letter ∷ [])
open_conjunct before [] linker letter bad is = absurd bad
open_conjunct before (b ∷ []) linker letter opened is = (
  (λ after. opened.joins linker after (ap is_joined is.extend)),
  ((λ after. conjunct_joins (b ∷ before) after linker letter is), settled_letter (linker ∷ b ∷ before) linker letter is),
)
open_conjunct before (b ∷ d ∷ cs) linker letter opened is = (opened.0, open_conjunct (b ∷ before) (d ∷ cs) linker letter opened.1 is)

pub opens_alone : (text rest : List ℕ) (c : ℕ) → text ≡ encode_utf8 c ++ rest → stands_alone c ≡ true → BeginsOpen text rest
opens_alone text rest c whole alone = (c ∷ [], one text rest c whole, settled_alone c alone)

-- ---- and pictographs behind joiners

extend_is_mark : (g : GraphemeClusterBreak) → is_extend g ≡ true → (is_mark_break g ≡ true) × (is_extend g ≡ true)
extend_is_mark Extend h = (refl, refl)
extend_is_mark _ h = absurd (false≢true h)

plain_extend_is_mark : (c : ℕ) → is_plain_extend c ≡ true → is_plain_mark c ≡ true
plain_extend_is_mark c is =
    let parts = and_parts (is_extend (grapheme_cluster_break c)) (not (is_linker (indic_conjunct_break c))) is in
    and_from _ _ (extend_is_mark (grapheme_cluster_break c) parts.0).0 parts.1

pictured_mark : (before cs : List ℕ) (mark : ℕ) → ends_in_pictograph (nearest before cs) ≡ true → is_plain_extend mark ≡ true
    → ends_in_pictograph (nearest before (cs ++ mark ∷ [])) ≡ true
unfolding ends_in_pictograph
pictured_mark before [] mark ends is =
    let extends = (extend_is_mark (grapheme_cluster_break mark) (and_parts _ (not (is_linker (indic_conjunct_break mark))) is).0).1 in
    or_right (is_extended_pictographic mark) _ (and_from _ _ extends ends)
pictured_mark before (c ∷ cs) mark ends is = pictured_mark (c ∷ before) cs mark ends is

pub picture_parts : (c : ℕ) → is_picture c ≡ true → (stands_alone c ≡ true) × (is_extended_pictographic c ≡ true)
picture_parts c is = and_parts (stands_alone c) (is_extended_pictographic c) is

pictured_last : (before cs : List ℕ) (c : ℕ) → is_picture c ≡ true → ends_in_pictograph (nearest before (cs ++ 0x200D ∷ c ∷ [])) ≡ true
unfolding ends_in_pictograph
pictured_last before [] c is = or_left (is_extended_pictographic c) _ (picture_parts c is).1
pictured_last before (b ∷ cs) c is = pictured_last (b ∷ before) cs c is

joiner_is : grapheme_cluster_break 0x200D ≡ Zwj
unfolding grapheme_cluster_break ucd_breaks tables
joiner_is = refl

-- a pictograph goes on behind a joiner
picture_joins : (before after : List ℕ) (c : ℕ) → ends_in_pictograph before ≡ true → is_picture c ≡ true
    → is_grapheme_break true (0x200D ∷ before) (c ∷ after) ≡ false
unfolding is_grapheme_break
picture_joins before after c ends is =
    let parts = picture_parts c is in
    let other = other-is (grapheme_cluster_break c) (and_parts _ (not (is_linking (indic_conjunct_break c))) parts.0).0 in
    rw (joiner_is, other, ends, parts.1) (ap not (or_left _ _ (or_right _ _ refl)))

settled_picture : (before : List ℕ) (c : ℕ) → is_picture c ≡ true → IsPlainEnd (c ∷ before)
unfolding is_settled_break ends_in_half_flag
settled_picture before c is =
    let parts = and_parts (is_other (grapheme_cluster_break c)) (not (is_linking (indic_conjunct_break c))) (picture_parts c is).0 in
    let other = other-is (grapheme_cluster_break c) parts.0 in
    settled_by c before (rw other refl) (ends_in_linker-not (indic_conjunct_break c) (map indic_conjunct_break before) (not-true _ parts.1)) (rw other refl)

open_picture : (before cs : List ℕ) (c : ℕ) → IsOpen before cs → ends_in_pictograph (nearest before cs) ≡ true → is_picture c ≡ true
    → IsOpen before (cs ++ 0x200D ∷ c ∷ [])
open_picture before [] c bad ends is = absurd bad
open_picture before (b ∷ []) c opened ends is =
    ((λ after. opened.joins 0x200D after (ap is_joined joiner_is)), ((λ after. picture_joins (b ∷ before) after c ends is), settled_picture (0x200D ∷ b ∷ before) c is))
open_picture before (b ∷ d ∷ cs) c opened ends is = (opened.0, open_picture (b ∷ before) (d ∷ cs) c opened.1 ends is)

first_pictured : (c : ℕ) → is_extended_pictographic c ≡ true → ends_in_pictograph (c ∷ []) ≡ true
unfolding ends_in_pictograph
first_pictured c is = or_left (is_extended_pictographic c) _ is

pub first_picture : (text rest : List ℕ) → IsPastPictograph text rest → ArePictures text rest
first_picture text rest (c, whole, is) =
    let parts = picture_parts c is in
    (c ∷ [], one text rest c whole, settled_alone c parts.0, first_pictured c parts.1)

pub more_pictures : (text behind rest : List ℕ) → ArePictures text behind → GoesOn behind rest → ArePictures text rest
more_pictures text behind rest (cs, whole, opened, ends) (inl (c, front, is)) = (
  cs ++ c ∷ [],
  joined text behind rest cs (c ∷ []) whole (one behind rest c front),
  open_mark [] cs c opened (plain_extend_is_mark c is),
  pictured_mark [] cs c ends is,
)
more_pictures text behind rest (cs, whole, opened, ends) (inr (c, front, is)) =
    (cs ++ 0x200D ∷ c ∷ [], joined text behind rest cs (0x200D ∷ c ∷ []) whole front, open_picture [] cs c opened ends is, pictured_last [] cs c is)

pub opens_pictures : (text rest : List ℕ) → ArePictures text rest → BeginsOpen text rest
opens_pictures text rest (cs, whole, opened, ends) = (cs, whole, opened)

-- ---- and the cluster ends where something begins anew

record Cut (before cs ds : List ℕ) : Type 0 where
  others : List (List ℕ)
  cuts : cut (is_grapheme_break true) before (cs ++ ds) [] ≡ cs ∷ others

cut_of : (before cs ds : List ℕ) → IsOpen before cs → starts_apart ds ≡ true → Cut before cs ds
unfolding cut is_grapheme_break
cut_of before [] ds bad apart = absurd bad
cut_of before (c ∷ []) [] opened apart = record { others = []; cuts = refl }
cut_of before (c ∷ []) (d ∷ ds) opened apart =
    let others = cut (is_grapheme_break true) (c ∷ before) (d ∷ ds) [] in
    record { others = others; cuts = ap (λ b. if b then (c ∷ []) ∷ others else prepend (c ∷ []) others) (opened.breaks d (ds ++ []) (not-true _ apart)) }
cut_of before (c ∷ d ∷ cs) ds opened apart =
    let more = cut_of (c ∷ before) (d ∷ cs) ds opened.1 apart in
    record { others = more.others; cuts = ap₂ (λ b pieces. if b then (c ∷ []) ∷ pieces else prepend (c ∷ []) pieces) (opened.0 ((cs ++ ds) ++ [])) more.cuts }

first_cut : (text rest cs : List ℕ) → IsUtf8 text → IsUtf8 rest → text ≡ encode_utf8_all cs ++ rest → Cut [] cs (chars rest) → IsFirstCluster text (length text - length rest)
first_cut text rest cs u v whole first =
    let parts = ap length whole ∙ length-append (encode_utf8_all cs) rest in
    let all : encode_utf8_all (cs ++ chars rest) ≡ text = encodes-append cs (chars rest) ∙ ap (λ t. encode_utf8_all cs ++ t) (encodes-chars rest v) ∙ sym whole in
    let is : chars text ≡ cs ++ chars rest = sym (chars_from_encodes (cs ++ chars rest) text u all) in
    let bytes : length (encode_utf8_all cs) ≡ length text - length rest = omega (arith, parts) in
    subst (IsFirstCluster text) bytes
    (IsFirstCluster-from text u (encode_utf8_all cs) _ (clusters_of text (cs ++ chars rest) is ∙ ap (map encode_utf8_all) first.cuts))

pub first_opened : (text rest : List ℕ) → IsUtf8 text → IsUtf8 rest → BeginsOpen text rest → starts_apart (chars rest) ≡ true → IsFirstCluster text (length text - length rest)
first_opened text rest u v (cs, whole, opened) apart = first_cut text rest cs u v whole (cut_of [] cs (chars rest) opened apart)

-- ---- a syllable of Hangul

is_syllable_break : GraphemeClusterBreak → Bool
is_syllable_break Lv = true
is_syllable_break Lvt = true
is_syllable_break _ = false

syllable_facts : (c : ℕ) → in_ranges syllables c ≡ true → (is_syllable_break (grapheme_cluster_break c) && not (is_linking (indic_conjunct_break c))) ≡ true
unfolding is_syllable_break tables ucd_breaks ucd_derived
syllable_facts =
    throughout (λ is. is) (λ c. is_syllable_break (grapheme_cluster_break c) && not (is_linking (indic_conjunct_break c)))
    (zip_stepped (λ g v. is_syllable_break g && not (is_linking v)) grapheme_cluster_break indic_conjunct_break grapheme_cluster_break_stepped indic_conjunct_break_stepped)
    syllables refl refl

ends_facts : (c : ℕ) → (not (in_ranges syllables c || in_ranges lone_ranges c) || (is_syllable_break (grapheme_cluster_break c) || is_other (grapheme_cluster_break c))) ≡ true
unfolding is_syllable_break tables ucd_breaks
ends_facts =
    Stepped-everywhere _
    (zip_stepped (λ inside is. not inside || is) (λ c. in_ranges syllables c || in_ranges lone_ranges c) (λ c. is_syllable_break (grapheme_cluster_break c) || is_other (grapheme_cluster_break c))
    (zip_stepped (λ a b. a || b) (in_ranges syllables) (in_ranges lone_ranges) (of_ranges syllables refl) (of_ranges lone_ranges refl))
    (map_stepped (λ g. is_syllable_break g || is_other g) grapheme_cluster_break grapheme_cluster_break_stepped))
    refl

syllable_breaks : (left right : GraphemeClusterBreak) → is_syllable_break left ≡ true → (is_syllable_break right || is_other right) ≡ true
    → (unwrap_or (break_by_pair true left right) true ≡ true) × (is_zwj left ≡ false) × (is_regional left ≡ false)
unfolding is_syllable_break
syllable_breaks Lv Other l r = (refl, refl, refl)
syllable_breaks Lv Lv l r = (refl, refl, refl)
syllable_breaks Lv Lvt l r = (refl, refl, refl)
syllable_breaks Lvt Other l r = (refl, refl, refl)
syllable_breaks Lvt Lv l r = (refl, refl, refl)
syllable_breaks Lvt Lvt l r = (refl, refl, refl)
syllable_breaks Lv _ l r = absurd (false≢true r)
syllable_breaks Lvt _ l r = absurd (false≢true r)
syllable_breaks _ _ l r = absurd (false≢true l)

cut_syllable : (c : ℕ) (ds : List ℕ) → in_ranges syllables c ≡ true → ends_syllable ds ≡ true → Cut [] (c ∷ []) ds
unfolding cut is_grapheme_break ends_in_half_flag
cut_syllable c [] is ends = record { others = []; cuts = refl }
cut_syllable c (d ∷ ds) is ends =
    let facts = and_parts (is_syllable_break (grapheme_cluster_break c)) (not (is_linking (indic_conjunct_break c))) (syllable_facts c is) in
    let pair = syllable_breaks (grapheme_cluster_break c) (grapheme_cluster_break d) facts.0 (rw ends at (ends_facts d)) in
    let others = cut (is_grapheme_break true) (c ∷ []) (d ∷ ds) [] in
    let breaks : is_grapheme_break true (c ∷ []) (d ∷ ds ++ []) ≡ true =
    rw (ends_in_linker-not (indic_conjunct_break c) [] (not-true _ facts.1), pair.1, pair.2) pair.0 in
    record { others = others; cuts = ap (λ b. if b then (c ∷ []) ∷ others else prepend (c ∷ []) others) breaks }

pub first_syllable : (text rest : List ℕ) (c : ℕ) → IsUtf8 text → IsUtf8 rest → text ≡ encode_utf8 c ++ rest → in_ranges syllables c ≡ true
    → ends_syllable (chars rest) ≡ true → IsFirstCluster text (length text - length rest)
first_syllable text rest c u v whole is ends = first_cut text rest (c ∷ []) u v (one text rest c whole) (cut_syllable c (chars rest) is ends)

-- ---- the first marks

low_facts : (c : ℕ) → in_ranges ((0, 0x2FF) ∷ []) c ≡ true → not (is_joined (grapheme_cluster_break c)) ≡ true
unfolding tables ucd_breaks
low_facts = throughout (λ g. not (is_joined g)) grapheme_cluster_break grapheme_cluster_break_stepped ((0, 0x2FF) ∷ []) refl refl

low_apart : (c : ℕ) → c < 768 → is_joined (grapheme_cluster_break c) ≡ false
unfolding in_ranges
low_apart c low =
    let inside : in_ranges ((0, 0x2FF) ∷ []) c ≡ true = grind (arith, nat_tests) in not-true _ (low_facts c inside)

starts_apart-from : (text rest : List ℕ) (c : ℕ) → IsUtf8 text → text ≡ encode_utf8 c ++ rest → is_joined (grapheme_cluster_break c) ≡ false → starts_apart (chars text) ≡ true
starts_apart-from text rest c u whole apart = ap starts_apart (chars_past_char text rest c u whole) ∙ ap not apart

pub starts_low : (text rest : List ℕ) (c : ℕ) → IsUtf8 text → text ≡ encode_utf8 c ++ rest → c < 768 → starts_apart (chars text) ≡ true
starts_low text rest c u whole low = starts_apart-from text rest c u whole (low_apart c low)

pub starts_alone : (text rest : List ℕ) (c : ℕ) → IsUtf8 text → text ≡ encode_utf8 c ++ rest → stands_alone c ≡ true → starts_apart (chars text) ≡ true
starts_alone text rest c u whole alone =
    let other = other-is (grapheme_cluster_break c) (and_parts _ (not (is_linking (indic_conjunct_break c))) alone).0 in
    starts_apart-from text rest c u whole (ap is_joined other)

pub joins_behind : (text rest : List ℕ) (c : ℕ) → IsUtf8 text → text ≡ encode_utf8 c ++ rest → starts_apart (chars text) ≡ false → is_joined (grapheme_cluster_break c) ≡ true
joins_behind text rest c u whole joined =
    let first : not (is_joined (grapheme_cluster_break c)) ≡ false = sym (ap starts_apart (chars_past_char text rest c u whole)) ∙ joined in grind (arith, first)

shorter : (text rest : List ℕ) (c : ℕ) → text ≡ encode_utf8 c ++ rest → length rest < length text
shorter text rest c whole =
    let some : 1 ≤ length (encode_utf8 c) = rw (length-encode c) (grind (arith, nat_tests)) in
    let parts = ap length whole ∙ length-append (encode_utf8 c) rest in
    omega (arith, some, parts)

pub shorter_behind : (text rest : List ℕ) → GoesOn text rest → length rest < length text
shorter_behind text rest (inl (c, whole, is)) = shorter text rest c whole
shorter_behind text rest (inr (c, whole, is)) =
    let parts = ap length whole ∙ length-append (encode_utf8_all (0x200D ∷ c ∷ [])) rest in
    let some : 1 ≤ length (encode_utf8_all (0x200D ∷ c ∷ [])) = omega (arith, length-append (encode_utf8 0x200D) (encode_utf8_all (c ∷ [])), joiner_bytes) in
    omega (arith, some, parts)
  where
    joiner_bytes : 1 ≤ length (encode_utf8 0x200D)
    joiner_bytes = rw (length-encode 0x200D) (grind (arith, nat_tests))

-- ---- the selector of emoji

selector_joins : is_joined (grapheme_cluster_break 0xFE0F) ≡ true
unfolding grapheme_cluster_break ucd_breaks tables
selector_joins = refl

pub selector_is_mark : is_plain_mark 0xFE0F ≡ true
unfolding grapheme_cluster_break indic_conjunct_break ucd_breaks ucd_derived tables
selector_is_mark = refl

pub starts_selected : (text rest : List ℕ) (c : ℕ) → IsUtf8 text → text ≡ encode_utf8 c ++ rest → c ≡ 0xFE0F → starts_apart (chars text) ≡ false
starts_selected text rest c u whole is = ap starts_apart (chars_past_char text rest c u whole) ∙ ap (λ d. not (is_joined (grapheme_cluster_break d))) is ∙ ap not selector_joins
