-- Characters that are a cluster each in a row of them, as their first bytes tell.
use Rattle.std.proofs.Common.{◌≡◌, ℕ, ◌<◌, ◌≤◌, ◌+◌, ◌-◌, ◌/◌, true, false, not, ◌⊎◌, ◌&&◌, List, [], ◌∷◌, ◌++◌, length, length-append, drop, drop_at, get_or, leb, refl, sym, ap, subst, ◌∙◌, arith, ⊎_elim}
use Rattle.std.proofs.lemmas.Bool.{cases_Bool, cases_lt, and_parts, leb-true}
use Rattle.std.proofs.lemmas.Bool.Decides.{nat_tests}
use Rattle.std.proofs.lemmas.Str.{chars-nil, encodes-chars, chars_past_char, length-encode, encode_ascii, IsCharBoundary-at_seam, IsUtf8-past_char}
use Rattle.std.specs.Char.{encode_utf8}
use Rattle.std.specs.Prelude.{encode_utf8_all}
use Rattle.std.specs.Str.{chars, IsCharBoundary, IsUtf8}
use Rattle.ucd_table.specs.Rows.{Range, in_ranges}
use Rattle.ucd_table.proofs.Computing.{tables}
use Rattle.ucd_table.proofs.Stepped.{zip_stepped, Stepped}
use Rattle.ucd_breaks.specs.GraphemeClusterBreak.{grapheme_cluster_break}
use Rattle.ucd_breaks.proofs.Computing.{ucd_breaks}
use Rattle.ucd_breaks.proofs.GraphemeClusterBreakLemmas.{grapheme_cluster_break_stepped}
use Rattle.ucd_derived.specs.IndicConjunctBreak.{indic_conjunct_break}
use Rattle.ucd_derived.proofs.Computing.{ucd_derived}
use Rattle.ucd_derived.proofs.IndicConjunctBreakLemmas.{indic_conjunct_break_stepped}
use Rattle.ucd_emoji.specs.Binary.{is_extended_pictographic}
use Rattle.ucd_emoji.proofs.BinaryLemmas.{is_extended_pictographic_stepped}
use Rattle.ucd_emoji.proofs.Computing.{ucd_emoji}
use Rattle.tw_surface.specs.Characters.{is_printable}
use Rattle.tw_surface.specs.Clusters.{is_linking, is_other, is_picture, picture_blocks, lone_columns, lone_len, lone_ranges, narrow_blocks, stands_alone, starts_apart, wide_blocks, IsFirstCluster}
use Rattle.tw_surface.proofs.TableFacts.{throughout}
use Rattle.tw_surface.proofs.OpeningLemmas.{first_opened, opens_alone, starts_alone}

-- Latin, Greek and Cyrillic of two bytes
abbrev pub two_bytes : List Range
two_bytes = (0xC0, 0x2FF) ∷ (0x380, 0x47F) ∷ []

-- Han
abbrev pub three_bytes : List Range
three_bytes = (0x4000, 0x9FFF) ∷ []

-- printable ASCII, or one of those
pub record IsLone (c width : ℕ) : Type 0 where
  pub bytes : length (encode_utf8 c) ≡ width
  pub ascii : width ≡ 1 → is_printable c ≡ true
  pub two : width ≡ 2 → in_ranges two_bytes c ≡ true
  pub three : width ≡ 3 → in_ranges three_bytes c ≡ true

len_one : (b : ℕ) → b < 128 → 0 < lone_len b → (lone_len b ≡ 1) × (is_printable b ≡ true)
len_one b low some = grind (arith, nat_tests)

len_two : (b : ℕ) → 192 ≤ b → b < 224 → 0 < lone_len b → (lone_len b ≡ 2) × (((195 ≤ b) × (b ≤ 203)) ⊎ ((206 ≤ b) × (b ≤ 209)))
len_two b low high some = grind (arith, nat_tests)

len_three : (b : ℕ) → 224 ≤ b → b < 240 → 0 < lone_len b → (lone_len b ≡ 3) × (228 ≤ b) × (b ≤ 233)
len_three b low high some = grind (arith, nat_tests)

len_four : (b : ℕ) → 240 ≤ b → lone_len b ≡ 0
len_four b low = grind (arith, nat_tests)

-- the first byte of a character
first_one : (c : ℕ) → c < 128 → get_or (encode_utf8 c) 0 0 ≡ c
first_one c low = ap (λ bs. get_or bs 0 0) (encode_ascii c low)

first_two : (c : ℕ) → 128 ≤ c → c < 2048 → get_or (encode_utf8 c) 0 0 ≡ 192 + c / 64
unfolding encode_utf8
first_two c low high = grind (arith, nat_tests)

first_three : (c : ℕ) → 2048 ≤ c → c < 65536 → get_or (encode_utf8 c) 0 0 ≡ 224 + c / 4096
unfolding encode_utf8
first_three c low high = grind (arith, nat_tests)

first_four : (c : ℕ) → 65536 ≤ c → get_or (encode_utf8 c) 0 0 ≡ 240 + c / 262144
unfolding encode_utf8
first_four c low = grind (arith, nat_tests)

many_high : (c : ℕ) → 128 ≤ c → 32 ≤ get_or (encode_utf8 c) 0 0
many_high c above =
    ⊎_elim (λ two. rw (first_two c (omega arith) two) (omega arith))
    (λ more. ⊎_elim (λ three. rw (first_three c more three) (omega arith)) (λ four. rw (first_four c four) (omega arith)) (cases_lt c 65536))
    (cases_lt c 2048)

pub lead_high : (c : ℕ) → 32 ≤ c → 32 ≤ get_or (encode_utf8 c) 0 0
lead_high c above = ⊎_elim (λ one. rw (encode_ascii c one) (omega (arith, above))) (λ more. many_high c more) (cases_lt c 128)

-- which such a byte tells
lone_one : (c b : ℕ) → b ≡ get_or (encode_utf8 c) 0 0 → 0 < lone_len b → c < 128 → IsLone c (lone_len b)
lone_one c b is some low =
    let found = len_one c low (subst (λ n. 0 < lone_len n) (is ∙ first_one c low) some) in
    let width : lone_len b ≡ 1 = ap lone_len (is ∙ first_one c low) ∙ found.0 in
    let bytes : length (encode_utf8 c) ≡ 1 = ap length (encode_ascii c low) in
    subst (IsLone c) (sym width)
    (record { bytes = bytes; ascii = λ h. found.1; two = λ h. absurd (omega arith); three = λ h. absurd (omega arith) })

lone_two : (c b : ℕ) → b ≡ get_or (encode_utf8 c) 0 0 → 0 < lone_len b → 128 ≤ c → c < 2048 → IsLone c (lone_len b)
unfolding in_ranges
lone_two c b is some low high =
    let lead = is ∙ first_two c low high in
    let found = len_two (192 + c / 64) (omega arith) (omega arith) (subst (λ n. 0 < lone_len n) lead some) in
    let bytes : length (encode_utf8 c) ≡ 2 = length-encode c ∙ grind (arith, nat_tests) in
    let inside : in_ranges two_bytes c ≡ true =
    ⊎_elim (λ latin. grind (arith, nat_tests, latin.0, latin.1)) (λ others. grind (arith, nat_tests, others.0, others.1)) found.1 in
    subst (IsLone c) (sym (ap lone_len lead ∙ found.0))
    (record { bytes = bytes; ascii = λ h. absurd (omega arith); two = λ h. inside; three = λ h. absurd (omega arith) })

lone_three : (c b : ℕ) → b ≡ get_or (encode_utf8 c) 0 0 → 0 < lone_len b → 2048 ≤ c → c < 65536 → IsLone c (lone_len b)
unfolding in_ranges
lone_three c b is some low high =
    let lead = is ∙ first_three c low high in
    let found = len_three (224 + c / 4096) (omega arith) (omega arith) (subst (λ n. 0 < lone_len n) lead some) in
    let bytes : length (encode_utf8 c) ≡ 3 = length-encode c ∙ grind (arith, nat_tests) in
    let inside : in_ranges three_bytes c ≡ true = grind (arith, nat_tests, found.1, found.2) in
    subst (IsLone c) (sym (ap lone_len lead ∙ found.0))
    (record { bytes = bytes; ascii = λ h. absurd (omega arith); two = λ h. absurd (omega arith); three = λ h. inside })

lone_four : (c b : ℕ) → b ≡ get_or (encode_utf8 c) 0 0 → 0 < lone_len b → 65536 ≤ c → IsLone c (lone_len b)
lone_four c b is some low =
    let none = ap lone_len (is ∙ first_four c low) ∙ len_four (240 + c / 262144) (omega arith) in absurd (omega arith)

lone_from_byte : (c b : ℕ) → b ≡ get_or (encode_utf8 c) 0 0 → 0 < lone_len b → IsLone c (lone_len b)
lone_from_byte c b is some =
    ⊎_elim (lone_one c b is some)
    (λ two. ⊎_elim (lone_two c b is some two)
    (λ three. ⊎_elim (lone_three c b is some three) (lone_four c b is some) (cases_lt c 65536))
    (cases_lt c 2048))
    (cases_lt c 128)

-- a text begins with such a character
pub record BeginsLone (text : List ℕ) : Type 0 where
  pub character : ℕ
  pub rest : List ℕ
  pub lone : IsLone character (lone_len (get_or text 0 0))
  pub whole : text ≡ encode_utf8 character ++ rest
  pub utf8 : IsUtf8 rest

pub get_or-front : (xs ys : List ℕ) → 0 < length xs → get_or xs 0 0 ≡ get_or (xs ++ ys) 0 0
get_or-front [] ys some = absurd (omega arith)
get_or-front (x ∷ xs) ys some = refl

pub some_bytes : (c : ℕ) → 0 < length (encode_utf8 c)
some_bytes c = let bytes : 1 ≤ length (encode_utf8 c) = rw (length-encode c) (grind (arith, nat_tests)) in omega arith

pub BeginsLone-from : (text : List ℕ) → IsUtf8 text → 0 < length text → 0 < lone_len (get_or text 0 0) → BeginsLone text
BeginsLone-from text u some lone = by (chars text) refl
  where
    by : (cs : List ℕ) → chars text ≡ cs → BeginsLone text
    by [] none = let empty : length text ≡ 0 = ap length (sym (encodes-chars text u) ∙ ap encode_utf8_all none) in absurd (omega arith)
    by (c ∷ cs) is =
        let whole : text ≡ encode_utf8 c ++ encode_utf8_all cs = sym (encodes-chars text u) ∙ ap encode_utf8_all is in
        let byte : get_or text 0 0 ≡ get_or (encode_utf8 c) 0 0 =
        ap (λ t. get_or t 0 0) whole ∙ sym (get_or-front (encode_utf8 c) (encode_utf8_all cs) (some_bytes c)) in
        record {
          character = c;
          rest = encode_utf8_all cs;
          lone = lone_from_byte c (get_or text 0 0) byte lone;
          whole = whole;
          utf8 = IsUtf8-past_char text (encode_utf8_all cs) c u whole;
        }

-- ---- what the tables say of them

abbrev alone_stepped : Stepped stands_alone
alone_stepped = zip_stepped (λ g v. is_other g && not (is_linking v)) grapheme_cluster_break indic_conjunct_break grapheme_cluster_break_stepped indic_conjunct_break_stepped

vedic_facts : (c : ℕ) → in_ranges ((0, 0x1CF4) ∷ []) c ≡ true → not (is_other (grapheme_cluster_break c) && is_linking (indic_conjunct_break c)) ≡ true
unfolding tables ucd_breaks ucd_derived
vedic_facts =
    throughout (λ is. is) (λ c. not (is_other (grapheme_cluster_break c) && is_linking (indic_conjunct_break c)))
    (zip_stepped (λ g v. not (is_other g && is_linking v)) grapheme_cluster_break indic_conjunct_break grapheme_cluster_break_stepped indic_conjunct_break_stepped)
    ((0, 0x1CF4) ∷ []) refl refl

pub alone_before_vedic : (c : ℕ) → c < 0x1CF5 → is_other (grapheme_cluster_break c) ≡ true → stands_alone c ≡ true
unfolding in_ranges
alone_before_vedic c low other =
    let inside : in_ranges ((0, 0x1CF4) ∷ []) c ≡ true = grind (arith, nat_tests) in rw other (rw other at (vedic_facts c inside))

pub alone_in_range : (c : ℕ) → in_ranges lone_ranges c ≡ true → stands_alone c ≡ true
unfolding tables ucd_breaks ucd_derived
alone_in_range = throughout (λ is. is) stands_alone alone_stepped lone_ranges refl refl

narrow_facts : (c : ℕ) → in_ranges narrow_blocks c ≡ true → stands_alone c ≡ true
unfolding tables ucd_breaks ucd_derived
narrow_facts = throughout (λ is. is) stands_alone alone_stepped narrow_blocks refl refl

wide_facts : (c : ℕ) → in_ranges wide_blocks c ≡ true → stands_alone c ≡ true
unfolding tables ucd_breaks ucd_derived
wide_facts = throughout (λ is. is) stands_alone alone_stepped wide_blocks refl refl

pub picture_in_block : (c : ℕ) → in_ranges picture_blocks c ≡ true → is_picture c ≡ true
unfolding tables ucd_breaks ucd_derived ucd_emoji
picture_in_block =
    throughout (λ is. is) is_picture (zip_stepped (λ alone extended. alone && extended) stands_alone is_extended_pictographic alone_stepped is_extended_pictographic_stepped)
    picture_blocks refl refl

in_lone_ranges : (c width : ℕ) → IsLone c width → 0 < width → width ≤ 3 → in_ranges lone_ranges c ≡ true
unfolding in_ranges
in_lone_ranges c width lone some few =
    ⊎_elim
    (λ one.
    let parts = and_parts (leb 32 c) (leb c 126) (lone.ascii (omega arith)) in
    let low : 32 ≤ c = leb-true _ _ parts.0 in
    let high : c ≤ 126 = leb-true _ _ parts.1 in
    grind (arith, nat_tests))
    (λ more. ⊎_elim (λ two. let inside = lone.two (omega arith) in grind (arith, nat_tests, inside))
    (λ three. let inside = lone.three (omega arith) in grind (arith, nat_tests, inside))
    (cases_lt width 3))
    (cases_lt width 2)

-- what is in no block has no columns there
pub no_columns : (c : ℕ) → in_ranges narrow_blocks c ≡ false → in_ranges wide_blocks c ≡ false → lone_columns c ≡ 0
no_columns c narrow wide = rw (narrow, wide) refl

pub alone_in_block : (c : ℕ) → 0 < lone_columns c → stands_alone c ≡ true
alone_in_block c some =
    ⊎_elim (narrow_facts c)
    (λ other. ⊎_elim (wide_facts c)
    (λ none. absurd (omega (arith, some, no_columns c other none)))
    (cases_Bool (in_ranges wide_blocks c)))
    (cases_Bool (in_ranges narrow_blocks c))

pub lone_len-few : (b : ℕ) → lone_len b ≤ 3
lone_len-few b = grind (arith, nat_tests)

-- a character that its first byte tells
range_by_byte : (text : List ℕ) → 0 < lone_len (get_or text 0 0) → (first : BeginsLone text) → in_ranges lone_ranges first.character ≡ true
range_by_byte text lone first = in_lone_ranges first.character _ first.lone lone (lone_len-few (get_or text 0 0))

pub alone_by_byte : (text : List ℕ) → 0 < lone_len (get_or text 0 0) → (first : BeginsLone text) → stands_alone first.character ≡ true
alone_by_byte text lone first = alone_in_range first.character (range_by_byte text lone first)

-- and it is no control character
range_high : (c : ℕ) → in_ranges lone_ranges c ≡ true → 32 ≤ c
unfolding in_ranges
range_high c inside = grind (arith, nat_tests, inside)

pub high_by_byte : (text : List ℕ) → 0 < lone_len (get_or text 0 0) → (first : BeginsLone text) → 32 ≤ first.character
high_by_byte text lone first = range_high first.character (range_by_byte text lone first)

pub some_of : (n : ℕ) → (n ≡ 0 → ⊥) → 0 < n
some_of n not_none = ⊎_elim (λ none. absurd (not_none (omega (arith, none)))) (λ more. omega (arith, more)) (cases_lt n 1)

-- a text that is one character
pub only_character : (text rest : List ℕ) (c : ℕ) → IsUtf8 text → text ≡ encode_utf8 c ++ rest → length text ≤ length (encode_utf8 c) → chars text ≡ c ∷ []
only_character text rest c u whole end =
    let parts : length text ≡ length (encode_utf8 c) + length rest = ap length whole ∙ length-append (encode_utf8 c) rest in
    let none : rest ≡ [] = length-zero rest (omega (arith, parts)) in
    chars_past_char text rest c u whole ∙ ap (λ t. c ∷ chars t) none ∙ ap (λ t. c ∷ t) chars-nil
  where
    length-zero : (xs : List ℕ) → length xs ≡ 0 → xs ≡ []
    length-zero [] e = refl
    length-zero (x ∷ xs) e = absurd (omega arith)

-- ---- first clusters of such texts

pub lone_starts_apart : (text : List ℕ) → IsUtf8 text → 0 < length text → 0 < lone_len (get_or text 0 0) → starts_apart (chars text) ≡ true
lone_starts_apart text u some lone =
    let first = BeginsLone-from text u some lone in starts_alone text first.rest first.character u first.whole (alone_by_byte text lone first)

pub lone_boundary : (text : List ℕ) (len : ℕ) → IsUtf8 text → 0 < length text → len ≡ lone_len (get_or text 0 0) → 0 < len → IsCharBoundary text len
lone_boundary text len u some is lone =
    let first = BeginsLone-from text u some (rw (← is) lone) in
    subst (IsCharBoundary text) (first.lone.bytes ∙ sym is) (IsCharBoundary-at_seam text (encode_utf8 first.character) first.rest first.whole first.utf8)

pub nothing_starts_apart : (text : List ℕ) → length text ≡ 0 → starts_apart (chars text) ≡ true
nothing_starts_apart [] none = ap starts_apart chars-nil
nothing_starts_apart (b ∷ bs) none = absurd (omega arith)

pub first_by_byte : (text : List ℕ) → IsUtf8 text → 0 < length text → (len : ℕ) → len ≡ lone_len (get_or text 0 0) → 0 < len
    → starts_apart (chars (drop len text)) ≡ true → IsFirstCluster text len
first_by_byte text u some len is lone apart =
    let first = BeginsLone-from text u some (rw (← is) lone) in
    let c = first.character in
    let bytes : length (encode_utf8 c) ≡ len = first.lone.bytes ∙ sym is in
    let from : drop len text ≡ first.rest = ap (drop len) first.whole ∙ drop_at (encode_utf8 c) first.rest len bytes in
    let parts = ap length first.whole ∙ length-append (encode_utf8 c) first.rest in
    let size : length text - length first.rest ≡ len = omega (arith, parts, bytes) in
    subst (IsFirstCluster text) size
    (first_opened text first.rest u first.utf8 (opens_alone text first.rest c first.whole (alone_by_byte text (rw (← is) lone) first))
    (subst (λ t. starts_apart (chars t) ≡ true) from apart))
