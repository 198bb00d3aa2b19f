-- Characters that take one cell: their numbers, their bytes, and what is drawn and sent of them.
use Rattle.std.proofs.Common.{◌≡◌, ℕ, zero, suc, ◌<◌, ◌≤◌, ◌+◌, ◌*◌, ◌/◌, ◌%◌, Bool, true, false, not, ◌&&◌, ◌||◌, cond, eqb, leb, ltb, Option, Some, None, List, [], ◌∷◌, ◌++◌, append-nil, ap, subst, ◌∙◌, sym, refl, inl, inr, arith}
use Rattle.std.proofs.lemmas.Bool.{cases_eq, cases_lt, and_parts, or_cases, eq-eqb, ne_eqb, eqb-true, le-leb, lt-leb, lt-ltb, le-ltb, ltb-true, leb-true, false≢true}
use Rattle.std.proofs.lemmas.Bool.Decides.{nat_tests}
use Rattle.std.proofs.lemmas.Nat.{div-mul-add, mod-mul-add}
use Rattle.std.proofs.lemmas.Str.{IsUtf8-encode, chars_from_encodes, encode_ascii, encode_same}
use Rattle.std.specs.Prelude.{encode_utf8, chars, unwrap_or}
use Rattle.std.specs.Char.{IsScalar, is_control}
use Rattle.std.specs.List.{list_all, list_any, sum_by, flat_map}
use Rattle.std.specs.Cmp.Lexicographic.{pointwise}
use Rattle.unicode_segmentation.specs.Grapheme.{graphemes, is_grapheme_break}
use Rattle.unicode_segmentation.specs.Segments.{cut}
use Rattle.unicode_width.specs.Kind.{kind}
use Rattle.unicode_width.specs.Width.{alone, char_width, of_kind, past_emoji, step, str_width}
use Rattle.unicode_width.proofs.Rules.{str_width-printable}
use Rattle.tw_surface.specs.Characters.{is_plain, is_printable}
use Rattle.tw_surface.specs.declared.measure.Piece.TheVariants.{Cr, Lf, CrLf, Wide}
use Rattle.tw_surface.specs.Places.{cluster_piece, plain_piece}
use Rattle.tw_surface.specs.Width.{char_columns, cluster_width}
use Rattle.tw_surface.proofs.ClusterCuts.{clusters_of}
use Rattle.laws_screens.specs.Glyphs.{Glyph, glyphs, glyphs_of_piece}
use Rattle.laws_screens.specs.Glyphs.Glyph.{Cluster}
use Rattle.laws_screens.specs.StyledCells.{cluster_number}
use Rattle.laws_screens.proofs.PlainGlyphs.{plain_glyphs, printable_glyph}
use Rattle.tw_ansi.specs.declared.encode.Encoder.{Encoder}
use Rattle.tw_ansi.specs.Encoding.{Sent, sent_byte, sent_cluster, sent_clusters, sent_columns, sent_feed, sent_plain, sent_return, sent_return_feed, sent_text, shown_as}
use Rattle.tw_ansi.specs.KeyBytes.{following_len}
use Rattle.tw_ansi.specs.EcmaScreen.{columns_of}
use Rattle.tw_ansi.specs.EcmaTexts.{are_marks, is_character, is_character_by, is_lone, is_sent, is_sent_cluster}
use Rattle.tw_ansi.proofs.EcmaPaintings.{plain_sent}
use Rattle.tw_ansi.proofs.WideCharacters.{encode_two, encode_three, encode_four, one_follows, two_follow, three_follow}
use Rattle.tw_sparing.specs.SingleCharacters.{IsSingle, character_number, base_digits, is_single, number_bytes}

-- ---- numbers

digits_one : (k n : ℕ) → n < 256 → base_digits k n ≡ n ∷ []
digits_one zero n low = refl
digits_one (suc k) n low = ap (λ t. cond t (n ∷ []) (base_digits k (n / 256) ++ n % 256 ∷ [])) (lt-ltb n 256 low)

digits_more : (k n b : ℕ) → 0 < n → b < 256 → base_digits (suc k) (n * 256 + b) ≡ base_digits k n ++ b ∷ []
digits_more k n b some low =
    ap (λ t. cond t ((n * 256 + b) ∷ []) (base_digits k ((n * 256 + b) / 256) ++ (n * 256 + b) % 256 ∷ [])) (le-ltb (n * 256 + b) 256 (omega (arith, some)))
    ∙ ap (λ m. base_digits k m ++ (n * 256 + b) % 256 ∷ []) (div-mul-add n 256 b low)
    ∙ ap (λ m. base_digits k n ++ m ∷ []) (mod-mul-add n 256 b low)

pub printable_number : (c : ℕ) → c < 128 → character_number c ≡ c
printable_number c low = ap (λ t. cond t c (cluster_number (encode_utf8 c))) (lt-ltb c 128 low)

pub number_is : (c : ℕ) → character_number c ≡ cluster_number (encode_utf8 c)
number_is c = elim (cases_lt c 128) [
  | inl low ↦ printable_number c low ∙ sym (ap cluster_number (encode_ascii c low))
  | inr high ↦ ap (λ t. cond t c (cluster_number (encode_utf8 c))) (le-ltb c 128 high)
]

-- the bytes of a character's number are its bytes
pub bytes_back : (c : ℕ) → number_bytes (character_number c) ≡ encode_utf8 c
bytes_back c = elim (cases_lt c 128) [
  | inl low ↦ ap number_bytes (printable_number c low) ∙ digits_one 3 c (omega (arith, low)) ∙ sym (encode_ascii c low)
  | inr high ↦ elim (cases_lt c 2048) [
    | inl two ↦ by_bytes (encode_two c high two) (digits_more 2 (192 + c / 64) (128 + c % 64) (omega arith) (omega arith) ∙ ap (λ l. l ++ (128 + c % 64) ∷ []) (digits_one 2 (192 + c / 64) (omega (arith, two))))
    | inr more ↦ elim (cases_lt c 65536) [
      | inl three ↦ by_bytes (encode_three c more three) (
          digits_more 2 ((224 + c / 4096) * 256 + (128 + c / 64 % 64)) (128 + c % 64) (omega arith) (omega arith)
          ∙ ap (λ l. l ++ (128 + c % 64) ∷ []) (digits_more 1 (224 + c / 4096) (128 + c / 64 % 64) (omega arith) (omega arith))
          ∙ ap (λ l. (l ++ (128 + c / 64 % 64) ∷ []) ++ (128 + c % 64) ∷ []) (digits_one 1 (224 + c / 4096) (omega (arith, three))))
      | inr four ↦ by_bytes (encode_four c four) (
          digits_more 2 (((240 + c / 262144) * 256 + (128 + c / 4096 % 64)) * 256 + (128 + c / 64 % 64)) (128 + c % 64) (omega arith) (omega arith)
          ∙ ap (λ l. l ++ (128 + c % 64) ∷ []) (digits_more 1 ((240 + c / 262144) * 256 + (128 + c / 4096 % 64)) (128 + c / 64 % 64) (omega arith) (omega arith))
          ∙ ap (λ l. (l ++ (128 + c / 64 % 64) ∷ []) ++ (128 + c % 64) ∷ []) (digits_more 0 (240 + c / 262144) (128 + c / 4096 % 64) (omega arith) (omega arith)))
    ]
  ]
]
  where
    by_bytes : {bytes : List ℕ} → encode_utf8 c ≡ bytes → number_bytes (cluster_number bytes) ≡ bytes → number_bytes (character_number c) ≡ encode_utf8 c
    by_bytes e back = ap number_bytes (number_is c ∙ ap cluster_number e) ∙ back ∙ sym e

same_character : (a b : ℕ) → character_number a ≡ character_number b → a ≡ b
same_character a b e =
    let same : encode_utf8 a ≡ encode_utf8 b = sym (bytes_back a) ∙ ap number_bytes e ∙ bytes_back b in
    (encode_same a b [] [] (ap (λ l. l ++ []) same)).0

pub same_number : (a b : ℕ) → eqb (character_number a) (character_number b) ≡ eqb a b
same_number a b = elim (cases_eq a b) [
  | inl e ↦ eq-eqb _ _ (ap character_number e) ∙ sym (eq-eqb a b e)
  | inr n ↦ ne_eqb _ _ (λ e. n (same_character a b e)) ∙ sym (ne_eqb a b n)
]

-- another character than one of one column has another number
pub not_single : (c : ℕ) → is_single c ≡ false → IsSingle (character_number c) → ⊥
not_single c other is = false≢true (sym other ∙ ap is_single (same_character c is.0 is.3) ∙ is.2)

-- ---- the bytes of a character above U+00A0

not_printable : (b : ℕ) → 127 ≤ b → is_printable b ≡ false
not_printable b high = ap (λ t. t && leb b 126) (le-leb 32 b (omega (arith, high))) ∙ lt-leb b 126 (omega (arith, high))

not_plain : (b : ℕ) → 127 ≤ b → is_plain b ≡ false
not_plain b high =
    ap (λ t. (t || eqb b 10) || is_printable b) (ne_eqb b 13 (λ e. omega (arith, e, high)))
    ∙ ap (λ t. t || is_printable b) (ne_eqb b 10 (λ e. omega (arith, e, high))) ∙ not_printable b high

-- a character begins with a byte that is no line end, and is one that a terminal writes in one column
pub record Begins (c : ℕ) : Type 0 where
  pub lead : ℕ
  pub more : List ℕ
  pub bytes : encode_utf8 c ≡ lead ∷ more
  pub high : 32 ≤ lead
  pub character : is_character 1 (lead ∷ more) ≡ true

begins_high : (lead : ℕ) (more : List ℕ) → 194 ≤ lead → is_character_by 1 (lead ∷ []) more ≡ true → is_character 1 (lead ∷ more) ≡ true
begins_high lead [] high is = absurd (false≢true is)
begins_high lead (b ∷ bytes) high is =
    ap (λ t. (t && are_marks [] (b ∷ bytes)) || (leb 194 lead && is_character_by 1 (lead ∷ []) (b ∷ bytes))) (not_printable lead (omega (arith, high)))
    ∙ ap (λ t. t && is_character_by 1 (lead ∷ []) (b ∷ bytes)) (le-leb 194 lead high) ∙ is

module _ (a b : ℕ) (follows : following_len a ≡ 1) (one : columns_of (a ∷ b ∷ []) ≡ 1) where
  two_typed : is_character_by 1 (a ∷ []) (b ∷ []) ≡ true
  two_typed = ap (λ n. cond (eqb 1 n) (eqb (columns_of (a ∷ b ∷ [])) 1 && true) false) follows ∙ ap (λ n. eqb n 1 && true) one

module _ (a b c : ℕ) (follow : following_len a ≡ 2) (one : columns_of (a ∷ b ∷ c ∷ []) ≡ 1) where
  three_typed : is_character_by 1 (a ∷ []) (b ∷ c ∷ []) ≡ true
  three_typed =
      let last : Bool = cond (eqb 2 (following_len a)) (eqb (columns_of (a ∷ b ∷ c ∷ [])) 1 && true) false in
      ap (λ n. cond (eqb 1 n) (eqb (columns_of (a ∷ b ∷ [])) 1 && are_marks [] (c ∷ [])) last) follow
      ∙ ap (λ n. cond (eqb 2 n) (eqb (columns_of (a ∷ b ∷ c ∷ [])) 1 && true) false) follow ∙ ap (λ n. eqb n 1 && true) one

module _ (a b c d : ℕ) (follow : following_len a ≡ 3) (one : columns_of (a ∷ b ∷ c ∷ d ∷ []) ≡ 1) where
  four_typed : is_character_by 1 (a ∷ []) (b ∷ c ∷ d ∷ []) ≡ true
  four_typed =
      let last : Bool = cond (eqb 3 (following_len a)) (eqb (columns_of (a ∷ b ∷ c ∷ d ∷ [])) 1 && true) false in
      let third : Bool = cond (eqb 2 (following_len a)) (eqb (columns_of (a ∷ b ∷ c ∷ [])) 1 && are_marks [] (d ∷ [])) last in
      ap (λ n. cond (eqb 1 n) (eqb (columns_of (a ∷ b ∷ [])) 1 && are_marks [] (c ∷ d ∷ [])) third) follow
      ∙ ap (λ n. cond (eqb 2 n) (eqb (columns_of (a ∷ b ∷ c ∷ [])) 1 && are_marks [] (d ∷ [])) last) follow
      ∙ ap (λ n. cond (eqb 3 n) (eqb (columns_of (a ∷ b ∷ c ∷ d ∷ [])) 1 && true) false) follow ∙ ap (λ n. eqb n 1 && true) one

-- such a one of several bytes
record Several (c : ℕ) : Type 0 where
  begins : Begins c
  high : 194 ≤ begins.lead

several : (c : ℕ) → 160 < c → columns_of (encode_utf8 c) ≡ 1 → Several c
several c high one = elim (cases_lt c 2048) [
  | inl two ↦
      let bytes = encode_two c (omega (arith, high)) two in
      record {
        begins = record {
          lead = 192 + c / 64;
          more = (128 + c % 64) ∷ [];
          bytes = bytes;
          high = omega arith;
          character = begins_high (192 + c / 64) ((128 + c % 64) ∷ []) (omega (arith, high))
              (two_typed (192 + c / 64) (128 + c % 64) (one_follows (192 + c / 64) (omega (arith, two))) (ap columns_of (sym bytes) ∙ one));
        };
        high = omega (arith, high);
      }
  | inr more ↦ elim (cases_lt c 65536) [
    | inl three ↦
        let bytes = encode_three c more three in
        record {
          begins = record {
            lead = 224 + c / 4096;
            more = (128 + c / 64 % 64) ∷ (128 + c % 64) ∷ [];
            bytes = bytes;
            high = omega arith;
            character = begins_high (224 + c / 4096) ((128 + c / 64 % 64) ∷ (128 + c % 64) ∷ []) (omega arith)
                (three_typed (224 + c / 4096) (128 + c / 64 % 64) (128 + c % 64) (two_follow (224 + c / 4096) (omega arith) (omega (arith, three))) (ap columns_of (sym bytes) ∙ one));
          };
          high = omega arith;
        }
    | inr four ↦
        let bytes = encode_four c four in
        record {
          begins = record {
            lead = 240 + c / 262144;
            more = (128 + c / 4096 % 64) ∷ (128 + c / 64 % 64) ∷ (128 + c % 64) ∷ [];
            bytes = bytes;
            high = omega arith;
            character = begins_high (240 + c / 262144) ((128 + c / 4096 % 64) ∷ (128 + c / 64 % 64) ∷ (128 + c % 64) ∷ []) (omega arith)
                (four_typed (240 + c / 262144) (128 + c / 4096 % 64) (128 + c / 64 % 64) (128 + c % 64) (three_follow (240 + c / 262144) (omega arith)) (ap columns_of (sym bytes) ∙ one));
          };
          high = omega arith;
        }
  ]
]

-- ---- its columns, as a cluster of its own

width_is : (w : Option ℕ) → unwrap_or w 0 ≡ 1 → Some 1 ≡ w
width_is None e = absurd (omega (arith, e))
width_is (Some n) e = ap Some (sym e)

some_is : (m n : ℕ) → Some m ≡ Some n → m ≡ n
some_is m n same = cc

width_of_one : (c n : ℕ) → 160 < c → (of_kind false c (kind c)).0 ≡ n → str_width false (c ∷ []) ≡ n
unfolding str_width step past_emoji alone
width_of_one c n high own = grind (arith, nat_tests, own)

own_columns : (c columns : ℕ) → 160 < c → Some columns ≡ char_width false c → str_width false (c ∷ []) ≡ columns
unfolding char_width alone
own_columns c columns high is =
    let own : Some columns ≡ Some (of_kind false c (kind c)).0 = is ∙ grind (arith, nat_tests) in
    width_of_one c columns high (sym (some_is columns _ own))

wide_control : (c : ℕ) → 160 < c → is_control c ≡ false
wide_control c high = grind (arith, nat_tests, high)

printable_control : (c : ℕ) → 32 ≤ c → c ≤ 126 → is_control c ≡ false
printable_control c low few = grind (arith, nat_tests, low, few)

printable_width : (c : ℕ) → 32 ≤ c → c ≤ 126 → str_width false (c ∷ []) ≡ 1
printable_width c low few = str_width-printable false (c ∷ []) (grind (arith, nat_tests, low, few))

only_cluster : (bytes : List ℕ) (c : ℕ) → chars bytes ≡ c ∷ [] → graphemes true bytes ≡ (encode_utf8 c ++ []) ∷ []
unfolding cut is_grapheme_break
only_cluster bytes c is = clusters_of bytes (c ∷ []) is

-- ---- what is drawn and sent

-- the bytes of a text of one cluster of one column, whose number this is
pub record IsTyped (bytes : List ℕ) (n : ℕ) : Type 0 where
  pub number : cluster_number bytes ≡ n
  pub drawn : glyphs bytes ≡ Cluster bytes 1 ∷ []
  pub sent : (w : ℕ) → 0 < w → is_sent w bytes ≡ true
  pub typed : (e : Encoder) → sent_text bytes e ≡ record { bytes = (sent_columns e 1 bytes).bytes; next = (sent_columns e 1 bytes).next }

-- and of such a cluster in any text
pub record IsOne (bytes : List ℕ) : Type 0 where
  pub piece : cluster_piece bytes ≡ Wide 1
  pub sent : (w : ℕ) → 0 < w → is_sent_cluster w bytes ≡ true

sent_one : (e : Encoder) (bytes : List ℕ) (s : Sent) → s ≡ sent_columns e 1 bytes
    → (let y : Sent = record { bytes = s.bytes ++ []; next = s.next } in y) ≡ record { bytes = (sent_columns e 1 bytes).bytes; next = (sent_columns e 1 bytes).next }
sent_one e bytes s is =
    ap (λ (s : Sent). let y : Sent = record { bytes = s.bytes ++ []; next = s.next } in y) is
    ∙ ap (λ l. let y : Sent = record { bytes = l; next = (sent_columns e 1 bytes).next } in y) (append-nil (sent_columns e 1 bytes).bytes)

pub chars_are : (c : ℕ) → IsScalar c → chars (encode_utf8 c) ≡ c ∷ []
chars_are c scalar = sym (chars_from_encodes (c ∷ []) (encode_utf8 c) (IsUtf8-encode c scalar) (append-nil (encode_utf8 c)))

-- a character of one column, as a cluster of its own
module _ (c : ℕ) (scalar : IsScalar c) (begins : Begins c) (own : str_width false (c ∷ []) ≡ 1) (no_control : is_control c ≡ false) where
  abbrev bytes : List ℕ
  bytes = encode_utf8 c

  width : cluster_width bytes ≡ 1
  width = ap (str_width false) (chars_are c scalar) ∙ own

  no_line_end : (more : List ℕ) (end : ℕ) → end < 32 → pointwise eqb bytes (end ∷ more) ≡ false
  no_line_end more end few =
      ap (λ l. pointwise eqb l (end ∷ more)) begins.bytes
      ∙ ap (λ t. t && pointwise eqb begins.more more) (ne_eqb begins.lead end (let high = begins.high in λ e. omega (arith, e, high, few)))

  controls : list_any is_control (chars bytes) ≡ false
  controls = ap (list_any is_control) (chars_are c scalar) ∙ ap (λ t. t || false) no_control

  lone : (w : ℕ) → 0 < w → is_lone w bytes ≡ true
  lone w some =
      let typed : is_character 1 bytes ≡ true = ap (is_character 1) begins.bytes ∙ begins.character in
      ap (λ n. is_character n bytes && (not (list_any is_control (chars bytes)) && (ltb 0 n && leb n w))) width
      ∙ ap (λ t. t && (not (list_any is_control (chars bytes)) && leb 1 w)) typed
      ∙ ap (λ t. not t && leb 1 w) controls ∙ le-leb 1 w some

  pub one_cluster : IsOne bytes
  one_cluster = record {
    piece = ap (λ t. cond t Cr (cond (pointwise eqb bytes (10 ∷ [])) Lf (cond (pointwise eqb bytes (13 ∷ 10 ∷ [])) CrLf (Wide (cluster_width bytes))))) (no_line_end [] 13 (omega arith))
        ∙ ap (λ t. cond t Lf (cond (pointwise eqb bytes (13 ∷ 10 ∷ [])) CrLf (Wide (cluster_width bytes)))) (no_line_end [] 10 (omega arith))
        ∙ ap (λ t. cond t CrLf (Wide (cluster_width bytes))) (no_line_end (10 ∷ []) 13 (omega arith)) ∙ ap Wide width;
    sent = λ w some.
        ap (λ t. t || (pointwise eqb bytes (10 ∷ []) || (pointwise eqb bytes (13 ∷ 10 ∷ []) || is_lone w bytes))) (no_line_end [] 13 (omega arith))
        ∙ ap (λ t. t || (pointwise eqb bytes (13 ∷ 10 ∷ []) || is_lone w bytes)) (no_line_end [] 10 (omega arith))
        ∙ ap (λ t. t || is_lone w bytes) (no_line_end (10 ∷ []) 13 (omega arith)) ∙ lone w some;
  }

  pub sent_is : (e : Encoder) → sent_cluster e bytes ≡ sent_columns e 1 bytes
  sent_is e =
      let shown : Sent = sent_columns e (cluster_width bytes) (shown_as bytes) in
      ap (λ t. cond t (sent_return e) (cond (pointwise eqb bytes (10 ∷ [])) (sent_feed e) (cond (pointwise eqb bytes (13 ∷ 10 ∷ [])) (sent_return_feed e) shown))) (no_line_end [] 13 (omega arith))
      ∙ ap (λ t. cond t (sent_feed e) (cond (pointwise eqb bytes (13 ∷ 10 ∷ [])) (sent_return_feed e) shown)) (no_line_end [] 10 (omega arith))
      ∙ ap (λ t. cond t (sent_return_feed e) shown) (no_line_end (10 ∷ []) 13 (omega arith))
      ∙ ap (λ n. sent_columns e n (shown_as bytes)) width ∙ ap (λ t. sent_columns e 1 (cond t (63 ∷ []) bytes)) controls

-- a printable character of ASCII

module _ (c : ℕ) (printable : is_printable c ≡ true) where
  low : 32 ≤ c
  low = leb-true 32 c (and_parts _ _ printable).0

  pub few : c ≤ 126
  few = leb-true c 126 (and_parts _ _ printable).1

  plain : is_plain c ≡ true
  plain = ap (λ t. (t || eqb c 10) || is_printable c) (ne_eqb c 13 (λ e. omega (arith, e, low))) ∙ ap (λ t. t || is_printable c) (ne_eqb c 10 (λ e. omega (arith, e, low))) ∙ printable

  printable_one : IsScalar c → IsOne (encode_utf8 c)
  printable_one scalar =
      one_cluster c scalar (record {
        lead = c;
        more = [];
        bytes = encode_ascii c (let most = few in omega (arith, most));
        high = low;
        character = ap (λ t. (t && true) || (leb 194 c && false)) printable;
      }) (printable_width c low few) (printable_control c low few)

  printable_typed : IsTyped (c ∷ []) c
  printable_typed = record {
    number = refl;
    drawn = plain_glyphs (c ∷ []) (ap (λ t. t && true) plain) ∙ ap (λ g. g ∷ []) (printable_glyph c printable);
    sent = λ w some. plain_sent w (c ∷ []) (ap (λ t. t && true) plain);
    typed = λ e. ap (λ t. cond (t && true) (sent_plain (c ∷ []) e) (sent_clusters (graphemes true (c ∷ [])) e)) plain
        ∙ sent_one e (c ∷ []) (sent_byte e c) (
        ap (λ t. cond t (sent_return e) (cond (eqb c 10) (sent_feed e) (sent_columns e 1 (c ∷ [])))) (ne_eqb c 13 (λ e. omega (arith, e, low)))
        ∙ ap (λ t. cond t (sent_feed e) (sent_columns e 1 (c ∷ []))) (ne_eqb c 10 (λ e. omega (arith, e, low))));
  }

-- a character above U+00A0

module _ (c : ℕ) (high : 160 < c) (scalar : IsScalar c) (columns : char_columns c ≡ 1) where
  one_column : columns_of (encode_utf8 c) ≡ 1
  one_column = ap (sum_by char_columns) (chars_are c scalar) ∙ omega (arith, columns)

  shape : Several c
  shape = several c high one_column

  own : str_width false (c ∷ []) ≡ 1
  own = own_columns c 1 high (width_is (char_width false c) columns)

  pub wide_one : IsOne (encode_utf8 c)
  wide_one = one_cluster c scalar shape.begins own (wide_control c high)

  clusters_are : graphemes true (encode_utf8 c) ≡ encode_utf8 c ∷ []
  clusters_are = only_cluster (encode_utf8 c) c (chars_are c scalar) ∙ ap (λ l. l ∷ []) (append-nil (encode_utf8 c))

  other : list_all is_plain (encode_utf8 c) ≡ false
  other = ap (list_all is_plain) shape.begins.bytes ∙ ap (λ t. t && list_all is_plain shape.begins.more) (not_plain shape.begins.lead (let high = shape.high in omega (arith, high)))

  wide_drawn : glyphs (encode_utf8 c) ≡ Cluster (encode_utf8 c) 1 ∷ []
  unfolding glyphs
  wide_drawn =
      let bytes : List ℕ = encode_utf8 c in
      let plain : List Glyph = flat_map (λ ch. glyphs_of_piece (ch ∷ []) (plain_piece ch)) (encode_utf8 c) in
      ap (λ t. cond t plain (flat_map (λ cluster. glyphs_of_piece cluster (cluster_piece cluster)) (graphemes true bytes))) other
      ∙ ap (flat_map (λ cluster. glyphs_of_piece cluster (cluster_piece cluster))) clusters_are
      ∙ ap (λ p. glyphs_of_piece bytes p ++ []) wide_one.piece

  wide_sent : (w : ℕ) → 0 < w → is_sent w (encode_utf8 c) ≡ true
  unfolding is_sent
  wide_sent w some =
      ap (λ t. t || list_all (is_sent_cluster w) (graphemes true (encode_utf8 c))) other
      ∙ ap (list_all (is_sent_cluster w)) clusters_are ∙ ap (λ t. t && true) (wide_one.sent w some)

  wide_typed : IsTyped (encode_utf8 c) (character_number c)
  wide_typed = record {
    number = sym (number_is c);
    drawn = wide_drawn;
    sent = wide_sent;
    typed = λ e. ap (λ t. cond t (sent_plain (encode_utf8 c) e) (sent_clusters (graphemes true (encode_utf8 c)) e)) other
        ∙ ap (λ clusters. sent_clusters clusters e) clusters_are ∙ sent_one e (encode_utf8 c) (sent_cluster e (encode_utf8 c)) (sent_is c scalar shape.begins own (wide_control c high) e);
  }

-- ---- both

-- a cluster that is a character of one column
pub character_one : (c : ℕ) → IsScalar c → is_single c ≡ true → IsOne (encode_utf8 c)
character_one c scalar is = elim (or_cases (is_printable c) _ is) [
  | inl printable ↦ printable_one c printable scalar
  | inr wide ↦ let both = and_parts (ltb 160 c) (eqb (char_columns c) 1) wide in wide_one c (ltb-true 160 c both.0) scalar (eqb-true (char_columns c) 1 both.1)
]

character_typed : (c : ℕ) → IsScalar c → is_single c ≡ true → IsTyped (encode_utf8 c) (character_number c)
character_typed c scalar is = elim (or_cases (is_printable c) _ is) [
  | inl printable ↦
      let most : c ≤ 126 = few c printable in
      subst (λ l. IsTyped l (character_number c)) (sym (encode_ascii c (omega (arith, most)))) (subst (λ n. IsTyped (c ∷ []) n) (sym (printable_number c (omega (arith, most)))) (printable_typed c printable))
  | inr wide ↦ let both = and_parts (ltb 160 c) (eqb (char_columns c) 1) wide in wide_typed c (ltb-true 160 c both.0) scalar (eqb-true (char_columns c) 1 both.1)
]

-- what is typed of a cell that holds a character of one column
pub number_typed : (n : ℕ) → IsSingle n → IsTyped (number_bytes n) n
number_typed n is =
    subst (λ l. IsTyped l n) (sym (ap number_bytes is.3 ∙ bytes_back is.0)) (subst (λ m. IsTyped (encode_utf8 is.0) m) (sym is.3) (character_typed is.0 is.1 is.2))

-- ---- a character and its number

-- one of one column is a cluster of its own
pub single_one : (c : ℕ) → IsSingle (character_number c) → IsOne (encode_utf8 c)
single_one c is = subst (λ n. IsOne (encode_utf8 n)) (sym (same_character c is.0 is.3)) (character_one is.0 is.1 is.2)

pub single_is : (c : ℕ) → IsScalar c → is_single c ≡ true → IsSingle (character_number c)
single_is c scalar is = (c, scalar, is, refl)

-- a character of ASCII that has the number of one of one column is plain
pub single_plain : (c : ℕ) → c < 128 → IsSingle (character_number c) → is_plain c ≡ true
single_plain c ascii is = elim (or_cases (is_printable c) _ (ap is_single (same_character c is.0 is.3) ∙ is.2)) [
  | inl printable ↦ plain c printable
  | inr wide ↦ let both = and_parts (ltb 160 c) (eqb (char_columns c) 1) wide in absurd (let high = ltb-true 160 c both.0 in omega (arith, high, ascii))
]
