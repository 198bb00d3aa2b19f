-- Bytes that are no part of a character.
use Rattle.std.proofs.Common.{◌≡◌, ◌≢◌, ◌≤◌, ◌<◌, ◌+◌, ◌*◌, ◌/◌, ◌%◌, ℕ, zero, suc, Bool, true, false, not, ◌&&◌, ◌||◌, cond, ltb, leb, List, [], ◌∷◌, ◌++◌, Option, Some, None, IfSome, take, drop, length, length-take, take_all, take-append-drop, arith, ap, subst, ◌∙◌, sym, refl, inl, inr, ◌⊎◌}
use Rattle.std.specs.Char.{IsScalar, encode_utf8}
use Rattle.std.specs.List.{list_all}
use Rattle.std.proofs.lemmas.Bool.{ltb-true, ltb-false, leb-true, leb-false, lt-ltb, le-leb, and_parts, and_left, and_right, or_parts, or_left, or_right, not-false, cases_lt}
use Rattle.tw_ansi.specs.declared.token.Scanned.{Scanned}
use Rattle.tw_ansi.specs.KeyBytes.{replacement, wide_character, whole_character, following_len, is_continuation, code_of, least_code, is_code, unless_last}
use Rattle.tw_ansi.specs.KeyLaws as laws
use Rattle.tw_ansi.proofs.WideCharacters.{high_byte, encode_two, encode_three, encode_four, one_follows, two_follow, three_follow}

-- where the arms are one
either_way : (t : Bool) (x y : Option Scanned) → y ≡ x → cond t x y ≡ x
either_way true x y e = refl
either_way false x y e = e

pub lone_bytes : laws.LoneBytes
lone_bytes b high alone l rest =
    high_byte l b rest high ∙ ap (λ t. cond t replacement (wide_character l b (take (following_len b) rest))) (begins_none alone)
  where
    begins_none : (b < 194) ⊎ (245 ≤ b) → (ltb b 194 || leb 245 b) ≡ true
    begins_none (inl low) = or_left _ _ (lt-ltb b 194 low)
    begins_none (inr above) = or_right _ _ (le-leb 245 b above)

-- a byte that cannot follow
fails_at : (k : ℕ) (d : ℕ) (front rest : List ℕ) → length front < k → is_continuation d ≡ false → list_all is_continuation (take k (front ++ d ∷ rest)) ≡ false
fails_at zero d front rest less fails = absurd (omega arith)
fails_at (suc k) d [] rest less fails = and_left _ _ fails
fails_at (suc k) d (x ∷ front) rest less fails = and_right (is_continuation x) _ (fails_at k d front rest (omega arith) fails)

pub cut_characters : laws.CutCharacters
cut_characters l b d front rest high less fails =
    let bytes = take (following_len b) (front ++ d ∷ rest) in
    let other = cond (ltb (length bytes) (following_len b)) (unless_last l replacement) (whole_character b bytes) in
    high_byte l b (front ++ d ∷ rest) high
    ∙ either_way _ replacement (wide_character l b bytes)
    (ap (λ t. cond (not t) replacement other) (fails_at (following_len b) d front rest less fails))

-- the bytes of a character write it

in_range : (c : ℕ) → is_continuation c ≡ true → (128 ≤ c) × (c < 192)
in_range c h = let parts = and_parts (leb 128 c) (ltb c 192) h in (leb-true 128 c parts.0, ltb-true c 192 parts.1)

two_back : (b : ℕ) (xs : List ℕ) → 194 ≤ b → b < 224 → length xs ≡ 1 → list_all is_continuation xs ≡ true → encode_utf8 (code_of b xs) ≡ b ∷ xs
two_back b [] low high len all = absurd (omega arith)
two_back b (c ∷ []) low high len all =
    let p = in_range c (and_parts (is_continuation c) true all).0 in
    let code : ℕ = b % 32 * 64 + c % 64 in
    let first : 192 + code / 64 ≡ b = omega (arith, p.0, p.1) in
    let second : 128 + code % 64 ≡ c = omega (arith, p.0, p.1) in
    encode_two code (omega arith) (omega arith) ∙ ap (λ x. x ∷ (128 + code % 64) ∷ []) first ∙ ap (λ x. b ∷ x ∷ []) second
two_back b (c ∷ d ∷ xs) low high len all = absurd (omega arith)

three_back : (b : ℕ) (xs : List ℕ) → 224 ≤ b → b < 240 → length xs ≡ 2 → list_all is_continuation xs ≡ true → 2048 ≤ code_of b xs → encode_utf8 (code_of b xs) ≡ b ∷ xs
three_back b [] low high len all least = absurd (omega arith)
three_back b (c ∷ []) low high len all least = absurd (omega arith)
three_back b (c ∷ d ∷ []) low high len all least =
    let one = and_parts (is_continuation c) (is_continuation d && true) all in
    let p = in_range c one.0 in
    let q = in_range d (and_parts (is_continuation d) true one.1).0 in
    let code : ℕ = b % 16 * 4096 + c % 64 * 64 + d % 64 in
    let first : 224 + code / 4096 ≡ b = omega (arith, p.0, p.1, q.0, q.1) in
    let second : 128 + code / 64 % 64 ≡ c = omega (arith, p.0, p.1, q.0, q.1) in
    let third : 128 + code % 64 ≡ d = omega (arith, p.0, p.1, q.0, q.1) in
    encode_three code least (omega arith) ∙ ap (λ x. x ∷ (128 + code / 64 % 64) ∷ (128 + code % 64) ∷ []) first
    ∙ ap (λ x. b ∷ x ∷ (128 + code % 64) ∷ []) second ∙ ap (λ x. b ∷ c ∷ x ∷ []) third
three_back b (c ∷ d ∷ e ∷ xs) low high len all least = absurd (omega arith)

four_back : (b : ℕ) (xs : List ℕ) → 240 ≤ b → b < 245 → length xs ≡ 3 → list_all is_continuation xs ≡ true → 65536 ≤ code_of b xs → encode_utf8 (code_of b xs) ≡ b ∷ xs
four_back b [] low high len all least = absurd (omega arith)
four_back b (c ∷ []) low high len all least = absurd (omega arith)
four_back b (c ∷ d ∷ []) low high len all least = absurd (omega arith)
four_back b (c ∷ d ∷ e ∷ []) low high len all least =
    let one = and_parts (is_continuation c) (is_continuation d && (is_continuation e && true)) all in
    let two = and_parts (is_continuation d) (is_continuation e && true) one.1 in
    let p = in_range c one.0 in
    let q = in_range d two.0 in
    let r = in_range e (and_parts (is_continuation e) true two.1).0 in
    let code : ℕ = b % 8 * 262144 + c % 64 * 4096 + d % 64 * 64 + e % 64 in
    let first : 240 + code / 262144 ≡ b = omega (arith, p.0, p.1, q.0, q.1, r.0, r.1) in
    let second : 128 + code / 4096 % 64 ≡ c = omega (arith, p.0, p.1, q.0, q.1, r.0, r.1) in
    let third : 128 + code / 64 % 64 ≡ d = omega (arith, p.0, p.1, q.0, q.1, r.0, r.1) in
    let fourth : 128 + code % 64 ≡ e = omega (arith, p.0, p.1, q.0, q.1, r.0, r.1) in
    encode_four code least ∙ ap (λ x. x ∷ (128 + code / 4096 % 64) ∷ (128 + code / 64 % 64) ∷ (128 + code % 64) ∷ []) first
    ∙ ap (λ x. b ∷ x ∷ (128 + code / 64 % 64) ∷ (128 + code % 64) ∷ []) second ∙ ap (λ x. b ∷ c ∷ x ∷ (128 + code % 64) ∷ []) third
    ∙ ap (λ x. b ∷ c ∷ d ∷ x ∷ []) fourth
four_back b (c ∷ d ∷ e ∷ f ∷ xs) low high len all least = absurd (omega arith)

written : (b : ℕ) (xs : List ℕ) → 194 ≤ b → b < 245 → length xs ≡ following_len b → list_all is_continuation xs ≡ true → least_code (length xs) ≤ code_of b xs
    → (b < 224) ⊎ (224 ≤ b) → (b < 240) ⊎ (240 ≤ b) → encode_utf8 (code_of b xs) ≡ b ∷ xs
written b xs low high len all least (inl two) q = two_back b xs low two (len ∙ one_follows b two) all
written b xs low high len all least (inr more) (inl three) =
    let n = len ∙ two_follow b more three in three_back b xs more three n all (subst (λ k. least_code k ≤ code_of b xs) n least)
written b xs low high len all least (inr more) (inr four) =
    let n = len ∙ three_follow b four in four_back b xs four high n all (subst (λ k. least_code k ≤ code_of b xs) n least)

-- a token that is U+FFFD and takes one byte
record Lost (o : Option Scanned) : Type 0 where
  pub kept : IfSome o (λ s. Some s ≡ replacement)

lost : Lost replacement
lost = record { kept = refl }

lost_if : (t : Bool) (x y : Option Scanned) → (t ≡ true → Lost x) → (t ≡ false → Lost y) → Lost (cond t x y)
lost_if true x y p q = p refl
lost_if false x y p q = q refl

waits_or_lost : (l : Bool) → Lost (unless_last l replacement)
waits_or_lost true = lost
waits_or_lost false = record { kept = tt }

scalar_if : (x y : Bool) → (x || y) ≡ true → cond x true y ≡ true
scalar_if true y h = refl
scalar_if false y h = h

-- the bytes of a character, where none stands there
is_written : (b n : ℕ) (bytes : List ℕ) → 194 ≤ b → b < 245 → n ≡ following_len b → ((c : ℕ) (rest : List ℕ) → IsScalar c → b ∷ bytes ≢ encode_utf8 c ++ rest)
    → list_all is_continuation (take n bytes) ≡ true → n ≤ length (take n bytes) → least_code (length (take n bytes)) ≤ code_of b (take n bytes)
    → is_code (code_of b (take n bytes)) ≡ true → ⊥
is_written b n bytes low high len apart all long least scalar =
    let xs = take n bytes in
    let code : ℕ = code_of b xs in
    let same : encode_utf8 code ≡ b ∷ xs =
    written b xs low high (omega (arith, length-take n bytes, len)) all least (cases_lt b 224) (cases_lt b 240) in
    apart code (drop n bytes) (scalar_if (ltb code 55296) (leb 57344 code && ltb code 1114112) scalar)
    (sym (ap (λ ys. ys ++ drop n bytes) same ∙ ap (λ ys. b ∷ ys) (take-append-drop n bytes)))

following_some : (l : Bool) (b : ℕ) (bytes : List ℕ) → 194 ≤ b → b < 245 → ((c : ℕ) (rest : List ℕ) → IsScalar c → b ∷ bytes ≢ encode_utf8 c ++ rest)
    → Lost (wide_character l b (take (following_len b) bytes))
following_some l b bytes low high apart =
    let n = following_len b in
    let xs = take n bytes in
    let code : ℕ = code_of b xs in
    lost_if (not (list_all is_continuation xs)) replacement _ (λ no. lost)
    (λ yes. lost_if (ltb (length xs) n) (unless_last l replacement) (whole_character b xs) (λ short. waits_or_lost l)
    (λ long. lost_if (leb (least_code (length xs)) code && is_code code) _ replacement
    (λ whole. let parts = and_parts (leb (least_code (length xs)) code) (is_code code) whole in
    absurd (is_written b n bytes low high refl apart (not-false _ yes) (ltb-false _ _ long) (leb-true _ _ parts.0) parts.1)) (λ no. lost)))

pub lost_bytes : laws.LostBytes
lost_bytes l b bytes high apart =
    let wide = wide_character l b (take (following_len b) bytes) in
    let answer : Lost (cond (ltb b 194 || leb 245 b) replacement wide) =
    lost_if (ltb b 194 || leb 245 b) replacement wide (λ yes. lost)
    (λ no. following_some l b bytes (ltb-false b 194 (or_parts _ _ no).0) (leb-false 245 b (or_parts _ _ no).1) apart) in
    (subst Lost (sym (high_byte l b bytes high)) answer).kept

-- no token is there where these bytes are too few to follow
record Waits (n : ℕ) (xs : List ℕ) (o : Option Scanned) : Type 0 where
  pub kept : o ≡ None → (length xs < n) × (list_all is_continuation xs ≡ true)

told : {n : ℕ} {xs : List ℕ} {s : Scanned} → Waits n xs (Some s)
told = record { kept = λ e. absurd (cc e) }

waits_if : {n : ℕ} {xs : List ℕ} (t : Bool) (x y : Option Scanned) → (t ≡ true → Waits n xs x) → (t ≡ false → Waits n xs y) → Waits n xs (cond t x y)
waits_if true x y p q = p refl
waits_if false x y p q = q refl

following_waits : (b : ℕ) (xs : List ℕ) → Waits (following_len b) xs (wide_character false b xs)
following_waits b xs =
    let n = following_len b in
    waits_if (not (list_all is_continuation xs)) replacement _ (λ no. told)
    (λ yes. waits_if (ltb (length xs) n) None (whole_character b xs) (λ short. record { kept = λ e. (ltb-true _ _ short, not-false _ yes) })
    (λ long. waits_if (leb (least_code (length xs)) (code_of b xs) && is_code (code_of b xs)) _ replacement (λ whole. told) (λ no. told)))

pub waits_for_character : laws.WaitsForCharacter
waits_for_character b bytes high none =
    let n = following_len b in
    let xs = take n bytes in
    let answer : Waits n xs (cond (ltb b 194 || leb 245 b) replacement (wide_character false b xs)) =
    waits_if (ltb b 194 || leb 245 b) replacement _ (λ yes. told) (λ no. following_waits b xs) in
    let parts = answer.kept (sym (high_byte false b bytes high) ∙ none) in
    let short : length bytes < n = omega (arith, parts.0, length-take n bytes) in
    (short, ap (list_all is_continuation) (sym (take_all n bytes (omega arith))) ∙ parts.1)
