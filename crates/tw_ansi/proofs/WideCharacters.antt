-- Characters of several bytes.
use Rattle.std.proofs.Common.{◌≡◌, ◌≤◌, ◌<◌, ◌+◌, ◌*◌, ◌/◌, ◌%◌, ℕ, Bool, true, false, not, ◌&&◌, ◌||◌, cond, ltb, leb, List, [], ◌∷◌, ◌++◌, None, take, length, arith, ap, subst, ◌∙◌, sym, refl, inl, inr, ◌⊎◌}
use Rattle.std.specs.Char.{IsScalar, encode_utf8}
use Rattle.std.specs.List.{list_all}
use Rattle.std.proofs.lemmas.Bool.{ne_eqb, lt-ltb, le-ltb, le-leb, lt-leb, and_from, cases_lt}
use Rattle.tw_input.specs.declared.key.KeyCode.TheVariants.{Char}
use Rattle.tw_input.specs.Modifiers.{none, alt}
use Rattle.tw_ansi.specs.KeyBytes.{token_at, escape_at, character_at, behind_escape, key_or, with_control, typed_at, replacement, wide_character, whole_character, following_len, is_continuation, code_of, least_code, is_code, scanned_as, key_token, key_in, control_characters}
use Rattle.tw_ansi.specs.KeyLaws.{IsTyped, CharacterKeys, AltCharacterKeys}
use Rattle.tw_ansi.proofs.Keys.{none_of, alt_keys}

-- a byte of 128 or above is no control character
no_row : (b : ℕ) → 128 ≤ b → key_in control_characters b ≡ None
no_row b high =
    none_of control_characters b ((λ e. omega arith), ((λ e. omega arith), ((λ e. omega arith), ((λ e. omega arith), ((λ e. omega arith), ((λ e. omega arith), tt))))))

-- a byte of 128 or above is replaced, or begins a character
pub high_byte : (l : Bool) (b : ℕ) (bytes : List ℕ) → 128 ≤ b
    → token_at l (b ∷ bytes) ≡ cond (ltb b 194 || leb 245 b) replacement (wide_character l b (take (following_len b) bytes))
unfolding token_at
high_byte l b bytes high =
    ap (λ t. cond t (escape_at l bytes) (character_at l b bytes)) (ne_eqb b 27 (λ e. omega arith))
    ∙ ap (λ o. key_or o (cond (ltb b 32) (with_control b) (typed_at l b bytes))) (no_row b high)
    ∙ ap (λ t. cond t (with_control b) (typed_at l b bytes)) (le-ltb b 32 (omega arith))
    ∙ ap (λ t. cond t (scanned_as (key_token (Char b) none) 1) (cond (ltb b 194 || leb 245 b) replacement (wide_character l b (take (following_len b) bytes)))) (le-ltb b 127 (omega arith))

-- a byte that begins a character of several, so many of which follow
pub first_byte : (l : Bool) (b n : ℕ) (bytes : List ℕ) → 194 ≤ b → b < 245 → following_len b ≡ n → token_at l (b ∷ bytes) ≡ wide_character l b (take n bytes)
first_byte l b n bytes low high len =
    let wide = wide_character l b (take (following_len b) bytes) in
    high_byte l b bytes (omega arith)
    ∙ ap (λ t. cond (t || leb 245 b) replacement wide) (le-ltb b 194 low)
    ∙ ap (λ t. cond t replacement wide) (lt-leb 245 b high)
    ∙ ap (λ k. wide_character l b (take k bytes)) len

-- a scalar value is the code of a character
code_if : (x y : Bool) → cond x true y ≡ true → (x || y) ≡ true
code_if true y h = refl
code_if false y h = h

-- all the bytes of a character
whole : (l : Bool) (b c : ℕ) (following : List ℕ) → list_all is_continuation following ≡ true → length following ≡ following_len b
    → code_of b following ≡ c → least_code (length following) ≤ c → IsScalar c → wide_character l b following ≡ scanned_as (key_token (Char c) none) (1 + length following)
whole l b c following all len code least scalar =
    let answer = scanned_as (key_token (Char c) none) (1 + length following) in
    ap (λ t. cond (not t) replacement (cond (ltb (length following) (following_len b)) (cond l replacement None) (whole_character b following))) all
    ∙ ap (λ t. cond t (cond l replacement None) (whole_character b following)) (le-ltb (length following) (following_len b) (omega (arith, len)))
    ∙ ap (λ k. cond (leb (least_code (length following)) k && is_code k) (scanned_as (key_token (Char k) none) (1 + length following)) replacement) code
    ∙ ap (λ t. cond t answer replacement) (and_from _ _ (le-leb _ _ least) (code_if (ltb c 55296) (leb 57344 c && ltb c 1114112) scalar))

-- a byte that follows the first one
follows : (x : ℕ) → is_continuation (128 + x % 64) ≡ true
follows x = and_from _ _ (le-leb 128 (128 + x % 64) (omega arith)) (lt-ltb (128 + x % 64) 192 (omega arith))

pub one_follows : (b : ℕ) → b < 224 → following_len b ≡ 1
one_follows b less = ap (λ t. cond t 1 (cond (ltb b 240) 2 3)) (lt-ltb b 224 less)

pub two_follow : (b : ℕ) → 224 ≤ b → b < 240 → following_len b ≡ 2
two_follow b low less = ap (λ t. cond t 1 (cond (ltb b 240) 2 3)) (le-ltb b 224 low) ∙ ap (λ t. cond t 2 3) (lt-ltb b 240 less)

pub three_follow : (b : ℕ) → 240 ≤ b → following_len b ≡ 3
three_follow b low = ap (λ t. cond t 1 (cond (ltb b 240) 2 3)) (le-ltb b 224 (omega arith)) ∙ ap (λ t. cond t 2 3) (le-ltb b 240 low)

two_bytes : (c : ℕ) → 128 ≤ c → c < 2048 → IsScalar c → IsTyped ((192 + c / 64) ∷ (128 + c % 64) ∷ []) (Char c) none
two_bytes c low high scalar l rest =
    let b : ℕ = 192 + c / 64 in
    let d : ℕ = 128 + c % 64 in
    let len : following_len b ≡ 1 = one_follows b (omega arith) in
    let code : b % 32 * 64 + d % 64 ≡ c = omega arith in
    first_byte l b 1 (d ∷ rest) (omega arith) (omega arith) len
    ∙ whole l b c (d ∷ []) (and_from _ _ (follows c) refl) (sym len) code (omega arith) scalar

three_bytes : (c : ℕ) → 2048 ≤ c → c < 65536 → IsScalar c → IsTyped ((224 + c / 4096) ∷ (128 + c / 64 % 64) ∷ (128 + c % 64) ∷ []) (Char c) none
three_bytes c low high scalar l rest =
    let b : ℕ = 224 + c / 4096 in
    let d : ℕ = 128 + c / 64 % 64 in
    let e : ℕ = 128 + c % 64 in
    let len : following_len b ≡ 2 = two_follow b (omega arith) (omega arith) in
    let code : b % 16 * 4096 + d % 64 * 64 + e % 64 ≡ c = omega arith in
    first_byte l b 2 (d ∷ e ∷ rest) (omega arith) (omega arith) len
    ∙ whole l b c (d ∷ e ∷ []) (and_from _ _ (follows (c / 64)) (and_from _ _ (follows c) refl)) (sym len) code (omega arith) scalar

four_bytes : (c : ℕ) → 65536 ≤ c → c < 1114112 → IsScalar c → IsTyped ((240 + c / 262144) ∷ (128 + c / 4096 % 64) ∷ (128 + c / 64 % 64) ∷ (128 + c % 64) ∷ []) (Char c) none
four_bytes c low high scalar l rest =
    let b : ℕ = 240 + c / 262144 in
    let d : ℕ = 128 + c / 4096 % 64 in
    let e : ℕ = 128 + c / 64 % 64 in
    let f : ℕ = 128 + c % 64 in
    let len : following_len b ≡ 3 = three_follow b (omega arith) in
    let code : b % 8 * 262144 + d % 64 * 4096 + e % 64 * 64 + f % 64 ≡ c = omega arith in
    first_byte l b 3 (d ∷ e ∷ f ∷ rest) (omega arith) (omega arith) len
    ∙ whole l b c (d ∷ e ∷ f ∷ []) (and_from _ _ (follows (c / 4096)) (and_from _ _ (follows (c / 64)) (and_from _ _ (follows c) refl))) (sym len) code (omega arith) scalar

-- the bytes of a character, by how many they are
pub encode_two : (c : ℕ) → 128 ≤ c → c < 2048 → encode_utf8 c ≡ (192 + c / 64) ∷ (128 + c % 64) ∷ []
unfolding encode_utf8
encode_two c low high =
    let two = (192 + c / 64) ∷ (128 + c % 64) ∷ [] in
    let three = (224 + c / 4096) ∷ (128 + c / 64 % 64) ∷ (128 + c % 64) ∷ [] in
    let four = (240 + c / 262144) ∷ (128 + c / 4096 % 64) ∷ (128 + c / 64 % 64) ∷ (128 + c % 64) ∷ [] in
    ap (λ t. cond t (c ∷ []) (cond (ltb c 2048) two (cond (ltb c 65536) three four))) (le-ltb c 128 low)
    ∙ ap (λ t. cond t two (cond (ltb c 65536) three four)) (lt-ltb c 2048 high)

pub encode_three : (c : ℕ) → 2048 ≤ c → c < 65536 → encode_utf8 c ≡ (224 + c / 4096) ∷ (128 + c / 64 % 64) ∷ (128 + c % 64) ∷ []
unfolding encode_utf8
encode_three c low high =
    let two = (192 + c / 64) ∷ (128 + c % 64) ∷ [] in
    let three = (224 + c / 4096) ∷ (128 + c / 64 % 64) ∷ (128 + c % 64) ∷ [] in
    let four = (240 + c / 262144) ∷ (128 + c / 4096 % 64) ∷ (128 + c / 64 % 64) ∷ (128 + c % 64) ∷ [] in
    ap (λ t. cond t (c ∷ []) (cond (ltb c 2048) two (cond (ltb c 65536) three four))) (le-ltb c 128 (omega arith))
    ∙ ap (λ t. cond t two (cond (ltb c 65536) three four)) (le-ltb c 2048 low)
    ∙ ap (λ t. cond t three four) (lt-ltb c 65536 high)

pub encode_four : (c : ℕ) → 65536 ≤ c → encode_utf8 c ≡ (240 + c / 262144) ∷ (128 + c / 4096 % 64) ∷ (128 + c / 64 % 64) ∷ (128 + c % 64) ∷ []
unfolding encode_utf8
encode_four c low =
    let two = (192 + c / 64) ∷ (128 + c % 64) ∷ [] in
    let three = (224 + c / 4096) ∷ (128 + c / 64 % 64) ∷ (128 + c % 64) ∷ [] in
    let four = (240 + c / 262144) ∷ (128 + c / 4096 % 64) ∷ (128 + c / 64 % 64) ∷ (128 + c % 64) ∷ [] in
    ap (λ t. cond t (c ∷ []) (cond (ltb c 2048) two (cond (ltb c 65536) three four))) (le-ltb c 128 (omega arith))
    ∙ ap (λ t. cond t two (cond (ltb c 65536) three four)) (le-ltb c 2048 (omega arith))
    ∙ ap (λ t. cond t three four) (le-ltb c 65536 low)

typed_as : (c : ℕ) (xs : List ℕ) → encode_utf8 c ≡ xs → IsTyped xs (Char c) none → IsTyped (encode_utf8 c) (Char c) none
typed_as c xs e h = subst (λ ys. IsTyped ys (Char c) none) (sym e) h

-- a scalar value is below 1,114,112
pub scalar_below : (c : ℕ) → IsScalar c → c < 1114112
scalar_below c scalar = grind arith

character_cases : (c : ℕ) → 128 ≤ c → IsScalar c → (c < 2048) ⊎ (2048 ≤ c) → (c < 65536) ⊎ (65536 ≤ c) → IsTyped (encode_utf8 c) (Char c) none
character_cases c low scalar (inl two) q = typed_as c _ (encode_two c low two) (two_bytes c low two scalar)
character_cases c low scalar (inr more) (inl three) = typed_as c _ (encode_three c more three) (three_bytes c more three scalar)
character_cases c low scalar (inr more) (inr four) = typed_as c _ (encode_four c four) (four_bytes c four (scalar_below c scalar) scalar)

pub character_keys : CharacterKeys
character_keys c low scalar = character_cases c low scalar (cases_lt c 2048) (cases_lt c 65536)

-- ESC before bytes the first of which is 128 or above
behind : (xs : List ℕ) (b c : ℕ) (more : List ℕ) → xs ≡ b ∷ more → 128 ≤ b → IsTyped xs (Char c) none → IsTyped (27 ∷ xs) (Char c) alt
behind xs b c more e high h l rest =
    ap (λ ys. token_at l (27 ∷ (ys ++ rest))) e
    ∙ alt_keys l b (more ++ rest) (λ q. omega arith) (λ q. omega arith) (λ q. omega arith) (λ q. omega arith) (λ q. omega arith)
    ∙ ap (λ ys. behind_escape (token_at l (ys ++ rest))) (sym e)
    ∙ ap behind_escape (h l rest)
    ∙ ap (λ n. scanned_as (key_token (Char c) alt) n) (omega arith)

alt_cases : (c : ℕ) → 128 ≤ c → IsScalar c → (c < 2048) ⊎ (2048 ≤ c) → (c < 65536) ⊎ (65536 ≤ c) → IsTyped (27 ∷ encode_utf8 c) (Char c) alt
alt_cases c low scalar (inl two) q = behind _ _ c _ (encode_two c low two) (omega arith) (character_keys c low scalar)
alt_cases c low scalar (inr more) (inl three) = behind _ _ c _ (encode_three c more three) (omega arith) (character_keys c low scalar)
alt_cases c low scalar (inr more) (inr four) = behind _ _ c _ (encode_four c four) (omega arith) (character_keys c low scalar)

pub alt_character_keys : AltCharacterKeys
alt_character_keys c low scalar = alt_cases c low scalar (cases_lt c 2048) (cases_lt c 65536)
