-- What is found stays found, whatever bytes follow.
use Rattle.std.proofs.Common.{◌≡◌, ◌≢◌, ◌≤◌, ◌<◌, ◌+◌, ℕ, zero, suc, Bool, true, false, not, ◌&&◌, cond, eqb, ltb, leb, ◌||◌, List, [], ◌∷◌, ◌++◌, Option, Some, None, IfSome, take, drop, length, length-append, arith, ap, subst, ◌∙◌, sym, refl, inl, inr, ◌⊎◌}
use Rattle.std.specs.List.{prefix_len, list_all}
use Rattle.std.proofs.lemmas.Bool.{cases_lt, cases_Bool, cases_eq, and_cases, and_left, and_right, lt-ltb, le-ltb, ne_eqb}
use Rattle.std.proofs.lemmas.List.{take-append-le, drop-append-le, take_all}
use Rattle.std.proofs.lemmas.List.Folds.{prefix_len-append}
use Rattle.tw_input.specs.declared.key.KeyCode.{KeyCode}
use Rattle.tw_input.specs.declared.key.KeyCode.TheVariants.{Char}
use Rattle.tw_input.specs.Modifiers.{none, alt}
use Rattle.tw_ansi.specs.declared.token.Token.TheVariants.{Unknown}
use Rattle.tw_ansi.specs.declared.token.Scanned.{Scanned}
use Rattle.tw_ansi.specs.KeyBytes.{token_at, escape_at, escape_alone, alt_key_at, second_escape_at, letter_keys, application_keys, string_at, string_of, string_before_escape, whole_string, opens_string, begins_answer, is_string_byte, control_at, ended_at, sequence_at, mouse_report, paste_at, paste_of, paste_len, application_at, behind_escape, character_at, control_characters, key_in, key_or, typed_at, wide_character, whole_character, following_len, is_continuation, replacement, scanned_as, key_token, with_control, is_letter, is_parameter, is_numeric, parameters_token, first_number}
use Rattle.tw_ansi.proofs.Pastes.{paste_more}

-- where the first finds a token the second finds the same
pub record Stays (o p : Option Scanned) : Type 0 where
  pub kept : IfSome o (λ s. p ≡ Some s)

same : (o : Option Scanned) → Stays o o
same (Some s) = record { kept = refl }
same None = record { kept = tt }

waits : (p : Option Scanned) → Stays None p
waits p = record { kept = tt }

along : (o p q : Option Scanned) → q ≡ p → Stays o p → Stays o q
along o p q e h = subst (Stays o) (sym e) h

from_none : (o p : Option Scanned) → o ≡ None → Stays o p
from_none o p e = subst (λ x. Stays x p) (sym e) (waits p)

both : (b : Bool) (x y u v : Option Scanned) → Stays x u → Stays y v → Stays (cond b x y) (cond b u v)
both b x y u v p q = elim b as (λ t. Stays (cond t x y) (cond t u v)) [ true ↦ p | false ↦ q ]

either_fails : (x y z : Bool) → (y ≡ false → z ≡ false) → (x ≡ false) ⊎ (y ≡ false) → (x && z) ≡ false
either_fails x y z h (inl e) = and_left x z e
either_fails x y z h (inr e) = and_right x z (h e)

-- a byte that cannot follow stays one
fails_more : (k : ℕ) (xs ys : List ℕ) → length xs ≤ k → list_all is_continuation xs ≡ false → list_all is_continuation (take k (xs ++ ys)) ≡ false
fails_more k [] ys fits h = absurd cc
fails_more zero (x ∷ xs) ys fits h = absurd (omega arith)
fails_more (suc k) (x ∷ xs) ys fits h =
    either_fails (is_continuation x) (list_all is_continuation xs) (list_all is_continuation (take k (xs ++ ys))) (fails_more k xs ys (omega arith)) (and_cases _ _ h)

wide_same : (l : Bool) (b : ℕ) (following : List ℕ) → Stays (wide_character false b following) (wide_character l b following)
wide_same l b following =
    both _ _ _ _ _ (same replacement) (both _ _ _ _ _ (waits (cond l replacement None)) (same (whole_character b following)))

wide_short : (l : Bool) (b : ℕ) (bytes more : List ℕ) → length bytes < following_len b → (list_all is_continuation bytes ≡ true) ⊎ (list_all is_continuation bytes ≡ false)
    → Stays (wide_character false b bytes) (wide_character l b (take (following_len b) (bytes ++ more)))
wide_short l b bytes more short (inl all) =
    from_none _ _ (ap (λ t. cond (not t) replacement (cond (ltb (length bytes) (following_len b)) None (whole_character b bytes))) all
    ∙ ap (λ t. cond t None (whole_character b bytes)) (lt-ltb _ _ short))
wide_short l b bytes more short (inr bad) =
    let ys = take (following_len b) (bytes ++ more) in
    let now : wide_character false b bytes ≡ replacement = ap (λ t. cond (not t) replacement (cond (ltb (length bytes) (following_len b)) None (whole_character b bytes))) bad in
    let then : wide_character l b ys ≡ replacement = ap (λ t. cond (not t) replacement (cond (ltb (length ys) (following_len b)) (cond l replacement None) (whole_character b ys))) (fails_more (following_len b) bytes more (omega arith) bad) in
    subst (λ x. Stays x (wide_character l b ys)) (sym now) (along replacement replacement _ then (same replacement))

wide_cases : (l : Bool) (b : ℕ) (bytes more : List ℕ) → (length bytes < following_len b) ⊎ (following_len b ≤ length bytes)
    → Stays (wide_character false b (take (following_len b) bytes)) (wide_character l b (take (following_len b) (bytes ++ more)))
wide_cases l b bytes more (inl short) =
    subst (λ xs. Stays (wide_character false b xs) (wide_character l b (take (following_len b) (bytes ++ more)))) (sym (take_all (following_len b) bytes (omega arith)))
    (wide_short l b bytes more short (cases_Bool _))
wide_cases l b bytes more (inr long) =
    subst (λ ys. Stays (wide_character false b (take (following_len b) bytes)) (wide_character l b ys)) (sym (take-append-le (following_len b) bytes more long))
    (wide_same l b (take (following_len b) bytes))

typed_more : (l : Bool) (b : ℕ) (bytes more : List ℕ) → Stays (typed_at false b bytes) (typed_at l b (bytes ++ more))
typed_more l b bytes more =
    let printed : Option Scanned = scanned_as (key_token (Char b) none) 1 in
    both (ltb b 127) printed _ printed _ (same printed)
    (both (ltb b 194 || leb 245 b) replacement _ replacement _ (same replacement) (wide_cases l b bytes more (cases_lt (length bytes) (following_len b))))

key_or_more : (o : Option KeyCode) (x y : Option Scanned) → Stays x y → Stays (key_or o x) (key_or o y)
key_or_more (Some key) x y h = same _
key_or_more None x y h = h

character_more : (l : Bool) (b : ℕ) (bytes more : List ℕ) → Stays (character_at false b bytes) (character_at l b (bytes ++ more))
character_more l b bytes more =
    key_or_more (key_in control_characters b) _ _
    (both (ltb b 32) (with_control b) (typed_at false b bytes) (with_control b) (typed_at l b (bytes ++ more)) (same (with_control b)) (typed_more l b bytes more))

behind_more : (x y : Option Scanned) → Stays x y → Stays (behind_escape x) (behind_escape y)
behind_more (Some s) y h = record { kept = ap behind_escape h.kept }
behind_more None y h = waits _

application_more : (l : Bool) (bytes more : List ℕ) → Stays (application_at false bytes) (application_at l (bytes ++ more))
application_more l [] more = waits _
application_more l (b ∷ bytes) more = same _

paste_of_more : (l : Bool) (from left longer : ℕ) (o p : Option ℕ) → IfSome o (λ k. p ≡ Some k) → Stays (paste_of false from left o) (paste_of l from longer p)
paste_of_more l from left longer (Some k) p h = record { kept = ap (paste_of l from longer) h }
paste_of_more l from left longer None p h = waits _

mouse_more : (l : Bool) (left longer : ℕ) → left ≤ longer → Stays (mouse_report false left) (mouse_report l longer)
mouse_more l left longer fits = by_room (cases_lt left 3)
  where
    of : Bool → ℕ → Bool → Option Scanned
    of last n few = cond few (cond last (scanned_as Unknown (3 + n)) None) (scanned_as Unknown 6)

    by_room : (left < 3) ⊎ (3 ≤ left) → Stays (mouse_report false left) (mouse_report l longer)
    by_room (inl few) = from_none _ _ (ap (of false left) (lt-ltb left 3 few))
    by_room (inr all) =
        subst (λ o. Stays o (mouse_report l longer)) (sym (ap (of false left) (le-ltb left 3 all)))
        (along _ _ _ (ap (of l longer) (le-ltb longer 3 (omega arith))) (same (scanned_as Unknown 6)))

sequence_more : (l : Bool) (parameters : List ℕ) (letter : ℕ) (bytes more : List ℕ) → Stays (sequence_at false parameters letter bytes) (sequence_at l parameters letter (bytes ++ more))
sequence_more l parameters letter bytes more =
    let used : ℕ = 3 + length parameters in
    let token : Option Scanned = scanned_as (parameters_token parameters letter) used in
    let pasted : Stays (paste_at false used bytes) (paste_at l used (bytes ++ more)) =
    paste_of_more l used (length bytes) (length (bytes ++ more)) (paste_len bytes) (paste_len (bytes ++ more)) (paste_more bytes more) in
    let longer : length bytes ≤ length (bytes ++ more) = omega (arith, length-append bytes more) in
    let told : Stays _ _ = both (eqb letter 77 && eqb (length parameters) 0) (mouse_report false (length bytes)) token (mouse_report l (length (bytes ++ more))) token (mouse_more l (length bytes) (length (bytes ++ more)) longer) (same token) in
    both (not (list_all is_numeric parameters)) (scanned_as Unknown used) _ (scanned_as Unknown used) _ (same _)
    (both (eqb letter 126 && eqb (first_number parameters) 200) (paste_at false used bytes) _ (paste_at l used (bytes ++ more)) _ pasted told)

ended_more : (l : Bool) (parameters rest more : List ℕ) → Stays (ended_at false parameters rest) (ended_at l parameters (rest ++ more))
ended_more l parameters [] more = waits _
ended_more l parameters (b ∷ bytes) more =
    let unknown : Option Scanned = scanned_as Unknown (2 + length parameters) in
    both (is_letter b) (sequence_at false parameters b bytes) unknown (sequence_at l parameters b (bytes ++ more)) unknown (sequence_more l parameters b bytes more) (same unknown)

nothing_left : (n : ℕ) (xs : List ℕ) → length xs ≤ n → drop n xs ≡ []
nothing_left zero [] h = refl
nothing_left (suc n) [] h = refl
nothing_left zero (x ∷ xs) h = absurd (omega arith)
nothing_left (suc n) (x ∷ xs) h = nothing_left n xs (omega arith)

control_cases : (l : Bool) (bytes more : List ℕ) → (prefix_len is_parameter bytes < length bytes) ⊎ (length bytes ≤ prefix_len is_parameter bytes)
    → Stays (control_at false bytes) (control_at l (bytes ++ more))
control_cases l bytes more (inl inside) =
    let n = prefix_len is_parameter bytes in
    let stays : prefix_len is_parameter (bytes ++ more) ≡ n =
    prefix_len-append is_parameter bytes more ∙ ap (λ t. cond t (length bytes + prefix_len is_parameter more) n) (ne_eqb n (length bytes) (λ e. omega arith)) in
    let parts : control_at l (bytes ++ more) ≡ ended_at l (take n bytes) (drop n bytes ++ more) =
    ap (λ k. ended_at l (take k (bytes ++ more)) (drop k (bytes ++ more))) stays
    ∙ ap (λ xs. ended_at l xs (drop n (bytes ++ more))) (take-append-le n bytes more (omega arith))
    ∙ ap (λ xs. ended_at l (take n bytes) xs) (drop-append-le n bytes more (omega arith)) in
    along _ _ _ parts (ended_more l (take n bytes) (drop n bytes) more)
control_cases l bytes more (inr all) =
    let n = prefix_len is_parameter bytes in
    from_none _ _ (ap (λ xs. ended_at false (take n bytes) xs) (nothing_left n bytes all))

before_escape_more : (l : Bool) (used : ℕ) (bytes more : List ℕ) → Stays (string_before_escape false used bytes) (string_before_escape l used (bytes ++ more))
before_escape_more l used [] more = waits _
before_escape_more l used (b ∷ bytes) more = same _

string_of_more : (l : Bool) (used : ℕ) (bytes more : List ℕ) → Stays (string_of false used bytes) (string_of l used (bytes ++ more))
string_of_more l used [] more = waits _
string_of_more l used (b ∷ bytes) more =
    let ended : Option Scanned = cond (eqb b 7) (scanned_as Unknown (used + 1)) (scanned_as Unknown used) in
    both (eqb b 27) (string_before_escape false used bytes) ended (string_before_escape l used (bytes ++ more)) ended (before_escape_more l used bytes more) (same ended)

string_cases : (l : Bool) (bytes more : List ℕ) → (prefix_len is_string_byte bytes < length bytes) ⊎ (length bytes ≤ prefix_len is_string_byte bytes)
    → Stays (whole_string false bytes) (whole_string l (bytes ++ more))
string_cases l bytes more (inl inside) =
    let n = prefix_len is_string_byte bytes in
    let stays : prefix_len is_string_byte (bytes ++ more) ≡ n =
    prefix_len-append is_string_byte bytes more ∙ ap (λ t. cond t (length bytes + prefix_len is_string_byte more) n) (ne_eqb n (length bytes) (λ e. omega arith)) in
    let parts : whole_string l (bytes ++ more) ≡ string_of l (2 + n) (drop n bytes ++ more) =
    ap (λ k. string_of l (2 + k) (drop k (bytes ++ more))) stays
    ∙ ap (λ xs. string_of l (2 + n) xs) (drop-append-le n bytes more (omega arith)) in
    along _ _ _ parts (string_of_more l (2 + n) (drop n bytes) more)
string_cases l bytes more (inr all) =
    let n = prefix_len is_string_byte bytes in
    from_none _ _ (ap (λ xs. string_of false (2 + n) xs) (nothing_left n bytes all))

string_more : (l : Bool) (opening : ℕ) (bytes more : List ℕ) → Stays (string_at false opening bytes) (string_at l opening (bytes ++ more))
string_more l opening [] more = waits _
string_more l opening (b ∷ bytes) more =
    let typed : Option Scanned = scanned_as (key_token (Char opening) alt) 2 in
    both (begins_answer b) (whole_string false (b ∷ bytes)) typed (whole_string l (b ∷ (bytes ++ more))) typed (string_cases l (b ∷ bytes) more (cases_lt _ _)) (same typed)

alt_key_more : (l : Bool) (rows : List (ℕ × KeyCode)) (bytes more : List ℕ) → Stays (alt_key_at false rows bytes) (alt_key_at l rows (bytes ++ more))
alt_key_more l rows [] more = waits _
alt_key_more l rows (b ∷ bytes) more = same _

second_escape_more : (l : Bool) (bytes more : List ℕ) → Stays (second_escape_at false bytes) (second_escape_at l (bytes ++ more))
second_escape_more l [] more = waits _
second_escape_more l (b ∷ bytes) more =
    both (eqb b 91) (alt_key_at false letter_keys bytes) _ (alt_key_at l letter_keys (bytes ++ more)) _ (alt_key_more l letter_keys bytes more)
    (both (eqb b 79) (alt_key_at false application_keys bytes) escape_alone (alt_key_at l application_keys (bytes ++ more)) escape_alone (alt_key_more l application_keys bytes more) (same escape_alone))

escape_more : (l : Bool) (b : ℕ) (bytes more : List ℕ) → Stays (escape_at false (b ∷ bytes)) (escape_at l (b ∷ (bytes ++ more)))
escape_more l b bytes more =
    let typed : Stays (behind_escape (character_at false b bytes)) (behind_escape (character_at l b (bytes ++ more))) = behind_more _ _ (character_more l b bytes more) in
    let opened : Stays _ _ = both (opens_string b) (string_at false b bytes) (behind_escape (character_at false b bytes)) (string_at l b (bytes ++ more)) (behind_escape (character_at l b (bytes ++ more))) (string_more l b bytes more) typed in
    let applied : Stays _ _ = both (eqb b 79) (application_at false bytes) _ (application_at l (bytes ++ more)) _ (application_more l bytes more) opened in
    both (eqb b 27) (second_escape_at false bytes) _ (second_escape_at l (bytes ++ more)) _ (second_escape_more l bytes more) (both (eqb b 91) (control_at false bytes) _ (control_at l (bytes ++ more)) _ (control_cases l bytes more (cases_lt _ _)) applied)

first_cases : (l : Bool) (b : ℕ) (more : List ℕ) → (b ∷ [] ≢ 27 ∷ []) → (b ≡ 27) ⊎ (b ≡ 27 → ⊥) → Stays (token_at false (b ∷ [])) (token_at l (b ∷ more))
unfolding token_at
first_cases l b more not_alone (inl e) = absurd (not_alone (ap (λ x. x ∷ []) e))
first_cases l b more not_alone (inr n) =
    let other = ne_eqb b 27 n in
    let now : token_at false (b ∷ []) ≡ character_at false b [] = ap (λ t. cond t (escape_at false []) (character_at false b [])) other in
    let then : token_at l (b ∷ more) ≡ character_at l b more = ap (λ t. cond t (escape_at l more) (character_at l b more)) other in
    subst (λ x. Stays x (token_at l (b ∷ more))) (sym now) (along _ _ _ then (character_more l b [] more))

token_more : (l : Bool) (bytes more : List ℕ) → bytes ≢ 27 ∷ [] → Stays (token_at false bytes) (token_at l (bytes ++ more))
unfolding token_at
token_more l [] more not_alone = waits _
token_more l (b ∷ []) more not_alone = first_cases l b more not_alone (cases_eq b 27)
token_more l (b ∷ c ∷ bytes) more not_alone =
    both (eqb b 27) (escape_at false (c ∷ bytes)) (character_at false b (c ∷ bytes)) (escape_at l (c ∷ (bytes ++ more))) (character_at l b (c ∷ (bytes ++ more)))
    (escape_more l c bytes more) (character_more l b (c ∷ bytes) more)

-- what is found stays found
pub stays_found : (l : Bool) (bytes more : List ℕ) (s : Scanned) → bytes ≢ 27 ∷ [] → token_at false bytes ≡ Some s → token_at l (bytes ++ more) ≡ Some s
stays_found l bytes more s not_alone e =
    let h : Stays (Some s) (token_at l (bytes ++ more)) = subst (λ x. Stays x (token_at l (bytes ++ more))) e (token_more l bytes more not_alone) in
    h.kept
