-- What each token takes.
use Rattle.std.proofs.Common.{◌≡◌, ◌≤◌, ◌<◌, ◌+◌, ℕ, Bool, true, false, cond, ltb, leb, ◌||◌, List, [], ◌∷◌, Option, Some, None, IfSome, IsSome, take, drop, length, arith, ap, subst, ◌∙◌, sym, refl, inl, inr, ◌⊎◌, length-take, length-drop}
use Rattle.std.specs.List.{prefix_len}
use Rattle.std.proofs.lemmas.Bool.{cases_lt, lt-ltb, le-ltb}
use Rattle.std.proofs.lemmas.List.{take-append-drop, length-append}
use Rattle.std.proofs.lemmas.List.Sums.{prefix_len-le-length}
use Rattle.tw_input.specs.declared.key.KeyCode.{KeyCode}
use Rattle.tw_input.specs.declared.key.KeyCode.TheVariants.{Char, Escape}
use Rattle.tw_input.specs.Modifiers.{none, alt, ctrl}
use Rattle.tw_ansi.specs.declared.token.Token.{Token}
use Rattle.tw_ansi.specs.declared.token.Token.TheVariants.{Paste, Unknown}
use Rattle.tw_ansi.specs.declared.token.Scanned.{Scanned}
use Rattle.tw_ansi.specs.KeyBytes.{token_at, escape_at, escape_alone, alt_key, alt_key_at, second_escape_at, letter_keys, string_at, string_of, string_before_escape, whole_string, is_string_byte, control_at, ended_at, sequence_at, mouse_report, paste_at, paste_of, paste_len, application_at, application_key, application_keys, behind_escape, character_at, control_characters, key_in, key_or, with_control, typed_at, wide_character, whole_character, following_len, replacement, scanned_as, key_token, code_of, parameters_token, is_parameter}
use Rattle.tw_ansi.proofs.Pastes.{paste_within}

-- a token takes at least one byte and at most n
pub record IsWithin (n : ℕ) (o : Option Scanned) : Type 0 where
  pub bounds : IfSome o (λ s. (0 < s.used) × (s.used ≤ n))

nothing : (n : ℕ) → IsWithin n None
nothing n = record { bounds = tt }

either : (n : ℕ) (b : Bool) (x y : Option Scanned) → IsWithin n x → IsWithin n y → IsWithin n (cond b x y)
either n b x y p q = elim b as (λ v. IsWithin n (cond v x y)) [ true ↦ p | false ↦ q ]

taken : (n used : ℕ) (t : Token) → 0 < used → used ≤ n → IsWithin n (scanned_as t used)
taken n used t some fits = record { bounds = (some, fits) }

one : (n : ℕ) (key : KeyCode) (bits : ℕ) → 0 < n → IsWithin n (scanned_as (key_token key bits) 1)
one n key bits some = record { bounds = (omega arith, omega arith) }

wide_within : (n : ℕ) (l : Bool) (b : ℕ) (following : List ℕ) → 1 + length following ≤ n → IsWithin n (wide_character l b following)
wide_within n l b following fits =
    let bad : IsWithin n replacement = one n _ _ (omega arith) in
    let whole : IsWithin n (whole_character b following) =
    either n _ _ _ (taken n (1 + length following) (key_token (Char (code_of b following)) none) (omega arith) (omega arith)) bad in
    either n _ _ _ bad (either n _ _ _ (either n l replacement None bad (nothing n)) whole)

typed_within : (n : ℕ) (l : Bool) (b : ℕ) (bytes : List ℕ) → 1 + length bytes ≤ n → IsWithin n (typed_at l b bytes)
typed_within n l b bytes fits =
    let bad : IsWithin n replacement = one n _ _ (omega arith) in
    either n _ _ _ (one n (Char b) none (omega arith))
    (either n _ _ _ bad (wide_within n l b (take (following_len b) bytes) (simp length-take (omega arith))))

key_or_within : (n : ℕ) (o : Option KeyCode) (other : Option Scanned) → 0 < n → IsWithin n other → IsWithin n (key_or o other)
key_or_within n (Some key) other some h = one n key none some
key_or_within n None other some h = h

character_within : (n : ℕ) (l : Bool) (b : ℕ) (bytes : List ℕ) → 1 + length bytes ≤ n → IsWithin n (character_at l b bytes)
character_within n l b bytes fits =
    let some : 0 < n = omega arith in
    let control : IsWithin n (with_control b) = either n _ _ _ (one n (Char 32) ctrl some) (one n (Char (b + 64)) ctrl some) in
    key_or_within n (key_in control_characters b) _ some (either n _ _ _ control (typed_within n l b bytes fits))

behind_within : (n m : ℕ) (o : Option Scanned) → n + 1 ≤ m → IsWithin n o → IsWithin m (behind_escape o)
behind_within n m (Some s) fits h = record { bounds = (omega arith, omega (arith, h.bounds.1)) }
behind_within n m None fits h = nothing m

application_key_within : (o : Option KeyCode) (n : ℕ) → 3 ≤ n → IsWithin n (application_key o)
application_key_within (Some key) n fits = taken n 3 _ (omega arith) (omega arith)
application_key_within None n fits = taken n 2 _ (omega arith) (omega arith)

application_within : (n : ℕ) (l : Bool) (bytes : List ℕ) → 2 + length bytes ≤ n → IsWithin n (application_at l bytes)
application_within n l [] fits = either n l _ _ (taken n 2 (key_token (Char 79) alt) (omega arith) (omega arith)) (nothing n)
application_within n l (b ∷ bytes) fits = application_key_within (key_in application_keys b) n (omega arith)

paste_of_within : (n : ℕ) (l : Bool) (from left : ℕ) (o : Option ℕ) → 0 < from → from + left ≤ n → IfSome o (λ k. k + 6 ≤ left) → IsWithin n (paste_of l from left o)
paste_of_within n l from left (Some k) some fits h = taken n (from + k + 6) (Paste from k) (omega arith) (omega arith)
paste_of_within n l from left None some fits h = either n l _ _ (taken n (from + left) (Paste from left) (omega arith) (omega arith)) (nothing n)

mouse_within : (n : ℕ) (l : Bool) (left : ℕ) → 3 + left ≤ n → IsWithin n (mouse_report l left)
mouse_within n l left fits = record { bounds = by_room (cases_lt left 3) }
  where
    by_room : (left < 3) ⊎ (3 ≤ left) → IfSome (mouse_report l left) (λ s. (0 < s.used) × (s.used ≤ n))
    by_room (inl few) =
        subst (λ t. IfSome (cond t (cond l (scanned_as Unknown (3 + left)) None) (scanned_as Unknown 6)) (λ s. (0 < s.used) × (s.used ≤ n))) (sym (lt-ltb left 3 few))
        (either n l _ _ (taken n (3 + left) Unknown (omega arith) fits) (nothing n)).bounds
    by_room (inr all) =
        subst (λ t. IfSome (cond t (cond l (scanned_as Unknown (3 + left)) None) (scanned_as Unknown 6)) (λ s. (0 < s.used) × (s.used ≤ n))) (sym (le-ltb left 3 all))
        (omega arith, omega arith)

sequence_within : (n : ℕ) (l : Bool) (parameters : List ℕ) (letter : ℕ) (bytes : List ℕ) → 3 + length parameters + length bytes ≤ n → IsWithin n (sequence_at l parameters letter bytes)
sequence_within n l parameters letter bytes fits =
    let used : ℕ = 3 + length parameters in
    let pasted : IsWithin n (paste_at l used bytes) = paste_of_within n l used (length bytes) (paste_len bytes) (omega arith) fits (paste_within bytes) in
    let token = parameters_token parameters letter in
    let told : IsWithin n _ = either n _ _ _ (mouse_within n l (length bytes) (omega arith)) (taken n used token (omega arith) (omega arith)) in
    either n _ _ _ (taken n used Unknown (omega arith) (omega arith)) (either n _ _ _ pasted told)

ended_within : (n : ℕ) (l : Bool) (parameters rest : List ℕ) → 2 + (length parameters + length rest) ≤ n → IsWithin n (ended_at l parameters rest)
ended_within n l parameters [] fits = either n l _ _ (taken n 2 (key_token (Char 91) alt) (omega arith) (omega arith)) (nothing n)
ended_within n l parameters (b ∷ bytes) fits =
    either n _ _ _ (sequence_within n l parameters b bytes (omega arith)) (taken n (2 + length parameters) Unknown (omega arith) (omega arith))

-- the parameters and what stands after them are all the bytes
pub parameters_split : (bytes : List ℕ) → length (take (prefix_len is_parameter bytes) bytes) + length (drop (prefix_len is_parameter bytes) bytes) ≡ length bytes
parameters_split bytes =
    let k = prefix_len is_parameter bytes in
    sym (length-append (take k bytes) (drop k bytes)) ∙ ap length (take-append-drop k bytes)

control_within : (n : ℕ) (l : Bool) (bytes : List ℕ) → 2 + length bytes ≤ n → IsWithin n (control_at l bytes)
control_within n l bytes fits =
    let k = prefix_len is_parameter bytes in
    ended_within n l (take k bytes) (drop k bytes) (omega (arith, parameters_split bytes))

before_escape_within : (n : ℕ) (l : Bool) (used : ℕ) (bytes : List ℕ) → 0 < used → used + (1 + length bytes) ≤ n → IsWithin n (string_before_escape l used bytes)
before_escape_within n l used [] some fits = either n l _ _ (taken n used Unknown some (omega arith)) (nothing n)
before_escape_within n l used (b ∷ bytes) some fits = either n _ _ _ (taken n (used + 2) Unknown (omega arith) (omega arith)) (taken n used Unknown some (omega arith))

string_of_within : (n : ℕ) (l : Bool) (used : ℕ) (bytes : List ℕ) → 0 < used → used + length bytes ≤ n → IsWithin n (string_of l used bytes)
string_of_within n l used [] some fits = either n l _ _ (taken n used Unknown some (omega arith)) (nothing n)
string_of_within n l used (b ∷ bytes) some fits =
    either n _ _ _ (before_escape_within n l used bytes some (omega arith))
    (either n _ _ _ (taken n (used + 1) Unknown (omega arith) (omega arith)) (taken n used Unknown some (omega arith)))

whole_string_within : (n : ℕ) (l : Bool) (bytes : List ℕ) → 2 + length bytes ≤ n → IsWithin n (whole_string l bytes)
whole_string_within n l bytes fits =
    let len = prefix_len is_string_byte bytes in
    string_of_within n l (2 + len) (drop len bytes) (omega arith) (omega (arith, length-drop len bytes, prefix_len-le-length is_string_byte bytes))

string_within : (n : ℕ) (l : Bool) (opening : ℕ) (bytes : List ℕ) → 2 + length bytes ≤ n → IsWithin n (string_at l opening bytes)
string_within n l opening [] fits = either n l _ _ (taken n 2 (key_token (Char opening) alt) (omega arith) (omega arith)) (nothing n)
string_within n l opening (b ∷ bytes) fits =
    either n _ _ _ (whole_string_within n l (b ∷ bytes) fits) (taken n 2 (key_token (Char opening) alt) (omega arith) (omega arith))

alt_key_within : (n : ℕ) (l : Bool) (rows : List (ℕ × KeyCode)) (bytes : List ℕ) → 3 + length bytes ≤ n → IsWithin n (alt_key_at l rows bytes)
alt_key_within n l rows [] fits = either n l escape_alone None (one n Escape none (omega arith)) (nothing n)
alt_key_within n l rows (b ∷ bytes) fits = by_key (key_in rows b)
  where
    by_key : (o : Option KeyCode) → IsWithin n (alt_key o)
    by_key (Some key) = taken n 4 (key_token key alt) (omega arith) (omega arith)
    by_key None = one n Escape none (omega arith)

second_escape_within : (n : ℕ) (l : Bool) (bytes : List ℕ) → 2 + length bytes ≤ n → IsWithin n (second_escape_at l bytes)
second_escape_within n l [] fits = either n l escape_alone None (one n Escape none (omega arith)) (nothing n)
second_escape_within n l (b ∷ bytes) fits =
    either n _ _ _ (alt_key_within n l letter_keys bytes (omega arith))
    (either n _ _ _ (alt_key_within n l application_keys bytes (omega arith)) (one n Escape none (omega arith)))

escape_within : (n : ℕ) (l : Bool) (bytes : List ℕ) → 1 + length bytes ≤ n → IsWithin n (escape_at l bytes)
escape_within n l [] fits = one n Escape none (omega arith)
escape_within n l (b ∷ bytes) fits =
    let typed : IsWithin n (behind_escape (character_at l b bytes)) =
    behind_within (1 + length bytes) n _ (omega arith) (character_within _ l b bytes (omega arith)) in
    either n _ _ _ (second_escape_within n l bytes (omega arith)) (either n _ _ _ (control_within n l bytes (omega arith)) (either n _ _ _ (application_within n l bytes (omega arith))
    (either n _ _ _ (string_within n l b bytes (omega arith)) typed)))

-- a token takes at least one byte, and none that is not there
pub token_within : (l : Bool) (bytes : List ℕ) → IsWithin (length bytes) (token_at l bytes)
unfolding token_at
token_within l [] = nothing _
token_within l (b ∷ bytes) =
    let n = length (b ∷ bytes) in
    either n _ _ _ (escape_within n l bytes (omega arith)) (character_within n l b bytes (omega arith))

-- an answer is there
pub record Answers (o : Option Scanned) : Type 0 where
  pub there : IsSome o

yes : {s : Scanned} → Answers (Some s)
yes = record { there = refl }

ends_if : (b : Bool) (x y : Option Scanned) → Answers x → Answers y → Answers (cond b x y)
ends_if b x y p q = elim b as (λ v. Answers (cond v x y)) [ true ↦ p | false ↦ q ]

key_or_ends : (o : Option KeyCode) (other : Option Scanned) → Answers other → Answers (key_or o other)
key_or_ends (Some key) other h = yes
key_or_ends None other h = h

character_ends : (b : ℕ) (bytes : List ℕ) → Answers (character_at true b bytes)
character_ends b bytes =
    let following = take (following_len b) bytes in
    let bad : Answers replacement = yes in
    let whole : Answers (whole_character b following) = ends_if _ _ _ yes bad in
    let short : Answers (cond (ltb (length following) (following_len b)) replacement (whole_character b following)) = ends_if _ _ _ bad whole in
    let wide : Answers (wide_character true b following) = ends_if _ _ _ bad short in
    let high : Answers (cond (ltb b 194 || leb 245 b) replacement (wide_character true b following)) = ends_if _ _ _ bad wide in
    let typed : Answers (typed_at true b bytes) = ends_if _ _ _ yes high in
    let control : Answers (with_control b) = ends_if _ _ _ yes yes in
    key_or_ends (key_in control_characters b) (cond (ltb b 32) (with_control b) (typed_at true b bytes)) (ends_if _ _ _ control typed)

behind_ends : (o : Option Scanned) → Answers o → Answers (behind_escape o)
behind_ends (Some s) h = yes
behind_ends None h = absurd (cc h.there)

application_ends : (bytes : List ℕ) → Answers (application_at true bytes)
application_ends [] = yes
application_ends (b ∷ bytes) = elim (key_in application_keys b) as (λ o. Answers (application_key o)) [ Some key ↦ yes | None ↦ yes ]

paste_ends : (from left : ℕ) (o : Option ℕ) → Answers (paste_of true from left o)
paste_ends from left (Some k) = yes
paste_ends from left None = yes

mouse_ends : (left : ℕ) → Answers (mouse_report true left)
mouse_ends left = ends_if (ltb left 3) _ _ yes yes

ended_ends : (parameters rest : List ℕ) → Answers (ended_at true parameters rest)
ended_ends parameters [] = yes
ended_ends parameters (b ∷ bytes) =
    let numbers : Answers (sequence_at true parameters b bytes) =
    ends_if _ _ _ yes (ends_if _ _ _ (paste_ends (3 + length parameters) (length bytes) (paste_len bytes)) (ends_if _ _ _ (mouse_ends (length bytes)) yes)) in
    ends_if _ _ _ numbers yes

before_escape_ends : (used : ℕ) (bytes : List ℕ) → Answers (string_before_escape true used bytes)
before_escape_ends used [] = yes
before_escape_ends used (b ∷ bytes) = ends_if _ _ _ yes yes

string_of_ends : (used : ℕ) (bytes : List ℕ) → Answers (string_of true used bytes)
string_of_ends used [] = yes
string_of_ends used (b ∷ bytes) = ends_if _ _ _ (before_escape_ends used bytes) (ends_if _ _ _ yes yes)

string_ends : (opening : ℕ) (bytes : List ℕ) → Answers (string_at true opening bytes)
string_ends opening [] = yes
string_ends opening (b ∷ bytes) =
    let len = prefix_len is_string_byte (b ∷ bytes) in
    ends_if _ _ _ (string_of_ends (2 + len) (drop len (b ∷ bytes))) yes

alt_key_ends : (rows : List (ℕ × KeyCode)) (bytes : List ℕ) → Answers (alt_key_at true rows bytes)
alt_key_ends rows [] = yes
alt_key_ends rows (b ∷ bytes) = elim (key_in rows b) as (λ o. Answers (alt_key o)) [ Some key ↦ yes | None ↦ yes ]

second_escape_ends : (bytes : List ℕ) → Answers (second_escape_at true bytes)
second_escape_ends [] = yes
second_escape_ends (b ∷ bytes) = ends_if _ _ _ (alt_key_ends letter_keys bytes) (ends_if _ _ _ (alt_key_ends application_keys bytes) yes)

escape_ends : (bytes : List ℕ) → Answers (escape_at true bytes)
escape_ends [] = yes
escape_ends (b ∷ bytes) =
    ends_if _ _ _ (second_escape_ends bytes) (ends_if _ _ _ (ended_ends (take (prefix_len is_parameter bytes) bytes) (drop (prefix_len is_parameter bytes) bytes))
    (ends_if _ _ _ (application_ends bytes) (ends_if _ _ _ (string_ends b bytes) (behind_ends _ (character_ends b bytes)))))

-- where the bytes are the last ones there is a token
answers : (bytes : List ℕ) → 0 < length bytes → Answers (token_at true bytes)
unfolding token_at
answers [] some = absurd (omega arith)
answers (b ∷ bytes) some = ends_if _ _ _ (escape_ends bytes) (character_ends b bytes)

-- the same of an answer that is the token
pub takes : (l : Bool) (bytes : List ℕ) (o : Option Scanned) → o ≡ token_at l bytes → IfSome o (λ s. 0 < s.used)
takes l bytes o e =
    let within : (p : Option Scanned) → IsWithin (length bytes) p → IfSome p (λ s. 0 < s.used) =
    λ p h. elim p as (λ q. IfSome q (λ s. (0 < s.used) × (s.used ≤ length bytes)) → IfSome q (λ s. 0 < s.used)) [ Some s ↦ λ b. b.0 | None ↦ λ b. tt ] h.bounds in
    within o (subst (IsWithin (length bytes)) (sym e) (token_within l bytes))

pub takes_no_more : (l : Bool) (bytes : List ℕ) (o : Option Scanned) → o ≡ token_at l bytes → IfSome o (λ s. s.used ≤ length bytes)
takes_no_more l bytes o e =
    let within : (p : Option Scanned) → IsWithin (length bytes) p → IfSome p (λ s. s.used ≤ length bytes) =
    λ p h. elim p as (λ q. IfSome q (λ s. (0 < s.used) × (s.used ≤ length bytes)) → IfSome q (λ s. s.used ≤ length bytes)) [ Some s ↦ λ b. b.1 | None ↦ λ b. tt ] h.bounds in
    within o (subst (IsWithin (length bytes)) (sym e) (token_within l bytes))

pub is_there : (l : Bool) (bytes : List ℕ) (o : Option Scanned) → o ≡ token_at l bytes → 0 < length bytes → l ≡ true → IsSome o
is_there l bytes o e some last =
    let is_last : token_at true bytes ≡ o = ap (λ b. token_at b bytes) (sym last) ∙ sym e in
    subst (λ p. IsSome p) is_last (answers bytes some).there

pub token_ends : (bytes : List ℕ) → 0 < length bytes → IsSome (token_at true bytes)
token_ends bytes some = (answers bytes some).there

pub takes_bytes : (l : Bool) (bytes : List ℕ) → IfSome (token_at l bytes) (λ s. (0 < s.used) × (s.used ≤ length bytes))
takes_bytes l bytes = (token_within l bytes).bounds
