-- What is taken where nothing is known.
use Rattle.std.proofs.Common.{◌≡◌, ◌≢◌, ◌≤◌, ◌+◌, ℕ, suc, Bool, true, false, not, cond, ltb, eqb, ◌&&◌, List, [], ◌∷◌, ◌++◌, Option, Some, None, IfSome, ◌⊎◌, inl, inr, take, drop, length, length-take, append_assoc, append-nil, length-append, take-append-drop, take_at, arith, ap, subst, ◌∙◌, sym, refl}
use Rattle.std.specs.List.{prefix_len, list_all}
use Rattle.std.proofs.lemmas.Bool.{and_from, and_parts, eqb-true, ltb-true}
use Rattle.std.proofs.lemmas.List.{nil_from_length}
use Rattle.std.proofs.lemmas.List.Sums.{prefix_len-le-length}
use Rattle.tw_input.specs.declared.key.KeyCode.{KeyCode}
use Rattle.tw_ansi.specs.declared.token.Token.{Token}
use Rattle.tw_ansi.specs.declared.token.Token.TheVariants.{Key, Size, Paste, Unknown}
use Rattle.tw_ansi.specs.declared.token.Scanned.{Scanned}
use Rattle.tw_ansi.specs.KeyBytes.{token_at, escape_at, alt_key, alt_key_at, second_escape_at, letter_keys, string_at, string_of, string_before_escape, opens_string, begins_answer, is_string_byte, control_at, ended_at, sequence_at, mouse_report, paste_at, paste_of, paste_len, application_at, application_key, application_keys, behind_escape, with_alt, character_at, control_characters, key_in, key_or, with_control, typed_at, wide_character, whole_character, following_len, replacement, scanned_as, key_token, first_number, parameters_token, is_numeric, is_parameter, is_letter}
use Rattle.tw_ansi.specs.KeyLaws.{IsControlSequence, IsControlString, IsMouseReport, UnknownSequences}

-- a token that is known
record Known (o : Option Scanned) : Type 0 where
  pub kept : IfSome o (λ s. s.token ≢ Unknown)

no_key : (key : KeyCode) (bits : ℕ) → key_token key bits ≢ Unknown
no_key key bits e = absurd (cc e)

key : {code : KeyCode} {bits used : ℕ} → Known (scanned_as (key_token code bits) used)
key = record { kept = no_key _ _ }

waits : Known None
waits = record { kept = tt }

known_if : (b : Bool) (x y : Option Scanned) → Known x → Known y → Known (cond b x y)
known_if b x y p q = elim b as (λ v. Known (cond v x y)) [ true ↦ p | false ↦ q ]

key_or_known : (o : Option KeyCode) (other : Option Scanned) → Known other → Known (key_or o other)
key_or_known (Some code) other h = key
key_or_known None other h = h

character_known : (l : Bool) (b : ℕ) (bytes : List ℕ) → Known (character_at l b bytes)
character_known l b bytes =
    let following = take (following_len b) bytes in
    let bad : Known replacement = key in
    let whole : Known (whole_character b following) = known_if _ _ _ key bad in
    let wide : Known (wide_character l b following) = known_if _ _ _ bad (known_if _ _ _ (known_if l replacement None bad waits) whole) in
    let typed : Known (typed_at l b bytes) = known_if _ _ _ key (known_if _ _ _ bad wide) in
    let control : Known (with_control b) = known_if _ _ _ key key in
    key_or_known (key_in control_characters b) (cond (ltb b 32) (with_control b) (typed_at l b bytes)) (known_if _ _ _ control typed)

alt_known : (t : Token) → t ≢ Unknown → with_alt t ≢ Unknown
alt_known (Key event) n = no_key _ _
alt_known (Size columns rows) n = n
alt_known (Paste from len) n = n
alt_known Unknown n = n

behind_known : (o : Option Scanned) → Known o → Known (behind_escape o)
behind_known (Some s) h = record { kept = alt_known s.token h.kept }
behind_known None h = waits

application_known : (l : Bool) (bytes : List ℕ) → Known (application_at l bytes)
application_known l [] = known_if l _ _ key waits
application_known l (b ∷ bytes) = elim (key_in application_keys b) as (λ o. Known (application_key o)) [ Some code ↦ key | None ↦ key ]

no_paste : (from len : ℕ) → Paste from len ≢ Unknown
no_paste from len e = absurd (cc e)

paste_known : (l : Bool) (from left : ℕ) (o : Option ℕ) → Known (paste_of l from left o)
paste_known l from left (Some len) = record { kept = no_paste from len }
paste_known l from left None = known_if l _ _ (record { kept = no_paste from left }) waits

-- a sequence, a string or a mouse's report
abbrev IsUnknown : List ℕ → Type 0
IsUnknown bytes = IsControlSequence bytes ⊎ (IsControlString bytes ⊎ IsMouseReport bytes)

-- what is not known is one of them at the front of some bytes
record OnlyUnknown (bytes : List ℕ) (o : Option Scanned) : Type 0 where
  pub kept : (used : ℕ) → o ≡ scanned_as Unknown used → IsUnknown (take used bytes)

only_if : (bytes : List ℕ) (b : Bool) (x y : Option Scanned) → (b ≡ true → OnlyUnknown bytes x) → (b ≡ false → OnlyUnknown bytes y) → OnlyUnknown bytes (cond b x y)
only_if bytes true x y p q = p refl
only_if bytes false x y p q = q refl

known : (bytes : List ℕ) (o : Option Scanned) → Known o → OnlyUnknown bytes o
known bytes o h = record { kept = λ used e. absurd ((subst Known e h).kept refl) }

abbrev used_of : Option Scanned → ℕ
used_of (Some s) = s.used
used_of None = 0

taken_as : (bytes : List ℕ) (t : Token) (used : ℕ) → IsUnknown (take used bytes) → OnlyUnknown bytes (scanned_as t used)
taken_as bytes t used h = record { kept = λ n e. subst (λ k. IsUnknown (take k bytes)) (ap used_of e) h }

taken : (bytes : List ℕ) (t : Token) (used : ℕ) → IsControlSequence (take used bytes) → OnlyUnknown bytes (scanned_as t used)
taken bytes t used h = taken_as bytes t used (inl h)

taken_string : (bytes : List ℕ) (t : Token) (used : ℕ) → IsControlString (take used bytes) → OnlyUnknown bytes (scanned_as t used)
taken_string bytes t used h = taken_as bytes t used (inr (inl h))

-- a mouse's report
mouse_only : (l : Bool) (told : List ℕ) → OnlyUnknown (27 ∷ 91 ∷ 77 ∷ told) (mouse_report l (length told))
mouse_only l told =
    only_if _ (ltb (length told) 3) _ _
    (λ few. only_if _ l _ _ (λ last. taken_as _ Unknown _ (inr (inr (report (length told) (omega (arith, ltb-true _ _ few)))))) (λ more. known _ _ waits))
    (λ all. taken_as _ Unknown 6 (inr (inr (report 3 (omega arith)))))
  where
    report : (used : ℕ) → used ≤ 3 → IsMouseReport (take (3 + used) (27 ∷ 91 ∷ 77 ∷ told))
    report used few = record {
      told = take used told;
      parts = ap (λ n. take n (27 ∷ 91 ∷ 77 ∷ told)) count;
      at_most_three = omega (arith, length-take used told);
    }
      where
        count : 3 + used ≡ suc (suc (suc used))
        count = omega arith

-- ESC [ and parameters
front : (parameters rest : List ℕ) → list_all is_parameter parameters ≡ true → IsControlSequence (take (2 + length parameters) (27 ∷ 91 ∷ (parameters ++ rest)))
front parameters rest all = record {
  parameters = parameters;
  final = [];
  parts = take_at (27 ∷ 91 ∷ parameters) rest (2 + length parameters) (omega arith) ∙ ap (λ xs. 27 ∷ 91 ∷ xs) (sym (append-nil parameters));
  between = all;
  ends = refl;
  at_most_one = omega arith;
}

-- and the byte that ends them
whole : (parameters : List ℕ) (letter : ℕ) (rest : List ℕ) → list_all is_parameter parameters ≡ true → is_letter letter ≡ true
    → IsControlSequence (take (3 + length parameters) (27 ∷ 91 ∷ (parameters ++ letter ∷ rest)))
whole parameters letter rest all ends = record {
  parameters = parameters;
  final = letter ∷ [];
  parts = ap (λ xs. take (3 + length parameters) (27 ∷ 91 ∷ xs)) (sym (append_assoc parameters (letter ∷ []) rest))
      ∙ take_at (27 ∷ 91 ∷ (parameters ++ letter ∷ [])) rest (3 + length parameters) (omega (arith, length-append parameters (letter ∷ [])));
  between = all;
  ends = and_from _ _ ends refl;
  at_most_one = omega arith;
}

sequence_only : (l : Bool) (parameters : List ℕ) (letter : ℕ) (rest : List ℕ) → list_all is_parameter parameters ≡ true → is_letter letter ≡ true
    → OnlyUnknown (27 ∷ 91 ∷ (parameters ++ letter ∷ rest)) (sequence_at l parameters letter rest)
sequence_only l parameters letter rest all ends =
    let bytes = 27 ∷ 91 ∷ (parameters ++ letter ∷ rest) in
    let used : ℕ = 3 + length parameters in
    let token = parameters_token parameters letter in
    let is = whole parameters letter rest all ends in
    only_if bytes (not (list_all is_numeric parameters)) (scanned_as Unknown used) _ (λ no. taken bytes Unknown used is)
    (λ yes. only_if bytes (eqb letter 126 && eqb (first_number parameters) 200) (paste_at l used rest) _
    (λ pasted. known bytes _ (paste_known l used (length rest) (paste_len rest)))
    (λ other. only_if bytes (eqb letter 77 && eqb (length parameters) 0) (mouse_report l (length rest)) (scanned_as token used)
    (λ mouse. mouse_at l parameters letter rest (and_parts _ _ mouse)) (λ other. taken bytes token used is)))
  where
    mouse_at : (l : Bool) (parameters : List ℕ) (letter : ℕ) (rest : List ℕ) → (eqb letter 77 ≡ true) × (eqb (length parameters) 0 ≡ true)
        → OnlyUnknown (27 ∷ 91 ∷ (parameters ++ letter ∷ rest)) (mouse_report l (length rest))
    mouse_at l parameters letter rest (is_m, alone) =
        let none : parameters ≡ [] = nil_from_length parameters (eqb-true (length parameters) 0 alone) in
        subst (λ xs. OnlyUnknown (27 ∷ 91 ∷ (xs ++ letter ∷ rest)) (mouse_report l (length rest))) (sym none)
        (subst (λ b. OnlyUnknown (27 ∷ 91 ∷ b ∷ rest) (mouse_report l (length rest))) (sym (eqb-true letter 77 is_m)) (mouse_only l rest))

ended_only : (l : Bool) (parameters rest : List ℕ) → list_all is_parameter parameters ≡ true → OnlyUnknown (27 ∷ 91 ∷ (parameters ++ rest)) (ended_at l parameters rest)
ended_only l parameters [] all = known _ _ (known_if l _ _ key waits)
ended_only l parameters (b ∷ rest) all =
    let bytes = 27 ∷ 91 ∷ (parameters ++ b ∷ rest) in
    only_if bytes (is_letter b) _ _ (λ ends. sequence_only l parameters b rest all ends) (λ no. taken bytes Unknown (2 + length parameters) (front parameters (b ∷ rest) all))

-- the front of a list passes
front_if : (p : ℕ → Bool) (b : Bool) (n x : ℕ) (xs : List ℕ) → p x ≡ b → list_all p (take n xs) ≡ true → list_all p (take (cond b (1 + n) 0) (x ∷ xs)) ≡ true
front_if p true n x xs e more = let next : 1 + n ≡ suc n = omega arith in ap (λ k. list_all p (take k (x ∷ xs))) next ∙ and_from _ _ e more
front_if p false n x xs e more = refl

front_all : (p : ℕ → Bool) (xs : List ℕ) → list_all p (take (prefix_len p xs) xs) ≡ true
front_all p [] = refl
front_all p (x ∷ xs) = front_if p (p x) (prefix_len p xs) x xs refl (front_all p xs)

control_only : (l : Bool) (bytes : List ℕ) → OnlyUnknown (27 ∷ 91 ∷ bytes) (control_at l bytes)
control_only l bytes =
    let k = prefix_len is_parameter bytes in
    subst (λ xs. OnlyUnknown (27 ∷ 91 ∷ xs) (control_at l bytes)) (take-append-drop k bytes)
    (ended_only l (take k bytes) (drop k bytes) (front_all is_parameter bytes))

-- strings, after ESC and a byte that opens them
module _ (opening : ℕ) (opens : opens_string opening ≡ true) where
  -- a string with what ends it, or without an end
  string_is : (text final rest : List ℕ) (used : ℕ) → list_all is_string_byte text ≡ true → (final ≡ []) ⊎ ((final ≡ 7 ∷ []) ⊎ (final ≡ 27 ∷ 92 ∷ []))
      → used ≡ 2 + length text + length final → IsControlString (take used (27 ∷ opening ∷ (text ++ (final ++ rest))))
  string_is text final rest used all ends count = record {
    opening = opening;
    text = text;
    final = final;
    parts = ap (λ xs. take used (27 ∷ opening ∷ xs)) (sym (append_assoc text final rest))
        ∙ take_at (27 ∷ opening ∷ (text ++ final)) rest used (omega (arith, count, length-append text final));
    opens = opens;
    between = all;
    ends = ends;
  }

  before_escape_only : (l : Bool) (text rest : List ℕ) → list_all is_string_byte text ≡ true
      → OnlyUnknown (27 ∷ opening ∷ (text ++ 27 ∷ rest)) (string_before_escape l (2 + length text) rest)
  before_escape_only l text [] all =
      let cut = taken_string _ Unknown (2 + length text) (string_is text [] (27 ∷ []) _ all (inl refl) (omega arith)) in
      only_if _ l _ _ (λ last. cut) (λ more. known _ _ waits)
  before_escape_only l text (b ∷ rest) all =
      only_if _ (eqb b 92) _ _
      (λ yes. subst (λ x. OnlyUnknown (27 ∷ opening ∷ (text ++ 27 ∷ x ∷ rest)) (scanned_as Unknown (2 + length text + 2))) (sym (eqb-true b 92 yes))
      (taken_string _ Unknown _ (string_is text (27 ∷ 92 ∷ []) rest _ all (inr (inr refl)) (omega arith))))
      (λ no. taken_string _ Unknown _ (string_is text [] (27 ∷ b ∷ rest) _ all (inl refl) (omega arith)))

  string_of_only : (l : Bool) (text rest : List ℕ) → list_all is_string_byte text ≡ true
      → OnlyUnknown (27 ∷ opening ∷ (text ++ rest)) (string_of l (2 + length text) rest)
  string_of_only l text [] all =
      let cut = taken_string _ Unknown (2 + length text) (string_is text [] [] _ all (inl refl) (omega arith)) in
      only_if _ l _ _ (λ last. cut) (λ more. known _ _ waits)
  string_of_only l text (b ∷ rest) all =
      only_if _ (eqb b 27) _ _
      (λ yes. subst (λ x. OnlyUnknown (27 ∷ opening ∷ (text ++ x ∷ rest)) (string_before_escape l (2 + length text) rest)) (sym (eqb-true b 27 yes)) (before_escape_only l text rest all))
      (λ no. only_if _ (eqb b 7) _ _
      (λ yes. subst (λ x. OnlyUnknown (27 ∷ opening ∷ (text ++ x ∷ rest)) (scanned_as Unknown (2 + length text + 1))) (sym (eqb-true b 7 yes))
      (taken_string _ Unknown _ (string_is text (7 ∷ []) rest _ all (inr (inl refl)) (omega arith))))
      (λ no. taken_string _ Unknown _ (string_is text [] (b ∷ rest) _ all (inl refl) (omega arith))))

  string_only : (l : Bool) (bytes : List ℕ) → OnlyUnknown (27 ∷ opening ∷ bytes) (string_at l opening bytes)
  string_only l [] = known _ _ (known_if l _ _ key waits)
  string_only l (b ∷ rest) =
      let bytes = b ∷ rest in
      let k = prefix_len is_string_byte bytes in
      let count : length (take k bytes) ≡ k = length-take k bytes ∙ omega (arith, prefix_len-le-length is_string_byte bytes) in
      let split = subst (λ xs. OnlyUnknown (27 ∷ opening ∷ xs) (string_of l (2 + length (take k bytes)) (drop k bytes))) (take-append-drop k bytes)
      (string_of_only l (take k bytes) (drop k bytes) (front_all is_string_byte bytes)) in
      only_if _ (begins_answer b) _ _ (λ yes. subst (λ n. OnlyUnknown (27 ∷ opening ∷ bytes) (string_of l (2 + n) (drop k bytes))) count split) (λ no. known _ _ key)

alt_key_known : (l : Bool) (rows : List (ℕ × KeyCode)) (bytes : List ℕ) → Known (alt_key_at l rows bytes)
alt_key_known l rows [] = known_if l _ _ key waits
alt_key_known l rows (b ∷ bytes) = elim (key_in rows b) as (λ o. Known (alt_key o)) [ Some code ↦ key | None ↦ key ]

second_escape_known : (l : Bool) (bytes : List ℕ) → Known (second_escape_at l bytes)
second_escape_known l [] = known_if l _ _ key waits
second_escape_known l (b ∷ bytes) =
    known_if _ _ _ (alt_key_known l letter_keys bytes) (known_if _ _ _ (alt_key_known l application_keys bytes) key)

escape_only : (l : Bool) (b : ℕ) (bytes : List ℕ) → OnlyUnknown (27 ∷ b ∷ bytes) (escape_at l (b ∷ bytes))
escape_only l b bytes =
    let typed : Known (behind_escape (character_at l b bytes)) = behind_known _ (character_known l b bytes) in
    only_if _ (eqb b 27) _ _ (λ yes. known _ _ (second_escape_known l bytes))
    (λ no. only_if _ (eqb b 91) _ _ (λ yes. subst (λ x. OnlyUnknown (27 ∷ x ∷ bytes) (control_at l bytes)) (sym (eqb-true b 91 yes)) (control_only l bytes))
    (λ no. only_if _ (eqb b 79) _ _ (λ yes. known _ _ (application_known l bytes))
    (λ no. only_if _ (opens_string b) _ _ (λ yes. string_only b yes l bytes) (λ no. known _ _ typed))))

only : (l : Bool) (bytes : List ℕ) → OnlyUnknown bytes (token_at l bytes)
unfolding token_at
only l [] = known _ _ waits
only l (b ∷ []) = known _ _ (known_if _ _ _ key (character_known l b []))
only l (b ∷ c ∷ bytes) =
    only_if _ (eqb b 27) _ _ (λ yes. subst (λ x. OnlyUnknown (x ∷ c ∷ bytes) (escape_at l (c ∷ bytes))) (sym (eqb-true b 27 yes)) (escape_only l c bytes))
    (λ no. known _ _ (character_known l b (c ∷ bytes)))

pub unknown_sequences : UnknownSequences
unknown_sequences l bytes used e = (only l bytes).kept used e
