-- Where an ESC alone waits, what is told of some bytes does not depend on how they came.
use Rattle.std.proofs.Common.{◌≡◌, ◌≢◌, ◌≤◌, ◌<◌, ◌+◌, ℕ, zero, suc, Bool, true, false, cond, eqb, ltb, leb, not, ◌&&◌, ◌||◌, List, [], ◌∷◌, ◌++◌, Option, Some, None, IfSome, take, drop, length, length-append, length-drop, arith, refl, sym, ap, ◌∙◌, subst, append_assoc, append-nil}
use Rattle.std.specs.Io.KnownBytes.{Consumes, IsAtEnd}
use Rattle.std.specs.List.{list_all, prefix_len}
use Rattle.std.proofs.lemmas.List.{take-append-le, drop-append-le, nil_from_length}
use Rattle.tw_input.specs.EventView.{EventView}
use Rattle.tw_input.specs.EventView as event
use Rattle.tw_input.specs.Modifiers.{none, alt, ctrl, shift}
use Rattle.tw_input.specs.declared.key.KeyCode.{KeyCode}
use Rattle.tw_input.specs.declared.key.KeyCode.TheVariants.{Char, Escape, Tab}
use Rattle.tw_ansi.specs.declared.token.Token.{Token}
use Rattle.tw_ansi.specs.declared.token.Token.TheVariants.{Key, Size, Paste, Unknown}
use Rattle.tw_ansi.specs.declared.token.Scanned.{Scanned}
use Rattle.tw_ansi.specs.KeyBytes.{token_at, escape_at, escape_alone, alt_key, alt_key_at, second_escape_at, letter_keys, string_at, string_of, string_before_escape, opens_string, begins_answer, is_string_byte, control_at, ended_at, sequence_at, mouse_report, paste_of, paste_len, application_at, application_key, application_keys, behind_escape, with_alt, character_at, control_characters, key_in, key_or, key_or_unknown, with_control, typed_at, wide_character, whole_character, following_len, replacement, scanned_as, key_token, code_of, first_number, second_number, third_number, numbers_token, size_token, parameters_token, sequence_key, is_parameter, is_numeric, is_letter, is_continuation, told_bits}
use Rattle.tw_ansi.proofs.Pieces.{stays_found}
use Rattle.tw_ansi.proofs.Tokens.{takes_bytes}
use Rattle.tw_device.specs.declared.pasted.Pasted.{Pasted}
use Rattle.tw_device.specs.Told.{token_events, pasted_text}
use Rattle.tw_device.specs.Typed.{Held, ReadStep, Came, Took, Lead, next_token, escape_waits, is_lone_escape, held_after_read, held_after_token, given_bytes, told_by, events_of}
use Rattle.tw_device.specs.Pieces.{times, IsKnown, PiecesDoNotMatter}
use Rattle.tw_device.specs.declared.escape.Escape.TheVariants.{Waits}
use Rattle.tw_device.proofs.TypedLemmas.{found_at, none_is_lost}

-- a pasted text ends within its token

-- how many bytes stand before the end of a token's text
abbrev text_end : Token → ℕ
text_end (Paste from len) = from + len
text_end (Key key) = 0
text_end (Size cols rows) = 0
text_end Unknown = 0

record IsInside (o : Option Scanned) : Type 0 where
  text : IfSome o (λ s. text_end s.token ≤ s.used)

nothing : IsInside None
nothing = record { text = tt }

token_inside : (token : Token) (used : ℕ) → text_end token ≤ used → IsInside (scanned_as token used)
token_inside token used fits = record { text = fits }

key_inside : (key : KeyCode) (bits used : ℕ) → IsInside (scanned_as (key_token key bits) used)
key_inside key bits used = record { text = omega arith }

either : (b : Bool) (x y : Option Scanned) → IsInside x → IsInside y → IsInside (cond b x y)
either b x y p q = elim b as (λ v. IsInside (cond v x y)) [ true ↦ p | false ↦ q ]

lost : IsInside replacement
lost = key_inside (Char 65533) none 1

wide_inside : (l : Bool) (b : ℕ) (following : List ℕ) → IsInside (wide_character l b following)
wide_inside l b following =
    let whole : IsInside (whole_character b following) = either _ _ _ (key_inside (Char (code_of b following)) none (1 + length following)) lost in
    either (not (list_all is_continuation following)) _ _ lost (either (ltb (length following) (following_len b)) _ _ (either l replacement None lost nothing) whole)

key_or_inside : (o : Option KeyCode) (other : Option Scanned) → IsInside other → IsInside (key_or o other)
key_or_inside (Some key) other h = key_inside key none 1
key_or_inside None other h = h

character_inside : (l : Bool) (b : ℕ) (bytes : List ℕ) → IsInside (character_at l b bytes)
character_inside l b bytes =
    let control : IsInside (with_control b) = either (eqb b 0) _ _ (key_inside (Char 32) ctrl 1) (key_inside (Char (b + 64)) ctrl 1) in
    let typed : IsInside (typed_at l b bytes) = either (ltb b 127) _ _ (key_inside (Char b) none 1) (either (ltb b 194 || leb 245 b) _ _ lost (wide_inside l b (take (following_len b) bytes))) in
    key_or_inside (key_in control_characters b) _
    (either (ltb b 32) _ _ control typed)

alt_inside : (token : Token) (used : ℕ) → text_end token ≤ used → text_end (with_alt token) ≤ used + 1
alt_inside (Key key) used h = omega arith
alt_inside (Size cols rows) used h = omega arith
alt_inside (Paste from len) used h = omega (arith, h)
alt_inside Unknown used h = omega arith

behind_inside : (o : Option Scanned) → IsInside o → IsInside (behind_escape o)
behind_inside (Some s) h = record { text = alt_inside s.token s.used h.text }
behind_inside None h = nothing

application_key_inside : (o : Option KeyCode) → IsInside (application_key o)
application_key_inside (Some key) = key_inside key none 3
application_key_inside None = key_inside (Char 79) alt 2

application_inside : (l : Bool) (bytes : List ℕ) → IsInside (application_at l bytes)
application_inside l [] = either l (scanned_as (key_token (Char 79) alt) 2) None (key_inside (Char 79) alt 2) nothing
application_inside l (b ∷ bytes) = application_key_inside (key_in application_keys b)

one_inside : (b : Bool) (x y : Token) (used : ℕ) → text_end x ≤ used → text_end y ≤ used → text_end (cond b x y) ≤ used
one_inside b x y used p q = elim b as (λ v. text_end (cond v x y) ≤ used) [ true ↦ p | false ↦ q ]

known_inside : (o : Option KeyCode) (bits used : ℕ) → text_end (key_or_unknown o bits) ≤ used
known_inside (Some key) bits used = omega arith
known_inside None bits used = omega arith

numbers_end : (first second letter used : ℕ) → text_end (numbers_token first second letter) ≤ used
numbers_end first second letter used =
    let known = known_inside (sequence_key first letter) (told_bits second) used in
    let tab : text_end (key_token Tab shift) ≤ used = omega arith in
    let place : text_end (Size second first) ≤ used = omega arith in
    one_inside (eqb letter 82 && (ltb 1 first && ltb 0 second)) _ _ used place (one_inside (eqb letter 90) _ _ used tab known)

parameters_inside : (parameters : List ℕ) (letter used : ℕ) → IsInside (scanned_as (parameters_token parameters letter) used)
unfolding parameters_token
parameters_inside parameters letter used =
    let size : text_end (size_token (second_number parameters) (third_number parameters)) ≤ used =
    one_inside (ltb 0 (second_number parameters) && ltb 0 (third_number parameters)) _ _ used (omega arith) (omega arith) in
    token_inside (parameters_token parameters letter) used
    (one_inside (eqb letter 116 && eqb (first_number parameters) 48) _ _ used size (numbers_end (first_number parameters) (second_number parameters) letter used))

paste_inside : (l : Bool) (from left : ℕ) (o : Option ℕ) → IsInside (paste_of l from left o)
paste_inside l from left (Some len) = token_inside (Paste from len) (from + len + 6) (omega arith)
paste_inside l from left None = either l (scanned_as (Paste from left) (from + left)) None (token_inside (Paste from left) (from + left) (omega arith)) nothing

unknown_inside : (used : ℕ) → IsInside (scanned_as Unknown used)
unknown_inside used = token_inside Unknown used (omega arith)

mouse_inside : (l : Bool) (left : ℕ) → IsInside (mouse_report l left)
mouse_inside l left = either (ltb left 3) _ _ (either l (scanned_as Unknown (3 + left)) None (unknown_inside (3 + left)) nothing) (unknown_inside 6)

sequence_inside : (l : Bool) (parameters : List ℕ) (letter : ℕ) (bytes : List ℕ) → IsInside (sequence_at l parameters letter bytes)
sequence_inside l parameters letter bytes =
    let used = 3 + length parameters in
    either (not (list_all is_numeric parameters)) _ _ (unknown_inside used)
    (either (eqb letter 126 && eqb (first_number parameters) 200) _ _ (paste_inside l used (length bytes) (paste_len bytes))
    (either (eqb letter 77 && eqb (length parameters) 0) _ _ (mouse_inside l (length bytes)) (parameters_inside parameters letter used)))

ended_inside : (l : Bool) (parameters rest : List ℕ) → IsInside (ended_at l parameters rest)
ended_inside l parameters [] = either l (scanned_as (key_token (Char 91) alt) 2) None (key_inside (Char 91) alt 2) nothing
ended_inside l parameters (b ∷ bytes) = either (is_letter b) _ _ (sequence_inside l parameters b bytes) (unknown_inside (2 + length parameters))

before_escape_inside : (l : Bool) (used : ℕ) (bytes : List ℕ) → IsInside (string_before_escape l used bytes)
before_escape_inside l used [] = either l (scanned_as Unknown used) None (unknown_inside used) nothing
before_escape_inside l used (b ∷ bytes) = either (eqb b 92) _ _ (unknown_inside (used + 2)) (unknown_inside used)

string_of_inside : (l : Bool) (used : ℕ) (bytes : List ℕ) → IsInside (string_of l used bytes)
string_of_inside l used [] = either l (scanned_as Unknown used) None (unknown_inside used) nothing
string_of_inside l used (b ∷ bytes) =
    either (eqb b 27) _ _ (before_escape_inside l used bytes) (either (eqb b 7) _ _ (unknown_inside (used + 1)) (unknown_inside used))

string_inside : (l : Bool) (opening : ℕ) (bytes : List ℕ) → IsInside (string_at l opening bytes)
string_inside l opening [] = either l (scanned_as (key_token (Char opening) alt) 2) None (key_inside (Char opening) alt 2) nothing
string_inside l opening (b ∷ bytes) =
    let len = prefix_len is_string_byte (b ∷ bytes) in
    either (begins_answer b) _ _ (string_of_inside l (2 + len) (drop len (b ∷ bytes))) (key_inside (Char opening) alt 2)

alt_key_inside : (l : Bool) (rows : List (ℕ × KeyCode)) (bytes : List ℕ) → IsInside (alt_key_at l rows bytes)
alt_key_inside l rows [] = either l escape_alone None (key_inside Escape none 1) nothing
alt_key_inside l rows (b ∷ bytes) = by_key (key_in rows b)
  where
    by_key : (o : Option KeyCode) → IsInside (alt_key o)
    by_key (Some key) = key_inside key alt 4
    by_key None = key_inside Escape none 1

second_escape_inside : (l : Bool) (bytes : List ℕ) → IsInside (second_escape_at l bytes)
second_escape_inside l [] = either l escape_alone None (key_inside Escape none 1) nothing
second_escape_inside l (b ∷ bytes) =
    either (eqb b 91) _ _ (alt_key_inside l letter_keys bytes)
    (either (eqb b 79) _ _ (alt_key_inside l application_keys bytes) (key_inside Escape none 1))

escape_inside : (l : Bool) (bytes : List ℕ) → IsInside (escape_at l bytes)
escape_inside l [] = key_inside Escape none 1
escape_inside l (b ∷ bytes) =
    let control : IsInside (control_at l bytes) = ended_inside l (take (prefix_len is_parameter bytes) bytes) (drop (prefix_len is_parameter bytes) bytes) in
    let typed : IsInside (behind_escape (character_at l b bytes)) = behind_inside (character_at l b bytes) (character_inside l b bytes) in
    either (eqb b 27) _ _ (second_escape_inside l bytes) (either (eqb b 91) _ _ control (either (eqb b 79) _ _ (application_inside l bytes) (either (opens_string b) _ _ (string_inside l b bytes) typed)))

token_at_inside : (l : Bool) (bytes : List ℕ) → IsInside (token_at l bytes)
unfolding token_at
token_at_inside l [] = nothing
token_at_inside l (b ∷ bytes) = either (eqb b 27) _ _ (escape_inside l bytes) (character_inside l b bytes)

-- so what it tells does not depend on the bytes after it

text_kept : (bytes more : List ℕ) (from len : ℕ) → from + len ≤ length bytes → take len (drop from (bytes ++ more)) ≡ take len (drop from bytes)
text_kept bytes more from len fits =
    ap (λ xs. take len xs) (drop-append-le from bytes more (omega (arith, fits)))
    ∙ take-append-le len (drop from bytes) more (simp length-drop (omega (arith, fits)))

told_kept : (pasted : Pasted) (token : Token) (bytes more : List ℕ) → text_end token ≤ length bytes → token_events pasted token (bytes ++ more) ≡ token_events pasted token bytes
told_kept pasted (Key key) bytes more fits = refl
told_kept pasted (Size cols rows) bytes more fits = refl
told_kept pasted (Paste from len) bytes more fits = ap (λ text. event.Paste (pasted_text pasted text) ∷ []) (text_kept bytes more from len fits)
told_kept pasted Unknown bytes more fits = refl

-- the bounds of a token that was found
bounds : (l : Bool) (bytes : List ℕ) (s : Scanned) → token_at l bytes ≡ Some s → (0 < s.used) × (s.used ≤ length bytes) × (text_end s.token ≤ s.used)
bounds l bytes s found =
    let some : IfSome (Some s) (λ s. (0 < s.used) × (s.used ≤ length bytes)) = subst (λ o. IfSome o (λ s. (0 < s.used) × (s.used ≤ length bytes))) found (takes_bytes l bytes) in
    let inside : IsInside (Some s) = subst IsInside found (token_at_inside l bytes) in
    (some.0, some.1, inside.text)

-- where an ESC alone waits it is not found before the end
not_alone : (old : Held) (s : Scanned) → old.escape ≡ Waits → next_token false old ≡ Some s → old.unread ≢ 27 ∷ []
not_alone old s waits found alone =
    let none : next_token false old ≡ None = ap (λ e. cond (escape_waits e old.was_full && is_lone_escape old.unread && true) None (token_at false old.unread)) waits
    ∙ ap (λ u. cond (is_lone_escape u && true) None (token_at false u)) alone in
    let both : None ≡ Some s = sym none ∙ found in absurd cc

-- what is known of a reader stays known
known_then : (old new : Option (List ℕ)) (bytes : List ℕ) → IsKnown old → Consumes old new bytes → IsKnown new
known_then None new bytes known consumed = absurd known
known_then (Some xs) None bytes known consumed = absurd consumed
known_then (Some xs) (Some ys) bytes known consumed = tt

-- after the end no byte comes
none_comes : (old new : Option (List ℕ)) (bytes : List ℕ) → IsKnown old → IsAtEnd old → Consumes old new bytes → bytes ≡ []
none_comes None new bytes known end consumed = absurd known
none_comes (Some xs) None bytes known end consumed = absurd consumed
none_comes (Some xs) (Some ys) bytes known end consumed =
    nil_from_length bytes (omega (arith, length-append bytes ys, ap length (sym consumed ∙ end)))

-- what is found is the same once all bytes are there
found_all : (is_last : Bool) (old new : Held) (s : Scanned) (given : List ℕ) → old.escape ≡ Waits → IsKnown old.left → next_token is_last old ≡ Some s
    → (is_last ≡ true → IsAtEnd old.left) → Consumes old.left new.left given → token_at true (old.unread ++ given) ≡ Some s
found_all false old new s given waits known found last consumed =
    stays_found true old.unread given s (not_alone old s waits found) (found_at false old s found)
found_all true old new s given waits known found last consumed =
    let none : given ≡ [] = none_comes old.left new.left given known (last refl) consumed in
    ap (λ bytes. token_at true (old.unread ++ bytes)) none ∙ ap (token_at true) (append-nil old.unread)
    ∙ found_at true old s found

none_at_once : (pasted : Pasted) (n : ℕ) → events_of pasted (times n (Took true)) [] ≡ []
unfolding token_at
none_at_once pasted zero = refl
none_at_once pasted (suc n) = refl

-- one token of bytes that are all there
one_at_once : (pasted : Pasted) (n : ℕ) (bytes : List ℕ) (s : Scanned) → token_at true bytes ≡ Some s
    → events_of pasted (times (suc n) (Took true)) bytes ≡ token_events pasted s.token bytes ++ events_of pasted (times n (Took true)) (drop s.used bytes)
one_at_once pasted n bytes s found = ap (λ o. told_by pasted o bytes (events_of pasted (times n (Took true)))) found

told_at_once : (steps : List ReadStep) (old new : Held) (events : List EventView) (n : ℕ) → Lead steps old new events → old.escape ≡ Waits → IsKnown old.left → new.unread ≡ []
    → length (old.unread ++ given_bytes steps) ≤ n → events ≡ events_of old.pasted (times n (Took true)) (old.unread ++ given_bytes steps)
told_at_once [] old new events n g waits known empty fits =
    let nothing : old.unread ++ [] ≡ [] = append-nil old.unread ∙ sym (ap (λ (h : Held). h.unread) g.0) ∙ empty in
    g.2 ∙ sym (ap (events_of old.pasted (times n (Took true))) nothing ∙ none_at_once old.pasted n)
told_at_once (Came more ∷ steps) old new events n g waits known empty fits =
    let all = append_assoc old.unread more (given_bytes steps) in
    told_at_once steps (held_after_read more g.1.0 old) new events n g.1.2 waits (known_then old.left g.1.0 more known g.1.1) empty (omega (arith, ap length all, fits))
    ∙ ap (events_of old.pasted (times n (Took true))) all
told_at_once (Took is_last ∷ steps) old new events zero g waits known empty fits =
    let bound = bounds is_last old.unread g.1.0 (found_at is_last old g.1.0 g.1.1) in
    absurd (omega (arith, bound.0, bound.1, length-append old.unread (given_bytes steps), fits))
told_at_once (Took is_last ∷ steps) old new events (suc n) g waits known empty fits =
    let s = g.1.0 in
    let given = given_bytes steps in
    let rest = none_is_lost steps (held_after_token s.used old) new g.1.2.0 g.1.2.2 in
    let found : token_at true (old.unread ++ given) ≡ Some s = found_all is_last old new s given waits known g.1.1 g.0 rest.1 in
    let short : token_at is_last old.unread ≡ Some s = found_at is_last old s g.1.1 in
    let bound = bounds is_last old.unread s short in
    let behind : drop s.used (old.unread ++ given) ≡ drop s.used old.unread ++ given = drop-append-le s.used old.unread given bound.1 in
    let fewer : length (drop s.used old.unread ++ given) ≤ n = omega (arith, bound.0, bound.1, ap length (sym behind), length-drop s.used (old.unread ++ given), fits) in
    g.1.2.1
    ∙ ap (λ es. token_events old.pasted s.token old.unread ++ es) (told_at_once steps (held_after_token s.used old) new g.1.2.0 n g.1.2.2 waits known empty fewer)
    ∙ ap (λ es. es ++ events_of old.pasted (times n (Took true)) (drop s.used old.unread ++ given)) (sym (told_kept old.pasted s.token old.unread given (omega (arith, bound.1, bound.2))))
    ∙ ap (λ bytes. token_events old.pasted s.token (old.unread ++ given) ++ events_of old.pasted (times n (Took true)) bytes) (sym behind)
    ∙ sym (one_at_once old.pasted n (old.unread ++ given) s found)

pub pieces_do_not_matter : PiecesDoNotMatter
pieces_do_not_matter steps old new events lead waits known empty =
    told_at_once steps old new events (length (old.unread ++ given_bytes steps)) lead waits known empty (omega arith)
