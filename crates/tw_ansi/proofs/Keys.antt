-- The keys of bytes.
use Rattle.std.proofs.Common.{◌≡◌, ◌≤◌, ◌<◌, ◌+◌, ◌*◌, ℕ, zero, suc, ◌||◌, cond, eqb, ltb, leb, List, [], ◌∷◌, ◌++◌, Some, None, take, arith, ap, ◌∙◌, sym, refl}
use Rattle.std.specs.Fmt.{decimal, digits}
use Rattle.std.specs.List.{AllByRecursion}
use Rattle.std.proofs.lemmas.Bool.{ne_eqb, lt-ltb, le-ltb, or_from}
use Rattle.tw_input.specs.declared.key.KeyCode.{KeyCode}
use Rattle.tw_input.specs.declared.key.KeyCode.TheVariants.{Char, Escape, Insert, Delete, Home, End, PageUp, PageDown, LeftArrow, RightArrow, UpArrow, DownArrow, Function}
use Rattle.tw_input.specs.Modifiers.{none, ctrl}
use Rattle.tw_ansi.specs.KeyBytes.{token_at, escape_at, escape_alone, alt_key, alt_key_at, second_escape_at, application_keys, letter_keys, string_at, opens_string, control_at, character_at, behind_escape, key_or, with_control, typed_at, replacement, wide_character, following_len, application_at, scanned_as, key_token, key_in, control_characters, parameters_token}
use Rattle.tw_ansi.specs.Sequences.{sequence}
use Rattle.tw_ansi.specs.KeyLaws.{IsTyped, PrintableKeys, EscapeKey, EscapePair, EscapesAtTheEnd, AltLetterKeys, AltKeys, ControlKeys, ControlLetters, ApplicationKeys, LetterKeys, HeldLetterKeys, NumberKeys, HeldNumberKeys, BackTab}

pub escape_key : EscapeKey
unfolding token_at parameters_token
escape_key l = refl

pub escape_pair : EscapePair
unfolding token_at
escape_pair = (
  (λ b no_sequence no_application l rest.
      let application = cond (eqb b 79) (alt_key_at l application_keys rest) escape_alone in
      ap (λ t. cond t (alt_key_at l letter_keys rest) application) (ne_eqb b 91 no_sequence)
      ∙ ap (λ t. cond t (alt_key_at l application_keys rest) escape_alone) (ne_eqb b 79 no_application)),
  (λ b none l rest. ap alt_key none),
  (λ b none l rest. ap alt_key none),
)

pub escapes_at_the_end : EscapesAtTheEnd
unfolding token_at
escapes_at_the_end = (refl, refl, refl)

pub alt_letter_keys : AltLetterKeys
unfolding token_at
alt_letter_keys = (
  (λ l r. refl, (λ l r. refl, (λ l r. refl, (λ l r. refl, (λ l r. refl, (λ l r. refl, (λ l r. refl, (λ l r. refl, (λ l r. refl, (λ l r. refl, tt)))))))))),
  (λ l r. refl, (λ l r. refl, (λ l r. refl, (λ l r. refl, (λ l r. refl, (λ l r. refl, (λ l r. refl, (λ l r. refl, (λ l r. refl, (λ l r. refl, (λ l r. refl, (λ l r. refl, (λ l r. refl, (λ l r. refl, (λ l r. refl, (λ l r. refl, (λ l r. refl, (λ l r. refl, (λ l r. refl, (λ l r. refl, (λ l r. refl, (λ l r. refl, (λ l r. refl, (λ l r. refl, (λ l r. refl, (λ l r. refl, (λ l r. refl, (λ l r. refl, tt)))))))))))))))))))))))))))),
)

pub back_tab : BackTab
unfolding token_at parameters_token
back_tab l rest = refl

pub control_keys : ControlKeys
unfolding token_at parameters_token
control_keys = (λ n l r. refl, (λ n l r. refl, (λ n l r. refl, (λ n l r. refl, (λ n. absurd (n refl), (λ n l r. refl, tt))))))

pub application_keys_typed : ApplicationKeys
unfolding token_at parameters_token
application_keys_typed = (λ l r. refl, (λ l r. refl, (λ l r. refl, (λ l r. refl, (λ l r. refl, (λ l r. refl, (λ l r. refl, (λ l r. refl, (λ l r. refl, (λ l r. refl, (λ l r. refl, (λ l r. refl, (λ l r. refl, (λ l r. refl, (λ l r. refl, (λ l r. refl, (λ l r. refl, (λ l r. refl, (λ l r. refl, (λ l r. refl, (λ l r. refl, (λ l r. refl, (λ l r. refl, (λ l r. refl, (λ l r. refl, (λ l r. refl, (λ l r. refl, (λ l r. refl, tt))))))))))))))))))))))))))))

pub letter_keys_typed : LetterKeys
unfolding token_at parameters_token
letter_keys_typed = (λ l r. refl, (λ l r. refl, (λ l r. refl, (λ l r. refl, (λ l r. refl, (λ l r. refl, (λ l r. refl, (λ l r. refl, (λ l r. refl, (λ l r. refl, tt))))))))))

pub number_keys_typed : NumberKeys
unfolding token_at digits parameters_token
number_keys_typed = (λ l r. refl, (λ l r. refl, (λ l r. refl, (λ l r. refl, (λ l r. refl, (λ l r. refl, (λ l r. refl, (λ l r. refl, (λ l r. refl, (λ l r. refl, (λ l r. refl, (λ l r. refl, (λ l r. refl, (λ l r. refl, (λ l r. refl, (λ l r. refl, (λ l r. refl, (λ l r. refl, (λ l r. refl, (λ l r. refl, tt))))))))))))))))))))

pub alt_keys : AltKeys
unfolding token_at parameters_token
alt_keys l b rest e n o s p =
    let typed = behind_escape (character_at l b rest) in
    let string = cond (opens_string b) (string_at l b rest) typed in
    ap (λ t. cond t (second_escape_at l rest) (cond (eqb b 91) (control_at l rest) (cond (eqb b 79) (application_at l rest) string))) (ne_eqb b 27 e)
    ∙ ap (λ t. cond t (control_at l rest) (cond (eqb b 79) (application_at l rest) string)) (ne_eqb b 91 n)
    ∙ ap (λ t. cond t (application_at l rest) string) (ne_eqb b 79 o)
    ∙ ap (λ t. cond t (string_at l b rest) typed) (or_from (eqb b 93) (eqb b 80) (ne_eqb b 93 s) (ne_eqb b 80 p))
    ∙ ap (λ t. behind_escape (cond t (escape_at l rest) (character_at l b rest))) (sym (ne_eqb b 27 e))

pub none_of : (rows : List (ℕ × KeyCode)) (b : ℕ) → AllByRecursion (λ (row : ℕ × KeyCode). b ≡ row.0 → ⊥) rows → key_in rows b ≡ None
none_of [] b h = refl
none_of (row ∷ rows) b (other, h) = ap (λ t. cond t (Some row.1) (key_in rows b)) (ne_eqb b row.0 other) ∙ none_of rows b h

no_row : (b : ℕ) → 32 ≤ b → b < 127 → key_in control_characters b ≡ None
no_row b low high =
    none_of control_characters b ((λ e. omega arith), ((λ e. omega arith), ((λ e. omega arith), ((λ e. omega arith), ((λ e. omega arith), ((λ e. omega arith), tt))))))

pub printable_keys : PrintableKeys
unfolding token_at parameters_token
printable_keys b low high l rest =
    ap (λ t. cond t (escape_at l rest) (character_at l b rest)) (ne_eqb b 27 (λ e. omega arith))
    ∙ ap (λ o. key_or o (cond (ltb b 32) (with_control b) (typed_at l b rest))) (no_row b low high)
    ∙ ap (λ t. cond t (with_control b) (typed_at l b rest)) (le-ltb b 32 low)
    ∙ ap (λ t. cond t (scanned_as (key_token (Char b) none) 1) (cond (ltb b 194 || leb 245 b) replacement (wide_character l b (take (following_len b) rest)))) (lt-ltb b 127 high)

pub control_letters : ControlLetters
unfolding token_at parameters_token
control_letters b low high none_in l rest =
    ap (λ t. cond t (escape_at l rest) (character_at l b rest)) (ne_eqb b 27 (λ e. not_escape e))
    ∙ ap (λ o. key_or o (cond (ltb b 32) (with_control b) (typed_at l b rest))) none_in
    ∙ ap (λ t. cond t (with_control b) (typed_at l b rest)) (lt-ltb b 32 high)
    ∙ ap (λ t. cond t (scanned_as (key_token (Char 32) ctrl) 1) (scanned_as (key_token (Char (b + 64)) ctrl) 1)) (ne_eqb b 0 (λ e. omega arith))
  where
    not_escape : b ≡ 27 → ⊥
    not_escape e = let has : key_in control_characters b ≡ Some Escape = ap (key_in control_characters) e in absurd (cc (none_in, has))

-- a fact at each number below 16
below_16 : (P : ℕ → Type 0) → P 0 → P 1 → P 2 → P 3 → P 4 → P 5 → P 6 → P 7 → P 8 → P 9 → P 10 → P 11 → P 12 → P 13 → P 14 → P 15 → (n : ℕ) → n < 16 → P n
below_16 P p0 p1 p2 p3 p4 p5 p6 p7 p8 p9 p10 p11 p12 p13 p14 p15 zero low = p0
below_16 P p0 p1 p2 p3 p4 p5 p6 p7 p8 p9 p10 p11 p12 p13 p14 p15 (suc zero) low = p1
below_16 P p0 p1 p2 p3 p4 p5 p6 p7 p8 p9 p10 p11 p12 p13 p14 p15 (suc (suc zero)) low = p2
below_16 P p0 p1 p2 p3 p4 p5 p6 p7 p8 p9 p10 p11 p12 p13 p14 p15 (suc (suc (suc zero))) low = p3
below_16 P p0 p1 p2 p3 p4 p5 p6 p7 p8 p9 p10 p11 p12 p13 p14 p15 (suc (suc (suc (suc zero)))) low = p4
below_16 P p0 p1 p2 p3 p4 p5 p6 p7 p8 p9 p10 p11 p12 p13 p14 p15 (suc (suc (suc (suc (suc zero))))) low = p5
below_16 P p0 p1 p2 p3 p4 p5 p6 p7 p8 p9 p10 p11 p12 p13 p14 p15 (suc (suc (suc (suc (suc (suc zero)))))) low = p6
below_16 P p0 p1 p2 p3 p4 p5 p6 p7 p8 p9 p10 p11 p12 p13 p14 p15 (suc (suc (suc (suc (suc (suc (suc zero))))))) low = p7
below_16 P p0 p1 p2 p3 p4 p5 p6 p7 p8 p9 p10 p11 p12 p13 p14 p15 (suc (suc (suc (suc (suc (suc (suc (suc zero)))))))) low = p8
below_16 P p0 p1 p2 p3 p4 p5 p6 p7 p8 p9 p10 p11 p12 p13 p14 p15 (suc (suc (suc (suc (suc (suc (suc (suc (suc zero))))))))) low = p9
below_16 P p0 p1 p2 p3 p4 p5 p6 p7 p8 p9 p10 p11 p12 p13 p14 p15 (suc (suc (suc (suc (suc (suc (suc (suc (suc (suc zero)))))))))) low = p10
below_16 P p0 p1 p2 p3 p4 p5 p6 p7 p8 p9 p10 p11 p12 p13 p14 p15 (suc (suc (suc (suc (suc (suc (suc (suc (suc (suc (suc zero))))))))))) low = p11
below_16 P p0 p1 p2 p3 p4 p5 p6 p7 p8 p9 p10 p11 p12 p13 p14 p15 (suc (suc (suc (suc (suc (suc (suc (suc (suc (suc (suc (suc zero)))))))))))) low = p12
below_16 P p0 p1 p2 p3 p4 p5 p6 p7 p8 p9 p10 p11 p12 p13 p14 p15 (suc (suc (suc (suc (suc (suc (suc (suc (suc (suc (suc (suc (suc zero))))))))))))) low = p13
below_16 P p0 p1 p2 p3 p4 p5 p6 p7 p8 p9 p10 p11 p12 p13 p14 p15 (suc (suc (suc (suc (suc (suc (suc (suc (suc (suc (suc (suc (suc (suc zero)))))))))))))) low = p14
below_16 P p0 p1 p2 p3 p4 p5 p6 p7 p8 p9 p10 p11 p12 p13 p14 p15 (suc (suc (suc (suc (suc (suc (suc (suc (suc (suc (suc (suc (suc (suc (suc zero))))))))))))))) low = p15
below_16 P p0 p1 p2 p3 p4 p5 p6 p7 p8 p9 p10 p11 p12 p13 p14 p15 (suc (suc (suc (suc (suc (suc (suc (suc (suc (suc (suc (suc (suc (suc (suc (suc n)))))))))))))))) low = absurd (omega arith)

-- ESC [, 1, a semicolon, a number of modifiers and a letter
abbrev HeldLetter : ℕ → KeyCode → ℕ → Type 0
HeldLetter letter key sum = IsTyped (sequence (49 ∷ 59 ∷ decimal (sum + 1)) (letter ∷ [])) key (sum * 2)

-- ESC [, a number, a semicolon, a number of modifiers and ~
abbrev HeldNumber : ℕ → KeyCode → ℕ → Type 0
HeldNumber number key sum = IsTyped (sequence (decimal number ++ 59 ∷ decimal (sum + 1)) (126 ∷ [])) key (sum * 2)

pub held_letter_keys : HeldLetterKeys
unfolding token_at digits parameters_token
held_letter_keys = (
  below_16 (HeldLetter 65 UpArrow) (λ l r. refl) (λ l r. refl) (λ l r. refl) (λ l r. refl) (λ l r. refl) (λ l r. refl) (λ l r. refl) (λ l r. refl) (λ l r. refl) (λ l r. refl) (λ l r. refl) (λ l r. refl) (λ l r. refl) (λ l r. refl) (λ l r. refl) (λ l r. refl),
  (
    below_16 (HeldLetter 66 DownArrow) (λ l r. refl) (λ l r. refl) (λ l r. refl) (λ l r. refl) (λ l r. refl) (λ l r. refl) (λ l r. refl) (λ l r. refl) (λ l r. refl) (λ l r. refl) (λ l r. refl) (λ l r. refl) (λ l r. refl) (λ l r. refl) (λ l r. refl) (λ l r. refl),
    (
      below_16 (HeldLetter 67 RightArrow) (λ l r. refl) (λ l r. refl) (λ l r. refl) (λ l r. refl) (λ l r. refl) (λ l r. refl) (λ l r. refl) (λ l r. refl) (λ l r. refl) (λ l r. refl) (λ l r. refl) (λ l r. refl) (λ l r. refl) (λ l r. refl) (λ l r. refl) (λ l r. refl),
      (
        below_16 (HeldLetter 68 LeftArrow) (λ l r. refl) (λ l r. refl) (λ l r. refl) (λ l r. refl) (λ l r. refl) (λ l r. refl) (λ l r. refl) (λ l r. refl) (λ l r. refl) (λ l r. refl) (λ l r. refl) (λ l r. refl) (λ l r. refl) (λ l r. refl) (λ l r. refl) (λ l r. refl),
        (
          below_16 (HeldLetter 70 End) (λ l r. refl) (λ l r. refl) (λ l r. refl) (λ l r. refl) (λ l r. refl) (λ l r. refl) (λ l r. refl) (λ l r. refl) (λ l r. refl) (λ l r. refl) (λ l r. refl) (λ l r. refl) (λ l r. refl) (λ l r. refl) (λ l r. refl) (λ l r. refl),
          (
            below_16 (HeldLetter 72 Home) (λ l r. refl) (λ l r. refl) (λ l r. refl) (λ l r. refl) (λ l r. refl) (λ l r. refl) (λ l r. refl) (λ l r. refl) (λ l r. refl) (λ l r. refl) (λ l r. refl) (λ l r. refl) (λ l r. refl) (λ l r. refl) (λ l r. refl) (λ l r. refl),
            (
              below_16 (HeldLetter 80 (Function 1)) (λ l r. refl) (λ l r. refl) (λ l r. refl) (λ l r. refl) (λ l r. refl) (λ l r. refl) (λ l r. refl) (λ l r. refl) (λ l r. refl) (λ l r. refl) (λ l r. refl) (λ l r. refl) (λ l r. refl) (λ l r. refl) (λ l r. refl) (λ l r. refl),
              (
                below_16 (HeldLetter 81 (Function 2)) (λ l r. refl) (λ l r. refl) (λ l r. refl) (λ l r. refl) (λ l r. refl) (λ l r. refl) (λ l r. refl) (λ l r. refl) (λ l r. refl) (λ l r. refl) (λ l r. refl) (λ l r. refl) (λ l r. refl) (λ l r. refl) (λ l r. refl) (λ l r. refl),
                (
                  below_16 (HeldLetter 82 (Function 3)) (λ l r. refl) (λ l r. refl) (λ l r. refl) (λ l r. refl) (λ l r. refl) (λ l r. refl) (λ l r. refl) (λ l r. refl) (λ l r. refl) (λ l r. refl) (λ l r. refl) (λ l r. refl) (λ l r. refl) (λ l r. refl) (λ l r. refl) (λ l r. refl),
                  (below_16 (HeldLetter 83 (Function 4)) (λ l r. refl) (λ l r. refl) (λ l r. refl) (λ l r. refl) (λ l r. refl) (λ l r. refl) (λ l r. refl) (λ l r. refl) (λ l r. refl) (λ l r. refl) (λ l r. refl) (λ l r. refl) (λ l r. refl) (λ l r. refl) (λ l r. refl) (λ l r. refl), tt),
                ),
              ),
            ),
          ),
        ),
      ),
    ),
  ),
)

pub held_number_keys : HeldNumberKeys
unfolding token_at digits parameters_token
held_number_keys = (
  below_16 (HeldNumber 1 Home) (λ l r. refl) (λ l r. refl) (λ l r. refl) (λ l r. refl) (λ l r. refl) (λ l r. refl) (λ l r. refl) (λ l r. refl) (λ l r. refl) (λ l r. refl) (λ l r. refl) (λ l r. refl) (λ l r. refl) (λ l r. refl) (λ l r. refl) (λ l r. refl),
  (
    below_16 (HeldNumber 2 Insert) (λ l r. refl) (λ l r. refl) (λ l r. refl) (λ l r. refl) (λ l r. refl) (λ l r. refl) (λ l r. refl) (λ l r. refl) (λ l r. refl) (λ l r. refl) (λ l r. refl) (λ l r. refl) (λ l r. refl) (λ l r. refl) (λ l r. refl) (λ l r. refl),
    (
      below_16 (HeldNumber 3 Delete) (λ l r. refl) (λ l r. refl) (λ l r. refl) (λ l r. refl) (λ l r. refl) (λ l r. refl) (λ l r. refl) (λ l r. refl) (λ l r. refl) (λ l r. refl) (λ l r. refl) (λ l r. refl) (λ l r. refl) (λ l r. refl) (λ l r. refl) (λ l r. refl),
      (
        below_16 (HeldNumber 4 End) (λ l r. refl) (λ l r. refl) (λ l r. refl) (λ l r. refl) (λ l r. refl) (λ l r. refl) (λ l r. refl) (λ l r. refl) (λ l r. refl) (λ l r. refl) (λ l r. refl) (λ l r. refl) (λ l r. refl) (λ l r. refl) (λ l r. refl) (λ l r. refl),
        (
          below_16 (HeldNumber 5 PageUp) (λ l r. refl) (λ l r. refl) (λ l r. refl) (λ l r. refl) (λ l r. refl) (λ l r. refl) (λ l r. refl) (λ l r. refl) (λ l r. refl) (λ l r. refl) (λ l r. refl) (λ l r. refl) (λ l r. refl) (λ l r. refl) (λ l r. refl) (λ l r. refl),
          (
            below_16 (HeldNumber 6 PageDown) (λ l r. refl) (λ l r. refl) (λ l r. refl) (λ l r. refl) (λ l r. refl) (λ l r. refl) (λ l r. refl) (λ l r. refl) (λ l r. refl) (λ l r. refl) (λ l r. refl) (λ l r. refl) (λ l r. refl) (λ l r. refl) (λ l r. refl) (λ l r. refl),
            (
              below_16 (HeldNumber 7 Home) (λ l r. refl) (λ l r. refl) (λ l r. refl) (λ l r. refl) (λ l r. refl) (λ l r. refl) (λ l r. refl) (λ l r. refl) (λ l r. refl) (λ l r. refl) (λ l r. refl) (λ l r. refl) (λ l r. refl) (λ l r. refl) (λ l r. refl) (λ l r. refl),
              (
                below_16 (HeldNumber 8 End) (λ l r. refl) (λ l r. refl) (λ l r. refl) (λ l r. refl) (λ l r. refl) (λ l r. refl) (λ l r. refl) (λ l r. refl) (λ l r. refl) (λ l r. refl) (λ l r. refl) (λ l r. refl) (λ l r. refl) (λ l r. refl) (λ l r. refl) (λ l r. refl),
                (
                  below_16 (HeldNumber 11 (Function 1)) (λ l r. refl) (λ l r. refl) (λ l r. refl) (λ l r. refl) (λ l r. refl) (λ l r. refl) (λ l r. refl) (λ l r. refl) (λ l r. refl) (λ l r. refl) (λ l r. refl) (λ l r. refl) (λ l r. refl) (λ l r. refl) (λ l r. refl) (λ l r. refl),
                  (
                    below_16 (HeldNumber 12 (Function 2)) (λ l r. refl) (λ l r. refl) (λ l r. refl) (λ l r. refl) (λ l r. refl) (λ l r. refl) (λ l r. refl) (λ l r. refl) (λ l r. refl) (λ l r. refl) (λ l r. refl) (λ l r. refl) (λ l r. refl) (λ l r. refl) (λ l r. refl) (λ l r. refl),
                    (
                      below_16 (HeldNumber 13 (Function 3)) (λ l r. refl) (λ l r. refl) (λ l r. refl) (λ l r. refl) (λ l r. refl) (λ l r. refl) (λ l r. refl) (λ l r. refl) (λ l r. refl) (λ l r. refl) (λ l r. refl) (λ l r. refl) (λ l r. refl) (λ l r. refl) (λ l r. refl) (λ l r. refl),
                      (
                        below_16 (HeldNumber 14 (Function 4)) (λ l r. refl) (λ l r. refl) (λ l r. refl) (λ l r. refl) (λ l r. refl) (λ l r. refl) (λ l r. refl) (λ l r. refl) (λ l r. refl) (λ l r. refl) (λ l r. refl) (λ l r. refl) (λ l r. refl) (λ l r. refl) (λ l r. refl) (λ l r. refl),
                        (
                          below_16 (HeldNumber 15 (Function 5)) (λ l r. refl) (λ l r. refl) (λ l r. refl) (λ l r. refl) (λ l r. refl) (λ l r. refl) (λ l r. refl) (λ l r. refl) (λ l r. refl) (λ l r. refl) (λ l r. refl) (λ l r. refl) (λ l r. refl) (λ l r. refl) (λ l r. refl) (λ l r. refl),
                          (
                            below_16 (HeldNumber 17 (Function 6)) (λ l r. refl) (λ l r. refl) (λ l r. refl) (λ l r. refl) (λ l r. refl) (λ l r. refl) (λ l r. refl) (λ l r. refl) (λ l r. refl) (λ l r. refl) (λ l r. refl) (λ l r. refl) (λ l r. refl) (λ l r. refl) (λ l r. refl) (λ l r. refl),
                            (
                              below_16 (HeldNumber 18 (Function 7)) (λ l r. refl) (λ l r. refl) (λ l r. refl) (λ l r. refl) (λ l r. refl) (λ l r. refl) (λ l r. refl) (λ l r. refl) (λ l r. refl) (λ l r. refl) (λ l r. refl) (λ l r. refl) (λ l r. refl) (λ l r. refl) (λ l r. refl) (λ l r. refl),
                              (
                                below_16 (HeldNumber 19 (Function 8)) (λ l r. refl) (λ l r. refl) (λ l r. refl) (λ l r. refl) (λ l r. refl) (λ l r. refl) (λ l r. refl) (λ l r. refl) (λ l r. refl) (λ l r. refl) (λ l r. refl) (λ l r. refl) (λ l r. refl) (λ l r. refl) (λ l r. refl) (λ l r. refl),
                                (
                                  below_16 (HeldNumber 20 (Function 9)) (λ l r. refl) (λ l r. refl) (λ l r. refl) (λ l r. refl) (λ l r. refl) (λ l r. refl) (λ l r. refl) (λ l r. refl) (λ l r. refl) (λ l r. refl) (λ l r. refl) (λ l r. refl) (λ l r. refl) (λ l r. refl) (λ l r. refl) (λ l r. refl),
                                  (
                                    below_16 (HeldNumber 21 (Function 10)) (λ l r. refl) (λ l r. refl) (λ l r. refl) (λ l r. refl) (λ l r. refl) (λ l r. refl) (λ l r. refl) (λ l r. refl) (λ l r. refl) (λ l r. refl) (λ l r. refl) (λ l r. refl) (λ l r. refl) (λ l r. refl) (λ l r. refl) (λ l r. refl),
                                    (
                                      below_16 (HeldNumber 23 (Function 11)) (λ l r. refl) (λ l r. refl) (λ l r. refl) (λ l r. refl) (λ l r. refl) (λ l r. refl) (λ l r. refl) (λ l r. refl) (λ l r. refl) (λ l r. refl) (λ l r. refl) (λ l r. refl) (λ l r. refl) (λ l r. refl) (λ l r. refl) (λ l r. refl),
                                      (below_16 (HeldNumber 24 (Function 12)) (λ l r. refl) (λ l r. refl) (λ l r. refl) (λ l r. refl) (λ l r. refl) (λ l r. refl) (λ l r. refl) (λ l r. refl) (λ l r. refl) (λ l r. refl) (λ l r. refl) (λ l r. refl) (λ l r. refl) (λ l r. refl) (λ l r. refl) (λ l r. refl), tt),
                                    ),
                                  ),
                                ),
                              ),
                            ),
                          ),
                        ),
                      ),
                    ),
                  ),
                ),
              ),
            ),
          ),
        ),
      ),
    ),
  ),
)
