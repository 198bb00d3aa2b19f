-- Control strings: ESC ] or ESC P, what a terminal answers there, and its end.
use Rattle.std.proofs.Common.{◌≡◌, ◌+◌, ℕ, Bool, true, cond, eqb, List, [], ◌∷◌, ◌++◌, drop, length, length-append, drop_at, append_assoc, append-nil, arith, ap, subst, ◌∙◌, sym, refl, inl, inr, ◌⊎◌}
use Rattle.std.specs.List.{prefix_len, list_all}
use Rattle.std.proofs.lemmas.Bool.{and_from, eqb-true, ne_eqb, or_cases}
use Rattle.tw_input.specs.declared.key.KeyCode.TheVariants.{Char}
use Rattle.tw_input.specs.Modifiers.{alt}
use Rattle.tw_ansi.specs.declared.token.Token.TheVariants.{Unknown}
use Rattle.tw_ansi.specs.KeyBytes.{token_at, string_at, string_of, string_before_escape, whole_string, opens_string, begins_answer, is_string_byte, scanned_as, key_token}
use Rattle.tw_ansi.specs.KeyLaws.{AltOpenings, IsStringFront, EndedStrings, CutStrings, OpenStrings}
use Rattle.tw_ansi.proofs.Reports.{prefix_all}

-- what stands after ESC ] and ESC P
pub opened : (l : Bool) (opening : ℕ) (bytes : List ℕ) → opens_string opening ≡ true → token_at l (27 ∷ opening ∷ bytes) ≡ string_at l opening bytes
unfolding token_at
opened l opening bytes opens = by_byte (or_cases (eqb opening 93) (eqb opening 80) opens)
  where
    by_byte : (eqb opening 93 ≡ true) ⊎ (eqb opening 80 ≡ true) → token_at l (27 ∷ opening ∷ bytes) ≡ string_at l opening bytes
    by_byte (inl e) = subst (λ b. token_at l (27 ∷ b ∷ bytes) ≡ string_at l b bytes) (sym (eqb-true opening 93 e)) refl
    by_byte (inr e) = subst (λ b. token_at l (27 ∷ b ∷ bytes) ≡ string_at l b bytes) (sym (eqb-true opening 80 e)) refl

pub alt_openings : AltOpenings
alt_openings opening opens = (
  opened true opening [] opens,
  (λ l b rest other.
      opened l opening (b ∷ rest) opens
      ∙ ap (λ t. cond t (whole_string l (b ∷ rest)) (scanned_as (key_token (Char opening) alt) 2)) other),
)

-- a byte that begins an answer can stand in a string
can_stand : (b : ℕ) → begins_answer b ≡ true → is_string_byte b ≡ true
can_stand b h = grind arith

-- a string, and what stands after its bytes
behind_front : (l : Bool) (front rest : List ℕ) → IsStringFront front → prefix_len is_string_byte rest ≡ 0 → token_at l (front ++ rest) ≡ string_of l (length front) rest
behind_front l front rest f stops =
    let bytes = f.first ∷ f.text in
    let all : list_all is_string_byte bytes ≡ true = and_from _ _ (can_stand f.first f.answers) f.between in
    let len : prefix_len is_string_byte (bytes ++ rest) ≡ length bytes = prefix_all is_string_byte bytes rest all ∙ omega (arith, stops) in
    let count : 2 + length bytes ≡ length front = omega (arith, ap length f.parts) in
    ap (λ xs. token_at l (xs ++ rest)) f.parts
    ∙ opened l f.opening (bytes ++ rest) f.opens
    ∙ ap (λ t. cond t (whole_string l (bytes ++ rest)) (scanned_as (key_token (Char f.opening) alt) 2)) f.answers
    ∙ ap (λ n. string_of l (2 + n) (drop n (bytes ++ rest))) len
    ∙ ap (λ xs. string_of l (2 + length bytes) xs) (drop_at bytes rest (length bytes) refl)
    ∙ ap (λ n. string_of l n rest) count

pub ended_strings : EndedStrings
ended_strings front f = (
  (λ l rest.
      ap (token_at l) (append_assoc front (7 ∷ []) rest)
      ∙ behind_front l front (7 ∷ rest) f refl
      ∙ ap (λ n. scanned_as Unknown n) (sym (length-append front (7 ∷ [])))),
  (λ l rest.
      ap (token_at l) (append_assoc front (27 ∷ 92 ∷ []) rest)
      ∙ behind_front l front (27 ∷ 92 ∷ rest) f refl
      ∙ ap (λ n. scanned_as Unknown n) (sym (length-append front (27 ∷ 92 ∷ [])))),
)

pub cut_strings : CutStrings
cut_strings front f l b rest = (
  (λ control no_bell no_escape.
      let used = length front in
      let ended = cond (eqb b 7) (scanned_as Unknown (used + 1)) (scanned_as Unknown used) in
      behind_front l front (b ∷ rest) f (ap (λ t. cond t (1 + prefix_len is_string_byte rest) 0) control)
      ∙ ap (λ t. cond t (string_before_escape l used rest) ended) (ne_eqb b 27 no_escape)
      ∙ ap (λ t. cond t (scanned_as Unknown (used + 1)) (scanned_as Unknown used)) (ne_eqb b 7 no_bell)),
  (λ other.
      let used = length front in
      behind_front l front (27 ∷ b ∷ rest) f refl
      ∙ ap (λ t. cond t (scanned_as Unknown (used + 2)) (scanned_as Unknown used)) (ne_eqb b 92 other)),
)

pub open_strings : OpenStrings
open_strings front f l =
    ap (token_at l) (sym (append-nil front)) ∙ behind_front l front [] f refl
