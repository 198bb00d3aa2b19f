-- Reports of the cursor's place, and pasted texts.
use Rattle.std.proofs.Common.{◌≡◌, ◌≢◌, ◌<◌, ◌+◌, ◌^◌, min, ℕ, suc, Bool, true, false, not, ◌&&◌, cond, eqb, List, [], ◌∷◌, ◌++◌, Option, Some, None, option_map, take, drop, length, append_assoc, length-append, take_at, drop_at, arith, ap, ◌∙◌, sym, refl}
use Rattle.std.specs.Fmt.{decimal}
use lib.Pointwise.{bytes_decides}
use Rattle.std.specs.List.{list_all, prefix_len, starts_with}
use Rattle.std.proofs.lemmas.Bool.{lt-ltb, le-ltb, and_from, and_parts, false_from_ne_true}
use Rattle.std.proofs.lemmas.List.Folds.{list_all-append}
use Rattle.tw_ansi.specs.declared.token.Token.TheVariants.{Size, Paste, Unknown}
use Rattle.tw_ansi.specs.declared.token.Scanned.{Scanned}
use Rattle.tw_ansi.specs.KeyBytes.{token_at, control_at, ended_at, paste_of, paste_len, paste_end, numbers_token, parameters_token, size_token, first_number, second_number, number_of, most, is_digit, is_parameter, is_numeric, is_semicolon, scanned_as}
use Rattle.tw_ansi.specs.KeyLaws.{CursorReports, SizeReports, PastedTexts, MouseReports, OpenMouseReports}
use Rattle.tw_ansi.proofs.Numbers.{decimal_value, decimal_digits, passes, numeric_if, parameter_if}

-- a digit is no semicolon
no_semicolon : (b : ℕ) → is_digit b ≡ true → not (is_semicolon b) ≡ true
no_semicolon b h = grind arith

-- the front of a list all of which passes
pub prefix_all : (p : ℕ → Bool) (xs ys : List ℕ) → list_all p xs ≡ true → prefix_len p (xs ++ ys) ≡ length xs + prefix_len p ys
prefix_all p [] ys h = omega arith
prefix_all p (x ∷ xs) ys h =
    let parts = and_parts (p x) (list_all p xs) h in
    ap (λ t. cond t (1 + prefix_len p (xs ++ ys)) 0) parts.0 ∙ ap (λ n. 1 + n) (prefix_all p xs ys parts.1) ∙ omega arith

-- parameters, a letter and what follows
pub parameters_end : (l : Bool) (parameters : List ℕ) (letter : ℕ) (rest : List ℕ) → list_all is_parameter parameters ≡ true → is_parameter letter ≡ false
    → control_at l (parameters ++ letter ∷ rest) ≡ ended_at l parameters (letter ∷ rest)
parameters_end l parameters letter rest all ends =
    let bytes = parameters ++ letter ∷ rest in
    let len : prefix_len is_parameter bytes ≡ length parameters =
    prefix_all is_parameter parameters (letter ∷ rest) all ∙ ap (λ t. length parameters + cond t (1 + prefix_len is_parameter rest) 0) ends ∙ omega arith in
    ap (λ n. ended_at l (take n bytes) (drop n bytes)) len
    ∙ ap (λ xs. ended_at l xs (drop (length parameters) bytes)) (take_at parameters (letter ∷ rest) (length parameters) refl)
    ∙ ap (λ xs. ended_at l parameters xs) (drop_at parameters (letter ∷ rest) (length parameters) refl)

-- two numbers

-- where the first semicolon stands
semicolon_at : (row : ℕ) (back : List ℕ) → row < 2 ^ 64 → prefix_len (λ b. not (is_semicolon b)) (decimal row ++ 59 ∷ back) ≡ length (decimal row)
semicolon_at row back small =
    prefix_all (λ b. not (is_semicolon b)) (decimal row) (59 ∷ back) (passes is_digit (λ b. not (is_semicolon b)) no_semicolon (decimal row) (decimal_digits row small)) ∙ omega arith

first_is : (row : ℕ) (back : List ℕ) → row < 2 ^ 64 → first_number (decimal row ++ 59 ∷ back) ≡ min row most
first_is row back small =
    ap (λ n. number_of (take n (decimal row ++ 59 ∷ back))) (semicolon_at row back small)
    ∙ ap number_of (take_at (decimal row) (59 ∷ back) (length (decimal row)) refl)
    ∙ ap (λ n. min n most) (decimal_value row small)

alone_is : (col : ℕ) → col < 2 ^ 64 → first_number (decimal col) ≡ min col most
alone_is col small =
    let all = passes is_digit (λ b. not (is_semicolon b)) no_semicolon (decimal col) (decimal_digits col small) in
    let len : prefix_len (λ b. not (is_semicolon b)) (decimal col) ≡ length (decimal col) = whole_len (decimal col) all in
    ap (λ n. number_of (take n (decimal col))) len
    ∙ ap number_of (whole_take (decimal col))
    ∙ ap (λ n. min n most) (decimal_value col small)
  where
    whole_len : (xs : List ℕ) → list_all (λ b. not (is_semicolon b)) xs ≡ true → prefix_len (λ b. not (is_semicolon b)) xs ≡ length xs
    whole_len [] h = refl
    whole_len (x ∷ xs) h =
        let parts = and_parts (not (is_semicolon x)) _ h in
        ap (λ t. cond t (1 + prefix_len (λ b. not (is_semicolon b)) xs) 0) parts.0 ∙ ap (λ n. 1 + n) (whole_len xs parts.1) ∙ omega arith

    whole_take : (xs : List ℕ) → take (length xs) xs ≡ xs
    whole_take [] = refl
    whole_take (x ∷ xs) = ap (λ ys. x ∷ ys) (whole_take xs)

-- and what stands after it
second_of : (row : ℕ) (back : List ℕ) → row < 2 ^ 64 → second_number (decimal row ++ 59 ∷ back) ≡ first_number back
second_of row back small =
    ap (λ n. first_number (drop (n + 1) (decimal row ++ 59 ∷ back))) (semicolon_at row back small)
    ∙ ap first_number (behind (decimal row) back)
  where
    later : (n : ℕ) → suc n + 1 ≡ suc (n + 1)
    later n = omega arith

    behind : (xs ys : List ℕ) → drop (length xs + 1) (xs ++ 59 ∷ ys) ≡ ys
    behind [] ys = refl
    behind (x ∷ xs) ys = ap (λ n. drop n (x ∷ (xs ++ 59 ∷ ys))) (later (length xs)) ∙ behind xs ys

second_is : (row col : ℕ) → row < 2 ^ 64 → col < 2 ^ 64 → second_number (decimal row ++ 59 ∷ decimal col) ≡ min col most
second_is row col small fits = second_of row (decimal col) small ∙ alone_is col fits

-- the numbers of a report
numbers_are : (row col : ℕ) → row < 2 ^ 64 → col < 2 ^ 64 → list_all is_numeric (decimal row ++ 59 ∷ decimal col) ≡ true
numbers_are row col small fits =
    list_all-append is_numeric (decimal row) (59 ∷ decimal col)
    ∙ and_from _ _ (passes is_digit is_numeric numeric_if (decimal row) (decimal_digits row small)) (passes is_digit is_numeric numeric_if (decimal col) (decimal_digits col fits))

is_size : (row col : ℕ) → 1 < row → 0 < col → numbers_token row col 82 ≡ Size col row
is_size row col more some = ap (λ t. cond t (Size col row) (numbers_token 0 col 82)) (and_from _ _ (lt-ltb 1 row more) (lt-ltb 0 col some))

pub cursor_reports : CursorReports
unfolding token_at parameters_token
cursor_reports row col more small some fits l rest =
    let parameters = decimal row ++ 59 ∷ decimal col in
    let numeric = numbers_are row col small fits in
    let token : ℕ → ℕ → Option Scanned = λ first second. scanned_as (numbers_token first second 82) (3 + length parameters) in
    ap (λ xs. control_at l xs) (append_assoc parameters (82 ∷ []) rest)
    ∙ parameters_end l parameters 82 rest (passes is_numeric is_parameter parameter_if parameters numeric) refl
    ∙ ap (λ t. cond (not t) (scanned_as Unknown (3 + length parameters)) (token (first_number parameters) (second_number parameters))) numeric
    ∙ ap (λ n. token n (second_number parameters)) (first_is row (decimal col) small)
    ∙ ap (λ n. token (min row most) n) (second_is row col small fits)
    ∙ ap (λ t. scanned_as t (3 + length parameters)) (is_size (min row most) (min col most) (omega arith) (omega arith))
    ∙ ap (λ n. scanned_as (Size (min col most) (min row most)) n) (omega (arith, length-append parameters (82 ∷ [])))

-- sizes

-- the digits of a number, and more after a semicolon
numeric_behind : (n : ℕ) (more : List ℕ) → n < 2 ^ 64 → list_all is_numeric more ≡ true → list_all is_numeric (decimal n ++ 59 ∷ more) ≡ true
numeric_behind n more small all = list_all-append is_numeric (decimal n) (59 ∷ more) ∙ and_from _ _ (passes is_digit is_numeric numeric_if (decimal n) (decimal_digits n small)) all

is_told : (rows cols : ℕ) → 0 < rows → 0 < cols → size_token rows cols ≡ Size cols rows
is_told rows cols some wide = ap (λ t. cond t (Size cols rows) Unknown) (and_from _ _ (lt-ltb 0 rows some) (lt-ltb 0 cols wide))

pub size_reports : SizeReports
unfolding token_at parameters_token
size_reports rows cols more some small wide fits all l rest =
    let behind : List ℕ = decimal cols ++ 59 ∷ more in
    let numbers : List ℕ = decimal rows ++ 59 ∷ behind in
    let parameters : List ℕ = 52 ∷ 56 ∷ 59 ∷ numbers in
    let numeric : list_all is_numeric parameters ≡ true = numeric_behind rows behind small (numeric_behind cols more fits all) in
    let first : first_number parameters ≡ 48 = refl in
    let told : ℕ → ℕ → Option Scanned = λ second third. scanned_as (size_token second third) (3 + length parameters) in
    ap (λ xs. control_at l xs) (append_assoc parameters (116 ∷ []) rest)
    ∙ parameters_end l parameters 116 rest (passes is_numeric is_parameter parameter_if parameters numeric) refl
    ∙ ap (λ t. cond (not t) (scanned_as Unknown (3 + length parameters)) (scanned_as (parameters_token parameters 116) (3 + length parameters))) numeric
    ∙ ap (λ n. scanned_as (cond (eqb n 48) (size_token (first_number numbers) (second_number numbers)) (numbers_token n (first_number numbers) 116)) (3 + length parameters)) first
    ∙ ap (λ n. told n (second_number numbers)) (first_is rows behind small)
    ∙ ap (λ n. told (min rows most) n) (second_of rows behind small ∙ first_is cols more fits)
    ∙ ap (λ t. scanned_as t (3 + length parameters)) (is_told (min rows most) (min cols most) (omega arith) (omega arith))
    ∙ ap (λ n. scanned_as (Size (min cols most) (min rows most)) n) (omega (arith, length-append parameters (116 ∷ [])))

-- pasted texts

-- an end of a pasted text that begins within a text and ends after it is none
starts_within : (text rest : List ℕ) → 0 < length text → ((back : List ℕ) → text ≢ paste_end ++ back) → starts_with eqb (text ++ paste_end ++ rest) paste_end ≡ true → ⊥
starts_within [] rest some apart h = absurd (omega arith)
starts_within (a ∷ []) rest some apart h = let parts = and_parts (eqb 27 a) false h in absurd (cc parts.1)
starts_within (a ∷ b ∷ []) rest some apart h =
    let parts = and_parts (eqb 91 b) false (and_parts (eqb 27 a) (eqb 91 b && false) h).1 in absurd (cc parts.1)
starts_within (a ∷ b ∷ c ∷ []) rest some apart h =
    let parts = and_parts (eqb 50 c) false (and_parts (eqb 91 b) (eqb 50 c && false) (and_parts (eqb 27 a) (eqb 91 b && (eqb 50 c && false)) h).1).1 in absurd (cc parts.1)
starts_within (a ∷ b ∷ c ∷ d ∷ []) rest some apart h =
    let three = (and_parts (eqb 50 c) (eqb 48 d && false) (and_parts (eqb 91 b) (eqb 50 c && (eqb 48 d && false)) (and_parts (eqb 27 a) (eqb 91 b && (eqb 50 c && (eqb 48 d && false))) h).1).1).1 in
    let parts = and_parts (eqb 48 d) false three in absurd (cc parts.1)
starts_within (a ∷ b ∷ c ∷ d ∷ e ∷ []) rest some apart h =
    let one = (and_parts (eqb 27 a) (eqb 91 b && (eqb 50 c && (eqb 48 d && (eqb 49 e && false)))) h).1 in
    let two = (and_parts (eqb 91 b) (eqb 50 c && (eqb 48 d && (eqb 49 e && false))) one).1 in
    let three = (and_parts (eqb 50 c) (eqb 48 d && (eqb 49 e && false)) two).1 in
    let four = (and_parts (eqb 48 d) (eqb 49 e && false) three).1 in
    let parts = and_parts (eqb 49 e) false four in absurd (cc parts.1)
starts_within (a ∷ b ∷ c ∷ d ∷ e ∷ f ∷ text) rest some apart h =
    let same : paste_end ≡ a ∷ b ∷ c ∷ d ∷ e ∷ f ∷ [] = (bytes_decides paste_end (a ∷ b ∷ c ∷ d ∷ e ∷ f ∷ [])).0 h in
    absurd (apart text (ap (λ xs. xs ++ text) (sym same)))

-- the first end after a text that has none inside
first_end : (text rest : List ℕ) → ((front back : List ℕ) → text ≢ front ++ paste_end ++ back) → paste_len (text ++ paste_end ++ rest) ≡ Some (length text)
first_end [] rest none_in = refl
first_end (b ∷ text) rest none_in =
    ap (λ t. cond t (Some 0) (option_map (λ n. n + 1) (paste_len (text ++ paste_end ++ rest))))
    (false_from_ne_true _ (starts_within (b ∷ text) rest (omega arith) (λ back. none_in [] back)))
    ∙ ap (λ o. option_map (λ n. n + 1) o) (first_end text rest (λ front back e. none_in (b ∷ front) back (ap (λ xs. b ∷ xs) e)))
    ∙ ap (λ (n : ℕ). Some n) (omega arith)

pub pasted_texts : PastedTexts
unfolding token_at parameters_token
pasted_texts text none_in l rest =
    ap (λ o. paste_of l 6 (length (text ++ paste_end ++ rest)) o) (first_end text rest none_in)
    ∙ ap (λ n. scanned_as (Paste 6 (length text)) n) (omega (arith, length-append text paste_end))

-- mouse's reports

pub mouse_reports : MouseReports
unfolding token_at
mouse_reports a b c l rest =
    let left = length (a ∷ b ∷ c ∷ rest) in
    ap (λ t. cond t (cond l (scanned_as Unknown (3 + left)) None) (scanned_as Unknown 6)) (le-ltb left 3 (omega arith))

pub open_mouse_reports : OpenMouseReports
unfolding token_at
open_mouse_reports l told few =
    let left = length told in
    ap (λ t. cond t (cond l (scanned_as Unknown (3 + left)) None) (scanned_as Unknown 6)) (lt-ltb left 3 few)
