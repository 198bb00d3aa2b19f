-- What was read of some bytes need not be read again.
use Rattle.std.proofs.Common.{◌≡◌, ◌≢◌, ◌≤◌, ◌<◌, ◌+◌, ◌-◌, ℕ, zero, suc, Bool, true, false, not, ◌&&◌, ◌||◌, cond, eqb, ltb, List, [], ◌∷◌, ◌++◌, Option, Some, None, IfSome, Result, Ok, Err, IfOk, OnErr, IfErr, take, drop, length, arith, ap, subst, ◌∙◌, sym, refl, inl, inr, ◌⊎◌, length-drop, length-take}
use Rattle.std.specs.List.{prefix_len, list_all, starts_with}
use Rattle.std.specs.Option.{option_map, ok_or}
use Rattle.std.proofs.lemmas.Bool.{cases_lt, cases_Bool, and_parts, or_parts, ne_eqb, eq-eqb, eqb-true, le-ltb, ltb-false, false≢true}
use Rattle.std.proofs.lemmas.List.Folds.{prefix_len-append}
use Rattle.std.proofs.lemmas.List.Sums.{prefix_len-le-length}
use Rattle.std.proofs.lemmas.List.{drop-drop, drop-append-le, take-append-le, append-nil, take_rest}
use Rattle.tw_ansi.specs.declared.token.Scanned.{Scanned}
use Rattle.tw_ansi.specs.declared.resume.Progress.{Progress}
use Rattle.tw_ansi.specs.declared.resume.Progress.TheVariants.{Start, Parameters, ControlString, Paste}
use Rattle.tw_ansi.specs.KeyBytes.{token_at, string_of, whole_string, opens_string, begins_answer, is_string_byte, key_token, ended_at, sequence_at, mouse_report, paste_at, paste_of, paste_len, paste_end, is_parameter, is_letter, is_numeric, first_number, parameters_token, scanned_as}
use Rattle.tw_ansi.specs.declared.token.Token.TheVariants.{Unknown}
use Rattle.tw_input.specs.declared.key.KeyCode.TheVariants.{Char}
use Rattle.tw_input.specs.Modifiers.{alt}
use Rattle.tw_ansi.specs.Resuming.{Fits, token_resumed, parameters_on, string_on, paste_on, searched_to, behind_parameters, behind_string, begins_string, sequence_start, behind_start, read_on}
use Rattle.tw_ansi.proofs.Pastes.{starts_long, starts_more}
use Rattle.tw_ansi.proofs.Tokens.{takes_bytes}
use Rattle.tw_ansi.proofs.StringLemmas.{opened}

-- nothing is known of any bytes
pub fits_start : (bytes : List ℕ) → Fits Start bytes
fits_start bytes = record { within = omega arith; goes_on = λ l more. refl }

-- going on gives the token of the bytes that are there
pub goes_here : (p : Progress) (l : Bool) (bytes : List ℕ) → Fits p bytes → token_resumed p l bytes ≡ token_at l bytes
goes_here p l bytes f = subst (λ xs. token_resumed p l xs ≡ token_at l xs) (append-nil bytes) (f.goes_on l [])

twice : (m n : ℕ) (o : Option ℕ) → option_map (λ k. k + m) (option_map (λ k. k + n) o) ≡ option_map (λ k. k + (n + m)) o
twice m n None = refl
twice m n (Some k) = let e : k + n + m ≡ k + (n + m) = omega arith in ap (λ (j : ℕ). Some j) e

at_none : (o : Option ℕ) → option_map (λ k. k + 0) o ≡ o
at_none None = refl
at_none (Some k) = let e : k + 0 ≡ k = omega arith in ap (λ (j : ℕ). Some j) e

none_parts : (t : Bool) (o : Option ℕ) → cond t (Some 0) (option_map (λ k. k + 1) o) ≡ None → (t ≡ false) × (o ≡ None)
none_parts true o h = absurd cc
none_parts false None h = (refl, refl)
none_parts false (Some k) h = absurd cc

-- where no end is found none begins, but in the last five bytes
skipped : (text more : List ℕ) (n : ℕ) → paste_len text ≡ None → n ≤ length text - 5
    → paste_len (text ++ more) ≡ option_map (λ k. k + n) (paste_len (drop n (text ++ more)))
skipped text more zero none fits = sym (at_none _)
skipped [] more (suc n) none fits = absurd (omega arith)
skipped (b ∷ text) more (suc n) none fits =
    let parts = none_parts (starts_with eqb (b ∷ text) paste_end) (paste_len text) none in
    let here : starts_with eqb (b ∷ (text ++ more)) paste_end ≡ false = starts_more paste_end (b ∷ text) more (omega arith) ∙ parts.0 in
    let later = option_map (λ (k : ℕ). k + 1) (paste_len (text ++ more)) in
    let count : n + 1 ≡ suc n = omega arith in
    ap (λ t. cond t (Some 0) later) here
    ∙ ap (λ o. option_map (λ (k : ℕ). k + 1) o) (skipped text more n parts.1 (omega arith))
    ∙ twice 1 n _
    ∙ ap (λ m. option_map (λ (k : ℕ). k + m) (paste_len (drop n (text ++ more)))) count

-- the search goes on after the bytes that are passed
paste_further : (l : Bool) (from s n : ℕ) (text more : List ℕ) → s ≤ length text → paste_len (drop s text) ≡ None → n ≤ length text - s - 5
    → paste_on l from (s + n) (text ++ more) ≡ paste_on l from s (text ++ more)
paste_further l from s n text more inside none fits =
    let all = text ++ more in
    let front : drop s all ≡ drop s text ++ more = drop-append-le s text more inside in
    let skips : paste_len (drop s all) ≡ option_map (λ k. k + n) (paste_len (drop (s + n) all)) =
    ap paste_len front ∙ skipped (drop s text) more n none (omega (arith, length-drop s text, fits))
    ∙ ap (λ xs. option_map (λ (k : ℕ). k + n) (paste_len (drop n xs))) (sym front)
    ∙ ap (λ xs. option_map (λ (k : ℕ). k + n) (paste_len xs)) (drop-drop n s all) in
    let sum : n + s ≡ s + n = omega arith in
    ap (λ o. paste_of l from (length all) o)
    (sym (ap (λ o. option_map (λ (k : ℕ). k + s) o) skips ∙ twice s n _ ∙ ap (λ m. option_map (λ (k : ℕ). k + m) (paste_len (drop (s + n) all))) sum))

-- bytes that pass go on after those that are there
prefix_on : (p : ℕ → Bool) (n : ℕ) (xs : List ℕ) → n ≤ prefix_len p xs → n + prefix_len p (drop n xs) ≡ prefix_len p xs
prefix_on p zero xs fits = omega arith
prefix_on p (suc n) [] fits = absurd (omega arith)
prefix_on p (suc n) (x ∷ xs) fits = next (p x) (prefix_len p xs) (prefix_len p (drop n xs)) fits (prefix_on p n xs)
  where
    next : (t : Bool) (all rest : ℕ) → suc n ≤ cond t (1 + all) 0 → (n ≤ all → n + rest ≡ all) → suc n + rest ≡ cond t (1 + all) 0
    next true all rest fits h = omega (arith, h (omega arith))
    next false all rest fits h = absurd (omega arith)

-- and what follows takes none away
prefix_grows : (p : ℕ → Bool) (xs ys : List ℕ) → prefix_len p xs ≤ prefix_len p (xs ++ ys)
prefix_grows p [] ys = omega arith
prefix_grows p (x ∷ xs) ys = next (p x) (prefix_len p xs) (prefix_len p (xs ++ ys)) (prefix_grows p xs ys)
  where
    next : (t : Bool) (few all : ℕ) → few ≤ all → cond t (1 + few) 0 ≤ cond t (1 + all) 0
    next true few all h = omega (arith, h)
    next false few all h = omega arith

-- nor adds one, where another byte stands after them
prefix_stops : (xs ys : List ℕ) → prefix_len is_parameter xs < length xs → prefix_len is_parameter (xs ++ ys) ≡ prefix_len is_parameter xs
prefix_stops xs ys inside =
    let n = prefix_len is_parameter xs in
    prefix_len-append is_parameter xs ys ∙ ap (λ t. cond t (length xs + prefix_len is_parameter ys) n) (ne_eqb n (length xs) (λ e. omega (arith, e, inside)))

-- so those that were read are passed
prefix_further : (p : ℕ → Bool) (len : ℕ) (rest more : List ℕ) → len ≤ length rest
    → (len + prefix_len p (drop len rest)) + prefix_len p (drop (len + prefix_len p (drop len rest)) (rest ++ more)) ≡ len + prefix_len p (drop len (rest ++ more))
prefix_further p len rest more inside =
    let k = prefix_len p (drop len rest) in
    let xs = rest ++ more in
    let front : drop len xs ≡ drop len rest ++ more = drop-append-le len rest more inside in
    let here : k ≤ prefix_len p (drop len xs) = subst (λ ys. k ≤ prefix_len p ys) (sym front) (prefix_grows p (drop len rest) more) in
    let on : k + prefix_len p (drop k (drop len xs)) ≡ prefix_len p (drop len xs) = prefix_on p k (drop len xs) here in
    let behind : prefix_len p (drop k (drop len xs)) ≡ prefix_len p (drop (len + k) xs) = ap (λ ys. prefix_len p ys) (drop-drop k len xs) in
    omega (arith, on, behind)

parameters_further : (l : Bool) (len : ℕ) (rest more : List ℕ) → len ≤ length rest
    → parameters_on l (len + prefix_len is_parameter (drop len rest)) (rest ++ more) ≡ parameters_on l len (rest ++ more)
parameters_further l len rest more inside =
    ap (λ n. ended_at l (take n (rest ++ more)) (drop n (rest ++ more))) (prefix_further is_parameter len rest more inside)

string_further : (l : Bool) (len : ℕ) (rest more : List ℕ) → len ≤ length rest
    → string_on l (len + prefix_len is_string_byte (drop len rest)) (rest ++ more) ≡ string_on l len (rest ++ more)
string_further l len rest more inside =
    ap (λ n. string_of l (2 + n) (drop n (rest ++ more))) (prefix_further is_string_byte len rest more inside)

none_else : (t : Bool) (s : Scanned) (o : Option Scanned) → cond t (Some s) o ≡ None → (t ≡ false) × (o ≡ None)
none_else true s o h = absurd cc
none_else false s o h = (refl, h)

none_then : (t : Bool) (o : Option Scanned) (s : Scanned) → cond t o (Some s) ≡ None → (t ≡ true) × (o ≡ None)
none_then true o s h = (refl, h)
none_then false o s h = absurd cc

no_end : (l : Bool) (from left : ℕ) (o : Option ℕ) → paste_of l from left o ≡ None → o ≡ None
no_end l from left (Some n) h = absurd cc
no_end l from left None h = refl

none_unless : (t : Bool) (o p : Option Scanned) → cond t o p ≡ None → (p ≡ None → ⊥) → (t ≡ true) × (o ≡ None)
none_unless true o p h there = (refl, h)
none_unless false o p h there = absurd (there h)

-- no more is wanted of a mouse's report where four bytes stand after ESC [
mouse_there : (l : Bool) (letter left : ℕ) (parameters : List ℕ) (s : Scanned) → 4 ≤ length parameters + (1 + left)
    → cond (eqb letter 77 && eqb (length parameters) 0) (mouse_report l left) (Some s) ≡ None → ⊥
mouse_there l letter left parameters s long none =
    let mouse = none_then (eqb letter 77 && eqb (length parameters) 0) (mouse_report l left) s none in
    let alone : length parameters ≡ 0 = eqb-true (length parameters) 0 (and_parts (eqb letter 77) _ mouse.0).1 in
    let told = ap (λ t. cond t (cond l (scanned_as Unknown (3 + left)) None) (scanned_as Unknown 6)) (le-ltb left 3 (omega (arith, alone, long))) in
    let both : scanned_as Unknown 6 ≡ None = sym told ∙ mouse.1 in
    absurd (cc both)

-- after parameters and a letter, and four bytes in all, more is wanted of a pasted text alone
ended_begins : (l m : Bool) (parameters ys more : List ℕ) → 0 < length ys → 4 ≤ length parameters + length ys → ended_at l parameters ys ≡ None
    → ended_at m parameters (ys ++ more) ≡ paste_on m (3 + length parameters) (searched_to 0 (length ys - 1)) (drop 1 (ys ++ more))
ended_begins l m parameters [] more some long none = absurd (omega arith)
ended_begins l m parameters (b ∷ text) more some long none =
    let used : ℕ = 3 + length parameters in
    let letter = none_then (is_letter b) (sequence_at l parameters b text) _ none in
    let numeric = none_else (not (list_all is_numeric parameters)) _ _ letter.1 in
    let marked = none_unless (eqb b 126 && eqb (first_number parameters) 200) (paste_at l used text) _ numeric.1
    (mouse_there l b (length text) parameters _ (omega (arith, long))) in
    let unended = no_end l used (length text) (paste_len text) marked.1 in
    let xs = text ++ more in
    let count : length text ≡ length (b ∷ text) - 1 = omega arith in
    let token = scanned_as (parameters_token parameters b) used in
    let told = cond (eqb b 77 && eqb (length parameters) 0) (mouse_report m (length xs)) token in
    ap (λ t. cond t (sequence_at m parameters b xs) (scanned_as Unknown (2 + length parameters))) letter.0
    ∙ ap (λ t. cond t (scanned_as Unknown used) (cond (eqb b 126 && eqb (first_number parameters) 200) (paste_at m used xs) told)) numeric.0
    ∙ ap (λ t. cond t (paste_at m used xs) told) marked.0
    ∙ ap (λ o. paste_of m used (length xs) o) (sym (at_none (paste_len xs)))
    ∙ sym (paste_further m used 0 (length text - 0 - 5) text more (omega arith) unended (omega arith))
    ∙ ap (λ n. paste_on m used (searched_to 0 n) xs) count

-- so a pasted text that was searched need not be searched again
paste_begins : (l m : Bool) (len : ℕ) (rest more : List ℕ) → len ≤ length rest → len + prefix_len is_parameter (drop len rest) < length rest → 4 ≤ length rest
    → parameters_on l len rest ≡ None
    → paste_on m (3 + (len + prefix_len is_parameter (drop len rest))) (searched_to 0 (length rest - (len + prefix_len is_parameter (drop len rest)) - 1)) (drop (len + prefix_len is_parameter (drop len rest) + 1) (rest ++ more))
    ≡ parameters_on m len (rest ++ more)
paste_begins l m len rest more inside short long none =
    let k = prefix_len is_parameter (drop len rest) in
    let all = len + k in
    let xs = rest ++ more in
    let left = drop all rest in
    let front : drop len xs ≡ drop len rest ++ more = drop-append-le len rest more inside in
    let stops : prefix_len is_parameter (drop len xs) ≡ k = ap (λ ys. prefix_len is_parameter ys) front ∙ prefix_stops (drop len rest) more (omega (arith, length-drop len rest, short)) in
    let parameters : take all xs ≡ take all rest = take-append-le all rest more (omega (arith, short)) in
    let behind : drop all xs ≡ left ++ more = drop-append-le all rest more (omega (arith, short)) in
    let many : length (take all rest) ≡ all = length-take all rest ∙ omega (arith, short) in
    let some : length left ≡ length rest - all = length-drop all rest in
    let text : drop 1 (left ++ more) ≡ drop (all + 1) xs = ap (λ ys. drop 1 ys) (sym behind) ∙ drop-drop 1 all xs in
    sym (ap (λ n. ended_at m (take (len + n) xs) (drop (len + n) xs)) stops
    ∙ ap (λ ys. ended_at m ys (drop all xs)) parameters
    ∙ ap (λ ys. ended_at m (take all rest) ys) behind
    ∙ ended_begins l m (take all rest) left more (omega (arith, some, short)) (omega (arith, some, many, short, long)) none
    ∙ ap (λ n. paste_on m (3 + n) (searched_to 0 (length left - 1)) (drop 1 (left ++ more))) many
    ∙ ap (λ n. paste_on m (3 + all) (searched_to 0 (n - 1)) (drop 1 (left ++ more))) some
    ∙ ap (λ ys. paste_on m (3 + all) (searched_to 0 (length rest - all - 1)) ys) text)

-- ESC [ and what stands after it
begins_sequence : (l : Bool) (rest : List ℕ) → parameters_on l 0 rest ≡ token_at l (27 ∷ 91 ∷ rest)
unfolding token_at
begins_sequence l rest =
    let all : 0 + prefix_len is_parameter rest ≡ prefix_len is_parameter rest = omega arith in
    ap (λ n. ended_at l (take n rest) (drop n rest)) all

-- the bytes after ESC [ were read so far
behind_fits : (l : Bool) (len : ℕ) (bytes : List ℕ) → 2 + len ≤ length bytes → (all : ℕ) → all ≡ len + prefix_len is_parameter (drop len (drop 2 bytes))
    → ((m : Bool) (more : List ℕ) → parameters_on m len (drop 2 bytes ++ more) ≡ token_at m (bytes ++ more))
    → parameters_on l len (drop 2 bytes) ≡ None
    → Fits (behind_parameters len (drop 2 bytes)) bytes
behind_fits l len bytes inside all is goes none = next (cases_Bool (eqb all (length rest) || ltb (length rest) 4))
  where
    rest : List ℕ
    rest = drop 2 bytes

    split : (more : List ℕ) → drop 2 (bytes ++ more) ≡ rest ++ more
    split more = drop-append-le 2 bytes more (omega arith)

    many : length rest ≡ length bytes - 2
    many = length-drop 2 bytes

    at_most : all ≤ length rest
    at_most = omega (arith, is, many, length-drop len rest, prefix_len-le-length is_parameter (drop len rest))

    text : Progress
    text = Paste (3 + all) (searched_to 0 (length rest - all - 1))

    progress : ℕ → Progress
    progress n = cond (eqb n (length rest) || ltb (length rest) 4) (Parameters n) (Paste (3 + n) (searched_to 0 (length rest - n - 1)))

    le_apart : all ≤ length rest → all ≢ length rest → all < length rest
    le_apart le apart = less (cases_lt all (length rest))
      where
        less : (all < length rest) ⊎ (length rest ≤ all) → all < length rest
        less (inl l) = l
        less (inr g) = absurd (apart (omega (arith, le, g)))

    next : ((eqb all (length rest) || ltb (length rest) 4) ≡ true) ⊎ ((eqb all (length rest) || ltb (length rest) 4) ≡ false) → Fits (behind_parameters len rest) bytes
    next (inr other) =
        let parts = or_parts (eqb all (length rest)) (ltb (length rest) 4) other in
        let apart : all ≢ length rest = λ e. absurd (false≢true (sym parts.0 ∙ eq-eqb all (length rest) e)) in
        let short : all < length rest = le_apart at_most apart in
        let behind : 3 + all ≡ 2 + (all + 1) = omega arith in
        let long : 4 ≤ length rest = ltb-false (length rest) 4 parts.1 in
        let scanned : behind_parameters len rest ≡ text = ap progress (sym is) ∙ ap (λ t. cond t (Parameters all) text) other in
        subst (λ p. Fits p bytes) (sym scanned) (record {
          within = omega (arith, short, many);
          goes_on = λ m more.
              ap (λ xs. paste_on m (3 + all) (searched_to 0 (length rest - all - 1)) xs)
              (ap (λ n. drop n (bytes ++ more)) behind ∙ sym (drop-drop (all + 1) 2 (bytes ++ more)) ∙ ap (λ xs. drop (all + 1) xs) (split more))
              ∙ subst (λ n. paste_on m (3 + n) (searched_to 0 (length rest - n - 1)) (drop (n + 1) (rest ++ more)) ≡ parameters_on m len (rest ++ more)) (sym is)
              (paste_begins l m len rest more (omega (arith, inside, many)) (omega (arith, is, short)) long none)
              ∙ goes m more;
        })
    next (inl full) =
        let scanned : behind_parameters len rest ≡ Parameters all = ap progress (sym is) ∙ ap (λ t. cond t (Parameters all) text) full in
        subst (λ p. Fits p bytes) (sym scanned) (record {
          within = omega (arith, at_most, many, inside);
          goes_on = λ m more.
              ap (λ xs. parameters_on m all xs) (split more)
              ∙ subst (λ n. parameters_on m n (rest ++ more) ≡ parameters_on m len (rest ++ more)) (sym is)
              (parameters_further m len rest more (omega (arith, inside, many)))
              ∙ goes m more;
        })

-- the bytes of a string after ESC ] or ESC P were read so far
string_fits : (len : ℕ) (bytes : List ℕ) → 2 + len ≤ length bytes
    → ((l : Bool) (more : List ℕ) → string_on l len (drop 2 bytes ++ more) ≡ token_at l (bytes ++ more))
    → Fits (behind_string len (drop 2 bytes)) bytes
string_fits len bytes inside goes =
    let rest = drop 2 bytes in
    let k = prefix_len is_string_byte (drop len rest) in
    let many : length rest ≡ length bytes - 2 = length-drop 2 bytes in
    record {
      within = omega (arith, inside, many, length-drop len rest, prefix_len-le-length is_string_byte (drop len rest));
      goes_on = λ l more.
          ap (λ xs. string_on l (len + k) xs) (drop-append-le 2 bytes more (omega (arith, inside)))
          ∙ string_further l len rest more (omega (arith, inside, many))
          ∙ goes l more;
    }

none_mapped : (n : ℕ) (o : Option ℕ) → option_map (λ k. k + n) o ≡ None → o ≡ None
none_mapped n (Some k) h = absurd cc
none_mapped n None h = refl

-- bytes that begin with ESC [
begins : (l : Bool) (bytes : List ℕ) → starts_with eqb bytes sequence_start ≡ true → parameters_on l 0 (drop 2 bytes) ≡ token_at l bytes
begins l [] at = absurd cc
begins l (b ∷ []) at = absurd (false≢true (and_parts (eqb 27 b) false at).1)
begins l (b ∷ c ∷ rest) at =
    let parts = and_parts _ _ at in
    let first : 27 ≡ b = eqb-true 27 b parts.0 in
    let second : 91 ≡ c = eqb-true 91 c (and_parts _ _ parts.1).0 in
    begins_sequence l rest ∙ ap (λ x. token_at l (x ∷ 91 ∷ rest)) first ∙ ap (λ x. token_at l (b ∷ x ∷ rest)) second

-- bytes that begin with ESC ] or ESC P and an answer
string_begins : (l : Bool) (bytes : List ℕ) → begins_string bytes ≡ true → string_on l 0 (drop 2 bytes) ≡ token_at l bytes
string_begins l [] at = absurd (false≢true at)
string_begins l (a ∷ []) at = absurd (false≢true at)
string_begins l (a ∷ b ∷ []) at = absurd (false≢true at)
string_begins l (a ∷ b ∷ c ∷ rest) at =
    let parts = and_parts (eqb a 27) (opens_string b && begins_answer c) at in
    let more = and_parts (opens_string b) (begins_answer c) parts.1 in
    let all : 0 + prefix_len is_string_byte (c ∷ rest) ≡ prefix_len is_string_byte (c ∷ rest) = omega arith in
    ap (λ n. string_of l (2 + n) (drop n (c ∷ rest))) all
    ∙ sym (ap (λ x. token_at l (x ∷ b ∷ c ∷ rest)) (eqb-true a 27 parts.0)
    ∙ opened l b (c ∷ rest) more.0
    ∙ ap (λ t. cond t (whole_string l (c ∷ rest)) (scanned_as (key_token (Char b) alt) 2)) more.1)

still_begins : (bytes more : List ℕ) → begins_string bytes ≡ true → begins_string (bytes ++ more) ≡ true
still_begins [] more at = absurd (false≢true at)
still_begins (a ∷ []) more at = absurd (false≢true at)
still_begins (a ∷ b ∷ []) more at = absurd (false≢true at)
still_begins (a ∷ b ∷ c ∷ rest) more at = at

two_begin : (bytes : List ℕ) → begins_string bytes ≡ true → 2 ≤ length bytes
two_begin [] at = absurd (false≢true at)
two_begin (a ∷ []) at = absurd (false≢true at)
two_begin (a ∷ b ∷ rest) at = omega arith

-- how they are read
pub begun_string : (l : Bool) (bytes : List ℕ) (result : Result Scanned Progress) → starts_with eqb bytes sequence_start ≡ false → begins_string bytes ≡ true
    → (let rest = take (length bytes - 2) (drop 2 bytes) in result ≡ ok_or (string_on l 0 rest) (behind_string 0 rest))
    → result ≡ ok_or (token_at l bytes) (behind_start bytes)
begun_string l bytes result no_sequence at is =
    is ∙ ap (λ xs. ok_or (string_on l 0 xs) (behind_string 0 xs)) (take_rest bytes 2)
    ∙ ap (λ o. ok_or o (behind_string 0 (drop 2 bytes))) (string_begins l bytes at)
    ∙ ap (λ t. ok_or (token_at l bytes) (cond t (behind_string 0 (drop 2 bytes)) Start)) (sym at)
    ∙ ap (λ t. ok_or (token_at l bytes) (cond t (behind_parameters 0 (drop 2 bytes)) (cond (begins_string bytes) (behind_string 0 (drop 2 bytes)) Start))) (sym no_sequence)

pub begun : (l : Bool) (bytes : List ℕ) (result : Result Scanned Progress) → starts_with eqb bytes sequence_start ≡ true
    → (let rest = take (length bytes - 2) (drop 2 bytes) in result ≡ ok_or (parameters_on l 0 rest) (behind_parameters 0 rest))
    → result ≡ ok_or (token_at l bytes) (behind_start bytes)
begun l bytes result at is =
    is ∙ ap (λ xs. ok_or (parameters_on l 0 xs) (behind_parameters 0 xs)) (take_rest bytes 2)
    ∙ ap (λ o. ok_or o (behind_parameters 0 (drop 2 bytes))) (begins l bytes at)
    ∙ ap (λ t. ok_or (token_at l bytes) (cond t (behind_parameters 0 (drop 2 bytes)) (cond (begins_string bytes) (behind_string 0 (drop 2 bytes)) Start))) (sym at)

start_fits : (l : Bool) (bytes : List ℕ) (t u : Bool) → starts_with eqb bytes sequence_start ≡ t → begins_string bytes ≡ u → token_at l bytes ≡ None
    → Fits (cond t (behind_parameters 0 (drop 2 bytes)) (cond u (behind_string 0 (drop 2 bytes)) Start)) bytes
start_fits l bytes false false e other none = fits_start bytes
start_fits l bytes false true e at none =
    let two = two_begin bytes at in
    string_fits 0 bytes (omega (arith, two))
    (λ m more. ap (λ xs. string_on m 0 xs) (sym (drop-append-le 2 bytes more two)) ∙ string_begins m (bytes ++ more) (still_begins bytes more at))
start_fits l bytes true u e at none =
    behind_fits l 0 bytes (omega (arith, starts_long sequence_start bytes e)) _ refl
    (λ m more. ap (λ xs. parameters_on m 0 xs) (sym (drop-append-le 2 bytes more (omega (arith, starts_long sequence_start bytes e))))
    ∙ begins m (bytes ++ more) (starts_more sequence_start bytes more (starts_long sequence_start bytes e) ∙ e))
    (begins l bytes e ∙ none)

-- what was read of bytes that are no token yet
read_fits : (p : Progress) (l : Bool) (bytes : List ℕ) → Fits p bytes → token_resumed p l bytes ≡ None → Fits (read_on p bytes) bytes
read_fits Start l bytes f none = start_fits l bytes _ _ refl refl none
read_fits (Parameters len) l bytes f none =
    behind_fits l len bytes f.within _ refl
    (λ m more. ap (λ xs. parameters_on m len xs) (sym (drop-append-le 2 bytes more (omega (arith, f.within)))) ∙ f.goes_on m more) none
read_fits (ControlString len) l bytes f none =
    string_fits len bytes f.within
    (λ m more. ap (λ xs. string_on m len xs) (sym (drop-append-le 2 bytes more (omega (arith, f.within)))) ∙ f.goes_on m more)
read_fits (Paste from s) l bytes f none =
    let text = drop from bytes in
    let many : length text ≡ length bytes - from = length-drop from bytes in
    let unended : paste_len (drop s text) ≡ None = none_mapped s _ (no_end l from (length text) _ none) in
    let split : (more : List ℕ) → drop from (bytes ++ more) ≡ text ++ more = λ more. drop-append-le from bytes more (omega (arith, f.within)) in
    record {
      within = omega (arith, f.within, many);
      goes_on = λ m more.
          ap (λ xs. paste_on m from (searched_to s (length text)) xs) (split more)
          ∙ paste_further m from s (length text - s - 5) text more (omega (arith, f.within, many)) unended (omega arith)
          ∙ ap (λ xs. paste_on m from s xs) (sym (split more))
          ∙ f.goes_on m more;
    }

module _ (p : Progress) (l : Bool) (bytes : List ℕ) (f : Fits p bytes) (result : Result Scanned Progress) (is : result ≡ ok_or (token_resumed p l bytes) (read_on p bytes)) where
  -- what is answered is the token
  pub is_found : IfOk result (λ s. token_at l bytes ≡ Some s)
  is_found = subst (λ r. IfOk r (λ s. token_at l bytes ≡ Some s)) (sym is) (found_in (token_resumed p l bytes) (goes_here p l bytes f))
    where
      found_in : (o : Option Scanned) → o ≡ token_at l bytes → IfOk (ok_or o (read_on p bytes)) (λ s. token_at l bytes ≡ Some s)
      found_in (Some s) e = sym e
      found_in None e = tt

  -- or there is none yet
  pub is_none : OnErr result (token_at l bytes ≡ None)
  is_none = subst (λ r. OnErr r (token_at l bytes ≡ None)) (sym is) (none_in (token_resumed p l bytes) (goes_here p l bytes f))
    where
      none_in : (o : Option Scanned) → o ≡ token_at l bytes → OnErr (ok_or o (read_on p bytes)) (token_at l bytes ≡ None)
      none_in (Some s) e = tt
      none_in None e = sym e

  -- and what was read fits
  pub is_read : IfErr result (λ q. Fits q bytes)
  is_read = subst (λ r. IfErr r (λ q. Fits q bytes)) (sym is) (read_in (token_resumed p l bytes) (read_fits p l bytes f))
    where
      read_in : (o : Option Scanned) → (o ≡ None → Fits (read_on p bytes) bytes) → IfErr (ok_or o (read_on p bytes)) (λ q. Fits q bytes)
      read_in (Some s) h = tt
      read_in None h = h refl

  -- as far as it can be
  pub is_far : IfErr result (λ q. q ≡ read_on p bytes)
  is_far = subst (λ r. IfErr r (λ q. q ≡ read_on p bytes)) (sym is) (far_in (token_resumed p l bytes))
    where
      far_in : (o : Option Scanned) → IfErr (ok_or o (read_on p bytes)) (λ q. q ≡ read_on p bytes)
      far_in (Some s) = tt
      far_in None = refl

  bounds_of : (result : Result Scanned Progress) → IfOk result (λ s. token_at l bytes ≡ Some s) → IfOk result (λ s. (0 < s.used) × (s.used ≤ length bytes))
  bounds_of (Ok s) e = let b : IfSome (Some s) (λ (s : Scanned). (0 < s.used) × (s.used ≤ length bytes)) = subst (λ o. IfSome o (λ (s : Scanned). (0 < s.used) × (s.used ≤ length bytes))) e (takes_bytes l bytes) in b
  bounds_of (Err q) e = tt

  -- it takes bytes that are there
  pub is_bounded : IfOk result (λ s. (0 < s.used) × (s.used ≤ length bytes))
  is_bounded = bounds_of result is_found
