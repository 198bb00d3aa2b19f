-- A search that fails, by the search from the last line.
use Rattle.std.proofs.Common.{◌≡◌, ◌∙◌, ℕ, ◌+◌, ◌-◌, List, [], ◌∷◌, length, true, Option, Some, None, option_map, refl, ap, arith}
use Rattle.std.specs.Option.{is_none}
use Rattle.std.proofs.lemmas.Bool.{lt-ltb}
use Rattle.tw_line.specs.Extremes.{greatest_below}
use Rattle.tw_line.specs.declared.history.SearchDirection.TheVariants.{Backwards}
use Rattle.tw_line.specs.NearestMatch.{last_index, match_at, matches, nearest_match}
use Rattle.tw_prompt_host.specs.FailingSearch.{is_failing}

-- where there are no lines it fails
pub none_fails : (lines : List (List ℕ)) (pattern : List ℕ) → None ≡ last_index lines → true ≡ is_failing lines pattern
unfolding greatest_below
none_fails [] pattern e = refl
none_fails (line ∷ lines) pattern e = cc

-- a map changes nothing in whether there is something
pub none_of_map : {A B : Type 0} → (f : A → B) (o : Option A) → is_none (option_map f o) ≡ is_none o
none_of_map f None = refl
none_of_map f (Some a) = refl

-- it fails where the search from the last line finds none
pub failing_is : (lines : List (List ℕ)) (pattern : List ℕ) (last : ℕ) → Some last ≡ last_index lines → is_none (nearest_match lines last Backwards pattern) ≡ is_failing lines pattern
unfolding nearest_match
failing_is [] pattern last e = cc
failing_is (line ∷ lines) pattern last e =
    let all = line ∷ lines in
    let is : last ≡ length all - 1 = cc in
    let next : last + 1 ≡ length all = omega (arith, is) in
    rw (lt-ltb last (length all) (omega (arith, is)))
    (none_of_map (match_at all pattern) (greatest_below (matches all pattern) (last + 1)) ∙ ap (λ n. is_none (greatest_below (matches all pattern) n)) next)
