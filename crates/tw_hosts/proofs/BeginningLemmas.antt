-- What texts share with one another.
use Rattle.std.proofs.Common.{◌≡◌, ℕ, zero, suc, ◌+◌, ◌<◌, ◌≤◌, ◌&&◌, List, [], ◌∷◌, length, take, map, min, ap, arith, ⊎_elim, eqb, leb, unwrap_or, String, string_bytes}
use Rattle.std.specs.declared.alloc.Global.{Global}
use Rattle.std.proofs.lemmas.Bool.{cases_lt}
use Rattle.std.proofs.lemmas.Bool.Decides.{nat_tests}
use Rattle.std.specs.List.{common_prefix_len, fold, list_all, starts_with}
use Rattle.std.specs.Str.{IsCharBoundary}
use Rattle.tw_line.proofs.BoundaryLemmas.{is_boundary-from, is_boundary-false}
use Rattle.tw_line.proofs.ExtremesLemmas.{greatest_below-is}
use Rattle.tw_hosts.specs.SharedCandidate.{is_shared, shared_len}

-- a text begins with as much of another one as they share, and with no more
begins : (text other : List ℕ) (n : ℕ) → n ≤ length text → starts_with eqb other (take n text) ≡ leb n (common_prefix_len eqb text other)
begins text other zero low = grind (arith, nat_tests)
begins [] other (suc n) low = absurd (omega (arith, low))
begins (x ∷ text) [] (suc n) low = grind (arith, nat_tests)
begins (x ∷ text) (y ∷ other) (suc n) low = let rest = begins text other n (omega (arith, low)) in grind (arith, nat_tests)

-- the most that a text shares with all of several
abbrev pub least_shared : List ℕ → ℕ → List (String Global) → ℕ
least_shared text end others = fold (λ end other. min end (common_prefix_len eqb text (string_bytes other))) end others

all_begin : (text : List ℕ) (others : List (String Global)) (end n : ℕ) → n ≤ length text
    → leb n end && list_all (λ other. starts_with eqb other (take n text)) (map string_bytes others) ≡ leb n (least_shared text end others)
all_begin text [] end n low = grind (arith, nat_tests)
all_begin text (other ∷ others) end n low =
    let one = begins text (string_bytes other) n low in
    let rest = all_begin text others (min end (common_prefix_len eqb text (string_bytes other))) n low in
    grind (arith, nat_tests)

-- so the greatest boundary up to there is the greatest that is shared
pub shared_len-is : (text : List ℕ) (others : List (String Global)) (n : ℕ) → n ≤ least_shared text (length text) others → IsCharBoundary text n
    → ((k : ℕ) → n < k → k ≤ least_shared text (length text) others → IsCharBoundary text k → ⊥) → shared_len text (map string_bytes others) ≡ n
shared_len-is text others n low cut nearest =
    ap (λ o. unwrap_or o 0) (greatest_below-is (is_shared text (map string_bytes others)) (length text + 1) n (omega (arith, cut.0))
    (let all = all_begin text others (length text) n cut.0 in let passes = is_boundary-from text n cut in let short = cut.0 in grind (arith, nat_tests))
    (λ k above below. let all = all_begin text others (length text) k (omega (arith, below)) in ⊎_elim
    (λ beyond. grind (arith, nat_tests))
    (λ within. let none = is_boundary-false text k (nearest k (omega (arith, above)) within) in grind (arith, nat_tests))
    (cases_lt (least_shared text (length text) others) k)))
