-- The cells of a page, the text of one, and a part of some candidates.
use Rattle.std.proofs.Common.{◌≡◌, ◌∙◌, ℕ, zero, suc, ◌+◌, ◌-◌, ◌<◌, ◌≤◌, List, [], ◌∷◌, ◌++◌, get_or, length, map, string_bytes, refl, ap, arith}
use Rattle.std.proofs.lemmas.List.{drop-map, take-map}
use Rattle.tw_host.specs.CandidateView.{candidate_view}
use Rattle.tw_host.specs.ElementView.{ElementView}
use Rattle.tw_host.specs.declared.host.CompletionCandidate.{CompletionCandidate}
use Rattle.tw_prompt_host.specs.MenuLayout.{cells_from, menu_texts}

-- the text of one of some candidates
pub text-there : (candidates : List CompletionCandidate) (at : ℕ) (d : CompletionCandidate) → at < length candidates
    → get_or (menu_texts (map candidate_view candidates)) at [] ≡ string_bytes (get_or candidates at d).text
text-there [] at d low = absurd (omega (arith, low))
text-there (one ∷ candidates) zero d low = refl
text-there (one ∷ candidates) (suc at) d low = text-there candidates at d (omega (arith, low))

-- the number of cells from one on, with one more
pub cells-more : (cell : ℕ → List ElementView) (start at count : ℕ) → start ≤ at → count ≡ at - start
    → cells_from cell start (at + 1 - start) ≡ cells_from cell start count ++ cell at
cells-more cell start at count low e =
    let more : at + 1 - start ≡ suc count = omega (arith, e) in
    let last : start + count ≡ at = omega (arith, e) in
    ap (cells_from cell start) more ∙ ap (λ n. cells_from cell start count ++ cell n) last

-- a part of some candidates is seen as that part
pub ruleset part_seen = (drop-map, take-map)
