use Rattle.std.proofs.Common.{arith, ◌≤◌, eqb, if◌then◌else◌, ℕ, List, subst}
use Rattle.std.proofs.lemmas.Bool.Decides.{nat_tests}
use Rattle.tw_surface.specs.Openings.{IsWithAdded}
use Rattle.tw_surface.specs.Places.{IsWideSplit}
use Rattle.tw_surface.proofs.LoneCharacters.{lone_boundary, some_of}
use Rattle.tw_surface.proofs.OpeningLemmas.{no_more}
use Rattle.tw_surface.proofs.LoneWidths.{byte_split, some_with}
use Rattle.tw_surface.proofs.clusters.split_by_byte.Goals.{After-split_at}
use Rattle.tw_surface.proofs.clusters.split_by_byte.Goals as goal

pub split_at-requires : goal.split_at-requires
split_at-requires c =
    let text = c.args.text.now in
    let bytes = c.as_bytes.ensures.value in
    let found = c.in_ok-first.ensures.item.3 in
    lone_boundary text c.lone_len-len.result c.utf8.text (rw (← bytes) found.0) (rw (← bytes, ← (found.1 0)) c.lone_len-len.ensures.value)
    (some_of c.lone_len-len.result c.if-len-eq0.false)

split : (c : After-split_at) (rest : List ℕ) (sum : ℕ) → IsWithAdded (if eqb c.lone_len-len.result 3 then 2 else 1) c.split_at.result.1.now sum rest → IsWideSplit c.args.text.now sum rest
split c rest sum =
    let text = c.args.text.now in
    let bytes = c.as_bytes.ensures.value in
    let found = c.in_ok-first.ensures.item.3 in
    byte_split text c.split_at.result.1.now rest c.lone_len-len.result sum c.utf8.text (rw (← bytes) found.0) (rw (← bytes, ← (found.1 0)) c.lone_len-len.ensures.value)
    (some_of c.lone_len-len.result c.if-len-eq0.false) c.split_at.ensures.back

pub returns-then-begins_lone : goal.returns-then-begins_lone
returns-then-begins_lone c =
    let few : (if eqb c.lone_len-len.result 3 then 2 else 1) ≤ 2 = grind (arith, nat_tests) in
    split (goal.at.returns-then-begins_lone c).After-split_at c.split_at.result.1.now c.lone_width-columns.result
    (no_more _ _ _ c.lone_width-columns.ensures few, c.begins_lone.ensures c.if-begins_lone.true)

pub returns-else-begins_lone : goal.returns-else-begins_lone
returns-else-begins_lone c =
    some_with c.split_joined.result
    (λ cut joined. split (goal.at.returns-else-begins_lone c).After-split_at cut.1.now cut.0 (subst (λ n. IsWithAdded n c.split_at.result.1.now cut.0 cut.1.now) c.lone_width-columns.ensures joined))
    c.split_joined.ensures
