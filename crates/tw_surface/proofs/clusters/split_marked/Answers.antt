use Rattle.std.proofs.Common.{◌≡◌, ℕ, ◌+◌, List, [], ◌∷◌, ◌++◌, refl, sym, ap, subst, ◌∙◌}
use Rattle.std.specs.Prelude.{encode_utf8, encode_utf8_all}
use Rattle.std.specs.Str.{chars}
use Rattle.std.specs.Str.Iter.{chars_rest}
use Rattle.tw_surface.specs.Clusters.{starts_apart}
use Rattle.tw_surface.specs.Openings.{AddsColumns, IsPastAdded}
use Rattle.tw_surface.proofs.LoneWidths.{past_all}
use Rattle.tw_surface.proofs.OpeningLemmas.{joins_behind, more_added, no_more, one, two}
use Rattle.tw_surface.proofs.clusters.split_marked.Goals.{Else-sum-gt2, then-is_linker+in_ok-next+in_ok-conjunct_columns, else-is_linker+in_ok-sum}
use Rattle.tw_surface.proofs.clusters.split_marked.Goals as goal

pub loop-first-init : goal.loop-first-init
loop-first-init c = (
  subst (IsPastAdded c.args.columns c.args.behind.now c.args.columns) (sym c.chars-chars.ensures.rest) (no_more c.args.columns c.args.columns c.args.behind.now refl c.requires.few),
  ap (λ t. starts_apart (chars t)) c.chars-chars.ensures.rest ∙ c.requires.joined,
)

pub mark_columns-requires-clause-joined : goal.mark_columns-requires-clause-joined
mark_columns-requires-clause-joined c =
    let here = c.loop-first.invariant.0 in
    joins_behind _ _ c.in-Some.first (past_all c.args.behind.now _ here.0 c.utf8.behind here.2) c.in-Some.ensures.steps.0 c.loop-first.invariant.1

added : (c : Else-sum-gt2) → (ds : List ℕ) × (chars_rest c.loop-first.chars ≡ encode_utf8_all ds ++ chars_rest c.if-is_linker.chars) × AddsColumns ds c.if-is_linker.sum
added c = elim c.if-is_linker.branch [
  | then-is_linker+in_ok-next+in_ok-conjunct_columns w ↦ (
    c.in-Some.first ∷ w.in_ok-next.field-0 ∷ [],
    two _ _ _ c.in-Some.first w.in_ok-next.field-0 c.in-Some.ensures.steps.0
        (w.in_ok-next.ensures.steps.0 ∙ ap (λ i. encode_utf8 w.in_ok-next.field-0 ++ chars_rest i) (sym w.chars-is)),
    subst (AddsColumns (c.in-Some.first ∷ w.in_ok-next.field-0 ∷ [])) (sym w.sum-is) w.in_ok-conjunct_columns.ensures.added,
  )
  | else-is_linker+in_ok-sum w ↦ (
    c.in-Some.first ∷ [],
    one _ _ c.in-Some.first (c.in-Some.ensures.steps.0 ∙ ap (λ i. encode_utf8 c.in-Some.first ++ chars_rest i) (sym w.chars-is)),
    subst (AddsColumns (c.in-Some.first ∷ [])) (sym w.sum-is) w.in_ok-sum.ensures.added,
  )
]

past : (c : Else-sum-gt2) → IsPastAdded c.args.columns c.args.behind.now (c.loop-first.sum + c.if-is_linker.sum) (chars_rest c.if-is_linker.chars)
past c =
    let new = added c in
    more_added c.args.columns c.loop-first.sum c.if-is_linker.sum c.args.behind.now _ _ new.0 c.loop-first.invariant.0 new.1 new.2 c.if-sum-gt2.false

pub returns-then-starts_apart : goal.returns-then-starts_apart
returns-then-starts_apart c = (
  subst (IsPastAdded c.args.columns c.args.behind.now (c.loop-first.sum + c.if-is_linker.sum)) (sym c.as_str-rest.ensures) (past (goal.at.returns-then-starts_apart c).Else-sum-gt2),
  sym c.starts_apart.ensures ∙ c.if-starts_apart.true,
)

pub loop-first-preserved : goal.loop-first-preserved
loop-first-preserved c = (
  past (goal.at.loop-first-preserved c).Else-sum-gt2,
  ap (λ t. starts_apart (chars t)) (sym c.as_str-rest.ensures) ∙ sym c.starts_apart.ensures ∙ c.if-starts_apart.false,
)
