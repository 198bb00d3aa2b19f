use Rattle.std.proofs.Common.{rules, arith}
use Rattle.tw_session.proofs.CandidateLemmas.{fits-false, fits_behind, fits_before, fits_inside, misfits_before, misfits_inside}
use Rattle.tw_session.proofs.session.completion.landing_of.Goals as goal
use Rattle.tw_session.proofs.session.completion.landing_of.Goals.{then-at-start, else-at-start}

pub returns-then-start-end : goal.returns-then-start-end
returns-then-start-end c = fits-false _ _ (λ f. search (rules, f.ordered, f.from, f.to))

pub returns-then-cursor-end : goal.returns-then-cursor-end
returns-then-cursor-end c =
    (fits_behind c.args.line.now c.args.text.now c.args.start c.args.end c.args.cursor (omega arith) (search rules) (search rules) (omega arith) c.requires, omega arith)

pub returns-in_err-at : goal.returns-in_err-at
returns-in_err-at c =
    let high = c.in_err-at.ensures in
    rw c.from_residual.ensures (fits-false _ _ (λ f. omega (arith, high, f.low)))

pub returns-then-lands : goal.returns-then-lands
returns-then-lands c =
    let landed = c.in_ok-at.ensures in
    elim c.if-at-start.branch [
      | then-at-start w ↦ (fits_before c.args.line.now c.args.text.now c.args.start c.args.end c.args.cursor (omega arith) (search rules) (search rules) c.in_ok-at.at (omega (arith, landed)) (omega arith) (search rules), omega (arith, landed))
      | else-at-start w ↦ (fits_inside c.args.line.now c.args.text.now c.args.start c.args.end c.args.cursor (omega arith) (search rules) (search rules) c.in_ok-at.at (omega (arith, landed)) (omega arith) (omega arith) (search rules), omega (arith, landed))
    ]

pub returns-else-lands : goal.returns-else-lands
returns-else-lands c =
    let landed = c.in_ok-at.ensures in
    elim c.if-at-start.branch [
      | then-at-start w ↦ misfits_before c.args.line.now c.args.text.now c.args.start c.args.end c.args.cursor (omega arith) (search rules) (search rules) c.in_ok-at.at (omega (arith, landed)) (omega arith) (search rules)
      | else-at-start w ↦ misfits_inside c.args.line.now c.args.text.now c.args.start c.args.end c.args.cursor (omega arith) (search rules) (search rules) c.in_ok-at.at (omega (arith, landed)) (omega arith) (omega arith) (search rules)
    ]
