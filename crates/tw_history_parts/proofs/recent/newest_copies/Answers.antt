use Rattle.std.proofs.Common.{◌≡◌, ◌-◌, ◌<◌, ◌∷◌, List, ℕ, [], Bor, true, false, drop, get_or, length, string_bytes, ◌≤◌, map, ap, sym, ◌∙◌, arith, rules}
use Rattle.std.proofs.lemmas.List.{length-map}
use Rattle.tw_history_parts.specs.Recent.{lines_of_entries, newest}
use Rattle.tw_history_parts.proofs.CopiesLemmas.{among, copies, kept_full, kept_more, is_new, is_old, kept_same, seen_more, walked}
use Rattle.tw_history_parts.proofs.recent.newest_copies.Goals as goal

pub loop-at-preserved-then-branch : goal.loop-at-preserved-then-branch
loop-at-preserved-then-branch c =
    let none : Bor (List ℕ) = record { ref_ptr = (0, 0); now = [] } in
    let x : Bor (List ℕ) = get_or c.args.lines.now (c.loop-at.at - 1) none in
    let newer = map (λ line. line.now) (drop c.loop-at.at c.args.lines.now) in
    let next = walked c.args.lines.now c.loop-at.at none c.loop-at-test.true c.loop-at.invariant.within in
    let kept = lines_of_entries c.loop-at.kept.items in
    let few : length c.loop-at.kept.items < c.args.limit = search rules in
    let fresh : among x.now newer ≡ false = is_new _ _ _ c.if-branch.true c.in_ok-insert.ensures.added (c.loop-at.invariant.seen few x.now) in
    let grown : lines_of_entries c.push_front.new.self.items ≡ x.now ∷ kept = search (rules, c.in_ok-from_str.ensures.ok) in
    record {
      within = omega (arith, c.loop-at.invariant.within);
      kept = grown ∙ kept_more c.args.limit x.now newer kept c.loop-at.invariant.kept (omega (arith, few, length-map c.loop-at.kept.items string_bytes)) fresh
          ∙ ap (λ l. newest c.args.limit (copies l)) (sym next);
      seen = λ _ line. seen_more c.loop-at.seen c.insert.new.self x newer c.in_ok-insert.ensures.updates (c.loop-at.invariant.seen few) line ∙ ap (among line) (sym next);
    }

pub loop-at-preserved : goal.loop-at-preserved
loop-at-preserved c =
    let none : Bor (List ℕ) = record { ref_ptr = (0, 0); now = [] } in
    let x : Bor (List ℕ) = get_or c.args.lines.now (c.loop-at.at - 1) none in
    let newer = map (λ line. line.now) (drop c.loop-at.at c.args.lines.now) in
    let next = walked c.args.lines.now c.loop-at.at none c.loop-at-test.true c.loop-at.invariant.within in
    let kept = lines_of_entries c.loop-at.kept.items in
    let size = length-map c.loop-at.kept.items string_bytes in
    elim c.else-len-limit.branch [
      | goal.else-len-limit-via-then-len-limit+in_ok-insert+else-branch w ↦
          let few : length c.loop-at.kept.items < c.args.limit = search rules in
          let old : among x.now newer ≡ true = is_old _ _ _ w.if-branch.false w.in_ok-insert.ensures.added (c.loop-at.invariant.seen few x.now) in
          record {
            within = omega (arith, c.loop-at.invariant.within);
            kept = kept_same c.args.limit x.now newer kept c.loop-at.invariant.kept old ∙ ap (λ l. newest c.args.limit (copies l)) (sym next);
            seen = λ _ line. rw w.seen-is (seen_more c.loop-at.seen w.insert.new.self x newer w.in_ok-insert.ensures.updates (c.loop-at.invariant.seen few) line) ∙ ap (among line) (sym next);
          }
      | goal.else-len-limit-via-else-len-limit w ↦
          let full : c.args.limit ≤ length c.loop-at.kept.items = search rules in
          record {
            within = omega (arith, c.loop-at.invariant.within);
            kept = kept_full c.args.limit x.now newer kept c.loop-at.invariant.kept (omega (arith, full, size)) ∙ ap (λ l. newest c.args.limit (copies l)) (sym next);
            seen = λ few line. absurd (omega (arith, few, full));
          }
    ]
