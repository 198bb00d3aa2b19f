use Rattle.std.proofs.Common.{◌≡◌, ◌≤◌, ◌++◌, length, map, string_bytes, ap, subst, sym, arith}
use Rattle.std.proofs.lemmas.List.{length-map}
use Rattle.tw_history_parts.specs.HistoryFile.{AddsAll}
use Rattle.tw_history_parts.specs.Recent.{AreUnique, RecentLines, lines_of_entries, gives_recent, newest}
use Rattle.tw_history_parts.proofs.CopiesLemmas.{all_added, copies, copies_stand_once, newest_few}
use Rattle.tw_history_parts.proofs.recent.RecentHistory.add_all.Goals as goal

pub invariant_of-self : goal.invariant_of-self
invariant_of-self c =
    let h : RecentLines = record { lines = lines_of_entries c.self.inside.entries.items; limit = c.self.inside.limit; is_unique = c.self.inside.is_unique } in
    let lines = map string_bytes c.args.lines.now in
    let items = c.in_ok-entries.entries.items in
    let few : length h.lines ≤ h.limit = omega (arith, c.self.invariant.1, length-map c.self.inside.entries.items string_bytes) in
    let is : lines_of_entries items ≡ newest h.limit (copies (h.lines ++ lines)) =
    subst (λ h. lines_of_entries items ≡ newest h.limit (copies (h.lines ++ lines))) (sym c.self.view_is) c.in_ok-entries.ensures in (
      c.self.invariant.0,
      omega (arith, length-map items string_bytes, ap length is, newest_few h.limit (copies (h.lines ++ lines))),
      λ once. subst AreUnique (sym is) (copies_stand_once h lines once (c.self.invariant.2 once) few),
    )

pub returns-clause-added : goal.returns-clause-added
returns-clause-added c =
    let h : RecentLines = record { lines = lines_of_entries c.self.inside.entries.items; limit = c.self.inside.limit; is_unique = c.self.inside.is_unique } in
    let lines = map string_bytes c.args.lines.now in
    let items = c.in_ok-entries.entries.items in
    let few : length h.lines ≤ h.limit = omega (arith, c.self.invariant.1, length-map c.self.inside.entries.items string_bytes) in
    let is : lines_of_entries items ≡ newest h.limit (copies (h.lines ++ lines)) =
    subst (λ h. lines_of_entries items ≡ newest h.limit (copies (h.lines ++ lines))) (sym c.self.view_is) c.in_ok-entries.ensures in
    subst (λ old. AddsAll gives_recent lines old (record h { lines = lines_of_entries items })) c.self.view_is
    (subst (λ l. AddsAll gives_recent lines h (record h { lines = l })) (sym is)
    (all_added h lines c.if-not-self.false (c.self.invariant.2 c.if-not-self.false) few))
