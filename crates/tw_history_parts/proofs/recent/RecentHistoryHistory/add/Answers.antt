use Rattle.std.proofs.Common.{string_bytes}
use Rattle.tw_history_parts.specs.Recent.{lines_of_entries}
use Rattle.tw_history_parts.proofs.RecentLemmas.{unique_after}
use Rattle.tw_history_parts.proofs.recent.RecentHistoryHistory.add.Goals as goal

pub invariant_of-self : goal.invariant_of-self
invariant_of-self c = (
  c.self.invariant.0,
  c.push_recent.ensures.fits,
  unique_after c.push_recent.result c.self.inside.is_unique c.self.inside.limit (lines_of_entries c.self.inside.entries.items)
      (lines_of_entries c.push_recent.new.entries.items) (string_bytes c.in_ok-entry.entry) c.self.invariant.2 c.push_recent.ensures.ok c.push_recent.ensures.err,
)
