-- No listing so far is of the directory: those that are left have the same entries for it.
use Rattle.std.proofs.Common.{◌≡◌, drop}
use Rattle.tw_hosts.specs.FileNames.{entries_in}
use Rattle.tw_hosts.proofs.file_names.entries_in.Given as goal

abbrev pub invariant-loop-listing : goal.invariant-loop-listing
invariant-loop-listing l = entries_in (drop l.listing-index l.listings) l.directory ≡ entries_in l.listings l.directory
