-- What a table says of every character in some ranges, found by computing.
use Rattle.std.proofs.Common.{◌≡◌, ℕ, Bool, true, not, ◌&&◌, ◌||◌, List}
use Rattle.ucd_table.specs.Rows.{Range, in_ranges}
use Rattle.ucd_table.proofs.Facts.{always, ends_by, Stepped-everywhere}
use Rattle.ucd_table.proofs.StepsLemmas.{range_rows, rises_from}
use Rattle.ucd_table.proofs.Stepped.{of_ranges, zip_stepped, Stepped}

module _ {V : Type 0} (test : V → Bool) (f : ℕ → V) (stepped : Stepped f) (ranges : List Range) (rising : rises_from 0 (range_rows ranges) ≡ true) where
  abbrev tested : Stepped (λ c. not (in_ranges ranges c) || test (f c))
  tested = zip_stepped (λ inside value. not inside || test value) (in_ranges ranges) f (of_ranges ranges rising) stepped

  pub throughout : (always _ tested && (ends_by 0x11_0000 tested.steps && tested.default)) ≡ true → (c : ℕ) → in_ranges ranges c ≡ true → test (f c) ≡ true
  throughout all c inside = rw inside at (Stepped-everywhere _ tested all c)
