-- The bytes of a buffer that were read and are not taken.
use Rattle.std.specs.Prelude.{ℕ, ◌-◌, List, take, drop}

-- those behind the taken ones, up to the last one that was read
abbrev pub unread_in : ℕ → ℕ → List ℕ → List ℕ
unread_in taken filled bytes = take (filled - taken) (drop taken bytes)
