-- It is known of the bytes before this one.
use Rattle.std.proofs.Common.{◌≡◌, take}
use Rattle.std.specs.List.{list_all}
use Rattle.tw_surface.specs.Characters.{is_printable}
use Rattle.tw_surface.proofs.characters.is_printable_text.Given as goal

abbrev pub invariant-loop-byte : goal.invariant-loop-byte
invariant-loop-byte l = l.all ≡ list_all is_printable (take l.byte-index l.text)
