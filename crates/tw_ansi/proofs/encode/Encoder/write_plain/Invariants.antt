-- What is sent and what is left are what is sent for the whole text.
use Rattle.std.proofs.Common.{◌≡◌, ℕ, List, ◌++◌, drop, string_bytes, true}
use Rattle.std.specs.List.{list_all}
use Rattle.tw_surface.specs.Characters.{is_plain}
use Rattle.tw_ansi.specs.Encoding.{sent_plain}
use Rattle.tw_ansi.proofs.encode.Encoder.write_plain.Given as goal

abbrev pub invariant-loop-byte : goal.invariant-loop-byte
invariant-loop-byte l =
    let left = sent_plain (drop l.byte-index l.text) l.self in
    let all = sent_plain l.text l.fn.self in
    (done : List ℕ) × (string_bytes l.out ≡ string_bytes l.fn.out ++ done)
    × (done ++ left.bytes ≡ all.bytes) × (left.next ≡ all.next)
    × (list_all is_plain (drop l.byte-index l.text) ≡ true)
