-- What is done and what is left are all the texts.
use Rattle.std.proofs.Common.{◌≡◌, ℕ, List, ◌++◌, drop, string_bytes}
use Rattle.std.specs.List.{flat_map}
use Rattle.tw_ansi.proofs.sequence.push_all.Given as goal

abbrev pub invariant-loop-text : goal.invariant-loop-text
invariant-loop-text l =
    (done : List ℕ) × (string_bytes l.out ≡ string_bytes l.fn.out ++ done)
    × (done ++ flat_map (λ text. text.now) (drop l.text-index l.texts) ≡ flat_map (λ text. text.now) l.texts)
