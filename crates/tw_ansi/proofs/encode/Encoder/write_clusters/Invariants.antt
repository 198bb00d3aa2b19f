-- What is sent and what is left are what is sent for the whole text.
use Rattle.std.proofs.Common.{◌≡◌, ℕ, List, ◌++◌, string_bytes, true}
use Rattle.unicode_segmentation.specs.Grapheme.{graphemes}
use Rattle.unicode_segmentation.specs.Iter.{graphemes_left}
use Rattle.tw_ansi.specs.Encoding.{sent_clusters}
use Rattle.tw_ansi.proofs.encode.Encoder.write_clusters.Given as goal

abbrev pub invariant-loop-cluster : goal.invariant-loop-cluster
invariant-loop-cluster l =
    let left = sent_clusters (graphemes_left l.cluster-iterator) l.self in
    let all = sent_clusters (graphemes true l.fn.text) l.fn.self in
    (done : List ℕ) × (string_bytes l.out ≡ string_bytes l.fn.out ++ done)
    × (done ++ left.bytes ≡ all.bytes) × (left.next ≡ all.next)
