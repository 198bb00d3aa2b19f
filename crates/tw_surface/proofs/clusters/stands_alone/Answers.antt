use Rattle.std.proofs.Common.{◌≡◌, ◌<◌, nat_lt, true, sym, ap, ◌∙◌, arith}
use Rattle.std.proofs.lemmas.Bool.{false≢true}
use Rattle.std.proofs.lemmas.Bool.Decides.{nat_tests}
use Rattle.ucd_breaks.specs.GraphemeClusterBreak.{grapheme_cluster_break}
use Rattle.tw_surface.specs.Clusters.{is_other}
use Rattle.tw_surface.proofs.LoneCharacters.{alone_in_range, alone_before_vedic}
use Rattle.tw_surface.proofs.clusters.stands_alone.Goals.{in-Other, in_default}
use Rattle.tw_surface.proofs.clusters.stands_alone.Goals as goal

pub returns-then-is_in_lone_range : goal.returns-then-is_in_lone_range
returns-then-is_in_lone_range c = sym (alone_in_range c.args.c (sym c.is_in_lone_range.ensures ∙ c.if-is_in_lone_range.true))

pub returns-then-c-lt-FIRST_VEDIC_LINKER : goal.returns-then-c-lt-FIRST_VEDIC_LINKER
returns-then-c-lt-FIRST_VEDIC_LINKER c = is_low ∙ sym (alone_before_vedic c.args.c low is_base)
  where
    low : c.args.c < 0x1CF5
    low = c.if-c-lt-FIRST_VEDIC_LINKER.true

    is_low : nat_lt c.args.c 0x1CF5 ≡ true
    is_low = grind (arith, nat_tests)

    is_base : is_other (grapheme_cluster_break c.args.c) ≡ true
    is_base = elim c.match-matches.branch [
      | in-Other w ↦ ap is_other (sym c.for_char.ensures ∙ w.in-Other.is)
      | in_default w ↦ absurd (false≢true (sym w.matches-is ∙ c.if-matches.true))
    ]
