use Rattle.std.proofs.Common.{subst, true, ◌≡◌}
use Rattle.std.specs.Str.{chars}
use Rattle.tw_surface.specs.Clusters.{starts_apart}
use Rattle.tw_surface.proofs.LoneCharacters.{first_by_byte, lone_boundary}
use Rattle.tw_surface.proofs.clusters.first_len.Goals as goal

pub split_at-requires : goal.split_at-requires
split_at-requires c =
    lone_boundary c.args.text.now c.lone_len-len.result c.utf8.text c.requires (rw (← c.as_bytes.ensures.value) c.lone_len-len.ensures.value) c.if-len-gt0.true

pub returns-then-begins_lone : goal.returns-then-begins_lone
returns-then-begins_lone c =
    first_by_byte c.args.text.now c.utf8.text c.requires c.lone_len-len.result (rw (← c.as_bytes.ensures.value) c.lone_len-len.ensures.value) c.if-len-gt0.true
    (subst (λ t. starts_apart (chars t) ≡ true) c.split_at.ensures.back (c.begins_lone.ensures c.if-begins_lone.true))
