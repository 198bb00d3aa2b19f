use Rattle.std.proofs.Common.{rules}
use Rattle.std.proofs.lemmas.Str.{IsUtf8-string_bytes}
use Rattle.tw_ansi.proofs.Appends.{old_end}
use Rattle.tw_ansi.proofs.encode.Encoder.encode.Goals as goal

pub truncate-requires : goal.truncate-requires
truncate-requires c =
    let cut = old_end _ _ (IsUtf8-string_bytes c.args.out.now) (IsUtf8-string_bytes c.send.new.out) c.in-Err.ensures.err in
    search rules
