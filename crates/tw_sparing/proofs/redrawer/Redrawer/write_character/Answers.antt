use Rattle.std.proofs.Common.{rules, ◌≡◌, ◌<◌, ◌++◌, OnOk, sym, subst, string_bytes}
use Rattle.tw_sparing.proofs.AddedChanges.{ascii_added}
use Rattle.tw_sparing.proofs.SingleCharacters.{single_plain}
use Rattle.tw_sparing.proofs.redrawer.Redrawer.write_character.Goals as goal

pub encode_byte-requires : goal.encode_byte-requires
encode_byte-requires c = let low : c.args.character < 128 = search rules in single_plain c.args.character low c.requires

pub returns-then-is_ascii-clause-bytes : goal.returns-then-is_ascii-clause-bytes
returns-then-is_ascii-clause-bytes c =
    let low : c.args.character < 128 = search rules in
    let sent = ascii_added c.args.character c.args.self.now.encoder low (single_plain c.args.character low c.requires) in
    subst (λ l. OnOk c.encode_byte.result (string_bytes c.encode_byte.new.out ≡ string_bytes c.args.out.now ++ l)) (sym sent.0) c.encode_byte.ensures.bytes

pub returns-then-is_ascii-clause-next : goal.returns-then-is_ascii-clause-next
returns-then-is_ascii-clause-next c =
    let low : c.args.character < 128 = search rules in
    let sent = ascii_added c.args.character c.args.self.now.encoder low (single_plain c.args.character low c.requires) in
    subst (λ e. OnOk c.encode_byte.result (c.encode_byte.new.self ≡ e)) (sym sent.1) c.encode_byte.ensures.next
