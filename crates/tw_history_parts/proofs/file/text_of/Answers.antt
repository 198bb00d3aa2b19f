use Rattle.std.proofs.Common.{rules, ◌≡◌, Some, true, refl, sym, ap, subst, ◌∙◌, string_bytes}
use mathlib.Core.Bool.{Bool-set}
use mathlib.Core.Logic.{∥∥₁_elim}
use Rattle.std.specs.Str.{is_utf8}
use Rattle.std.proofs.lemmas.Str.{is_utf8-from_IsUtf8}
use Rattle.tw_history_parts.proofs.file.text_of.Goals as goal

pub returns-in-Ok : goal.returns-in-Ok
returns-in-Ok c =
    let same : string_bytes c.in-Ok.text ≡ c.args.bytes.items = search (rules, c.in-Ok.ensures.ok) in
    let text : is_utf8 (string_bytes c.in-Ok.text) ≡ true = ∥∥₁_elim c.in-Ok.text.ok (Bool-set _ _) (is_utf8-from_IsUtf8 (string_bytes c.in-Ok.text)) in
    ap Some same ∙ sym (rw (subst (λ bytes. is_utf8 bytes ≡ true) same text) refl)
