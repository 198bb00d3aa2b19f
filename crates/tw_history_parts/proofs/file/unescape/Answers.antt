use Rattle.std.proofs.Common.{◌≡◌, ◌++◌, ◌∷◌, [], sym, ap, ◌∙◌, rules}
use Rattle.std.specs.Prelude.{option_map}
use Rattle.tw_history_parts.specs.HistoryFile.{unescaped}
use Rattle.tw_history_parts.proofs.ReadingLemmas.{pushed}
use Rattle.tw_history_parts.proofs.file.unescape.Goals as goal

pub loop-byte-preserved : goal.loop-byte-preserved
loop-byte-preserved c =
    let bytes = c.loop-byte.bytes.items in
    let grown : c.push.new.self.items ≡ bytes ++ c.in-Some.byte ∷ [] = search rules in
    rw grown (pushed bytes c.in-Some.byte (unescaped c.in-Some.after.now) ∙ ap (option_map (λ more. bytes ++ more)) (sym c.in-Some.ensures.some) ∙ c.loop-byte.invariant)
