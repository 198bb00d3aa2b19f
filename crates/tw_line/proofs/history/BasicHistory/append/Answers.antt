use Rattle.std.proofs.Common.{◌≡◌, ◌++◌, length, refl, arith}
use Rattle.std.specs.String.{string_bytes}
use Rattle.tw_line.proofs.JoinedLemmas.{lines_from-push, AreEnds-push}
use Rattle.tw_line.proofs.history.BasicHistory.append.Goals as goal

-- the text with the line after it
text_is : (c : goal.In-Ok-push) → string_bytes c.push_str.new.self ≡ string_bytes c.self.inside.text ++ c.args.line.now
text_is c = rw (c.in-Ok.ensures.bytes, c.in_ok-reserve.ensures.bytes) refl

-- the end offset of the line
end_is : (c : goal.In-Ok-push) → c.len.result ≡ length (string_bytes c.self.inside.text ++ c.args.line.now)
end_is c = rw (← text_is c) (omega (arith, c.len.ensures))

pub invariant_of-self-2 : goal.invariant_of-self-2
invariant_of-self-2 c =
    rw (c.in-Ok-push.ensures.items, c.in_ok-reserve-2.ensures.items, end_is c, text_is c)
    (AreEnds-push _ _ c.utf8.line 0 _ c.self.invariant)

pub returns : goal.returns
returns c =
    rw (c.in-Ok-push.ensures.items, c.in_ok-reserve-2.ensures.items, end_is c, text_is c, ← c.self.view_is)
    (lines_from-push _ _ 0 _ c.self.invariant)
