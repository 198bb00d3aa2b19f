use Rattle.std.proofs.Common.{subst, rules}
use Rattle.std.proofs.lemmas.Str.{IsUtf8-string_bytes}
use Rattle.tw_line.specs.Cut.{IsCut}
use Rattle.tw_line.proofs.buffer.LineEditBuffer.get_cursor.Goals as goal

pub returns-clause-boundary : goal.returns-clause-boundary
returns-clause-boundary c = subst IsCut c.self.view_is (record { utf8 = IsUtf8-string_bytes c.self.inside.line.line; boundary = c.self.invariant })

pub returns-clause-value : goal.returns-clause-value
returns-clause-value c = search rules
