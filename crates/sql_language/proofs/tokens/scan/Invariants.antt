-- The bytes so far and those that go on with them are the first token.
use Rattle.std.proofs.Common.{◌≡◌, ◌+◌, ◌-◌, ◌≤◌, drop, get_or, length}
use Rattle.sql_language.specs.Lexemes.{lexeme_len, rest_len}
use Rattle.sql_language.proofs.LexerLemmas.{Takes}
use Rattle.sql_language.proofs.tokens.scan.Given as goal

abbrev pub invariant-loop-at : goal.invariant-loop-at
invariant-loop-at l = record {
  len : l.at + rest_len l.inside (drop l.at l.bytes) ≡ lexeme_len l.bytes;
  takes : 128 ≤ get_or l.bytes (l.at - 1) 0 → Takes l.inside;
  some : 1 ≤ l.at;
  filled : 1 ≤ length l.bytes;
}
