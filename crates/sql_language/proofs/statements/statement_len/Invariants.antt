-- The end in what is left is that of the statement.
use Rattle.std.proofs.Common.{◌≡◌, ◌-◌, ◌≤◌, length, drop}
use denote.Text.{Utf8}
use denote.Shadow.{shadow}
use Rattle.sql_language.specs.Statements.{statement_len, len_in}
use Rattle.sql_language.proofs.StatementLemmas.{beyond}
use Rattle.sql_language.proofs.statements.statement_len.Given as goal

abbrev pub invariant-loop : goal.invariant-loop
invariant-loop l = shadow (Utf8 l.rest) × (l.len ≤ length l.text) × (l.rest ≡ drop l.len l.text)
    × (beyond l.len (len_in (length l.text - l.counter) l.part l.rest) ≡ statement_len l.text)
