-- The tokens so far, and those of what is left, are those of the text.
use Rattle.std.proofs.Common.{◌≡◌, ◌++◌, ◌-◌, length, map}
use denote.Text.{Utf8}
use denote.Shadow.{shadow}
use Rattle.sql_language.specs.Lexemes.{first_tokens, token_view}
use Rattle.sql_language.proofs.tokens.tokenize.Given as goal

abbrev pub invariant-loop : goal.invariant-loop
invariant-loop l = shadow (Utf8 l.rest) × (map token_view l.found.items ++ first_tokens (length l.text - l.counter) l.rest ≡ first_tokens (length l.text) l.text)
