-- Where a statement ends: at a semicolon, or, if it makes a trigger, at the semicolon behind the END of its body.
use Rattle.std.specs.Prelude.{ℕ, zero, suc, ◌+◌, Bool, true, false, ◌||◌, List, take, drop, length, codes, eqb, Option, Some, None, option_map, if◌then◌else◌}
use Rattle.std.specs.Cmp.Lexicographic.{pointwise}
use Rattle.sql_language.specs.declared.statements.Part.{Part}
use Rattle.sql_language.specs.declared.statements.Part.TheVariants.{Start, Explain, Create, Other, Body, Semicolon, End}
use Rattle.sql_language.specs.declared.tokens.TokenKind.{TokenKind}
use Rattle.sql_language.specs.declared.tokens.TokenKind.TheVariants as kind
use Rattle.sql_language.specs.Lexemes.{lexeme_kind, lexeme_len}
use Rattle.sql_language.specs.SqlWords.{eq_ignore_case}

-- whether a token is white space or a comment
abbrev pub is_blank : TokenKind → Bool
is_blank kind.White = true
is_blank kind.Word = false
is_blank kind.Number = false
is_blank kind.Text = false
is_blank kind.Name = false
is_blank kind.Comment = true
is_blank kind.Mark = false

-- how far a statement is read behind a semicolon; none where it ends there
abbrev pub part_behind_semicolon : Part → Option Part
part_behind_semicolon Start = None
part_behind_semicolon Explain = None
part_behind_semicolon Create = None
part_behind_semicolon Other = None
part_behind_semicolon Body = Some Semicolon
part_behind_semicolon Semicolon = Some Semicolon
part_behind_semicolon End = None

-- and behind any other token that is not blank
abbrev pub part_behind : Part → List ℕ → Part
part_behind Start token =
    if eq_ignore_case token (codes "EXPLAIN") then Explain
    else if eq_ignore_case token (codes "CREATE") then Create
    else Other
part_behind Explain token = if eq_ignore_case token (codes "CREATE") then Create else Other
part_behind Create token =
    if eq_ignore_case token (codes "TEMP") || eq_ignore_case token (codes "TEMPORARY") then Create
    else if eq_ignore_case token (codes "TRIGGER") then Body
    else Other
part_behind Other token = Other
part_behind Body token = Body
part_behind Semicolon token = if eq_ignore_case token (codes "END") then End else Body
part_behind End token = Body

-- and behind any token
abbrev pub part_after : Part → TokenKind → List ℕ → Option Part
part_after part kind token =
    if is_blank kind then Some part
    else if pointwise eqb token (codes ";") then part_behind_semicolon part
    else Some (part_behind part token)

-- the length of what is left of a statement, if it ends in the first `count` tokens
unfoldable pub len_in : ℕ → Part → List ℕ → Option ℕ
len_in zero part text = None
len_in (suc count) part text =
    elim (part_after part (lexeme_kind text) (take (lexeme_len text) text)) [
      | None ↦ Some (lexeme_len text)
      | Some next ↦ option_map (λ more. lexeme_len text + more) (len_in count next (drop (lexeme_len text) text))
    ]

-- the length of the first statement: a text has no more tokens than bytes
abbrev pub statement_len : List ℕ → Option ℕ
statement_len text = len_in (length text) Start text
