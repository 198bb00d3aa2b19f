-- The tokens of an SQL text.
use Rattle.std.specs.Prelude.{ℕ, zero, suc, ◌==◌, List, [], ◌∷◌, Some, None, drop, if◌then◌else◌, length, take}
use Rattle.sql_language.specs.declared.lexer.Quote.{Quote}
use Rattle.sql_language.specs.declared.lexer.Quote.TheVariants.{Single, Double, Grave, Square}
use Rattle.sql_language.specs.declared.lexer.Inside.{Inside}
use Rattle.sql_language.specs.declared.lexer.Inside.TheVariants.{White, Word, Number, Mark, Dash, Slash, Line, Block, Star, BlockEnd, Quoted, Closed}
use Rattle.sql_language.specs.declared.tokens.Token.{Token}
use Rattle.sql_language.specs.declared.tokens.TokenKind.{TokenKind}
use Rattle.sql_language.specs.declared.tokens.TokenKind.TheVariants as kind
use Rattle.sql_language.specs.Lexer.{fresh, continued}

-- how many bytes go on with a token whose last byte stands in inside
unfoldable pub rest_len : Inside → List ℕ → ℕ
rest_len inside [] = 0
rest_len inside (byte ∷ bytes) = elim (continued inside byte) [ None ↦ 0 | Some next ↦ suc (rest_len next bytes) ]

-- the length of the first token
abbrev pub lexeme_len : List ℕ → ℕ
lexeme_len [] = 0
lexeme_len (byte ∷ bytes) = suc (rest_len (fresh byte) bytes)

-- what its first byte stands in
abbrev pub lexeme_start : List ℕ → Inside
lexeme_start [] = White
lexeme_start (byte ∷ bytes) = fresh byte

-- what a token in quotes is
abbrev pub quoted_kind : Quote → TokenKind
quoted_kind Single = kind.Text
quoted_kind Double = kind.Name
quoted_kind Grave = kind.Name
quoted_kind Square = kind.Name

-- what a token is, by what its first byte stands in and its length: a minus sign or a slash that goes on is a comment
abbrev pub token_kind : Inside → ℕ → TokenKind
token_kind White len = kind.White
token_kind Word len = kind.Word
token_kind Number len = kind.Number
token_kind Mark len = kind.Mark
token_kind Dash len = if len == 1 then kind.Mark else kind.Comment
token_kind Slash len = if len == 1 then kind.Mark else kind.Comment
token_kind Line len = kind.Comment
token_kind Block len = kind.Comment
token_kind Star len = kind.Comment
token_kind BlockEnd len = kind.Comment
token_kind (Quoted quote) len = quoted_kind quote
token_kind (Closed quote) len = quoted_kind quote

-- what the first token of a text is
abbrev pub lexeme_kind : List ℕ → TokenKind
lexeme_kind text = token_kind (lexeme_start text) (lexeme_len text)

-- a token: what it is, and its bytes
pub record TokenView : Type 0 where
  pub kind : TokenKind
  pub text : List ℕ

abbrev pub token_view : Token → TokenView
token_view token = record { kind = token.kind; text = token.text.now }

-- the first token of a text
abbrev pub lexeme : List ℕ → TokenView
lexeme text = record { kind = lexeme_kind text; text = take (lexeme_len text) text }

-- the first so many tokens of a text
unfoldable pub first_tokens : ℕ → List ℕ → List TokenView
first_tokens zero text = []
first_tokens (suc count) [] = []
first_tokens (suc count) (byte ∷ bytes) =
    let text = byte ∷ bytes in
    lexeme text ∷ first_tokens count (drop (lexeme_len text) text)

-- all of them: they are no more than bytes
abbrev pub tokenize : List ℕ → List TokenView
tokenize text = first_tokens (length text) text
