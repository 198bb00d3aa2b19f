-- What each byte of an SQL text stands in: white space, a word, a number, a mark, a comment, or quotes. A byte from 128
-- on is a letter.
use Rattle.std.specs.Prelude.{ℕ, ◌==◌, Bool, true, false, ◌&&◌, ◌||◌, not, Option, Some, None, nat_le, if◌then◌else◌}
use Rattle.sql_language.specs.declared.lexer.Quote.{Quote}
use Rattle.sql_language.specs.declared.lexer.Quote.TheVariants.{Single, Double, Grave, Square}
use Rattle.sql_language.specs.declared.lexer.Inside.{Inside}
use Rattle.sql_language.specs.declared.lexer.Inside.TheVariants.{White, Word, Number, Mark, Dash, Slash, Line, Block, Star, BlockEnd, Quoted, Closed}

-- whether a byte is white space
abbrev pub is_white : ℕ → Bool
is_white byte = (byte == 32) || (nat_le 9 byte && nat_le byte 13)

-- whether it may begin a word: a letter, a low line, or a byte of another script
abbrev pub is_word_start : ℕ → Bool
is_word_start byte = (nat_le 65 byte && nat_le byte 90) || ((nat_le 97 byte && nat_le byte 122) || ((byte == 95) || nat_le 128 byte))

-- whether it is a digit
abbrev pub is_decimal : ℕ → Bool
is_decimal byte = nat_le 48 byte && nat_le byte 57

-- whether a word goes on with it: a letter, a digit, a dollar sign
abbrev pub is_part : ℕ → Bool
is_part byte = is_word_start byte || (is_decimal byte || (byte == 36))

-- whether a number goes on with it: a letter, as in 0x1f, a digit, a point
abbrev pub is_number_part : ℕ → Bool
is_number_part byte = is_word_start byte || (is_decimal byte || (byte == 46))

-- the byte that ends a text in quotes
abbrev pub closing_byte : Quote → ℕ
closing_byte Single = 39
closing_byte Double = 34
closing_byte Grave = 96
closing_byte Square = 93

-- whether two such bytes stand for one in the text
abbrev pub reopens : Quote → Bool
reopens Single = true
reopens Double = true
reopens Grave = true
reopens Square = false

-- what a byte stands in that begins a token
abbrev pub fresh : ℕ → Inside
fresh byte =
    if is_white byte then White
    else if is_word_start byte then Word
    else if is_decimal byte then Number
    else if byte == 39 then Quoted Single
    else if byte == 34 then Quoted Double
    else if byte == 96 then Quoted Grave
    else if byte == 91 then Quoted Square
    else if byte == 45 then Dash
    else if byte == 47 then Slash
    else Mark

-- what stands so where a test passes
abbrev pub if_so : Bool → Inside → Option Inside
if_so passes inside = if passes then Some inside else None

-- what a byte of a comment stands in, and one after a star in it
abbrev pub in_block : ℕ → Inside
in_block byte = if byte == 42 then Star else Block

abbrev pub behind_star : ℕ → Inside
behind_star byte = if byte == 47 then BlockEnd else in_block byte

-- what a byte of a text in quotes stands in
abbrev pub in_quotes : Quote → ℕ → Inside
in_quotes quote byte = if byte == closing_byte quote then Closed quote else Quoted quote

-- what a byte stands in after another one of its token; none where it begins a token
abbrev pub continued : Inside → ℕ → Option Inside
continued White byte = if_so (is_white byte) White
continued Word byte = if_so (is_part byte) Word
continued Number byte = if_so (is_number_part byte) Number
continued Mark byte = None
continued BlockEnd byte = None
continued Dash byte = if_so (byte == 45) Line
continued Slash byte = if_so (byte == 42) Block
continued Line byte = if_so (not (byte == 10)) Line
continued Block byte = Some (in_block byte)
continued Star byte = Some (behind_star byte)
continued (Quoted quote) byte = Some (in_quotes quote byte)
continued (Closed quote) byte = if_so ((byte == closing_byte quote) && reopens quote) (Quoted quote)
