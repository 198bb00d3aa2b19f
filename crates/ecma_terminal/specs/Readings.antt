-- How far a terminal has read a control sequence or a character.
use Rattle.tw_ansi.specs.EcmaScreen as terminal
use Rattle.ecma_terminal.specs.declared.terminal.Reading.{Reading}
use Rattle.ecma_terminal.specs.declared.terminal.Reading.TheVariants.{Text, Escaped, Parameters, Begun}

-- the same in the words of the definitions
abbrev pub reading_of : Reading → terminal.Reading
reading_of Text = terminal.Text
reading_of Escaped = terminal.Escaped
reading_of (Parameters parameters) = terminal.Parameters parameters.items
reading_of (Begun bytes) = terminal.Begun bytes.items
