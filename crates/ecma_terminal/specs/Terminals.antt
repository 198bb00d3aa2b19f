-- What a terminal holds, and the small terminals that it shows.
use Rattle.std.specs.Prelude.{ℕ, ◌≡◌, ◌<◌, ◌≤◌, ◌+◌, ◌-◌, ◌^◌, ◌&&◌, ◌||◌, ◌⊎◌, ltb, leb, not, if◌then◌else◌, Bool, true, false, List, [], ◌∷◌, ◌++◌, Option, Some, None, chars}
use Rattle.std.specs.Str.{IsUtf8}
use Rattle.tw_surface.specs.declared.cell.CellAttributes.{CellAttributes}
use Rattle.tw_surface.specs.Defaults.{default_attributes}
use Rattle.laws_screens.specs.StyledCells.{StyledCell, cluster_number, styled}
use Rattle.tw_ansi.specs.EcmaScreen.{EcmaScreen, Reading, Text, Escaped, Parameters, Begun, receive_all, feed_line, return_to_start, is_whole_character, columns_of}
use Rattle.tw_ansi.specs.KeyBytes.{is_parameter}
use Rattle.ecma_terminal.specs.declared.fault.EcmaFault.{EcmaFault}
use Rattle.ecma_terminal.specs.declared.fault.EcmaFault.TheVariants.{Character, Color, Full, Memory, Size, Wide}
use Rattle.ecma_terminal.specs.Grids.{GridView, IsFilledWith, ShowsCells, is_full}
use Rattle.ecma_terminal.specs.Colors.{ends_in_large}

-- its cells, its cursor, whether it waits after the last column, the columns of the character that was written last, the
-- attributes that are selected, and how far a sequence or a character was read
pub record TerminalView : Type 0 where
  pub grid : GridView
  pub row : ℕ
  pub col : ℕ
  pub waits : Bool
  pub last : ℕ
  pub attributes : CellAttributes
  pub reading : Reading

-- its cursor stands in one of its rows and columns, of which there are at most 65,535
pub record IsTerminal (view : TerminalView) : Type 0 where
  pub row_within : view.row < view.grid.rows
  pub col_within : view.col < view.grid.cols
  pub rows_most : view.grid.rows ≤ 65535
  pub cols_most : view.grid.cols ≤ 65535

-- a terminal shows a small terminal of the definitions: its cells in each row and column that it has, and all else
pub record ShowsTerminal (view : TerminalView) (t : EcmaScreen StyledCell) : Type 0 where
  pub cell : ShowsCells view.grid t.cell
  pub row : t.row ≡ view.row
  pub col : t.col ≡ view.col
  pub waits : t.waits ≡ view.waits
  pub last : t.last ≡ view.last
  pub rendition : t.rendition ≡ view.attributes
  pub reading : t.reading ≡ view.reading

-- a terminal becomes another one of its size: whatever the first one shows, the other shows what a rule makes of it
pub record Becomes (old : TerminalView) (rule : EcmaScreen StyledCell → EcmaScreen StyledCell) (new : TerminalView) : Type 0 where
  pub rows : new.grid.rows ≡ old.grid.rows
  pub cols : new.grid.cols ≡ old.grid.cols
  pub shown : (t : EcmaScreen StyledCell) → ShowsTerminal old t → ShowsTerminal new (rule t)

-- to the start of the next row if the cursor waits, or if these columns do not fit in this one
abbrev pub wrapped : StyledCell → ℕ → ℕ → ℕ → EcmaScreen StyledCell → EcmaScreen StyledCell
wrapped blank h w columns t = if t.waits || ltb w (t.col + columns) then return_to_start (feed_line blank h t) else t

-- there are no rows or no columns, or more than 65,535 of them
abbrev pub HasNoSize : ℕ → ℕ → Type 0
HasNoSize rows cols = ((rows ≡ 0) ⊎ (65535 < rows)) ⊎ ((cols ≡ 0) ⊎ (65535 < cols))

-- a terminal of so many rows and columns that shows one cell everywhere, with the cursor in the first one
pub record IsNew (rows cols : ℕ) (x : StyledCell) (view : TerminalView) : Type 0 where
  pub grid : IsFilledWith rows cols x view.grid
  pub row : view.row ≡ 0
  pub col : view.col ≡ 0
  pub waits : view.waits ≡ false
  pub last : view.last ≡ 0
  pub attributes : view.attributes ≡ default_attributes
  pub reading : view.reading ≡ Text

-- a byte is one more parameter, or one more byte of a character
abbrev pub is_added_to : Reading → ℕ → Bool
is_added_to Text byte = leb 194 byte
is_added_to Escaped byte = false
is_added_to (Parameters parameters) byte = is_parameter byte
is_added_to (Begun bytes) byte = true

-- so it takes memory
abbrev pub takes_memory : TerminalView → ℕ → Bool
takes_memory view byte = is_added_to view.reading byte

-- a byte ends an SGR sequence with a number of a colour above 255
abbrev pub ends_large : Reading → ℕ → CellAttributes → Bool
ends_large Text byte a = false
ends_large Escaped byte a = false
ends_large (Parameters parameters) byte a = not (is_parameter byte) && ends_in_large parameters byte a
ends_large (Begun bytes) byte a = false

abbrev pub is_too_large : TerminalView → ℕ → Bool
is_too_large view byte = ends_large view.reading byte view.attributes

-- the bytes of a character after one more
abbrev pub begun_with : Reading → ℕ → List ℕ
begun_with Text byte = []
begun_with Escaped byte = []
begun_with (Parameters parameters) byte = []
begun_with (Begun bytes) byte = bytes ++ byte ∷ []

abbrev pub character_with : TerminalView → ℕ → List ℕ
character_with view byte = begun_with view.reading byte

-- the character of a text that has one
abbrev pub only_one : List ℕ → Option ℕ
only_one [] = None
only_one (c ∷ []) = Some c
only_one (c ∷ d ∷ more) = None

-- bytes that are not those of one character
abbrev pub IsNoCharacter : List ℕ → Type 0
IsNoCharacter bytes = ¬ (IsUtf8 bytes) ⊎ (only_one (chars bytes) ≡ None)

-- the column of the cell that a mark joins
abbrev pub mark_col : TerminalView → ℕ
mark_col view = (if view.waits then view.grid.cols else view.col) - view.last

-- a character is not written: its bytes are no character, it has more columns than there are, or its cell would have more
-- than 16 bytes
abbrev pub IsUnwritten : EcmaFault → TerminalView → List ℕ → Type 0
IsUnwritten Character view character = IsNoCharacter character
IsUnwritten Wide view character = view.grid.cols < columns_of character
IsUnwritten Full view character =
    ((columns_of character ≡ 0) × (is_full view.grid view.row (mark_col view) character ≡ true)) ⊎ (2 ^ 128 ≤ cluster_number character)
IsUnwritten _ view character = ⊥

-- a byte is refused: for memory it is one more parameter or one more of a character, for a colour it ends a sequence with
-- a large number, and else it ends a character that is not written
abbrev pub IsRefusedFor : EcmaFault → TerminalView → ℕ → Type 0
IsRefusedFor Memory view byte = takes_memory view byte ≡ true
IsRefusedFor Color view byte = is_too_large view byte ≡ true
IsRefusedFor Size view byte = ⊥
IsRefusedFor fault view byte = (is_whole_character (character_with view byte) ≡ true) × IsUnwritten fault view (character_with view byte)

-- of some bytes those before one were received, and that one is refused
pub record StopsWithin (fault : EcmaFault) (bytes : List ℕ) (old new : TerminalView) : Type 0 where
  pub received : List ℕ
  pub refused : ℕ
  pub left : List ℕ
  pub parts : bytes ≡ received ++ refused ∷ left
  pub becomes : Becomes old (receive_all styled old.grid.rows old.grid.cols received) new
  pub cause : IsRefusedFor fault new refused
