-- The column that a host answers so that the editor's division finds the cell in which the text goes on.
use Rattle.std.specs.Prelude.{ℕ, pos, ◌-ℤ◌, ◌+ℤ◌, ◌+◌, ◌-◌, ◌*◌, ◌==◌, Bool, true, false, not, ◌&&◌, leb, max, if◌then◌else◌, List, [], ◌∷◌, ◌++◌, chars, flat_map, map, take, drop, ◌≡◌, string_bytes}
use Rattle.std.specs.List.{list_all, sum_by}
use Rattle.unicode_segmentation.specs.Grapheme.{graphemes}
use Rattle.tw_surface.specs.declared.measure.Piece.{Piece}
use Rattle.tw_surface.specs.declared.measure.Piece.TheVariants.{Wide, Cr, Lf, CrLf}
use Rattle.tw_surface.specs.ChangeView.{Text}
use Rattle.tw_surface.specs.Paintings.{cursor_place, place_at}
use Rattle.tw_surface.specs.Scenes.{Scene}
use Rattle.tw_surface.specs.Characters.{is_plain, is_printable}
use Rattle.tw_surface.specs.Places.{Place, origin, pieces, plain_piece, cluster_piece, end_of_pieces, places_after, is_in_range, place_after_all, begins_at}
use Rattle.tw_surface.specs.Positions.{at_least_0}
use Rattle.tw_surface.specs.Width.{cluster_width, column_width, char_columns}
use Rattle.tw_line.specs.Cut.{Cut}
use Rattle.tw_input.specs.EventView.{EventView, Resized}
use Rattle.tw_host.specs.ElementView.{changes_of}
use Rattle.tw_host.specs.Faithful.{IsFaithful}
use Rattle.tw_host.specs.HostRules.{HostRules, Highlight, plain_text}
use Rattle.tw_hosts.specs.declared.settling.PromptScreen.{PromptScreen}

-- the characters of a text that take columns, each by itself
abbrev pub character_piece : ℕ → List Piece
character_piece c = if char_columns c == 0 then [] else Wide (char_columns c) ∷ []

abbrev pub character_pieces : List ℕ → List Piece
character_pieces cs = flat_map character_piece cs

-- a cluster in which several characters take columns, and together as many as it: a terminal can begin a row between
-- them
abbrev pub is_parted : List ℕ → Bool
is_parted cluster =
    list_all (λ c. not (char_columns c == cluster_width cluster)) (chars cluster)
    && (sum_by char_columns (chars cluster) == cluster_width cluster)

-- the pieces of a cluster, none of which a terminal parts: its characters, or itself
abbrev pub cell_pieces : List ℕ → List Piece
cell_pieces cluster = if is_parted cluster then character_pieces (chars cluster) else cluster_piece cluster ∷ []

-- those of a text
unfoldable pub settled_pieces : List ℕ → List Piece
settled_pieces text = if list_all is_plain text then map plain_piece text else flat_map cell_pieces (graphemes true text)

-- those of what is left of a parted cluster, and of the text after it
abbrev pub pieces_left : List ℕ → List ℕ → List Piece
pieces_left parted text = character_pieces (chars parted) ++ flat_map cell_pieces (graphemes true text)

-- where a text leads by these pieces
abbrev pub place_after_text : ℕ → List ℕ → Place → Place
place_after_text cols text p = end_of_pieces cols (settled_pieces text) p

-- the columns that the first of some pieces needs: one at least, for the cursor itself
abbrev pub needed : List Piece → ℕ
needed (Wide width ∷ more) = max 1 width
needed _ = 1

-- the columns that the beginning of a text needs
unfoldable pub needed_by_text : List ℕ → ℕ
needed_by_text text = needed (settled_pieces text)

-- where the line begins, as the editor measures the prompt
abbrev pub line_start : ℕ → List ℕ → Place
line_start cols prompt = end_of_pieces cols (pieces prompt) origin

-- the cell of the cursor: the one in which what stands after it begins
abbrev pub settled_place : ℕ → List ℕ → Cut → Place
settled_place cols prompt cut =
    begins_at cols (needed_by_text (drop cut.cursor cut.line)) (place_after_text cols (take cut.cursor cut.line) (line_start cols prompt))

-- how many rows lie between two places, and how many columns by division
abbrev pub rows_between : Place → Place → ℕ
rows_between p q = at_least_0 (q.y -ℤ p.y)

abbrev pub columns_between : ℕ → Place → Place → ℕ
columns_between cols p q = rows_between p q * cols + q.x - p.x

-- a place in the same row or below is not before another one
abbrev pub is_ahead : ℕ → Place → Place → Bool
is_ahead cols p q = leb p.x (rows_between p q * cols + q.x)

-- the screen has such a size, and all places on the way are in range
abbrev pub is_measured : ℕ → List ℕ → List ℕ → Bool
is_measured cols prompt before =
    (leb 1 cols && leb cols 65535)
    && (list_all is_in_range (places_after cols (pieces prompt) origin)
    && list_all is_in_range (places_after cols (settled_pieces before) (line_start cols prompt)))

-- some column leads to the cell of the cursor: all is measured, the prompt ends within the screen, and the cell is not
-- before the line
abbrev pub is_settled : ℕ → List ℕ → Cut → Bool
is_settled cols prompt cut =
    is_measured cols prompt (take cut.cursor cut.line)
    && (leb (line_start cols prompt).x cols && is_ahead cols (line_start cols prompt) (settled_place cols prompt cut))

-- that column, and where there is none the columns of the text before the cursor
abbrev pub settled_column : ℕ → List ℕ → Cut → ℕ
settled_column cols prompt cut =
    if is_settled cols prompt cut then columns_between cols (line_start cols prompt) (settled_place cols prompt cut)
    else column_width (take cut.cursor cut.line)

-- the columns of a screen, and the prompt before the line
pub record PromptScreenView : Type 0 where
  pub cols : ℕ
  pub prompt : List ℕ

-- the view of what is known of a screen
abbrev pub screen_view : PromptScreen → PromptScreenView
screen_view screen = record { cols = screen.cols; prompt = string_bytes screen.prompt }

-- the column of the cursor on a screen
abbrev pub column_on : PromptScreenView → Cut → ℕ
column_on screen cut = settled_column screen.cols screen.prompt cut

-- the screen has the columns that an event tells
abbrev pub screen_after : EventView → PromptScreenView → PromptScreenView
screen_after (Resized cols rows) screen = record { cols = cols; prompt = screen.prompt }
screen_after _ screen = screen

-- what a host shows, with the column on the screen
abbrev pub settled_highlight : PromptScreenView → Cut → Highlight → Highlight
settled_highlight screen cut shown = record { elements = shown.elements; column = column_on screen cut }

-- a faithful host shows a printable line with the column on any screen
abbrev pub PrintableIsUnchanged : {V : Type 0} → HostRules V → Type 0
PrintableIsUnchanged {V} rules = IsFaithful rules → (screen : PromptScreenView) (v : V) (cut : Cut) → list_all is_printable cut.line ≡ true
    → settled_highlight screen cut (rules.highlight v cut) ≡ rules.highlight v cut

-- where some column leads there, the editor's division finds the cell of the cursor
abbrev pub ColumnLeadsThere : Type 0
ColumnLeadsThere = (cols : ℕ) (prompt : List ℕ) (cut : Cut) → is_settled cols prompt cut ≡ true
    → place_at cols (line_start cols prompt) (settled_column cols prompt cut) ≡ settled_place cols prompt cut

-- and so the cursor of the scene stands there
abbrev pub CursorIsSettled : Type 0
CursorIsSettled = (cols : ℕ) (prompt : List ℕ) (cut : Cut) (scene : Scene) → is_settled cols prompt cut ≡ true
    → scene.prompt ≡ changes_of (plain_text prompt) → scene.column ≡ settled_column cols prompt cut
    → cursor_place cols scene ≡ settled_place cols prompt cut

-- and no other column leads there
abbrev pub NoOtherColumn : Type 0
NoOtherColumn = (cols : ℕ) (prompt : List ℕ) (cut : Cut) → is_settled cols prompt cut ≡ true
    → (column : ℕ) → place_at cols (line_start cols prompt) column ≡ settled_place cols prompt cut
    → column ≡ settled_column cols prompt cut

-- a piece that does not go back, and is no wider than the screen
abbrev pub goes_on : ℕ → Piece → Bool
goes_on cols Cr = false
goes_on cols Lf = true
goes_on cols CrLf = true
goes_on cols (Wide width) = leb width cols

-- after such pieces, all measured, some column leads there where the prompt ends within the screen
abbrev pub SomeColumn : Type 0
SomeColumn = (cols : ℕ) (prompt : List ℕ) (cut : Cut) → is_measured cols prompt (take cut.cursor cut.line) ≡ true
    → leb (line_start cols prompt).x cols ≡ true
    → list_all (goes_on cols) (settled_pieces (take cut.cursor cut.line)) ≡ true
    → is_settled cols prompt cut ≡ true

-- in a printable line it is the plain column, whatever the screen and the prompt are said to be
abbrev pub PrintableIsPlain : Type 0
PrintableIsPlain = (cols : ℕ) (prompt : List ℕ) (cut : Cut) → list_all is_printable cut.line ≡ true
    → settled_column cols prompt cut ≡ column_width (take cut.cursor cut.line)

-- where no cluster is parted, as where one character of each takes all its columns, the text leads where the editor
-- measures it
abbrev pub WholeIsMeasured : Type 0
WholeIsMeasured = (cols : ℕ) (prompt before : List ℕ)
    → list_all (λ cluster. not (is_parted cluster)) (graphemes true before) ≡ true
    → place_after_text cols before (line_start cols prompt) ≡ place_after_all cols (Text prompt ∷ Text before ∷ []) origin
