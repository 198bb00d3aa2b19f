-- The changes that make one picture of another.
use Rattle.std.specs.Prelude.{ℕ, zero, suc, pos, ◌+◌, ◌-◌, ◌*◌, ◌/◌, ◌%◌, ◌-ℤ◌, ◌&&◌, Bool, eqb, leb, ltb, max, is_none, if◌then◌else◌, Option, Some, None, [], ◌∷◌, ◌++◌}
use Rattle.tw_surface.specs.declared.cell.CellAttributes.{CellAttributes}
use Rattle.tw_surface.specs.declared.change.Position.TheVariants.{Absolute, Relative}
use Rattle.tw_surface.specs.contracts.cell.CellAttributesPartialEq.TheImpl.{ghosts as attributes}
use Rattle.tw_surface.specs.ChangeView.{Batch}
use Rattle.tw_surface.specs.ChangeView.{AllAttributes, Text, ClearToEndOfScreen, CursorPosition}
use Rattle.tw_surface.specs.Characters.{lf}
use Rattle.tw_surface.specs.Defaults.{default_color}
use Rattle.laws_screens.specs.Strokes.{cleared_in}
use Rattle.laws_screens.specs.StyledCells.{StyledCell}
use Rattle.tw_sparing.specs.declared.hand.Hand.{Hand}
use Rattle.tw_sparing.specs.SingleCharacters.{number_bytes}
use Rattle.tw_line.specs.Extremes.{least_from, greatest_below}
use Rattle.tw_sparing.specs.Differences.{is_same_cell, differ_in, first_changed, last_changed, blank_cell, end_of}

-- changes, and where they leave the hand
pub record Redrawing : Type 0 where
  pub changes : Batch
  pub hand : Hand

-- no change
abbrev pub at_ease : Hand → Redrawing
at_ease hand = record { changes = []; hand = hand }

-- some changes, and then others
abbrev pub redraw_then : Redrawing → (Hand → Redrawing) → Redrawing
redraw_then first more = record { changes = first.changes ++ (more first.hand).changes; hand = (more first.hand).hand }

-- the cursor goes to a row that is on the terminal, and a column, unless it stands there
abbrev pub led_to : ℕ → ℕ → Hand → Redrawing
led_to row col hand =
    if eqb hand.row row && eqb hand.col col then at_ease hand
    else record { changes = CursorPosition (Absolute col) (Relative (pos row -ℤ pos hand.row)) ∷ []; hand = record hand { row = row; col = col } }

-- attributes are selected, unless they are
abbrev pub under : CellAttributes → Hand → Redrawing
under to hand = if attributes.eq hand.attributes to then at_ease hand else record { changes = AllAttributes to ∷ []; hand = record hand { attributes = to } }

-- the index of a hand, counted along the rows
abbrev pub hand_index : ℕ → Hand → ℕ
hand_index w hand = hand.row * w + hand.col

-- the cell of an index
abbrev pub indexed : ℕ → (ℕ → ℕ → StyledCell) → ℕ → StyledCell
indexed w cells k = cells (k / w) (k % w)

-- a character is typed in the cell of an index: from after the last column a terminal goes to the next row by itself
abbrev pub typed_in_cell : ℕ → ℕ → ℕ → Hand → Redrawing
typed_in_cell w k ch hand = record { changes = Text (number_bytes ch) ∷ []; hand = record hand { row = k / w; col = k % w + 1 } }

-- the cell of an index, which the cursor stands before
abbrev pub cell_redrawn : ℕ → (ℕ → ℕ → StyledCell) → ℕ → Hand → Redrawing
cell_redrawn w cells k hand = redraw_then (under (indexed w cells k).attributes hand) (typed_in_cell w k (indexed w cells k).ch)

-- so many cells, from an index on, one after the other
abbrev pub cells_redrawn : ℕ → (ℕ → ℕ → StyledCell) → ℕ → ℕ → Hand → Redrawing
cells_redrawn w cells k zero hand = at_ease hand
cells_redrawn w cells k (suc count) hand = redraw_then (cell_redrawn w cells k hand) (cells_redrawn w cells (suc k) count)

-- the cells of row r from the first one to the last one that differ
abbrev pub span_redrawn : ℕ → ℕ → (ℕ → ℕ → StyledCell) → Option ℕ → Option ℕ → Hand → Redrawing
span_redrawn w r cells None last hand = at_ease hand
span_redrawn w r cells (Some first) None hand = at_ease hand
span_redrawn w r cells (Some first) (Some last) hand = redraw_then (led_to r first hand) (cells_redrawn w cells (r * w + first) (last + 1 - first))

abbrev pub row_redrawn : ℕ → (ℕ → ℕ → StyledCell) → (ℕ → ℕ → StyledCell) → ℕ → Hand → Redrawing
row_redrawn w old new r hand = span_redrawn w r new (first_changed w (old r) (new r)) (last_changed w (old r) (new r)) hand

-- so many rows, from row r on
abbrev pub rows_redrawn : ℕ → (ℕ → ℕ → StyledCell) → (ℕ → ℕ → StyledCell) → ℕ → ℕ → Hand → Redrawing
rows_redrawn w old new r zero hand = at_ease hand
rows_redrawn w old new r (suc count) hand = redraw_then (row_redrawn w old new r hand) (rows_redrawn w old new (suc r) count)

-- all is blank from the cursor on
abbrev pub emptied_here : Hand → Redrawing
emptied_here hand = record { changes = ClearToEndOfScreen default_color ∷ []; hand = hand }

-- all is blank from an index on, counted along the rows
abbrev pub emptied : ℕ → ℕ → Hand → Redrawing
emptied w from hand = redraw_then (led_to (from / w) (from % w) hand) emptied_here

-- where the old cells go on after the end of the new ones, the rest begins there
abbrev pub rest_of : ℕ → ℕ → (ℕ → ℕ → StyledCell) → (ℕ → ℕ → StyledCell) → Option ℕ
rest_of w rows old new = if ltb (end_of w rows new) (end_of w rows old) then Some (end_of w rows new) else None

-- the rest is emptied, where there is one
abbrev pub rest_emptied : ℕ → Option ℕ → Hand → Redrawing
rest_emptied w None hand = at_ease hand
rest_emptied w (Some from) hand = emptied w from hand

-- what is left of the cells then
abbrev pub left_of : ℕ → Option ℕ → (ℕ → ℕ → StyledCell) → ℕ → ℕ → StyledCell
left_of w None old = old
left_of w (Some from) old = cleared_in old (from / w) (from % w) blank_cell

-- a line feed
abbrev pub fed_once : Hand → Redrawing
fed_once hand = record { changes = Text (lf ∷ []) ∷ []; hand = record hand { row = hand.row + 1 } }

-- so many of them
abbrev pub fed : ℕ → Hand → Redrawing
fed zero hand = at_ease hand
fed (suc n) hand = redraw_then (fed_once hand) (fed n)

-- the last row that is known to be on the terminal, which has reached some rows
abbrev pub lowest_reached : ℕ → Hand → ℕ
lowest_reached reached hand = max (reached - 1) hand.row

-- the cursor goes to a row and a column: to a row that is not on the terminal yet by line feeds from the last one that
-- is
abbrev pub sunk_to : ℕ → ℕ → ℕ → Hand → Redrawing
sunk_to reached row col hand =
    if leb row (lowest_reached reached hand) then led_to row col hand
    else redraw_then (led_to (lowest_reached reached hand) 0 hand) (λ low. redraw_then (fed (row - lowest_reached reached hand) low) (led_to row col))

-- the cursor goes down to the last row, so that it comes into sight, where that row was not reached before
abbrev pub lowered : ℕ → ℕ → Hand → Redrawing
lowered reached rows hand = if leb rows reached then at_ease hand else sunk_to reached (rows - 1) 0 hand

-- the cursor and the attributes become those of a hand
abbrev pub handed_to : ℕ → Hand → Hand → Redrawing
handed_to reached to hand = redraw_then (sunk_to reached to.row to.col hand) (under to.attributes)

-- Some rows are drawn: the last of them comes into sight, the rest is emptied, the rows that differ are typed, and then
-- the cursor and the attributes are led to.
abbrev pub rows_drawn_on : ℕ → ℕ → ℕ → (ℕ → ℕ → StyledCell) → (ℕ → ℕ → StyledCell) → Hand → Hand → Redrawing
rows_drawn_on w reached rows old new to hand =
    redraw_then (lowered reached rows hand) (λ low.
    redraw_then (rest_emptied w (rest_of w rows old new) low) (λ emptied.
    redraw_then (rows_redrawn w (left_of w (rest_of w rows old new) old) new 0 rows emptied) (handed_to (max reached rows) to)))

-- ---- what goes on at the cursor

-- a row ends in a blank
abbrev pub ends_blank : ℕ → (ℕ → ℕ → StyledCell) → ℕ → Bool
ends_blank w cells r = is_same_cell (cells r (w - 1)) blank_cell

-- All that differs comes where the cursor stands or after it, where the old screen shows nothing, in rows that are full
-- but for the last one; and below these no row is new but that of the new cursor.
abbrev pub goes_onward : ℕ → ℕ → ℕ → (ℕ → ℕ → StyledCell) → (ℕ → ℕ → StyledCell) → Hand → Hand → Bool
goes_onward w reached rows old new to hand =
    leb rows (max reached (to.row + 1)) && leb (end_of w rows old) (hand_index w hand)
    && is_none (greatest_below (differ_in (indexed w old) (indexed w new)) (hand_index w hand))
    && is_none (least_from (ends_blank w new) hand.row (end_of w rows new / w - hand.row))

-- then the new cells are typed from there to their end, and the cursor and the attributes are led to
abbrev pub gone_onward : ℕ → ℕ → ℕ → (ℕ → ℕ → StyledCell) → Hand → Hand → Redrawing
gone_onward w reached rows new to hand = redraw_then (cells_redrawn w new (hand_index w hand) (end_of w rows new - hand_index w hand) hand) (handed_to reached to)

-- all that makes one screen of another
abbrev pub redrawn : ℕ → ℕ → ℕ → (ℕ → ℕ → StyledCell) → (ℕ → ℕ → StyledCell) → Hand → Hand → Redrawing
redrawn w reached rows old new to hand =
    if goes_onward w reached rows old new to hand then gone_onward w reached rows new to hand
    else rows_drawn_on w reached rows old new to hand
