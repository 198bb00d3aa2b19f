-- What a change is sent as, by what is known of the terminal.
use Rattle.std.specs.Prelude.{◌≡◌, ℕ, pos, ◌+◌, ◌-◌, ◌&&◌, not, eqb, ltb, leb, min, true, false, if◌then◌else◌, List, [], ◌∷◌, ◌++◌, chars}
use Rattle.std.specs.List.{list_all, list_any}
use Rattle.std.specs.Cmp.Lexicographic.{pointwise}
use Rattle.std.specs.Char.{is_control}
use Rattle.unicode_segmentation.specs.Grapheme.{graphemes}
use Rattle.tw_surface.specs.declared.change.Position.{Position}
use Rattle.tw_surface.specs.declared.color.ColorAttribute.{ColorAttribute}
use Rattle.tw_surface.specs.ChangeView.{ChangeView, Batch}
use Rattle.tw_surface.specs.ChangeView.{Attribute, AllAttributes, Text, ClearScreen, ClearToEndOfScreen, CursorPosition}
use Rattle.tw_surface.specs.Characters.{is_plain, cr, lf}
use Rattle.tw_surface.specs.Attributes.{with_attribute}
use Rattle.tw_surface.specs.Defaults.{default_attributes}
use Rattle.tw_surface.specs.Positions.{position_after, at_least_0}
use Rattle.tw_surface.specs.Width.{cluster_width}
use Rattle.tw_ansi.specs.declared.encode.Encoder.{Encoder}
use Rattle.tw_ansi.specs.Sequences.{to_column, to_row, along_row, along_column, clear_below, clear_rows, clear_all, to_first_cell, set_attribute, set_attributes, clear_with, up_a_row}

-- the old bytes stay, and more follow them
abbrev pub ExtendsBytes : List ℕ → List ℕ → Type 0
ExtendsBytes old new = (more : List ℕ) × (new ≡ old ++ more)

-- the bytes that are sent, and what is known of the terminal then
pub record Sent : Type 0 where
  pub bytes : List ℕ
  pub next : Encoder

-- bytes, and nothing new is known
abbrev pub sends : List ℕ → Encoder → Sent
sends bytes e = record { bytes = bytes; next = e }

-- what is sent first, and what follows it
abbrev pub sent_then : Sent → (Encoder → Sent) → Sent
sent_then first more = record { bytes = first.bytes ++ (more first.next).bytes; next = (more first.next).next }

-- the cursor stands in this column, or waits there where it is the number of columns
abbrev pub at_column : ℕ → Encoder → Encoder
at_column x e = record e { x = x; parted = false }

-- the cursor stands in the last column, where the next character begins a row, and the terminal does not wait
abbrev pub parted_from_wait : Encoder → Encoder
parted_from_wait e = record e { parted = true }

-- no attribute is set
abbrev pub without_attributes : Encoder → Encoder
without_attributes e = record e { attributes = default_attributes }

-- the cursor stands in column 0, and no attribute is set
abbrev pub first_known : ℕ → Encoder
first_known cols = record { cols = cols; x = 0; parted = false; attributes = default_attributes }

-- CR
abbrev pub sent_return : Encoder → Sent
sent_return e = record { bytes = cr ∷ []; next = at_column 0 e }

-- LF: what a terminal that waits does there is not known, so the column is gone to again
abbrev pub sent_feed : Encoder → Sent
sent_feed e =
    if leb e.cols e.x && not e.parted then record { bytes = lf ∷ to_column (e.cols - 1); next = parted_from_wait e }
    else record { bytes = lf ∷ []; next = e }

-- CR and LF
abbrev pub sent_return_feed : Encoder → Sent
sent_return_feed e = record { bytes = cr ∷ lf ∷ []; next = at_column 0 e }

-- width columns begin in the row if they fit, and else in the next one, to which a waiting terminal goes by itself;
-- of none the encoder leaves what it knows
abbrev pub sent_beginning : Encoder → ℕ → Sent
sent_beginning e width =
    if eqb width 0 then sends [] e
    else if leb (e.x + width) e.cols then sends [] (at_column (e.x + width) e)
    else record { bytes = if e.parted then cr ∷ lf ∷ [] else []; next = at_column width e }

-- what is shown in so many columns
abbrev pub sent_columns : Encoder → ℕ → List ℕ → Sent
sent_columns e width shown = record { bytes = (sent_beginning e width).bytes ++ shown; next = (sent_beginning e width).next }

-- a character of a plain text
abbrev pub sent_byte : Encoder → ℕ → Sent
sent_byte e b =
    if eqb b cr then sent_return e
    else if eqb b lf then sent_feed e
    else sent_columns e 1 (b ∷ [])

-- a cluster is shown as it is, and one with a control character as '?'
abbrev pub shown_as : List ℕ → List ℕ
shown_as cluster = if list_any is_control (chars cluster) then 63 ∷ [] else cluster

-- a cluster of any other text
abbrev pub sent_cluster : Encoder → List ℕ → Sent
sent_cluster e cluster =
    if pointwise eqb cluster (cr ∷ []) then sent_return e
    else if pointwise eqb cluster (lf ∷ []) then sent_feed e
    else if pointwise eqb cluster (cr ∷ lf ∷ []) then sent_return_feed e
    else sent_columns e (cluster_width cluster) (shown_as cluster)

-- a plain text
abbrev pub sent_plain : List ℕ → Encoder → Sent
sent_plain [] e = sends [] e
sent_plain (b ∷ text) e = sent_then (sent_byte e b) (sent_plain text)

-- clusters
abbrev pub sent_clusters : List (List ℕ) → Encoder → Sent
sent_clusters [] e = sends [] e
sent_clusters (cluster ∷ more) e = sent_then (sent_cluster e cluster) (sent_clusters more)

-- a plain text is sent by its characters, every other text by its extended grapheme clusters
abbrev pub sent_text : List ℕ → Encoder → Sent
sent_text text e = if list_all is_plain text then sent_plain text e else sent_clusters (graphemes true text) e

-- clearing from the cursor on: from column 0 on by rows, and where the last column is written it is kept, by clearing
-- from the next row on
abbrev pub sent_clear : ColorAttribute → Encoder → Sent
sent_clear color e =
    let clear = clear_with clear_below color e.attributes.background in
    if leb e.cols e.x
    then record { bytes = (cr ∷ lf ∷ clear) ++ up_a_row ++ to_column (e.cols - 1); next = parted_from_wait e }
    else if eqb e.x 0 then sends (clear_with clear_rows color e.attributes.background) e
    else sends clear e

-- the column to which a position leads
abbrev pub column_of : Position → Encoder → ℕ
column_of x e = min (e.cols - 1) (at_least_0 (position_after x (pos e.x)))

-- a change
abbrev pub sent_change : ChangeView → Encoder → Sent
sent_change (Attribute change) e =
    record { bytes = set_attribute change; next = record e { attributes = with_attribute change e.attributes } }
sent_change (AllAttributes to) e = record { bytes = set_attributes to; next = record e { attributes = to } }
sent_change (Text text) e = sent_text text e
sent_change (ClearScreen color) e =
    record { bytes = to_first_cell ++ clear_with clear_all color e.attributes.background; next = at_column 0 e }
sent_change (ClearToEndOfScreen color) e = sent_clear color e
sent_change (CursorPosition x y) e =
    record { bytes = to_row y ++ to_column (column_of x e); next = at_column (column_of x e) e }

-- a batch
abbrev pub sent_batch : Batch → Encoder → Sent
sent_batch [] e = sends [] e
sent_batch (change ∷ changes) e = sent_then (sent_change change e) (sent_batch changes)

-- what leads to a row of the terminal and to a column by few bytes: steps from where the cursor stands, and where it
-- stands after the last column the way from the start of the row
abbrev pub terse_move : Position → Position → Encoder → List ℕ
terse_move x y e = along_column y ++ (if ltb e.x e.cols then along_row e.x (column_of x e) else to_column (column_of x e))

-- a change, and a move to a row of the terminal by few bytes
abbrev pub terse_change : ChangeView → Encoder → Sent
terse_change (CursorPosition x y) e = record { bytes = terse_move x y e; next = at_column (column_of x e) e }
terse_change change e = sent_change change e

-- a batch of such changes
abbrev pub terse_batch : Batch → Encoder → Sent
terse_batch [] e = sends [] e
terse_batch (change ∷ changes) e = sent_then (terse_change change e) (terse_batch changes)
