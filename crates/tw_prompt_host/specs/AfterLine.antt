-- What stands after the line, in the row of its end.
use Rattle.std.specs.Prelude.{ℕ, ◌+◌, ◌-◌, ◌%◌, ◌==◌, Bool, true, not, ◌&&◌, leb, List, [], ◌∷◌, ◌++◌, length, chars, encode_utf8, if◌then◌else◌, Option, Some, None}
use Rattle.std.specs.Char.{is_control}
use Rattle.std.specs.List.{list_all, list_any}
use Rattle.std.specs.Option.{option_map_or}
use Rattle.unicode_segmentation.specs.Grapheme.{graphemes}
use Rattle.tw_surface.specs.Places.{is_in_range, origin, pieces, places_after}
use Rattle.tw_surface.specs.Width.{cluster_width}
use Rattle.tw_surface.specs.declared.cell.CellAttributes.{CellAttributes}
use Rattle.tw_line.specs.Cut.{at_end}
use Rattle.tw_host.specs.ElementView.{ElementView}
use Rattle.tw_hosts.specs.Settling.{line_start, settled_column, PromptScreenView}
use Rattle.tw_hosts.specs.Tokens.{styled_text}
use Rattle.tw_prompt_host.specs.Rows.{last_shown}

-- whether a control character stands in a text
abbrev pub has_control : List ℕ → Bool
has_control text = list_any is_control (chars text)

-- the column in which a prompt ends on a screen, if it is known
abbrev pub prompt_column : ℕ → List ℕ → Option ℕ
prompt_column cols prompt =
    if (leb 1 cols && leb cols 65535) && list_all is_in_range (places_after cols (pieces prompt) origin) then Some (line_start cols prompt).x else None

-- the columns of a row after the cell in which the editor shows the cursor at its end, but for the last one, which
-- stays empty; there are none after a row with a control character
abbrev pub room_after : ℕ → List ℕ → List ℕ → ℕ
room_after cols before row =
    let room : ℕ → ℕ = λ start. if has_control row then 0 else cols - 1 - (start + settled_column cols before (at_end row)) % cols in
    option_map_or room (prompt_column cols before) 0

-- as many clusters, from the first one on, as fit into the columns, up to a control character
abbrev pub fitting_clusters : ℕ → List (List ℕ) → List ℕ
fitting_clusters columns [] = []
fitting_clusters columns (cluster ∷ more) =
    if leb (cluster_width cluster) columns && not (has_control cluster) then cluster ++ fitting_clusters (columns - cluster_width cluster) more else []

-- a text where all of it fits, and else what fits of it before …, if that does
abbrev pub shortened_to : ℕ → List ℕ → List ℕ
shortened_to columns text =
    let clusters = graphemes true text in
    if length (fitting_clusters columns clusters) == length text then fitting_clusters columns clusters
    else if columns == 0 then [] else fitting_clusters (columns - 1) clusters ++ encode_utf8 8230

-- a text in a style, and no element for the empty one
abbrev pub styled_if_some : CellAttributes → List ℕ → List ElementView
styled_if_some style [] = []
styled_if_some style (byte ∷ bytes) = styled_text style (byte ∷ bytes)

-- a text after a line on a screen, in the last row of the line
abbrev pub after_line_on : PromptScreenView → Option (List ℕ) → List ℕ → CellAttributes → List ℕ → List ElementView
after_line_on screen rows line style text =
    let (before, row) = last_shown screen rows line in
    styled_if_some style (shortened_to (room_after screen.cols before row) text)
