-- How a menu lies under the line: candidates in columns, one of them marked.
use Rattle.std.specs.Prelude.{ℕ, zero, suc, ◌+◌, ◌-◌, ◌*◌, ◌/◌, ◌%◌, ◌==◌, Bool, true, List, [], ◌∷◌, ◌++◌, length, get_or, map, codes, max, min, replicate, if◌then◌else◌}
use Rattle.std.specs.Fmt.{decimal}
use Rattle.std.specs.List.{fold}
use Rattle.tw_surface.specs.Defaults.{default_attributes}
use Rattle.tw_surface.specs.Width.{column_width}
use Rattle.tw_line.specs.Cut.{Cut}
use Rattle.tw_input.specs.EventView.{EventView, Key, Resized, Paste, Wake}
use Rattle.tw_host.specs.CandidateView.{CandidateView}
use Rattle.tw_host.specs.ElementView.{ElementView, Text}
use Rattle.tw_hosts.specs.Tokens.{styled_text}
use Rattle.tw_prompt_host.specs.declared.layout.MenuStyle.{MenuStyle}

-- the candidates of a completion, which of them stands in the line, and the line before it
pub record Shown : Type 0 where
  pub candidates : List CandidateView
  pub chosen : ℕ
  pub line : Cut

-- the chosen one stands in reverse
abbrev pub reverse_style : ℕ → ℕ → MenuStyle
reverse_style cols rows = record { cols = cols; rows = rows; chosen = record default_attributes { reverse = true } }

-- the screen has the columns that an event tells
abbrev pub style_after : EventView → MenuStyle → MenuStyle
style_after (Resized cols rows) style = record style { cols = cols }
style_after (Key key) style = style
style_after (Paste text) style = style
style_after Wake style = style

-- the columns of the widest of some texts
abbrev pub widest : List (List ℕ) → ℕ
widest texts = fold (λ width text. max width (column_width text)) 0 texts

-- how many stand in a row: as many as fit on the screen with two spaces after each, and one at least
abbrev pub row_len : ℕ → ℕ → ℕ
row_len cols width = max (cols / (width + 2)) 1

-- how many are shown at once: as many as stand in the rows, of which there is one at least, or all
abbrev pub page_len : ℕ → ℕ → ℕ → ℕ
page_len in_row rows count = min (in_row * max rows 1) count

-- the texts of candidates
abbrev pub menu_texts : List CandidateView → List (List ℕ)
menu_texts candidates = map (λ candidate. candidate.text) candidates

-- how many of some candidates stand in a row: no more than there are
abbrev pub menu_row : MenuStyle → List CandidateView → ℕ
menu_row style candidates = min (row_len style.cols (widest (menu_texts candidates))) (length candidates)

-- how many of some candidates stand on a page
abbrev pub menu_page_len : MenuStyle → List CandidateView → ℕ
menu_page_len style candidates = page_len (row_len style.cols (widest (menu_texts candidates))) style.rows (length candidates)

-- a text, filled up with spaces to `width` columns
abbrev pub filled_cell : ℕ → List ℕ → List ℕ
filled_cell width text = text ++ replicate (width - column_width text) 32

-- what stands before a cell: nothing before the first one, a line break where a row begins, and else two spaces
abbrev pub gap : ℕ → ℕ → ℕ → List ℕ
gap in_row start at = if at == start then [] else if at % in_row == 0 then 13 ∷ 10 ∷ [] else codes "  "

-- a cell after what stands before it, in attributes of its own if it is the chosen one
abbrev pub menu_cell : MenuStyle → List ℕ → Bool → List ℕ → List ElementView
menu_cell style before is_chosen text = Text before ∷ (if is_chosen then styled_text style.chosen text else Text text ∷ [])

-- the cell of one of some texts on a page from one on, where one of them is chosen
abbrev pub page_cell : MenuStyle → List (List ℕ) → ℕ → ℕ → ℕ → List ElementView
page_cell style texts start chosen at =
    let width = widest texts in
    menu_cell style (gap (row_len style.cols width) start at) (at == chosen) (filled_cell width (get_or texts at []))

-- `count` cells, from `start` on
abbrev pub cells_from : (ℕ → List ElementView) → ℕ → ℕ → List ElementView
cells_from cell start zero = []
cells_from cell start (suc count) = cells_from cell start count ++ cell (start + count)

-- the row that says how many more there are, if there are any
abbrev pub more_row : ℕ → List ElementView
more_row zero = []
more_row (suc n) = Text (13 ∷ 10 ∷ codes ".. " ++ decimal (suc n) ++ codes " more") ∷ []

-- the page of the chosen one of some candidates, and how many it does not show
abbrev pub menu_page : MenuStyle → List CandidateView → ℕ → List ElementView
menu_page style candidates chosen =
    let texts = menu_texts candidates in
    let page = page_len (row_len style.cols (widest texts)) style.rows (length texts) in
    let start = chosen - chosen % page in
    let count = min page (length texts - start) in
    cells_from (page_cell style texts start chosen) start count ++ more_row (length texts - count)
