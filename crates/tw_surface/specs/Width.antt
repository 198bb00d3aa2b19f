-- The columns that a text takes.
use Rattle.std.specs.Prelude.{ℕ, true, false, if◌then◌else◌, List, length, chars, unwrap_or}
use Rattle.std.specs.List.{list_all, sum_by}
use Rattle.unicode_segmentation.specs.Grapheme.{graphemes}
use Rattle.unicode_width.specs.Width.{char_width, str_width}
use Rattle.tw_surface.specs.Characters.{is_printable}

-- the columns of a character by itself: none for a control character
abbrev pub char_columns : ℕ → ℕ
char_columns c = unwrap_or (char_width false c) 0

-- the columns of a grapheme cluster
abbrev pub cluster_width : List ℕ → ℕ
cluster_width cluster = str_width false (chars cluster)

-- the columns of a text: its characters where all are printable ASCII, else the widths of its extended grapheme
-- clusters
unfoldable pub column_width : List ℕ → ℕ
column_width text = if list_all is_printable text then length text else sum_by cluster_width (graphemes true text)
