-- Three kinds of cells: a cluster, a cluster as a number, and one as a number under its attributes.
use Rattle.std.specs.Prelude.{ℕ, ◌+◌, ◌*◌, List, [], ◌∷◌, ◌++◌}
use Rattle.tw_surface.specs.declared.cell.CellAttributes.{CellAttributes}
use Rattle.tw_surface.specs.Attributes.{with_attribute}
use Rattle.tw_surface.specs.Defaults.{default_attributes}
use Rattle.tw_surface.specs.Pictures.{blank}
use Rattle.laws_screens.specs.Pens.{Pen}

-- clusters: a cell has the bytes of the cluster that begins in it, a further cell of one has none, and nothing is
-- kept of attributes
abbrev pub clusters : Pen (Unit {0}) (List ℕ)
clusters = record { attributes = λ x. tt; attribute = λ x a. tt; ink = λ a cluster. cluster; rest = λ a. []; paper = λ color. blank ∷ []; join = λ cell mark. cell ++ mark }

-- bytes as the digits of one number, after those of a number
abbrev pub number_from : ℕ → List ℕ → ℕ
number_from n [] = n
number_from n (b ∷ bytes) = number_from (n * 256 + b) bytes

-- the bytes of a cluster as one number, which is the byte if there is one
abbrev pub cluster_number : List ℕ → ℕ
cluster_number [] = 0
cluster_number (b ∷ bytes) = number_from b bytes

-- clusters as numbers, and 0 in a further cell of one
abbrev pub characters : Pen (Unit {0}) ℕ
characters = record { attributes = λ x. tt; attribute = λ x a. tt; ink = λ a cluster. cluster_number cluster; rest = λ a. 0; paper = λ color. blank; join = number_from }

-- a cluster as a number, and the attributes under which it is shown
pub record StyledCell : Type 0 where
  pub ch : ℕ
  pub attributes : CellAttributes

-- clusters under their attributes: a clearing leaves blanks with its colour as background, and default attributes else
abbrev pub styled : Pen CellAttributes StyledCell
styled = record {
  attributes = λ x. x;
  attribute = with_attribute;
  ink = λ a cluster. record { ch = cluster_number cluster; attributes = a };
  rest = λ a. record { ch = 0; attributes = a };
  paper = λ color. record { ch = blank; attributes = record default_attributes { background = color } };
  join = λ cell mark. record cell { ch = number_from cell.ch mark };
}
