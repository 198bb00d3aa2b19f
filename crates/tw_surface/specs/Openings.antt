-- What the first cluster of a text begins with, where no rule looks further back than to its last character.
use Rattle.std.specs.Prelude.{ℕ, ◌≡◌, ◌≤◌, ◌+◌, ◌⊎◌, true, false, List, [], ◌∷◌, ◌++◌, get_or, map, encode_utf8, encode_utf8_all}
use Rattle.std.specs.Str.{chars}
use Rattle.ucd_breaks.specs.GraphemeClusterBreak.{grapheme_cluster_break}
use Rattle.ucd_derived.specs.IndicConjunctBreak.{indic_conjunct_break}
use Rattle.unicode_segmentation.specs.Grapheme.{ends_in_linker, ends_in_pictograph, is_grapheme_break}
use Rattle.unicode_width.specs.Width.{str_width}
use Rattle.tw_surface.specs.Clusters.{is_joined, is_picture, is_plain_extend, starts_apart}

-- behind these characters, nearest first, what joins whatever stands before it goes on, and all else begins anew
pub record IsPlainEnd (before : List ℕ) : Type 0 where
  pub joins : (next : ℕ) (after : List ℕ) → is_joined (grapheme_cluster_break next) ≡ true → is_grapheme_break true before (next ∷ after) ≡ false
  pub breaks : (next : ℕ) (after : List ℕ) → is_joined (grapheme_cluster_break next) ≡ false → is_grapheme_break true before (next ∷ after) ≡ true
  pub no_linker : ends_in_linker (map indic_conjunct_break before) ≡ false

-- these characters, behind those, are of one cluster, and settled
abbrev pub IsOpen : List ℕ → List ℕ → Type 0
IsOpen before [] = ⊥
IsOpen before (c ∷ []) = IsPlainEnd (c ∷ before)
IsOpen before (c ∷ d ∷ cs) =
    ((after : List ℕ) → is_grapheme_break true (c ∷ before) (d ∷ after) ≡ false) × IsOpen (c ∷ before) (d ∷ cs)

-- a text begins with such characters
abbrev pub BeginsOpen : List ℕ → List ℕ → Type 0
BeginsOpen text rest = (cs : List ℕ) × (text ≡ encode_utf8_all cs ++ rest) × IsOpen [] cs

-- a text begins with a pictograph
abbrev pub IsPastPictograph : List ℕ → List ℕ → Type 0
IsPastPictograph text rest = (c : ℕ) × (text ≡ encode_utf8 c ++ rest) × (is_picture c ≡ true)

-- a text begins with what goes on a cluster that ends in a pictograph and its marks: a mark, or a joiner and a
-- pictograph
abbrev pub GoesOn : List ℕ → List ℕ → Type 0
GoesOn text rest =
    ((c : ℕ) × (text ≡ encode_utf8 c ++ rest) × (is_plain_extend c ≡ true))
    ⊎ ((c : ℕ) × (text ≡ encode_utf8_all (0x200D ∷ c ∷ []) ++ rest) × (is_picture c ≡ true))

-- some characters behind others, nearest first
abbrev pub nearest : List ℕ → List ℕ → List ℕ
nearest before [] = before
nearest before (c ∷ cs) = nearest (c ∷ before) cs

-- a text begins with characters of one cluster that end in a pictograph and its marks
abbrev pub ArePictures : List ℕ → List ℕ → Type 0
ArePictures text rest = (cs : List ℕ) × (text ≡ encode_utf8_all cs ++ rest) × IsOpen [] cs × (ends_in_pictograph (nearest [] cs) ≡ true)

-- these characters are of one cluster, and settled; they take these columns, and the first is no control character
pub record IsFront (cs : List ℕ) (columns : ℕ) : Type 0 where
  pub opened : IsOpen [] cs
  pub high : 32 ≤ get_or cs 0 0
  pub few : columns ≤ 2
  pub width : str_width false cs ≡ columns

-- these characters join whatever stands before them, and add these columns to it
pub record AddsColumns (cs : List ℕ) (columns : ℕ) : Type 0 where
  pub joins : (front : List ℕ) → IsOpen [] front → IsOpen [] (front ++ cs)
  pub adds : (front : List ℕ) → str_width false (front ++ cs) ≡ str_width false front + columns

-- characters of these columns stand before a text that begins with such ones: the columns of both, and what follows
abbrev pub IsPastAdded : ℕ → List ℕ → ℕ → List ℕ → Type 0
IsPastAdded columns behind sum rest =
    (cs : List ℕ) × (more : ℕ) × (behind ≡ encode_utf8_all cs ++ rest) × AddsColumns cs more × (sum ≡ columns + more) × (sum ≤ 2)

-- and nothing else joins them
abbrev pub IsWithAdded : ℕ → List ℕ → ℕ → List ℕ → Type 0
IsWithAdded columns behind sum rest = IsPastAdded columns behind sum rest × (starts_apart (chars rest) ≡ true)
