-- How little is sent.
use Rattle.std.specs.Prelude.{◌≡◌, ◌≤◌, ◌<◌, ◌+◌, ◌-◌, ℕ, zero, suc, true, false, List, [], ◌++◌}
use Rattle.laws_screens.specs.StyledCells.{StyledCell}
use Rattle.tw_ansi.specs.declared.encode.Encoder.{Encoder}
use Rattle.tw_ansi.specs.Encoding.{terse_batch}
use Rattle.tw_sparing.specs.declared.hand.Hand.{Hand}
use Rattle.tw_sparing.specs.Differences.{end_of}
use Rattle.tw_sparing.specs.SingleCharacters.{IsSingle, number_bytes}
use Rattle.tw_sparing.specs.Redrawings.{hand_index, indexed, cells_redrawn, goes_onward, redrawn}

-- where no cell differs, no row is new, and neither cursor nor attributes are others, nothing is sent
abbrev pub NothingIsSentForNothing : Type 0
NothingIsSentForNothing = (w reached rows : ℕ) (old new : ℕ → ℕ → StyledCell) (hand : Hand)
    → 0 < w → rows ≤ reached → ((i j : ℕ) → i < rows → j < w → old i j ≡ new i j)
    → (redrawn w reached rows old new hand hand).changes ≡ []

-- the bytes of the characters of n cells of a row, from a column on
abbrev pub characters_from : (ℕ → StyledCell) → ℕ → ℕ → List ℕ
characters_from line col zero = []
characters_from line col (suc n) = number_bytes (line col).ch ++ characters_from line (suc col) n

-- the n cells at the cursor differ, the first and the last of them at least, and no others; those of the new screen are
-- characters of one column under the attributes that are selected, it does not end before the old one, and its cursor
-- stands after them
pub record IsTypedAt (w rows n : ℕ) (old new : ℕ → ℕ → StyledCell) (hand to : Hand) : Type 0 where
  pub some : 0 < n
  pub row : hand.row < rows
  pub col : hand.col + n ≤ w
  pub others : (i j : ℕ) → i < rows → j < w → (i ≡ hand.row → hand.col ≤ j → j < hand.col + n → ⊥) → old i j ≡ new i j
  pub first : old hand.row hand.col ≡ new hand.row hand.col → ⊥
  pub last : old hand.row (hand.col + n - 1) ≡ new hand.row (hand.col + n - 1) → ⊥
  pub typed : (j : ℕ) → hand.col ≤ j → j < hand.col + n → (new hand.row j).attributes ≡ hand.attributes
  pub single : (j : ℕ) → hand.col ≤ j → j < hand.col + n → IsSingle (new hand.row j).ch
  pub onward : end_of w rows old ≤ end_of w rows new
  pub behind : to ≡ record hand { col = hand.col + n }

-- then these characters are all that is sent
abbrev pub TypedIsSentAlone : Type 0
TypedIsSentAlone = (w reached rows n : ℕ) (old new : ℕ → ℕ → StyledCell) (hand to : Hand) (e : Encoder)
    → rows ≤ reached → IsTypedAt w rows n old new hand to → e.cols ≡ w → e.x ≡ hand.col
    → (terse_batch (redrawn w reached rows old new to hand).changes e).bytes ≡ characters_from (new hand.row) hand.col n

-- the bytes of the characters of n cells from an index on, counted along the rows
abbrev pub characters_by_index : ℕ → (ℕ → ℕ → StyledCell) → ℕ → ℕ → List ℕ
characters_by_index w cells k zero = []
characters_by_index w cells k (suc n) = number_bytes (indexed w cells k).ch ++ characters_by_index w cells (suc k) n

-- the new screen goes on at the cursor by n characters of one column under the attributes that are selected, whatever rows
-- that takes, and its cursor stands after them
pub record IsTypedOn (w reached rows n : ℕ) (old new : ℕ → ℕ → StyledCell) (hand to : Hand) : Type 0 where
  pub goes : goes_onward w reached rows old new to hand ≡ true
  pub end : end_of w rows new ≡ hand_index w hand + n
  pub typed : (k : ℕ) → hand_index w hand ≤ k → k < hand_index w hand + n → (indexed w new k).attributes ≡ hand.attributes
  pub single : (k : ℕ) → hand_index w hand ≤ k → k < hand_index w hand + n → IsSingle (indexed w new k).ch
  pub behind : to ≡ (cells_redrawn w new (hand_index w hand) n hand).hand

-- then these characters are all that is sent
abbrev pub TypedOnIsSentAlone : Type 0
TypedOnIsSentAlone = (w reached rows n : ℕ) (old new : ℕ → ℕ → StyledCell) (hand to : Hand) (e : Encoder)
    → IsTypedOn w reached rows n old new hand to → e.parted ≡ false
    → (terse_batch (redrawn w reached rows old new to hand).changes e).bytes ≡ characters_by_index w new (hand_index w hand) n
