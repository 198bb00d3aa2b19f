-- What goes on at the cursor is sent alone.
use Rattle.std.proofs.Common.{◌≡◌, ◌<◌, ◌≤◌, ◌+◌, ◌-◌, ℕ, zero, suc, false, cond, List, [], ◌∷◌, ◌++◌, append-nil, ap, ◌∙◌, sym, refl, inl, inr, arith}
use Rattle.std.proofs.lemmas.Bool.{cases_lt, le-leb, lt-leb}
use Rattle.tw_surface.specs.ChangeView.{Batch, Text}
use Rattle.laws_screens.specs.StyledCells.{StyledCell}
use Rattle.tw_ansi.specs.declared.encode.Encoder.{Encoder}
use Rattle.tw_ansi.specs.Encoding.{Sent, sent_columns, terse_batch}
use Rattle.tw_sparing.specs.SingleCharacters.{IsSingle, number_bytes}
use Rattle.tw_sparing.specs.declared.hand.Hand.{Hand}
use Rattle.tw_sparing.specs.Differences.{end_of}
use Rattle.tw_sparing.specs.Redrawings.{Redrawing, redraw_then, hand_index, indexed, typed_in_cell, cells_redrawn, handed_to, gone_onward, rows_drawn_on}
use Rattle.tw_sparing.specs.ShortDifferences.{characters_by_index, TypedOnIsSentAlone}
use Rattle.tw_sparing.proofs.SingleCharacters.{number_typed}
use Rattle.tw_sparing.proofs.ShortChanges.{stays_under, stays_handed}

-- a terminal that waits goes to the next row by itself
next_columns : (e : Encoder) (bytes : List ℕ) → e.parted ≡ false → ((sent_columns e 1 bytes).bytes ≡ bytes) × ((sent_columns e 1 bytes).next.parted ≡ false)
next_columns e bytes whole = elim (cases_lt e.cols (e.x + 1)) [
  | inr fits ↦ rw (le-leb (e.x + 1) e.cols fits) (refl, refl)
  | inl past ↦ rw (lt-leb (e.x + 1) e.cols past, whole) (refl, refl)
]

-- the texts of the characters of n cells from an index on, one by one
abbrev texts_by_index : ℕ → (ℕ → ℕ → StyledCell) → ℕ → ℕ → Batch
texts_by_index w cells k zero = []
texts_by_index w cells k (suc n) = Text (number_bytes (indexed w cells k).ch) ∷ texts_by_index w cells (suc k) n

onward_bytes : (w k n : ℕ) (cells : ℕ → ℕ → StyledCell) (e : Encoder) → e.parted ≡ false
    → ((m : ℕ) → k ≤ m → m < k + n → IsSingle (indexed w cells m).ch)
    → (terse_batch (texts_by_index w cells k n) e).bytes ≡ characters_by_index w cells k n
onward_bytes w k zero cells e whole single = refl
onward_bytes w k (suc n) cells e whole single =
    let bytes : List ℕ = number_bytes (indexed w cells k).ch in
    let more : Batch = texts_by_index w cells (suc k) n in
    let next = next_columns e (number_bytes (indexed w cells k).ch) whole in
    let sent : Sent = sent_columns e 1 (number_bytes (indexed w cells k).ch) in
    ap (λ (x : Sent). x.bytes ++ (terse_batch more x.next).bytes) ((number_typed (indexed w cells k).ch (single k (omega arith) (omega arith))).typed e)
    ∙ ap (λ l. l ++ (terse_batch more sent.next).bytes) next.0
    ∙ ap (λ l. bytes ++ l) (onward_bytes w (suc k) n cells sent.next next.1 (λ m from to. single m (omega (arith, from)) (omega (arith, to))))

-- the changes of cells under the attributes that are selected
cells_are : (w k n : ℕ) (cells : ℕ → ℕ → StyledCell) (hand : Hand) → ((m : ℕ) → k ≤ m → m < k + n → (indexed w cells m).attributes ≡ hand.attributes)
    → (cells_redrawn w cells k n hand).changes ≡ texts_by_index w cells k n
cells_are w k zero cells hand same = refl
cells_are w k (suc n) cells hand same =
    let x : StyledCell = indexed w cells k in
    let more : Hand → Redrawing = cells_redrawn w cells (suc k) n in
    ap (λ d. (redraw_then (redraw_then d (typed_in_cell w k x.ch)) more).changes) (stays_under x.attributes hand (sym (same k (omega arith) (omega arith))))
    ∙ ap (λ changes. Text (number_bytes x.ch) ∷ changes) (cells_are w (suc k) n cells (typed_in_cell w k x.ch hand).hand (λ m from to. same m (omega (arith, from)) (omega (arith, to))))

pub typed_on_is_sent_alone : TypedOnIsSentAlone
typed_on_is_sent_alone w reached rows n old new hand to e t whole =
    let k : ℕ = hand_index w hand in
    let cells : Redrawing = cells_redrawn w new (hand_index w hand) n hand in
    let last : Hand → Redrawing = handed_to reached to in
    let count : end_of w rows new - k ≡ n = omega (arith, t.end) in
    ap (λ b. (terse_batch (cond b (gone_onward w reached rows new to hand) (rows_drawn_on w reached rows old new to hand)).changes e).bytes) t.goes
    ∙ ap (λ m. (terse_batch (redraw_then (cells_redrawn w new (hand_index w hand) m hand) last).changes e).bytes) count
    ∙ ap (λ changes. (terse_batch changes e).bytes)
    (ap (λ changes. cells.changes ++ changes) (stays_handed reached to cells.hand (sym t.behind)) ∙ append-nil cells.changes ∙ cells_are w (hand_index w hand) n new hand t.typed)
    ∙ onward_bytes w (hand_index w hand) n new e whole t.single
