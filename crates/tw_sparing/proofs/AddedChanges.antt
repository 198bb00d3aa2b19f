-- What is sent for redrawings that follow one another.
use Rattle.std.proofs.Common.{◌≡◌, ◌+◌, ◌-◌, ◌*◌, ◌/◌, ◌%◌, ℕ, zero, suc, max, Bool, leb, ltb, Option, Some, None, Result, Ok, Err, OnErr, true, false, cond, List, [], ◌∷◌, ◌++◌, append_assoc, append-nil, ap, subst, ◌∙◌, sym, refl, arith, ◌&&◌, ◌<◌, ◌≤◌}
use Rattle.std.proofs.lemmas.Bool.{le-leb, lt-leb}
use Rattle.std.proofs.lemmas.Str.{encode_ascii}
use Rattle.std.proofs.Math.Nat.{div-lt_iff_lt-mul, mod-lt}
use Rattle.std.specs.Prelude.{encode_utf8}
use Rattle.unicode_segmentation.specs.Grapheme.{graphemes}
use Rattle.tw_surface.specs.Characters.{is_plain}
use Rattle.tw_surface.specs.ChangeView.{Batch, Text}
use Rattle.tw_ansi.specs.declared.encode.Encoder.{Encoder}
use Rattle.tw_ansi.specs.Encoding.{Sent, sent_byte, terse_batch, sent_plain, sent_clusters, ExtendsBytes}
use Rattle.tw_sparing.specs.SingleCharacters.{IsSingle, number_bytes}
use Rattle.tw_sparing.specs.declared.hand.Hand.{Hand}
use Rattle.tw_sparing.specs.declared.redrawer.Redrawer.{Redrawer}
use Rattle.laws_screens.specs.StyledCells.{StyledCell}
use Rattle.tw_sparing.specs.Redrawings.{Redrawing, at_ease, redraw_then, span_redrawn, row_redrawn, rows_redrawn, rest_of, rest_emptied, left_of, led_to, fed_once, fed, lowest_reached, sunk_to, lowered, handed_to, rows_drawn_on, under, hand_index, indexed, typed_in_cell, cell_redrawn, cells_redrawn, goes_onward, gone_onward, redrawn}
use Rattle.tw_sparing.specs.Differences.{end_of}
use Rattle.tw_sparing.specs.Sending.{IsAdded}
use Rattle.tw_sparing.proofs.SentBatches.{both_next, both_bytes}
use Rattle.tw_sparing.proofs.TypedCells.{inside_row}

-- one after the other
pub added_both : (d : Redrawing) (more : Hand → Redrawing) (a b c : Redrawer) (x y z : List ℕ) → IsAdded d a x b y → IsAdded (more b.hand) b y c z → IsAdded (redraw_then d more) a x c z
added_both d more a b c x y z first second =
    let then : IsAdded (more d.hand) b y c z = subst (λ hand. IsAdded (more hand) b y c z) first.hand second in
    let ys : Batch = (more d.hand).changes in
    let e : Encoder = (terse_batch d.changes a.encoder).next in
    record {
      bytes =
          then.bytes ∙ ap (λ bytes. bytes ++ (terse_batch ys b.encoder).bytes) first.bytes
          ∙ ap (λ n. (x ++ (terse_batch d.changes a.encoder).bytes) ++ (terse_batch ys n).bytes) first.next
          ∙ append_assoc x (terse_batch d.changes a.encoder).bytes (terse_batch ys e).bytes
          ∙ ap (λ bytes. x ++ bytes) (sym (both_bytes d.changes ys a.encoder));
      next = then.next ∙ ap (λ n. (terse_batch ys n).next) first.next ∙ sym (both_next d.changes ys a.encoder);
      hand = then.hand;
    }

pub added_none : (a : Redrawer) (x : List ℕ) → IsAdded (at_ease a.hand) a x a x
added_none a x = record { bytes = sym (append-nil x); next = refl; hand = refl }

-- what is left to be added ends where all of it does
pub record SameEnd (d : Redrawing) (now : Redrawer) (x : List ℕ) (all : Redrawing) (old : Redrawer) (before : List ℕ) : Type 0 where
  pub bytes : x ++ (terse_batch d.changes now.encoder).bytes ≡ before ++ (terse_batch all.changes old.encoder).bytes
  pub next : (terse_batch d.changes now.encoder).next ≡ (terse_batch all.changes old.encoder).next
  pub hand : d.hand ≡ all.hand

pub same_start : (d : Redrawing) (a : Redrawer) (x : List ℕ) → SameEnd d a x d a x
same_start d a x = record { bytes = refl; next = refl; hand = refl }

pub same_step : (d : Redrawing) (more : Hand → Redrawing) (a b old : Redrawer) (x y before : List ℕ) (all : Redrawing)
    → SameEnd (redraw_then d more) a x all old before → IsAdded d a x b y → SameEnd (more b.hand) b y all old before
same_step d more a b old x y before all same added =
    let ys : Batch = (more d.hand).changes in
    let e : Encoder = (terse_batch d.changes a.encoder).next in
    subst (λ hand. SameEnd (more hand) b y all old before) (sym added.hand) (record {
      bytes =
          ap (λ bytes. bytes ++ (terse_batch ys b.encoder).bytes) added.bytes
          ∙ ap (λ n. (x ++ (terse_batch d.changes a.encoder).bytes) ++ (terse_batch ys n).bytes) added.next
          ∙ append_assoc x (terse_batch d.changes a.encoder).bytes (terse_batch ys e).bytes
          ∙ ap (λ bytes. x ++ bytes) (sym (both_bytes d.changes ys a.encoder))
          ∙ same.bytes;
      next = ap (λ n. (terse_batch ys n).next) added.next ∙ sym (both_next d.changes ys a.encoder) ∙ same.next;
      hand = same.hand;
    })

pub same_added : (a old : Redrawer) (x before : List ℕ) (all : Redrawing) → SameEnd (at_ease a.hand) a x all old before → IsAdded all old before a x
same_added a old x before all same = record { bytes = sym (append-nil x) ∙ same.bytes; next = same.next; hand = same.hand }

-- what holds in any case holds on refusal
pub holds_on_err : {A E : Type 0} (P : Type 0) (result : Result A E) → P → OnErr result P
holds_on_err P (Ok value) p = tt
holds_on_err P (Err e) p = p

-- ---- a row that may not be on the terminal yet

module _ (reached row col last : ℕ) (a : Redrawer) (x : List ℕ) (is_last : last ≡ lowest_reached reached a.hand) where
  -- going there, by the last row that is
  abbrev going : ℕ → Bool → Redrawing
  going n up = cond up (led_to row col a.hand) (redraw_then (led_to n 0 a.hand) (λ there. redraw_then (fed (row - n) there) (led_to row col)))

  pub sunk_short : (b : Redrawer) (y : List ℕ) → row ≤ last → IsAdded (led_to row col a.hand) a x b y → IsAdded (sunk_to reached row col a.hand) a x b y
  sunk_short b y up added = subst (λ n. IsAdded (going n (leb row n)) a x b y) is_last (subst (λ up. IsAdded (going last up) a x b y) (sym (le-leb row last up)) added)

  pub sunk_long : (b c d : Redrawer) (y z u : List ℕ) → last < row
      → IsAdded (led_to last 0 a.hand) a x b y → IsAdded (fed (row - last) b.hand) b y c z → IsAdded (led_to row col c.hand) c z d u
      → IsAdded (sunk_to reached row col a.hand) a x d u
  sunk_long b c d y z u low first second third =
      subst (λ n. IsAdded (going n (leb row n)) a x d u) is_last
      (subst (λ up. IsAdded (going last up) a x d u) (sym (lt-leb row last low))
      (added_both (led_to last 0 a.hand) (λ there. redraw_then (fed (row - last) there) (led_to row col)) a b d x y u first
      (added_both (fed (row - last) b.hand) (led_to row col) b c d y z u second third)))

-- ---- a character

typed_is : (b : ℕ) (e : Encoder) → is_plain b ≡ true
    → ((terse_batch (Text (b ∷ []) ∷ []) e).bytes ≡ (sent_byte e b).bytes) × ((terse_batch (Text (b ∷ []) ∷ []) e).next ≡ (sent_byte e b).next)
typed_is b e plain =
    let one : Sent = sent_plain (b ∷ []) e in
    let other : Sent = sent_clusters (graphemes true (b ∷ [])) e in (
      ap (λ x. (cond (x && true) one other).bytes ++ []) plain ∙ append-nil ((sent_byte e b).bytes ++ []) ∙ append-nil (sent_byte e b).bytes,
      ap (λ x. (cond (x && true) one other).next) plain,
    )

-- a character of ASCII
pub ascii_added : (c : ℕ) (e : Encoder) → c < 128 → is_plain c ≡ true
    → ((terse_batch (Text (encode_utf8 c) ∷ []) e).bytes ≡ (sent_byte e c).bytes) × ((terse_batch (Text (encode_utf8 c) ∷ []) e).next ≡ (sent_byte e c).next)
ascii_added c e low plain =
    subst (λ l. ((terse_batch (Text l ∷ []) e).bytes ≡ (sent_byte e c).bytes) × ((terse_batch (Text l ∷ []) e).next ≡ (sent_byte e c).next)) (sym (encode_ascii c low)) (typed_is c e plain)

pub feed_added : (a : Redrawer) (next : Encoder) (x y : List ℕ) → y ≡ x ++ (sent_byte a.encoder 10).bytes → next ≡ (sent_byte a.encoder 10).next
    → IsAdded (fed_once a.hand) a x (record { hand = (fed_once a.hand).hand; encoder = next }) y
feed_added a next x y bytes is =
    let same = typed_is 10 a.encoder refl in
    record { bytes = bytes ∙ ap (λ v. x ++ v) (sym same.0); next = is ∙ sym same.1; hand = refl }

-- ---- line feeds, cells and rows

pub feed_step : (i count : ℕ) (a b old : Redrawer) (x y before : List ℕ) (all : Redrawing) → i < count
    → SameEnd (fed (count - i) a.hand) a x all old before → IsAdded (fed_once a.hand) a x b y → SameEnd (fed (count - (i + 1)) b.hand) b y all old before
feed_step i count a b old x y before all less same added =
    let left : count - i ≡ suc (count - (i + 1)) = omega (arith, less) in
    same_step (fed_once a.hand) (fed (count - (i + 1))) a b old x y before all (subst (λ n. SameEnd (fed n a.hand) a x all old before) left same) added

pub feed_end : (i count : ℕ) (a old : Redrawer) (x before : List ℕ) (all : Redrawing) → count ≤ i → SameEnd (fed (count - i) a.hand) a x all old before → IsAdded all old before a x
feed_end i count a old x before all done same = same_added a old x before all (subst (λ n. SameEnd (fed n a.hand) a x all old before) (let e : count - i ≡ 0 = omega (arith, done) in e) same)

pub extends_more : (before x y more : List ℕ) → ExtendsBytes before x → y ≡ x ++ more → ExtendsBytes before y
extends_more before x y more (first, e) then = (first ++ more, then ∙ ap (λ v. v ++ more) e ∙ append_assoc before first more)

-- a cell is typed where the cursor stands before it
pub cell_added : (w index : ℕ) (cells : ℕ → ℕ → StyledCell) (x : StyledCell) (bytes : List ℕ) (a b : Redrawer) (next : Encoder) (x0 x1 x2 : List ℕ) → x ≡ indexed w cells index → bytes ≡ number_bytes x.ch
    → IsAdded (under x.attributes a.hand) a x0 b x1 → x2 ≡ x1 ++ (terse_batch (Text bytes ∷ []) b.encoder).bytes → next ≡ (terse_batch (Text bytes ∷ []) b.encoder).next
    → IsAdded (cell_redrawn w cells index a.hand) a x0 (record { hand = record b.hand { row = index / w; col = index % w + 1 }; encoder = next }) x2
cell_added w index cells x bytes a b next x0 x1 x2 is typed first sent known =
    subst (λ y. IsAdded (redraw_then (under y.attributes a.hand) (typed_in_cell w index y.ch)) a x0 (record { hand = record b.hand { row = index / w; col = index % w + 1 }; encoder = next }) x2) is
    (added_both (under x.attributes a.hand) (typed_in_cell w index x.ch) a b _ x0 x1 x2 first
    (record {
      bytes = sent ∙ ap (λ l. x1 ++ (terse_batch (Text l ∷ []) b.encoder).bytes) typed;
      next = known ∙ ap (λ l. (terse_batch (Text l ∷ []) b.encoder).next) typed;
      hand = refl;
    }))

pub cells_step : (w i to : ℕ) (cells : ℕ → ℕ → StyledCell) (a b old : Redrawer) (x y before : List ℕ) (all : Redrawing) → i < to
    → SameEnd (cells_redrawn w cells i (to - i) a.hand) a x all old before → IsAdded (cell_redrawn w cells i a.hand) a x b y
    → SameEnd (cells_redrawn w cells (i + 1) (to - (i + 1)) b.hand) b y all old before
cells_step w i to cells a b old x y before all less same added =
    let count : to - i ≡ suc (to - (i + 1)) = omega (arith, less) in
    let next : suc i ≡ i + 1 = omega arith in
    subst (λ n. SameEnd (cells_redrawn w cells n (to - (i + 1)) b.hand) b y all old before) next
    (same_step (cell_redrawn w cells i a.hand) (cells_redrawn w cells (suc i) (to - (i + 1))) a b old x y before all
    (subst (λ n. SameEnd (cells_redrawn w cells i n a.hand) a x all old before) count same) added)

pub cells_end : (w i to : ℕ) (cells : ℕ → ℕ → StyledCell) (a old : Redrawer) (x before : List ℕ) (all : Redrawing) → to ≤ i
    → SameEnd (cells_redrawn w cells i (to - i) a.hand) a x all old before → IsAdded all old before a x
cells_end w i to cells a old x before all done same =
    same_added a old x before all (subst (λ n. SameEnd (cells_redrawn w cells i n a.hand) a x all old before) (let e : to - i ≡ 0 = omega (arith, done) in e) same)

-- the cells of a row, by their indices
pub row_single : (w v r first last : ℕ) (cells : ℕ → ℕ → StyledCell) → v ≡ w → last < w → ((j : ℕ) → j < w → IsSingle (cells r j).ch)
    → (m : ℕ) → r * v + first ≤ m → m < r * v + last + 1 → IsSingle (indexed w cells m).ch
row_single w v r first last cells is_v left single m from to =
    let start : r * v ≡ r * w = ap (λ n. r * n) is_v in
    let at : r * w + (m - r * w) ≡ m = omega (arith, from, start) in
    let place = inside_row w m r (m - r * w) at (omega (arith, to, start, left)) in
    subst (λ i. IsSingle (cells i (m % w)).ch) (sym place.0) (subst (λ j. IsSingle (cells r j).ch) (sym place.1) (single (m - r * w) (omega (arith, to, start, left))))

-- those that differ
pub span_added : (w v r first last : ℕ) (cells : ℕ → ℕ → StyledCell) (a b c : Redrawer) (x y z : List ℕ) → v ≡ w → IsAdded (led_to r first a.hand) a x b y
    → IsAdded (cells_redrawn w cells (r * v + first) (r * v + last + 1 - (r * v + first)) b.hand) b y c z → IsAdded (span_redrawn w r cells (Some first) (Some last) a.hand) a x c z
span_added w v r first last cells a b c x y z is_v move typed =
    added_both (led_to r first a.hand) (cells_redrawn w cells (r * w + first) (last + 1 - first)) a b c x y z move
    (subst (λ n. IsAdded (cells_redrawn w cells (r * w + first) n b.hand) b y c z) (let e : r * w + last + 1 - (r * w + first) ≡ last + 1 - first = omega arith in e)
    (subst (λ u. IsAdded (cells_redrawn w cells (r * u + first) (r * u + last + 1 - (r * u + first)) b.hand) b y c z) is_v typed))

pub rows_step : (w : ℕ) (left new : ℕ → ℕ → StyledCell) (row rows : ℕ) (a b old : Redrawer) (x y before : List ℕ) (all : Redrawing) → row < rows
    → SameEnd (rows_redrawn w left new row (rows - row) a.hand) a x all old before → IsAdded (row_redrawn w left new row a.hand) a x b y
    → SameEnd (rows_redrawn w left new (row + 1) (rows - (row + 1)) b.hand) b y all old before
rows_step w left new row rows a b old x y before all less same added =
    let count : rows - row ≡ suc (rows - (row + 1)) = omega (arith, less) in
    let next : suc row ≡ row + 1 = omega arith in
    subst (λ n. SameEnd (rows_redrawn w left new n (rows - (row + 1)) b.hand) b y all old before) next
    (same_step (row_redrawn w left new row a.hand) (rows_redrawn w left new (suc row) (rows - (row + 1))) a b old x y before all
    (subst (λ n. SameEnd (rows_redrawn w left new row n a.hand) a x all old before) count same) added)

pub rows_end : (w : ℕ) (left new : ℕ → ℕ → StyledCell) (row rows : ℕ) (a old : Redrawer) (x before : List ℕ) (all : Redrawing) → rows ≤ row
    → SameEnd (rows_redrawn w left new row (rows - row) a.hand) a x all old before → IsAdded all old before a x
rows_end w left new row rows a old x before all done same =
    let count : rows - row ≡ 0 = omega (arith, done) in
    same_added a old x before all (subst (λ n. SameEnd (rows_redrawn w left new row n a.hand) a x all old before) count same)

-- ---- what goes on at the cursor

pub going_added : (w reached from end : ℕ) (new : ℕ → ℕ → StyledCell) (to : Hand) (a b c : Redrawer) (x y z : List ℕ) → from ≡ hand_index w a.hand
    → IsAdded (cells_redrawn w new from (end - from) a.hand) a x b y → IsAdded (handed_to reached to b.hand) b y c z
    → IsAdded (redraw_then (cells_redrawn w new (hand_index w a.hand) (end - hand_index w a.hand) a.hand) (handed_to reached to)) a x c z
going_added w reached from end new to a b c x y z is_from first last =
    added_both (cells_redrawn w new (hand_index w a.hand) (end - hand_index w a.hand) a.hand) (handed_to reached to) a b c x y z
    (subst (λ n. IsAdded (cells_redrawn w new n (end - n) a.hand) a x b y) is_from first) last

-- the cells of some rows, by their indices
pub rows_single : (w rows end : ℕ) (cells : ℕ → ℕ → StyledCell) → end ≤ rows * w → ((i : ℕ) → i < rows → (j : ℕ) → j < w → IsSingle (cells i j).ch)
    → (m : ℕ) → m < end → IsSingle (indexed w cells m).ch
rows_single w rows end cells within single m low =
    let wide : 0 < w = wide_by w (omega (arith, low, within)) in
    single (m / w) ((div-lt_iff_lt-mul wide).1 (omega (arith, low, within))) (m % w) (mod-lt m wide)
  where
    wide_by : (v : ℕ) → m < rows * v → 0 < v
    wide_by zero some = absurd (omega (arith, some))
    wide_by (suc v) some = omega arith

-- ---- by which way

module _ (w reached rows : ℕ) (old new : ℕ → ℕ → StyledCell) (to : Hand) (a b : Redrawer) (x y : List ℕ) where
  abbrev way : Bool → Redrawing
  way goes = cond goes (gone_onward w reached rows new to a.hand) (rows_drawn_on w reached rows old new to a.hand)

  pub added_onward : (goes : Bool) (end : ℕ) → goes ≡ goes_onward w reached rows old new to a.hand → goes ≡ true → end ≡ end_of w rows new
      → IsAdded (redraw_then (cells_redrawn w new (hand_index w a.hand) (end - hand_index w a.hand) a.hand) (handed_to reached to)) a x b y
      → IsAdded (redrawn w reached rows old new to a.hand) a x b y
  added_onward goes end is does is_end added =
      subst (λ z. IsAdded (way z) a x b y) (sym does ∙ is)
      (subst (λ n. IsAdded (redraw_then (cells_redrawn w new (hand_index w a.hand) (n - hand_index w a.hand) a.hand) (handed_to reached to)) a x b y) is_end added)

  pub added_by_rows : (goes : Bool) → goes ≡ goes_onward w reached rows old new to a.hand → goes ≡ false
      → IsAdded (rows_drawn_on w reached rows old new to a.hand) a x b y → IsAdded (redrawn w reached rows old new to a.hand) a x b y
  added_by_rows goes is not_so added = subst (λ z. IsAdded (way z) a x b y) (sym not_so ∙ is) added

-- ---- all of it

-- the rest of the old screen, by the end of the new one
pub rest_by_end : (w v rows end : ℕ) (old new : ℕ → ℕ → StyledCell) (rest : Option ℕ) → v ≡ w → end ≡ end_of w rows new
    → rest ≡ cond (ltb end (end_of v rows old)) (Some end) None → rest ≡ rest_of w rows old new
rest_by_end w v rows end old new rest is_v is_end is =
    subst (λ n. rest ≡ cond (ltb n (end_of w rows old)) (Some n) None) is_end (subst (λ u. rest ≡ cond (ltb end (end_of u rows old)) (Some end) None) is_v is)

pub rows_added : (w v u top reached rows : ℕ) (old new : ℕ → ℕ → StyledCell) (to : Hand) (from : Option ℕ) (a b c d e : Redrawer) (x0 x1 x2 x3 x4 : List ℕ)
    → v ≡ w → u ≡ w → top ≡ max reached rows → from ≡ rest_of w rows old new
    → IsAdded (lowered reached rows a.hand) a x0 b x1 → IsAdded (rest_emptied u from b.hand) b x1 c x2
    → IsAdded (rows_redrawn w (left_of v from old) new 0 rows c.hand) c x2 d x3 → IsAdded (handed_to top to d.hand) d x3 e x4
    → IsAdded (rows_drawn_on w reached rows old new to a.hand) a x0 e x4
rows_added w v u top reached rows old new to from a b c d e x0 x1 x2 x3 x4 is_v is_u is_top is_from first second third last =
    let rest : Option ℕ = rest_of w rows old new in
    let last_of : Hand → Redrawing = handed_to (max reached rows) to in
    let third_of : Hand → Redrawing = λ hand. redraw_then (rows_redrawn w (left_of w (rest_of w rows old new) old) new 0 rows hand) last_of in
    let second_of : Hand → Redrawing = λ hand. redraw_then (rest_emptied w (rest_of w rows old new) hand) third_of in
    let emptied : IsAdded (rest_emptied w (rest_of w rows old new) b.hand) b x1 c x2 =
    subst (λ r. IsAdded (rest_emptied w r b.hand) b x1 c x2) is_from (subst (λ n. IsAdded (rest_emptied n from b.hand) b x1 c x2) is_u second) in
    let typed : IsAdded (rows_redrawn w (left_of w (rest_of w rows old new) old) new 0 rows c.hand) c x2 d x3 =
    subst (λ r. IsAdded (rows_redrawn w (left_of w r old) new 0 rows c.hand) c x2 d x3) is_from (subst (λ n. IsAdded (rows_redrawn w (left_of n from old) new 0 rows c.hand) c x2 d x3) is_v third) in
    added_both (lowered reached rows a.hand) second_of a b e x0 x1 x4 first
    (added_both (rest_emptied w (rest_of w rows old new) b.hand) third_of b c e x1 x2 x4 emptied
    (added_both (rows_redrawn w (left_of w (rest_of w rows old new) old) new 0 rows c.hand) last_of c d e x2 x3 x4 typed (subst (λ n. IsAdded (handed_to n to d.hand) d x3 e x4) is_top last)))
