-- Batches that are played one after the other.
use Rattle.std.proofs.Common.{◌≡◌, ◌+◌, ◌*◌, ◌<◌, ◌≤◌, ℕ, zero, suc, pos, negsuc, max, cond, leb, not, Bool, true, false, Option, Some, List, [], ◌∷◌, ◌++◌, ◌-◌, length, drop, take, get_or, ap, subst, ◌∙◌, sym, refl, arith}
use Rattle.std.proofs.Math.Seq.{take-suc}
use Rattle.std.proofs.lemmas.Bool.{le-leb, leb-true, lt-ltb}
use Rattle.std.proofs.lemmas.List.{map-append, take_rest}
use Rattle.tw_surface.specs.declared.change.Change.{Change}
use Rattle.tw_surface.specs.ChangeView.{ChangeView, Batch, batch_view, change_view}
use Rattle.tw_sparing.specs.declared.shown.Shown.{Shown}
use Rattle.tw_surface.specs.declared.change.Position.{Position}
use Rattle.laws_screens.specs.Pens.{led}
use Rattle.tw_sparing.specs.StyledScreens.{at_row, styled_at}
use Rattle.tw_surface.specs.declared.change.Position.TheVariants.{Absolute, Relative}
use Rattle.tw_surface.specs.ChangeView.{Attribute, AllAttributes, Text, ClearScreen, ClearToEndOfScreen, CursorPosition}
use Rattle.tw_surface.specs.Defaults.{default_color}
use Rattle.tw_sparing.specs.Shown.{first_shown, goes_out_of_sight, gone_rows, left_behind, rows_above, Empties, FitsTerminal, SetsAttributes, IsDrawnAfter, IsEmptiedFrom, IsInSight, IsKnownAfter, IsKnownBy, IsPlayed, IsPlayedOnce}

played_last : (rows : ℕ) (xs : Batch) (x : ChangeView) (a b c : Shown) → IsPlayed rows xs a b → IsPlayedOnce rows x b c → IsPlayed rows (xs ++ x ∷ []) a c
played_last rows [] x a b c first last = (c, subst (λ (k : Shown). IsPlayedOnce rows x k c) first last, refl)
played_last rows (y ∷ xs) x a b c first last = (first.0, first.1, played_last rows xs x first.0 b c first.2 last)

pub played_more : (rows : ℕ) (changes : List Change) (i : ℕ) (x : Change) (a b c : Shown) → i < length changes → x ≡ get_or changes i x
    → IsPlayed rows (batch_view (take i changes)) a b → IsPlayedOnce rows (change_view x) b c → IsPlayed rows (batch_view (take (i + 1) changes)) a c
played_more rows changes i x a b c less item first last =
    let next : suc i ≡ i + 1 = omega arith in
    let is : batch_view (take (suc i) changes) ≡ batch_view (take i changes) ++ change_view x ∷ [] =
    ap batch_view (take-suc changes i x less)
    ∙ map-append change_view (take i changes) (get_or changes i x ∷ [])
    ∙ ap (λ y. batch_view (take i changes) ++ change_view y ∷ []) (sym item) in
    subst (λ n. IsPlayed rows (batch_view (take n changes)) a c) next
    (subst (λ xs. IsPlayed rows xs a c) (sym is) (played_last rows (batch_view (take i changes)) (change_view x) a b c first last))

-- the width stays
pub played_width : (rows : ℕ) (xs : Batch) (a b : Shown) → IsPlayed rows xs a b → b.screen.width ≡ a.screen.width
played_width rows [] a b is = ap (λ (k : Shown). k.screen.width) is
played_width rows (x ∷ xs) a b is = played_width rows xs is.0 b is.2 ∙ is.1.drawn.width

-- the row that a screen's cursor was led to
led-there : (y : Position) (old mid : Shown) → IsEmptiedFrom y old mid → mid.screen.row ≡ led y old.screen.row
led-there y old mid emptied =
    sym (emptied.drawn (record { cell = λ r c. styled_at old.screen (r * old.screen.width + c); row = led y old.screen.row; col = 0 }) (record { cell = λ r c low. refl; row = refl; col = refl })).row

-- a move to column 0 of a row in sight, and an emptying from there on
pub emptied_played : (rows : ℕ) (y : Position) (old new : Shown) → IsInSight (rows_above rows old) y → IsEmptiedFrom y old new
    → IsPlayed rows (CursorPosition (Absolute 0) y ∷ ClearToEndOfScreen default_color ∷ []) old new
emptied_played rows y old new inside emptied =
    let row = led y old.screen.row in
    let moved : Shown = record { screen = at_row row old.screen; reached = max old.reached (row + 1) } in (
      moved,
      record {
        playable = inside;
        drawn = record { width = refl; drawn = λ s h. record { cell = h.cell; row = ap (led y) h.row; col = omega arith }; kept = refl };
        reached = refl;
      },
      (
        new,
        record {
          playable = (refl, omega (arith, emptied.above, emptied.same.width));
          drawn = record { width = emptied.same.width; drawn = emptied.drawn; kept = emptied.same.kept };
          reached = emptied.reached ∙ omega (arith, led-there y old new emptied);
        },
        refl,
      ),
    )

-- what is left of a batch is played behind its first two changes
pub played_behind : (rows : ℕ) (changes : List Change) (x y : Change) (a b c : Shown) → 2 ≤ length changes → x ≡ get_or changes 0 x → y ≡ get_or changes 1 y
    → IsPlayed rows (change_view x ∷ change_view y ∷ []) a b → IsPlayed rows (batch_view (take (length changes - 2) (drop 2 changes))) b c → IsPlayed rows (batch_view changes) a c
played_behind rows changes x y a b c two first second begun rest =
    by_two changes two first second (subst (λ l. IsPlayed rows (batch_view l) b c) (take_rest changes 2) rest)
  where
    by_two : (changes : List Change) → 2 ≤ length changes → x ≡ get_or changes 0 x → y ≡ get_or changes 1 y → IsPlayed rows (batch_view (drop 2 changes)) b c → IsPlayed rows (batch_view changes) a c
    by_two [] two first second left = absurd (omega arith)
    by_two (z ∷ []) two first second left = absurd (omega arith)
    by_two (x' ∷ y' ∷ more) two first second left =
        rw (sym (ap change_view first), sym (ap change_view second)) (begun.0, begun.1, (begun.2.0, begun.2.1, subst (λ k. IsPlayed rows (batch_view more) k c) begun.2.2 left))

-- a batch that is played does not go out of sight
pub stays_in_sight : (rows : ℕ) (xs : Batch) (a b : Shown) → IsPlayed rows xs a b → goes_out_of_sight (rows_above rows a) xs ≡ false
stays_in_sight rows [] a b is = refl
stays_in_sight rows (Text text ∷ xs) a b is = refl
stays_in_sight rows (Attribute change ∷ xs) a b is = refl
stays_in_sight rows (AllAttributes to ∷ xs) a b is = refl
stays_in_sight rows (ClearScreen color ∷ xs) a b is = refl
stays_in_sight rows (ClearToEndOfScreen color ∷ xs) a b is = refl
stays_in_sight rows (CursorPosition (Relative x) y ∷ xs) a b is = refl
stays_in_sight rows (CursorPosition (Absolute (suc col)) y ∷ xs) a b is = refl
stays_in_sight rows (CursorPosition (Absolute zero) (Absolute row) ∷ xs) a b is = refl
stays_in_sight rows (CursorPosition (Absolute zero) (Relative (pos n)) ∷ xs) a b is = refl
stays_in_sight rows (CursorPosition (Absolute zero) (Relative (negsuc n)) ∷ xs) a b is = ap not (lt-ltb n (rows_above rows a) is.1.playable)

-- so what is known after it is what was drawn
pub drawn_known : (cols rows : ℕ) (batch : Batch) (old new : Shown) → IsDrawnAfter rows batch old new → IsKnownAfter cols rows batch (Some old) (Some new)
drawn_known cols rows batch old new drawn = subst (λ b. IsKnownBy b rows batch old new) (sym (stays_in_sight rows batch old new drawn.1)) drawn

pub known_drawn : (cols rows : ℕ) (batch : Batch) (old new : Shown) → goes_out_of_sight (rows_above rows old) batch ≡ false → IsKnownAfter cols rows batch (Some old) (Some new)
    → IsDrawnAfter rows batch old new
known_drawn cols rows batch old new stays known = subst (λ b. IsKnownBy b rows batch old new) stays known

pub drawn_width : (rows : ℕ) (batch : Batch) (old new : Shown) → IsDrawnAfter rows batch old new → old.screen.width ≡ new.screen.width
drawn_width rows batch old new drawn = sym (played_width rows batch old new drawn.1)

known_width_by : (b : Bool) (rows : ℕ) (batch : Batch) (old new : Shown) → IsKnownBy b rows batch old new → old.screen.width ≡ new.screen.width
known_width_by true rows batch old new known = sym (played_width rows known.rest (first_shown old.screen.width) new known.played)
known_width_by false rows batch old new known = drawn_width rows batch old new known

pub known_width : (cols rows : ℕ) (batch : Batch) (a b : Option Shown) (old new : Shown) → a ≡ Some old → b ≡ Some new → IsKnownAfter cols rows batch a b
    → old.screen.width ≡ new.screen.width
known_width cols rows batch a b old new is_old is_new known =
    let both = subst (λ x. IsKnownAfter cols rows batch (Some old) x) is_new (subst (λ x. IsKnownAfter cols rows batch x b) is_old known) in
    known_width_by (goes_out_of_sight (rows_above rows old) batch) rows batch old new both

-- the rows that are reached do not get fewer
pub played_reached : (rows : ℕ) (xs : Batch) (a b : Shown) → IsPlayed rows xs a b → a.reached ≤ b.reached
played_reached rows [] a b is = omega (arith, ap (λ (k : Shown). k.reached) is)
played_reached rows (x ∷ xs) a b is = omega (arith, is.1.reached, played_reached rows xs is.0 b is.2)

-- the rows of an old screen that have left the terminal: at least those that had left it before, above the old cursor,
-- and no more than those of either screen
pub gone_within : (rows : ℕ) (old new : Shown) → left_behind rows old ≤ old.screen.row
    → (left_behind rows old ≤ gone_rows rows old new) × (gone_rows rows old new ≤ old.screen.row) × (gone_rows rows old new ≤ max (left_behind rows old) (left_behind rows new))
gone_within rows old new inside = by_row (leb (left_behind rows new) old.screen.row) refl
  where
    by_row : (b : Bool) → leb (left_behind rows new) old.screen.row ≡ b → let gone = cond b (max (left_behind rows old) (left_behind rows new)) (left_behind rows old) in
        (left_behind rows old ≤ gone) × (gone ≤ old.screen.row) × (gone ≤ max (left_behind rows old) (left_behind rows new))
    by_row true is = let up : left_behind rows new ≤ old.screen.row = leb-true _ _ is in (omega arith, omega (arith, up, inside), omega arith)
    by_row false is = (omega arith, inside, omega arith)

-- where a batch was drawn they are those of the new one
pub drawn_gone : (rows : ℕ) (batch : Batch) (old new : Shown) → IsDrawnAfter rows batch old new → gone_rows rows old new ≡ left_behind rows new
drawn_gone rows batch old new drawn =
    let more = played_reached rows batch old new drawn.1 in
    ap (λ b. cond b (max (left_behind rows old) (left_behind rows new)) (left_behind rows old)) (le-leb (left_behind rows new) old.screen.row drawn.2.row) ∙ omega (arith, more)

pub drawn_row : (rows : ℕ) (batch : Batch) (old new : Shown) → IsDrawnAfter rows batch old new → gone_rows rows old new ≤ old.screen.row
drawn_row rows batch old new drawn = let is = drawn_gone rows batch old new drawn in let row = drawn.2.row in omega (arith, is, row)

-- the new screen fits the terminal, and the cursor of the old one is after the rows that have left it
fits_by : (b : Bool) (rows : ℕ) (batch : Batch) (old new : Shown) → IsKnownBy b rows batch old new → FitsTerminal rows new × (gone_rows rows old new ≤ old.screen.row)
fits_by true rows batch old new known = (known.fits, (gone_within rows old new known.row).1)
fits_by false rows batch old new known = (known.0, drawn_row rows batch old new known)

pub known_fits : (cols rows : ℕ) (batch : Batch) (a b : Option Shown) (old new : Shown) → a ≡ Some old → b ≡ Some new → IsKnownAfter cols rows batch a b
    → FitsTerminal rows new × (gone_rows rows old new ≤ old.screen.row)
known_fits cols rows batch a b old new is_old is_new known =
    let both = subst (λ x. IsKnownAfter cols rows batch (Some old) x) is_new (subst (λ x. IsKnownAfter cols rows batch x b) is_old known) in
    fits_by (goes_out_of_sight (rows_above rows old) batch) rows batch old new both

-- a batch by its first two changes
pub emptying : (changes : List Change) (x y : Change) → 2 ≤ length changes → x ≡ get_or changes 0 x → y ≡ get_or changes 1 y
    → change_view x ≡ ClearToEndOfScreen default_color → SetsAttributes (change_view y) → Empties (batch_view changes)
emptying [] x y two first second clears sets = absurd (omega arith)
emptying (a ∷ []) x y two first second clears sets = absurd (omega arith)
emptying (a ∷ b ∷ rest) x y two first second clears sets = (
  change_view b,
  batch_view rest,
  subst (λ k. SetsAttributes (change_view k)) second sets,
  ap (λ k. k ∷ change_view b ∷ batch_view rest) (ap change_view (sym first) ∙ clears),
)
