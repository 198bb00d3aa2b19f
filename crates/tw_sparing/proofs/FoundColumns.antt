-- What is known of the first and the last column in which two rows differ.
use Rattle.std.proofs.Common.{◌≡◌, ◌<◌, ◌≤◌, ◌+◌, ◌-◌, ◌*◌, ◌/◌, ◌%◌, is_none, mod-lt, div-add-mod', ◌⊎◌, ℕ, zero, suc, Bool, true, false, not, Some, None, ap, ◌∙◌, sym, refl, inl, inr, arith}
use Rattle.std.proofs.lemmas.Nat.{div-mul-add, mod-mul-add}
use Rattle.std.proofs.lemmas.Bool.{cases_Bool, cases_eq, cases_lt, and_parts, eqb-true, eq-eqb, and_from, false≢true}
use Rattle.tw_line.specs.Extremes.{least_from, greatest_below, NonePasses, IsLeast, IsGreatest}
use Rattle.tw_line.proofs.ExtremesLemmas.{least_from-none, greatest_below-is, greatest_below-none}
use Rattle.tw_surface.proofs.EqualityLemmas.{attributes_equal}
use Rattle.laws_screens.specs.StyledCells.{StyledCell}
use Rattle.tw_sparing.specs.Differences.{is_same_cell, differ_in, first_changed, is_used, end_of}
use Rattle.tw_sparing.specs.Redrawings.{indexed}

-- none is found, or the least one
pub least_cases : (p : ℕ → Bool) (count from : ℕ)
    → ((least_from p from count ≡ None) × NonePasses p from (from + count)) ⊎ ((n : ℕ) × (least_from p from count ≡ Some n) × IsLeast p from (from + count) n)
unfolding least_from
least_cases p zero from = inl (refl, λ k low high. absurd (omega (arith, low, high)))
least_cases p (suc count) from = elim (cases_Bool (p from)) [
  | inl here ↦ inr (from, rw here refl, record { low = omega arith; high = omega arith; passes = here; first = λ k low high. absurd (omega (arith, low, high)) })
  | inr other ↦ elim (least_cases p count (suc from)) [
    | inl none ↦ inl (rw other none.0, λ k low high. elim (cases_eq k from) [ inl e ↦ ap p e ∙ other | inr more ↦ none.1 k (omega (arith, low, more)) (omega (arith, high)) ])
    | inr found ↦ inr (
      found.0,
      rw other found.1,
      record {
        low = omega (arith, found.2.low);
        high = omega (arith, found.2.high);
        passes = found.2.passes;
        first = λ k low high. elim (cases_eq k from) [ inl e ↦ ap p e ∙ other | inr more ↦ found.2.first k (omega (arith, low, more)) high ];
      },
    )
  ]
]

-- where none is found, none passes
none_passes : (p : ℕ → Bool) (count : ℕ) → is_none (least_from p 0 count) ≡ true → NonePasses p 0 count
none_passes p count is = elim (least_cases p count 0) [
  | inl none ↦ λ k low high. none.1 k low (omega (arith, high))
  | inr found ↦ absurd (false≢true (sym (ap is_none found.1) ∙ is))
]

-- none is found, or the greatest one
pub greatest_cases : (p : ℕ → Bool) (to : ℕ)
    → ((greatest_below p to ≡ None) × NonePasses p 0 to) ⊎ ((n : ℕ) × (greatest_below p to ≡ Some n) × IsGreatest p to n)
unfolding greatest_below
greatest_cases p zero = inl (refl, λ k low high. absurd (omega (arith, low, high)))
greatest_cases p (suc to) = elim (cases_Bool (p to)) [
  | inl here ↦ inr (to, rw here refl, record { high = omega arith; passes = here; last = λ k low high. absurd (omega (arith, low, high)) })
  | inr other ↦ elim (greatest_cases p to) [
    | inl none ↦ inl (rw other none.0, λ k low high. elim (cases_eq k to) [ inl e ↦ ap p e ∙ other | inr more ↦ none.1 k low (omega (arith, high, more)) ])
    | inr found ↦ inr (
      found.0,
      rw other found.1,
      record {
        high = omega (arith, found.2.high);
        passes = found.2.passes;
        last = λ k low high. elim (cases_eq k to) [ inl e ↦ ap p e ∙ other | inr more ↦ found.2.last k low (omega (arith, high, more)) ];
      },
    )
  ]
]

-- columns that do not differ hold the same cell
pub same_where : (old new : ℕ → StyledCell) (j : ℕ) → differ_in old new j ≡ false → old j ≡ new j
same_where old new j is = same (old j) (new j) (of_not (is_same_cell (old j) (new j)) is)
  where
    of_not : (b : Bool) → not b ≡ false → b ≡ true
    of_not true e = refl
    of_not false e = absurd (false≢true (sym e))

    same : (x y : StyledCell) → is_same_cell x y ≡ true → x ≡ y
    same x y e =
        let both = and_parts _ _ e in
        ap (λ n. let z : StyledCell = record { ch = n; attributes = x.attributes } in z) (eqb-true x.ch y.ch both.0)
        ∙ ap (λ a. let z : StyledCell = record { ch = y.ch; attributes = a } in z) ((attributes_equal x.attributes y.attributes).0 both.1)

-- and those that hold the same cell do not differ
pub no_difference : (old new : ℕ → StyledCell) (j : ℕ) → old j ≡ new j → differ_in old new j ≡ false
no_difference old new j same = ap not (told (old j) (new j) same)
  where
    told : (x y : StyledCell) → x ≡ y → is_same_cell x y ≡ true
    told x y e =
        and_from _ _ (eq-eqb x.ch y.ch (ap (λ (z : StyledCell). z.ch) e)) ((attributes_equal x.attributes y.attributes).1 (ap (λ (z : StyledCell). z.attributes) e))

-- rows of w columns of which none differs are the same
pub none_differs : (w : ℕ) (old new : ℕ → StyledCell) → is_none (least_from (differ_in old new) 0 w) ≡ true → (j : ℕ) → j < w → old j ≡ new j
none_differs w old new is j left = same_where old new j (none_passes (differ_in old new) w is j (omega arith) left)

-- and in rows that are the same none differs
pub no_change : (w : ℕ) (old new : ℕ → StyledCell) → ((j : ℕ) → j < w → old j ≡ new j) → first_changed w old new ≡ None
no_change w old new same = least_from-none (differ_in old new) w 0 (λ k low high. no_difference old new k (same k (omega (arith, high))))

-- whether two screens differ in a cell, by its index
pub by_index : (w row col : ℕ) (old new : ℕ → ℕ → StyledCell) → col < w → differ_in (indexed w old) (indexed w new) (row * w + col) ≡ differ_in (old row) (new row) col
by_index w row col old new left =
    ap (λ i. differ_in (old i) (new i) ((row * w + col) % w)) (div-mul-add row w col left) ∙ ap (λ j. differ_in (old row) (new row) j) (mod-mul-add row w col left)

-- one more that does not pass, above and below
pub none_above : (p : ℕ → Bool) (from n : ℕ) → NonePasses p from n → p n ≡ false → NonePasses p from (n + 1)
none_above p from n none here k low high = elim (cases_eq k n) [ inl e ↦ ap p e ∙ here | inr less ↦ none k low (omega (arith, high, less)) ]

pub one_below : (p : ℕ → Bool) (n to : ℕ) → p n ≡ false → NonePasses p (n + 1) to → NonePasses p n to
one_below p n to here none k low high = elim (cases_eq k n) [ inl e ↦ ap p e ∙ here | inr more ↦ none k (omega (arith, low, more)) high ]

pub none_below : (p : ℕ → Bool) (n to : ℕ) → NonePasses p n to → p (n - 1) ≡ false → NonePasses p (n - 1) to
none_below p n to none here = one_below p (n - 1) to here (λ k low high. none k (omega (arith, low)) high)

-- ---- what is the same before an index

-- whether the first columns of a row are the same
module _ (w row cols : ℕ) (old new : ℕ → ℕ → StyledCell) (left : cols ≤ w) where
  abbrev here : ℕ → Bool
  here = differ_in (indexed w old) (indexed w new)

  -- none of their indices differs
  same_in_row : is_none (least_from (differ_in (old row) (new row)) 0 cols) ≡ true → NonePasses here (row * w) (row * w + cols)
  same_in_row is k low high =
      let at : k ≡ row * w + (k - row * w) = omega (arith, low) in
      ap here at
      ∙ by_index w row (k - row * w) old new (omega (arith, high, left))
      ∙ none_passes (differ_in (old row) (new row)) cols is (k - row * w) (omega arith) (omega (arith, high))

  -- or one does
  other_in_row : is_none (least_from (differ_in (old row) (new row)) 0 cols) ≡ false → (k : ℕ) × (k < row * w + cols) × (here k ≡ true)
  other_in_row is =
      elim (least_cases (differ_in (old row) (new row)) cols 0) [
        | inl none ↦ absurd (false≢true (sym is ∙ ap is_none none.0))
        | inr found ↦
            (row * w + found.0, omega (arith, found.2.high), by_index w row found.0 old new (omega (arith, found.2.high, left)) ∙ found.2.passes)
      ]

-- no index up to a row differs, and none in its first columns
pub same_to : (w row cols : ℕ) (old new : ℕ → ℕ → StyledCell) (same : Bool) → cols ≤ w → same ≡ is_none (least_from (differ_in (old row) (new row)) 0 cols) → same ≡ true
    → NonePasses (differ_in (indexed w old) (indexed w new)) 0 (row * w) → NonePasses (differ_in (indexed w old) (indexed w new)) 0 (row * w + cols)
same_to w row cols old new same left is did before k low high =
    elim (cases_lt k (row * w)) [
      | inl less ↦ before k low less
      | inr more ↦ same_in_row w row cols old new left (sym is ∙ did) k more high
    ]

-- some index before another one differs
some_before : (p : ℕ → Bool) (to k : ℕ) → k < to → p k ≡ true → false ≡ is_none (greatest_below p to)
some_before p to k less here = elim (greatest_cases p to) [
  | inl none ↦ absurd (false≢true (sym (none.1 k (omega arith) less) ∙ here))
  | inr found ↦ sym (ap is_none found.1)
]

-- one of the first columns of a row differs
pub other_before : (w row cols to : ℕ) (old new : ℕ → ℕ → StyledCell) (same : Bool) → cols ≤ w → row * w + cols ≤ to
    → same ≡ is_none (least_from (differ_in (old row) (new row)) 0 cols) → same ≡ false → false ≡ is_none (greatest_below (differ_in (indexed w old) (indexed w new)) to)
other_before w row cols to old new same left within is did_not =
    let found = other_in_row w row cols old new left (sym is ∙ did_not) in
    some_before (differ_in (indexed w old) (indexed w new)) to found.0 (omega (arith, found.1, within)) found.2

-- by the rows before that of an index, and the columns before it
pub same_before : (w to : ℕ) (old new : ℕ → ℕ → StyledCell) (same : Bool) → 0 < w → same ≡ is_none (least_from (differ_in (old (to / w)) (new (to / w))) 0 (to % w))
    → NonePasses (differ_in (indexed w old) (indexed w new)) 0 (to / w * w) → same ≡ is_none (greatest_below (differ_in (indexed w old) (indexed w new)) to)
same_before w to old new true wide is before =
    let p = differ_in (indexed w old) (indexed w new) in
    let left : to % w ≤ w = (let less : to % w < w = mod-lt to wide in omega (arith, less)) in
    let whole : to / w * w + to % w ≡ to = div-add-mod' to w in
    sym (ap is_none (greatest_below-none p to (λ k low high. same_to w (to / w) (to % w) old new true left is refl before k low (omega (arith, high, whole)))))
same_before w to old new false wide is before =
    let left : to % w ≤ w = (let less : to % w < w = mod-lt to wide in omega (arith, less)) in
    let whole : to / w * w + to % w ≡ to = div-add-mod' to w in
    other_before w (to / w) (to % w) to old new false left (omega (arith, whole)) is refl

-- where the cells of some rows end
pub ends_behind : (w rows end : ℕ) (cells : ℕ → ℕ → StyledCell) → 0 < end → end ≤ rows * w → is_used w cells (end - 1) ≡ true → NonePasses (is_used w cells) end (rows * w)
    → end ≡ end_of w rows cells
ends_behind w rows end cells some within here none =
    let found : greatest_below (is_used w cells) (rows * w) ≡ Some (end - 1) =
    greatest_below-is (is_used w cells) (rows * w) (end - 1) (omega (arith, some, within)) here (λ k low high. none k (omega (arith, low)) high) in
    rw found (omega (arith, some))

pub ends_nowhere : (w rows end : ℕ) (cells : ℕ → ℕ → StyledCell) → end ≤ 0 → NonePasses (is_used w cells) end (rows * w) → 0 ≡ end_of w rows cells
ends_nowhere w rows end cells low none =
    let found : greatest_below (is_used w cells) (rows * w) ≡ None = greatest_below-none (is_used w cells) (rows * w) (λ k from high. none k (omega (arith, low)) high) in
    rw found refl
