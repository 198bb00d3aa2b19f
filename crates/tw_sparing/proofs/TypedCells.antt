-- A picture on which cells are typed one after the other, from the cursor on.
use Rattle.std.proofs.Common.{◌≡◌, ◌<◌, ◌≤◌, ◌+◌, ◌-◌, ◌*◌, ◌/◌, ◌%◌, ℕ, zero, suc, cond, eqb, Some, ap, subst, ◌∙◌, sym, refl, inl, inr, arith}
use Rattle.std.proofs.Math.Nat.{mod-lt, div-lt_iff_lt-mul}
use Rattle.std.specs.Prelude.{[], ◌∷◌, ◌++◌, map}
use Rattle.std.proofs.lemmas.Bool.{cases_eq, cases_lt, eq-eqb, ne_eqb}
use Rattle.std.proofs.lemmas.Nat.{div-mul-add, mod-mul-add, mul-le, div-add-mod'}
use Rattle.laws_screens.proofs.LineOfCells.{put-one}
use Rattle.laws_screens.specs.Strokes.{PictureOf, put_in, step, steps_on, scrolled}
use Rattle.laws_screens.specs.Strokes.Stroke.{Put}
use Rattle.laws_screens.specs.Pens.{glyph_stroke, strokes_of}
use Rattle.laws_screens.specs.StyledCells.{StyledCell, styled}
use Rattle.tw_sparing.specs.SingleCharacters.{IsSingle}
use Rattle.tw_sparing.specs.declared.hand.Hand.{Hand}
use Rattle.tw_sparing.specs.Redrawings.{Redrawing, under, hand_index, indexed, typed_in_cell, cell_redrawn, cells_redrawn}
use Rattle.tw_sparing.proofs.SingleCharacters.{number_typed}
use Rattle.tw_sparing.proofs.DrawnRows.{Holds, redrawn_on, redrawn_both, Leads, leads_then, leads_ease, is_under, put_here, put_there, put_beside, put_away, unscrolled, rows_inside}

-- the row and the column of an index
module _ (w k row col : ℕ) (at : row * w + col ≡ k) where
  pub inside_row : col < w → (k / w ≡ row) × (k % w ≡ col)
  inside_row left = (ap (λ n. n / w) (sym at) ∙ div-mul-add row w col left, ap (λ n. n % w) (sym at) ∙ mod-mul-add row w col left)

  after_row : 0 < w → col ≡ w → (k / w ≡ row + 1) × (k % w ≡ 0)
  after_row some past =
      let next : k ≡ suc row * w + 0 = omega (arith, at, past) in (
        ap (λ n. n / w) next ∙ div-mul-add (suc row) w 0 some ∙ omega arith,
        ap (λ n. n % w) next ∙ mod-mul-add (suc row) w 0 some,
      )

-- a cell that another place is given
put_elsewhere : {C : Type 0} (f : ℕ → ℕ → C) (r c : ℕ) (x : C) (i j : ℕ) → (i ≡ r → j ≡ c → ⊥) → put_in f r c x i j ≡ f i j
put_elsewhere f r c x i j other = elim (cases_eq i r) [
  | inl e ↦ ap (λ n. put_in f r c x n j) e ∙ put_beside f r c x j (other e) ∙ ap (λ n. f n j) (sym e)
  | inr n ↦ put_away f r c x i j n
]

module _ (h w : ℕ) (some : 0 < w) where
  -- the row from which on a picture shows what it showed from row s on, once its cursor has gone to row r of that
  abbrev pub top_after : ℕ → ℕ → ℕ
  top_after s r = s - (s + r + 1 - h)

  -- the cell of an index is typed where the cursor stands before it, and the rows go up as far as that needs
  record TypedAt (s k : ℕ) (x : StyledCell) (hand : Hand) (d : Redrawing) (p : PictureOf StyledCell) : Type 0 where
    pub leads : Leads h w (top_after s (k / w)) hand d p
    pub row : d.hand.row ≡ k / w
    pub col : d.hand.col ≡ k % w + 1
    pub cells : (i j : ℕ) → (redrawn_on h w hand d p).cell i j ≡ put_in p.cell (s + k / w) (k % w) x (i + (s - top_after s (k / w))) j

  module _ (s k ch : ℕ) (hand : Hand) (p : PictureOf StyledCell) (low : k / w < h) (edge : hand.col ≤ w) (at : hand_index w hand ≡ k) (inside : p.row < h)
      (single : IsSingle ch) (holds : Holds s hand p) where
    abbrev inked : StyledCell
    inked = record { ch = ch; attributes = hand.attributes }

    abbrev wrapped : PictureOf StyledCell
    wrapped = record { cell = put_in p.cell (p.row + 1) 0 inked; row = p.row + 1; col = 1 }

    put_is : redrawn_on h w hand (typed_in_cell w k ch hand) p ≡ scrolled (Some h) (cond (eqb p.col w) wrapped (put_here h w inked p))
    put_is =
        ap (λ g. steps_on (Some h) w (map (glyph_stroke styled hand.attributes) g ++ []) p) (number_typed ch single).drawn
        ∙ ap (λ n. scrolled (Some h) (step w (Put (record { ch = n; attributes = hand.attributes } ∷ [])) p)) (number_typed ch single).number
        ∙ ap (scrolled (Some h)) (put-one w inked p (omega (arith, holds.col, edge)))

    typed_inside : hand.col < w → TypedAt s k inked hand (typed_in_cell w k ch hand) p
    typed_inside left =
        let place = inside_row w k hand.row hand.col at left in
        let is : redrawn_on h w hand (typed_in_cell w k ch hand) p ≡ scrolled (Some h) (put_here h w inked p) =
        put_is ∙ ap (λ b. scrolled (Some h) (cond b wrapped (put_here h w inked p))) (ne_eqb p.col w (λ e. omega (arith, e, holds.col, left))) in
        let still = unscrolled h (put_here h w inked p) inside in
        let fixed : s ≡ top_after s (k / w) = omega (arith, place.0, holds.row, inside) in
        record {
          leads = record {
            kept = refl;
            holds = record {
              row = ap (λ (q : PictureOf StyledCell). q.row) is ∙ still.0 ∙ omega (arith, holds.row, place.0, fixed);
              col = ap (λ (q : PictureOf StyledCell). q.col) is ∙ omega (arith, holds.col, place.1);
            };
            stays = (tt, tt);
          };
          row = refl;
          col = refl;
          cells = λ i j.
              ap (λ (q : PictureOf StyledCell). q.cell i j) is ∙ still.1 i j
              ∙ ap (λ r. put_in p.cell r p.col inked i j) (let e : p.row ≡ s + k / w = omega (arith, holds.row, place.0) in e)
              ∙ ap (λ c. put_in p.cell (s + k / w) c inked i j) (holds.col ∙ sym place.1)
              ∙ ap (λ n. put_in p.cell (s + k / w) (k % w) inked n j) (let e : i ≡ i + (s - top_after s (k / w)) = omega (arith, fixed) in e);
        }

    typed_after : hand.col ≡ w → TypedAt s k inked hand (typed_in_cell w k ch hand) p
    typed_after past =
        let place = after_row w k hand.row hand.col at some past in
        let is : redrawn_on h w hand (typed_in_cell w k ch hand) p ≡ scrolled (Some h) wrapped =
        put_is ∙ ap (λ b. scrolled (Some h) (cond b wrapped (put_here h w inked p))) (eq-eqb p.col w (holds.col ∙ past)) in
        let up : p.row + 1 ≡ s + k / w = omega (arith, holds.row, place.0) in
        record {
          leads = record {
            kept = refl;
            holds = record {
              row = ap (λ (q : PictureOf StyledCell). q.row) is ∙ omega (arith, up, low);
              col = ap (λ (q : PictureOf StyledCell). q.col) is ∙ omega (arith, place.1);
            };
            stays = (tt, tt);
          };
          row = refl;
          col = refl;
          cells = λ i j.
              ap (λ (q : PictureOf StyledCell). q.cell i j) is
              ∙ ap (λ r. put_in p.cell r 0 inked (i + (p.row + 1 + 1 - h)) j) up
              ∙ ap (λ c. put_in p.cell (s + k / w) c inked (i + (p.row + 1 + 1 - h)) j) (sym place.1)
              ∙ ap (λ n. put_in p.cell (s + k / w) (k % w) inked n j) (let e : i + (p.row + 1 + 1 - h) ≡ i + (s - top_after s (k / w)) = omega (arith, up, low) in e);
        }

    typed : TypedAt s k inked hand (typed_in_cell w k ch hand) p
    typed = elim (cases_lt hand.col w) [ inl left ↦ typed_inside left | inr past ↦ typed_after (omega (arith, edge, past)) ]

  -- so it is under the cell's attributes
  index_inked : (s k : ℕ) (cells : ℕ → ℕ → StyledCell) (hand : Hand) (p : PictureOf StyledCell) → k / w < h → hand.col ≤ w → hand_index w hand ≡ k → p.row < h
      → IsSingle (indexed w cells k).ch → Holds s hand p → TypedAt s k (indexed w cells k) hand (cell_redrawn w cells k hand) p
  index_inked s k cells hand p low edge at inside single holds =
      let x : StyledCell = indexed w cells k in
      let u = is_under h w s x.attributes hand p holds in
      let first : Redrawing = under x.attributes hand in
      let more : Hand → Redrawing = typed_in_cell w k x.ch in
      let q : PictureOf StyledCell = redrawn_on h w hand first p in
      let same_index : hand_index w first.hand ≡ k = ap (λ r. r * w + first.hand.col) u.row ∙ ap (λ c. hand.row * w + c) u.col ∙ at in
      let b = typed s k x.ch first.hand q low (omega (arith, u.col, edge)) same_index (rows_inside h w (strokes_of styled hand.attributes first.changes) p inside) single u.leads.holds in
      record {
        leads = leads_then h w s (top_after s (k / w)) hand first more p u.leads b.leads;
        row = b.row;
        col = b.col;
        cells = λ i j.
            ap (λ (v : PictureOf StyledCell). v.cell i j) (redrawn_both h w hand first more p u.leads.kept) ∙ b.cells i j
            ∙ ap (λ (v : PictureOf StyledCell). put_in v.cell (s + k / w) (k % w) (record { ch = x.ch; attributes = first.hand.attributes }) (i + (s - top_after s (k / w))) j) u.same
            ∙ ap (λ a. put_in p.cell (s + k / w) (k % w) (record { ch = x.ch; attributes = a }) (i + (s - top_after s (k / w))) j) u.attributes;
      }

  -- n cells from index k on are shown, all other cells are as they were, and all of them have gone up as far as the
  -- cursor's row needs
  pub record WentOn (s k n : ℕ) (cells : ℕ → ℕ → StyledCell) (hand : Hand) (d : Redrawing) (p : PictureOf StyledCell) : Type 0 where
    pub leads : Leads h w (top_after s d.hand.row) hand d p
    pub down : hand.row ≤ d.hand.row
    pub edge : d.hand.col ≤ w
    pub at : hand_index w d.hand ≡ k + n
    pub low : (limit : ℕ) → hand.row < limit → k + n ≤ limit * w → d.hand.row < limit
    pub inside : (i j : ℕ) → j < w → k ≤ i * w + j → i * w + j < k + n → (redrawn_on h w hand d p).cell (top_after s d.hand.row + i) j ≡ cells i j
    pub before : (i j : ℕ) → j < w → i * w + j < k → (redrawn_on h w hand d p).cell (top_after s d.hand.row + i) j ≡ p.cell (s + i) j
    pub behind : (i j : ℕ) → j < w → k + n ≤ i * w + j → (redrawn_on h w hand d p).cell (top_after s d.hand.row + i) j ≡ p.cell (s + i) j
    pub outside : (i j : ℕ) → w ≤ j → (redrawn_on h w hand d p).cell (top_after s d.hand.row + i) j ≡ p.cell (s + i) j
    pub above : (i j : ℕ) → i < top_after s d.hand.row → (redrawn_on h w hand d p).cell i j ≡ p.cell (i + (s - top_after s d.hand.row)) j

  -- the index of a place
  index_is : (i j k : ℕ) → j < w → i * w + j ≡ k → (i ≡ k / w) × (j ≡ k % w)
  index_is i j k left e = let place = inside_row w k i j e left in (sym place.0, sym place.1)

  other_place : (s i j k : ℕ) → (i * w + j ≡ k → ⊥) → s + i ≡ s + k / w → j ≡ k % w → ⊥
  other_place s i j k other row col =
      let same : i ≡ k / w = omega (arith, row) in
      other (ap (λ n. n * w + j) same ∙ ap (λ n. k / w * w + n) col ∙ div-add-mod' k w)

  pub went_on : (s k n : ℕ) (cells : ℕ → ℕ → StyledCell) (hand : Hand) (p : PictureOf StyledCell) → k + n ≤ h * w → hand.col ≤ w → hand_index w hand ≡ k → p.row < h
      → ((m : ℕ) → k ≤ m → m < k + n → IsSingle (indexed w cells m).ch) → Holds s hand p
      → WentOn s k n cells hand (cells_redrawn w cells k n hand) p
  went_on s k zero cells hand p room edge at inside single holds =
      let fixed : top_after s hand.row ≡ s = omega (arith, holds.row, inside) in
      record {
        leads = subst (λ t. Leads h w t hand (cells_redrawn w cells k 0 hand) p) (sym fixed) (leads_ease h w s hand p holds);
        down = omega arith;
        edge = edge;
        at = at ∙ omega arith;
        low = λ limit from to. from;
        inside = λ i j left from to. absurd (omega (arith, from, to));
        before = λ i j left to. ap (λ n. p.cell (n + i) j) fixed;
        behind = λ i j left from. ap (λ n. p.cell (n + i) j) fixed;
        outside = λ i j right. ap (λ n. p.cell (n + i) j) fixed;
        above = λ i j up. ap (λ n. p.cell n j) (let e : i ≡ i + (s - top_after s hand.row) = omega (arith, fixed) in e);
      }
  went_on s k (suc n) cells hand p room edge at inside single holds =
      let x : StyledCell = indexed w cells k in
      let low : k / w < h = (div-lt_iff_lt-mul some).1 (omega (arith, room)) in
      let first : Redrawing = cell_redrawn w cells k hand in
      let more : Hand → Redrawing = cells_redrawn w cells (suc k) n in
      let a = index_inked s k cells hand p low edge at inside (single k (omega arith) (omega arith)) holds in
      let mid : ℕ = top_after s (k / w) in
      let q : PictureOf StyledCell = redrawn_on h w hand first p in
      let next_at : hand_index w first.hand ≡ suc k = (let whole : k / w * w + k % w ≡ k = div-add-mod' k w in omega (arith, whole)) in
      let next_edge : first.hand.col ≤ w = (let within : k % w < w = mod-lt k some in omega (arith, within)) in
      let b = went_on (top_after s (k / w)) (suc k) n cells first.hand q (omega (arith, room)) next_edge next_at (rows_inside h w (strokes_of styled hand.attributes first.changes) p inside)
      (λ m from to. single m (omega (arith, from)) (omega (arith, to))) a.leads.holds in
      let d : Redrawing = cells_redrawn w cells k (suc n) hand in
      let last : PictureOf StyledCell = redrawn_on h w first.hand (more first.hand) q in
      let to_last : (i j : ℕ) → (redrawn_on h w hand d p).cell i j ≡ last.cell i j = λ i j. ap (λ (v : PictureOf StyledCell). v.cell i j) (redrawn_both h w hand first more p a.leads.kept) in
      let end : top_after (top_after s (k / w)) d.hand.row ≡ top_after s d.hand.row = (let down = b.down in omega (arith, down)) in
      let from_row : hand.row ≤ k / w = first_row in
      let elsewhere : (i j : ℕ) → (s + i ≡ s + k / w → j ≡ k % w → ⊥) → q.cell (mid + i) j ≡ p.cell (s + i) j =
      λ i j other. a.cells (top_after s (k / w) + i) j ∙ ap (λ n. put_in p.cell (s + k / w) (k % w) x n j) (let e : mid + i + (s - mid) ≡ s + i = omega arith in e)
      ∙ put_elsewhere p.cell (s + k / w) (k % w) x (s + i) j other in
      record {
        leads = subst (λ t. Leads h w t hand (cells_redrawn w cells k (suc n) hand) p) end (leads_then h w (top_after s (k / w)) _ hand first more p a.leads b.leads);
        down = (let later = b.down in omega (arith, later, from_row));
        edge = b.edge;
        at = b.at ∙ omega arith;
        low = λ limit from to. b.low limit ((div-lt_iff_lt-mul some).1 (omega (arith, to))) (omega (arith, to));
        inside = λ i j left from to. ap (λ t. (redrawn_on h w hand d p).cell (t + i) j) (sym end) ∙ to_last _ j ∙ elim (cases_eq (i * w + j) k) [
          | inl e ↦
              let place = index_is i j k left e in
              b.before i j left (omega (arith, e)) ∙ a.cells (top_after s (k / w) + i) j
              ∙ ap (λ n. put_in p.cell (s + k / w) (k % w) x n j) (let e : mid + i + (s - mid) ≡ s + k / w = omega (arith, place.0) in e)
              ∙ put_there p.cell (s + k / w) (k % w) x j place.1 ∙ ap (λ r. cells r (k % w)) (sym place.0) ∙ ap (λ c. cells i c) (sym place.1)
          | inr other ↦ b.inside i j left (omega (arith, from, other)) (omega (arith, to))
        ];
        before = λ i j left to.
            ap (λ t. (redrawn_on h w hand d p).cell (t + i) j) (sym end) ∙ to_last _ j ∙ b.before i j left (omega (arith, to)) ∙ elsewhere i j (other_place s i j k (λ e. omega (arith, e, to)));
        behind = λ i j left from.
            ap (λ t. (redrawn_on h w hand d p).cell (t + i) j) (sym end) ∙ to_last _ j ∙ b.behind i j left (omega (arith, from)) ∙ elsewhere i j (other_place s i j k (λ e. omega (arith, e, from)));
        outside = λ i j right.
            ap (λ t. (redrawn_on h w hand d p).cell (t + i) j) (sym end) ∙ to_last _ j ∙ b.outside i j right
            ∙ elsewhere i j (λ row col. let within : k % w < w = mod-lt k some in omega (arith, col, within, right));
        above = λ i j up.
            to_last i j ∙ b.above i j (omega (arith, up, end)) ∙ a.cells (i + (top_after s (k / w) - top_after (top_after s (k / w)) d.hand.row)) j
            ∙ ap (λ n. put_in p.cell (s + k / w) (k % w) x n j) (let down = b.down in let e : i + (mid - top_after mid d.hand.row) + (s - mid) ≡ i + (s - top_after s d.hand.row) = omega (arith, end) in e)
            ∙ put_away p.cell (s + k / w) (k % w) x (i + (s - top_after s d.hand.row)) j (λ e. omega (arith, e, up));
      }
    where
      first_row : hand.row ≤ k / w
      first_row = elim (cases_lt hand.col w) [
        | inl left ↦ let place = inside_row w k hand.row hand.col at left in omega (arith, place.0)
        | inr past ↦ let place = after_row w k hand.row hand.col at some (omega (arith, edge, past)) in omega (arith, place.0)
      ]

  -- n cells of row r are shown from column c on, and all else is as it was
  pub record RunTyped (s r c n : ℕ) (line : ℕ → StyledCell) (hand : Hand) (d : Redrawing) (p : PictureOf StyledCell) : Type 0 where
    pub leads : Leads h w s hand d p
    pub inside : (j : ℕ) → c ≤ j → j < c + n → (redrawn_on h w hand d p).cell (s + r) j ≡ line j
    pub before : (j : ℕ) → j < c → (redrawn_on h w hand d p).cell (s + r) j ≡ p.cell (s + r) j
    pub behind : (j : ℕ) → c + n ≤ j → (redrawn_on h w hand d p).cell (s + r) j ≡ p.cell (s + r) j
    pub others : (i j : ℕ) → (i ≡ s + r → ⊥) → (redrawn_on h w hand d p).cell i j ≡ p.cell i j

  module _ (s r c n : ℕ) (cells : ℕ → ℕ → StyledCell) (hand : Hand) (p : PictureOf StyledCell) (low : s + r < h) (room : c + n ≤ w)
      (single : (j : ℕ) → c ≤ j → j < c + n → IsSingle (cells r j).ch) (row : hand.row ≡ r) (col : hand.col ≡ c) (holds : Holds s hand p) where
    abbrev run : Redrawing
    run = cells_redrawn w cells (r * w + c) n hand

    -- the place of an index of the run
    pub run_place : (m : ℕ) → r * w + c ≤ m → m < r * w + c + n → (m / w ≡ r) × (m % w ≡ m - r * w)
    run_place m from to = let at : r * w + (m - r * w) ≡ m = omega (arith, from) in inside_row w m r (m - r * w) at (omega (arith, from, to, room))

    run_single : (m : ℕ) → r * w + c ≤ m → m < r * w + c + n → IsSingle (indexed w cells m).ch
    run_single m from to =
        let place = run_place m from to in
        subst (λ i. IsSingle (cells i (m % w)).ch) (sym place.0) (subst (λ j. IsSingle (cells r j).ch) (sym place.1) (single (m - r * w) (omega (arith, from)) (omega (arith, from, to))))

    goes : WentOn s (r * w + c) n cells hand run p
    goes =
        let fits : suc r * w ≤ h * w = mul-le (suc r) w h w (omega (arith, low)) (omega arith) in
        went_on s (r * w + c) n cells hand p (omega (arith, fits, room)) (omega (arith, col, room)) (ap (λ i. i * w + hand.col) row ∙ ap (λ j. r * w + j) col) (omega (arith, holds.row, row, low)) run_single holds

    stays_in_row : top_after s run.hand.row ≡ s
    stays_in_row =
        let next : suc r * w ≤ suc r * w = omega arith in
        let last = goes.low (suc r) (omega (arith, row)) (omega (arith, next, room)) in
        omega (arith, last, low)

    pub run_typed : RunTyped s r c n (cells r) hand run p
    run_typed =
        let same : (i j : ℕ) → (redrawn_on h w hand run p).cell (s + i) j ≡ (redrawn_on h w hand run p).cell (top_after s run.hand.row + i) j =
        λ i j. ap (λ t. (redrawn_on h w hand run p).cell (t + i) j) (sym stays_in_row) in
        let fixed = stays_in_row in
        record {
          leads = subst (λ t. Leads h w t hand run p) stays_in_row goes.leads;
          inside = λ j from to. same r j ∙ goes.inside r j (omega (arith, to, room)) (omega (arith, from)) (omega (arith, to));
          before = λ j to. same r j ∙ goes.before r j (omega (arith, to, room)) (omega (arith, to));
          behind = λ j from. same r j ∙ elim (cases_lt j w) [ inl left ↦ goes.behind r j left (omega (arith, from)) | inr right ↦ goes.outside r j right ];
          others = λ i j other. elim (cases_lt i s) [
            | inl up ↦ goes.above i j (omega (arith, up, fixed)) ∙ ap (λ n. p.cell n j) (let e : i + (s - top_after s run.hand.row) ≡ i = omega (arith, fixed) in e)
            | inr from ↦
                let back : s + (i - s) ≡ i = omega (arith, from) in
                ap (λ n. (redrawn_on h w hand run p).cell n j) (sym back) ∙ same (i - s) j ∙ elsewhere (i - s) j (λ e. other (omega (arith, e, back))) ∙ ap (λ n. p.cell n j) back
          ];
        }
      where
        elsewhere : (i j : ℕ) → (i ≡ r → ⊥) → (redrawn_on h w hand run p).cell (top_after s run.hand.row + i) j ≡ p.cell (s + i) j
        elsewhere i j other = elim (cases_lt j w) [
          | inr right ↦ goes.outside i j right
          | inl left ↦ elim (cases_lt i r) [
            | inl up ↦ let rows : suc i * w ≤ r * w = mul-le (suc i) w r w up (omega arith) in goes.before i j left (omega (arith, rows, left))
            | inr down ↦ let rows : suc r * w ≤ i * w = mul-le (suc r) w i w (omega (arith, down, other)) (omega arith) in goes.behind i j left (omega (arith, rows, room))
          ]
        ]
