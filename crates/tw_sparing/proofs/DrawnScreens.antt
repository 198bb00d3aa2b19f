-- A picture whose rows are drawn where they differ is the new one.
use Rattle.std.proofs.Common.{◌≡◌, ◌<◌, ◌≤◌, ◌+◌, ◌-◌, ◌*◌, ℕ, zero, suc, false, Some, ap, ◌∙◌, sym, refl, inl, inr, arith}
use Rattle.std.proofs.lemmas.Bool.{cases_eq, cases_lt, false≢true}
use Rattle.tw_sparing.specs.Sending.{AreSingle}
use Rattle.tw_line.specs.Extremes.{IsLeast, IsGreatest}
use Rattle.laws_screens.specs.Strokes.{PictureOf}
use Rattle.laws_screens.specs.StyledCells.{StyledCell}
use Rattle.tw_sparing.specs.Differences.{differ_in, first_changed, last_changed}
use Rattle.tw_sparing.specs.declared.hand.Hand.{Hand}
use Rattle.tw_sparing.specs.Redrawings.{Redrawing, at_ease, led_to, cells_redrawn, span_redrawn, row_redrawn, rows_redrawn}
use Rattle.tw_sparing.proofs.DrawnRows.{Holds, redrawn_on, redrawn_both, Leads, leads_both, leads_ease, gone}
use Rattle.tw_sparing.proofs.TypedCells.{run_typed}
use Rattle.tw_sparing.proofs.FoundColumns.{least_cases, greatest_cases, same_where}

module _ (h w : ℕ) where
  -- row r shows a line in its columns, and all other rows are as they were
  pub record RowDrawn (s r : ℕ) (line : ℕ → StyledCell) (hand : Hand) (d : Redrawing) (p : PictureOf StyledCell) : Type 0 where
    pub leads : Leads h w s hand d p
    pub inside : (j : ℕ) → j < w → (redrawn_on h w hand d p).cell (s + r) j ≡ line j
    pub others : (i j : ℕ) → (i ≡ s + r → ⊥) → (redrawn_on h w hand d p).cell i j ≡ p.cell i j

  module _ (s r : ℕ) (old : ℕ → StyledCell) (new : ℕ → ℕ → StyledCell) (hand : Hand) (p : PictureOf StyledCell) (low : s + r < h) (single : AreSingle w (new r))
      (is_old : (j : ℕ) → j < w → p.cell (s + r) j ≡ old j) (holds : Holds s hand p) where
    -- a row that does not differ
    unchanged : ((j : ℕ) → j < w → differ_in old (new r) j ≡ false) → RowDrawn s r (new r) hand (at_ease hand) p
    unchanged same = record {
      leads = leads_ease h w s hand p holds;
      inside = λ j left. is_old j left ∙ same_where old (new r) j (same j left);
      others = λ i j other. refl;
    }

    -- a row that differs from one column to another
    changed : (first last : ℕ) → IsLeast (differ_in old (new r)) 0 w first → IsGreatest (differ_in old (new r)) w last
        → RowDrawn s r (new r) hand (span_redrawn w r new (Some first) (Some last) hand) p
    changed first last least greatest =
        let move : Redrawing = led_to r first hand in
        let g = gone h w s r first hand p low least.high holds in
        let q : PictureOf StyledCell = redrawn_on h w hand move p in
        let n : ℕ = last + 1 - first in
        let in_order : first ≤ last = ordered in
        let b = run_typed h w (omega (arith, least.high)) s r first (last + 1 - first) new move.hand q low (omega (arith, greatest.high, in_order))
        (λ j from to. single j (omega (arith, to, greatest.high, in_order))) g.row g.col g.leads.holds in
        let run : Hand → Redrawing = cells_redrawn w new (r * w + first) (last + 1 - first) in
        let is = redrawn_both h w hand move run p g.leads.kept in
        let end : PictureOf StyledCell = redrawn_on h w move.hand (run move.hand) q in
        let to_end : (i j : ℕ) → (redrawn_on h w hand (span_redrawn w r new (Some first) (Some last) hand) p).cell i j ≡ end.cell i j = λ i j. ap (λ (v : PictureOf StyledCell). v.cell i j) is in
        record {
          leads = leads_both h w s hand move run p g.leads b.leads;
          inside = λ j left. elim (cases_lt j first) [
            | inl front ↦ to_end (s + r) j ∙ b.before j front ∙ g.cells (s + r) j ∙ is_old j left ∙ same_where old (new r) j (least.first j (omega arith) front)
            | inr from ↦ elim (cases_lt last j) [
              | inl back ↦ to_end (s + r) j ∙ b.behind j (omega (arith, back, in_order)) ∙ g.cells (s + r) j ∙ is_old j left ∙ same_where old (new r) j (greatest.last j back left)
              | inr to ↦ to_end (s + r) j ∙ b.inside j from (omega (arith, to, in_order))
            ]
          ];
          others = λ i j other. to_end i j ∙ b.others i j other ∙ g.cells i j;
        }
      where
        ordered : first ≤ last
        ordered = elim (cases_lt last first) [ inl less ↦ absurd (false≢true (sym (least.first last (omega arith) less) ∙ greatest.passes)) | inr up ↦ up ]

    pub row_drawn : RowDrawn s r (new r) hand (span_redrawn w r new (first_changed w old (new r)) (last_changed w old (new r)) hand) p
    row_drawn = elim (least_cases (differ_in old (new r)) w 0) [
      | inl none ↦ rw none.0 (unchanged (λ j left. none.1 j (omega arith) (omega (arith, left))))
      | inr found ↦ elim (greatest_cases (differ_in old (new r)) w) [
        | inl none ↦ absurd (false≢true (sym (none.1 found.0 (omega arith) (omega (arith, found.2.high))) ∙ found.2.passes))
        | inr last ↦ rw (found.1, last.1) (changed found.0 last.0 (record {
          low = omega arith;
          high = omega (arith, found.2.high);
          passes = found.2.passes;
          first = found.2.first;
        }) last.2)
      ]
    ]

  -- ---- screens

  -- n rows from row r on show the new lines in their columns, and all other rows are as they were
  pub record RowsDrawn (s r n : ℕ) (new : ℕ → ℕ → StyledCell) (hand : Hand) (d : Redrawing) (p : PictureOf StyledCell) : Type 0 where
    pub leads : Leads h w s hand d p
    pub inside : (i j : ℕ) → r ≤ i → i < r + n → j < w → (redrawn_on h w hand d p).cell (s + i) j ≡ new i j
    pub above : (i j : ℕ) → i < s + r → (redrawn_on h w hand d p).cell i j ≡ p.cell i j
    pub below : (i j : ℕ) → s + (r + n) ≤ i → (redrawn_on h w hand d p).cell i j ≡ p.cell i j

  pub rows_drawn : (s r n : ℕ) (old new : ℕ → ℕ → StyledCell) (hand : Hand) (p : PictureOf StyledCell) → s + (r + n) ≤ h
      → ((i : ℕ) → r ≤ i → i < r + n → AreSingle w (new i))
      → ((i j : ℕ) → r ≤ i → i < r + n → j < w → p.cell (s + i) j ≡ old i j) → Holds s hand p
      → RowsDrawn s r n new hand (rows_redrawn w old new r n hand) p
  rows_drawn s r zero old new hand p low single is_old holds = record {
    leads = leads_ease h w s hand p holds;
    inside = λ i j from to left. absurd (omega (arith, from, to));
    above = λ i j to. refl;
    below = λ i j from. refl;
  }
  rows_drawn s r (suc n) old new hand p low single is_old holds =
      let first : Redrawing = row_redrawn w old new r hand in
      let a = row_drawn s r (old r) new hand p (omega (arith, low)) (single r (omega arith) (omega arith)) (λ j left. is_old r j (omega arith) (omega arith) left) holds in
      let q : PictureOf StyledCell = redrawn_on h w hand first p in
      let b = rows_drawn s (suc r) n old new first.hand q (omega (arith, low)) (λ i from to. single i (omega (arith, from)) (omega (arith, to)))
      (λ i j from to left. a.others (s + i) j (λ e. omega (arith, e, from)) ∙ is_old i j (omega (arith, from)) (omega (arith, to)) left) a.leads.holds in
      let is = redrawn_both h w hand first (rows_redrawn w old new (suc r) n) p a.leads.kept in
      let end : PictureOf StyledCell = redrawn_on h w first.hand (rows_redrawn w old new (suc r) n first.hand) q in
      let to_end : (i j : ℕ) → (redrawn_on h w hand (rows_redrawn w old new r (suc n) hand) p).cell i j ≡ end.cell i j = λ i j. ap (λ (v : PictureOf StyledCell). v.cell i j) is in
      record {
        leads = leads_both h w s hand first (rows_redrawn w old new (suc r) n) p a.leads b.leads;
        inside = λ i j from to left. elim (cases_eq i r) [
          | inl e ↦ to_end (s + i) j ∙ b.above (s + i) j (omega (arith, e)) ∙ ap (λ k. q.cell (s + k) j) e ∙ a.inside j left ∙ ap (λ k. new k j) (sym e)
          | inr more ↦ to_end (s + i) j ∙ b.inside i j (omega (arith, from, more)) (omega (arith, to)) left
        ];
        above = λ i j to. to_end i j ∙ b.above i j (omega (arith, to)) ∙ a.others i j (λ e. omega (arith, e, to));
        below = λ i j from. to_end i j ∙ b.below i j (omega (arith, from)) ∙ a.others i j (λ e. omega (arith, e, from));
      }
