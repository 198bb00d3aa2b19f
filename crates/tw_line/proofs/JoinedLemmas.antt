-- Lines that stand one after the other in one text.
use Rattle.std.proofs.Common.{◌≡◌, ℕ, zero, suc, ◌+◌, ◌-◌, ◌<◌, ◌≤◌, List, [], ◌∷◌, ◌++◌, length, get_or, take, drop, refl, sym, ap, subst, ◌∙◌, arith, length-append, length-drop, ⊎_elim}
use Rattle.std.proofs.lemmas.Bool.{cases_lt}
use Rattle.std.proofs.lemmas.List.{take_all, drop_all, drop_at, length-take-le, take-append-le, drop-append-le}
use Rattle.std.proofs.Math.ListN.{get_or-append}
use Rattle.std.proofs.lemmas.List.Folds.{drop_split}
use Rattle.std.proofs.lemmas.Str.{IsCharBoundary-start, IsCharBoundary-end, IsCharBoundary-at_seam}
use Rattle.std.specs.List.{All, concat, slice_range}
use Rattle.std.specs.Str.{IsUtf8, IsCharBoundary}
use Rattle.tw_line.specs.Joined.{ends_from, lines_from, AreEnds}
use Rattle.tw_line.specs.NearestMatch.{line_at}

-- there are as many lines as end offsets
pub length-lines_from : (text : List ℕ) (start : ℕ) (ends : List ℕ) → length (lines_from text start ends) ≡ length ends
length-lines_from text start [] = refl
length-lines_from text start (end ∷ ends) = ap suc (length-lines_from text end ends)

pub inside_ends : (text ends : List ℕ) (start i : ℕ) (lines : List (List ℕ)) → lines_from text start ends ≡ lines → i < length lines → i < length ends
inside_ends text ends start i lines are inside = omega (arith, inside, ap length are, length-lines_from text start ends)

-- the line at an index is the text between its start and its end
pub line_at-from : (text : List ℕ) (start : ℕ) (ends : List ℕ) (i : ℕ) → i < length ends
    → line_at (lines_from text start ends) i ≡ slice_range text (get_or (start ∷ ends) i 0) (get_or ends i 0)
line_at-from text start [] i inside = absurd (omega (arith, inside))
line_at-from text start (end ∷ ends) zero inside = refl
line_at-from text start (end ∷ ends) (suc i) inside = line_at-from text end ends i (omega (arith, inside))

-- a text can be cut where a line starts and where it ends
pub record IsRange (text : List ℕ) (start end : ℕ) : Type 0 where
  pub order : start ≤ end
  pub start_boundary : IsCharBoundary text start
  pub end_boundary : IsCharBoundary text end

ends_cut : (text : List ℕ) (start : ℕ) (ends : List ℕ) (i : ℕ) → IsCharBoundary text start → AreEnds text start ends → i < length ends
    → IsRange text (get_or (start ∷ ends) i 0) (get_or ends i 0)
ends_cut text start [] i cut are inside = absurd (omega (arith, inside))
ends_cut text start (end ∷ ends) zero cut are inside = record { order = are.order; start_boundary = cut; end_boundary = are.boundary }
ends_cut text start (end ∷ ends) (suc i) cut are inside = ends_cut text end ends i are.boundary are.rest (omega (arith, inside))

pub line_range : (text ends : List ℕ) (i : ℕ) → IsUtf8 text → AreEnds text 0 ends → i < length ends
    → IsRange text (get_or (0 ∷ ends) i 0) (get_or ends i 0)
line_range text ends i utf8 are inside = ends_cut text 0 ends i (IsCharBoundary-start text utf8) are inside

-- the lines make up the text
pub concat_lines_from : (text : List ℕ) (start : ℕ) (ends : List ℕ) → AreEnds text start ends → concat (lines_from text start ends) ≡ drop start text
concat_lines_from text start [] are = sym (drop_all start text (omega (arith, are)))
concat_lines_from text start (end ∷ ends) are = ap (λ rest. slice_range text start end ++ rest) (concat_lines_from text end ends are.rest) ∙ sym (drop_split text start end are.order)

-- the end offsets are those of the lines
pub ends_from_lines : (text : List ℕ) (start : ℕ) (ends : List ℕ) → AreEnds text start ends → ends_from start (lines_from text start ends) ≡ ends
ends_from_lines text start [] are = refl
ends_from_lines text start (end ∷ ends) are =
    let here : start + length (slice_range text start end) ≡ end = omega (arith, length-take-le (end - start) (drop start text) (omega (arith, are.boundary.0, length-drop start text)), are.order) in
    rw here (ap (λ rest. end ∷ rest) (ends_from_lines text end ends are.rest))

-- the text can be cut at each end offset
pub boundaries : (text : List ℕ) (start : ℕ) (ends : List ℕ) → AreEnds text start ends → All (IsCharBoundary text) ends
boundaries text start [] are i d inside = absurd (omega (arith, inside))
boundaries text start (end ∷ ends) are zero d inside = are.boundary
boundaries text start (end ∷ ends) are (suc i) d inside = boundaries text end ends are.rest i d (omega (arith, inside))

module _ (text line : List ℕ) where
  -- a boundary stays one where a text follows
  IsCharBoundary-followed : (at : ℕ) → IsUtf8 line → IsCharBoundary text at → IsCharBoundary (text ++ line) at
  IsCharBoundary-followed at utf8 cut =
      ⊎_elim (λ inside. grind (arith, cut.0, cut.1, get_or-append text line 0 at inside, length-append text line))
      (λ past. subst (IsCharBoundary (text ++ line)) (omega (arith, cut.0, past)) (IsCharBoundary-at_seam (text ++ line) text line refl utf8))
      (cases_lt at (length text))

  -- what lies before the end of a text stays there
  slice_range-followed : (start end : ℕ) → start ≤ end → end ≤ length text → slice_range (text ++ line) start end ≡ slice_range text start end
  slice_range-followed start end order fits =
      ap (take (end - start)) (drop-append-le start text line (omega arith))
      ∙ take-append-le (end - start) (drop start text) line (omega (arith, length-drop start text))

  -- a line that is put after the text is the last one
  pub lines_from-push : (start : ℕ) (ends : List ℕ) → AreEnds text start ends
      → lines_from (text ++ line) start (ends ++ length (text ++ line) ∷ []) ≡ lines_from text start ends ++ line ∷ []
  lines_from-push start [] are =
      ap (λ t. t ∷ []) (ap (take (length (text ++ line) - start)) (drop_at text line start (sym are))
      ∙ take_all (length (text ++ line) - start) line (omega (arith, are, length-append text line)))
  lines_from-push start (end ∷ ends) are =
      rw (slice_range-followed start end are.order are.boundary.0) (ap (λ rest. slice_range text start end ∷ rest) (lines_from-push end ends are.rest))

  pub AreEnds-push : IsUtf8 line → (start : ℕ) (ends : List ℕ) → AreEnds text start ends → AreEnds (text ++ line) start (ends ++ length (text ++ line) ∷ [])
  AreEnds-push utf8 start [] are =
      record { order = omega (arith, are, length-append text line); boundary = IsCharBoundary-end (text ++ line); rest = refl }
  AreEnds-push utf8 start (end ∷ ends) are =
      record { order = are.order; boundary = IsCharBoundary-followed end utf8 are.boundary; rest = AreEnds-push utf8 end ends are.rest }
