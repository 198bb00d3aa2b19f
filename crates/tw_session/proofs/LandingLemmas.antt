-- The boundaries of a line in which a text has taken the place of a range.
use Rattle.std.proofs.Common.{◌≡◌, ℕ, ◌+◌, ◌-◌, ◌<◌, ◌≤◌, List, ◌++◌, length, take, drop, get_or, refl, ap, ◌∙◌, arith}
use Rattle.std.specs.Str.{IsCharBoundary}
use Rattle.std.proofs.lemmas.List.{get_or_append_left, get_or-append_right, get_or-take, get_or-drop, length-append, length-take-le, length-drop}

module _ (line text : List ℕ) (start end : ℕ) (ordered : start ≤ end) (within : end ≤ length line) where
  -- the new line
  abbrev new_line : List ℕ
  new_line = take start line ++ (text ++ drop end line)

  -- its length
  length_new : length new_line ≡ start + (length text + (length line - end))
  length_new = simp (length-append, length-drop) (rw (length-take-le start line (omega arith)) refl)

  -- a byte before the text is the line's
  byte_before : (at : ℕ) → at < start → get_or new_line at 0 ≡ get_or line at 0
  byte_before at low = get_or_append_left (take start line) _ 0 at (rw (length-take-le start line (omega arith)) low) ∙ get_or-take start line at 0 low

  -- a byte in the text is the text's
  byte_inside : (at : ℕ) → start ≤ at → at < start + length text → get_or new_line at 0 ≡ get_or text (at - start) 0
  byte_inside at low high =
      get_or-append_right (take start line) _ start at 0 (length-take-le start line (omega arith)) low
      ∙ get_or_append_left text _ 0 (at - start) (omega arith)

  -- a byte after the text is the line's, as far after the range
  byte_behind : (k : ℕ) → get_or new_line (start + length text + k) 0 ≡ get_or line (end + k) 0
  byte_behind k =
      get_or-append_right (take start line) _ start (start + length text + k) 0 (length-take-le start line (omega arith)) (omega arith)
      ∙ get_or-append_right text _ (length text) (start + length text + k - start) 0 refl (omega arith)
      ∙ get_or-drop end line _ 0 ∙ ap (λ i. get_or line i 0) (omega arith)

  -- after the range a boundary goes along
  pub boundary_behind : (cursor : ℕ) → end ≤ cursor → IsCharBoundary line cursor → IsCharBoundary new_line (cursor + length text + start - end)
  boundary_behind cursor low cut =
      let place : cursor + length text + start - end ≡ start + length text + (cursor - end) = omega arith in
      let same : get_or new_line (cursor + length text + start - end) 0 ≡ get_or line cursor 0 =
      ap (λ i. get_or new_line i 0) place ∙ byte_behind (cursor - end) ∙ ap (λ i. get_or line i 0) (omega arith) in
      (omega (arith, length_new, cut.0), λ below high. rw same (cut.1 (omega (arith, length_new)) (rw same at high)))

  -- before the text a boundary of the line is one of the new line
  pub boundary_before : (at : ℕ) → at < start → IsCharBoundary line at → IsCharBoundary new_line at
  boundary_before at low cut =
      (omega (arith, length_new), λ below high. rw (byte_before at low) (cut.1 (omega arith) (rw (byte_before at low) at high)))

  -- and no other one is
  pub boundary_was_before : (at : ℕ) → at < start → IsCharBoundary new_line at → IsCharBoundary line at
  boundary_was_before at low cut =
      (omega arith, λ below high. rw (byte_before at low) at (cut.1 (omega (arith, length_new)) (rw (byte_before at low) high)))

  -- in the text a boundary of the text is one of the new line
  pub boundary_inside : (at : ℕ) → start ≤ at → at < start + length text → IsCharBoundary text (at - start) → IsCharBoundary new_line at
  boundary_inside at low high cut =
      (omega (arith, length_new), λ below lead. rw (byte_inside at low high) (cut.1 (omega arith) (rw (byte_inside at low high) at lead)))

  -- and no other one is
  pub boundary_was_inside : (at : ℕ) → start ≤ at → at < start + length text → IsCharBoundary new_line at → IsCharBoundary text (at - start)
  boundary_was_inside at low high cut =
      (omega arith, λ below lead. rw (byte_inside at low high) at (cut.1 (omega (arith, length_new)) (rw (byte_inside at low high) lead)))
