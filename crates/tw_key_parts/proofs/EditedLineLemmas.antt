-- What a walk through the history keeps.
use Rattle.std.proofs.Common.{◌≡◌, ◌∙◌, ◌+◌, ◌-◌, ℕ, zero, suc, List, [], ◌∷◌, length, Bool, true, false, nat_lt, map, string_bytes, Option, Some, None, option_map, refl, ap, sym, arith, if◌then◌else◌}
use Rattle.std.specs.List.{find}
use Rattle.std.proofs.lemmas.Bool.{eqb-true}
use Rattle.std.proofs.lemmas.Slice.Eq.{bytes_eq-Decides}
use Rattle.tw_hosts.specs.Words.{is_same}
use Rattle.tw_key_parts.specs.EditedLines.{IsPlace, LeftLine, LineIsKept, StepBackIsUndone, edited_view, is_same_place, line_left, place_led_to, text_at, text_left, walk_place, with_left}
use Rattle.tw_key_parts.specs.declared.edited_lines.EditedLine.{EditedLine}
use Rattle.tw_key_parts.specs.declared.edited_lines.WalkKey.TheVariants.{Older, Newer}

-- a place is the same as itself, and as no other
same_self : (place : Option ℕ) → is_same_place place place ≡ true
same_self None = refl
same_self (Some i) = search arith

same_is : (place other : Option ℕ) → is_same_place place other ≡ true → place ≡ other
same_is None None e = refl
same_is (Some i) (Some j) e = ap Some (eqb-true i j e)
same_is None (Some j) e = cc
same_is (Some i) None e = cc

module _ (lines : List (List ℕ)) (edited : List LeftLine) (place other : Option ℕ) (line : List ℕ) where
  -- a line that is as it was left is that of its place
  unchanged : (b : Bool) → is_same_place place other ≡ b → is_same line (line_left lines edited place) ≡ true
      → line_left lines edited other ≡ (if b then line else line_left lines edited other)
  unchanged true here e = ap (line_left lines edited) (sym (same_is place other here)) ∙ sym ((bytes_eq-Decides line (line_left lines edited place)).0 e)
  unchanged false here e = refl

  kept_by : (same b : Bool) → is_same_place place other ≡ b → is_same line (line_left lines edited place) ≡ same
      → line_left lines (with_left (if same then None else Some (record { place = place; text = line })) edited) other ≡ (if b then line else line_left lines edited other)
  kept_by true b here e = unchanged b here e
  kept_by false true here e = rw here refl
  kept_by false false here e = rw here refl

pub line_is_kept : LineIsKept
line_is_kept lines edited place other line = kept_by lines edited place other line _ _ refl refl

-- a step to the line before leads back
beside_back : (lines : List (List ℕ)) (place to : Option ℕ) → IsPlace lines place → place_led_to Older lines place ≡ Some to → place_led_to Newer lines to ≡ Some place
beside_back [] None to is leads = cc
beside_back (line ∷ lines) None to is leads =
    let at : Some (length (line ∷ lines) - 1) ≡ to = cc in
    let last : nat_lt (length (line ∷ lines) - 1 + 1) (length (line ∷ lines)) ≡ false = search arith in
    rw (sym at, last) refl
beside_back lines (Some zero) to is leads = cc
beside_back lines (Some (suc i)) to is leads =
    let at : Some i ≡ to = cc in
    let low : nat_lt (i + 1) (length lines) ≡ true = search (arith, is) in
    let next : i + 1 ≡ suc i = omega arith in
    rw (sym at, low, next) refl

pub step_back_is_undone : StepBackIsUndone
step_back_is_undone walk lines cut other to step is leads =
    let place = walk_place walk lines cut.line in
    rw (leads, beside_back lines place to is leads, line_is_kept lines walk.edited place place cut.line, same_self place) refl

-- the text of a view is that of what is viewed
pub find_viewed : (edited : List EditedLine) (place : Option ℕ) → text_left (map edited_view edited) place ≡ text_at edited place
find_viewed [] place = refl
find_viewed (line ∷ edited) place = by (is_same_place line.place place) (find_viewed edited place)
  where
    by : (b : Bool) → text_left (map edited_view edited) place ≡ text_at edited place
        → option_map (λ (line : LeftLine). line.text) (if b then Some (edited_view line) else find (λ (line : LeftLine). is_same_place line.place place) (map edited_view edited))
        ≡ option_map (λ (line : EditedLine). string_bytes line.text) (if b then Some line else find (λ (line : EditedLine). is_same_place line.place place) edited)
    by true rest = refl
    by false rest = rest
