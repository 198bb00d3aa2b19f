-- What the size of the screen alone says of a painting.
use Rattle.std.proofs.Common.{◌≡◌, ◌⊎◌, inl, inr, ◌<◌, ◌≤◌, refl, arith, sym, ◌∙◌, Result, Ok, Err, if◌then◌else◌, Option, ◌++◌, ap, subst}
use Rattle.std.proofs.lemmas.Bool.{cases_lt}
use Rattle.std.proofs.lemmas.Bool.Decides.{nat_tests}
use Rattle.tw_surface.specs.declared.size.SizeFault.{SizeFault}
use Rattle.tw_surface.specs.declared.size.SizeFault.TheVariants as size_fault
use Rattle.tw_surface.specs.ChangeView.{Batch}
use Rattle.tw_surface.specs.Drawings.{Drawing}
use Rattle.tw_surface.specs.Scenes.{Scene}
use Rattle.tw_surface.specs.Paintings.{painting, Mark, mark_of}
use Rattle.tw_surface.specs.PaintingBatches.{start_of}
use Rattle.tw_terminal.specs.declared.terminal.ScreenSize.{ScreenSize}
use Rattle.tw_session.specs.declared.error.Error.{Error}
use Rattle.tw_session.specs.declared.error.Error.TheVariants.{EndOfFile, Recursive, CandidateDoesNotFit, Memory, Terminal}
use Rattle.tw_session.specs.declared.error.Error.TheVariants as error
use Rattle.tw_session.specs.Refusal.{Refusal, ZeroSize, SizeOutOfRange}
use Rattle.tw_session.specs.Painting.{Rendering, rendering_of, painted_on, is_paintable}
use Rattle.tw_session.specs.DrawSteps.{IsSized, IsUnpainted, size_error, IsStepRefusal, DrawnScene}

-- no rows or no columns
painted_on-zero : (size : ScreenSize) (scene : Scene) → (size.rows ≡ 0) ⊎ (size.cols ≡ 0) → painted_on size scene ≡ Err ZeroSize
unfolding painted_on
painted_on-zero size scene (inl e) = grind (arith, nat_tests)
painted_on-zero size scene (inr e) = grind (arith, nat_tests)

-- too many of them
painted_on-large : (size : ScreenSize) (scene : Scene) → 0 < size.rows → 0 < size.cols → (65535 < size.rows) ⊎ (65535 < size.cols) → painted_on size scene ≡ Err SizeOutOfRange
unfolding painted_on
painted_on-large size scene rows cols (inl e) = grind (arith, nat_tests)
painted_on-large size scene rows cols (inr e) = grind (arith, nat_tests)

-- a screen that is sized
pub painted_on-sized : (size : ScreenSize) (scene : Scene) → IsSized size
    → painted_on size scene ≡ (if is_paintable size.cols scene then Ok (painting size.cols scene) else Err SizeOutOfRange)
unfolding painted_on
painted_on-sized size scene h = grind (arith, nat_tests, h.rows, h.cols, h.few_rows, h.few_cols)

-- a screen has no rows or no columns, or too many of them, or it is sized
size_cases : (size : ScreenSize) → ((size.rows ≡ 0) ⊎ (size.cols ≡ 0)) ⊎ (((0 < size.rows) × (0 < size.cols) × ((65535 < size.rows) ⊎ (65535 < size.cols))) ⊎ IsSized size)
size_cases size =
    elim (cases_lt 0 size.rows) [
      | inr none ↦ inl (inl (omega arith))
      | inl rows ↦ elim (cases_lt 0 size.cols) [
        | inr none ↦ inl (inr (omega arith))
        | inl cols ↦ elim (cases_lt 65535 size.rows) [
          | inl many ↦ inr (inl (rows, cols, inl many))
          | inr few_rows ↦ elim (cases_lt 65535 size.cols) [
            | inl many ↦ inr (inl (rows, cols, inr many))
            | inr few_cols ↦ inr (inr (record { rows = rows; cols = cols; few_rows = few_rows; few_cols = few_cols }))
          ]
        ]
      ]
    ]

-- a size that is refused
pub refused-size : (size : ScreenSize) (scene : Scene) (result : Result Drawing SizeFault) (fault : SizeFault) (made : Drawing) → result ≡ Err fault
    → ((size.rows ≡ 0) ⊎ (size.cols ≡ 0) → result ≡ Err size_fault.ZeroSize)
    → (0 < size.rows → 0 < size.cols → (65535 < size.rows) ⊎ (65535 < size.cols) → result ≡ Err size_fault.OutOfRange)
    → (0 < size.rows → 0 < size.cols → size.rows ≤ 65535 → size.cols ≤ 65535 → result ≡ Ok made)
    → IsUnpainted size scene (size_error fault)
refused-size size scene result fault made is zero large ok =
    let P : SizeFault → Type 0 = λ f. IsUnpainted size scene (size_error f) in
    elim (size_cases size) [
      | inl none ↦ let z = zero none in let e : size_fault.ZeroSize ≡ fault = cc in subst P e (painted_on-zero size scene none)
      | inr more ↦ elim more [
        | inl many ↦ let l = large many.0 many.1 many.2 in let e : size_fault.OutOfRange ≡ fault = cc in subst P e (painted_on-large size scene many.0 many.1 many.2)
        | inr sized ↦ let o = ok sized.rows sized.cols sized.few_rows sized.few_cols in cc
      ]
    ]

-- a size that is not refused
pub sized-from : (size : ScreenSize) (result : Result Drawing SizeFault) (made : Drawing) → result ≡ Ok made
    → ((size.rows ≡ 0) ⊎ (size.cols ≡ 0) → result ≡ Err size_fault.ZeroSize)
    → (0 < size.rows → 0 < size.cols → (65535 < size.rows) ⊎ (65535 < size.cols) → result ≡ Err size_fault.OutOfRange)
    → IsSized size
sized-from size result made is zero large =
    elim (size_cases size) [
      | inl none ↦ let z = zero none in cc
      | inr more ↦ elim more [ inl many ↦ let l = large many.0 many.1 many.2 in cc | inr sized ↦ sized ]
    ]

-- a scene that is refused
pub refused-scene : (size : ScreenSize) (scene : Scene) (e : Error) → IsSized size → IsStepRefusal (is_paintable size.cols scene) e → IsUnpainted size scene e
refused-scene size scene (Memory x) sized h = sized
refused-scene size scene error.SizeOutOfRange sized h = painted_on-sized size scene sized ∙ rw h refl
refused-scene size scene EndOfFile sized h = absurd h
refused-scene size scene Recursive sized h = absurd h
refused-scene size scene error.ZeroSize sized h = absurd h
refused-scene size scene CandidateDoesNotFit sized h = absurd h
refused-scene size scene (Terminal x) sized h = absurd h

-- a scene that is painted
pub painted-scene : (size : ScreenSize) (scene : Scene) (before : Option Mark) (new : Drawing) (batch : Batch) (left : Mark) → IsSized size → DrawnScene size.cols scene new left
    → batch ≡ start_of before ++ new.changes → rendering_of before (painted_on size scene) ≡ Ok (record { changes = batch; mark = left })
painted-scene size scene before new batch left sized h e =
    let is_painting : painted_on size scene ≡ Ok (painting size.cols scene) = painted_on-sized size scene sized ∙ rw h.paintable refl in
    ap (rendering_of before) is_painting
    ∙ ap (λ b. as_rendered b (mark_of (painting size.cols scene))) (sym (e ∙ ap (λ b. start_of before ++ b) h.changes))
    ∙ ap (as_rendered batch) (sym h.leaves)
  where
    as_rendered : Batch → Mark → Result Rendering Refusal
    as_rendered changes mark = Ok (record { changes = changes; mark = mark })
