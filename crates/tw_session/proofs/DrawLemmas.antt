-- How steps of a painting follow one another.
use Rattle.std.proofs.Common.{◌≡◌, ℕ, Bool, false, ◌&&◌, List, [], ◌∷◌, ◌++◌, refl, ap, sym, ◌∙◌, append_assoc, map, Result, Ok, Err}
use Rattle.std.specs.List.{list_all}
use Rattle.std.proofs.lemmas.Bool.{and_from, and_left, and_right}
use Rattle.std.proofs.lemmas.List.{map-append}
use Rattle.std.proofs.lemmas.List.Folds.{list_all-append}
use Rattle.tw_surface.specs.ChangeView.{ChangeView, Batch}
use Rattle.tw_surface.specs.Places.{Place, place_after, place_after_all, places_of_change, places_of_all, origin, is_in_range}
use Rattle.tw_surface.specs.Drawings.{Drawing, place}
use Rattle.tw_surface.proofs.DrawingLemmas.{place_after_all-append}
use Rattle.tw_session.specs.declared.error.Error.{Error}
use Rattle.tw_session.specs.declared.error.Error.TheVariants.{EndOfFile, Recursive, ZeroSize, SizeOutOfRange, CandidateDoesNotFit, Memory, Terminal}
use Rattle.tw_host.specs.declared.host.OutputElement.{OutputElement}
use Rattle.tw_host.specs.ElementView.{element_view, element_change, changes_of}
use Rattle.tw_session.specs.DrawSteps.{IsStepRefusal, stay_in_range, with_all, Drawn, Draws}

-- the places of two lists of changes
pub places_of_all-append : (cols : ℕ) (a b : Batch) (p : Place)
    → places_of_all cols (a ++ b) p ≡ places_of_all cols a p ++ places_of_all cols b (place_after_all cols a p)
places_of_all-append cols [] b p = refl
places_of_all-append cols (change ∷ a) b p =
    ap (λ ps. places_of_change cols change p ++ ps) (places_of_all-append cols a b (place_after cols change p))
    ∙ sym (append_assoc (places_of_change cols change p) (places_of_all cols a (place_after cols change p)) _)

-- the place after more changes
pub place-with_all : (d : Drawing) (a : Batch) → place (with_all d a) ≡ place_after_all d.cols a (place d)
place-with_all d a = place_after_all-append d.cols d.changes a origin

-- two lists of changes stay in range where the first does and the second does after it
pub stay_in_range-append : (d : Drawing) (a b : Batch) → stay_in_range d (a ++ b) ≡ (stay_in_range d a && stay_in_range (with_all d a) b)
stay_in_range-append d a b =
    ap (list_all is_in_range) (places_of_all-append d.cols a b (place d))
    ∙ list_all-append is_in_range (places_of_all d.cols a (place d)) (places_of_all d.cols b (place_after_all d.cols a (place d)))
    ∙ ap (λ p. stay_in_range d a && list_all is_in_range (places_of_all d.cols b p)) (sym (place-with_all d a))

-- where a step is refused, so is what it is a part of
pub refused-along : (a b : Bool) (e : Error) → (a ≡ false → b ≡ false) → IsStepRefusal a e → IsStepRefusal b e
refused-along a b (Memory x) f h = tt
refused-along a b SizeOutOfRange f h = f h
refused-along a b EndOfFile f h = h
refused-along a b Recursive f h = h
refused-along a b ZeroSize f h = h
refused-along a b CandidateDoesNotFit f h = h
refused-along a b (Terminal x) f h = h

-- a first step is refused
pub refused-first : (d : Drawing) (a b : Batch) (e : Error) → IsStepRefusal (stay_in_range d a) e → IsStepRefusal (stay_in_range d (a ++ b)) e
refused-first d a b e h =
    refused-along _ _ e (λ out. stay_in_range-append d a b ∙ and_left _ _ out) h

-- a later step is refused
pub refused-later : (old new : Drawing) (a b : Batch) (e : Error) → Drawn a old new → IsStepRefusal (stay_in_range new b) e → IsStepRefusal (stay_in_range old (a ++ b)) e
refused-later old new a b e first h =
    refused-along _ _ e (λ out. stay_in_range-append old a b ∙ and_right _ _ (ap (λ d. stay_in_range d b) (sym first.drawing) ∙ out)) h

-- two steps one after the other
pub drawn-append : (old mid new : Drawing) (a b : Batch) → Drawn a old mid → Drawn b mid new → Drawn (a ++ b) old new
drawn-append old mid new a b first second = record {
  drawing = second.drawing ∙ ap (λ d. with_all d b) first.drawing ∙ ap (λ cs. record old { changes = cs }) (append_assoc old.changes a b);
  in_range = stay_in_range-append old a b
      ∙ and_from (stay_in_range old a) (stay_in_range (with_all old a) b) first.in_range (ap (λ d. stay_in_range d b) (sym first.drawing) ∙ second.in_range);
}

-- a step after another
pub draws-later : (old mid new : Drawing) (a b : Batch) (result : Result Unit Error) → Drawn a old mid → Draws b mid new result → Draws (a ++ b) old new result
draws-later old mid new a b (Ok done) first second = drawn-append old mid new a b first second
draws-later old mid new a b (Err e) first second = refused-later old mid a b e first second

-- the changes of one element more
changes-push : (elements : List OutputElement) (element : OutputElement)
    → changes_of (map element_view (elements ++ element ∷ [])) ≡ changes_of (map element_view elements) ++ element_change (element_view element) ∷ []
changes-push elements element =
    ap changes_of (map-append element_view elements (element ∷ []))
    ∙ map-append element_change (map element_view elements) (element_view element ∷ [])

-- the changes of the elements before one, of that one and of those after it
changes-around : (all elements rest : List OutputElement) (element : OutputElement) → all ≡ elements ++ element ∷ rest
    → changes_of (map element_view all) ≡ changes_of (map element_view elements) ++ (element_change (element_view element) ∷ changes_of (map element_view rest))
changes-around all elements rest element e =
    ap (λ xs. changes_of (map element_view xs)) e
    ∙ ap changes_of (map-append element_view elements (element ∷ rest))
    ∙ map-append element_change (map element_view elements) (element_view element ∷ map element_view rest)

-- one element more is drawn
pub drawn-push : (old mid new : Drawing) (elements : List OutputElement) (element : OutputElement) (change : ChangeView)
    → change ≡ element_change (element_view element) → Drawn (changes_of (map element_view elements)) old mid → Drawn (change ∷ []) mid new
    → Drawn (changes_of (map element_view (elements ++ element ∷ []))) old new
drawn-push old mid new elements element change e first second =
    rw changes-push (drawn-append old mid new (changes_of (map element_view elements)) (element_change (element_view element) ∷ []) first (rw e at second))

-- one element more is refused
pub refused-at : (old mid : Drawing) (all elements rest : List OutputElement) (element : OutputElement) (change : ChangeView) (e : Error)
    → all ≡ elements ++ element ∷ rest → change ≡ element_change (element_view element) → Drawn (changes_of (map element_view elements)) old mid
    → IsStepRefusal (stay_in_range mid (change ∷ [])) e → IsStepRefusal (stay_in_range old (changes_of (map element_view all))) e
refused-at old mid all elements rest element change e parts same first refused =
    rw (changes-around all elements rest element parts)
    (refused-later old mid (changes_of (map element_view elements)) (element_change (element_view element) ∷ changes_of (map element_view rest)) e first
    (refused-first mid (element_change (element_view element) ∷ []) (changes_of (map element_view rest)) e (rw same at refused)))
