-- The computed places are those of the relation.
use Rattle.std.proofs.Common.{◌≡◌, ℕ, ◌+◌, ℤ, pos, ◌+ℤ◌, Bool, true, false, cond, leb, List, [], ◌∷◌, refl, ap, sym, ◌∙◌, subst, inl, inr, arith}
use Rattle.std.proofs.lemmas.Bool.{leb-true, leb-false, le-leb, lt-leb}
use Rattle.tw_surface.specs.declared.measure.Piece.{Piece}
use Rattle.tw_surface.specs.declared.measure.Piece.TheVariants.{Cr, Lf, CrLf, Wide}
use Rattle.tw_surface.specs.Places.{Place, LeadsTo, ArePlaces, next_place, places_after}
use Rattle.tw_surface.specs.Laws.{PlacesByRelation, PlacesCounted, LastPlace}

-- a place with this column and this row
place_is : (q : Place) (x : ℕ) (y : ℤ) → q.x ≡ x → q.y ≡ y → q ≡ record { x = x; y = y }
place_is q x y ex ey = ap (λ k. make k q.y) ex ∙ ap (λ k. make x k) ey
  where
    make : ℕ → ℤ → Place
    make x y = record { x = x; y = y }

leads-wide : (cols v : ℕ) (p : Place) (b : Bool) → leb (p.x + v) cols ≡ b
    → LeadsTo cols (Wide v) p (cond b (record p { x = p.x + v }) (record { x = v; y = p.y +ℤ pos 1 }))
leads-wide cols v p true e = inl (record { room = leb-true _ _ e; x = refl; y = refl })
leads-wide cols v p false e = inr (record { no_room = leb-false _ _ e; x = refl; y = refl })

-- a piece leads to the place that is computed
leads-next : (cols : ℕ) (piece : Piece) (p : Place) → LeadsTo cols piece p (next_place cols piece p)
leads-next cols Cr p = (refl, refl)
leads-next cols Lf p = (refl, refl)
leads-next cols CrLf p = (refl, refl)
leads-next cols (Wide v) p = leads-wide cols v p (leb (p.x + v) cols) refl

-- and to no other
leads-unique : (cols : ℕ) (piece : Piece) (p q : Place) → LeadsTo cols piece p q → q ≡ next_place cols piece p
leads-unique cols Cr p q h = place_is q _ _ h.0 h.1
leads-unique cols Lf p q h = place_is q _ _ h.0 h.1
leads-unique cols CrLf p q h = place_is q _ _ h.0 h.1
leads-unique cols (Wide v) p q (inl fits) = rw (le-leb (p.x + v) cols fits.room) (place_is q _ _ fits.x fits.y)
leads-unique cols (Wide v) p q (inr wraps) = rw (lt-leb (p.x + v) cols wraps.no_room) (place_is q _ _ wraps.x wraps.y)

are-places : (cols : ℕ) (pieces : List Piece) (p : Place) → ArePlaces cols pieces (p ∷ places_after cols pieces p)
are-places cols [] p = tt
are-places cols (piece ∷ more) p = (leads-next cols piece p, are-places cols more (next_place cols piece p))

places-unique : (cols : ℕ) (pieces : List Piece) (p : Place) (rest : List Place) → ArePlaces cols pieces (p ∷ rest) → rest ≡ places_after cols pieces p
places-unique cols [] p [] h = refl
places-unique cols [] p (q ∷ rest) h = absurd h
places-unique cols (piece ∷ more) p [] h = absurd h
places-unique cols (piece ∷ more) p (q ∷ rest) h =
    ap (λ r. q ∷ r) (places-unique cols more q rest h.1) ∙ ap (λ n. n ∷ places_after cols more n) (leads-unique cols piece p q h.0)

pub places-by-relation : PlacesByRelation
places-by-relation cols pieces p rest =
    let P : List Place → Type 0 = λ r. ArePlaces cols pieces (p ∷ r) in
    (places-unique cols pieces p rest, (λ e. subst P (sym e) (are-places cols pieces p)))

pub places-counted : PlacesCounted
places-counted cols [] p = refl
places-counted cols (piece ∷ more) p = let h = places-counted cols more (next_place cols piece p) in grind (arith, h)

pub last-place : LastPlace
last-place cols [] p = refl
last-place cols (piece ∷ more) p = last-place cols more (next_place cols piece p)

pub ruleset places_laws = (places-by-relation, places-counted, last-place)
