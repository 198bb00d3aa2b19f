-- Calls of a terminal, one after the other.
use Rattle.std.proofs.Common.{List, [], ◌∷◌, ◌++◌, refl}
use Rattle.tw_terminal.specs.Uses.{Uses, IsUsed}

module _ {T K : Type 0} (Follows : T → T → K → Type 0) where
  -- no call
  pub unused : (it : T) → IsUsed Follows it it
  unused it = ([], refl)

  -- one call
  pub used_once : (call : K) (old new : T) → Follows old new call → IsUsed Follows old new
  used_once call old new follows = (call ∷ [], (new, follows, refl))

  -- some calls, and then others
  pub both_uses : (first then : List K) (old between new : T) → Uses Follows first old between
      → Uses Follows then between new → Uses Follows (first ++ then) old new
  both_uses [] then old between new first-uses then-uses = rw first-uses at then-uses
  both_uses (call ∷ more) then old between new (next, follows, more-uses) then-uses =
      (next, follows, both_uses more then next between new more-uses then-uses)

  -- calls led to the middle, and others from there on
  pub used_then : (old between new : T) → IsUsed Follows old between → IsUsed Follows between new
      → IsUsed Follows old new
  used_then old between new (first, first-uses) (then, then-uses) =
      (first ++ then, both_uses first then old between new first-uses then-uses)
