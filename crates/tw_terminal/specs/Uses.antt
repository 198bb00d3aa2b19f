-- What contracts say of a terminal besides its state, call by call.
use Rattle.std.specs.Prelude.{◌≡◌, List, [], ◌∷◌}
use Rattle.tw_surface.specs.ChangeView.{Batch}

-- a call, as far as what is rendered goes: a batch was taken, a batch was refused, or nothing was rendered
pub data Call : Type 0 where
  Took : Batch → Call
  Refused : Call
  Other : Call

-- the batch that a call took, if any, before these
abbrev pub with_taken : Call → List Batch → List Batch
with_taken (Took batch) batches = batch ∷ batches
with_taken Refused batches = batches
with_taken Other batches = batches

module _ {T K : Type 0} (Follows : T → T → K → Type 0) where
  -- such calls one after the other, and nothing else, lead from the one to the other
  abbrev pub Uses : List K → T → T → Type 0
  Uses [] old new = new ≡ old
  Uses (call ∷ calls) old new = (between : T) × Follows old between call × Uses calls between new

  -- some calls do
  abbrev pub IsUsed : T → T → Type 0
  IsUsed old new = (calls : List K) × Uses calls old new
