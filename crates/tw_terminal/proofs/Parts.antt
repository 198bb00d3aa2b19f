-- A beginning of a batch, and what a `render` that fails has recorded.
use Rattle.std.proofs.Common.{◌≡◌, ◌≢◌, ℕ, zero, suc, List, [], ◌∷◌, length, take, min, refl, sym, ◌∙◌, ap, inl, inr}
use Rattle.std.proofs.lemmas.List.{take-map, take_min, append-nil}
use Rattle.tw_surface.specs.declared.change.Change.{Change}
use Rattle.tw_surface.specs.ChangeView.{Batch, batch_view, change_view}
use Rattle.tw_terminal.specs.TerminalState.{RenderFails, IsPart}
use Rattle.tw_terminal.specs.Script.{Script, after_failure, as_batch, on_terminal, with_batches}

-- changes that are some are one batch
pub as_batch-map : (changes : List Change) → length changes ≢ 0 → as_batch (batch_view changes) ≡ batch_view changes ∷ []
as_batch-map [] some = absurd (some refl)
as_batch-map (change ∷ changes) some = refl

-- the first changes, if there are any, are one batch
pub as_batch-take : (n : ℕ) (changes : List Change) → length (take (min n (length changes)) changes) ≢ 0
    → as_batch (take n (batch_view changes)) ≡ batch_view (take (min n (length changes)) changes) ∷ []
as_batch-take n changes some =
    ap as_batch (take-map change_view n changes ∙ ap batch_view (sym (take_min n changes)))
    ∙ as_batch-map (take (min n (length changes)) changes) some

-- a call that fails and records nothing
pub RenderFails-after_failure : (batch : Batch) (old new : Script) → new ≡ after_failure old → RenderFails batch old.terminal new.terminal
RenderFails-after_failure batch old new same = record {
  part = ([], inl refl, ap (λ script. script.terminal.batches) same ∙ sym (append-nil old.terminal.batches));
  rest = rw same refl;
}

-- a beginning as a batch is a part
pub IsPart-as_batch : (n : ℕ) (batch : Batch) → IsPart batch (as_batch (take n batch))
IsPart-as_batch zero batch = inl refl
IsPart-as_batch (suc n) [] = inl refl
IsPart-as_batch (suc n) (change ∷ changes) = inr (suc n, refl)

-- a call that fails once it has recorded a beginning
pub RenderFails-part : (n : ℕ) (batch : Batch) (old new : Script) → new ≡ after_failure (on_terminal (with_batches (as_batch (take n batch))) old)
    → RenderFails batch old.terminal new.terminal
RenderFails-part n batch old new same = record {
  part = (_, IsPart-as_batch n batch, ap (λ script. script.terminal.batches) same);
  rest = rw same refl;
}

-- what a `render` that fails is proved by
pub ruleset parts = (as_batch-take, RenderFails-after_failure, RenderFails-part)
