-- The batches of a list of paintings, and of others after it.
use Rattle.std.proofs.Common.{◌≡◌, Option, Some, None, List, [], ◌∷◌, ◌++◌, refl, sym, ap, ◌∙◌}
use Rattle.std.proofs.lemmas.List.{append_assoc}
use Rattle.tw_surface.specs.ChangeView.{Batch}
use Rattle.tw_surface.specs.Paintings.{Mark, mark_of}
use Rattle.tw_surface.specs.PaintingBatches.{Shot, batches, clearing, start_of, batches_after, mark_after}

pub batches_after-append : (last : Option Mark) (first later : List Shot) → batches_after last (first ++ later) ≡ batches_after last first ++ batches_after (mark_after last first) later
batches_after-append last [] later = refl
batches_after-append last (shot ∷ more) later =
    ap (λ l. clearing shot.cleared ++ (start_of last ++ shot.painting.changes) ∷ l) (batches_after-append (Some (mark_of shot.painting)) more later)
    ∙ sym (append_assoc (clearing shot.cleared) ((start_of last ++ shot.painting.changes) ∷ batches_after (Some (mark_of shot.painting)) more) (batches_after (mark_after (Some (mark_of shot.painting)) more) later))

pub beginning : (first later : List Shot) → (rest : List Batch) × (batches (first ++ later) ≡ batches first ++ rest)
beginning first later = (batches_after (mark_after None first) later, batches_after-append None first later)
