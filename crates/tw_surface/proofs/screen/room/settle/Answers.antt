use Rattle.std.proofs.Common.{◌≡◌, ◌∷◌, [], ◌++◌, ◌<◌, ◌≤◌, length, ap, ◌∙◌, refl, arith, vec_len, vec_capacity}
use Rattle.std.proofs.lemmas.List.Elements.{All-append, All-cons, All-nil}
use Rattle.tw_surface.specs.Cells.{cell_at}
use Rattle.tw_surface.proofs.NearCells.{place_within, ascii_grown}
use Rattle.tw_surface.proofs.SettledCells.{place, first_behind, settle_step}
use Rattle.tw_surface.proofs.screen.room.settle.Goals as goal

pub loop-cell-preserved : goal.loop-cell-preserved
loop-cell-preserved c =
    let here = c.loop-cell in
    let cells = c.as_slice-cell-items.result.now in
    let i = here.cell-index in
    let cell = cell_at cells i in
    let same : cells ≡ c.args.far.now.items = c.as_slice-cell-items.ensures.value in
    let stands : place c.args.width cell < c.args.near.now.cap = rw same (c.requires.room i (record { row = 0; col = 0; ch = 0 }) (omega (arith, ap length same))) in
    let at : c.place_of.result ≡ place c.args.width cell = place_within _ _ _ c.place_of.ensures (omega arith) in
    let more = c.blank_to.ensures.grown in
    let grown = c.blank_to.new.near.items in
    let behind : length here.near.items ≤ place c.args.width cell = first_behind c.args.width here.near.items cells i (omega arith) here.invariant.sparse in
    let size : length grown ≡ place c.args.width cell = omega (arith, c.blank_to.ensures.len, c.blank_to.new.near.ok.0, here.near.ok.0) in
    let low : cell.ch < 128 = rw same (c.requires.sparse.ascii i (record { row = 0; col = 0; ch = 0 }) (omega (arith, ap length same))) in
    let room : vec_len c.blank_to.new.near < vec_capacity c.blank_to.new.near = omega (arith, c.blank_to.new.near.ok.0) in
    let pushed : c.push.new.self.items ≡ grown ++ cell.ch ∷ [] = c.push.ensures.items ∙ rw (c.push.ensures.succeeds room) refl in
    let step = settle_step c.args.width here.near.items grown c.push.new.self.items cells i (omega arith) here.invariant.sparse more size pushed in
    record {
      shown = step.0 ∙ here.invariant.shown;
      sparse = step.1;
      ascii = rw pushed (All-append (λ b. b < 128) grown (cell.ch ∷ []) (ascii_grown here.near.items grown more here.invariant.ascii) (All-cons (λ b. b < 128) cell.ch [] low (All-nil (λ b. b < 128))));
      capacity = omega arith;
    }
