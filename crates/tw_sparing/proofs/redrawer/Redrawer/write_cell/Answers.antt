use Rattle.std.proofs.Common.{◌≡◌, ◌/◌, ◌%◌, ap, ◌∙◌, sym, subst, string_bytes}
use Rattle.std.specs.Prelude.{encode_utf8}
use Rattle.laws_screens.specs.StyledCells.{StyledCell}
use Rattle.tw_sparing.specs.SingleCharacters.{IsSingle}
use Rattle.tw_sparing.specs.StyledScreens.{styled_cell}
use Rattle.tw_sparing.specs.Redrawings.{indexed}
use Rattle.tw_sparing.specs.Sending.{screen_cells}
use Rattle.tw_sparing.proofs.AddedChanges.{cell_added}
use Rattle.tw_sparing.proofs.SingleCharacters.{bytes_back}
use Rattle.tw_sparing.proofs.redrawer.Redrawer.write_cell.Goals as goal

pub write_character-requires : goal.write_character-requires
write_character-requires c =
    let cells = screen_cells c.args.screen.now in
    let is : styled_cell c.at-cell.result.now ≡ indexed c.args.screen.now.width cells c.args.index =
    ap styled_cell c.at-cell.ensures ∙ ap (λ v. cells (c.args.index / v) (c.args.index % v)) c.width-width.ensures.value in
    subst (λ (x : StyledCell). IsSingle x.ch) (sym is) c.requires.single

pub returns-clause-ok : goal.returns-clause-ok
returns-clause-ok c =
    let cells = screen_cells c.args.screen.now in
    let w = c.args.screen.now.width in
    let cell = c.at-cell.result.now in
    let x : StyledCell = styled_cell cell in
    let is : x ≡ indexed w cells c.args.index = ap styled_cell c.at-cell.ensures ∙ ap (λ v. cells (c.args.index / v) (c.args.index % v)) c.width-width.ensures.value in
    rw (c.width-width.ensures.value, c.in_ok-write_character.ensures.hand)
    (cell_added w c.args.index cells x (encode_utf8 cell.character) c.args.self.now c.select.new.self c.write_character.new.self.encoder (string_bytes c.args.out.now) (string_bytes c.select.new.out) (string_bytes c.write_character.new.out)
    is (sym (bytes_back cell.character)) c.in_ok-select.ensures.ok c.in_ok-write_character.ensures.bytes c.in_ok-write_character.ensures.next)
