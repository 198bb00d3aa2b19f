use Rattle.std.proofs.Common.{◌≡◌, true, false, [], map, refl, sym, ap, ◌∙◌, subst, Result, Ok, Err, OnErr, OnOk}
use Rattle.std.proofs.lemmas.Result.{on_ok_weaker}
use Rattle.std.specs.List.{list_all}
use Rattle.tw_surface.specs.Characters.{is_plain, is_printable}
use Rattle.tw_surface.specs.ChangeView.{Text}
use Rattle.laws_screens.specs.Pens.{change_strokes}
use Rattle.laws_screens.specs.StyledCells.{styled}
use Rattle.laws_screens.proofs.PlainGlyphs.{plain_from_printable}
use Rattle.tw_ansi.proofs.EcmaPaintings.{plain_sent}
use Rattle.tw_sparing.specs.StyledScreens.{AreDrawn, DrawsBeginning, ShowsSame, character_stroke}
use Rattle.tw_sparing.proofs.DrawnCells.{same_shows}
use Rattle.tw_sparing.proofs.TypedOn.{byte_strokes, glyph_strokes, holds_on_ok, text_sent, text_strokes}
use Rattle.tw_sparing.proofs.screen.StyledScreen.write.Goals as goal

pub returns-then-goes_on-clause-shown : goal.returns-then-goes_on-clause-shown
returns-then-goes_on-clause-shown c =
    let old = c.args.self.now in
    let text = c.args.text.now in
    let bytes = c.as_bytes-bytes.ensures.value in
    let printable : list_all is_printable text ≡ true = subst (λ t. list_all is_printable t ≡ true) bytes (c.goes_on.ensures.printable c.if-goes_on.true) in
    subst (λ strokes. OnOk c.type_on.result (AreDrawn old strokes c.type_on.new.self)) (ap (map (character_stroke old.kept)) bytes ∙ byte_strokes old.kept text (plain_from_printable text printable)) c.type_on.ensures.shown

pub returns-then-goes_on-clause-sent : goal.returns-then-goes_on-clause-sent
returns-then-goes_on-clause-sent c =
    let text = c.args.text.now in
    let printable : list_all is_printable text ≡ true = subst (λ t. list_all is_printable t ≡ true) c.as_bytes-bytes.ensures.value (c.goes_on.ensures.printable c.if-goes_on.true) in
    holds_on_ok c.type_on.result (plain_sent c.args.self.now.width text (plain_from_printable text printable))

pub returns-then-goes_on-clause-refused : goal.returns-then-goes_on-clause-refused
returns-then-goes_on-clause-refused c = refused c.type_on.result c.type_on.ensures.refused
  where
    refused : {X E : Type 0} (r : Result X E) → OnErr r (ShowsSame c.args.self.now c.type_on.new.self)
        → OnErr r (DrawsBeginning (change_strokes styled c.args.self.now.kept (Text c.args.text.now)) c.args.self.now c.type_on.new.self)
    refused (Ok x) h = tt
    refused (Err e) h = record {
      drawn = [];
      left = change_strokes styled c.args.self.now.kept (Text c.args.text.now);
      parts = refl;
      draws = λ s shows. same_shows c.args.self.now c.type_on.new.self s c.type_on.ensures.same.width h shows;
    }

pub returns-then-is_plain_text-clause-shown : goal.returns-then-is_plain_text-clause-shown
returns-then-is_plain_text-clause-shown c =
    let plain : list_all is_plain c.args.text.now ≡ true = subst (λ t. list_all is_plain t ≡ true) c.as_bytes-bytes.ensures.value (sym c.is_plain_text.ensures ∙ c.if-is_plain_text.true) in
    subst (λ strokes. OnOk c.write_apart.result (AreDrawn c.args.self.now strokes c.write_apart.new.self)) (text_strokes c.args.self.now.kept c.args.text.now plain) c.write_apart.ensures.shown

pub returns-then-is_plain_text-clause-sent : goal.returns-then-is_plain_text-clause-sent
returns-then-is_plain_text-clause-sent c =
    let plain : list_all is_plain c.args.text.now ≡ true = subst (λ t. list_all is_plain t ≡ true) c.as_bytes-bytes.ensures.value (sym c.is_plain_text.ensures ∙ c.if-is_plain_text.true) in
    holds_on_ok c.write_apart.result (plain_sent c.args.self.now.width c.args.text.now plain)

pub returns-then-is_plain_text-clause-refused : goal.returns-then-is_plain_text-clause-refused
returns-then-is_plain_text-clause-refused c =
    let plain : list_all is_plain c.args.text.now ≡ true = subst (λ t. list_all is_plain t ≡ true) c.as_bytes-bytes.ensures.value (sym c.is_plain_text.ensures ∙ c.if-is_plain_text.true) in
    subst (λ strokes. OnErr c.write_apart.result (DrawsBeginning strokes c.args.self.now c.write_apart.new.self)) (text_strokes c.args.self.now.kept c.args.text.now plain) c.write_apart.ensures.refused

pub returns-clause-shown : goal.returns-clause-shown
returns-clause-shown c =
    let other : list_all is_plain c.args.text.now ≡ false = subst (λ t. list_all is_plain t ≡ false) c.as_bytes-bytes.ensures.value (sym c.is_plain_text.ensures ∙ c.if-is_plain_text.false) in
    subst (λ strokes. OnOk c.write_clusters.result (AreDrawn c.args.self.now strokes c.write_clusters.new.self)) (glyph_strokes c.args.self.now.kept c.args.text.now other) c.write_clusters.ensures.shown

pub returns-clause-sent : goal.returns-clause-sent
returns-clause-sent c = on_ok_weaker c.write_clusters.result (text_sent c.args.self.now.width c.args.text.now) c.write_clusters.ensures.sent

pub returns-clause-refused : goal.returns-clause-refused
returns-clause-refused c =
    let other : list_all is_plain c.args.text.now ≡ false = subst (λ t. list_all is_plain t ≡ false) c.as_bytes-bytes.ensures.value (sym c.is_plain_text.ensures ∙ c.if-is_plain_text.false) in
    subst (λ strokes. OnErr c.write_clusters.result (DrawsBeginning strokes c.args.self.now c.write_clusters.new.self)) (glyph_strokes c.args.self.now.kept c.args.text.now other) c.write_clusters.ensures.refused
