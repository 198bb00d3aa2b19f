use Rattle.std.proofs.Common.{rules, ◌≡◌, ◌<◌, ◌++◌, true, length, OnOk, append-nil, ap, sym, ◌∙◌, subst}
use Rattle.std.proofs.lemmas.List.{nil_from_length}
use Rattle.std.specs.Prelude.{encode_utf8}
use Rattle.std.specs.Str.Iter.{chars_rest}
use Rattle.tw_ansi.specs.EcmaTexts.{is_sent_cluster}
use Rattle.tw_sparing.specs.StyledScreens.{AreDrawn}
use Rattle.tw_sparing.proofs.SingleCharacters.{single_one}
use Rattle.tw_sparing.proofs.TypedOn.{holds_on_ok, single_strokes}
use Rattle.tw_sparing.proofs.screen.StyledScreen.put_single.Goals as goal

pub returns-in-Some-clause-shown : goal.returns-in-Some-clause-shown
returns-in-Some-clause-shown c =
    let none : length (chars_rest c.next.new.self) ≡ 0 = search rules in
    let is : c.args.cluster.now ≡ encode_utf8 c.in-Some.character =
    sym c.chars-characters.ensures.rest ∙ c.in-Some.ensures.steps.0 ∙ ap (λ l. encode_utf8 c.in-Some.character ++ l) (nil_from_length _ none) ∙ append-nil (encode_utf8 c.in-Some.character) in
    let one = single_one c.in-Some.character (c.is_single.ensures.single c.if-is_single.true) in
    subst (λ strokes. OnOk c.put.result (AreDrawn c.args.self.now strokes c.put.new.self)) (single_strokes c.args.self.now.kept c.args.cluster.now c.in-Some.character is one) c.put.ensures.shown

pub returns-in-Some-clause-sent : goal.returns-in-Some-clause-sent
returns-in-Some-clause-sent c =
    let none : length (chars_rest c.next.new.self) ≡ 0 = search rules in
    let is : c.args.cluster.now ≡ encode_utf8 c.in-Some.character =
    sym c.chars-characters.ensures.rest ∙ c.in-Some.ensures.steps.0 ∙ ap (λ l. encode_utf8 c.in-Some.character ++ l) (nil_from_length _ none) ∙ append-nil (encode_utf8 c.in-Some.character) in
    let one = single_one c.in-Some.character (c.is_single.ensures.single c.if-is_single.true) in
    let some : 0 < c.args.self.now.width = search rules in
    holds_on_ok c.put.result (subst (λ l. is_sent_cluster c.args.self.now.width l ≡ true) (sym is) (one.sent c.args.self.now.width some))
