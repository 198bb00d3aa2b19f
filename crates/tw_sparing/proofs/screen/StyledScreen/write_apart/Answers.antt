use Rattle.std.proofs.Common.{◌++◌, ◌∷◌, [], map, sym, ap, ◌∙◌, append_assoc, append-nil, subst, Result, Ok, Err, OnErr}
use Rattle.std.proofs.lemmas.List.{map-append, nil_from_length}
use Rattle.std.proofs.lemmas.Str.{IsUtf8-past_char, chars_past_char, chars-nil}
use Rattle.std.specs.Str.{chars}
use Rattle.std.specs.Str.Iter.{chars_rest}
use Rattle.tw_sparing.specs.StyledScreens.{AreDrawn, character_stroke}
use Rattle.tw_sparing.proofs.DrawnCells.{draws_more}
use Rattle.tw_sparing.proofs.screen.StyledScreen.write_apart.Goals as goal

pub loop-character-preserved : goal.loop-character-preserved
loop-character-preserved c =
    let inv = c.loop-character.invariant in
    let split = c.in-Some.ensures.steps.0 in
    let rest = chars_rest c.next.new.self in
    let done = inv.written.0 in
    let stroke = character_stroke c.args.self.now.kept in
    let same = c.play.ensures.same in
    record {
      utf8 = IsUtf8-past_char _ rest _ inv.utf8 split;
      same = record { width = same.width ∙ inv.same.width; kept = same.kept ∙ inv.same.kept };
      written = (
        done ++ c.in-Some.character ∷ [],
        inv.written.1 ∙ ap (λ l. done ++ l) (chars_past_char _ rest _ inv.utf8 split) ∙ sym (append_assoc done (c.in-Some.character ∷ []) (chars rest)),
        rw (map-append stroke done (c.in-Some.character ∷ []))
            (draws_more c.args.self.now c.loop-character.self c.play.new.self (map stroke done) (stroke c.in-Some.character ∷ []) inv.same.width inv.written.2
            (subst (λ k. AreDrawn c.loop-character.self (character_stroke k c.in-Some.character ∷ []) c.play.new.self) inv.same.kept c.in_ok-play.ensures.shown)),
      );
    }

pub returns-in_err-play-clause-refused : goal.returns-in_err-play-clause-refused
returns-in_err-play-clause-refused c =
    let inv = c.loop-character.invariant in
    let stroke = character_stroke c.args.self.now.kept in
    let rest = chars (chars_rest c.loop-character.character-iterator) in
    given c.from_residual.result (record {
      drawn = map stroke inv.written.0;
      left = map stroke rest;
      parts = ap (map stroke) inv.written.1 ∙ map-append stroke inv.written.0 rest;
      draws = λ s h. c.in_err-play.ensures.refused _ (inv.written.2 s h);
    })
  where
    given : {X E P : Type 0} (r : Result X E) → P → OnErr r P
    given (Ok x) p = tt
    given (Err e) p = p

pub returns-clause-shown : goal.returns-clause-shown
returns-clause-shown c =
    let inv = c.loop-character.invariant in
    let none = ap chars (nil_from_length _ c.in-None.ensures.steps.0.0) ∙ chars-nil in
    let all = inv.written.1 ∙ ap (λ l. inv.written.0 ++ l) none ∙ append-nil inv.written.0 in
    rw all inv.written.2
