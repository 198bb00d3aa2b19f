-- The characters so far and those that are left are those of the whole text, and those so far are played.
use Rattle.std.proofs.Common.{◌≡◌, ℕ, List, ◌++◌, map}
use Rattle.std.specs.Str.{chars, IsUtf8}
use Rattle.std.specs.Str.Iter.{chars_rest}
use Rattle.tw_sparing.specs.StyledScreens.{AreDrawn, IsSameBut, character_stroke}
use Rattle.tw_sparing.proofs.screen.StyledScreen.write_apart.Given as goal

abbrev pub invariant-loop-character : goal.invariant-loop-character
invariant-loop-character l =
    let rest = chars_rest l.character-iterator in
    record {
      utf8 : IsUtf8 rest;
      same : IsSameBut l.fn.self l.self;
      written : (done : List ℕ) × (chars l.text ≡ done ++ chars rest) × AreDrawn l.fn.self (map (character_stroke l.fn.self.kept) done) l.self;
    }
