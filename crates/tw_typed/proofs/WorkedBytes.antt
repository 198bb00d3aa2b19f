-- What some bytes hand out, by computation.
use Rattle.std.proofs.Common.{◌≡◌, ℕ, List, ◌∷◌, ◌++◌, refl}
use Rattle.std.specs.Prelude.{codes}
use Rattle.tw_typed.specs.Sieve.{end_mark, outside, sifted, start_mark}

-- ESC [ and some characters
abbrev after_escape : List ℕ → List ℕ
after_escape text = 27 ∷ 91 ∷ text

-- keys are handed out as they are, a report among them too
keys : sifted outside (codes "a" ++ after_escape (codes "5;5Rb")) ≡ codes "a" ++ after_escape (codes "5;5Rb")
keys = refl

-- of two reports in a pasted text the last one comes behind it
reports : sifted outside (start_mark ++ codes "a" ++ after_escape (codes "5;5R") ++ codes "b" ++ after_escape (codes "6;7R") ++ end_mark ++ codes "c")
    ≡ start_mark ++ codes "ab" ++ end_mark ++ after_escape (codes "6;7R") ++ codes "c"
reports = refl

-- one behind a beginning of the end mark is text, and so is the rest of that mark
behind_mark : sifted outside (start_mark ++ after_escape (codes "20") ++ after_escape (codes "5;5R") ++ codes "1~a" ++ end_mark)
    ≡ start_mark ++ after_escape (codes "20") ++ after_escape (codes "5;5R") ++ codes "1~a" ++ end_mark
behind_mark = refl

-- a report has three numbers or semicolons at least, and a sequence of a key is text
short : sifted outside (start_mark ++ after_escape (codes ";5R") ++ after_escape (codes "3~") ++ end_mark)
    ≡ start_mark ++ after_escape (codes ";5R") ++ after_escape (codes "3~") ++ end_mark
short = refl

-- at the end what is held back comes, and no report
cut : sifted outside (start_mark ++ after_escape (codes "5;5R") ++ codes "a" ++ after_escape (codes "201")) ≡ start_mark ++ codes "a" ++ after_escape (codes "201")
cut = refl
