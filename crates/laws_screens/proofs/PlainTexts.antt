-- Plain texts, and their lines.
use Rattle.std.proofs.Common.{◌≡◌, ℕ, true, false, eqb, List, [], ◌∷◌, ◌++◌, refl, ap, ◌∙◌, arith, leb, append-nil}
use Rattle.std.proofs.lemmas.Bool.Decides.{nat_tests}
use Rattle.std.specs.List.{list_all}
use Rattle.std.proofs.lemmas.Bool.{ne_eqb, and_parts, and_from, leb-true}
use Rattle.std.proofs.lemmas.List.Folds.{list_all-append}
use Rattle.tw_surface.specs.Characters.{is_printable, is_plain, cr, lf}
use Rattle.tw_surface.specs.Lines.{before_lines, lines_of, text_of_lines}
use Rattle.laws_screens.proofs.PlainGlyphs.{plain_from_printable}

-- ---- lines

-- lines with CR LF before each
abbrev pub breaks : List (List ℕ) → List ℕ
breaks [] = []
breaks (line ∷ more) = 13 ∷ 10 ∷ (line ++ breaks more)

breaks-before : (b : ℕ) (ls : List (List ℕ)) (t : List ℕ) → breaks ls ≡ 13 ∷ 10 ∷ t → breaks (before_lines b ls) ≡ 13 ∷ 10 ∷ b ∷ t
breaks-before b [] t e = absurd (cc (e))
breaks-before b ([] ∷ more) t e = let d : breaks more ≡ t = cc (e) in ap (λ x. 13 ∷ 10 ∷ b ∷ x) d
breaks-before b ((c ∷ line) ∷ more) t e = let d : c ∷ (line ++ breaks more) ≡ t = cc (e) in grind (arith, nat_tests, d)

-- CR LF and a text are its lines with CR LF before each
pub breaks-lines : (t : List ℕ) → breaks (lines_of t) ≡ 13 ∷ 10 ∷ t
breaks-lines [] = refl
breaks-lines (b ∷ t) = breaks-before b (lines_of t) t (breaks-lines t)

text_of_lines-breaks : (line : List ℕ) (more : List (List ℕ)) → breaks (line ∷ more) ≡ 13 ∷ 10 ∷ text_of_lines (line ∷ more)
text_of_lines-breaks line [] = rw append-nil refl
text_of_lines-breaks line (next ∷ more) = ap (λ x. 13 ∷ 10 ∷ (line ++ x)) (text_of_lines-breaks next more)

pub text_of_lines-lines : (t : List ℕ) → text_of_lines (lines_of t) ≡ t
text_of_lines-lines t = go (lines_of t) (breaks-lines t)
  where
    go : (ls : List (List ℕ)) → breaks ls ≡ 13 ∷ 10 ∷ t → text_of_lines ls ≡ t
    go [] e = absurd (cc (e))
    go (line ∷ more) e = cc (text_of_lines-breaks line more, e)

not_cr : (b : ℕ) → is_printable b ≡ true → eqb b cr ≡ false
not_cr b h = let p = and_parts (leb 32 b) (leb b 126) h in ne_eqb b 13 (λ e. absurd (omega (arith, e, leb-true 32 b p.0)))

-- what is no CR goes into the first line
put_first : (b : ℕ) (line : List ℕ) (more : List (List ℕ)) → eqb b cr ≡ false → before_lines b (line ∷ more) ≡ (b ∷ line) ∷ more
put_first b [] more h = refl
put_first b (c ∷ line) more h = rw h refl

-- a text of printable characters is one line
pub one_line : (t : List ℕ) → list_all is_printable t ≡ true → lines_of t ≡ t ∷ []
one_line [] a = refl
one_line (b ∷ t) a =
    let both = and_parts (is_printable b) (list_all is_printable t) a in
    ap (before_lines b) (one_line t both.1) ∙ put_first b t [] (not_cr b both.0)

pub breaks-plain : (ls : List (List ℕ)) → list_all (list_all is_printable) ls ≡ true → list_all is_plain (breaks ls) ≡ true
breaks-plain [] a = refl
breaks-plain (line ∷ more) a =
    let both = and_parts (list_all is_printable line) (list_all (list_all is_printable) more) a in
    list_all-append is_plain line (breaks more)
    ∙ and_from (list_all is_plain line) (list_all is_plain (breaks more)) (plain_from_printable line both.0) (breaks-plain more both.1)

-- printable characters go into the first line
all_first : (line text first : List ℕ) (more : List (List ℕ)) → list_all is_printable line ≡ true → lines_of text ≡ first ∷ more
    → lines_of (line ++ text) ≡ (line ++ first) ∷ more
all_first [] text first more h e = e
all_first (b ∷ line) text first more h e =
    let p = and_parts (is_printable b) (list_all is_printable line) h in
    ap (before_lines b) (all_first line text first more p.1 e) ∙ put_first b (line ++ first) more (not_cr b p.0)

-- CR LF ends an empty line
cut_there : (next : List ℕ) (more : List (List ℕ)) → before_lines cr (before_lines lf (next ∷ more)) ≡ [] ∷ next ∷ more
cut_there [] more = refl
cut_there (c ∷ next) more = refl

pub lines_of_joined : (line : List ℕ) (more : List (List ℕ)) → list_all (list_all is_printable) (line ∷ more) ≡ true → lines_of (text_of_lines (line ∷ more)) ≡ line ∷ more
lines_of_joined line [] h = one_line line (and_parts (list_all is_printable line) true h).0
lines_of_joined line (next ∷ more) h =
    let p = and_parts (list_all is_printable line) (list_all (list_all is_printable) (next ∷ more)) h in
    let e : lines_of (cr ∷ lf ∷ text_of_lines (next ∷ more)) ≡ [] ∷ next ∷ more =
    ap (λ (ls : List (List ℕ)). before_lines cr (before_lines lf ls)) (lines_of_joined next more p.1) ∙ cut_there next more in
    all_first line (cr ∷ lf ∷ text_of_lines (next ∷ more)) [] (next ∷ more) p.0 e ∙ ap (λ (l : List ℕ). l ∷ next ∷ more) (append-nil line)
