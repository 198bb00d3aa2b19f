-- Pens that join marks.
use Rattle.std.proofs.Common.{◌≡◌, ℕ, ◌+◌, ◌*◌, List, [], ◌∷◌, ◌++◌, refl, ap, arith}
use Rattle.laws_screens.specs.StyledCells.{clusters, characters, styled, number_from, cluster_number}
use Rattle.tw_ansi.specs.EcmaTexts.{JoinsMarks}

number_on : (n : ℕ) (c m : List ℕ) → number_from (number_from n c) m ≡ number_from n (c ++ m)
number_on n [] m = refl
number_on n (b ∷ c) m = number_on (n * 256 + b) c m

joined : (c m : List ℕ) → number_from (cluster_number c) m ≡ cluster_number (c ++ m)
joined [] [] = refl
joined [] (b ∷ m) = let e : 0 * 256 + b ≡ b = omega arith in ap (λ n. number_from n m) e
joined (b ∷ c) m = number_on b c m

pub clusters_join : JoinsMarks clusters
clusters_join a c m = refl

pub characters_join : JoinsMarks characters
characters_join a c m = joined c m

pub styled_join : JoinsMarks styled
styled_join a c m = ap (λ n. record { ch = n; attributes = a }) (joined c m)
