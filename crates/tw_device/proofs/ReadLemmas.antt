-- What a read leaves after the bytes of a buffer.
use Rattle.std.proofs.Common.{◌≡◌, ◌≤◌, ◌+◌, ℕ, true, List, [], ◌∷◌, ◌++◌, None, IsSome, take, length, arith, ap, subst, ◌∙◌, sym, refl}
use Rattle.std.proofs.lemmas.Bool.{false≢true}
use Rattle.std.proofs.lemmas.List.{append_assoc, length-append, length-take, take-append-le}
use Rattle.std.proofs.Math.Seq.{take-append-add, take-take}
use Rattle.tw_ansi.specs.KeyBytes.{token_at}
use Rattle.tw_ansi.proofs.Tokens.{token_ends}

-- of room after some bytes, into which fewer were read, these are kept
kept_read : (front buf post more : List ℕ) (h count : ℕ) → length front ≡ h → count ≤ length buf
    → take (h + count) ((front ++ (buf ++ post)) ++ more) ≡ front ++ take count buf
kept_read front buf post more h count long fits =
    ap (λ n. take (n + count) ((front ++ (buf ++ post)) ++ more)) (sym long)
    ∙ ap (λ xs. take (length front + count) xs) (append_assoc front (buf ++ post) more)
    ∙ take-append-add front ((buf ++ post) ++ more) count
    ∙ ap (λ xs. front ++ take count xs) (append_assoc buf post more)
    ∙ ap (λ xs. front ++ xs) (take-append-le count buf (post ++ more) fits)

-- a buffer of another length keeps its first bytes
pub first_kept : (old zeros all : List ℕ) (h n : ℕ) → h ≤ length old → h ≤ n → all ≡ take n old ++ zeros → take h all ≡ take h old
first_kept old zeros all h n long room resized =
    ap (take h) resized
    ∙ take-append-le h (take n old) zeros (omega (arith, long, room, length-take n old))
    ∙ take-take h n old room

pub read_into : (old all room buf post more : List ℕ) (h l count : ℕ) → take h all ≡ take h old → room ≡ all → length (take h old) ≡ h → h + count ≤ l → count ≤ length buf
    → take (h + count) (take l ((take h room ++ (buf ++ post)) ++ more)) ≡ take h old ++ take count buf
read_into old all room buf post more h l count kept same long inside few =
    take-take (h + count) l _ inside
    ∙ ap (λ xs. take (h + count) ((xs ++ (buf ++ post)) ++ more)) (ap (take h) same ∙ kept)
    ∙ kept_read (take h old) buf post more h count long few

-- what its first bytes and those that were read are is within a list
pub reaches : (xs front back : List ℕ) (h count : ℕ) → take (h + count) xs ≡ front ++ back → length front ≡ h → length back ≡ count → h + count ≤ length xs
reaches xs front back h count same long came = omega (arith, length-take (h + count) xs, ap length same, length-append front back, long, came)

-- where no bytes follow and there is no token there are no bytes
pub none_left : (bytes : List ℕ) → None ≡ token_at true bytes → bytes ≡ []
none_left [] e = refl
none_left (b ∷ bytes) e = absurd (false≢true (subst (λ o. IsSome o) (sym e) (token_ends (b ∷ bytes) (omega arith))))
