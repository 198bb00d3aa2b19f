-- A byte from 128 on begins no token after another such byte.
use Rattle.std.proofs.Common.{◌≡◌, ◌∙◌, ◌<◌, ◌≤◌, ◌==◌, ℕ, Bool, true, false, ◌&&◌, not, Some, refl, ap, sym, subst, arith, ne_eqb}
use Rattle.std.specs.Prelude.{is_none}
use Rattle.std.proofs.lemmas.Bool.{true≢false}
use Rattle.std.proofs.lemmas.Bool.Decides.{nat_tests}
use Rattle.sql_language.specs.declared.lexer.Quote.{Quote}
use Rattle.sql_language.specs.declared.lexer.Quote.TheVariants.{Single, Double, Grave, Square}
use Rattle.sql_language.specs.declared.lexer.Inside.{Inside}
use Rattle.sql_language.specs.declared.lexer.Inside.TheVariants.{White, Word, Number, Mark, Dash, Slash, Line, Block, Star, BlockEnd, Quoted, Closed}
use Rattle.sql_language.specs.Lexer.{is_white, is_part, is_number_part, closing_byte, reopens, if_so, in_block, behind_star, in_quotes, continued}

-- such a byte goes on with what stands before it
abbrev pub Takes : Inside → Type 0
Takes inside = (c : ℕ) → 128 ≤ c → is_none (continued inside c) ≡ false

high-white : (b : ℕ) → 128 ≤ b → is_white b ≡ false
high-white b h = grind (arith, nat_tests)

high-part : (b : ℕ) → 128 ≤ b → is_part b ≡ true
high-part b h = grind (arith, nat_tests)

high-number_part : (b : ℕ) → 128 ≤ b → is_number_part b ≡ true
high-number_part b h = grind (arith, nat_tests)

high-other : (b k : ℕ) → k < 128 → 128 ≤ b → (b == k) ≡ false
high-other b k low h = ne_eqb b k (λ e. omega (arith, e))

closing_byte-low : (quote : Quote) → closing_byte quote < 128
closing_byte-low Single = omega arith
closing_byte-low Double = omega arith
closing_byte-low Grave = omega arith
closing_byte-low Square = omega arith

takes-word : Takes Word
takes-word c h = ap (λ passes. is_none (if_so passes Word)) (high-part c h)

takes-number : Takes Number
takes-number c h = ap (λ passes. is_none (if_so passes Number)) (high-number_part c h)

takes-line : Takes Line
takes-line c h = ap (λ same. is_none (if_so (not same) Line)) (high-other c 10 (omega arith) h)

-- what a test lets pass
passed : (passes : Bool) (inside next : Inside) → if_so passes inside ≡ Some next → (passes ≡ true) × (inside ≡ next)
passed true inside next e = (refl, cc)
passed false inside next e = absurd (cc)

fails : (passes : Bool) (inside next : Inside) {X : Type 0} → passes ≡ false → if_so passes inside ≡ Some next → X
fails passes inside next failed e = absurd (true≢false (sym (passed passes inside next e).0 ∙ failed))

-- after such a byte that goes on with a token
pub on-takes : (inside next : Inside) (b : ℕ) → continued inside b ≡ Some next → 128 ≤ b → Takes next
on-takes White next b e h = fails _ _ _ (high-white b h) e
on-takes Word next b e h = subst Takes (passed _ _ _ e).1 takes-word
on-takes Number next b e h = subst Takes (passed _ _ _ e).1 takes-number
on-takes Mark next b e h = absurd (cc)
on-takes BlockEnd next b e h = absurd (cc)
on-takes Dash next b e h = fails _ _ _ (high-other b 45 (omega arith) h) e
on-takes Slash next b e h = fails _ _ _ (high-other b 42 (omega arith) h) e
on-takes Line next b e h = subst Takes (passed _ _ _ e).1 takes-line
on-takes Block next b e h =
    let same : in_block b ≡ Block = rw (high-other b 42 (omega arith) h) in
    let is : in_block b ≡ next = cc in
    subst Takes (sym same ∙ is) (λ c _. refl)
on-takes Star next b e h =
    let same : behind_star b ≡ Block = rw (high-other b 47 (omega arith) h, high-other b 42 (omega arith) h) in
    let is : behind_star b ≡ next = cc in
    subst Takes (sym same ∙ is) (λ c _. refl)
on-takes (Quoted quote) next b e h =
    let same : in_quotes quote b ≡ Quoted quote = rw (high-other b (closing_byte quote) (closing_byte-low quote) h) in
    let is : in_quotes quote b ≡ next = cc in
    subst Takes (sym same ∙ is) (λ c _. refl)
on-takes (Closed quote) next b e h = fails _ _ _ (ap (λ same. same && reopens quote) (high-other b (closing_byte quote) (closing_byte-low quote) h)) e
