-- What is taken out of a pasted text leaves no mark that ends it.
use Rattle.std.proofs.Common.{◌≡◌, ℕ, zero, suc, ◌+◌, ◌<◌, ◌&&◌, ◌==◌, if◌then◌else◌, nat_lt, Bool, true, false, List, [], ◌∷◌, ◌++◌, length, take, refl, sym, ap, ◌∙◌, subst, append_assoc, ◌⊎◌, inl, inr, ◌≢◌, add-one, length-append, arith}
use Rattle.std.specs.Prelude.{not, slice_index}
use Rattle.std.proofs.lemmas.Bool.{false≢true}
use Rattle.std.proofs.lemmas.Grind.{common_steps}
use Rattle.std.proofs.Math.Seq.{take-suc}
use borrow.Author.Tests.{eqb-true}
use Rattle.tw_typed.specs.Sieve.{SieveView, Sifted, end_mark, number_goes_on, is_number, is_report, matched_by, pasted, sifted, sift_all}
use Rattle.tw_typed.specs.SieveLaws.{HasEndMark, NoMarkIsMade}
use Rattle.tw_typed.proofs.SieveLemmas.{if_elim, and_parts, not_true}

-- ---- where the mark ends, byte by byte

-- how many bytes of the mark came last, if m did before these
abbrev after : ℕ → List ℕ → ℕ
after m [] = m
after m (b ∷ bytes) = after (matched_by end_mark m b) bytes

-- whether it ends among these
abbrev ends : ℕ → List ℕ → Bool
ends m [] = false
ends m (b ∷ bytes) = if matched_by end_mark m b == 6 then true else ends (matched_by end_mark m b) bytes

not_here : (here later : Bool) → (if here then true else later) ≡ false → (here ≡ false) × (later ≡ false)
not_here true later is = absurd (false≢true (sym is))
not_here false later is = (refl, is)

passed : (here later : Bool) → here ≡ false → (if here then true else later) ≡ later
passed true later is = absurd (false≢true (sym is))
passed false later is = refl

here_or_later : (here later : Bool) → later ≡ true → (if here then true else later) ≡ true
here_or_later true later is = refl
here_or_later false later is = is

ends_append : (m : ℕ) (xs ys : List ℕ) → ends m xs ≡ false → ends m (xs ++ ys) ≡ ends (after m xs) ys
ends_append m [] ys none = refl
ends_append m (b ∷ xs) ys none =
    let n = matched_by end_mark m b in
    let parts = not_here (n == 6) (ends n xs) none in
    passed (n == 6) (ends n (xs ++ ys)) parts.0 ∙ ends_append n xs ys parts.1

after_append : (m : ℕ) (xs ys : List ℕ) → after m (xs ++ ys) ≡ after (after m xs) ys
after_append m [] ys = refl
after_append m (b ∷ xs) ys = after_append (matched_by end_mark m b) xs ys

mark_ends : (m : ℕ) (before rest : List ℕ) → ends m (before ++ end_mark ++ rest) ≡ true
mark_ends m [] rest = refl
mark_ends m (b ∷ before) rest =
    let n = matched_by end_mark m b in
    here_or_later (n == 6) (ends n (before ++ end_mark ++ rest)) (mark_ends n before rest)

behind : (front xs : List ℕ) → HasEndMark xs → HasEndMark (front ++ xs)
behind front xs has = record {
  before = front ++ has.before;
  behind = has.behind;
  is = ap (λ all. front ++ all) has.is
      ∙ (sym (append_assoc front (has.before ++ end_mark) has.behind) ∙ ap (λ all. all ++ has.behind) (sym (append_assoc front has.before end_mark)));
}

behind_one : (front : List ℕ) (b : ℕ) (xs : List ℕ) → HasEndMark xs → HasEndMark (front ++ b ∷ xs)
behind_one front b xs has = behind front (b ∷ xs) (behind (b ∷ []) xs has)

-- one more byte of the mark
one_more : (m b : ℕ) (xs : List ℕ) → m < 6 → slice_index end_mark m ≡ b → take (m + 1) end_mark ++ xs ≡ take m end_mark ++ b ∷ xs
one_more m b xs small is =
    ap (λ front. front ++ xs) (rw add-one (take-suc end_mark m 0 small) ∙ ap (λ c. take m end_mark ++ c ∷ []) is)
    ∙ append_assoc (take m end_mark) (b ∷ []) xs

whole : (m : ℕ) (xs : List ℕ) → (m == 6) ≡ true → HasEndMark (take m end_mark ++ xs)
whole m xs is = subst (λ n. HasEndMark (take n end_mark ++ xs)) (sym (eqb-true m 6 is)) (record { before = []; behind = xs; is = refl })

by_test : {A : Type 0} (c : Bool) → (c ≡ true → A) → (c ≡ false → A) → A
by_test true one other = one refl
by_test false one other = other refl

goes_further : (m b : ℕ) (bytes : List ℕ) → m < 6 → (nat_lt m 6 && slice_index end_mark m == b) ≡ true
    → (m + 1 < 6 → ends (m + 1) bytes ≡ true → HasEndMark (take (m + 1) end_mark ++ bytes))
    → (if m + 1 == 6 then true else ends (m + 1) bytes) ≡ true → HasEndMark (take m end_mark ++ b ∷ bytes)
goes_further m b bytes small next later is =
    let same = one_more m b bytes small (eqb-true (slice_index end_mark m) b (and_parts (nat_lt m 6) (slice_index end_mark m == b) next).1) in
    by_test (m + 1 == 6)
    (λ last. subst HasEndMark same (whole (m + 1) bytes last))
    (λ on. subst HasEndMark same (later (grind (arith, common_steps)) (sym (passed (m + 1 == 6) (ends (m + 1) bytes) on) ∙ is)))

-- If the mark ends among bytes, it is in them.
found : (m : ℕ) (bytes : List ℕ) → m < 6 → ends m bytes ≡ true → HasEndMark (take m end_mark ++ bytes)
found m [] small = λ is. absurd (false≢true is)
found m (b ∷ bytes) small =
    let Found : ℕ → Type 0 = λ n. (if n == 6 then true else ends n bytes) ≡ true → HasEndMark (take m end_mark ++ b ∷ bytes) in
    if_elim Found (b == 27) _ _
    (λ starts is. subst (λ c. HasEndMark (take m end_mark ++ c ∷ bytes)) (sym (eqb-true b 27 starts)) (behind (take m end_mark) (27 ∷ bytes) (found 1 bytes (omega arith) is)))
    (λ other. if_elim Found (nat_lt m 6 && slice_index end_mark m == b) _ _
    (λ next. goes_further m b bytes small next (λ on. found (m + 1) bytes on))
    (λ none is. behind_one (take m end_mark) b bytes (found 0 bytes (omega arith) is)))

-- ---- what is held back

-- a byte that is no ESC leaves no byte of the mark behind none
first_apart : (b : ℕ) → (b == 27) ≡ false → matched_by end_mark 0 b ≡ 0
first_apart b other =
    if_elim (λ n. n ≡ 0) (b == 27) _ _ (λ is. absurd (false≢true (sym other ∙ is)))
    (λ _. if_elim (λ n. n ≡ 0) (27 == b) _ _ (λ is. absurd (false≢true (sym other ∙ ap (λ c. c == 27) (sym (eqb-true 27 b is))))) (λ _. refl))

-- A byte goes on with the mark, or none of it came last.
on_or_none : (k b : ℕ) → (b == 27) ≡ false → (matched_by end_mark k b ≡ 0) ⊎ ((k < 6) × (slice_index end_mark k ≡ b) × (matched_by end_mark k b ≡ k + 1))
on_or_none k b other =
    if_elim (λ n. (n ≡ 0) ⊎ ((k < 6) × (slice_index end_mark k ≡ b) × (n ≡ k + 1))) (b == 27) _ _ (λ is. absurd (false≢true (sym other ∙ is)))
    (λ _. if_elim (λ n. (n ≡ 0) ⊎ ((k < 6) × (slice_index end_mark k ≡ b) × (n ≡ k + 1))) (nat_lt k 6 && slice_index end_mark k == b) _ _
    (λ is. let parts = and_parts (nat_lt k 6) (slice_index end_mark k == b) is in inr (grind (arith, common_steps), eqb-true (slice_index end_mark k) b parts.1, refl))
    (λ _. inl refl))

small_by : (n k : ℕ) → k < 6 → n ≡ k + 1 → (n == 6) ≡ false → n < 6
small_by n k small is on = grind (arith, common_steps)

-- a sequence goes on with each byte of the mark, but for its first and its last one
goes_with_mark : (k b : ℕ) → k < 6 → 0 < k → slice_index end_mark k ≡ b → k ≢ 5 → (if k == 1 then b == 91 else is_number b && nat_lt k 31) ≡ false → ⊥
goes_with_mark zero b small some is apart stops = omega arith
goes_with_mark (suc zero) b small some is apart stops = false≢true (sym stops ∙ ap (λ c. c == 91) (sym is))
goes_with_mark (suc (suc zero)) b small some is apart stops = false≢true (sym stops ∙ ap (λ c. is_number c && nat_lt 2 31) (sym is))
goes_with_mark (suc (suc (suc zero))) b small some is apart stops = false≢true (sym stops ∙ ap (λ c. is_number c && nat_lt 3 31) (sym is))
goes_with_mark (suc (suc (suc (suc zero)))) b small some is apart stops = false≢true (sym stops ∙ ap (λ c. is_number c && nat_lt 4 31) (sym is))
goes_with_mark (suc (suc (suc (suc (suc zero))))) b small some is apart stops = apart refl
goes_with_mark (suc (suc (suc (suc (suc (suc k)))))) b small some is apart stops = omega arith

-- m bytes of the mark came last of what was handed out, and k of what is held back
record Open (m k : ℕ) (held : List ℕ) (follows : Bool) : Type 0 where
  none : (n : ℕ) → ends n held ≡ false
  last : (n : ℕ) → after n held ≡ k
  size : (k ≡ 0) ⊎ (k ≡ length held)
  small : k < 6
  some : 0 < length held
  free : follows ≡ false → m ≡ 0

data At (m k : ℕ) (held : List ℕ) (follows : Bool) : Type 0 where
  Text : held ≡ [] → k ≡ 0 → m ≡ 0 → At m k held follows
  Sequence : Open m k held follows → At m k held follows

abbrev sieve : ℕ → List ℕ → Bool → List ℕ → SieveView
sieve k held follows report = record { is_inside = true; matched = k; held = held; follows_mark = follows; report = report }

-- where the mark is handed out, it came
abbrev Came : List ℕ → Type 0
Came bytes = (m k : ℕ) (held : List ℕ) (follows : Bool) (report : List ℕ) → At m k held follows
    → ends m (sifted (sieve k held follows report) bytes) ≡ true → HasEndMark (held ++ bytes)

-- the same behind one byte
abbrev CameBy : ℕ → List ℕ → ℕ → List ℕ → Sifted → Type 0
CameBy m held b bytes r = ends m (r.given ++ sifted r.next bytes) ≡ true → HasEndMark (held ++ b ∷ bytes)

escape_open : (m : ℕ) (follows : Bool) → (follows ≡ false → m ≡ 0) → Open m 1 (27 ∷ []) follows
escape_open m follows free = record {
  none = λ n. refl;
  last = λ n. refl;
  size = inr refl;
  small = omega arith;
  some = omega arith;
  free = free;
}

came_text : (b : ℕ) (bytes : List ℕ) (follows : Bool) (report : List ℕ) → Came bytes
    → CameBy 0 [] b bytes (pasted (sieve 0 [] follows report) b)
came_text b bytes follows report came =
    if_elim (CameBy 0 [] b bytes) (b == 27) _ _
    (λ is there. subst (λ c. HasEndMark (c ∷ bytes)) (sym (eqb-true b 27 is)) (came 0 1 (27 ∷ []) false report (Sequence (escape_open 0 false (λ _. refl))) there))
    (λ other there. let none = first_apart b other in
    behind (b ∷ []) bytes (came 0 0 [] follows report (Text refl refl refl)
    (sym (ap (λ n. if n == 6 then true else ends n (sifted (sieve 0 [] follows report) bytes)) none) ∙ there)))

module _ (m k : ℕ) (held : List ℕ) (follows : Bool) (report : List ℕ) (b : ℕ) (bytes : List ℕ) (o : Open m k held follows) (came : Came bytes) where
  -- what the mark does behind what is held back
  past_held : (n : ℕ) (more : List ℕ) → ends n (held ++ more) ≡ ends k more
  past_held n more = ends_append n held more (o.none n) ∙ ap (λ j. ends j more) (o.last n)

  past_byte : (n : ℕ) → (matched_by end_mark k b == 6) ≡ false → ends n (held ++ b ∷ []) ≡ false
  past_byte n on = past_held n (b ∷ []) ∙ passed (matched_by end_mark k b == 6) false on

  after_byte : (n : ℕ) → after n (held ++ b ∷ []) ≡ matched_by end_mark k b
  after_byte n = after_append n held (b ∷ []) ∙ ap (λ j. matched_by end_mark j b) (o.last n)

  came_escape : (b == 27) ≡ true → CameBy m held b bytes (record { given = held; next = sieve 1 (27 ∷ []) (nat_lt 0 k) report })
  came_escape is there =
      subst (λ c. HasEndMark (held ++ c ∷ bytes)) (sym (eqb-true b 27 is))
      (behind held (27 ∷ bytes) (came k 1 (27 ∷ []) (nat_lt 0 k) report (Sequence (escape_open k (nat_lt 0 k) (λ nought. grind (arith, common_steps))))
      (sym (past_held m (sifted (sieve 1 (27 ∷ []) (nat_lt 0 k) report) bytes)) ∙ there)))

  came_end : (matched_by end_mark k b == 6) ≡ true → HasEndMark (held ++ b ∷ bytes)
  came_end is =
      found 0 (held ++ b ∷ bytes) (omega arith)
      (past_held 0 (b ∷ bytes) ∙ ap (λ here. if here then true else ends (matched_by end_mark k b) bytes) is)

  came_report : (all : List ℕ) → follows ≡ false → CameBy m held b bytes (record { given = []; next = sieve 0 [] follows all })
  came_report all free there = behind_one held b bytes (came m 0 [] follows all (Text refl refl (o.free free)) there)

  length_byte : length (held ++ b ∷ []) ≡ length held + 1
  length_byte = length-append held (b ∷ [])

  sized : (k ≡ 0) ⊎ (k ≡ length held) → (matched_by end_mark k b ≡ 0) ⊎ ((k < 6) × (slice_index end_mark k ≡ b) × (matched_by end_mark k b ≡ k + 1)) → (b == 27) ≡ false
      → (matched_by end_mark k b ≡ 0) ⊎ (matched_by end_mark k b ≡ length (held ++ b ∷ []))
  sized size (inl none) other = inl none
  sized (inl nought) (inr on) other = inl (ap (λ j. matched_by end_mark j b) nought ∙ first_apart b other)
  sized (inr all) (inr on) other = inr (on.2 ∙ (ap (λ j. j + 1) all ∙ sym length_byte))

  still_small : (matched_by end_mark k b ≡ 0) ⊎ ((k < 6) × (slice_index end_mark k ≡ b) × (matched_by end_mark k b ≡ k + 1)) → (matched_by end_mark k b == 6) ≡ false → matched_by end_mark k b < 6
  still_small (inl none) on = subst (λ n. n < 6) (sym none) (omega arith)
  still_small (inr next) on = small_by (matched_by end_mark k b) k next.0 next.2 on

  still_open : (b == 27) ≡ false → (matched_by end_mark k b == 6) ≡ false → Open m (matched_by end_mark k b) (held ++ b ∷ []) follows
  still_open other on = record {
    none = λ n. past_byte n on;
    last = after_byte;
    size = sized o.size (on_or_none k b other) other;
    small = still_small (on_or_none k b other) on;
    some = omega (arith, length_byte);
    free = o.free;
  }

  came_on : (b == 27) ≡ false → (matched_by end_mark k b == 6) ≡ false
      → CameBy m held b bytes (record { given = []; next = sieve (matched_by end_mark k b) (held ++ b ∷ []) follows report })
  came_on other on there =
      subst HasEndMark (append_assoc held (b ∷ []) bytes)
      (came m (matched_by end_mark k b) (held ++ b ∷ []) follows report (Sequence (still_open other on)) there)

  gone_by : (k ≡ 0) ⊎ (k ≡ length held) → (matched_by end_mark k b ≡ 0) ⊎ ((k < 6) × (slice_index end_mark k ≡ b) × (matched_by end_mark k b ≡ k + 1)) → (b == 27) ≡ false
      → (matched_by end_mark k b == 6) ≡ false → number_goes_on held b ≡ false → matched_by end_mark k b ≡ 0
  gone_by size (inl none) other on stops = none
  gone_by (inl nought) (inr next) other on stops = ap (λ j. matched_by end_mark j b) nought ∙ first_apart b other
  gone_by (inr all) (inr next) other on stops =
      absurd (goes_with_mark k b next.0 (subst (λ n. 0 < n) (sym all) o.some) next.1 (λ five. false≢true (sym on ∙ ap (λ n. n == 6) (next.2 ∙ ap (λ j. j + 1) five)))
      (ap (λ n. if n == 1 then b == 91 else is_number b && nat_lt n 31) all ∙ stops))

  gone : (b == 27) ≡ false → (matched_by end_mark k b == 6) ≡ false → number_goes_on held b ≡ false → matched_by end_mark k b ≡ 0
  gone other on stops = gone_by o.size (on_or_none k b other) other on stops

  came_gone : (b == 27) ≡ false → (matched_by end_mark k b == 6) ≡ false → number_goes_on held b ≡ false
      → CameBy m held b bytes (record { given = held ++ b ∷ []; next = sieve 0 [] follows report })
  came_gone other on stops there =
      let rest = sifted (sieve 0 [] follows report) bytes in
      behind_one held b bytes (came 0 0 [] follows report (Text refl refl refl)
      (sym (ends_append m (held ++ b ∷ []) rest (past_byte m on) ∙ ap (λ n. ends n rest) (after_byte m ∙ gone other on stops)) ∙ there))

  came_sequence : CameBy m held b bytes (pasted (sieve k held follows report) b)
  came_sequence =
      if_elim (CameBy m held b bytes) (b == 27) _ _ came_escape
      (λ other. if_elim (CameBy m held b bytes) (length held == 0) _ _
      (λ none there. absurd (grind (arith, common_steps)))
      (λ _. if_elim (CameBy m held b bytes) (matched_by end_mark k b == 6) _ _
      (λ is there. came_end is)
      (λ on. if_elim (CameBy m held b bytes) (is_report (sieve k held follows report) b) _ _
      (λ is. came_report (held ++ b ∷ []) (not_true follows (and_parts (b == 82 && nat_lt 4 (length held)) (not follows) is).1))
      (λ _. if_elim (CameBy m held b bytes) (number_goes_on held b) _ _
      (λ is. came_on other on)
      (λ stops. came_gone other on stops)))))

came_none : (m k : ℕ) (held : List ℕ) (follows : Bool) → At m k held follows → ends m held ≡ true → HasEndMark (held ++ [])
came_none m k held follows (Text empty none first) there = absurd (false≢true (sym (ap (ends m) empty) ∙ there))
came_none m k held follows (Sequence o) there = absurd (false≢true (sym (o.none m) ∙ there))

came_by : (m k : ℕ) (held : List ℕ) (follows : Bool) (report : List ℕ) (b : ℕ) (bytes : List ℕ) → Came bytes → At m k held follows
    → CameBy m held b bytes (pasted (sieve k held follows report) b)
came_by m k held follows report b bytes came (Sequence o) = came_sequence m k held follows report b bytes o came
came_by m k held follows report b bytes came (Text empty none first) =
    subst (λ n. CameBy n held b bytes (pasted (sieve k held follows report) b)) (sym first)
    (subst (λ n. CameBy 0 held b bytes (pasted (sieve n held follows report) b)) (sym none)
    (subst (λ h. CameBy 0 h b bytes (pasted (sieve 0 h follows report) b)) (sym empty) (came_text b bytes follows report came)))

came_all : (bytes : List ℕ) → Came bytes
came_all [] m k held follows report at there = came_none m k held follows at there
came_all (b ∷ bytes) m k held follows report at there =
    let first = pasted (sieve k held follows report) b in
    let rest = sift_all first.next bytes in
    came_by m k held follows report b bytes (came_all bytes) at
    (sym (ap (ends m) (append_assoc first.given rest.given rest.next.held)) ∙ there)

pub no_mark_is_made : NoMarkIsMade
no_mark_is_made bytes has =
    came_all bytes 0 0 [] false [] (Text refl refl refl) (ap (ends 0) has.is ∙ mark_ends 0 has.before has.behind)
