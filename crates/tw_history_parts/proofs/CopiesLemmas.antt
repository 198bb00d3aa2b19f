-- The last copies of lines are what is left of them once they are added one after the other.
use Rattle.std.proofs.Common.{◌≡◌, ℕ, suc, ◌+◌, ◌-◌, ◌<◌, ◌≤◌, Bool, true, false, List, [], ◌∷◌, ◌++◌, length, get_or, take, drop, refl, sym, ap, subst, ◌∙◌, Bor, arith, length-append, append_assoc, append-nil, true≢false}
use Rattle.std.specs.HashSet.{HashSet, Updates, contains_by}
use Rattle.std.specs.Prelude.{cond, map, not, ◌||◌}
use Rattle.std.specs.List.{AllByRecursion, IsDistinct, filter}
use Rattle.std.specs.Set.{is_member, unique_keys}
use Rattle.std.specs.Str.{bytes_eq}
use Rattle.std.specs.Bool.{one_answer}
use Rattle.std.proofs.lemmas.Bool.{cases_lt}
use Rattle.std.proofs.Math.Logic.{⊎_elim}
use Rattle.std.proofs.lemmas.List.Folds.{list_any-append}
use Rattle.std.proofs.lemmas.List.{take_all, take_more, take-append-drop, length-drop, at_drop_more}
use Rattle.std.proofs.lemmas.Map.Made.{IsDistinct-from_AllPairs}
use Rattle.std.proofs.lemmas.Slice.Eq.{bytes_eq-Decides}
use Rattle.std.proofs.lemmas.Option.{slice_get-get_or}
use Rattle.tw_line.specs.HistoryAdditions.{is_line}
use Rattle.tw_line.specs.NearestMatch.{last_line}
use Rattle.tw_history_parts.specs.HistoryFile.{AddsAll}
use Rattle.tw_history_parts.specs.Recent.{AreUnique, RecentLines, gives_recent, is_another, newest, older_lines, with_recent}
use Rattle.tw_history_parts.proofs.RecentLemmas.{added_unique, stays_unique}

abbrev pub copies : List (List ℕ) → List (List ℕ)
copies lines = unique_keys bytes_eq lines

abbrev pub among : List ℕ → List (List ℕ) → Bool
among line lines = is_member bytes_eq lines line

same : (a b : List ℕ) → bytes_eq a b ≡ true → a ≡ b
same a b = (bytes_eq-Decides a b).0

flip : (a b : List ℕ) → bytes_eq a b ≡ bytes_eq b a
flip a b = one_answer _ _ (bytes_eq-Decides a b) (λ e. sym (same b a e), λ e. (bytes_eq-Decides b a).1 (sym e))

-- ---- the copies of two lists

pub copies_front : (xs ys : List (List ℕ)) → (front : List (List ℕ)) × (copies (xs ++ ys) ≡ front ++ copies ys)
copies_front [] ys = ([], refl)
copies_front (x ∷ xs) ys = by x xs ys (copies_front xs ys) (among x (xs ++ ys)) refl
  where
    by : (x : List ℕ) (xs ys : List (List ℕ)) → ((front : List (List ℕ)) × (copies (xs ++ ys) ≡ front ++ copies ys)) → (b : Bool) → among x (xs ++ ys) ≡ b
        → (front : List (List ℕ)) × (copies (x ∷ (xs ++ ys)) ≡ front ++ copies ys)
    by x xs ys more true e = (more.0, rw e more.1)
    by x xs ys more false e = (x ∷ more.0, rw e (ap (λ l. x ∷ l) more.1))

pub newest_behind : (limit : ℕ) (xs ys : List (List ℕ)) → limit ≤ length ys → newest limit (xs ++ ys) ≡ newest limit ys
newest_behind limit [] ys long = refl
newest_behind limit (x ∷ xs) ys long =
    let n = length (xs ++ ys) in
    let more : suc n - limit ≡ suc (n - limit) = omega (arith, long, length-append xs ys) in
    ap (λ k. drop k (x ∷ (xs ++ ys))) more ∙ newest_behind limit xs ys long

newest_all : (limit : ℕ) (xs : List (List ℕ)) → length xs ≤ limit → newest limit xs ≡ xs
newest_all limit xs few = let none : length xs - limit ≡ 0 = omega (arith, few) in rw none refl

-- ---- lines that stand once

none_among : (x : List ℕ) (xs : List (List ℕ)) → AllByRecursion (λ y. bytes_eq x y ≡ false) xs → among x xs ≡ false
none_among x [] others = refl
none_among x (y ∷ xs) others = rw (others.0) (none_among x xs others.1)

pub copies_distinct : (xs : List (List ℕ)) → IsDistinct bytes_eq xs → copies xs ≡ xs
unfolding IsDistinct
copies_distinct [] once = refl
copies_distinct (x ∷ xs) once = rw (none_among x xs once.0) (ap (λ l. x ∷ l) (copies_distinct xs once.1))

pub copies_unique : (xs : List (List ℕ)) → AreUnique xs → copies xs ≡ xs
copies_unique xs unique = copies_distinct xs (IsDistinct-from_AllPairs bytes_eq-Decides xs unique)

-- ---- one line more

or-false : (a b : Bool) → (a || b) ≡ false → (a ≡ false) × (b ≡ false)
or-false true b e = absurd (true≢false e)
or-false false b e = (refl, e)

filter_none : (x : List ℕ) (xs : List (List ℕ)) → among x xs ≡ false → filter (is_another x) (copies xs) ≡ copies xs
filter_none x [] none = refl
filter_none x (y ∷ xs) none =
    let others = or-false (bytes_eq x y) (among x xs) none in
    by x y xs (flip y x ∙ others.0) (filter_none x xs others.1) (among y xs) refl
  where
    by : (x y : List ℕ) (xs : List (List ℕ)) → bytes_eq y x ≡ false → filter (is_another x) (copies xs) ≡ copies xs → (b : Bool) → among y xs ≡ b
        → filter (is_another x) (copies (y ∷ xs)) ≡ copies (y ∷ xs)
    by x y xs other more true e = rw e more
    by x y xs other more false e = rw (e, other) (ap (λ l. y ∷ l) more)

copies_less : (x : List ℕ) (xs : List (List ℕ)) → length (copies xs) ≤ length (filter (is_another x) (copies xs)) + 1
copies_less x [] = omega arith
copies_less x (y ∷ xs) = by x y xs (copies_less x xs) (among y xs) refl (bytes_eq y x) refl
  where
    by : (x y : List ℕ) (xs : List (List ℕ)) → length (copies xs) ≤ length (filter (is_another x) (copies xs)) + 1 → (b : Bool) → among y xs ≡ b → (d : Bool) → bytes_eq y x ≡ d
        → length (copies (y ∷ xs)) ≤ length (filter (is_another x) (copies (y ∷ xs))) + 1
    by x y xs more true e d is = rw e more
    by x y xs more false e true is =
        let none : filter (is_another x) (copies xs) ≡ copies xs = subst (λ z. filter (is_another z) (copies xs) ≡ copies xs) (same y x is) (filter_none y xs e) in
        rw (e, is) (omega (arith, ap length none))
    by x y xs more false e false is = rw (e, is) (omega (arith, more))

copies_snoc : (xs : List (List ℕ)) (x : List ℕ) → copies (xs ++ x ∷ []) ≡ filter (is_another x) (copies xs) ++ x ∷ []
copies_snoc [] x = refl
copies_snoc (y ∷ xs) x = by xs x y (copies_snoc xs x) (among_snoc y xs x) (among y xs) refl (bytes_eq y x) refl
  where
    or-nil : (a b : Bool) → (a || (b || false)) ≡ (a || b)
    or-nil true b = refl
    or-nil false true = refl
    or-nil false false = refl

    among_snoc : (y : List ℕ) (xs : List (List ℕ)) (x : List ℕ) → among y (xs ++ x ∷ []) ≡ (among y xs || bytes_eq y x)
    among_snoc y xs x = list_any-append (bytes_eq y) xs (x ∷ []) ∙ or-nil (among y xs) (bytes_eq y x)

    by : (xs : List (List ℕ)) (x y : List ℕ) → copies (xs ++ x ∷ []) ≡ filter (is_another x) (copies xs) ++ x ∷ [] → among y (xs ++ x ∷ []) ≡ (among y xs || bytes_eq y x)
        → (b : Bool) → among y xs ≡ b → (d : Bool) → bytes_eq y x ≡ d
        → copies ((y ∷ xs) ++ x ∷ []) ≡ filter (is_another x) (copies (y ∷ xs)) ++ x ∷ []
    by xs x y more whole true e d is = rw (whole, e) more
    by xs x y more whole false e true is = rw (whole, e, is) more
    by xs x y more whole false e false is = rw (whole, e, is) (ap (λ l. y ∷ l) more)

pub copies_longer : (xs ys : List (List ℕ)) → length (copies xs) ≤ length (copies (xs ++ ys))
copies_longer xs [] = let same = ap (λ l. length (copies l)) (append-nil xs) in omega (arith, same)
copies_longer xs (y ∷ ys) =
    let one = ap length (copies_snoc xs y) ∙ length-append (filter (is_another y) (copies xs)) (y ∷ []) in
    let whole = ap (λ l. length (copies l)) (append_assoc xs (y ∷ []) ys) in
    omega (arith, copies_less y xs, one, copies_longer (xs ++ y ∷ []) ys, whole)

-- ---- a walk from the last line to the first

-- of lines that are fewer than the limit all are the newest
some_left : (limit : ℕ) (xs : List (List ℕ)) → length (newest limit xs) < limit → length xs ≤ limit
some_left limit xs few = omega (arith, few, length-drop (length xs - limit) xs)

pub kept_more : (limit : ℕ) (x : List ℕ) (newer kept : List (List ℕ)) → kept ≡ newest limit (copies newer) → length kept < limit → among x newer ≡ false
    → x ∷ kept ≡ newest limit (copies (x ∷ newer))
kept_more limit x newer kept is few none =
    let all : length (copies newer) ≤ limit = some_left limit (copies newer) (omega (arith, few, ap length is)) in
    let whole : kept ≡ copies newer = is ∙ newest_all limit (copies newer) all in
    rw none (ap (λ l. x ∷ l) whole ∙ sym (newest_all limit (x ∷ copies newer) (omega (arith, few, ap length whole))))

pub kept_same : (limit : ℕ) (x : List ℕ) (newer kept : List (List ℕ)) → kept ≡ newest limit (copies newer) → among x newer ≡ true → kept ≡ newest limit (copies (x ∷ newer))
kept_same limit x newer kept is one = rw one is

pub kept_full : (limit : ℕ) (x : List ℕ) (newer kept : List (List ℕ)) → kept ≡ newest limit (copies newer) → limit ≤ length kept → kept ≡ newest limit (copies (x ∷ newer))
kept_full limit x newer kept is full =
    let front = copies_front (x ∷ []) newer in
    let size = length-drop (length (copies newer) - limit) (copies newer) in
    is ∙ sym (ap (newest limit) front.1 ∙ newest_behind limit front.0 (copies newer) (omega (arith, full, ap length is, size)))

-- the lines from one on
pub walked : (lines : List (Bor (List ℕ))) (at : ℕ) (x : Bor (List ℕ)) → 0 < at → at ≤ length lines
    → map (λ line. line.now) (drop (at - 1) lines) ≡ (get_or lines (at - 1) x).now ∷ map (λ line. line.now) (drop at lines)
walked lines at x some within =
    let back : (at - 1) + 1 ≡ at = omega (arith, some) in
    at_drop_more (map (λ line. line.now)) lines (at - 1) x (omega (arith, some, within))
    ∙ ap (λ k. (get_or lines (at - 1) x).now ∷ map (λ line. line.now) (drop k lines)) back

-- what was seen, once a line is put to it
pub seen_more : {S : Type 0} (seen new : HashSet (Bor (List ℕ)) S) (x : Bor (List ℕ)) (newer : List (List ℕ)) → Updates (λ x y. bytes_eq x.now y.now) seen new x true
    → ((line : List ℕ) → contains_by (λ key. bytes_eq line key.now) seen ≡ among line newer)
    → (line : List ℕ) → contains_by (λ key. bytes_eq line key.now) new ≡ among line (x.now ∷ newer)
seen_more seen new x newer updates before line =
    updates.0 (record { ref_ptr = (0, 0); now = line })
    ∙ ap (λ b. cond (bytes_eq x.now line) true b) (before line)
    ∙ by (bytes_eq x.now line) (bytes_eq line x.now) (among line newer) (flip x.now line)
  where
    by : (a b rest : Bool) → a ≡ b → cond a true rest ≡ (b || rest)
    by true true rest e = refl
    by false false rest e = refl
    by true false rest e = absurd (true≢false e)
    by false true rest e = absurd (true≢false (sym e))

-- what an insertion says of a line
pub is_new : (b c a : Bool) → b ≡ true → b ≡ not c → c ≡ a → a ≡ false
is_new true false a is says same = sym same
is_new true true a is says same = absurd (true≢false says)
is_new false c a is says same = absurd (true≢false (sym is))

pub is_old : (b c a : Bool) → b ≡ false → b ≡ not c → c ≡ a → a ≡ true
is_old false true a is says same = sym same
is_old false false a is says same = absurd (true≢false (sym says))
is_old true c a is says same = absurd (true≢false is)

-- ---- lines that are added one after the other

among_last : (line x : List ℕ) (h rest : List (List ℕ)) → bytes_eq line x ≡ true → among line (h ++ x ∷ rest) ≡ true
among_last line x [] rest is = rw is refl
among_last line x (z ∷ h) rest is = rw (among_last line x h rest is) (or-true (bytes_eq line z))
  where
    or-true : (a : Bool) → (a || true) ≡ true
    or-true true = refl
    or-true false = refl

among_filter : (line x : List ℕ) (h rest : List (List ℕ)) → among line (filter (is_another x) h ++ x ∷ rest) ≡ among line (h ++ x ∷ rest)
among_filter line x [] rest = refl
among_filter line x (z ∷ h) rest = by line x z h rest (among_filter line x h rest) (bytes_eq z x) refl (bytes_eq line z) refl
  where
    by : (line x z : List ℕ) (h rest : List (List ℕ)) → among line (filter (is_another x) h ++ x ∷ rest) ≡ among line (h ++ x ∷ rest)
        → (b : Bool) → bytes_eq z x ≡ b → (d : Bool) → bytes_eq line z ≡ d
        → among line (filter (is_another x) (z ∷ h) ++ x ∷ rest) ≡ among line ((z ∷ h) ++ x ∷ rest)
    by line x z h rest more false other d is = rw other (ap (λ b. bytes_eq line z || b) more)
    by line x z h rest more true one false is = rw (one, is) more
    by line x z h rest more true one true is =
        rw (one, is) (more ∙ among_last line x h rest (subst (λ y. bytes_eq line y ≡ true) (same z x one) is))

copies_filter : (x : List ℕ) (h rest : List (List ℕ)) → copies (filter (is_another x) h ++ x ∷ rest) ≡ copies (h ++ x ∷ rest)
copies_filter x [] rest = refl
copies_filter x (z ∷ h) rest = by x z h rest (copies_filter x h rest) (bytes_eq z x) refl (among z (h ++ x ∷ rest)) refl
  where
    by : (x z : List ℕ) (h rest : List (List ℕ)) → copies (filter (is_another x) h ++ x ∷ rest) ≡ copies (h ++ x ∷ rest)
        → (b : Bool) → bytes_eq z x ≡ b → (d : Bool) → among z (h ++ x ∷ rest) ≡ d
        → copies (filter (is_another x) (z ∷ h) ++ x ∷ rest) ≡ copies ((z ∷ h) ++ x ∷ rest)
    by x z h rest more true one d is = rw (one, among_last z x h rest one) more
    by x z h rest more false other true is = rw (other, among_filter z x h rest, is) more
    by x z h rest more false other false is = rw (other, among_filter z x h rest, is) (ap (λ l. z ∷ l) more)

-- the newest of lines that stand once, and others behind them
newest_joined : (limit : ℕ) (lines others : List (List ℕ)) → copies (newest limit lines) ≡ newest limit lines
    → newest limit (copies (newest limit lines ++ others)) ≡ newest limit (copies (lines ++ others))
newest_joined limit lines others once =
    ⊎_elim
    (λ long.
    let gone = length lines - limit in
    let left = newest limit lines in
    let parted : lines ++ others ≡ take gone lines ++ (left ++ others) =
    ap (λ l. l ++ others) (sym (take-append-drop gone lines)) ∙ append_assoc (take gone lines) left others in
    let front = copies_front (take gone lines) (left ++ others) in
    let size = length-drop gone lines in
    sym (ap (λ l. newest limit (copies l)) parted ∙ ap (newest limit) front.1
    ∙ newest_behind limit front.0 (copies (left ++ others)) (omega (arith, long, size, ap length once, copies_longer left others))))
    (λ few. ap (λ l. newest limit (copies (l ++ others))) (newest_all limit lines few))
    (cases_lt limit (length lines))

-- a line that is last already
among_double : (line x : List ℕ) (ys xs : List (List ℕ)) → among line (ys ++ x ∷ x ∷ xs) ≡ among line (ys ++ x ∷ xs)
among_double line x [] xs = twice (bytes_eq line x) (among line xs)
  where
    twice : (a b : Bool) → (a || (a || b)) ≡ (a || b)
    twice true b = refl
    twice false b = refl
among_double line x (y ∷ ys) xs = ap (λ b. bytes_eq line y || b) (among_double line x ys xs)

copies_double : (x : List ℕ) (ys xs : List (List ℕ)) → copies (ys ++ x ∷ x ∷ xs) ≡ copies (ys ++ x ∷ xs)
copies_double x [] xs = rw ((bytes_eq-Decides x x).1 refl) refl
copies_double x (y ∷ ys) xs = by x y ys xs (copies_double x ys xs) (among y (ys ++ x ∷ xs)) refl
  where
    by : (x y : List ℕ) (ys xs : List (List ℕ)) → copies (ys ++ x ∷ x ∷ xs) ≡ copies (ys ++ x ∷ xs) → (b : Bool) → among y (ys ++ x ∷ xs) ≡ b
        → copies (y ∷ (ys ++ x ∷ x ∷ xs)) ≡ copies (y ∷ (ys ++ x ∷ xs))
    by x y ys xs more true e = rw (among_double y x ys xs, e) more
    by x y ys xs more false e = rw (among_double y x ys xs, e) (ap (λ l. y ∷ l) more)

ends_in : (x : List ℕ) (lines : List (List ℕ)) → is_line x (last_line lines) ≡ true → (ys : List (List ℕ)) × (lines ≡ ys ++ x ∷ [])
ends_in x [] e = absurd (true≢false (sym e))
ends_in x (z ∷ lines) e =
    let n = length lines in
    let at : length (z ∷ lines) - 1 ≡ n = omega arith in
    let last = rw (at, slice_get-get_or (z ∷ lines) n [] (omega arith)) at e in
    let whole = sym (take_all (n + 1) (z ∷ lines) (omega arith)) ∙ take_more (z ∷ lines) n [] (omega arith) in
    (take n (z ∷ lines), whole ∙ ap (λ c. take n (z ∷ lines) ++ c ∷ []) (same (get_or (z ∷ lines) n []) x last))

-- one of them
added_step : (h : RecentLines) (x : List ℕ) (xs : List (List ℕ)) → h.is_unique ≡ true → AreUnique h.lines → (b : Bool) → is_line x (last_line h.lines) ≡ b
    → newest h.limit (copies ((with_recent h x).lines ++ xs)) ≡ newest h.limit (copies (h.lines ++ x ∷ xs))
added_step h x xs is unique true e =
    let ends = ends_in x h.lines e in
    rw e (ap (newest h.limit) (
    ap (λ l. copies (l ++ xs)) ends.1 ∙ ap copies (append_assoc ends.0 (x ∷ []) xs)
    ∙ sym (ap (λ l. copies (l ++ x ∷ xs)) ends.1 ∙ ap copies (append_assoc ends.0 (x ∷ []) (x ∷ xs)) ∙ copies_double x ends.0 xs)))
added_step h x xs is unique false e =
    let others = filter (is_another x) h.lines ++ x ∷ [] in
    rw (e, is) (newest_joined h.limit others xs (copies_unique (newest h.limit others) (added_unique h.limit h.lines x unique))
    ∙ ap (λ l. newest h.limit (copies l)) (append_assoc (filter (is_another x) h.lines) (x ∷ []) xs)
    ∙ ap (newest h.limit) (copies_filter x h.lines xs))

-- only the lines change, and they stay within the limit
only_lines : (h : RecentLines) (x : List ℕ) (b : Bool) → is_line x (last_line h.lines) ≡ b → with_recent h x ≡ record h { lines = (with_recent h x).lines }
only_lines h x true e = rw e refl
only_lines h x false e = rw e refl

fits : (h : RecentLines) (x : List ℕ) (b : Bool) → is_line x (last_line h.lines) ≡ b → length h.lines ≤ h.limit → length (with_recent h x).lines ≤ h.limit
fits h x true e few = rw e few
fits h x false e few =
    let all = older_lines h.is_unique x h.lines ++ x ∷ [] in
    rw e (omega (arith, length-drop (length all - h.limit) all))

pub all_added : (h : RecentLines) (lines : List (List ℕ)) → h.is_unique ≡ true → AreUnique h.lines → length h.lines ≤ h.limit
    → AddsAll gives_recent lines h (record h { lines = newest h.limit (copies (h.lines ++ lines)) })
all_added h [] is unique few =
    ap (λ l. record h { lines = l }) (ap (λ l. newest h.limit (copies l)) (append-nil h.lines) ∙ ap (newest h.limit) (copies_unique h.lines unique) ∙ newest_all h.limit h.lines few)
all_added h (x ∷ xs) is unique few =
    let b = is_line x (last_line h.lines) in
    let lines = (with_recent h x).lines in (
      record h { lines = lines },
      sym (only_lines h x b refl),
      subst (λ l. AddsAll gives_recent xs (record h { lines = lines }) (record h { lines = l }))
          (added_step h x xs is unique b refl)
          (all_added (record h { lines = lines }) xs is (stays_unique h x is unique) (fits h x b refl few)),
    )

-- and they stand once
adds_unique : (lines : List (List ℕ)) (old new : RecentLines) → AddsAll gives_recent lines old new
    → old.is_unique ≡ true → AreUnique old.lines → AreUnique new.lines
adds_unique [] old new adds is unique = subst (λ h. AreUnique h.lines) (sym adds) unique
adds_unique (line ∷ lines) old new (between, one, others) is unique =
    adds_unique lines between new others (ap (λ h. h.is_unique) one ∙ ap (λ h. h.is_unique) (only_lines old line _ refl) ∙ is)
    (subst (λ h. AreUnique h.lines) (sym one) (stays_unique old line is unique))

pub copies_stand_once : (h : RecentLines) (lines : List (List ℕ)) → h.is_unique ≡ true → AreUnique h.lines → length h.lines ≤ h.limit
    → AreUnique (newest h.limit (copies (h.lines ++ lines)))
copies_stand_once h lines is unique few = adds_unique lines h (record h { lines = newest h.limit (copies (h.lines ++ lines)) }) (all_added h lines is unique few) is unique

pub newest_few : (limit : ℕ) (lines : List (List ℕ)) → length (newest limit lines) ≤ limit
newest_few limit lines = omega (arith, length-drop (length lines - limit) lines)
