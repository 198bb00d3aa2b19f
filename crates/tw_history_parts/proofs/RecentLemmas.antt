-- The newest lines, and lines that stand once.
use Rattle.std.proofs.Common.{◌≡◌, ◌≢◌, ℕ, ◌+◌, ◌-◌, ◌<◌, Bool, true, List, [], ◌∷◌, ◌++◌, length, map, drop, refl, sym, ap, subst, true≢false, ◌∙◌, Some, String, string_bytes, arith, length-append, ⊎_elim}
use Rattle.std.specs.Prelude.{not, Err, Ok, OnErr, OnOk, Result}
use Rattle.std.specs.declared.alloc.Global.{Global}
use Rattle.std.specs.List.{AllPairs, filter, items_where_true}
use Rattle.std.specs.List.Retain.{ReturnsInTurn}
use lib.Pointwise.{bytes_decides}
use Rattle.std.proofs.lemmas.Bool.Decides.{nat_tests}
use Rattle.std.proofs.lemmas.List.{get_or-drop, get_or_push, length-drop}
use Rattle.std.proofs.lemmas.Option.{slice_get-get_or}
use Rattle.std.proofs.lemmas.List.Elements.{filter_passes}
use Rattle.std.proofs.lemmas.List.Kept.{AllPairs-filter}
use Rattle.std.proofs.lemmas.List.Quantifiers.{all_pairs_push}
use Rattle.tw_line.specs.NearestMatch.{last_line}
use Rattle.tw_history_parts.specs.declared.written.WrittenHistory.{WrittenHistory}
use Rattle.tw_history_parts.specs.HistoryFile.{AddsAll, lines_in}
use Rattle.tw_history_parts.specs.Written.{IsOpened}
use Rattle.tw_history_parts.specs.Recent.{AreUnique, RecentLines, StaysUnique, gives_recent, is_another, newest, older_lines}

-- ---- the newest lines

-- a line that is put after others is the last of the newest
pub last_line_newest : (limit : ℕ) (xs : List (List ℕ)) (x : List ℕ) → 0 < limit → last_line (newest limit (xs ++ x ∷ [])) ≡ Some x
last_line_newest limit xs x some =
    let all = xs ++ x ∷ [] in
    let gone = length all - limit in
    let last = length (drop gone all) - 1 in
    let whole = length-append xs (x ∷ []) in
    let left = length-drop gone all in
    slice_get-get_or (drop gone all) last x (omega (arith, some, whole, left))
    ∙ ap (λ line. Some line) (get_or-drop gone all last x ∙ get_or_push xs x x (gone + last) (omega (arith, some, whole, left)))

-- ---- lines that stand once

AllPairs-drop : {X : Type 0} (R : X → X → Type 0) (k : ℕ) (xs : List X) → AllPairs R xs → AllPairs R (drop k xs)
AllPairs-drop R k xs pairs i j d lt within =
    rw (get_or-drop k xs i d, get_or-drop k xs j d) (pairs (k + i) (k + j) d (omega arith) (omega (arith, length-drop k xs)))

-- what `retain` keeps by a test that what it captures does not change
pub kept_by : {X P : Type 0} (R : P → X → Bool → P → Type 0) (test : X → Bool) (f : P) → ((x : X) (b : Bool) (g : P) → R f x b g → (g ≡ f) × (b ≡ test x))
    → (bs : List Bool) (xs : List X) (q : P) → length bs ≡ length xs → ReturnsInTurn R f bs xs q → items_where_true bs xs ≡ filter test xs
kept_by R test f says [] [] q size turns = refl
kept_by R test f says [] (x ∷ xs) q size turns = absurd (omega (arith, size))
kept_by R test f says (b ∷ bs) [] q size turns = absurd (omega (arith, size))
kept_by R test f says (b ∷ bs) (x ∷ xs) q size (g, called, turns) =
    let said = says x b g called in
    let more = kept_by R test f says bs xs q (omega (arith, size)) (subst (λ p. ReturnsInTurn R p bs xs q) said.0 turns) in
    rw said.1 (grind (arith, nat_tests))

-- the entries that stay have the lines that stay
pub others_kept : (line : List ℕ) (entries : List (String Global)) → map string_bytes (filter (λ entry. is_another line (string_bytes entry)) entries) ≡ filter (is_another line) (map string_bytes entries)
others_kept line [] = refl
others_kept line (entry ∷ entries) = let rest = others_kept line entries in grind (arith, nat_tests)

-- the newest of lines that stand once, and of one that is added
pub added_unique : (limit : ℕ) (lines : List (List ℕ)) (line : List ℕ) → AreUnique lines → AreUnique (newest limit (filter (is_another line) lines ++ line ∷ []))
added_unique limit lines line unique =
    AllPairs-drop (λ older newer. older ≢ newer) _ _
    (all_pairs_push (λ older newer. older ≢ newer) _ line (AllPairs-filter (λ older newer. older ≢ newer) (is_another line) lines unique)
    (λ k d lt same. true≢false (sym (filter_passes (is_another line) lines k d lt) ∙ ap not ((bytes_decides _ line).1 same))))

pub stays_unique : StaysUnique
stays_unique h line is_unique unique = let added = added_unique h.limit h.lines line unique in grind (arith, nat_tests)

-- so it is where a line was added, or was not
pub unique_after : {R E : Type 0} (r : Result R E) (is_unique : Bool) (limit : ℕ) (lines new : List (List ℕ)) (line : List ℕ) → (is_unique ≡ true → AreUnique lines)
    → OnOk r (new ≡ newest limit (older_lines is_unique line lines ++ line ∷ [])) → OnErr r (new ≡ lines) → is_unique ≡ true → AreUnique new
unique_after (Ok value) is_unique limit lines new line unique added refused is = rw (added, is) (added_unique limit lines line (unique is))
unique_after (Err fault) is_unique limit lines new line unique added refused is = rw refused (unique is)

-- ---- what stays as lines are added

pub adds_keep : (lines : List (List ℕ)) (old new : RecentLines) → AddsAll gives_recent lines old new → (new.limit ≡ old.limit) × (new.is_unique ≡ old.is_unique)
adds_keep [] old new adds = (ap (λ h. h.limit) adds, ap (λ h. h.is_unique) adds)
adds_keep (line ∷ lines) old new (between, one, others) =
    let rest = adds_keep lines between new others in
    grind (arith, nat_tests, one)

-- and where a file was opened
pub opened_keeps : {W : Type 0} (lines : RecentLines) (it : WrittenHistory RecentLines W) → IsOpened lines it → (it.history.limit ≡ lines.limit) × (it.history.is_unique ≡ lines.is_unique)
opened_keeps lines it opened =
    ⊎_elim
    (λ read. adds_keep (lines_in read.0) lines it.history read.1)
    (λ unread. (ap (λ h. h.limit) unread.1, ap (λ h. h.is_unique) unread.1)) opened
