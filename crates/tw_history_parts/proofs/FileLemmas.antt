-- Lines that are written, and what is read of them.
use Rattle.std.proofs.Common.{◌≡◌, ◌≢◌, ℕ, zero, suc, ◌+◌, ◌-◌, ◌<◌, not, Bool, true, false, List, [], ◌∷◌, ◌++◌, length, get_or, take, Some, None, refl, sym, ap, subst, ◌∙◌, append_assoc, append-nil, length-append, arith, ⊎_elim, inl, inr}
use Rattle.std.specs.Prelude.{◌⊎◌, ◌==◌, Contains, if◌then◌else◌, slice_get}
use Rattle.std.specs.Option.{option_map_or}
use Rattle.std.specs.List.{filter_map}
use Rattle.std.specs.Str.{is_utf8}
use Rattle.std.proofs.lemmas.Bool.{eqb-true, not-false}
use Rattle.std.proofs.lemmas.Bool.Decides.{nat_tests}
use Rattle.std.proofs.lemmas.List.{get_or-append-add, take_all, take_more}
use Rattle.std.proofs.lemmas.Option.{slice_get-get_or}
use Rattle.std.proofs.lemmas.List.Elements.{All-head, All-tail, filter_map-append}
use Rattle.tw_history_parts.specs.HistoryFile.{BeginningIsRead, DamageStaysAlone, EndIsRead, IsCutAtFeed, ResumedAreRead, WrittenAreRead, cut_end, ended, entries, escaped, escaped_byte, is_cut_off, is_some_text, line_of, lines_in, unescaped, unescaped_behind, whole_lines, whole_part, with_byte_in_front, written_line, written_lines}
use Rattle.tw_history_parts.proofs.ReadingLemmas.{lines_cut, part_cut, part_uncut, unended_line}

-- ---- one line

ended_escaped : (line rest : List ℕ) → whole_lines (escaped line ++ (10 ∷ rest)) ≡ escaped line ∷ whole_lines rest
ended_escaped [] rest = refl
ended_escaped (b ∷ line) rest =
    let joined = append_assoc (escaped_byte b) (escaped line) (10 ∷ rest) in
    let more = ended_escaped line rest in
    grind (arith, nat_tests)

unended_escaped : (line : List ℕ) → whole_lines (escaped line) ≡ []
unended_escaped [] = refl
unended_escaped (b ∷ line) = let more = unended_escaped line in grind (arith, nat_tests)

unescaped_escaped : (line : List ℕ) → unescaped (escaped line) ≡ Some line
unescaped_escaped [] = refl
unescaped_escaped (b ∷ line) = let more = unescaped_escaped line in grind (arith, nat_tests)

-- an entry is written as some bytes
escaped_some : (line : List ℕ) → is_some_text (escaped line) ≡ is_some_text line
escaped_some [] = refl
escaped_some (b ∷ line) = grind (arith, nat_tests)

-- a written line, and those after it
lines_in-cons : (line rest : List ℕ) (x : Bool) → is_utf8 line ≡ true → is_some_text line ≡ x
    → lines_in (written_line line ++ rest) ≡ (if x then line ∷ lines_in rest else lines_in rest)
lines_in-cons line rest true text some =
    ap lines_in (append_assoc (escaped line) (10 ∷ []) rest)
    ∙ ap (filter_map line_of) (ended_escaped line rest)
    ∙ rw (escaped_some line, some, unescaped_escaped line, text) refl
lines_in-cons line rest false text none =
    ap lines_in (append_assoc (escaped line) (10 ∷ []) rest)
    ∙ ap (filter_map line_of) (ended_escaped line rest)
    ∙ rw (escaped_some line, none) refl

-- and the entries among those before lines
entries-cons : (line : List ℕ) (lines : List (List ℕ)) (x : Bool) → is_some_text line ≡ x → entries (line ∷ lines) ≡ (if x then line ∷ entries lines else entries lines)
entries-cons line lines x some = rw some refl

-- a written line in front of bytes of which some lines are read
read_behind : (line rest : List ℕ) (lines : List (List ℕ)) → is_utf8 line ≡ true → lines_in rest ≡ entries lines → lines_in (written_line line ++ rest) ≡ entries (line ∷ lines)
read_behind line rest lines text read =
    lines_in-cons line rest (is_some_text line) text refl ∙ ap (λ others. if is_some_text line then line ∷ others else others) read ∙ sym (entries-cons line lines (is_some_text line) refl)

pub written_are_read : WrittenAreRead
written_are_read [] texts = refl
written_are_read (line ∷ lines) texts =
    read_behind line (written_lines lines) lines (All-head (λ line. is_utf8 line ≡ true) line lines texts) (written_are_read lines (All-tail (λ line. is_utf8 line ≡ true) line lines texts))

-- ---- a beginning

-- of two ways to part a list one part is no longer than the other one
parted : (front rest bytes more : List ℕ) → front ++ rest ≡ bytes ++ more
    → ((between : List ℕ) × (bytes ≡ front ++ between) × (rest ≡ between ++ more)) ⊎ ((left : List ℕ) × (front ≡ bytes ++ left) × (0 < length left))
parted [] rest bytes more e = inl (bytes, refl, e)
parted (x ∷ front) rest [] more e = inr (x ∷ front, refl, omega arith)
parted (x ∷ front) rest (b ∷ bytes) more e =
    let same : x ≡ b = cc in
    let others : front ++ rest ≡ bytes ++ more = cc in
    ⊎_elim
    (λ whole. inl (whole.0, ap (λ l. b ∷ l) whole.1 ∙ ap (λ c. c ∷ (front ++ whole.0)) (sym same), whole.2))
    (λ cut. inr (cut.0, ap (λ l. x ∷ l) cut.1 ∙ ap (λ c. c ∷ (bytes ++ cut.0)) same, cut.2)) (parted front rest bytes more others)

none_in_front : (b : ℕ) (lines : List (List ℕ)) → with_byte_in_front b lines ≡ [] → lines ≡ []
none_in_front b lines e = grind arith

-- no line is whole in the beginning of a text in which none is
none_whole : (bytes more : List ℕ) → whole_lines (bytes ++ more) ≡ [] → whole_lines bytes ≡ []
none_whole [] more e = refl
none_whole (b ∷ bytes) more e =
    let rest = none_whole bytes more in
    let front = none_in_front b (whole_lines (bytes ++ more)) in
    grind (arith, nat_tests)

none_at_end : (line bytes between left : List ℕ) → bytes ≡ escaped line ++ between → 10 ∷ [] ≡ between ++ left → 0 < length left → whole_lines bytes ≡ []
none_at_end line bytes [] left e parts some = ap whole_lines (e ∙ append-nil (escaped line)) ∙ unended_escaped line
none_at_end line bytes (x ∷ between) left e parts some = absurd (omega (arith, some, ap length parts, length-append between left))

-- none is whole in a line that is cut off
none_in_cut : (line bytes left : List ℕ) → written_line line ≡ bytes ++ left → 0 < length left → whole_lines bytes ≡ []
none_in_cut line bytes left e some =
    ⊎_elim
    (λ behind. none_at_end line bytes behind.0 left behind.1 behind.2 some)
    (λ within. none_whole bytes within.0 (ap whole_lines (sym within.1) ∙ unended_escaped line)) (parted (escaped line) (10 ∷ []) bytes left e)

pub beginning_is_read : BeginningIsRead
beginning_is_read [] [] more texts e = (0, refl, omega arith, λ low. absurd (omega (arith, low)))
beginning_is_read [] (b ∷ bytes) more texts e = absurd (cc)
beginning_is_read (line ∷ lines) bytes more texts e =
    ⊎_elim
    (λ whole.
    let rest = beginning_is_read lines whole.0 more (All-tail (λ line. is_utf8 line ≡ true) line lines texts) whole.2 in
    let long : length bytes ≡ length (written_line line) + length whole.0 = ap length whole.1 ∙ length-append (written_line line) whole.0 in
    let next : suc (rest.0 + 1) ≡ suc rest.0 + 1 = omega arith in (
      suc rest.0,
      ap lines_in whole.1 ∙ read_behind line whole.0 (take rest.0 lines) (All-head (λ line. is_utf8 line ≡ true) line lines texts) rest.1,
      omega (arith, long, rest.2, length-append (written_line line) (written_lines (take rest.0 lines))),
      λ low. subst (λ k. length bytes < length (written_lines (take k (line ∷ lines)))) next
          (omega (arith, long, rest.3 (omega (arith, low)), length-append (written_line line) (written_lines (take (rest.0 + 1) lines)))),
    ))
    (λ cut. (
      0,
      ap (filter_map line_of) (none_in_cut line bytes cut.0 cut.1 cut.2),
      omega arith,
      λ low. omega (arith, cut.2, ap length cut.1, length-append bytes cut.0, length-append (written_line line) []),
    ))
    (parted (written_line line) (written_lines lines) bytes more e)

-- ---- damage

-- some line is whole where a line feed ends the bytes
some_whole : (before : List ℕ) → whole_lines (before ++ 10 ∷ []) ≢ []
some_whole [] e = grind arith
some_whole (b ∷ before) e =
    let rest = some_whole before in
    let front = none_in_front b (whole_lines (before ++ 10 ∷ [])) in
    grind (arith, nat_tests)

front-append : (b : ℕ) (lines more : List (List ℕ)) → lines ≢ [] → with_byte_in_front b (lines ++ more) ≡ with_byte_in_front b lines ++ more
front-append b [] more some = absurd (some refl)
front-append b (line ∷ lines) more some = refl

-- what stands after a line feed is read by itself
behind_feed : (before rest : List ℕ) → whole_lines ((before ++ 10 ∷ []) ++ rest) ≡ whole_lines (before ++ 10 ∷ []) ++ whole_lines rest
behind_feed [] rest = refl
behind_feed (b ∷ before) rest =
    let whole = behind_feed before rest in
    let front = front-append b (whole_lines (before ++ 10 ∷ [])) (whole_lines rest) (some_whole before) in
    grind (arith, nat_tests)

pub damage_stays_alone : DamageStaysAlone
damage_stays_alone before text after free =
    ap (filter_map line_of) (behind_feed before (text ++ (10 ∷ after)))
    ∙ filter_map-append line_of (whole_lines (before ++ 10 ∷ [])) (whole_lines (text ++ (10 ∷ after)))
    ∙ ap (λ l. lines_in (before ++ 10 ∷ []) ++ l) (lines_cut (text ++ (10 ∷ after)) text after (free, refl))

-- ---- what is written after a file

-- a file whose last text is not cut off is empty, or a line feed ends it
not_cut_off : (bytes : List ℕ) → is_cut_off bytes ≡ false → (bytes ≡ []) ⊎ ((before : List ℕ) × (bytes ≡ before ++ 10 ∷ []))
not_cut_off [] e = inl refl
not_cut_off (b ∷ bytes) e =
    let n = length bytes in
    let at : length (b ∷ bytes) - 1 ≡ n = omega arith in
    let last = rw (at, slice_get-get_or (b ∷ bytes) n 0 (omega arith)) at e in
    let whole = sym (take_all (n + 1) (b ∷ bytes) (omega arith)) ∙ take_more (b ∷ bytes) n 0 (omega arith) in
    inr (take n (b ∷ bytes), whole ∙ ap (λ c. take n (b ∷ bytes) ++ c ∷ []) (eqb-true (get_or (b ∷ bytes) n 0) 10 (not-false _ last)))

ended_ends : (bytes : List ℕ) (x : Bool) → is_cut_off bytes ≡ x → (ended bytes ≡ []) ⊎ ((before : List ℕ) × (ended bytes ≡ before ++ 10 ∷ []))
ended_ends bytes true e = inr (bytes ++ (92 ∷ 45 ∷ 92 ∷ []), rw e (sym (append_assoc bytes (92 ∷ 45 ∷ 92 ∷ []) (10 ∷ []))))
ended_ends bytes false e = rw e (not_cut_off bytes e)

-- no text that ends so stands for a line
never_unescaped : (behind : Bool) (text : List ℕ) → unescaped_behind behind (text ++ (92 ∷ 45 ∷ 92 ∷ [])) ≡ None
never_unescaped true [] = refl
never_unescaped false [] = refl
never_unescaped true (b ∷ text) = rw (never_unescaped false text) (grind (arith, nat_tests))
never_unescaped false (b ∷ text) = let more = never_unescaped true text in let other = never_unescaped false text in grind (arith, nat_tests)

never_line : (text : List ℕ) → line_of (text ++ (92 ∷ 45 ∷ 92 ∷ [])) ≡ None
never_line [] = refl
never_line (b ∷ text) = rw (never_unescaped false (b ∷ text)) (grind (arith, nat_tests))

-- what ends a text that is cut off makes a text of it, and of no other
cut_text : (bytes : List ℕ) → (text : List ℕ) × (whole_lines (bytes ++ cut_end) ≡ whole_lines bytes ++ (text ++ (92 ∷ 45 ∷ 92 ∷ [])) ∷ [])
cut_text [] = ([], refl)
cut_text (b ∷ bytes) = behind b bytes (cut_text bytes) (whole_lines bytes) refl (b == 10) refl
  where
    behind : (b : ℕ) (bytes : List ℕ) → ((text : List ℕ) × (whole_lines (bytes ++ cut_end) ≡ whole_lines bytes ++ (text ++ (92 ∷ 45 ∷ 92 ∷ [])) ∷ []))
        → (lines : List (List ℕ)) → whole_lines bytes ≡ lines → (x : Bool) → (b == 10) ≡ x
        → (text : List ℕ) × (whole_lines (b ∷ (bytes ++ cut_end)) ≡ whole_lines (b ∷ bytes) ++ (text ++ (92 ∷ 45 ∷ 92 ∷ [])) ∷ [])
    behind b bytes more lines is true feed = (more.0, rw (feed, more.1) refl)
    behind b bytes more [] is false other = (b ∷ more.0, rw (other, more.1, is) refl)
    behind b bytes more (line ∷ lines) is false other = (more.0, rw (other, more.1, is) refl)

ended_reads : (bytes : List ℕ) (x : Bool) → is_cut_off bytes ≡ x → lines_in (ended bytes) ≡ lines_in bytes
ended_reads bytes false e = rw e refl
ended_reads bytes true e =
    let cut = cut_text bytes in
    rw e (ap (filter_map line_of) cut.1
    ∙ filter_map-append line_of (whole_lines bytes) ((cut.0 ++ (92 ∷ 45 ∷ 92 ∷ [])) ∷ [])
    ∙ rw (never_line cut.0) (append-nil (lines_in bytes)))

pub resumed_are_read : ResumedAreRead
resumed_are_read bytes lines texts =
    ⊎_elim
    (λ empty. ap (λ l. lines_in (l ++ written_lines lines)) empty ∙ written_are_read lines texts
    ∙ ap (λ l. l ++ entries lines) (sym (ap lines_in empty) ∙ ended_reads bytes _ refl))
    (λ ends. ap (λ l. lines_in (l ++ written_lines lines)) ends.1
    ∙ ap (filter_map line_of) (behind_feed ends.0 (written_lines lines))
    ∙ filter_map-append line_of (whole_lines (ends.0 ++ 10 ∷ [])) (whole_lines (written_lines lines))
    ∙ ap (λ l. lines_in (ends.0 ++ 10 ∷ []) ++ l) (written_are_read lines texts)
    ∙ ap (λ l. l ++ entries lines) (sym (ap lines_in ends.1) ∙ ended_reads bytes _ refl))
    (ended_ends bytes _ refl)

-- ---- the end of a file

-- the last byte of two lists is that of the second one
last_behind : (before end : List ℕ) → 0 < length end → is_cut_off (before ++ end) ≡ is_cut_off end
last_behind before end some =
    let at : length (before ++ end) - 1 ≡ length before + (length end - 1) = omega (arith, some, length-append before end) in
    let last : slice_get (before ++ end) (length (before ++ end) - 1) ≡ slice_get end (length end - 1) =
    ap (slice_get (before ++ end)) at
    ∙ slice_get-get_or (before ++ end) (length before + (length end - 1)) 0 (omega (arith, some, length-append before end))
    ∙ ap Some (get_or-append-add before end (length end - 1) 0)
    ∙ sym (slice_get-get_or end (length end - 1) 0 (omega (arith, some))) in
    ap (λ last. option_map_or (λ b. not (b == 10)) last false) last

cut_behind : (front after : List ℕ) → is_cut_off ((front ++ 10 ∷ []) ++ after) ≡ is_cut_off after
cut_behind front [] = ap is_cut_off (append-nil (front ++ 10 ∷ [])) ∙ last_behind front (10 ∷ []) (omega arith)
cut_behind front (b ∷ after) = last_behind (front ++ 10 ∷ []) (b ∷ after) (omega arith)

-- what comes after a line feed, in a text that has one or none
feed_not_first : (b : ℕ) (text : List ℕ) → (b == 10) ≡ false → ¬ (Contains text 10) → ¬ (Contains (b ∷ text) 10)
feed_not_first b text other free (zero, low, is) = grind (arith, nat_tests, other, is)
feed_not_first b text other free (suc k, low, is) = free (k, omega (arith, low), is)

parted_at_feed : (end : List ℕ) → ((text : List ℕ) × (after : List ℕ) × IsCutAtFeed end text after) ⊎ (¬ (Contains end 10))
parted_at_feed [] = inr (λ held. absurd (omega (arith, held.1)))
parted_at_feed (b ∷ end) = by b end (parted_at_feed end) (b == 10) refl
  where
    by : (b : ℕ) (end : List ℕ) → ((text : List ℕ) × (after : List ℕ) × IsCutAtFeed end text after) ⊎ (¬ (Contains end 10)) → (x : Bool) → (b == 10) ≡ x
        → ((text : List ℕ) × (after : List ℕ) × IsCutAtFeed (b ∷ end) text after) ⊎ (¬ (Contains (b ∷ end) 10))
    by b end more true e = inl ([], end, (λ held. absurd (omega (arith, held.1)), ap (λ c. c ∷ end) (eqb-true b 10 e)))
    by b end (inl cut) false e = inl (b ∷ cut.0, cut.1, (feed_not_first b cut.0 e cut.2.0, ap (λ l. b ∷ l) cut.2.1))
    by b end (inr free) false e = inr (feed_not_first b end e free)

pub end_is_read : EndIsRead
end_is_read before end some =
    ⊎_elim
    (λ cut.
    let text = cut.0 in
    let after = cut.1 in
    let part : after ≡ whole_part end = part_cut end text after cut.2 in
    let whole : before ++ end ≡ ((before ++ text) ++ 10 ∷ []) ++ after =
    ap (λ l. before ++ l) cut.2.1 ∙ sym (append_assoc before text (10 ∷ after)) ∙ sym (append_assoc (before ++ text) (10 ∷ []) after) in (
      (
        lines_in ((before ++ text) ++ 10 ∷ []),
        ap lines_in whole ∙ ap (filter_map line_of) (behind_feed (before ++ text) after)
            ∙ filter_map-append line_of (whole_lines ((before ++ text) ++ 10 ∷ [])) (whole_lines after)
            ∙ ap (λ l. lines_in ((before ++ text) ++ 10 ∷ []) ++ lines_in l) part,
      ),
      ap is_cut_off whole ∙ cut_behind (before ++ text) after ∙ ap is_cut_off part,
    ))
    (λ free.
    let part : end ≡ whole_part end = part_uncut end free in (
      (lines_in (before ++ end), sym (ap (λ l. lines_in (before ++ end) ++ l) (ap lines_in (sym part) ∙ ap (filter_map line_of) (unended_line end free)) ∙ append-nil (lines_in (before ++ end)))),
      last_behind before end some ∙ ap is_cut_off part,
    ))
    (parted_at_feed end)
