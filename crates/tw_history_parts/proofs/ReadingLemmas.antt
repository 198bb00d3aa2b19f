-- Going through the lines of a file, and what escapes stand for.
use Rattle.std.proofs.Common.{◌≡◌, ℕ, suc, ◌+◌, Bool, List, [], ◌∷◌, ◌++◌, eqb, true, false, Some, None, refl, sym, ap, subst, ◌∙◌, arith, Contains, Option, append_assoc, append-nil, map, String, string_bytes}
use Rattle.std.specs.Prelude.{◌&&◌}
use Rattle.std.specs.declared.alloc.Global.{Global}
use Rattle.std.proofs.lemmas.Bool.{eqb-true, false_from_ne_true}
use Rattle.std.proofs.lemmas.List.{map-append}
use Rattle.std.proofs.lemmas.List.Sums.{sum_by-cons}
use Rattle.std.specs.Prelude.{if◌then◌else◌, Err, Ok, OnErr, Result, option_map, IsUtf8}
use Rattle.std.specs.List.{count_by, filter_map, cons_option}
use Rattle.tw_history_parts.specs.HistoryFile.{IsCutAtFeed, behind_first_feed, is_lost, is_some_text, line_of, lines_in, lost_lines, whole_lines, whole_part, if_text, with_byte, AddsAll, AddsSome}
use Rattle.std.specs.Str.{is_utf8}
use Rattle.std.proofs.lemmas.Str.{IsUtf8-from_is_utf8, is_utf8-from_IsUtf8}

-- a byte that is added to those before, or stands in front of those after it
pub pushed : (bytes : List ℕ) (b : ℕ) (rest : Option (List ℕ)) → option_map (λ more. (bytes ++ b ∷ []) ++ more) rest ≡ option_map (λ more. bytes ++ more) (with_byte (Some b) rest)
pushed bytes b None = refl
pushed bytes b (Some more) = ap (λ all. Some all) (append_assoc bytes (b ∷ []) more)

-- bytes that are a text, and others
pub text_is : (bytes : List ℕ) → IsUtf8 bytes → if_text bytes ≡ Some bytes
text_is bytes text = rw (is_utf8-from_IsUtf8 bytes text) refl

pub no_text : (bytes : List ℕ) → ¬ (IsUtf8 bytes) → if_text bytes ≡ None
no_text bytes other = rw (false_from_ne_true (is_utf8 bytes) (λ e. other (IsUtf8-from_is_utf8 bytes e))) refl

-- the first byte of a text is no line feed, nor does the rest contain one
first_no_feed : (b : ℕ) (text : List ℕ) → ¬ (Contains (b ∷ text) 10) → eqb b 10 ≡ false
first_no_feed b text free = false_from_ne_true (eqb b 10) (λ e. free (0, omega arith, eqb-true b 10 e))

rest_no_feed : (b : ℕ) (text : List ℕ) → ¬ (Contains (b ∷ text) 10) → ¬ (Contains text 10)
rest_no_feed b text free (k, low, is) = free (suc k, omega (arith, low), is)

-- a text that a line feed ends, and those after it
pub ended_line : (text after : List ℕ) → ¬ (Contains text 10) → whole_lines (text ++ (10 ∷ after)) ≡ text ∷ whole_lines after
ended_line [] after free = refl
ended_line (b ∷ text) after free = rw (first_no_feed b text free, ended_line text after (rest_no_feed b text free)) refl

-- and one that none ends
pub unended_line : (text : List ℕ) → ¬ (Contains text 10) → whole_lines text ≡ []
unended_line [] free = refl
unended_line (b ∷ text) free = rw (first_no_feed b text free, unended_line text (rest_no_feed b text free)) refl

-- the lines of bytes that are cut at their first line feed
pub lines_cut : (bytes text after : List ℕ) → IsCutAtFeed bytes text after → lines_in bytes ≡ cons_option (line_of text) (lines_in after)
lines_cut bytes text after (free, cut) = ap lines_in cut ∙ ap (filter_map line_of) (ended_line text after free)

-- and how many of the texts are no lines
pub lost_cut : (bytes text after : List ℕ) → IsCutAtFeed bytes text after → lost_lines bytes ≡ (if is_lost text then 1 else 0) + lost_lines after
lost_cut bytes text after (free, cut) = ap lost_lines cut ∙ ap (count_by _) (ended_line text after free) ∙ sum_by-cons _ text (whole_lines after)

pub lost_none : (rest : List ℕ) → ¬ (Contains rest 10) → lost_lines rest ≡ 0
lost_none rest free = ap (count_by _) (unended_line rest free)

-- ---- reading lines

and-false : (x : Bool) → (x && false) ≡ false
and-false true = refl
and-false false = refl

-- the lines that were read, and those that are left to be read, once one more is read
pub reads_line : (read : List (String Global)) (line : String Global) (all rest text after : List ℕ) → IsCutAtFeed rest text after → Some (string_bytes line) ≡ line_of text
    → map string_bytes read ++ lines_in rest ≡ lines_in all → map string_bytes (read ++ line ∷ []) ++ lines_in after ≡ lines_in all
reads_line read line all rest text after cut is whole =
    ap (λ lines. lines ++ lines_in after) (map-append string_bytes read (line ∷ []))
    ∙ append_assoc (map string_bytes read) (string_bytes line ∷ []) (lines_in after)
    ∙ ap (λ lines. map string_bytes read ++ lines) (sym (lines_cut rest text after cut ∙ ap (λ line. cons_option line (lines_in after)) (sym is)))
    ∙ whole

-- and once a text is passed over
pub reads_none : (read : List (String Global)) (all rest text after : List ℕ) → IsCutAtFeed rest text after → None ≡ line_of text
    → map string_bytes read ++ lines_in rest ≡ lines_in all → map string_bytes read ++ lines_in after ≡ lines_in all
reads_none read all rest text after cut none whole =
    ap (λ lines. map string_bytes read ++ lines) (sym (lines_cut rest text after cut ∙ ap (λ line. cons_option line (lines_in after)) (sym none))) ∙ whole

-- a text that is read is not lost, and one that is not read is, if it has a byte
pub lost_read : (bytes text after line : List ℕ) → IsCutAtFeed bytes text after → Some line ≡ line_of text → lost_lines bytes ≡ lost_lines after
lost_read bytes text after line cut is = let one = rw (← is, and-false (is_some_text text)) at (lost_cut bytes text after cut) in omega (arith, one)

pub lost_unread : (bytes text after : List ℕ) → IsCutAtFeed bytes text after → None ≡ line_of text → is_some_text text ≡ true → lost_lines bytes ≡ 1 + lost_lines after
lost_unread bytes text after cut none some = let one = rw (← none, some) at (lost_cut bytes text after cut) in omega (arith, one)

-- at the end all are read
pub reads_all : (read : List (String Global)) (all rest : List ℕ) → ¬ (Contains rest 10) → map string_bytes read ++ lines_in rest ≡ lines_in all → map string_bytes read ≡ lines_in all
reads_all read all rest free whole =
    sym (append-nil (map string_bytes read)) ∙ ap (λ lines. map string_bytes read ++ filter_map line_of lines) (sym (unended_line rest free)) ∙ whole

-- what comes after the first line feed, and where there is none
feed_behind : (text after : List ℕ) → ¬ (Contains text 10) → behind_first_feed (text ++ (10 ∷ after)) ≡ Some after
feed_behind [] after free = refl
feed_behind (b ∷ text) after free = rw (first_no_feed b text free) (feed_behind text after (rest_no_feed b text free))

pub no_feed : (text : List ℕ) → ¬ (Contains text 10) → behind_first_feed text ≡ None
no_feed [] free = refl
no_feed (b ∷ text) free = rw (first_no_feed b text free) (no_feed text (rest_no_feed b text free))

pub part_cut : (end text after : List ℕ) → IsCutAtFeed end text after → after ≡ whole_part end
part_cut end text after (free, cut) = sym (ap whole_part cut ∙ rw (feed_behind text after free) refl)

pub part_uncut : (end : List ℕ) → ¬ (Contains end 10) → end ≡ whole_part end
part_uncut end free = sym (rw (no_feed end free) refl)

-- ---- adding lines

-- what holds holds of a refusal
pub of_refusal : {R E P : Type 0} (r : Result R E) → P → OnErr r P
of_refusal (Ok value) p = tt
of_refusal (Err fault) p = p

module _ {L : Type 0} (lines_of : L → List (List ℕ)) (gives : L → List ℕ → L → Type 0) where
  -- what comes of the lines that are left comes of all lines
  pub record Passes (whole rest : List (List ℕ)) (old between : L) : Type 0 where
    pub all : (new : L) → AddsAll gives rest between new → AddsAll gives whole old new
    pub some : (new : L) → AddsSome lines_of gives rest between new → AddsSome lines_of gives whole old new

  pub passes_nothing : (whole : List (List ℕ)) (old : L) → Passes whole whole old old
  passes_nothing whole old = record { all = λ new adds. adds; some = λ new adds. adds }

  -- after the next line
  pub passes_line : (whole rest others : List (List ℕ)) (line : List ℕ) (old between next : L) → Passes whole rest old between → rest ≡ line ∷ others
      → gives between line next → Passes whole others old next
  passes_line whole rest others line old between next passes same adds_one =
      record {
        all = λ new adds. passes.all new (subst (λ lines. AddsAll gives lines between new) (sym same) (next, adds_one, adds));
        some = λ new adds. passes.some new (subst (λ lines. AddsSome lines_of gives lines between new) (sym same)
            (line ∷ adds.0, adds.1, ap (λ lines. line ∷ lines) adds.2, (adds.3.0, (next, adds_one, adds.3.1), adds.3.2)));
      }

  -- at the end, and where one is refused
  pub passes_all : (whole rest : List (List ℕ)) (old new : L) → Passes whole rest old new → rest ≡ [] → AddsAll gives whole old new
  passes_all whole rest old new passes none =
      passes.all new (subst (λ lines. AddsAll gives lines new new) (sym none) refl)

  pub passes_some : (whole rest : List (List ℕ)) (old between new : L) → Passes whole rest old between → lines_of new ≡ lines_of between → AddsSome lines_of gives whole old new
  passes_some whole rest old between new passes same = passes.some new ([], rest, refl, (between, refl, same))
