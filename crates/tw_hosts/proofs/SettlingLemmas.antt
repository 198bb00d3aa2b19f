-- The pieces of a text that no terminal parts, where they lead, and the column that leads to a cell by division.
use Rattle.std.proofs.Common.{◌≡◌, ℕ, zero, suc, ℤ, pos, ◌+ℤ◌, ◌≤ℤ◌, ◌+◌, ◌*◌, ◌/◌, ◌%◌, ◌<◌, ◌≤◌, Bool, true, false, List, [], ◌∷◌, length, replicate, take, drop, refl, ap, sym, ◌∙◌, arith, not, min, ◌++◌, map, flat_map}
use Rattle.std.specs.List.{list_all, fold, sum_by}
use Rattle.std.proofs.lemmas.Bool.{and_parts, leb-true, le-leb, and_from}
use Rattle.std.proofs.lemmas.Bool.Decides.{nat_tests}
use Rattle.std.proofs.lemmas.Int.{ints}
use Rattle.std.proofs.lemmas.List.{take-append-drop, nil_from_length}
use Rattle.std.proofs.lemmas.List.Folds.{list_all-append}
use Rattle.std.proofs.Math.Nat.{mul-add-mod_self_right, mul-add-div_right, mod-eq_of_lt, div-eq_of_lt, add-mul, div-add-mod'}
use Rattle.tw_surface.specs.declared.measure.Extent.{Extent}
use Rattle.tw_surface.specs.declared.measure.Piece.{Piece}
use Rattle.tw_surface.specs.declared.measure.Piece.TheVariants.{Wide}
use Rattle.tw_surface.specs.Characters.{is_printable, is_plain}
use Rattle.tw_surface.specs.Extents.{place_of, reach_all}
use Rattle.tw_surface.specs.Paintings.{place_at}
use Rattle.tw_surface.specs.Places.{Place, next_place, end_of_pieces, places_after, pieces, cluster_piece, plain_piece, begins_at}
use Rattle.tw_surface.proofs.DrawingLemmas.{place_of-pieces}
use Rattle.tw_surface.proofs.RowLemmas.{plain_from_printable, printable_pieces}
use Rattle.tw_surface.specs.Width.{column_width, char_columns}
use Rattle.tw_hosts.specs.Settling.{settled_pieces, place_after_text, needed, needed_by_text, rows_between, columns_between, line_start, settled_place, settled_column, is_settled, character_piece, character_pieces, is_parted, cell_pieces, pieces_left, PrintableIsUnchanged, goes_on, ColumnLeadsThere, CursorIsSettled, PrintableIsPlain, NoOtherColumn, SomeColumn, WholeIsMeasured}
use Rattle.tw_host.specs.HostRules.{HostRules}
use Rattle.std.specs.Char.{encode_utf8}
use Rattle.std.specs.Str.{chars, IsUtf8}
use Rattle.std.proofs.lemmas.List.Sums.{sum_by-cons}
use Rattle.std.proofs.lemmas.Str.{chars_past_char, chars-nil}
use Rattle.unicode_segmentation.specs.Grapheme.{graphemes}

-- columns that are summed up to a limit
pub saturated : (cs : List ℕ) (sum top : ℕ) → sum ≤ top → fold (λ sum c. min (sum + char_columns c) top) sum cs ≡ min (sum + sum_by char_columns cs) top
saturated [] sum top low = omega arith
saturated (c ∷ cs) sum top low =
    saturated cs (min (sum + char_columns c) top) top (omega arith) ∙ omega (arith, sum_by-cons char_columns c cs)

-- the pieces of a text behind its first character, and of the empty one
pub pieces_past : (text rest : List ℕ) (c : ℕ) → IsUtf8 text → text ≡ encode_utf8 c ++ rest → character_pieces (chars text) ≡ character_piece c ++ character_pieces (chars rest)
pieces_past text rest c utf8 e = ap character_pieces (chars_past_char text rest c utf8 e)

pub pieces_none : (text : List ℕ) → length text ≡ 0 → character_pieces (chars text) ≡ []
pieces_none text e = ap (λ t. character_pieces (chars t)) (nil_from_length text e) ∙ ap character_pieces chars-nil

-- what the beginning of a text needs
plain-needed : (text : List ℕ) → needed (map plain_piece text) ≡ 1
plain-needed [] = refl
plain-needed (b ∷ text) = grind (arith, nat_tests)

pub plain_needs : (text : List ℕ) → list_all is_plain text ≡ true → needed_by_text text ≡ 1
unfolding needed_by_text settled_pieces
plain_needs text h = rw h (plain-needed text)

-- a plain text has the editor's pieces
pub plain_settles : (text : List ℕ) → list_all is_plain text ≡ true → settled_pieces text ≡ pieces text
unfolding settled_pieces pieces
plain_settles text h = rw h refl

pub other_settles : (text : List ℕ) → list_all is_plain text ≡ false → settled_pieces text ≡ pieces_left [] text
unfolding settled_pieces
other_settles text h = rw (h, chars-nil) refl

-- and so has one of whole clusters
whole-cells : (clusters : List (List ℕ)) → list_all (λ cluster. not (is_parted cluster)) clusters ≡ true → flat_map cell_pieces clusters ≡ map cluster_piece clusters
whole-cells [] h = refl
whole-cells (cluster ∷ more) h = let rest = whole-cells more in grind (arith, nat_tests)

pub whole_settles : (text : List ℕ) → list_all (λ cluster. not (is_parted cluster)) (graphemes true text) ≡ true → settled_pieces text ≡ pieces text
unfolding settled_pieces pieces
whole_settles text h = let cells = whole-cells (graphemes true text) h in grind (arith, nat_tests)

-- where a text ends that was measured
pub end_reached : (cols : ℕ) (ps : List Piece) (t r : Extent) → r ≡ reach_all t (places_after cols ps (place_of t)) → place_of r ≡ end_of_pieces cols ps (place_of t)
end_reached cols ps t r e = ap place_of e ∙ place_of-pieces cols ps t

-- texts lead down
end_below : (cols : ℕ) (ps : List Piece) (p : Place) → p.y ≤ℤ (end_of_pieces cols ps p).y
end_below cols [] p = omega (arith, ints)
end_below cols (piece ∷ more) p = let rest = end_below cols more (next_place cols piece p) in grind (arith, ints, nat_tests)

-- the cell of the cursor is on the screen
some-needed : (ps : List Piece) → 0 < needed ps
some-needed ps = grind (arith, nat_tests)

some-text : (text : List ℕ) → 0 < needed_by_text text
unfolding needed_by_text
some-text text = some-needed (settled_pieces text)

begins-within : (cols width : ℕ) (p : Place) → 0 < cols → 0 < width → (begins_at cols width p).x < cols
begins-within cols width p some wide = grind (arith, nat_tests)

-- division finds the cell
abbrev place-of : ℕ → ℤ → Place
place-of x y = record { x = x; y = y }

found : (cols : ℕ) (p q : Place) → 0 < cols → q.x < cols → p.y ≤ℤ q.y → p.x ≤ rows_between p q * cols + q.x → place_at cols p (columns_between cols p q) ≡ q
found cols p q some within below ahead =
    let r = rows_between p q in
    let sum : p.x + columns_between cols p q ≡ r * cols + q.x = omega (arith, ahead) in
    let col : (p.x + columns_between cols p q) % cols ≡ q.x = rw sum (mul-add-mod_self_right r cols q.x ∙ mod-eq_of_lt within) in
    let row : (p.x + columns_between cols p q) / cols ≡ r = rw sum (mul-add-div_right some r q.x ∙ (let none = div-eq_of_lt within in omega (arith, none))) in
    let back : p.y +ℤ pos r ≡ q.y = grind (arith, ints) in
    rw (col, row, back) refl

pub column_leads_there : ColumnLeadsThere
column_leads_there cols prompt cut h =
    let start = line_start cols prompt in
    let before = take cut.cursor cut.line in
    let rest = drop cut.cursor cut.line in
    let some : 0 < cols = grind (arith, nat_tests, h) in
    let ahead : start.x ≤ rows_between start (settled_place cols prompt cut) * cols + (settled_place cols prompt cut).x = grind (arith, nat_tests, h) in
    let last = place_after_text cols before start in
    let low = end_below cols (settled_pieces before) start in
    let below : start.y ≤ℤ (settled_place cols prompt cut).y = grind (arith, ints, nat_tests) in
    rw h (found cols start (settled_place cols prompt cut) some (begins-within cols (needed_by_text rest) last some (some-text rest)) below ahead)

pub cursor_is_settled : CursorIsSettled
cursor_is_settled cols prompt cut scene h e f = rw (e, f) (column_leads_there cols prompt cut h)

-- characters of one column lead on by one column each
-- so many columns after a place, by division
pub record IsBehind (cols n : ℕ) (p q : Place) : Type 0 where
  pub columns : rows_between p q * cols + q.x ≡ p.x + n
  pub below : p.y ≤ℤ q.y
  pub within : q.x ≤ cols

go-behind : (cols n count : ℕ) (p q : Place) → 0 < cols → IsBehind cols n p q → IsBehind cols (n + count) p (end_of_pieces cols (replicate count (Wide 1)) q)
go-behind cols n zero p q some h = (let e : n ≡ n + 0 = omega arith in rw (← e) h)
go-behind cols n (suc count) p q some h =
    let e : n + 1 + count ≡ n + suc count = omega arith in
    let step : IsBehind cols (n + 1) p (next_place cols (Wide 1) q) = grind (arith, ints, nat_tests, add-mul (rows_between p q) 1 cols) in
    rw (← e) (go-behind cols (n + 1) count p (next_place cols (Wide 1) q) some step)

-- the parts of a printable text are printable
printable_parts : (n : ℕ) (text : List ℕ) → list_all is_printable text ≡ true → (list_all is_printable (take n text) ≡ true) × (list_all is_printable (drop n text) ≡ true)
printable_parts n text h =
    and_parts _ _ (sym (list_all-append is_printable (take n text) (drop n text)) ∙ ap (list_all is_printable) (take-append-drop n text) ∙ h)

printable-width : (text : List ℕ) → list_all is_printable text ≡ true → column_width text ≡ length text
unfolding column_width
printable-width text h = rw h refl

pub printable_is_plain : PrintableIsPlain
printable_is_plain cols prompt cut h = by (is_settled cols prompt cut) refl
  where
    by : (b : Bool) → is_settled cols prompt cut ≡ b → settled_column cols prompt cut ≡ column_width (take cut.cursor cut.line)
    by false e = rw e refl
    by true e =
        let before = take cut.cursor cut.line in
        let rest = drop cut.cursor cut.line in
        let parts = printable_parts cut.cursor cut.line h in
        let start = line_start cols prompt in
        let last = place_after_text cols before start in
        let some : 0 < cols = grind (arith, nat_tests, e) in
        let inside : start.x ≤ cols = grind (arith, nat_tests, e) in
        let here : IsBehind cols 0 start start = grind (arith, ints) in
        let went : IsBehind cols (0 + length before) start last = rw (plain_settles before (plain_from_printable before parts.0) ∙ printable_pieces before parts.0) (go-behind cols 0 (length before) start start some here) in
        let far : rows_between start (begins_at cols 1 last) * cols + (begins_at cols 1 last).x ≡ start.x + length before = grind (arith, ints, nat_tests, add-mul (rows_between start last) 1 cols) in
        let same : columns_between cols start (begins_at cols 1 last) ≡ length before = omega (arith, far) in
        rw (e, plain_needs rest (plain_from_printable rest parts.1)) (same ∙ sym (printable-width before parts.0))

-- no other column leads there
pub no_other_column : NoOtherColumn
no_other_column cols prompt cut h column e =
    let p = line_start cols prompt in
    let q = settled_place cols prompt cut in
    let n = p.x + column in
    let x : n % cols ≡ q.x = ap (λ r. r.x) e in
    let y : p.y +ℤ pos (n / cols) ≡ q.y = ap (λ r. r.y) e in
    let rows : rows_between p q ≡ n / cols = grind (arith, ints, y) in
    let whole : n / cols * cols + n % cols ≡ n = div-add-mod' n cols in
    let reached : rows_between p q * cols + q.x ≡ n = rw (rows, ← x) whole in
    rw h (let same : columns_between cols p q ≡ column = omega (arith, reached) in sym same)

-- a place that is ahead of another one, within the screen
pub record IsAheadOf (cols : ℕ) (p q : Place) : Type 0 where
  pub columns : p.x ≤ rows_between p q * cols + q.x
  pub below : p.y ≤ℤ q.y
  pub within : q.x ≤ cols

row-ahead : (cols x : ℕ) (p q : Place) → x ≤ cols → IsAheadOf cols p q → IsAheadOf cols p (place-of x (q.y +ℤ pos 1))
row-ahead cols x p q most h =
    grind (arith, ints, add-mul (rows_between p q) 1 cols)

piece-ahead : (cols : ℕ) (piece : Piece) (p q : Place) → goes_on cols piece ≡ true → IsAheadOf cols p q → IsAheadOf cols p (next_place cols piece q)
piece-ahead cols piece p q on h =
    let row = λ (x : ℕ) (most : x ≤ cols). row-ahead cols x p q most h in
    grind (arith, nat_tests, row)

end-ahead : (cols : ℕ) (ps : List Piece) (p q : Place) → list_all (goes_on cols) ps ≡ true → IsAheadOf cols p q → IsAheadOf cols p (end_of_pieces cols ps q)
end-ahead cols [] p q on h = h
end-ahead cols (piece ∷ more) p q on h =
    let both = and_parts (goes_on cols piece) (list_all (goes_on cols) more) on in
    end-ahead cols more p (next_place cols piece q) both.1 (piece-ahead cols piece p q both.0 h)

pub some_column : SomeColumn
some_column cols prompt cut measured inside on =
    let start = line_start cols prompt in
    let within : start.x ≤ cols = leb-true start.x cols inside in
    let here : IsAheadOf cols start start = grind (arith, ints) in
    let last = place_after_text cols (take cut.cursor cut.line) start in
    let end = end-ahead cols (settled_pieces (take cut.cursor cut.line)) start start on here in
    let row = row-ahead cols 0 start last (omega arith) end in
    let there : IsAheadOf cols start (settled_place cols prompt cut) = grind (arith, nat_tests) in
    and_from _ _ measured (and_from _ _ inside (le-leb _ _ there.columns))

-- a text of whole clusters leads where the editor measures it
pub whole_is_measured : WholeIsMeasured
whole_is_measured cols prompt before h = ap (λ ps. end_of_pieces cols ps (line_start cols prompt)) (whole_settles before h)

-- over a faithful host a printable line is answered as by that host
pub printable_is_unchanged : {V : Type 0} (rules : HostRules V) → PrintableIsUnchanged rules
printable_is_unchanged rules faithful screen v cut h =
    ap (λ column. record (rules.highlight v cut) { column = column })
    (printable_is_plain screen.cols screen.prompt cut h ∙ sym (faithful.column v cut))
