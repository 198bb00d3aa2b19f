-- Texts of printable lines, and the text that shows rows.
use Rattle.std.proofs.Common.{◌≡◌, ℕ, Bool, true, false, List, [], ◌∷◌, ◌++◌, refl, sym, ap, subst, ◌∙◌, arith, eqb, leb, append_assoc, append-nil, ◌&&◌, if◌then◌else◌, zero, suc, ◌+◌, ◌/◌, ◌%◌, ◌<◌, ◌||◌, ltb, length, ◌-◌, ◌*◌, ◌≤◌, max, inl, inr}
use Rattle.std.specs.List.{list_all}
use Rattle.std.proofs.lemmas.Bool.{and_parts, and_from, ne_eqb, leb-true, true≢false, le-leb, eq-eqb, eqb-true, cases_eq}
use Rattle.std.proofs.lemmas.List.Folds.{list_all-append}
use Rattle.tw_surface.specs.Characters.{is_plain, is_printable, cr, lf}
use Rattle.tw_surface.specs.Lines.{before_lines, lines_of, text_of_lines}
use Rattle.laws_screens.proofs.PlainTexts.{breaks-lines, breaks-plain, one_line, text_of_lines-lines, lines_of_joined}
use Rattle.tw_surface.specs.Pictures.{blank}
use Rattle.tw_surface.proofs.RowLemmas.{plain_from_printable}
use Rattle.laws_prompt.specs.Rows.{is_row_character, before_rows, rows_of_text, rows_down, column_after, row_edge, spread, rows_taken, columns_behind}
use Rattle.std.proofs.lemmas.Nat.{mod-mul-add, div-mul-add, div-add-mod', mod_below}
use Rattle.std.proofs.Math.Nat.{add-mul, one-mul}

-- what each of two lists has, both have together
pub both_hold : {X : Type 0} (p : X → Bool) (a b : List X) → list_all p a ≡ true → list_all p b ≡ true → list_all p (a ++ b) ≡ true
both_hold p a b h k = list_all-append p a b ∙ and_from (list_all p a) (list_all p b) h k

pub each_holds : {X : Type 0} (p : X → Bool) (a b : List X) → list_all p (a ++ b) ≡ true → (list_all p a ≡ true) × (list_all p b ≡ true)
each_holds p a b h = and_parts (list_all p a) (list_all p b) (sym (list_all-append p a b) ∙ h)

-- each text has a line
pub some_lines : (text : List ℕ) → (line : List ℕ) × (more : List (List ℕ)) × (lines_of text ≡ line ∷ more)
some_lines [] = ([], [], refl)
some_lines (ch ∷ text) = let it = some_lines text in rw it.2 (before it.0 it.1)
  where
    before : (line : List ℕ) (more : List (List ℕ)) → (first : List ℕ) × (rest : List (List ℕ)) × (before_lines ch (line ∷ more) ≡ first ∷ rest)
    before [] more = (ch ∷ [], more, refl)
    before (c ∷ line) more = by (eqb ch cr && eqb c lf)
      where
        by : (b : Bool) → (first : List ℕ) × (rest : List (List ℕ)) × ((if b then [] ∷ line ∷ more else (ch ∷ c ∷ line) ∷ more) ≡ first ∷ rest)
        by true = ([], line ∷ more, refl)
        by false = (ch ∷ c ∷ line, more, refl)

pub not_cr : (ch : ℕ) → is_printable ch ≡ true → eqb ch cr ≡ false
not_cr ch h = let p = and_parts (leb 32 ch) (leb ch 126) h in ne_eqb ch 13 (λ e. absurd (omega (arith, e, leb-true 32 ch p.0)))

pub put_first : (ch : ℕ) (line : List ℕ) (more : List (List ℕ)) → eqb ch cr ≡ false → before_lines ch (line ∷ more) ≡ (ch ∷ line) ∷ more
put_first ch [] more h = refl
put_first ch (c ∷ line) more h = rw h refl

-- printable characters go into the first line
pub all_first : (line text first : List ℕ) (more : List (List ℕ)) → list_all is_printable line ≡ true → lines_of text ≡ first ∷ more
    → lines_of (line ++ text) ≡ (line ++ first) ∷ more
all_first [] text first more h e = e
all_first (ch ∷ line) text first more h e =
    let p = and_parts (is_printable ch) (list_all is_printable line) h in
    ap (before_lines ch) (all_first line text first more p.1 e) ∙ put_first ch (line ++ first) more (not_cr ch p.0)

-- CR LF ends a line
pub cut_there : (text : List ℕ) → lines_of (cr ∷ lf ∷ text) ≡ [] ∷ lines_of text
cut_there text = let it = some_lines text in ap (λ ls. before_lines cr (before_lines lf ls)) it.2 ∙ by it.0 it.1 ∙ ap (λ ls. [] ∷ ls) (sym it.2)
  where
    by : (line : List ℕ) (more : List (List ℕ)) → before_lines cr (before_lines lf (line ∷ more)) ≡ [] ∷ line ∷ more
    by [] more = refl
    by (c ∷ line) more = refl

pub ends_there : (line text : List ℕ) → list_all is_printable line ≡ true → lines_of (line ++ (cr ∷ lf ∷ text)) ≡ line ∷ lines_of text
ends_there line text h = all_first line (cr ∷ lf ∷ text) [] (lines_of text) h (cut_there text) ∙ ap (λ (l : List ℕ). l ∷ lines_of text) (append-nil line)

-- printable lines with CR LF between them
abbrev pub are_rows : List ℕ → Bool
are_rows text = list_all (list_all is_printable) (lines_of text)

pub rows_plain : (text : List ℕ) → are_rows text ≡ true → list_all is_plain text ≡ true
rows_plain text h = sym (ap (list_all is_plain) (breaks-lines text)) ∙ breaks-plain (lines_of text) h

pub printable_rows : (text : List ℕ) → list_all is_printable text ≡ true → are_rows text ≡ true
printable_rows text h = ap (list_all (list_all is_printable)) (one_line text h) ∙ and_from (list_all is_printable text) true h refl

pub joined_rows : (line : List ℕ) (more : List (List ℕ)) → list_all (list_all is_printable) (line ∷ more) ≡ true → are_rows (text_of_lines (line ∷ more)) ≡ true
joined_rows line more h = ap (list_all (list_all is_printable)) (lines_of_joined line more h) ∙ h

-- they are so after other such lines
pub broken_rows : (text : List ℕ) → are_rows text ≡ true → are_rows (cr ∷ lf ∷ text) ≡ true
broken_rows text h = ap (list_all (list_all is_printable)) (cut_there text) ∙ h

after_lines : (line : List ℕ) (more : List (List ℕ)) (text : List ℕ) → list_all (list_all is_printable) (line ∷ more) ≡ true → are_rows text ≡ true
    → are_rows (text_of_lines (line ∷ more) ++ text) ≡ true
after_lines line [] text h k =
    let it = some_lines text in
    let here : list_all is_printable line ≡ true = (and_parts (list_all is_printable line) true h).0 in
    let rest = and_parts (list_all is_printable it.0) (list_all (list_all is_printable) it.1) (sym (ap (list_all (list_all is_printable)) it.2) ∙ k) in
    ap (list_all (list_all is_printable)) (all_first line text it.0 it.1 here it.2)
    ∙ and_from (list_all is_printable (line ++ it.0)) (list_all (list_all is_printable) it.1) (both_hold is_printable line it.0 here rest.0) rest.1
after_lines line (next ∷ more) text h k =
    let p = and_parts (list_all is_printable line) (list_all (list_all is_printable) (next ∷ more)) h in
    let rest : List ℕ = text_of_lines (next ∷ more) ++ text in
    ap are_rows (append_assoc line (cr ∷ lf ∷ text_of_lines (next ∷ more)) text)
    ∙ ap (list_all (list_all is_printable)) (ends_there line rest p.0)
    ∙ and_from (list_all is_printable line) (are_rows rest) p.0 (after_lines next more text p.1 k)

pub rows_after : (a b : List ℕ) → are_rows a ≡ true → are_rows b ≡ true → are_rows (a ++ b) ≡ true
rows_after a b h k =
    let it = some_lines a in
    let lines : list_all (list_all is_printable) (it.0 ∷ it.1) ≡ true = sym (ap (list_all (list_all is_printable)) it.2) ∙ h in
    let is : text_of_lines (it.0 ∷ it.1) ≡ a = ap text_of_lines (sym it.2) ∙ text_of_lines-lines a in
    subst (λ (t : List ℕ). are_rows (t ++ b) ≡ true) is (after_lines it.0 it.1 b lines k)

-- ---- the rows of a text, and the text that shows them

-- each text has a row
pub some-rows : (text : List ℕ) → (row : List ℕ) × (more : List (List ℕ)) × (rows_of_text text ≡ row ∷ more)
some-rows [] = ([], [], refl)
some-rows (ch ∷ text) = by (some-rows text) (eqb ch lf) refl
  where
    by : (row : List ℕ) × (more : List (List ℕ)) × (rows_of_text text ≡ row ∷ more) → (x : Bool) → eqb ch lf ≡ x → (row : List ℕ) × (more : List (List ℕ)) × (rows_of_text (ch ∷ text) ≡ row ∷ more)
    by it true e = rw e ([], rows_of_text text, refl)
    by it false e = rw e (ch ∷ it.0, it.1, ap (before_rows ch) it.2)

-- a character more before the first row is a column more
pub before-row : (cols n continuation ch : ℕ) (row : List ℕ) (more : List (List ℕ))
    → (rows_down cols (n + 1) continuation (row ∷ more) ≡ rows_down cols n continuation (before_rows ch (row ∷ more)))
    × (column_after cols (n + 1) continuation (row ∷ more) ≡ column_after cols n continuation (before_rows ch (row ∷ more)))
before-row cols n continuation ch row [] = let e : n + 1 + length row ≡ n + suc (length row) = omega arith in (ap (λ m. m / cols) e, ap (λ m. m % cols) e)
before-row cols n continuation ch row (next ∷ more) =
    let e : n + 1 + length row ≡ n + suc (length row) = omega arith in
    (ap (λ m. 1 + m / cols + rows_down cols continuation continuation (next ∷ more)) e, refl)

pub printable-row : (ch : ℕ) → is_row_character ch ≡ true → eqb ch lf ≡ false → is_printable ch ≡ true
printable-row ch h e = by (is_printable ch) refl
  where
    by : (x : Bool) → is_printable ch ≡ x → is_printable ch ≡ true
    by true f = f
    by false f = absurd (let z : (is_printable ch || eqb ch lf) ≡ false = rw (f, e) refl in true≢false (sym h ∙ z))

plain-printable : (ch : ℕ) → is_printable ch ≡ true → is_plain ch ≡ true
plain-printable ch h = (and_parts _ _ (plain_from_printable (ch ∷ []) (and_from _ _ h refl))).0

-- a row that fills its last column has a space after it, and no other has one
pub an-edge : (cols n : ℕ) → 0 < n → n % cols ≡ 0 → row_edge cols n ≡ blank ∷ []
an-edge cols n some full = rw (le-leb 1 n some, eq-eqb (n % cols) 0 full) refl

pub no-edge : (cols n : ℕ) → (n % cols ≡ 0 → n ≡ 0) → row_edge cols n ≡ []
no-edge cols zero off = refl
no-edge cols (suc m) off = rw (le-leb 1 (suc m) (omega arith), ne_eqb (suc m % cols) 0 (λ e. omega (arith, off e))) refl

pub edge-printable : (cols n : ℕ) → list_all is_printable (row_edge cols n) ≡ true
edge-printable cols n = by (ltb 0 n && eqb (n % cols) 0)
  where
    by : (x : Bool) → list_all is_printable (if x then blank ∷ [] else []) ≡ true
    by true = refl
    by false = refl

-- What holds of no text, and goes on to a text with a line feed or a printable character before it, holds of each text
-- of rows, after however many columns it begins. After a line feed it begins after c columns.
pub over_rows : (c : ℕ) (P : ℕ → List ℕ → Type 0) → ((n : ℕ) → P n []) → ((n : ℕ) (text : List ℕ) → P c text → P n (lf ∷ text))
    → ((n ch : ℕ) (text : List ℕ) → is_printable ch ≡ true → eqb ch lf ≡ false → P (n + 1) text → P n (ch ∷ text))
    → (n : ℕ) (text : List ℕ) → list_all is_row_character text ≡ true → P n text
over_rows c P none feed char n [] rows = none n
over_rows c P none feed char n (ch ∷ text) rows =
    let both = and_parts (is_row_character ch) (list_all is_row_character text) rows in
    by both.0 (λ m. over_rows c P none feed char m text both.1) (eqb ch lf) refl
  where
    by : is_row_character ch ≡ true → ((m : ℕ) → P m text) → (x : Bool) → eqb ch lf ≡ x → P n (ch ∷ text)
    by here so true e = subst (λ b. P n (b ∷ text)) (sym (eqb-true ch lf e)) (feed n text (so c))
    by here so false e = char n ch text (printable-row ch here e) e (so (n + 1))

-- the text that shows printable rows is plain
pub spread-plain : (cols : ℕ) (continuation : List ℕ) (n : ℕ) (text : List ℕ) → list_all is_printable continuation ≡ true → list_all is_row_character text ≡ true
    → list_all is_plain (spread cols continuation n text) ≡ true
spread-plain cols continuation n text c h =
    let one : List ℕ → List ℕ = spread cols continuation (length continuation) in
    over_rows (length continuation) (λ n text. list_all is_plain (spread cols continuation n text) ≡ true) (λ n. refl)
    (λ n text so. both_hold is_plain (row_edge cols n) (cr ∷ lf ∷ (continuation ++ one text)) (plain_from_printable (row_edge cols n) (edge-printable cols n))
    (both_hold is_plain continuation (one text) (plain_from_printable continuation c) so))
    (λ n ch text printable e so. rw e (and_from _ _ (plain-printable ch printable) so)) n text h

-- ---- how many rows its lines take

-- a row with its edge does not fill its last column
pub edge-off : (cols n : ℕ) → 2 ≤ cols → (n + length (row_edge cols n)) % cols ≡ 0 → n + length (row_edge cols n) ≡ 0
edge-off cols zero two e = refl
edge-off cols (suc m) two e = elim (cases_eq (suc m % cols) 0) [
  | inl full ↦
      let edge = an-edge cols (suc m) (omega arith) full in
      let whole : suc m / cols * cols + 1 ≡ suc m + 1 = omega (arith, full, div-add-mod' (suc m) cols) in
      let one : (suc m + 1) % cols ≡ 1 = ap (λ i. i % cols) (sym whole) ∙ mod-mul-add (suc m / cols) cols 1 (omega (arith, two)) in
      absurd (omega (arith, one, rw edge at e))
  | inr more ↦
      let edge = no-edge cols (suc m) (λ z. absurd (more z)) in
      let same : suc m + 0 ≡ suc m = omega arith in
      absurd (more (ap (λ i. i % cols) (sym same) ∙ (rw edge at e)))
]

-- n columns that do not fill their last row take as many rows as are said
pub rows-off-edge : (cols n : ℕ) → 2 ≤ cols → (n % cols ≡ 0 → n ≡ 0) → max 1 ((n + cols - 1) / cols) ≡ 1 + n / cols
rows-off-edge cols zero two off = let none : (0 + cols - 1) / cols ≡ 0 = ap (λ i. i / cols) (omega arith) ∙ div-mul-add 0 cols (cols - 1) (omega (arith, two)) in
    let nothing : 0 / cols ≡ 0 = (let e : 0 ≡ 0 * cols + 0 = omega arith in ap (λ i. i / cols) e ∙ div-mul-add 0 cols 0 (omega (arith, two))) in
    rw (none, nothing) refl
rows-off-edge cols (suc m) two off =
    let n : ℕ = suc m in
    let some : 0 < n % cols = elim (cases_eq (suc m % cols) 0) [
      | inl full ↦ absurd (let none = off full in omega (arith, none))
      | inr more ↦ omega (arith, more)
    ] in
    let below : n % cols < cols = mod_below n cols (omega (arith, two)) in
    let whole : n + cols - 1 ≡ (n / cols + 1) * cols + (n % cols - 1) = omega (arith, some, div-add-mod' n cols, add-mul (n / cols) 1 cols, one-mul cols) in
    let up : (n + cols - 1) / cols ≡ n / cols + 1 = ap (λ i. i / cols) whole ∙ div-mul-add (n / cols + 1) cols (n % cols - 1) (omega (arith, below)) in
    rw up (omega arith)

-- a row with its edge takes as many rows as the row itself
pub rows-with-edge : (cols n : ℕ) → 2 ≤ cols → max 1 ((n + length (row_edge cols n) + cols - 1) / cols) ≡ rows_taken cols n
rows-with-edge cols n two = rows-off-edge cols (n + length (row_edge cols n)) two (edge-off cols n two) ∙ ap (λ i. 1 + i) (same n)
  where
    same : (n : ℕ) → (n + length (row_edge cols n)) / cols ≡ n / cols
    same zero = refl
    same (suc m) = elim (cases_eq (suc m % cols) 0) [
      | inl full ↦
          let edge = an-edge cols (suc m) (omega arith) full in
          let whole : suc m + 1 ≡ suc m / cols * cols + 1 = omega (arith, full, div-add-mod' (suc m) cols) in
          rw edge (ap (λ i. i / cols) whole ∙ div-mul-add (suc m / cols) cols 1 (omega (arith, two)))
      | inr more ↦
          let edge = no-edge cols (suc m) (λ z. absurd (more z)) in
          let none : suc m + 0 ≡ suc m = omega arith in
          rw edge (ap (λ i. i / cols) none)
    ]

-- ---- lines

-- the lines of a text that shows rows after n columns
pub record AreLines (cols n : ℕ) (shown : List ℕ) : Type 0 where
  pub first : List ℕ
  pub more : List (List ℕ)
  pub are : lines_of shown ≡ first ∷ more
  pub off : 0 < length more → (n + length first) % cols ≡ 0 → n + length first ≡ 0

pub spread-lines : (cols : ℕ) (continuation : List ℕ) (n : ℕ) (text : List ℕ) → 2 ≤ cols
    → list_all is_printable continuation ≡ true → list_all is_row_character text ≡ true → AreLines cols n (spread cols continuation n text)
spread-lines cols continuation n text two c h =
    let one : List ℕ → List ℕ = spread cols continuation (length continuation) in
    over_rows (length continuation) (λ n text. AreLines cols n (spread cols continuation n text)) (λ n. record { first = []; more = []; are = refl; off = λ z. absurd (omega (arith, z)) })
    (λ n text so. record {
      first = row_edge cols n;
      more = lines_of (continuation ++ one text);
      are = ends_there (row_edge cols n) (continuation ++ one text) (edge-printable cols n);
      off = λ z. edge-off cols n two;
    })
    (λ n ch text printable e so. let same : n + 1 + length so.first ≡ n + suc (length so.first) = omega arith in
    rw e (record {
      first = ch ∷ so.first;
      more = so.more;
      are = ap (before_lines ch) so.are ∙ put_first ch so.first so.more (not_cr ch printable);
      off = rw same at so.off;
    })) n text h

-- a text is shown by what shows its beginning, and then its rest
pub spread-both : (cols : ℕ) (continuation : List ℕ) (n : ℕ) (before rest : List ℕ) → list_all is_row_character before ≡ true
    → spread cols continuation n (before ++ rest) ≡ spread cols continuation n before ++ spread cols continuation (columns_behind (length continuation) n before) rest
spread-both cols continuation n before rest h =
    let c : ℕ = length continuation in
    over_rows c (λ n before. spread cols continuation n (before ++ rest) ≡ spread cols continuation n before ++ spread cols continuation (columns_behind c n before) rest) (λ n. refl)
    (λ n before so.
    let one : List ℕ = spread cols continuation c before in
    let two : List ℕ = spread cols continuation (columns_behind c c before) rest in
    ap (λ (l : List ℕ). row_edge cols n ++ (cr ∷ lf ∷ (continuation ++ l))) so
    ∙ ap (λ (l : List ℕ). row_edge cols n ++ (cr ∷ lf ∷ l)) (sym (append_assoc continuation one two))
    ∙ sym (append_assoc (row_edge cols n) (cr ∷ lf ∷ (continuation ++ one)) two))
    (λ n ch before printable e so. rw e (ap (λ (l : List ℕ). ch ∷ l) so)) n before h
