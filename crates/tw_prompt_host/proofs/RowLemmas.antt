-- Texts and elements in rows.
use Rattle.std.proofs.Common.{◌≡◌, ◌≢◌, ℕ, suc, ◌+◌, ◌<◌, ◌≤◌, ◌||◌, eqb, Bool, true, false, not, List, [], ◌∷◌, ◌++◌, length, take, drop, get_or, Option, Some, None, refl, ap, sym, ◌∙◌, arith, append_assoc, append-nil, length-append, subst, take-append-drop}
use Rattle.std.specs.List.{list_all}
use Rattle.std.proofs.Math.Bool.{or-false}
use Rattle.std.proofs.lemmas.Bool.{and_from, and_parts, ne_eqb, not-true}
use Rattle.std.proofs.lemmas.List.{length-take-le, take_all}
use Rattle.std.proofs.lemmas.List.Folds.{list_all-append}
use Rattle.std.proofs.lemmas.Str.Pattern.{NoCharPasses-char}
use Rattle.std.specs.Str.{NoCharPasses}
use Rattle.tw_surface.specs.Characters.{is_printable, cr, lf}
use Rattle.tw_surface.specs.Width.{column_width}
use Rattle.tw_surface.specs.declared.cell.CellAttributes.{CellAttributes}
use Rattle.tw_line.specs.Cut.{Cut, at_end}
use Rattle.tw_host.specs.ElementView.{ElementView, Attribute, AllAttributes, Text}
use Rattle.tw_host.specs.Faithful.{text_of_elements}
use Rattle.tw_hosts.specs.Settling.{PromptScreenView, column_on}
use Rattle.tw_hosts.proofs.SettlingLemmas.{printable_is_plain}
use Rattle.tw_prompt_host.specs.Rows.{RowView, before_row, before_rows, break_elements, columns_behind, elements_from, elements_of_rows, empty_first_row, is_row_character, last_shown, next_row, row_behind, row_break, row_columns, row_edge, row_with, rows_of_text, spread, spread_cut, spread_from, ArePrintablePrompts, ElementsAreSpread, OneRowIsSettled, PrintableCutIsShown, PrintableIsShown, PrintableIsSpread, is_one_row}

-- ---- pieces of a text between line feeds

-- a text has no line feed if no byte is one
pub no-feed : (text : List ℕ) → ((i : ℕ) → i < length text → get_or text i 0 ≢ lf) → is_one_row text ≡ true
no-feed [] none = refl
no-feed (b ∷ text) none = rw (ne_eqb b lf (none 0 (omega arith))) (no-feed text (λ i inside. none (suc i) (omega (arith, inside))))

-- as a search for line feeds finds it
no-feed-in : (text : List ℕ) → NoCharPasses (λ d. eqb d lf) text → is_one_row text ≡ true
no-feed-in text none = no-feed text (λ i inside. NoCharPasses-char lf text i none (omega arith) inside)

-- neither is its first byte one, nor one of the rest
no-feed-parts : (b : ℕ) (text : List ℕ) → is_one_row (b ∷ text) ≡ true → (eqb b lf ≡ false) × (is_one_row text ≡ true)
no-feed-parts b text one = let both = and_parts (not (eqb b lf)) (is_one_row text) one in (not-true (eqb b lf) both.0, both.1)

-- a row with more, and more after that
with-more : (row : RowView) (a b : List ℕ) → row_with (row_with row a) b ≡ row_with row (a ++ b)
with-more row a b = ap (λ text. record row { text = text }) (append_assoc row.text a b)

with-none : (row : RowView) → row_with row [] ≡ row
with-none row = ap (λ text. record row { text = text }) (append-nil row.text)

-- the row behind a piece, and behind a line feed
pub behind-piece : (row : RowView) (piece : List ℕ) → is_one_row piece ≡ true → row_behind row piece ≡ row_with row piece
behind-piece row [] none = sym (with-none row)
behind-piece row (b ∷ piece) none =
    let (other, rest) = no-feed-parts b piece none in rw other (behind-piece (row_with row (b ∷ [])) piece rest ∙ with-more row (b ∷ []) piece)

pub behind-feed : (row : RowView) (front more : List ℕ) → row_behind row (front ++ (lf ∷ more)) ≡ row_behind next_row more
behind-feed row [] more = refl
behind-feed row (b ∷ front) more = by (λ r. behind-feed r front more) (eqb b lf) refl
  where
    by : ((r : RowView) → row_behind r (front ++ (lf ∷ more)) ≡ row_behind next_row more) → (feed : Bool) → eqb b lf ≡ feed
        → row_behind row ((b ∷ front) ++ (lf ∷ more)) ≡ row_behind next_row more
    by so true e = rw e (so next_row)
    by so false e = rw e (so (row_with row (b ∷ [])))

-- so is the row behind the rest of a text, in the steps of a loop over its pieces
pub behind-step : (row : RowView) (rest piece more : List ℕ) (all : RowView) → rest ≡ piece ++ (lf ∷ more) → row_behind row rest ≡ all → row_behind next_row more ≡ all
behind-step row rest piece more all e so = sym (behind-feed row piece more) ∙ ap (row_behind row) (sym e) ∙ so

-- and behind the last piece
pub behind_last : (row : RowView) (rest : List ℕ) → NoCharPasses (λ d. eqb d lf) rest → row_behind row rest ≡ row_with row rest
behind_last row rest none = behind-piece row rest (no-feed-in rest none)

-- what is shown after one more piece and a break, and what is left then
pub shown-step : {X : Type 0} (shown piece between left rest new all : List X) → rest ≡ piece ++ (between ++ left)
    → new ≡ (shown ++ piece) ++ between → shown ++ rest ≡ all → new ++ left ≡ all
shown-step shown piece between left rest new all is is_new so =
    rw is_new (append_assoc (shown ++ piece) between left ∙ append_assoc shown piece (between ++ left) ∙ ap (λ xs. shown ++ xs) (sym is) ∙ so)

-- the last row of a line with a line feed, which stands before `j`
module _ (screen : PromptScreenView) (continuation line : List ℕ) where
  pub last-behind : (row : List ℕ) (i j : ℕ) → drop i line ≡ lf ∷ drop j line → NoCharPasses (λ d. eqb d lf) (drop j line) → row ≡ drop j line
      → last_shown screen (Some continuation) line ≡ (continuation, row)
  last-behind row i j at none back =
      let whole : line ≡ take i line ++ (lf ∷ row) =
      sym (take-append-drop i line) ∙ ap (λ text. take i line ++ text) (at ∙ ap (λ text. lf ∷ text) (sym back)) in
      let last : row_behind empty_first_row line ≡ row_with next_row row =
      ap (row_behind empty_first_row) whole ∙ behind-feed empty_first_row (take i line) row
      ∙ behind-piece next_row row (no-feed-in row (subst (NoCharPasses (λ d. eqb d lf)) (sym back) none)) in
      ap (λ (shown : RowView). (before_row screen continuation shown.is_first, shown.text)) last

-- the rows of a piece, and of a piece before a line feed
pub rows-piece : (piece : List ℕ) → is_one_row piece ≡ true → rows_of_text piece ≡ piece ∷ []
rows-piece [] none = refl
rows-piece (b ∷ piece) none = let (other, rest) = no-feed-parts b piece none in rw other (ap (before_rows b) (rows-piece piece rest))

pub rows-feed : (piece more : List ℕ) → is_one_row piece ≡ true → rows_of_text (piece ++ (lf ∷ more)) ≡ piece ∷ rows_of_text more
rows-feed [] more none = refl
rows-feed (b ∷ piece) more none = let (other, rest) = no-feed-parts b piece none in rw other (ap (before_rows b) (rows-feed piece more rest))

-- there is a first row
some-rows : (text : List ℕ) → (row : List ℕ) × (more : List (List ℕ)) × (rows_of_text text ≡ row ∷ more)
some-rows [] = ([], [], refl)
some-rows (b ∷ text) = by (some-rows text) (eqb b lf) refl
  where
    by : (row : List ℕ) × (more : List (List ℕ)) × (rows_of_text text ≡ row ∷ more) → (x : Bool) → eqb b lf ≡ x → (row : List ℕ) × (more : List (List ℕ)) × (rows_of_text (b ∷ text) ≡ row ∷ more)
    by it true e = rw e ([], rows_of_text text, refl)
    by it false e = rw e (b ∷ it.0, it.1, ap (before_rows b) it.2)

module _ (screen : PromptScreenView) (continuation : List ℕ) where
  -- two texts, one after the other
  pub spread-append : (row : RowView) (a b : List ℕ) → spread_from screen continuation row (a ++ b) ≡ spread_from screen continuation row a ++ spread_from screen continuation (row_behind row a) b
  spread-append row [] b = refl
  spread-append row (x ∷ a) b = by (λ r. spread-append r a b) (eqb x lf) refl
    where
      by : ((r : RowView) → spread_from screen continuation r (a ++ b) ≡ spread_from screen continuation r a ++ spread_from screen continuation (row_behind r a) b)
          → (feed : Bool) → eqb x lf ≡ feed
          → spread_from screen continuation row ((x ∷ a) ++ b) ≡ spread_from screen continuation row (x ∷ a) ++ spread_from screen continuation (row_behind row (x ∷ a)) b
      by so true e = rw e (ap (λ text. row_break screen continuation row ++ text) (so next_row) ∙ sym (append_assoc (row_break screen continuation row) _ _))
      by so false e = rw e (ap (λ text. x ∷ text) (so (row_with row (x ∷ []))))

  -- elements of a piece, and of a piece before a line feed
  pub elements-piece : (set : Option CellAttributes) (row : RowView) (piece : List ℕ) → is_one_row piece ≡ true
      → elements_of_rows screen continuation set row (rows_of_text piece) ≡ Text piece ∷ []
  elements-piece set row piece none = ap (elements_of_rows screen continuation set row) (rows-piece piece none)

  pub elements-feed : (set : Option CellAttributes) (row : RowView) (piece more : List ℕ) → is_one_row piece ≡ true
      → elements_of_rows screen continuation set row (rows_of_text (piece ++ (lf ∷ more)))
      ≡ Text piece ∷ (break_elements screen continuation set (row_with row piece) ++ elements_of_rows screen continuation set next_row (rows_of_text more))
  elements-feed set row piece more none =
      let it = some-rows more in
      ap (elements_of_rows screen continuation set row) (rows-feed piece more none ∙ ap (λ (rows : List (List ℕ)). piece ∷ rows) it.2)
      ∙ ap (λ rows. Text piece ∷ (break_elements screen continuation set (row_with row piece) ++ elements_of_rows screen continuation set next_row rows)) (sym it.2)

  -- ---- the text of elements

  text-append : (elements more : List ElementView) → text_of_elements (elements ++ more) ≡ text_of_elements elements ++ text_of_elements more
  text-append [] more = refl
  text-append (Attribute a ∷ elements) more = text-append elements more
  text-append (AllAttributes a ∷ elements) more = text-append elements more
  text-append (Text text ∷ elements) more = ap (λ t. text ++ t) (text-append elements more) ∙ sym (append_assoc text (text_of_elements elements) (text_of_elements more))

  break-text : (set : Option CellAttributes) (row : RowView) → text_of_elements (break_elements screen continuation set row) ≡ row_break screen continuation row
  break-text None row = append-nil (row_break screen continuation row)
  break-text (Some attributes) row = append-nil (row_break screen continuation row)

  -- the text of rows, the first of which has one more character before it
  one-before : (set : Option CellAttributes) (row : RowView) (b : ℕ) (first : List ℕ) (more : List (List ℕ))
      → text_of_elements (elements_of_rows screen continuation set row ((b ∷ first) ∷ more)) ≡ b ∷ text_of_elements (elements_of_rows screen continuation set (row_with row (b ∷ [])) (first ∷ more))
  one-before set row b first [] = refl
  one-before set row b first (next ∷ more) =
      ap (λ r. b ∷ (first ++ text_of_elements (break_elements screen continuation set r ++ elements_of_rows screen continuation set next_row (next ∷ more)))) (sym (with-more row (b ∷ []) first))

  pub text_of_rows : (set : Option CellAttributes) (row : RowView) (text : List ℕ)
      → text_of_elements (elements_of_rows screen continuation set row (rows_of_text text)) ≡ spread_from screen continuation row text
  text_of_rows set row [] = refl
  text_of_rows set row (b ∷ text) = by (some-rows text) (λ r. text_of_rows set r text) (eqb b lf) refl
    where
      by : (first : List ℕ) × (more : List (List ℕ)) × (rows_of_text text ≡ first ∷ more)
          → ((r : RowView) → text_of_elements (elements_of_rows screen continuation set r (rows_of_text text)) ≡ spread_from screen continuation r text)
          → (feed : Bool) → eqb b lf ≡ feed
          → text_of_elements (elements_of_rows screen continuation set row (rows_of_text (b ∷ text))) ≡ spread_from screen continuation row (b ∷ text)
      by it so true e =
          rw (e, it.2, text-append (break_elements screen continuation set (row_with row [])) (elements_of_rows screen continuation set next_row (it.0 ∷ it.1)), break-text set (row_with row []))
          (ap (λ r. row_break screen continuation r ++ text_of_elements (elements_of_rows screen continuation set next_row (it.0 ∷ it.1))) (with-none row)
          ∙ ap (λ rows. row_break screen continuation row ++ text_of_elements (elements_of_rows screen continuation set next_row rows)) (sym it.2) ∙ ap (λ text. row_break screen continuation row ++ text) (so next_row))
      by it so false e =
          rw (e, it.2, one-before set row b it.0 it.1)
          (ap (λ rows. b ∷ text_of_elements (elements_of_rows screen continuation set (row_with row (b ∷ [])) rows)) (sym it.2) ∙ ap (λ text. b ∷ text) (so (row_with row (b ∷ []))))

  -- the text of a piece in a row
  spread-piece : (row : RowView) (piece : List ℕ) → is_one_row piece ≡ true → spread_from screen continuation row piece ≡ piece
  spread-piece row piece none = sym (text_of_rows None row piece) ∙ ap text_of_elements (elements-piece None row piece none) ∙ append-nil piece

  -- what the last piece shows
  pub elements_last : (set : Option CellAttributes) (row : RowView) (rest : List ℕ) → NoCharPasses (λ d. eqb d lf) rest
      → elements_of_rows screen continuation set row (rows_of_text rest) ≡ Text rest ∷ []
  elements_last set row rest none = elements-piece set row rest (no-feed-in rest none)

  -- ---- one row

  one-row-elements : (set : Option CellAttributes) (row : RowView) (elements : List ElementView) → is_one_row (text_of_elements elements) ≡ true
      → elements_from screen continuation set row elements ≡ elements
  one-row-elements set row [] h = refl
  one-row-elements set row (Attribute change ∷ more) h = ap (λ (es : List ElementView). Attribute change ∷ es) (one-row-elements _ row more h)
  one-row-elements set row (AllAttributes attributes ∷ more) h = ap (λ (es : List ElementView). AllAttributes attributes ∷ es) (one-row-elements (Some attributes) row more h)
  one-row-elements set row (Text text ∷ more) h =
      let both = and_parts (is_one_row text) (is_one_row (text_of_elements more)) (sym (list_all-append (λ b. not (eqb b lf)) text (text_of_elements more)) ∙ h) in
      ap (λ es. es ++ elements_from screen continuation set (row_behind row text) more) (elements-piece set row text both.0)
      ∙ ap (λ (es : List ElementView). Text text ∷ es) (one-row-elements set (row_behind row text) more both.1)

  one-row-cut : (cut : Cut) → cut.cursor ≤ length cut.line → is_one_row cut.line ≡ true → spread_cut screen continuation (take cut.cursor cut.line) (drop cut.cursor cut.line) ≡ cut
  one-row-cut cut inside h =
      let front = take cut.cursor cut.line in
      let back = drop cut.cursor cut.line in
      let whole = take-append-drop cut.cursor cut.line in
      let both = and_parts (is_one_row front) (is_one_row back) (sym (list_all-append (λ b. not (eqb b lf)) front back) ∙ ap is_one_row whole ∙ h) in
      let first : spread_from screen continuation empty_first_row front ≡ front = spread-piece empty_first_row front both.0 in
      let second : spread_from screen continuation (row_behind empty_first_row front) back ≡ back = spread-piece (row_behind empty_first_row front) back both.1 in
      let cursor : length front ≡ cut.cursor = length-take-le cut.cursor cut.line inside in
      rw (first, second, whole, cursor) refl

pub one_row_is_settled : OneRowIsSettled
one_row_is_settled screen continuation cut shown inside line elements =
    rw (one-row-elements screen continuation None empty_first_row shown.elements elements)
    (ap (λ c. record { elements = shown.elements; column = column_on screen c }) (one-row-cut screen continuation cut inside line))

pub elements_are_spread : ElementsAreSpread
elements_are_spread screen continuation set row [] = refl
elements_are_spread screen continuation set row (Attribute change ∷ more) = elements_are_spread screen continuation _ row more
elements_are_spread screen continuation set row (AllAttributes attributes ∷ more) = elements_are_spread screen continuation (Some attributes) row more
elements_are_spread screen continuation set row (Text text ∷ more) =
    rw (
      text-append screen continuation (elements_of_rows screen continuation set row (rows_of_text text)) (elements_from screen continuation set (row_behind row text) more),
      text_of_rows screen continuation set row text,
      elements_are_spread screen continuation set (row_behind row text) more,
    ) (sym (spread-append screen continuation row text (text_of_elements more)))

-- ---- printable rows

printable-width : (text : List ℕ) → list_all is_printable text ≡ true → column_width text ≡ length text
unfolding column_width
printable-width text h = rw h refl

printable-of : (b : ℕ) → is_row_character b ≡ true → eqb b lf ≡ false → is_printable b ≡ true
printable-of b h e = sym (or-false (is_printable b)) ∙ ap (λ x. is_printable b || x) (sym e) ∙ h

module _ (screen : PromptScreenView) (continuation : List ℕ) (prompts : ArePrintablePrompts screen.prompt continuation) where
  before-printable : (is_first : Bool) → list_all is_printable (before_row screen continuation is_first) ≡ true
  before-printable true = prompts.prompt
  before-printable false = prompts.continuation

  -- the columns of a row are its characters with those of what stands before it
  columns-count : (row : RowView) → list_all is_printable row.text ≡ true → row_columns screen continuation row ≡ length (before_row screen continuation row.is_first) + length row.text
  columns-count row h =
      let before = before_row screen continuation row.is_first in
      rw (
        printable-width before (before-printable row.is_first),
        printable_is_plain screen.cols before (at_end row.text) h,
        take_all (length row.text) row.text (omega arith),
        printable-width row.text h,
      ) refl

  with-letter : (row : RowView) (b : ℕ) → list_all is_printable row.text ≡ true → is_printable b ≡ true → list_all is_printable (row.text ++ b ∷ []) ≡ true
  with-letter row b h letter = list_all-append is_printable row.text (b ∷ []) ∙ and_from _ _ h (and_from _ _ letter refl)

  -- printable text after `n` characters of a row is shown by counting, and ends in a printable row
  abbrev Counted : RowView → ℕ → List ℕ → Type 0
  Counted row n text = (spread_from screen continuation row text ≡ spread screen.cols continuation n text)
      × (list_all is_printable (row_behind row text).text ≡ true)
      × (length (before_row screen continuation (row_behind row text).is_first) + length (row_behind row text).text ≡ columns_behind (length continuation) n text)

  counted : (row : RowView) (n : ℕ) (text : List ℕ) → list_all is_printable row.text ≡ true → list_all is_row_character text ≡ true
      → length (before_row screen continuation row.is_first) + length row.text ≡ n → Counted row n text
  counted row n [] h t e = (refl, h, e)
  counted row n (b ∷ text) h t e =
      let both = and_parts (is_row_character b) (list_all is_row_character text) t in
      by both.0 (λ r m g f. counted r m text g both.1 f) (eqb b lf) refl
    where
      by : is_row_character b ≡ true
          → ((r : RowView) (m : ℕ) → list_all is_printable r.text ≡ true → length (before_row screen continuation r.is_first) + length r.text ≡ m → Counted r m text)
          → (feed : Bool) → eqb b lf ≡ feed → Counted row n (b ∷ text)
      by mine so true f =
          let none : length continuation + 0 ≡ length continuation = omega arith in
          let rest = so next_row (length continuation) refl none in
          let shown = append_assoc (row_edge screen.cols (row_columns screen continuation row)) (cr ∷ lf ∷ continuation) (spread_from screen continuation next_row text)
          ∙ ap (λ m. row_edge screen.cols m ++ (cr ∷ lf ∷ (continuation ++ spread_from screen continuation next_row text))) (columns-count row h ∙ e)
          ∙ ap (λ rest. row_edge screen.cols n ++ (cr ∷ lf ∷ (continuation ++ rest))) rest.0 in
          rw f (shown, rest.1, rest.2)
      by mine so false f =
          let more : length (before_row screen continuation row.is_first) + length (row.text ++ b ∷ []) ≡ n + 1 = omega (arith, length-append row.text (b ∷ []), e) in
          let rest = so (row_with row (b ∷ [])) (n + 1) (with-letter row b h (printable-of b mine f)) more in
          rw f (ap (λ rest. b ∷ rest) rest.0, rest.1, rest.2)

pub printable_is_spread : PrintableIsSpread
printable_is_spread screen continuation text prompts t = (counted screen continuation prompts empty_first_row (length screen.prompt) text refl t (omega arith)).0

pub printable_cut_is_shown : PrintableCutIsShown
printable_cut_is_shown screen continuation before rest prompts b r =
    let behind = counted screen continuation prompts empty_first_row (length screen.prompt) before refl b (omega arith) in
    let at = columns_behind (length continuation) (length screen.prompt) before in
    rw (behind.0, (counted screen continuation prompts (row_behind empty_first_row before) at rest behind.1 r behind.2).0) refl

pub printable_is_shown : PrintableIsShown
printable_is_shown screen continuation cut shown prompts line faithful =
    let parts = list_all-append is_row_character (take cut.cursor cut.line) (drop cut.cursor cut.line) in
    let both = and_parts (list_all is_row_character (take cut.cursor cut.line)) (list_all is_row_character (drop cut.cursor cut.line))
    (sym parts ∙ ap (list_all is_row_character) (take-append-drop cut.cursor cut.line) ∙ line) in (
      elements_are_spread screen continuation None empty_first_row shown.elements ∙ ap (spread_from screen continuation empty_first_row) faithful ∙ printable_is_spread screen continuation cut.line prompts line,
      ap (column_on screen) (printable_cut_is_shown screen continuation (take cut.cursor cut.line) (drop cut.cursor cut.line) prompts both.0 both.1),
    )
