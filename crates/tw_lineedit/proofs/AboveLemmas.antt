-- What a screen shows of a text that is printed above a painting.
use Rattle.std.proofs.Common.{◌≡◌, ℕ, pos, ◌+◌, ◌≤◌, ◌<◌, ◌+ℤ◌, neg_ℤ, List, [], ◌∷◌, ◌++◌, Option, Some, None, Result, Ok, Err, false, refl, ap, subst, ◌∙◌, arith, inl, inr}
use Rattle.std.proofs.lemmas.Bool.{cases_eq, eq-eqb, ne_eqb}
use Rattle.std.proofs.lemmas.Bool.Decides.{nat_tests}
use Rattle.std.proofs.lemmas.Int.{ints}
use Rattle.std.proofs.Math.Nat.{min-eq_right}
use Rattle.tw_surface.specs.ChangeView.{Batch}
use Rattle.tw_surface.specs.Characters.{cr, lf}
use Rattle.tw_surface.specs.Paintings.{Mark, Painting, painting, mark_of}
use Rattle.tw_surface.specs.Pictures.{Picture, cells_cleared_from, play_char, play_text, play_all}
use Rattle.tw_surface.specs.Positions.{at_least_0}
use Rattle.tw_surface.proofs.TextCursor.{text-row}
use Rattle.laws_screens.proofs.PlainStations.{first_painting}
use Rattle.tw_terminal.specs.TerminalState.{TerminalState, Renders, RenderFails}
use Rattle.tw_terminal.specs.declared.terminal.ScreenSize.{ScreenSize}
use Rattle.tw_terminal.specs.declared.terminal.TerminalFault.{TerminalFault}
use Rattle.tw_host.specs.HostRules.{HostRules}
use Rattle.tw_session.specs.Painting.{Rendering, rendering_of, painted_on, scene_of}
use Rattle.tw_session.specs.Refusal.{Refusal}
use Rattle.tw_session.specs.declared.error.Error.TheVariants.{Terminal}
use Rattle.tw_lineedit.specs.Above.{text_above, EntersAt, printed_from, FailsToPrint, PrintsAbove, ShowsAbove}
use Rattle.tw_lineedit.specs.EditorSteps.{Keeps}
use Rattle.tw_lineedit.specs.Frame.{Frame}
use Rattle.tw_lineedit.proofs.StationLemmas.{painted-is}

-- one batch, and then another
pub play_all-append : (w : ℕ) (first then : Batch) (s : Picture) → play_all w (first ++ then) s ≡ play_all w then (play_all w first s)
play_all-append w [] then s = refl
play_all-append w (change ∷ first) then s = play_all-append w first then _

-- a character leaves the rows above it
char_above : (w ch : ℕ) (s : Picture) (r c : ℕ) → r < s.row → (play_char w ch s).cell r c ≡ s.cell r c
char_above w ch s r c less =
    elim (cases_eq ch cr) [
      | inl e ↦ rw (eq-eqb ch cr e) refl
      | inr n ↦ elim (cases_eq ch lf) [
        | inl e ↦ rw (ne_eqb ch cr n, eq-eqb ch lf e) refl
        | inr m ↦ elim (cases_eq s.col w) [
          | inl e ↦ rw (ne_eqb ch cr n, ne_eqb ch lf m, eq-eqb s.col w e, ne_eqb r (s.row + 1) (λ e. omega arith)) refl
          | inr k ↦ rw (ne_eqb ch cr n, ne_eqb ch lf m, ne_eqb s.col w k, ne_eqb r s.row (λ e. omega arith)) refl
        ]
      ]
    ]

-- so does a text
rows_above_text : (w : ℕ) (text : List ℕ) (s : Picture) (r c : ℕ) → r < s.row → (play_text w text s).cell r c ≡ s.cell r c
rows_above_text w [] s r c less = refl
rows_above_text w (ch ∷ text) s r c less =
    let down : s.row ≤ (play_char w ch s).row = text-row w (ch ∷ []) s in
    rows_above_text w text (play_char w ch s) r c (omega arith) ∙ char_above w ch s r c less

-- and a clearing
rows_above_clearing : (cell : ℕ → ℕ → ℕ) (s r c : ℕ) → r < s → cells_cleared_from cell s 0 r c ≡ cell r c
rows_above_clearing cell s r c less = grind (arith, nat_tests, less)

-- the text is played from column 0 of row s on, where all is blank
cleared_at : (w : ℕ) (text : List ℕ) (cell : ℕ → ℕ → ℕ) (row col s : ℕ) → row ≡ s → col ≡ 0
    → play_text w text (record { cell = cells_cleared_from cell row col; row = row; col = col })
    ≡ play_text w text (record { cell = cells_cleared_from cell s 0; row = s; col = 0 })
cleared_at w text cell row col s at-row at-col =
    ap (λ r. play_text w text (record { cell = cells_cleared_from cell r col; row = r; col = col })) at-row
    ∙ ap (λ c. play_text w text (record { cell = cells_cleared_from cell s c; row = s; col = c })) at-col

printed : (w s : ℕ) (mark : Option Mark) (text : List ℕ) (before : Picture) → EntersAt mark s before
    → play_all w (text_above mark text) before ≡ printed_from w s text before
printed w s None text before at = cleared_at w text before.cell before.row before.col s at.0 at.1
printed w s (Some mark) text before (n, is, row) =
    cleared_at w text before.cell _ _ s
    (ap (λ z. at_least_0 (pos before.row +ℤ neg_ℤ z)) is ∙ ap at_least_0 (back before.row n row))
    (min-eq_right (omega arith))
  where
    back : (m n : ℕ) → m ≡ s + n → pos m +ℤ neg_ℤ (pos n) ≡ pos s
    back m n e = omega (arith, ints, e)

module _ {V : Type 0} (rules : HostRules V) (text : List ℕ) where
  -- what is rendered is the scene's painting
  painting_is : (f : Frame V) (p : Rendering) (o : Result Painting Refusal) → painted_on f.terminal.size (scene_of rules f.value f.state false) ≡ o
      → rendering_of None o ≡ Ok p → p.changes ≡ (painting f.terminal.size.cols (scene_of rules f.value f.state false)).changes
  painting_is f p (Err r) is e = cc
  painting_is f p (Ok q) is e =
      let whole : p ≡ record { changes = q.changes; mark = mark_of q } = cc in
      ap (λ (x : Rendering). x.changes) whole ∙ ap (λ (x : Painting). x.changes) (painted-is f.terminal.size (scene_of rules f.value f.state false) q is)

  -- the batch is rendered, and the mark is kept
  pub prints : (f k : Frame V) (t : TerminalState) {p : Rendering} {size : ScreenSize} {b : Batch} → size ≡ f.terminal.size → t ≡ f.terminal
      → rendering_of None (painted_on size (scene_of rules f.value f.state false)) ≡ Ok p → b ≡ text_above f.mark text ++ p.changes
      → Renders b t k.terminal → k.state ≡ f.state → k.value ≡ f.value → k.mark ≡ Some p.mark → PrintsAbove rules text f k
  prints f k t {p = p} {b = b} sized same painted is renders state value mark = record {
    shown = (
      p,
      b,
      record {
        painted = subst (λ z. rendering_of None (painted_on z (scene_of rules f.value f.state false)) ≡ Ok p) sized painted;
        changes = is;
      },
      mark,
      subst (λ u. Renders b u k.terminal) same renders,
    );
    state = state;
    value = value;
  }

  -- or a beginning of it
  pub fails_to_print : (f k : Frame V) (t : TerminalState) {p : Rendering} {size : ScreenSize} {b : Batch} (fault : TerminalFault) → size ≡ f.terminal.size → t ≡ f.terminal
      → rendering_of None (painted_on size (scene_of rules f.value f.state false)) ≡ Ok p → b ≡ text_above f.mark text ++ p.changes
      → RenderFails b t k.terminal → Keeps f k → FailsToPrint rules text f k (Terminal fault)
  fails_to_print f k t {p = p} {b = b} fault sized same painted is fails keeps = (
    keeps,
    inr (
      p,
      b,
      record {
        painted = subst (λ z. rendering_of None (painted_on z (scene_of rules f.value f.state false)) ≡ Ok p) sized painted;
        changes = is;
      },
      subst (λ u. RenderFails b u k.terminal) same fails,
    ),
  )

  -- what a screen shows of it
  pub shows_above : (f g : Frame V) → PrintsAbove rules text f g → ShowsAbove rules text f g
  shows_above f g prints w s before two cols plain at start =
      let (p, batch, below, mark, renders) = prints.shown in
      let scene = scene_of rules f.value f.state false in
      let middle = printed_from w s text before in
      let same : p.changes ≡ (painting w scene).changes = painting_is f p _ refl below.painted ∙ ap (λ n. (painting n scene).changes) cols in
      let played : play_all w batch before ≡ play_all w (painting w scene).changes middle =
      ap (λ b. play_all w b before) below.changes
      ∙ play_all-append w (text_above f.mark text) p.changes before
      ∙ ap (play_all w p.changes) (printed w s f.mark text before at)
      ∙ ap (λ b. play_all w b middle) same in
      let shown = first_painting w middle.row scene middle two refl start plain refl in (
        batch,
        ap (λ t. t.batches) renders,
        record {
          fresh = rw played shown.0;
          below_text = rw played shown.1;
          above = λ r c less inside.
              let down : s ≤ middle.row = text-row w text (record { cell = cells_cleared_from before.cell s 0; row = s; col = 0 }) in
              ap (λ q. q.cell r c) played ∙ shown.1 r c (omega arith) inside
              ∙ rows_above_text w text (record { cell = cells_cleared_from before.cell s 0; row = s; col = 0 }) r c less
              ∙ rows_above_clearing before.cell s r c less;
        },
      )
