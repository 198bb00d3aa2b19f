-- Incremental equals fresh: after each painting of a list the screen shows what one fresh painting would show.
use Rattle.std.specs.Prelude.{ℕ, ◌≡◌, ◌≤◌, ◌<◌, ◌+◌, ◌-◌, ◌/◌, length, pos, true, false, List, [], ◌∷◌, ◌++◌, map}
use Rattle.std.specs.List.{list_all, list_any, All}
use Rattle.tw_surface.specs.ChangeView.{Batch}
use Rattle.tw_surface.specs.Pictures.{Picture}
use Rattle.tw_surface.specs.Characters.{is_printable}
use Rattle.tw_surface.specs.Lines.{lines_of, text_of_lines, rows_of}
use Rattle.tw_surface.specs.Scenes.{Scene, IsPlain}
use Rattle.tw_surface.specs.Paintings.{painting}
use Rattle.tw_surface.specs.Fresh.{IsFresh, IsSameAbove, IsClosed, last_row, cursor_row}
use Rattle.laws_screens.specs.Glyphs.{IsMeasured}
use Rattle.tw_surface.specs.PaintingBatches.{Shot, SizedScene, IsPlainAt, shot_of, scenes_of, batches, closing_batch, last_of, shown_batches, run_batches, play_batches, start_row}

-- Of stations that are plain and for w columns: every painting of a run that enters at column 0 of row e leaves the fresh
-- painting of its scene, from row 0 on once the screen was cleared, and the rows above as they were at entry.
abbrev pub IncrementalEqualsFresh : Type 0
IncrementalEqualsFresh = (w e : ℕ) (earlier : List SizedScene) (station : SizedScene) (before : Picture)
    → 2 ≤ w → before.row ≡ e → before.col ≡ 0 → All (IsPlainAt w) (earlier ++ station ∷ [])
    → let stations = earlier ++ station ∷ [] in
    let s = start_row e (scenes_of stations) in
    let after = play_batches w (batches (map shot_of stations)) before in
    IsFresh w s station.scene after × IsSameAbove w s before after

-- the batches up to a painting are a beginning of those of the whole list, whatever is painted later and at whatever
-- size
abbrev pub Beginning : Type 0
Beginning = (first later : List Shot) → (rest : List Batch) × (batches (first ++ later) ≡ batches first ++ rest)

-- the closing batch leaves the cursor under the last painting, blank from there on, and the rest as it was
abbrev pub ClosingBatch : Type 0
ClosingBatch = (w e : ℕ) (earlier : List SizedScene) (station : SizedScene) (before : Picture)
    → 2 ≤ w → before.row ≡ e → before.col ≡ 0 → All (IsPlainAt w) (earlier ++ station ∷ [])
    → let shown = map shot_of (earlier ++ station ∷ []) in
    let s = start_row e (scenes_of (earlier ++ station ∷ [])) in
    let after = play_batches w (batches shown) before in
    IsClosed w (last_row w s station.scene) after (play_batches w (closing_batch shown) after)

-- a run of scenes is entered at column 0, and another one, which clears nothing, where the first one's closing batch
-- left the cursor
pub record AreStacked (w : ℕ) (first : Scene) (more : List Scene) (second : Scene) (others : List Scene) (before : Picture) : Type 0 where
  pub wide : 2 ≤ w
  pub at_start : before.col ≡ 0
  pub plain : All IsPlain (first ∷ more)
  pub plain_second : All IsPlain (second ∷ others)
  pub uncleared : list_any (λ scene. scene.cleared) (second ∷ others) ≡ false

-- Under the last row of the first one the second one is fresh, and above it all is as the first one's last painting left
-- it, also once the second one is closed.
abbrev pub StacksUnder : ℕ → ℕ → Picture → Picture → Scene → List Scene → Type 0
StacksUnder w under shown entered second others =
    let after = play_batches w (shown_batches w (second ∷ others)) entered in
    IsSameAbove w under shown after
    × IsSameAbove w under shown (play_batches w (run_batches w (second ∷ others)) entered)
    × IsFresh w under (last_of second others) after

-- So they stack.
abbrev pub Stacking : Type 0
Stacking = (w : ℕ) (first : Scene) (more : List Scene) (second : Scene) (others : List Scene) (before : Picture) → AreStacked w first more second others before
    → let under = last_row w (start_row before.row (first ∷ more)) (last_of first more) + 1 in
    StacksUnder w under (play_batches w (shown_batches w (first ∷ more)) before) (play_batches w (run_batches w (first ∷ more)) before) second others

-- the row and the height that the painter counts are those that division gives
abbrev pub CountedRows : Type 0
CountedRows = (w s : ℕ) (scene : Scene) → 2 ≤ w → IsPlain scene
    → ((painting w scene).row ≡ pos (cursor_row w scene)) × (s + (painting w scene).height ≡ last_row w s scene)

-- a text is its lines with CR LF between each two; a printable text is one line, and printable lines with CR LF between
-- each two are cut into themselves
abbrev pub LinesOfText : Type 0
LinesOfText = ((text : List ℕ) → text_of_lines (lines_of text) ≡ text)
    × ((text : List ℕ) → list_all is_printable text ≡ true → lines_of text ≡ text ∷ [])
    × ((line : List ℕ) (more : List (List ℕ)) → list_all (list_all is_printable) (line ∷ more) ≡ true → lines_of (text_of_lines (line ∷ more)) ≡ line ∷ more)

-- a line of m characters takes one row and one more each time that another character does not fit
abbrev pub RowsOfLine : Type 0
RowsOfLine = (w : ℕ) (line : List ℕ) → 2 ≤ w → rows_of w line ≡ 1 + (length line - 1) / w

-- two fresh paintings of one scene from one row are the same from that row on, cursor included
abbrev pub OneFreshPainting : Type 0
OneFreshPainting = (w s : ℕ) (scene : Scene) (a b : Picture) → 2 ≤ w → IsFresh w s scene a → IsFresh w s scene b
    → ((r c : ℕ) → s ≤ r → c < w → a.cell r c ≡ b.cell r c) × (a.row ≡ b.row) × (a.col ≡ b.col)

-- a plain scene is measured
abbrev pub PlainIsMeasured : Type 0
PlainIsMeasured = (w : ℕ) (scene : Scene) → 2 ≤ w → IsPlain scene → IsMeasured w scene
