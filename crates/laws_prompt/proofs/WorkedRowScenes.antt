-- Scenes with rows of wide characters and marks, and the cursor of a host that answers the settled column, by
-- computation and by the laws.
use Rattle.std.proofs.Common.{◌≡◌, ℕ, pos, List, [], ◌∷◌, ◌++◌, false, refl, ap, arith}
use Rattle.std.proofs.lemmas.Str.{IsUtf8-from_is_utf8}
use Rattle.std.specs.Str.{is_utf8}
use Rattle.tw_surface.specs.declared.cell.AttributeChange.{AttributeChange}
use Rattle.tw_surface.specs.ChangeView.{Attribute, Text}
use Rattle.tw_surface.specs.Paintings.{cursor_place, painting}
use Rattle.tw_surface.specs.Pictures.{blank}
use Rattle.tw_surface.specs.Places.{Place}
use Rattle.tw_surface.specs.Scenes.{Scene}
use Rattle.tw_surface.specs.Scenes.Lower.{NoLower}
use Rattle.laws_screens.specs.CursorCells.{StandsOn}
use Rattle.laws_screens.specs.Glyphs.{glyphs}
use Rattle.laws_screens.specs.Glyphs.Glyph.{Cluster}
use Rattle.laws_screens.specs.Pens.{strokes_of}
use Rattle.laws_screens.specs.RowScenes.{folded, HasRows}
use Rattle.laws_screens.specs.SceneSheets.{sheet_of}
use Rattle.laws_screens.specs.Sheets.{IsFreshSheet}
use Rattle.laws_screens.specs.Strokes.{PictureOf}
use Rattle.laws_screens.specs.StyledCells.{characters, clusters, styled}
use Rattle.laws_screens.proofs.CursorCellLemmas.{cursor_stands_before}
use Rattle.tw_line.specs.Cut.{Cut}
use Rattle.tw_hosts.specs.Settling.{settled_column, settled_pieces, needed_by_text}
use Rattle.laws_runs.proofs.WorkedParts.{worked_runs, prompt, accented, han, crab}
use Rattle.laws_prompt.specs.MeasuredRows.{IsMeasuredRow, HasMeasuredRows, first_row_changes, other_rows}
use Rattle.laws_prompt.specs.SettledCursors.{AnswersSettled}
use Rattle.laws_prompt.proofs.MeasuredRowLemmas.{measured_rows_are_rows}
use Rattle.laws_prompt.proofs.SettledCursorLemmas.{settled_is_before}

-- "> " and a line, its cursor at a column
abbrev scene_of : List ℕ → ℕ → Scene
scene_of line column = record { prompt = Text prompt ∷ []; line = Text line ∷ []; column = column; lower = NoLower; cleared = false }

-- ---- a letter with an accent and a character of Han, and an emoji under them

abbrev two_rows : Scene
two_rows = scene_of ((accented ++ han) ++ 13 ∷ 10 ∷ crab) 1

first_fits : IsMeasuredRow 6 (accented ++ han)
unfolding worked_runs is_utf8
first_fits = record { utf8 = IsUtf8-from_is_utf8 (accented ++ han) refl; within = refl }

second_fits : IsMeasuredRow 6 crab
unfolding worked_runs is_utf8
second_fits = record { utf8 = IsUtf8-from_is_utf8 crab refl; within = refl }

-- at six columns they have rows
have_rows : HasRows styled 6 two_rows (Text (accented ++ han) ∷ []) (Text crab ∷ [])
unfolding worked_runs
have_rows = measured_rows_are_rows styled 6 two_rows (record {
  wide = omega arith;
  prompt = refl;
  line = ((first_fits, (second_fits, tt)), tt);
  lower = tt;
  pair = refl;
  off_edge = λ e. (let off : 5 ≡ 6 = e in omega (arith, off));
})

-- at five columns the first row ends after the last one, and no space stands there
edge_is_missing : HasMeasuredRows 5 two_rows → ⊥
unfolding worked_runs
edge_is_missing h = h.off_edge refl

-- a preview would be painted otherwise then
missing_differs : strokes_of characters tt (painting 5 two_rows).changes ≡ strokes_of characters tt (painting 5 (folded 5 two_rows (Text (accented ++ han) ∷ []) (Text crab ∷ []))).changes → ⊥
unfolding worked_runs
missing_differs h = cc (h)

-- the rows after the first are under the attributes that are set before it
colored : (a : AttributeChange) → let line = Attribute a ∷ Text (97 ∷ 13 ∷ 10 ∷ 98 ∷ []) ∷ [] in
    (first_row_changes line ≡ Attribute a ∷ Text (97 ∷ []) ∷ []) × (other_rows line ≡ Attribute a ∷ Text (98 ∷ []) ∷ [])
colored a = (refl, refl)

-- ---- the cursor at five columns before an emoji between two characters of Han, which begins the second row

abbrev cut : Cut
cut = record { line = han ++ (crab ++ han); cursor = 3 }

abbrev scene : Scene
scene = scene_of cut.line (settled_column 5 prompt cut)

-- the column counts the one that the first row leaves empty
three_columns : (scene.column ≡ 3) × (cursor_place 5 scene ≡ record { x = 0; y = pos 1 })
unfolding worked_runs settled_pieces needed_by_text
three_columns = (refl, refl)

not_at_edge : cursor_place 5 scene ≡ record { x = 4; y = pos 0 } → ⊥
unfolding worked_runs settled_pieces needed_by_text
not_at_edge h = let off : 0 ≡ 4 = ap (λ (p : Place). p.x) h in omega (arith, off)

answers : AnswersSettled 5 prompt cut scene
unfolding worked_runs settled_pieces needed_by_text
answers = record { settled = refl; prompt_is = refl; line_is = refl; column_is = refl; whole_before = refl; whole_after = refl }

-- so where the painting is fresh, the cursor stands on both cells of the emoji
on_emoji : (s : ℕ) (after : PictureOf (List ℕ)) → IsFreshSheet 5 s (blank ∷ []) (sheet_of clusters 5 scene) after → StandsOn clusters crab 2 after
unfolding worked_runs
on_emoji s after fresh =
    cursor_stands_before clusters 5 s scene (glyphs han) crab 2 (Cluster han 2 ∷ []) after (omega arith) (record { prompt = refl; line = refl; lower = tt })
    (settled_is_before 5 prompt cut scene crab 2 (Cluster han 2 ∷ []) answers (refl, omega arith)) fresh
