-- A scene with rows is painted as it is folded.
use Rattle.std.proofs.Common.{◌≡◌, ℕ, ℤ, true, Option, Some, None, [], ◌∷◌, ◌++◌, refl, sym, ap, subst, ◌∙◌, arith, append_assoc}
use Rattle.std.specs.List.{list_all}
use Rattle.std.proofs.lemmas.Bool.{ne_eqb, and_parts}
use Rattle.std.proofs.lemmas.List.Folds.{list_all-append}
use Rattle.std.proofs.lemmas.Int.{ints}
use Rattle.laws_screens.specs.Strokes.{PictureOf, steps}
use Rattle.laws_screens.specs.Strokes.Stroke.{Return, Feed}
use Rattle.tw_surface.specs.ChangeView.{Batch, AllAttributes, Text}
use Rattle.tw_surface.specs.Defaults.{default_attributes}
use Rattle.tw_surface.specs.Drawings.{height}
use Rattle.tw_surface.specs.Paintings.{Mark, painting, lower_changes, edge_space, shown_part, cursor_place, start_move}
use Rattle.tw_surface.specs.PaintingBatches.{start_of}
use Rattle.tw_surface.specs.Places.{Place, place_after_all, origin, move_between}
use Rattle.tw_surface.specs.Scenes.{Scene, is_text}
use Rattle.laws_screens.specs.Pens.{Pen, kept_after_all, strokes_of}
use Rattle.laws_screens.proofs.DrawnChanges.{Tracks, measured-is, strokes-append, kept-append}
use Rattle.laws_screens.proofs.DrawnScenes.{crlf_is, text-append, clear, tracks-clear, measured_height}
use Rattle.laws_screens.specs.PaintedAlike.{ArePaintedAlike}
use Rattle.laws_screens.specs.RowScenes.{place_behind, folded, HasRows, RowsAreAPreview}

-- the second of two lists of changes
text-behind : (x y : Batch) → list_all is_text (x ++ y) ≡ true → list_all is_text y ≡ true
text-behind x y k = (and_parts (list_all is_text x) (list_all is_text y) (sym (list_all-append is_text x y) ∙ k)).1

same-place : (p q : Place) → p.x ≡ q.x → p.y ≡ q.y → p ≡ q
same-place p q x y = ap (λ (n : ℕ). record { x = n; y = p.y }) x ∙ ap (λ (n : ℤ). record { x = q.x; y = n }) y

module _ {A C : Type 0} (pen : Pen A C) (w : ℕ) (scene : Scene) (first others : Batch) (has : HasRows pen w scene first others) where
  abbrev start : A
  start = pen.attributes default_attributes

  abbrev other : Scene
  other = folded w scene first others

  -- the space at the edge, and what stands under the line
  abbrev end : Batch
  end = edge_space w (place_behind w scene scene.line) ++ lower_changes scene.lower

  -- the prompt, under its attributes
  abbrev head : Batch
  head = AllAttributes default_attributes ∷ (scene.prompt ++ AllAttributes default_attributes ∷ [])

  -- the rows after the first, under it
  abbrev under : Batch
  under = Text (13 ∷ 10 ∷ []) ∷ AllAttributes default_attributes ∷ (others ++ end)

  no_edge : edge_space w (place_behind w scene first) ≡ []
  no_edge = rw (ne_eqb (place_behind w scene first).x w has.off_edge) refl

  -- all that is painted but the clearing and the last move
  abbrev painted : Batch
  painted = (head ++ scene.line) ++ end

  abbrev painted_folded : Batch
  painted_folded = (head ++ first) ++ (edge_space w (place_behind w scene first) ++ under)

  -- ---- strokes

  -- after the prompt default attributes are set
  kept_head : (a : A) → kept_after_all pen a head ≡ start
  kept_head a = kept-append pen start scene.prompt (AllAttributes default_attributes ∷ [])

  behind_head : (a : A) (x y : Batch) → strokes_of pen a (((head ++ x) ++ y)) ≡ strokes_of pen a head ++ strokes_of pen start ((x ++ y))
  behind_head a x y = cc (append_assoc head x y, strokes-append pen a head (x ++ y), kept_head a)

  -- those of the rows after the first
  under_strokes : (a : A) → strokes_of pen a under
      ≡ Return ∷ Feed ∷ (strokes_of pen start others ++ strokes_of pen (kept_after_all pen start others) end)
  under_strokes a = cc (crlf_is, strokes-append pen start others end)

  -- the line draws its rows
  line_strokes : strokes_of pen start ((scene.line ++ end)) ≡ strokes_of pen start ((first ++ under))
  line_strokes =
      let kept : A = kept_after_all pen start others in
      cc (
        strokes-append pen start scene.line end,
        has.kept,
        has.drawn,
        append_assoc (strokes_of pen start first) (Return ∷ Feed ∷ strokes_of pen start others) (strokes_of pen kept end),
        under_strokes (kept_after_all pen start first),
        strokes-append pen start first under,
      )

  painted_strokes : (a : A) → strokes_of pen a painted ≡ strokes_of pen a painted_folded
  painted_strokes a = cc (behind_head a scene.line end, line_strokes, behind_head a first under, no_edge)

  -- ---- the painting

  painting_strokes : (a c : A) → place_after_all w (shown_part w scene) origin ≡ place_after_all w (shown_part w other) origin → strokes_of pen a (painting w scene).changes ≡ strokes_of pen c (painting w other).changes
  painting_strokes a c ends =
      cc (
        strokes-append pen a (shown_part w scene) (move_between (place_after_all w (shown_part w scene) origin) (cursor_place w scene) ∷ []),
        painted_strokes a,
        ends,
        strokes-append pen a (shown_part w other) (move_between (place_after_all w (shown_part w other) origin) (cursor_place w other) ∷ []),
      )

  alike : ArePaintedAlike pen w scene other
  alike =
      let opened : list_all is_text head ≡ true = text-append scene.prompt (AllAttributes default_attributes ∷ []) (measured-is w scene.prompt has.measured.prompt).0 refl in
      let text : list_all is_text painted ≡ true =
      text-append (head ++ scene.line) end (text-append head scene.line opened has.line) (text-behind others end has.measured.lower.0) in
      let folded_text : list_all is_text painted_folded ≡ true =
      text-append (head ++ first) (edge_space w (place_behind w scene first) ++ under) (text-append head first opened (measured-is w first has.measured.line).0)
      (subst (λ (l : Batch). list_all is_text (l ++ under) ≡ true) (sym no_edge) has.measured.lower.0) in
      let drawn : PictureOf C = steps w (strokes_of pen start painted) (clear pen w) in
      let here : Tracks w 0 (place_after_all w painted origin) drawn = tracks-clear pen w start painted text in
      let there : Tracks w 0 (place_after_all w painted_folded origin) drawn =
      subst (λ l. Tracks w 0 (place_after_all w painted_folded origin) (steps w l (clear pen w))) (sym (painted_strokes start)) (tracks-clear pen w start painted_folded folded_text) in
      let height_is : height w (shown_part w scene) ≡ height w (shown_part w other) =
      measured_height w painted text drawn.row (omega (arith, ints, here.y)) ∙ sym (measured_height w painted_folded folded_text drawn.row (omega (arith, ints, there.y))) in
      record {
        strokes = begun (same-place (place_after_all w painted origin) (place_after_all w painted_folded origin) (sym here.x ∙ there.x) (omega (arith, ints, here.y, there.y)));
        mark = ap (λ (n : ℕ). record { row = (cursor_place w scene).y; height = n }) height_is;
      }
    where
      begun : place_after_all w (shown_part w scene) origin ≡ place_after_all w (shown_part w other) origin → (a c : A) (before : Option Mark)
          → strokes_of pen a (start_of before ++ (painting w scene).changes) ≡ strokes_of pen c (start_of before ++ (painting w other).changes)
      begun ends a c None = painting_strokes a c ends
      begun ends a c (Some m) = ap (λ l. strokes_of pen a (start_move m ∷ []) ++ l) (painting_strokes a c ends)

pub rows_are_a_preview : {A C : Type 0} (pen : Pen A C) → RowsAreAPreview pen
rows_are_a_preview pen station first others rows =
    record { cols = refl; cleared = refl; measured = (rows.wide, rows.measured); alike = alike pen station.cols station.scene first others rows }
