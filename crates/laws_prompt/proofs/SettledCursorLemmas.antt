-- A host that answers the settled column places the cursor before the cluster that comes after it, or after the line.
use Rattle.std.proofs.Common.{◌≡◌, ℕ, Bool, true, false, not, max, List, [], ◌∷◌, ◌++◌, map, refl, sym, ap, subst, ◌∙◌, arith, append-nil, if◌then◌else◌}
use Rattle.std.specs.Prelude.{chars}
use Rattle.std.specs.List.{list_all, flat_map}
use Rattle.std.proofs.lemmas.Bool.{and_parts, false≢true}
use Rattle.std.specs.Str.{IsUtf8}
use Rattle.std.proofs.lemmas.List.{take-append-drop}
use Rattle.std.proofs.lemmas.Str.{IsUtf8-take, IsUtf8-drop}
use Rattle.std.proofs.Math.Nat.{max-eq_right}
use Rattle.unicode_segmentation.specs.Grapheme.{graphemes}
use Rattle.tw_surface.specs.declared.measure.Piece.{Piece}
use Rattle.tw_surface.specs.declared.measure.Piece.TheVariants as piece
use Rattle.tw_surface.specs.Characters.{is_plain}
use Rattle.tw_surface.specs.Paintings.{cursor_place}
use Rattle.tw_surface.specs.Scenes.{Scene}
use Rattle.tw_surface.specs.Places.{Place, pieces, plain_piece, cluster_piece, end_of_pieces, begins_at}
use Rattle.laws_screens.specs.Glyphs.{Glyph, glyphs_of_piece, glyphs, typed_glyphs}
use Rattle.laws_screens.specs.Glyphs.Glyph.{Cluster}
use Rattle.laws_screens.specs.CursorCells.{place_after_glyphs}
use Rattle.laws_screens.specs.Pens.{Pen}
use Rattle.laws_screens.proofs.CursorCellLemmas.{cursor_stands_before, cursor_stands_behind}
use Rattle.tw_line.specs.Cut.{Cut}
use Rattle.tw_host.specs.HostRules.{HostRules}
use Rattle.tw_hosts.specs.Settling.{is_parted, cell_pieces, character_piece, settled_pieces, needed, needed_by_text, line_start, place_after_text}
use Rattle.tw_hosts.proofs.SettlingLemmas.{cursor_is_settled}
use Rattle.tw_lineedit.specs.ScreenRuns.{sized_scene}
use Rattle.laws_runs.specs.DrawnRuns.{play_stations}
use Rattle.laws_runs.proofs.DrawnRunLemmas.{last_alike, drawn_paintings}
use Rattle.laws_prompt.specs.SettledCursors.{before_cursor, after_cursor, is_whole_text, AnswersSettled, LineIsTyped, SettledIsBefore, SettledIsBehind, SettledStandsOn, SettledStandsOnBlank}
use Rattle.laws_screens.proofs.DrawnChanges.{glyphs-end}
use Rattle.laws_screens.proofs.GlyphSeams.{glyphs_at_boundary}

-- the pieces of clusters of which none is parted
whole_clusters : (clusters : List (List ℕ)) → list_all (λ cluster. not (is_parted cluster)) clusters ≡ true → flat_map cell_pieces clusters ≡ map cluster_piece clusters
whole_clusters [] h = refl
whole_clusters (cluster ∷ more) h =
    let both = and_parts (not (is_parted cluster)) (list_all (λ cluster. not (is_parted cluster)) more) h in
    ap (λ l. l ++ flat_map cell_pieces more) (one (is_parted cluster) both.0) ∙ ap (λ l. cluster_piece cluster ∷ l) (whole_clusters more both.1)
  where
    one : (k : Bool) → not k ≡ true → (if k then flat_map character_piece (chars cluster) else cluster_piece cluster ∷ []) ≡ cluster_piece cluster ∷ []
    one true h = absurd (false≢true h)
    one false h = refl

-- and of such a text
whole_pieces : (text : List ℕ) → is_whole_text text ≡ true → settled_pieces text ≡ pieces text
unfolding settled_pieces pieces
whole_pieces text h = ap (λ l. if list_all is_plain text then map plain_piece text else l) (whole_clusters (graphemes true text) h)

-- the first piece, by the first glyph
first_needed : (cluster : List ℕ) (q : Piece) (more : List Glyph) (c : List ℕ) (v : ℕ) (behind : List Glyph) (others : List Piece)
    → glyphs_of_piece cluster q ++ more ≡ Cluster c v ∷ behind → needed (q ∷ others) ≡ max 1 v
first_needed cluster (piece.Wide u) more c v behind others e = let same : u ≡ v = cc (e) in ap (max 1) same
first_needed cluster _ more c v behind others e = absurd (cc (e))

all_needed : {X : Type 0} (cluster : X → List ℕ) (q : X → Piece) (xs : List X) (c : List ℕ) (v : ℕ) (behind : List Glyph)
    → flat_map (λ x. glyphs_of_piece (cluster x) (q x)) xs ≡ Cluster c v ∷ behind → needed (map q xs) ≡ max 1 v
all_needed cluster q [] c v behind e = absurd (cc (e))
all_needed cluster q (x ∷ xs) c v behind e = first_needed (cluster x) (q x) (flat_map (λ x. glyphs_of_piece (cluster x) (q x)) xs) c v behind (map q xs) e

text_needed : (text : List ℕ) (c : List ℕ) (v : ℕ) (behind : List Glyph) → glyphs text ≡ Cluster c v ∷ behind → needed (pieces text) ≡ max 1 v
unfolding glyphs pieces
text_needed text c v behind e = go (list_all is_plain text) e
  where
    go : (k : Bool) → (if k then flat_map (λ ch. glyphs_of_piece (ch ∷ []) (plain_piece ch)) text else flat_map (λ cluster. glyphs_of_piece cluster (cluster_piece cluster)) (graphemes true text)) ≡ Cluster c v ∷ behind
        → needed (if k then map plain_piece text else map cluster_piece (graphemes true text)) ≡ max 1 v
    go true e = all_needed (λ ch. ch ∷ []) plain_piece text c v behind e
    go false e = all_needed (λ cluster. cluster) cluster_piece (graphemes true text) c v behind e

-- the settled place is that of the cursor
at_settled : (cols : ℕ) (prompt : List ℕ) (cut : Cut) (scene : Scene) → AnswersSettled cols prompt cut scene
    → cursor_place cols scene ≡ begins_at cols (needed (settled_pieces (after_cursor cut))) (place_after_text cols (before_cursor cut) (line_start cols prompt))
unfolding needed_by_text
at_settled cols prompt cut scene h = cursor_is_settled cols prompt cut scene h.settled h.prompt_is h.column_is

-- what stands before the cursor leads there by the editor's own measure
leads_there : (cols : ℕ) (prompt : List ℕ) (cut : Cut) (scene : Scene) → AnswersSettled cols prompt cut scene
    → place_after_text cols (before_cursor cut) (line_start cols prompt) ≡ place_after_glyphs cols scene (glyphs (before_cursor cut))
leads_there cols prompt cut scene h =
    let from : Place = line_start cols prompt in
    ap (λ l. end_of_pieces cols l from) (whole_pieces (before_cursor cut) h.whole_before)
    ∙ sym (glyphs-end cols (before_cursor cut) from)
    ∙ ap (λ p. place_after_glyphs cols (record scene { prompt = p }) (glyphs (before_cursor cut))) (sym h.prompt_is)

pub settled_is_before : SettledIsBefore
settled_is_before cols prompt cut scene cluster columns behind h (after, some) =
    let width : needed (settled_pieces (after_cursor cut)) ≡ columns =
    ap needed (whole_pieces (after_cursor cut) h.whole_after) ∙ text_needed (after_cursor cut) cluster columns behind after ∙ max-eq_right (omega (arith, some)) in
    let from : Place = place_after_text cols (before_cursor cut) (line_start cols prompt) in
    record {
      line = h.line_is ∙ ap (λ l. glyphs (before_cursor cut) ++ l) after;
      some = some;
      cursor = at_settled cols prompt cut scene h ∙ ap (λ n. begins_at cols n from) width ∙ ap (begins_at cols columns) (leads_there cols prompt cut scene h);
    }

pub settled_is_behind : SettledIsBehind
unfolding glyphs settled_pieces
settled_is_behind cols prompt cut scene h none =
    let from : Place = place_after_text cols (before_cursor cut) (line_start cols prompt) in
    let line : typed_glyphs scene.line ≡ glyphs (before_cursor cut) =
    h.line_is ∙ ap (λ l. glyphs (before_cursor cut) ++ glyphs l) none ∙ append-nil (glyphs (before_cursor cut)) in
    at_settled cols prompt cut scene h ∙ ap (λ l. begins_at cols (needed (settled_pieces l)) from) none
    ∙ ap (begins_at cols 1) (leads_there cols prompt cut scene h ∙ ap (place_after_glyphs cols scene) (sym line))

pub line_is_typed : LineIsTyped
line_is_typed cut is breaks =
    let x : List ℕ = before_cursor cut in
    let y : List ℕ = after_cursor cut in
    let whole : x ++ y ≡ cut.line = take-append-drop cut.cursor cut.line in
    append-nil (glyphs cut.line) ∙ ap glyphs (sym whole)
    ∙ glyphs_at_boundary x y (IsUtf8-take cut.line cut.cursor is.utf8 is.boundary) (IsUtf8-drop cut.line cut.cursor is.utf8 is.boundary) (subst IsUtf8 (sym whole) is.utf8) breaks

-- ---- at a station of a run

module _ {V A C : Type 0} (rules : HostRules V) (pen : Pen A C) where
  pub settled_stands_on : SettledStandsOn rules pen
  settled_stands_on f rows cuts v a earlier station later measured prompt cut before cluster columns behind k follows =
      let scene : Scene = (sized_scene rules station).scene in
      let shown = (drawn_paintings rules pen f rows cuts v a earlier station later measured (sized_scene rules station) before k.comes).shown in
      let wide = (last_alike pen (sized_scene rules) earlier station measured (sized_scene rules station) k.comes.alike).measured in
      cursor_stands_before pen station.size.cols _ scene (glyphs (before_cursor cut)) cluster columns behind
      (play_stations rules pen rows cuts v a (earlier ++ station ∷ []) before) wide.0 wide.1
      (settled_is_before station.size.cols prompt cut scene cluster columns behind k.answers follows) shown.fresh

  pub settled_stands_on_blank : SettledStandsOnBlank rules pen
  settled_stands_on_blank f rows cuts v a earlier station later measured prompt cut before k none =
      let scene : Scene = (sized_scene rules station).scene in
      let shown = (drawn_paintings rules pen f rows cuts v a earlier station later measured (sized_scene rules station) before k.comes).shown in
      let wide = (last_alike pen (sized_scene rules) earlier station measured (sized_scene rules station) k.comes.alike).measured in
      cursor_stands_behind pen station.size.cols _ scene (play_stations rules pen rows cuts v a (earlier ++ station ∷ []) before) wide.0 wide.1
      (settled_is_behind station.size.cols prompt cut scene k.answers none) shown.fresh
