-- Strokes that type leave the rows above the cursor, and those below where they lead it.
use Rattle.std.proofs.Common.{◌≡◌, ℕ, ◌+◌, ◌<◌, ◌≤◌, Bool, true, false, cond, leb, length, ◌⊎◌, inl, inr, None, List, [], ◌∷◌, map, refl, ◌∙◌, arith}
use Rattle.std.specs.List.{list_all}
use Rattle.std.proofs.lemmas.Bool.{and_parts, false≢true}
use Rattle.laws_screens.specs.Glyphs.{Glyph}
use Rattle.laws_screens.specs.Glyphs.Glyph.{Cr, Lf, Cluster}
use Rattle.laws_screens.specs.Strokes.{PictureOf, Stroke, put_all, step, steps, steps_on}
use Rattle.laws_screens.specs.Strokes.Stroke.{Put, Return, Feed, Clear, ClearBehind, Move}
use Rattle.laws_screens.specs.Pens.{Pen, glyph_stroke}
use Rattle.laws_screens.proofs.SeenRows.{is_typing}
use Rattle.tw_ansi.proofs.EcmaWrites.{put_all-other}

module _ {C : Type 0} where
  -- one stroke leads no row up, and leaves what is not between
  pub record Keeps (u v : PictureOf C) : Type 0 where
    pub row : u.row ≤ v.row
    pub cell : (i j : ℕ) → (i < u.row) ⊎ (v.row < i) → v.cell i j ≡ u.cell i j

  stroke_keeps : (w : ℕ) (stroke : Stroke C) (u : PictureOf C) → is_typing stroke ≡ true → Keeps u (step w stroke u)
  stroke_keeps w (Put cells) u k = by_room (leb (u.col + length cells) w)
    where
      here : PictureOf C
      here = record { cell = put_all u.cell u.row u.col cells; row = u.row; col = u.col + length cells }

      below : PictureOf C
      below = record { cell = put_all u.cell (u.row + 1) 0 cells; row = u.row + 1; col = length cells }

      by_room : (b : Bool) → Keeps u (cond b here below)
      by_room true = record {
        row = omega arith;
        cell = λ i j out. put_all-other cells u.cell u.row u.col i j (λ e. elim out [ inl up ↦ omega (arith, e, up) | inr down ↦ omega (arith, e, down) ]);
      }
      by_room false = record {
        row = omega arith;
        cell = λ i j out. put_all-other cells u.cell (u.row + 1) 0 i j (λ e. elim out [ inl up ↦ omega (arith, e, up) | inr down ↦ omega (arith, e, down) ]);
      }
  stroke_keeps w Return u k = record { row = omega arith; cell = λ i j out. refl }
  stroke_keeps w Feed u k = record { row = omega arith; cell = λ i j out. refl }
  stroke_keeps w (Clear x) u k = absurd (false≢true k)
  stroke_keeps w (ClearBehind x) u k = absurd (false≢true k)
  stroke_keeps w (Move row col) u k = absurd (false≢true k)

  -- so do all of them
  pub typing_keeps : (w : ℕ) (strokes : List (Stroke C)) (u : PictureOf C) → list_all is_typing strokes ≡ true → Keeps u (steps w strokes u)
  typing_keeps w [] u k = record { row = omega arith; cell = λ i j out. refl }
  typing_keeps w (stroke ∷ more) u k =
      let both = and_parts (is_typing stroke) (list_all is_typing more) k in
      let one = stroke_keeps w stroke u both.0 in
      let rest = typing_keeps w more (step w stroke u) both.1 in
      record {
        row = omega (arith, one.row, rest.row);
        cell = λ i j out. elim out [
          | inl up ↦ rest.cell i j (inl (omega (arith, up, one.row))) ∙ one.cell i j (inl up)
          | inr down ↦ rest.cell i j (inr down) ∙ one.cell i j (inr (omega (arith, down, rest.row)))
        ];
      }

  -- without a bottom nothing scrolls
  pub steps_on-none : (w : ℕ) (strokes : List (Stroke C)) (s : PictureOf C) → steps_on None w strokes s ≡ steps w strokes s
  steps_on-none w [] s = refl
  steps_on-none w (stroke ∷ more) s = steps_on-none w more (step w stroke s)

-- glyphs type
pub glyphs_type : {A C : Type 0} (pen : Pen A C) (a : A) (glyphs : List Glyph) → list_all is_typing (map (glyph_stroke pen a) glyphs) ≡ true
glyphs_type pen a [] = refl
glyphs_type pen a (Cr ∷ more) = glyphs_type pen a more
glyphs_type pen a (Lf ∷ more) = glyphs_type pen a more
glyphs_type pen a (Cluster cluster columns ∷ more) = glyphs_type pen a more
