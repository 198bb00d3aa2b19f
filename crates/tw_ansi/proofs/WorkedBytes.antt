-- Texts that a terminal shows as they are measured, by computation.
use Rattle.std.proofs.Common.{◌≡◌, ℕ, true, false, Some, List, [], ◌∷◌, map, refl}
use Rattle.std.specs.Fmt.{digits}
use Rattle.unicode_segmentation.proofs.Computing.{unicode_segmentation}
use Rattle.unicode_width.proofs.Computing.{unicode_width}
use Rattle.tw_surface.specs.Defaults.{default_attributes}
use Rattle.laws_screens.specs.StyledCells.{clusters}
use Rattle.laws_screens.specs.Strokes.{steps_on}
use Rattle.laws_screens.specs.Glyphs.{glyphs}
use Rattle.laws_screens.specs.Pens.{glyph_stroke}
use Rattle.tw_ansi.specs.Encoding.{first_known, sent_text}
use Rattle.tw_ansi.specs.EcmaScreen.{EcmaScreen, receive_all}
use Rattle.tw_ansi.specs.EcmaScreen as terminal
use Rattle.tw_ansi.specs.EcmaTexts.{is_sent}

-- Han, kana, Hangul, Cyrillic, Greek, accents of one character, an emoji, and ASCII among them
abbrev mixed : List ℕ
mixed = 97 ∷ 98 ∷ 230 ∷ 188 ∷ 162 ∷ 227 ∷ 129 ∷ 130 ∷ 237 ∷ 149 ∷ 156 ∷ 208 ∷ 182 ∷ 195 ∷ 169 ∷ 206 ∷ 177 ∷ 240 ∷ 159 ∷ 154 ∷ 128 ∷ 32 ∷ 122 ∷ []

mixed_is_sent : is_sent 5 mixed ≡ true
unfolding is_sent unicode_segmentation unicode_width
mixed_is_sent = refl

-- a wide character is not on a screen of one column
too_narrow : is_sent 1 (230 ∷ 188 ∷ 162 ∷ []) ≡ false
unfolding is_sent unicode_segmentation unicode_width
too_narrow = refl

-- an accent of its own and letters of Hangul that join are, and joined emoji are not
mark_is : is_sent 5 (101 ∷ 204 ∷ 129 ∷ []) ≡ true
unfolding is_sent unicode_segmentation unicode_width
mark_is = refl

joined_is_not : is_sent 5 (240 ∷ 159 ∷ 145 ∷ 169 ∷ 226 ∷ 128 ∷ 141 ∷ 240 ∷ 159 ∷ 154 ∷ 128 ∷ []) ≡ false
unfolding is_sent unicode_segmentation unicode_width
joined_is_not = refl

hangul_is : is_sent 5 (225 ∷ 132 ∷ 146 ∷ 225 ∷ 133 ∷ 161 ∷ 225 ∷ 134 ∷ 171 ∷ []) ≡ true
unfolding is_sent unicode_segmentation unicode_width
hangul_is = refl

-- nor a control character, which is sent as '?'
control_is_not : is_sent 5 (230 ∷ 188 ∷ 162 ∷ 7 ∷ []) ≡ false
unfolding is_sent unicode_segmentation unicode_width
control_is_not = refl

-- what a terminal of five columns makes of the bytes of a wide text
abbrev empty : EcmaScreen (List ℕ)
empty = record { cell = λ r c. 46 ∷ []; row = 0; col = 0; waits = false; last = 0; rendition = default_attributes; reading = terminal.Text }

abbrev text : List ℕ
text = 62 ∷ 32 ∷ 230 ∷ 188 ∷ 162 ∷ 229 ∷ 173 ∷ 151 ∷ 228 ∷ 187 ∷ 174 ∷ []

shows_text : let t = receive_all clusters 2 5 (sent_text text (first_known 5)).bytes empty in
    (map (λ r. map (λ c. t.cell r c) (0 ∷ 1 ∷ 2 ∷ 3 ∷ 4 ∷ [])) (0 ∷ 1 ∷ [])
    ≡ ((62 ∷ []) ∷ (32 ∷ []) ∷ (230 ∷ 188 ∷ 162 ∷ []) ∷ [] ∷ (46 ∷ []) ∷ []) ∷ ((229 ∷ 173 ∷ 151 ∷ []) ∷ [] ∷ (228 ∷ 187 ∷ 174 ∷ []) ∷ [] ∷ (46 ∷ []) ∷ []) ∷ [])
    × (t.row ≡ 1) × (t.col ≡ 4) × (t.waits ≡ false)
unfolding unicode_segmentation unicode_width
shows_text = (refl, refl, refl, refl)

-- and of marks, one of them after the last column
abbrev marked : List ℕ
marked = 97 ∷ 98 ∷ 99 ∷ 101 ∷ 204 ∷ 129 ∷ 204 ∷ 163 ∷ 230 ∷ 188 ∷ 162 ∷ 204 ∷ 129 ∷ []

shows_marks : let t = receive_all clusters 2 4 (sent_text marked (first_known 4)).bytes empty in
    (map (λ r. map (λ c. t.cell r c) (0 ∷ 1 ∷ 2 ∷ 3 ∷ [])) (0 ∷ 1 ∷ [])
    ≡ ((97 ∷ []) ∷ (98 ∷ []) ∷ (99 ∷ []) ∷ (101 ∷ 204 ∷ 129 ∷ 204 ∷ 163 ∷ []) ∷ []) ∷ ((230 ∷ 188 ∷ 162 ∷ 204 ∷ 129 ∷ []) ∷ [] ∷ (46 ∷ []) ∷ (46 ∷ []) ∷ []) ∷ [])
    × (t.row ≡ 1) × (t.col ≡ 2) × (t.waits ≡ false)
unfolding unicode_segmentation unicode_width
shows_marks = (refl, refl, refl, refl)

-- LF after the last column, and a mark after it: the next character is sent with CR LF before it, and goes below
abbrev after_feed : List ℕ
after_feed = 97 ∷ 98 ∷ 99 ∷ 10 ∷ 204 ∷ 129 ∷ 100 ∷ []

after_a_mark : (sent_text after_feed (first_known 3)).bytes ≡ 97 ∷ 98 ∷ 99 ∷ 10 ∷ 13 ∷ 27 ∷ 91 ∷ 50 ∷ 67 ∷ 204 ∷ 129 ∷ 13 ∷ 10 ∷ 100 ∷ []
unfolding unicode_segmentation unicode_width digits
after_a_mark = refl

goes_below : let t = receive_all clusters 3 3 (sent_text after_feed (first_known 3)).bytes empty in (t.cell 2 0 ≡ 100 ∷ []) × (t.row ≡ 2) × (t.col ≡ 1)
unfolding unicode_segmentation unicode_width digits
goes_below = (refl, refl, refl)

drawn_below : let s = steps_on (Some 3) 3 (map (glyph_stroke clusters tt) (glyphs after_feed)) (record { cell = λ r c. 46 ∷ []; row = 0; col = 0 }) in (s.cell 2 0 ≡ 100 ∷ []) × (s.row ≡ 2) × (s.col ≡ 1)
unfolding glyphs unicode_segmentation unicode_width
drawn_below = (refl, refl, refl)
