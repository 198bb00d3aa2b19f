-- Paintings whose bytes do what they do.
use Rattle.std.specs.Prelude.{◌≡◌, ◌<◌, ◌+◌, ◌^◌, ◌-ℤ◌, neg_ℤ, ℕ, pos, true, false, Some, List, [], ◌∷◌, ⊤}
use Rattle.std.specs.List.{AllByRecursion}
use Rattle.laws_screens.specs.Strokes.{PictureOf, steps_on}
use Rattle.tw_surface.specs.declared.change.Position.TheVariants.{Relative}
use Rattle.tw_surface.specs.ChangeView.{ChangeView, Batch}
use Rattle.tw_surface.specs.ChangeView.{Attribute, AllAttributes, Text, ClearScreen, ClearToEndOfScreen, CursorPosition}
use Rattle.tw_surface.specs.Characters.{cr, lf}
use Rattle.tw_surface.specs.Paintings.{painting, shown_part, cursor_place, Mark, start_move, closing}
use Rattle.tw_surface.specs.Places.{place_after_all, origin}
use Rattle.tw_surface.specs.Scenes.{Scene, Lower}
use Rattle.tw_surface.specs.PaintingBatches.{run_batches}
use Rattle.tw_surface.specs.Scenes.Lower.{NoLower, Preview, Search}
use Rattle.laws_screens.specs.Pens.{Pen, strokes_of}
use Rattle.laws_screens.specs.Screens.{play_sized}
use Rattle.laws_screens.specs.SizedBatches.{sized_at}
use Rattle.tw_ansi.specs.declared.encode.Encoder.{Encoder}
use Rattle.tw_ansi.specs.Encoding.{Sent, sends, sent_then, sent_batch}
use Rattle.tw_ansi.specs.EcmaLaws.{IsColor, IsAttribute}
use Rattle.tw_ansi.specs.EcmaBatches.{CarriesAttributes, IsReached, AreSendable}
use Rattle.tw_ansi.specs.EcmaScreen.{EcmaScreen, receive_all}
use Rattle.tw_ansi.specs.EcmaTexts.{ShowsPicture, is_sent, JoinsMarks}

-- a text that is shown as it is measured, or attributes whose colours are by bytes
abbrev pub IsTypedChange : ℕ → ChangeView → Type 0
IsTypedChange w (Text text) = is_sent w text ≡ true
IsTypedChange w (Attribute change) = IsAttribute change
IsTypedChange w (AllAttributes to) = IsColor to.foreground × IsColor to.background
IsTypedChange w (ClearScreen color) = ⊥
IsTypedChange w (ClearToEndOfScreen color) = ⊥
IsTypedChange w (CursorPosition x y) = ⊥

-- a lower text of such changes
abbrev pub IsTypedLower : ℕ → Lower → Type 0
IsTypedLower w NoLower = ⊤
IsTypedLower w (Preview elements) = AllByRecursion (IsTypedChange w) elements
IsTypedLower w (Search text) = is_sent w (cr ∷ lf ∷ text) ≡ true

-- a scene of such changes
pub record IsTypedScene (w : ℕ) (scene : Scene) : Type 0 where
  pub prompt : AllByRecursion (IsTypedChange w) scene.prompt
  pub line : AllByRecursion (IsTypedChange w) scene.line
  pub lower : IsTypedLower w scene.lower

-- the last move of a painting leads no further than a move can
abbrev pub IsNear : ℕ → ℕ → Scene → Type 0
IsNear h w scene = IsReached h (Relative ((cursor_place w scene).y -ℤ (place_after_all w (shown_part w scene) origin).y))

-- such a painting is sendable where the cursor does not stand after the last column and the known colour is by bytes
abbrev pub PaintingIsSendable : {A C : Type 0} → Pen A C → Type 0
PaintingIsSendable {A} {C} pen = (h w : ℕ) (scene : Scene) (e : Encoder) (s : PictureOf C)
    → IsTypedScene w scene → IsNear h w scene → IsColor e.attributes.background → s.col < w
    → AreSendable pen h w e (painting w scene).changes s

-- and after the move to the first row of the painting before, wherever the cursor stands
abbrev pub RepaintingIsSendable : {A C : Type 0} → Pen A C → Type 0
RepaintingIsSendable {A} {C} pen = (h w : ℕ) (before : Mark) (scene : Scene) (e : Encoder) (s : PictureOf C)
    → 0 < w → IsTypedScene w scene → IsNear h w scene → IsReached h (Relative (neg_ℤ before.row)) → IsColor e.attributes.background
    → AreSendable pen h w e (start_move before ∷ (painting w scene).changes) s

-- so is the closing batch
abbrev pub ClosingIsSendable : {A C : Type 0} → Pen A C → Type 0
ClosingIsSendable {A} {C} pen = (h w : ℕ) (m : Mark) (e : Encoder) (s : PictureOf C)
    → 0 < w → IsReached h (Relative (pos (1 + m.height) -ℤ m.row)) → IsColor e.attributes.background
    → AreSendable pen h w e (closing m) s

-- the colour that is known after such a painting is by bytes
abbrev pub PaintingKnowsColor : Type 0
PaintingKnowsColor = (w : ℕ) (scene : Scene) (e : Encoder) → IsTypedScene w scene
    → IsColor (sent_batch (painting w scene).changes e).next.attributes.background

-- batches
abbrev pub sent_batches : List Batch → Encoder → Sent
sent_batches [] e = sends [] e
sent_batches (batch ∷ more) e = sent_then (sent_batch batch e) (sent_batches more)

-- each batch is sendable where it comes, after those before it
abbrev pub AreAllSendable : {A C : Type 0} → Pen A C → ℕ → ℕ → Encoder → List Batch → PictureOf C → Type 0
AreAllSendable pen h w e [] s = ⊤
AreAllSendable pen h w e (batch ∷ more) s =
    AreSendable pen h w e batch s
    × AreAllSendable pen h w (sent_batch batch e).next more (steps_on (Some h) w (strokes_of pen (pen.attributes e.attributes) batch) s)

-- a scene whose painting is sendable, and the moves from it back to its first row and to the row under it too
pub record IsShowable (h w : ℕ) (scene : Scene) : Type 0 where
  pub typed : IsTypedScene w scene
  pub near : IsNear h w scene
  pub back : IsReached h (Relative (neg_ℤ (painting w scene).row))
  pub under : IsReached h (Relative (pos (1 + (painting w scene).height) -ℤ (painting w scene).row))

-- all batches of a run that paints such scenes are sendable, where the cursor does not stand after the last column at
-- first
abbrev pub RunIsSendable : {A C : Type 0} → Pen A C → Type 0
RunIsSendable {A} {C} pen = (h w : ℕ) (scenes : List Scene) (e : Encoder) (s : PictureOf C)
    → 0 < w → AllByRecursion (IsShowable h w) scenes → IsColor e.attributes.background → s.col < w
    → AreAllSendable pen h w e (run_batches w scenes) s

-- a terminal that shows a picture, and is sent the bytes of sendable batches, shows the picture on which they were
-- drawn
abbrev pub BatchesAreShown : {A C : Type 0} → Pen A C → Type 0
BatchesAreShown {A} {C} pen = (h w : ℕ) (batches : List Batch) (e : Encoder) (t : EcmaScreen C) (s : PictureOf C)
    → CarriesAttributes pen → JoinsMarks pen → 0 < w → w < 2 ^ 64 → AreAllSendable pen h w e batches s → ShowsPicture pen h w e t s
    → ShowsPicture pen h w (sent_batches batches e).next (receive_all pen h w (sent_batches batches e).bytes t)
    (play_sized (Some h) false pen w (pen.attributes e.attributes) (sized_at w batches) s)
