-- What a terminal shows that is sent the bytes of a batch.
use Rattle.std.specs.Prelude.{◌≡◌, ◌≤◌, ◌<◌, ◌+◌, ◌^◌, ℕ, ltb, pos, negsuc, true, false, if◌then◌else◌, Some, [], ◌∷◌, ⊤}
use Rattle.laws_screens.specs.Strokes.{PictureOf, steps_on}
use Rattle.tw_surface.specs.declared.cell.AttributeChange.{AttributeChange}
use Rattle.tw_surface.specs.declared.cell.CellAttributes.{CellAttributes}
use Rattle.tw_surface.specs.declared.change.Position.{Position}
use Rattle.tw_surface.specs.declared.change.Position.TheVariants.{Absolute, Relative}
use Rattle.tw_surface.specs.ChangeView.{ChangeView, Batch}
use Rattle.tw_surface.specs.ChangeView.{Attribute, AllAttributes, Text, ClearScreen, ClearToEndOfScreen, CursorPosition}
use Rattle.tw_surface.specs.Attributes.{with_attribute}
use Rattle.tw_surface.specs.Defaults.{default_attributes}
use Rattle.laws_screens.specs.Pens.{Pen, change_strokes, strokes_of, kept_after}
use Rattle.laws_screens.specs.Screens.{blank_of}
use Rattle.tw_ansi.specs.declared.encode.Encoder.{Encoder}
use Rattle.tw_ansi.specs.Sequences.{most_rows}
use Rattle.tw_ansi.specs.Encoding.{first_known, sent_change, sent_batch, terse_batch}
use Rattle.tw_ansi.specs.EcmaScreen.{EcmaScreen, receive_all}
use Rattle.tw_ansi.specs.EcmaScreen as terminal
use Rattle.tw_ansi.specs.EcmaLaws.{IsColor, IsAttribute}
use Rattle.tw_ansi.specs.EcmaTexts.{ShowsPicture, is_sent, JoinsMarks}

-- what a pen keeps of attributes follows their changes
abbrev pub CarriesAttributes : {A C : Type 0} → Pen A C → Type 0
CarriesAttributes pen = (change : AttributeChange) (a : CellAttributes) → pen.attribute change (pen.attributes a) ≡ pen.attributes (with_attribute change a)

-- a row to which the bytes of a move lead: one of the h rows of the screen by its number, or one so many rows below or
-- above, each at most 65,535
abbrev pub IsReached : ℕ → Position → Type 0
IsReached h (Absolute row) = (row < h) × (row ≤ most_rows)
IsReached h (Relative (pos n)) = n ≤ most_rows
IsReached h (Relative (negsuc n)) = n < most_rows

-- a change whose bytes do at a terminal of h rows and w columns what the change draws: any but a text that is
-- not shown as it is measured, a move to a row that is not reached, and a clearing from after the last column of the last
-- row on; the colours, and the one that is known to be set after the text where it clears, are by bytes, and a clearing
-- leaves blanks
abbrev pub IsSendable : {A C : Type 0} → Pen A C → ℕ → ℕ → Encoder → ChangeView → PictureOf C → Type 0
IsSendable pen h w e (Text text) s = is_sent w text ≡ true
IsSendable pen h w e (Attribute change) s = IsAttribute change
IsSendable pen h w e (AllAttributes to) s = IsColor to.foreground × IsColor to.background
IsSendable pen h w e (ClearScreen color) s = IsColor color × IsColor e.attributes.background × (pen.paper color ≡ blank_of pen)
IsSendable pen h w e (ClearToEndOfScreen color) s =
    IsColor color × IsColor e.attributes.background × (pen.paper color ≡ blank_of pen) × (s.col ≡ w → s.row + 1 < h)
IsSendable pen h w e (CursorPosition x y) s = IsReached h y

-- the cells of h rows, with the cursor in column 0 of a row
abbrev pub first_picture : {A C : Type 0} → Pen A C → ℕ → EcmaScreen C → PictureOf C
first_picture pen h t = record { cell = λ r c. if ltb r h then t.cell r c else blank_of pen; row = t.row; col = 0 }

-- a terminal with default attributes whose cursor stands in column 0 shows its own cells, whatever they are, to a new
-- encoder
abbrev pub FirstIsShown : {A C : Type 0} → Pen A C → Type 0
FirstIsShown {A} {C} pen = (h w : ℕ) (t : EcmaScreen C)
    → 0 < w → t.row < h → t.col ≡ 0 → t.waits ≡ false → t.reading ≡ terminal.Text → t.rendition ≡ default_attributes
    → ShowsPicture pen h w (first_known w) t (first_picture pen h t)

-- a terminal that shows a picture, and is sent the bytes of a change, shows the picture on which the change was drawn
abbrev pub ChangeIsShown : {A C : Type 0} → Pen A C → Type 0
ChangeIsShown {A} {C} pen = (h w : ℕ) (change : ChangeView) (e : Encoder) (t : EcmaScreen C) (s : PictureOf C)
    → JoinsMarks pen → 0 < w → w < 2 ^ 64 → IsSendable pen h w e change s → ShowsPicture pen h w e t s
    → ShowsPicture pen h w (sent_change change e).next (receive_all pen h w (sent_change change e).bytes t)
    (steps_on (Some h) w (change_strokes pen (pen.attributes e.attributes) change) s)

-- each change of a batch is such a one where it comes, after those before it
abbrev pub AreSendable : {A C : Type 0} → Pen A C → ℕ → ℕ → Encoder → Batch → PictureOf C → Type 0
AreSendable pen h w e [] s = ⊤
AreSendable pen h w e (change ∷ changes) s =
    IsSendable pen h w e change s
    × AreSendable pen h w (sent_change change e).next changes (steps_on (Some h) w (change_strokes pen (pen.attributes e.attributes) change) s)

-- a terminal that shows a picture, and is sent the bytes of a batch, shows the picture on which the batch was drawn
abbrev pub BatchIsShown : {A C : Type 0} → Pen A C → Type 0
BatchIsShown {A} {C} pen = (h w : ℕ) (batch : Batch) (e : Encoder) (t : EcmaScreen C) (s : PictureOf C)
    → CarriesAttributes pen → JoinsMarks pen → 0 < w → w < 2 ^ 64 → AreSendable pen h w e batch s → ShowsPicture pen h w e t s
    → ShowsPicture pen h w (sent_batch batch e).next (receive_all pen h w (sent_batch batch e).bytes t)
    (steps_on (Some h) w (strokes_of pen (pen.attributes e.attributes) batch) s)

-- any change but a move that leads down out of h rows
abbrev pub StaysInRows : {C : Type 0} → ℕ → ChangeView → PictureOf C → Type 0
StaysInRows h (CursorPosition x (Relative (pos n))) s = s.row + n < h
StaysInRows h change s = ⊤

-- each move down of a batch leads to such a row where it comes
abbrev pub AllStayInRows : {A C : Type 0} → Pen A C → ℕ → ℕ → A → Batch → PictureOf C → Type 0
AllStayInRows pen h w a [] s = ⊤
AllStayInRows pen h w a (change ∷ changes) s =
    StaysInRows h change s × AllStayInRows pen h w (kept_after pen a change) changes (steps_on (Some h) w (change_strokes pen a change) s)

-- so does one that is sent the bytes of a batch whose moves take few bytes, where none of them goes down out of sight
abbrev pub TerseBatchIsShown : {A C : Type 0} → Pen A C → Type 0
TerseBatchIsShown {A} {C} pen = (h w : ℕ) (batch : Batch) (e : Encoder) (t : EcmaScreen C) (s : PictureOf C)
    → CarriesAttributes pen → JoinsMarks pen → 0 < w → w < 2 ^ 64 → AreSendable pen h w e batch s → AllStayInRows pen h w (pen.attributes e.attributes) batch s
    → ShowsPicture pen h w e t s
    → ShowsPicture pen h w (terse_batch batch e).next (receive_all pen h w (terse_batch batch e).bytes t)
    (steps_on (Some h) w (strokes_of pen (pen.attributes e.attributes) batch) s)
