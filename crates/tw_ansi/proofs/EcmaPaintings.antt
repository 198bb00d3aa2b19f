-- Paintings are sendable.
use Rattle.std.proofs.Common.{◌≡◌, ◌<◌, ℕ, Bool, true, false, ◌||◌, cond, eqb, List, [], ◌∷◌, ◌++◌, Some, None, ap, subst, ◌∙◌, sym, refl, arith}
use Rattle.std.specs.List.{list_all, AllByRecursion}
use Rattle.unicode_segmentation.specs.Grapheme.{graphemes}
use Rattle.tw_surface.specs.Characters.{is_plain}
use Rattle.tw_surface.specs.Attributes.{with_attribute}
use Rattle.tw_surface.specs.declared.cell.AttributeChange.{AttributeChange}
use Rattle.tw_surface.specs.declared.cell.AttributeChange.TheVariants as attribute
use Rattle.tw_surface.specs.declared.cell.CellAttributes.{CellAttributes}
use Rattle.tw_surface.specs.ChangeView.{ChangeView, Batch}
use Rattle.tw_surface.specs.ChangeView.{Attribute, AllAttributes, Text, ClearScreen, ClearToEndOfScreen, CursorPosition}
use Rattle.tw_surface.specs.Defaults.{default_attributes, default_color}
use Rattle.tw_surface.specs.Paintings.{painting, before_line, edge_space, lower_changes, shown_part, cursor_place, mark_of, start_move}
use Rattle.tw_surface.specs.Pictures.{blank}
use Rattle.tw_surface.specs.Places.{place_after_all, origin, move_between}
use Rattle.tw_surface.specs.Scenes.{Scene, Lower}
use Rattle.tw_surface.specs.Scenes.Lower.{NoLower, Preview, Search}
use Rattle.laws_screens.specs.Strokes.{PictureOf, steps_on}
use Rattle.laws_screens.specs.Pens.{Pen, change_strokes, strokes_of, kept_after_all}
use Rattle.laws_screens.specs.Screens.{play_sized}
use Rattle.laws_screens.specs.SizedBatches.{sized_at}
use Rattle.tw_surface.specs.PaintingBatches.{clear_batch, clearing, batches_after, shots, closing_of}
use Rattle.tw_ansi.specs.declared.encode.Encoder.{Encoder}
use Rattle.tw_ansi.specs.Encoding.{sent_change, sent_batch}
use Rattle.tw_ansi.specs.EcmaLaws.{IsColor, IsAttribute}
use Rattle.tw_ansi.specs.EcmaBatches.{CarriesAttributes, AreSendable}
use Rattle.tw_ansi.specs.EcmaPaintings.{IsTypedChange, IsTypedLower, IsTypedScene, IsShowable, AreAllSendable, sent_batches, PaintingIsSendable, RepaintingIsSendable, ClosingIsSendable, PaintingKnowsColor, RunIsSendable, BatchesAreShown}
use Rattle.tw_ansi.specs.EcmaScreen.{EcmaScreen, receive_all}
use Rattle.tw_ansi.specs.EcmaTexts.{ShowsPicture, is_sent, is_sent_cluster}
use Rattle.tw_ansi.proofs.EcmaSequences.{received}
use Rattle.tw_ansi.proofs.KnownTerminals.{keeps_text}
use Rattle.tw_ansi.proofs.EcmaBatches.{batch_is_shown, keeps_change}

-- a plain text is sent as it is measured
pub plain_sent : (w : ℕ) (text : List ℕ) → list_all is_plain text ≡ true → is_sent w text ≡ true
unfolding is_sent
plain_sent w text h = ap (λ k. k || list_all (is_sent_cluster w) (graphemes true text)) h

-- two lists of such changes
both_typed : (w : ℕ) (xs ys : Batch) → AllByRecursion (IsTypedChange w) xs → AllByRecursion (IsTypedChange w) ys → AllByRecursion (IsTypedChange w) (xs ++ ys)
both_typed w [] ys a b = b
both_typed w (x ∷ xs) ys a b = (a.0, both_typed w xs ys a.1 b)

space_typed : (w : ℕ) (t : Bool) → AllByRecursion (IsTypedChange w) (cond t (Text (blank ∷ []) ∷ []) [])
space_typed w true = (plain_sent w (blank ∷ []) refl, tt)
space_typed w false = tt

lower_typed : (w : ℕ) (lower : Lower) → IsTypedLower w lower → AllByRecursion (IsTypedChange w) (lower_changes lower)
lower_typed w NoLower h = tt
lower_typed w (Preview elements) h = (plain_sent w (13 ∷ 10 ∷ []) refl, ((tt, tt), h))
lower_typed w (Search text) h = ((tt, tt), (h, tt))

-- what a painting shows after its clearing and the first attributes
abbrev pub shown : ℕ → Scene → Batch
shown w scene =
    ((scene.prompt ++ AllAttributes default_attributes ∷ []) ++ scene.line)
    ++ (edge_space w (place_after_all w (before_line scene.prompt ++ scene.line) origin) ++ lower_changes scene.lower)

pub shown_typed : (w : ℕ) (scene : Scene) → IsTypedScene w scene → AllByRecursion (IsTypedChange w) (shown w scene)
shown_typed w scene t =
    let place = place_after_all w (before_line scene.prompt ++ scene.line) origin in
    let plain : AllByRecursion (IsTypedChange w) (AllAttributes default_attributes ∷ []) = ((tt, tt), tt) in
    let prompt : AllByRecursion (IsTypedChange w) (scene.prompt ++ AllAttributes default_attributes ∷ []) = both_typed w scene.prompt (AllAttributes default_attributes ∷ []) t.prompt plain in
    both_typed w ((scene.prompt ++ AllAttributes default_attributes ∷ []) ++ scene.line) (edge_space w place ++ lower_changes scene.lower)
    (both_typed w (scene.prompt ++ AllAttributes default_attributes ∷ []) scene.line prompt t.line)
    (both_typed w (edge_space w place) (lower_changes scene.lower) (space_typed w (eqb place.x w)) (lower_typed w scene.lower t.lower))

-- setting an attribute whose colour is by bytes leaves one
set_color : (a : AttributeChange) (c : CellAttributes) → IsAttribute a → IsColor c.background → IsColor (with_attribute a c).background
set_color (attribute.Intensity to) c a h = h
set_color (attribute.Underline to) c a h = h
set_color (attribute.Italic to) c a h = h
set_color (attribute.Blink to) c a h = h
set_color (attribute.Reverse to) c a h = h
set_color (attribute.StrikeThrough to) c a h = h
set_color (attribute.Invisible to) c a h = h
set_color (attribute.Foreground to) c a h = h
set_color (attribute.Background to) c a h = a

one_color : (w : ℕ) (x : ChangeView) (e : Encoder) → IsTypedChange w x → IsColor e.attributes.background → IsColor (sent_change x e).next.attributes.background
one_color w (Text text) e a h = subst (λ (c : CellAttributes). IsColor c.background) (sym (keeps_text text e)) h
one_color w (Attribute change) e a h = set_color change e.attributes a h
one_color w (AllAttributes to) e a h = a.1
one_color w (ClearScreen color) e a h = absurd a
one_color w (ClearToEndOfScreen color) e a h = absurd a
one_color w (CursorPosition x y) e a h = absurd a

typed_color : (w : ℕ) (xs : Batch) (x y : _) (e : Encoder) → AllByRecursion (IsTypedChange w) xs → IsColor e.attributes.background
    → IsColor (sent_batch (xs ++ CursorPosition x y ∷ []) e).next.attributes.background
typed_color w [] x y e a h = h
typed_color w (z ∷ xs) x y e a h = typed_color w xs x y (sent_change z e).next a.1 (one_color w z e a.0 h)

pub painting_knows_color : PaintingKnowsColor
painting_knows_color w scene e t =
    typed_color w (shown w scene) _ _ (sent_change (AllAttributes default_attributes) (sent_change (ClearToEndOfScreen default_color) e).next).next (shown_typed w scene t) tt

module _ {A C : Type 0} (pen : Pen A C) where
  one_sendable : (h w : ℕ) (x : ChangeView) (ys : Batch) (e : Encoder) (s : PictureOf C) → IsTypedChange w x
      → AreSendable pen h w (sent_change x e).next ys (steps_on (Some h) w (change_strokes pen (pen.attributes e.attributes) x) s) → AreSendable pen h w e (x ∷ ys) s
  one_sendable h w (Text text) ys e s a b = (a, b)
  one_sendable h w (Attribute change) ys e s a b = (a, b)
  one_sendable h w (AllAttributes to) ys e s a b = (a, b)
  one_sendable h w (ClearScreen color) ys e s a b = absurd a
  one_sendable h w (ClearToEndOfScreen color) ys e s a b = absurd a
  one_sendable h w (CursorPosition x y) ys e s a b = absurd a

  -- such changes are sendable wherever they come
  typed_sendable : (h w : ℕ) (xs ys : Batch) (e : Encoder) (s : PictureOf C) → AllByRecursion (IsTypedChange w) xs
      → ((d : Encoder) (r : PictureOf C) → AreSendable pen h w d ys r) → AreSendable pen h w e (xs ++ ys) s
  typed_sendable h w [] ys e s a b = b e s
  typed_sendable h w (x ∷ xs) ys e s a b = one_sendable h w x (xs ++ ys) e s a.0 (typed_sendable h w xs ys _ _ a.1 b)

  pub painting_is_sendable : PaintingIsSendable pen
  painting_is_sendable h w scene e s t near color inside = (
    (tt, color, refl, λ edge. absurd (omega (arith, edge, inside))),
    ((tt, tt), typed_sendable h w (shown w scene) (move_between (place_after_all w (shown_part w scene) origin) (cursor_place w scene) ∷ []) _ _ (shown_typed w scene t) (λ d r. (near, tt))),
  )

  pub repainting_is_sendable : RepaintingIsSendable pen
  repainting_is_sendable h w before scene e s some t near reached color =
      (reached, painting_is_sendable h w scene (sent_change (start_move before) e).next (steps_on (Some h) w (change_strokes pen (pen.attributes e.attributes) (start_move before)) s) t near color (omega (arith, some)))

  pub closing_is_sendable : ClosingIsSendable pen
  closing_is_sendable h w m e s some reached color = (reached, ((tt, color, refl, λ edge. absurd (omega (arith, edge, some))), tt))

  -- batches of which the first is sendable, and the others once the known colour is by bytes
  behind : (h w : ℕ) (batch : Batch) (more : List Batch) (e : Encoder) (s : PictureOf C) → AreSendable pen h w e batch s → IsColor (sent_batch batch e).next.attributes.background
      → ((d : Encoder) (r : PictureOf C) → IsColor d.attributes.background → AreAllSendable pen h w d more r) → AreAllSendable pen h w e (batch ∷ more) s
  behind h w batch more e s a color b = (a, b (sent_batch batch e).next (steps_on (Some h) w (strokes_of pen (pen.attributes e.attributes) batch) s) color)

  module _ (h w : ℕ) (some : 0 < w) where
    -- one more painting, and then the others
    one_later : (before scene : Scene) (rest : List Batch) → IsShowable h w before → IsShowable h w scene
        → ((d : Encoder) (r : PictureOf C) → IsColor d.attributes.background → AreAllSendable pen h w d rest r)
        → (d : Encoder) (r : PictureOf C) → IsColor d.attributes.background
        → AreAllSendable pen h w d ((start_move (mark_of (painting w before)) ∷ (painting w scene).changes) ∷ rest) r
    one_later before scene rest p q on d r color =
        behind h w (start_move (mark_of (painting w before)) ∷ (painting w scene).changes) rest d r (repainting_is_sendable h w (mark_of (painting w before)) scene d r some q.typed q.near p.back color)
        (painting_knows_color w scene (sent_change (start_move (mark_of (painting w before))) d).next q.typed) on

    -- the first painting, and then the others
    one_first : (scene : Scene) (rest : List Batch) → IsShowable h w scene
        → ((d : Encoder) (r : PictureOf C) → IsColor d.attributes.background → AreAllSendable pen h w d rest r)
        → (d : Encoder) (r : PictureOf C) → IsColor d.attributes.background → r.col < w
        → AreAllSendable pen h w d ((painting w scene).changes ∷ rest) r
    one_first scene rest p on d r color inside =
        behind h w (painting w scene).changes rest d r (painting_is_sendable h w scene d r p.typed p.near color inside) (painting_knows_color w scene d p.typed) on

    module _ (more : List Batch) (end : (d : Encoder) (r : PictureOf C) → IsColor d.attributes.background → AreAllSendable pen h w d more r) where
      -- paintings after another one
      pub later_sendable : (before : Scene) (scenes : List Scene) → IsShowable h w before → AllByRecursion (IsShowable h w) scenes
          → (d : Encoder) (r : PictureOf C) → IsColor d.attributes.background
          → AreAllSendable pen h w d (batches_after (Some (mark_of (painting w before))) (shots w scenes) ++ more) r
      later_sendable before [] p a d r color = end d r color
      later_sendable before (scene ∷ scenes) p a d r color =
          let rest = batches_after (Some (mark_of (painting w scene))) (shots w scenes) in
          let on = one_later before scene (rest ++ more) p a.0 (λ b u colored. later_sendable scene scenes a.0 a.1 b u colored) in
          elim scene.cleared as (λ t. AreAllSendable pen h w d ((clearing t ++ (start_move (mark_of (painting w before)) ∷ (painting w scene).changes) ∷ rest) ++ more) r) [
            | true ↦ (((tt, color, refl), tt), on (sent_batch clear_batch d).next (steps_on (Some h) w (strokes_of pen (pen.attributes d.attributes) clear_batch) r) color)
            | false ↦ on d r color
          ]

      -- paintings from the first one on
      first_sendable : (scene : Scene) (scenes : List Scene) → IsShowable h w scene → AllByRecursion (IsShowable h w) scenes
          → (d : Encoder) (r : PictureOf C) → IsColor d.attributes.background → r.col < w
          → AreAllSendable pen h w d (batches_after None (shots w (scene ∷ scenes)) ++ more) r
      first_sendable scene scenes p a d r color inside =
          let rest = batches_after (Some (mark_of (painting w scene))) (shots w scenes) in
          let on = one_first scene (rest ++ more) p (λ b u colored. later_sendable scene scenes p a b u colored) in
          elim scene.cleared as (λ t. AreAllSendable pen h w d ((clearing t ++ (painting w scene).changes ∷ rest) ++ more) r) [
            | true ↦ (((tt, color, refl), tt), on (sent_batch clear_batch d).next (steps_on (Some h) w (strokes_of pen (pen.attributes d.attributes) clear_batch) r) color (omega (arith, some)))
            | false ↦ on d r color inside
          ]

  -- the batch that closes such a run
  pub end_sendable : (h w : ℕ) (scenes : List Scene) → 0 < w → AllByRecursion (IsShowable h w) scenes
      → (d : Encoder) (r : PictureOf C) → IsColor d.attributes.background → AreAllSendable pen h w d (closing_of w scenes) r
  end_sendable h w [] some a d r color = tt
  end_sendable h w (scene ∷ []) some a d r color = (closing_is_sendable h w (mark_of (painting w scene)) d r some a.0.under color, tt)
  end_sendable h w (scene ∷ next ∷ scenes) some a d r color = end_sendable h w (next ∷ scenes) some a.1 d r color

  pub run_is_sendable : RunIsSendable pen
  run_is_sendable h w [] e s some a color inside = tt
  run_is_sendable h w (scene ∷ scenes) e s some a color inside =
      first_sendable h w some (closing_of w (scene ∷ scenes)) (end_sendable h w (scene ∷ scenes) some a) scene scenes a.0 a.1 e s color inside

  -- what the pen keeps after a batch is what the encoder then knows
  keeps_batch : (h w : ℕ) (batch : Batch) (e : Encoder) (s : PictureOf C) → CarriesAttributes pen → AreSendable pen h w e batch s
      → kept_after_all pen (pen.attributes e.attributes) batch ≡ pen.attributes (sent_batch batch e).next.attributes
  keeps_batch h w [] e s carries a = refl
  keeps_batch h w (change ∷ batch) e s carries a =
      ap (λ kept. kept_after_all pen kept batch) (keeps_change pen h w change e s carries a.0)
      ∙ keeps_batch h w batch (sent_change change e).next _ carries a.1

  pub batches_are_shown : BatchesAreShown pen
  batches_are_shown h w [] e t s carries joins some small a shows = shows
  batches_are_shown h w (batch ∷ more) e t s carries joins some small a shows =
      let next : Encoder = (sent_batch batch e).next in
      let end : Encoder = (sent_batches more next).next in
      let drawn : PictureOf C = steps_on (Some h) w (strokes_of pen (pen.attributes e.attributes) batch) s in
      let u : EcmaScreen C = receive_all pen h w (sent_batch batch e).bytes t in
      let rest = batches_are_shown h w more next u drawn carries joins some small a.1 (batch_is_shown pen h w batch e t s carries joins some small a.0 shows) in
      subst (λ v. ShowsPicture pen h w end v (play_sized (Some h) false pen w (pen.attributes e.attributes) (sized_at w (batch ∷ more)) s))
      (sym (received pen h w (sent_batch batch e).bytes (sent_batches more next).bytes t))
      (subst (λ kept. ShowsPicture pen h w end (receive_all pen h w (sent_batches more next).bytes u) (play_sized (Some h) false pen w kept (sized_at w more) drawn))
      (sym (keeps_batch h w batch e s carries a.0)) rest)
