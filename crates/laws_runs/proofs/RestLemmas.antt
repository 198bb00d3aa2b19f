-- A terminal that is sent stations stays at rest under the attributes that are known, whatever becomes of its size
-- between them.
use Rattle.std.proofs.Common.{◌≡◌, ◌<◌, ◌+◌, ◌-◌, ◌^◌, ◌&&◌, ◌||◌, not, length, inl, inr, ℕ, zero, suc, pos, negsuc, true, false, Bool, cond, eqb, ltb, leb, min, replicate, codes, List, [], ◌∷◌, ◌++◌, ap, subst, sym, refl, arith, Option, Some, None, map, ◌∙◌}
use Rattle.std.specs.Fmt.{decimal}
use Rattle.std.specs.List.{list_all, list_any, AllByRecursion}
use Rattle.std.specs.Char.{is_control}
use Rattle.std.specs.Cmp.Lexicographic.{pointwise}
use Rattle.std.specs.Prelude.{chars}
use Rattle.unicode_segmentation.specs.Grapheme.{graphemes}
use Rattle.std.proofs.lemmas.Bool.{false≢true, and_parts, or_cases, leb-true}
use Rattle.tw_surface.specs.declared.cell.CellAttributes.{CellAttributes}
use Rattle.tw_surface.specs.declared.change.Position.{Position}
use Rattle.tw_surface.specs.declared.change.Position.TheVariants.{Absolute, Relative}
use Rattle.tw_surface.specs.declared.color.ColorAttribute.{ColorAttribute}
use Rattle.tw_surface.specs.ChangeView.{ChangeView, Attribute, AllAttributes, Text, ClearScreen, ClearToEndOfScreen, CursorPosition, Batch}
use Rattle.tw_surface.specs.Attributes.{with_attribute}
use Rattle.tw_surface.specs.Characters.{is_plain, is_printable}
use Rattle.tw_surface.specs.Width.{cluster_width}
use Rattle.laws_screens.specs.Pens.{Pen, cluster_cells}
use Rattle.laws_screens.specs.Screens.{blank_of}
use Rattle.tw_ansi.specs.declared.encode.Encoder.{Encoder}
use Rattle.tw_ansi.specs.Encoding.{Sent, sent_return, sent_feed, sent_return_feed, sent_beginning, sent_columns, sent_byte, sent_cluster, sent_plain, sent_clusters, sent_text, sent_change, sent_clear, shown_as, column_of, sent_batch}
use Rattle.tw_ansi.specs.Sequences.{sequence, to_column, to_row, clear_below, clear_rows, clear_with, up_a_row, set_attributes, set_attribute}
use Rattle.tw_ansi.specs.EcmaLaws.{at_rest, IsColor, IsAttribute}
use Rattle.tw_ansi.specs.EcmaScreen.{EcmaScreen, act_by, columns_of, feed_line, is_whole_character, receive_all, receive_by, return_to_start, write, write_here, write_character}
use Rattle.tw_ansi.specs.EcmaScreen as terminal
use Rattle.tw_ansi.specs.EcmaTexts.{are_marks, is_character, is_character_by, is_lone, is_sent, is_sent_cluster}
use Rattle.tw_ansi.proofs.EcmaClearings.{clears_below, clears_rows}
use Rattle.tw_ansi.proofs.EcmaRenditions.{attribute_is_selected, attributes_are_selected}
use Rattle.tw_ansi.proofs.EcmaSequences.{received, numbered}
use Rattle.tw_ansi.proofs.EcmaWrites.{begins, text_write}
use Rattle.tw_ansi.proofs.KnownTerminals.{keeps_text, byte_in, cluster_in, batch_in, clear_keeps}
use Rattle.laws_runs.specs.Rests.{Rests, Receives, IsTypedStation, RestIsKept, ResizedHeals}
use Rattle.tw_surface.specs.Defaults.{default_attributes, default_color}
use Rattle.tw_surface.specs.Paintings.{Mark, Painting, painting, mark_of, shown_part, cursor_place, start_move}
use Rattle.tw_surface.specs.PaintingBatches.{SizedScene, clear_batch, clearing, start_of}
use Rattle.tw_surface.specs.Places.{place_after_all, origin, move_between}
use Rattle.tw_surface.specs.Scenes.{Scene}
use Rattle.laws_screens.specs.SizedBatches.{SizedBatch, sized_at, sized_after}
use Rattle.tw_host.specs.HostRules.{HostRules}
use Rattle.tw_lineedit.specs.ScreenRuns.{sized_scene}
use Rattle.tw_ansi.specs.EcmaPaintings.{IsTypedChange, IsTypedScene}
use Rattle.tw_ansi.proofs.EcmaPaintings.{shown, shown_typed}
use Rattle.laws_runs.specs.SentReadings.{sent_at, sent_sized}
use Rattle.laws_runs.proofs.SentRunLemmas.{begun_color, cleared_by}

-- a change that leaves a terminal at rest whatever is known of it: its texts are sent at n columns
abbrev pub IsRestful : ℕ → ChangeView → Type 0
IsRestful n (Text text) = is_sent n text ≡ true
IsRestful n (Attribute change) = IsAttribute change
IsRestful n (AllAttributes to) = IsColor to.foreground × IsColor to.background
IsRestful n (ClearScreen color) = ⊥
IsRestful n (ClearToEndOfScreen color) = ⊥
IsRestful n (CursorPosition x y) = Unit {0}

-- how far a character was read of which these bytes have come
abbrev read_of : List ℕ → terminal.Reading
read_of [] = terminal.Text
read_of (lead ∷ begun) = terminal.Begun (lead ∷ begun)

-- what holds of both holds of either
either : {X : Type 0} (P : X → Type 0) (z : Bool) (x y : X) → P x → P y → P (cond z x y)
either P true x y p q = p
either P false x y p q = q

module _ {A C : Type 0} (pen : Pen A C) where
  module _ (h w : ℕ) where
    -- these bytes leave a terminal at rest that was, and lead from such attributes to others
    abbrev pub KeepsRest : List ℕ → CellAttributes → CellAttributes → Type 0
    KeepsRest bytes a b = (t : EcmaScreen C) → Rests a t → Rests b (receive_all pen h w bytes t)

    pub leads-then : (xs ys : List ℕ) (a b c : CellAttributes) → KeepsRest xs a b → KeepsRest ys b c → KeepsRest (xs ++ ys) a c
    leads-then xs ys a b c first then t rests = subst (Rests c) (sym (received pen h w xs ys t)) (then (receive_all pen h w xs t) (first t rests))

    -- bytes that do to a terminal at rest what f does
    leads-by : (bytes : List ℕ) (a b : CellAttributes) (f : EcmaScreen C → EcmaScreen C) → ((t : EcmaScreen C) → t.rendition ≡ a → receive_all pen h w bytes (at_rest t) ≡ f t)
        → ((t : EcmaScreen C) → t.rendition ≡ a → Rests b (f t)) → KeepsRest bytes a b
    leads-by bytes a b f does rests t (reading, rendition) =
        let is : t ≡ at_rest t = ap (λ r. record t { reading = r }) reading in
        subst (λ u. Rests b (receive_all pen h w bytes u)) (sym is) (subst (Rests b) (sym (does t rendition)) (rests t rendition))

    pub nothing-leads : (a : CellAttributes) → KeepsRest [] a a
    nothing-leads a t rests = rests

    -- ---- moves

    return-leads : (a : CellAttributes) → KeepsRest (13 ∷ []) a a
    return-leads a = leads-by (13 ∷ []) a a (λ t. return_to_start (at_rest t)) (λ t r. refl) (λ t r. (refl, r))

    fed-rests : (a : CellAttributes) (t : EcmaScreen C) → Rests a t → Rests a (feed_line (blank_of pen) h t)
    fed-rests a t rests = either (Rests a) (eqb (t.row + 1) h) _ _ rests rests

    feed-leads : (a : CellAttributes) → KeepsRest (10 ∷ []) a a
    feed-leads a = leads-by (10 ∷ []) a a (λ t. feed_line (blank_of pen) h (at_rest t)) (λ t r. refl) (λ t r. fed-rests a (at_rest t) (refl, r))

    feeds-lead : (n : ℕ) (a : CellAttributes) → KeepsRest (replicate n 10) a a
    feeds-lead zero a = nothing-leads a
    feeds-lead (suc n) a = leads-then (10 ∷ []) (replicate n 10) a a a (feed-leads a) (feeds-lead n a)

    column-leads : (col : ℕ) (a : CellAttributes) → col < 2 ^ 64 → KeepsRest (to_column col) a a
    column-leads col a small =
        leads-then (13 ∷ []) (cond (eqb col 0) [] (sequence (decimal col) (codes "C"))) a a a (return-leads a)
        (either (λ bytes. KeepsRest bytes a a) (eqb col 0) [] (sequence (decimal col) (codes "C")) (nothing-leads a)
        (leads-by (sequence (decimal col) (codes "C")) a a (λ t. record (act_by pen h w col 67 (record t { reading = terminal.Parameters (decimal col) })) { reading = terminal.Text })
        (λ t r. numbered pen h w col 67 t small refl refl) (λ t r. (refl, r))))

    row-leads : (y : Position) (a : CellAttributes) → KeepsRest (to_row y) a a
    row-leads (Absolute row) a =
        let n : ℕ = min row 65535 + 1 in
        leads-by (sequence (decimal n) (codes "d")) a a (λ t. record (act_by pen h w n 100 (record t { reading = terminal.Parameters (decimal n) })) { reading = terminal.Text })
        (λ t r. numbered pen h w n 100 t (omega arith) refl refl) (λ t r. (refl, r))
    row-leads (Relative (pos n)) a = feeds-lead (min n 65535) a
    row-leads (Relative (negsuc n)) a =
        let k : ℕ = min (n + 1) 65535 in
        leads-by (sequence (decimal k) (codes "A")) a a (λ t. record (act_by pen h w k 65 (record t { reading = terminal.Parameters (decimal k) })) { reading = terminal.Text })
        (λ t r. numbered pen h w k 65 t (omega arith) refl refl) (λ t r. (refl, r))

    -- ---- texts

    written-rests : (a : CellAttributes) (cells : List C) (t : EcmaScreen C) → Rests a t → Rests a (write_here w cells t)
    written-rests a cells t rests = either (Rests a) (eqb (t.col + length cells) w) _ _ rests rests

    write-rests : (a : CellAttributes) (cells : List C) (t : EcmaScreen C) → Rests a t → Rests a (write (blank_of pen) h w cells t)
    write-rests a cells t rests =
        either (Rests a) (t.waits || ltb w (t.col + length cells)) _ _ (written-rests a cells (return_to_start (feed_line (blank_of pen) h t)) (fed-rests a t rests)) (written-rests a cells t rests)

    printable-leads : (b : ℕ) (a : CellAttributes) → is_printable b ≡ true → KeepsRest (b ∷ []) a a
    printable-leads b a printable =
        leads-by (b ∷ []) a a (λ t. write (blank_of pen) h w (cluster_cells pen (pen.attributes t.rendition) (b ∷ []) 1) (at_rest t)) (λ t r. text_write pen h w b (at_rest t) refl printable)
        (λ t r. write-rests a (cluster_cells pen (pen.attributes t.rendition) (b ∷ []) 1) (at_rest t) (refl, r))

    character-rests : (bytes : List ℕ) (a : CellAttributes) (t : EcmaScreen C) → Rests a t → Rests a (write_character pen h w bytes t)
    character-rests bytes a t rests = either (Rests a) (eqb (columns_of bytes) 0) _ _ rests (write-rests a (cluster_cells pen (pen.attributes t.rendition) bytes (columns_of bytes)) t rests)

    -- bytes of marks, after some bytes of the first one
    marks-lead : (bytes begun : List ℕ) (a : CellAttributes) → are_marks begun bytes ≡ true → (t : EcmaScreen C) → t.reading ≡ read_of begun → t.rendition ≡ a → Rests a (receive_all pen h w bytes t)
    marks-lead [] [] a fits t reading rendition = (reading, rendition)
    marks-lead [] (lead ∷ begun) a fits t reading rendition = absurd (false≢true fits)
    marks-lead (b ∷ bytes) [] a fits t reading rendition =
        let both = and_parts (leb 194 b) (are_marks (b ∷ []) bytes) fits in
        subst (λ u. Rests a (receive_all pen h w bytes u)) (sym (begins pen h w b t reading (leb-true _ _ both.0)))
        (marks-lead bytes (b ∷ []) a both.1 (record t { reading = terminal.Begun (b ∷ []) }) refl rendition)
    marks-lead (b ∷ bytes) (lead ∷ begun) a fits t reading rendition =
        subst (λ u. Rests a (receive_all pen h w bytes u)) (sym (ap (λ r. receive_by pen h w r b t) reading)) (go (marks-lead bytes [] a) (marks-lead bytes mark a) (is_whole_character mark) fits)
      where
        mark : List ℕ
        mark = lead ∷ (begun ++ b ∷ [])

        go : (are_marks [] bytes ≡ true → (u : EcmaScreen C) → u.reading ≡ terminal.Text → u.rendition ≡ a → Rests a (receive_all pen h w bytes u))
            → (are_marks mark bytes ≡ true → (u : EcmaScreen C) → u.reading ≡ terminal.Begun mark → u.rendition ≡ a → Rests a (receive_all pen h w bytes u))
            → (k : Bool) → cond k (eqb (columns_of mark) 0 && are_marks [] bytes) (are_marks mark bytes) ≡ true
            → Rests a (receive_all pen h w bytes (cond k (write_character pen h w mark (record t { reading = terminal.Text })) (record t { reading = terminal.Begun mark })))
        go rest on true both =
            let u : EcmaScreen C = record t { reading = terminal.Text } in
            let rests = character-rests mark a u (refl, rendition) in
            rest (and_parts (eqb (columns_of mark) 0) (are_marks [] bytes) both).1 (write_character pen h w mark u) rests.0 rests.1
        go rest on false fits = on fits (record t { reading = terminal.Begun mark }) refl rendition

    -- and of a character, where some have come, and its marks
    begun-leads : (width : ℕ) (bytes begun : List ℕ) (a : CellAttributes) → is_character_by width begun bytes ≡ true → (t : EcmaScreen C) → t.reading ≡ terminal.Begun begun → t.rendition ≡ a → Rests a (receive_all pen h w bytes t)
    begun-leads width [] begun a fits t reading rendition = absurd (false≢true fits)
    begun-leads width (b ∷ bytes) begun a fits t reading rendition =
        subst (λ u. Rests a (receive_all pen h w bytes u)) (sym (ap (λ r. receive_by pen h w r b t) reading)) (go (begun-leads width bytes character a) (is_whole_character character) fits)
      where
        character : List ℕ
        character = begun ++ b ∷ []

        go : (is_character_by width character bytes ≡ true → (u : EcmaScreen C) → u.reading ≡ terminal.Begun character → u.rendition ≡ a → Rests a (receive_all pen h w bytes u))
            → (k : Bool) → cond k (eqb (columns_of character) width && are_marks [] bytes) (is_character_by width character bytes) ≡ true
            → Rests a (receive_all pen h w bytes (cond k (write_character pen h w character (record t { reading = terminal.Text })) (record t { reading = terminal.Begun character })))
        go on true both =
            let u : EcmaScreen C = record t { reading = terminal.Text } in
            let rests = character-rests character a u (refl, rendition) in
            marks-lead bytes [] a (and_parts (eqb (columns_of character) width) (are_marks [] bytes) both).1 (write_character pen h w character u) rests.0 rests.1
        go on false fits = on fits (record t { reading = terminal.Begun character }) refl rendition

    character-leads : (width : ℕ) (cluster : List ℕ) (a : CellAttributes) → is_character width cluster ≡ true → KeepsRest cluster a a
    character-leads width [] a fits = absurd (false≢true fits)
    character-leads width (lead ∷ bytes) a fits = elim (or_cases _ _ fits) [
      | inl printable ↦
          let both = and_parts (is_printable lead) (eqb width 1 && are_marks [] bytes) printable in
          leads-then (lead ∷ []) bytes a a a (printable-leads lead a both.0) (λ t rests. marks-lead bytes [] a (and_parts (eqb width 1) (are_marks [] bytes) both.1).1 t rests.0 rests.1)
      | inr several ↦
          let both = and_parts (leb 194 lead) (is_character_by width (lead ∷ []) bytes) several in
          λ t rests. subst (λ u. Rests a (receive_all pen h w bytes u)) (sym (begins pen h w lead t rests.0 (leb-true _ _ both.0)))
          (begun-leads width bytes (lead ∷ []) a both.1 (record t { reading = terminal.Begun (lead ∷ []) }) refl rests.1)
    ]

    -- ---- what is sent of them

    below-leads : (a : CellAttributes) → KeepsRest (13 ∷ 10 ∷ []) a a
    below-leads a = leads-then (13 ∷ []) (10 ∷ []) a a a (return-leads a) (feed-leads a)

    sent-feed-leads : (e : Encoder) (a : CellAttributes) → e.cols < 2 ^ 64 → KeepsRest (sent_feed e).bytes a a
    sent-feed-leads e a small =
        either (λ (s : Sent). KeepsRest s.bytes a a) (leb e.cols e.x && not e.parted) _ _ (leads-then (10 ∷ []) (to_column (e.cols - 1)) a a a (feed-leads a) (column-leads (e.cols - 1) a (omega (arith, small)))) (feed-leads a)

    columns-lead : (e : Encoder) (width : ℕ) (bytes : List ℕ) (a : CellAttributes) → KeepsRest bytes a a → KeepsRest (sent_columns e width bytes).bytes a a
    columns-lead e width bytes a leads =
        leads-then (sent_beginning e width).bytes bytes a a a
        (either (λ (s : Sent). KeepsRest s.bytes a a) (eqb width 0) _ _ (nothing-leads a)
        (either (λ (s : Sent). KeepsRest s.bytes a a) (leb (e.x + width) e.cols) _ _ (nothing-leads a) (either (λ bytes. KeepsRest bytes a a) e.parted (13 ∷ 10 ∷ []) [] (below-leads a) (nothing-leads a)))) leads

    plain-byte-leads : (e : Encoder) (b : ℕ) (a : CellAttributes) → is_plain b ≡ true → e.cols < 2 ^ 64 → KeepsRest (sent_byte e b).bytes a a
    plain-byte-leads e b a plain small = go (eqb b 13) (eqb b 10) plain
      where
        go : (x y : Bool) → ((x || y) || is_printable b) ≡ true → KeepsRest (cond x (sent_return e) (cond y (sent_feed e) (sent_columns e 1 (b ∷ [])))).bytes a a
        go true y k = return-leads a
        go false true k = sent-feed-leads e a small
        go false false k = columns-lead e 1 (b ∷ []) a (printable-leads b a k)

    plain-leads : (text : List ℕ) (e : Encoder) (a : CellAttributes) → list_all is_plain text ≡ true → e.cols < 2 ^ 64 → KeepsRest (sent_plain text e).bytes a a
    plain-leads [] e a plain small = nothing-leads a
    plain-leads (b ∷ text) e a plain small =
        let parts = and_parts _ _ plain in
        leads-then (sent_byte e b).bytes (sent_plain text (sent_byte e b).next).bytes a a a (plain-byte-leads e b a parts.0 small)
        (plain-leads text (sent_byte e b).next a parts.1 (rw (byte_in e b) small))

    cluster-leads : (n : ℕ) (e : Encoder) (cluster : List ℕ) (a : CellAttributes) → is_sent_cluster n cluster ≡ true → e.cols < 2 ^ 64 → KeepsRest (sent_cluster e cluster).bytes a a
    cluster-leads n e cluster a fits small = go (pointwise eqb cluster (13 ∷ [])) (pointwise eqb cluster (10 ∷ [])) (pointwise eqb cluster (13 ∷ 10 ∷ [])) fits
      where
        go : (x y z : Bool) → (x || (y || (z || is_lone n cluster))) ≡ true
            → KeepsRest (cond x (sent_return e) (cond y (sent_feed e) (cond z (sent_return_feed e) (sent_columns e (cluster_width cluster) (shown_as cluster))))).bytes a a
        go true y z k = return-leads a
        go false true z k = sent-feed-leads e a small
        go false false true k = below-leads a
        go false false false k =
            let lone = and_parts (is_character (cluster_width cluster) cluster) _ k in
            columns-lead e (cluster_width cluster) (shown_as cluster) a
            (either (λ bytes. KeepsRest bytes a a) (list_any is_control (chars cluster)) (63 ∷ []) cluster (printable-leads 63 a refl) (character-leads (cluster_width cluster) cluster a lone.0))

    clusters-lead : (n : ℕ) (clusters : List (List ℕ)) (e : Encoder) (a : CellAttributes) → list_all (is_sent_cluster n) clusters ≡ true → e.cols < 2 ^ 64 → KeepsRest (sent_clusters clusters e).bytes a a
    clusters-lead n [] e a fits small = nothing-leads a
    clusters-lead n (cluster ∷ more) e a fits small =
        let parts = and_parts (is_sent_cluster n cluster) (list_all (is_sent_cluster n) more) fits in
        leads-then (sent_cluster e cluster).bytes (sent_clusters more (sent_cluster e cluster).next).bytes a a a (cluster-leads n e cluster a parts.0 small)
        (clusters-lead n more (sent_cluster e cluster).next a parts.1 (rw (cluster_in e cluster) small))

    text-leads : (n : ℕ) (text : List ℕ) (e : Encoder) (a : CellAttributes) → is_sent n text ≡ true → e.cols < 2 ^ 64 → KeepsRest (sent_text text e).bytes a a
    unfolding is_sent
    text-leads n text e a fits small = go (list_all is_plain text) refl fits
      where
        go : (k : Bool) → list_all is_plain text ≡ k → (k || list_all (is_sent_cluster n) (graphemes true text)) ≡ true
            → KeepsRest (cond k (sent_plain text e) (sent_clusters (graphemes true text) e)).bytes a a
        go true plain fits = plain-leads text e a plain small
        go false plain fits = clusters-lead n (graphemes true text) e a fits small

    -- ---- clearings

    cleared-below-leads : (color : ColorAttribute) (a : CellAttributes) → IsColor color → IsColor a.background → KeepsRest (clear_with clear_below color a.background) a a
    cleared-below-leads color a p q t (reading, rendition) =
        let is : t ≡ at_rest t = ap (λ r. record t { reading = r }) reading in
        subst (λ x. Rests a (receive_all pen h w (clear_with clear_below color x.background) t)) rendition
        (subst (λ u. Rests a (receive_all pen h w (clear_with clear_below color t.rendition.background) u)) (sym is)
        (subst (Rests a) (sym (clears_below pen h w color t p (subst (λ x. IsColor x.background) (sym rendition) q))) (refl, rendition)))

    rows-lead : (color : ColorAttribute) (a : CellAttributes) → IsColor color → IsColor a.background → KeepsRest (clear_with clear_rows color a.background) a a
    rows-lead color a p q t (reading, rendition) =
        let is : t ≡ at_rest t = ap (λ r. record t { reading = r }) reading in
        subst (λ x. Rests a (receive_all pen h w (clear_with clear_rows color x.background) t)) rendition
        (subst (λ u. Rests a (receive_all pen h w (clear_with clear_rows color t.rendition.background) u)) (sym is)
        (subst (Rests a) (sym (clears_rows pen h w color t p (subst (λ x. IsColor x.background) (sym rendition) q))) (refl, rendition)))

    up-leads : (a : CellAttributes) → KeepsRest up_a_row a a
    up-leads a = leads-by up_a_row a a (λ t. record t { row = t.row - 1; waits = false; reading = terminal.Text }) (λ t r. refl) (λ t r. (refl, r))

    pub clear-leads : (color : ColorAttribute) (e : Encoder) → IsColor color → IsColor e.attributes.background → e.cols < 2 ^ 64 → KeepsRest (sent_clear color e).bytes e.attributes e.attributes
    clear-leads color e p q small =
        let a : CellAttributes = e.attributes in
        let clear : List ℕ = clear_with clear_below color a.background in
        either (λ (s : Sent). KeepsRest s.bytes a a) (leb e.cols e.x) _ _
        (leads-then ((13 ∷ 10 ∷ clear) ++ up_a_row) (to_column (e.cols - 1)) a a a
        (leads-then (13 ∷ 10 ∷ clear) up_a_row a a a
        (leads-then (13 ∷ []) (10 ∷ clear) a a a (return-leads a) (leads-then (10 ∷ []) clear a a a (feed-leads a) (cleared-below-leads color a p q))) (up-leads a))
        (column-leads (e.cols - 1) a (omega (arith, small))))
        (either (λ (s : Sent). KeepsRest s.bytes a a) (eqb e.x 0) _ _ (rows-lead color a p q) (cleared-below-leads color a p q))

    -- ---- changes

    pub change-leads : (n : ℕ) (change : ChangeView) (e : Encoder) → IsRestful n change → e.cols < 2 ^ 64 → KeepsRest (sent_change change e).bytes e.attributes (sent_change change e).next.attributes
    change-leads n (Text text) e p small = subst (KeepsRest (sent_text text e).bytes e.attributes) (sym (keeps_text text e)) (text-leads n text e e.attributes p small)
    change-leads n (Attribute change) e p small =
        leads-by (set_attribute change) e.attributes (with_attribute change e.attributes) (λ t. record t { rendition = with_attribute change t.rendition; reading = terminal.Text })
        (λ t r. attribute_is_selected pen h w change t p) (λ t r. (refl, ap (with_attribute change) r))
    change-leads n (AllAttributes to) e p small =
        leads-by (set_attributes to) e.attributes to (λ t. record t { rendition = to; reading = terminal.Text }) (λ t r. attributes_are_selected pen h w to t p.0 p.1) (λ t r. (refl, refl))
    change-leads n (ClearScreen color) e p small = absurd p
    change-leads n (ClearToEndOfScreen color) e p small = absurd p
    change-leads n (CursorPosition x y) e p small =
        leads-then (to_row y) (to_column (column_of x e)) e.attributes e.attributes e.attributes (row-leads y e.attributes) (column-leads (column_of x e) e.attributes (omega (arith, small)))

-- ---- batches and paintings

both-restful : (n : ℕ) (xs ys : Batch) → AllByRecursion (IsRestful n) xs → AllByRecursion (IsRestful n) ys → AllByRecursion (IsRestful n) (xs ++ ys)
both-restful n [] ys a b = b
both-restful n (x ∷ xs) ys a b = (a.0, both-restful n xs ys a.1 b)

typed-restful : (n : ℕ) (xs : Batch) → AllByRecursion (IsTypedChange n) xs → AllByRecursion (IsRestful n) xs
typed-restful n [] a = tt
typed-restful n (Text text ∷ xs) a = (a.0, typed-restful n xs a.1)
typed-restful n (Attribute change ∷ xs) a = (a.0, typed-restful n xs a.1)
typed-restful n (AllAttributes to ∷ xs) a = (a.0, typed-restful n xs a.1)
typed-restful n (change ∷ xs) a = absurd a.0

module _ {A C : Type 0} (pen : Pen A C) where
  batch-leads : (h w n : ℕ) (batch : Batch) (e : Encoder) → AllByRecursion (IsRestful n) batch → e.cols < 2 ^ 64
      → KeepsRest pen h w (sent_batch batch e).bytes e.attributes (sent_batch batch e).next.attributes
  batch-leads h w n [] e a small = nothing-leads pen h w e.attributes
  batch-leads h w n (x ∷ xs) e a small =
      let next : Encoder = (sent_change x e).next in
      leads-then pen h w (sent_change x e).bytes (sent_batch xs next).bytes e.attributes next.attributes (sent_batch xs next).next.attributes
      (change-leads pen h w n x e a.0 small) (batch-leads h w n xs next a.1 (rw (batch_in (x ∷ []) e) small))

  painting-leads : (h w n : ℕ) (scene : Scene) (e : Encoder) → IsTypedScene n scene → IsColor e.attributes.background → e.cols < 2 ^ 64
      → KeepsRest pen h w (sent_batch (painting n scene).changes e).bytes e.attributes (sent_batch (painting n scene).changes e).next.attributes
  painting-leads h w n scene e t color small =
      let move : ChangeView = move_between (place_after_all n (shown_part n scene) origin) (cursor_place n scene) in
      let rest : Batch = AllAttributes default_attributes ∷ (shown n scene ++ move ∷ []) in
      let next : Encoder = (sent_change (ClearToEndOfScreen default_color) e).next in
      let restful : AllByRecursion (IsRestful n) rest = ((tt, tt), both-restful n (shown n scene) (move ∷ []) (typed-restful n (shown n scene) (shown_typed n scene t)) (tt, tt)) in
      leads-then pen h w (sent_change (ClearToEndOfScreen default_color) e).bytes (sent_batch rest next).bytes e.attributes e.attributes (sent_batch rest next).next.attributes
      (clear-leads pen h w default_color e tt color small)
      (subst (λ a. KeepsRest pen h w (sent_batch rest next).bytes a (sent_batch rest next).next.attributes) (clear_keeps default_color e)
      (batch-leads h w n rest next restful (rw (batch_in (ClearToEndOfScreen default_color ∷ []) e) small)))

  started-leads : (h w n : ℕ) (mark : Option Mark) (scene : Scene) (e : Encoder) → IsTypedScene n scene → IsColor e.attributes.background → e.cols < 2 ^ 64
      → let begun = start_of mark ++ (painting n scene).changes in
      KeepsRest pen h w (sent_batch begun e).bytes e.attributes (sent_batch begun e).next.attributes
  started-leads h w n None scene e t color small = painting-leads h w n scene e t color small
  started-leads h w n (Some m) scene e t color small =
      let next : Encoder = (sent_change (start_move m) e).next in
      leads-then pen h w (sent_change (start_move m) e).bytes (sent_batch (painting n scene).changes next).bytes e.attributes e.attributes (sent_batch (painting n scene).changes next).next.attributes
      (change-leads pen h w n (start_move m) e tt small) (painting-leads h w n scene next t color small)

  cleared-leads : (h w : ℕ) (e : Encoder) → IsColor e.attributes.background → KeepsRest pen h w (sent_batch clear_batch e).bytes e.attributes e.attributes
  cleared-leads h w e q t (reading, rendition) = subst (Rests e.attributes) (sym (cleared_by pen h w e t q reading rendition)) (refl, rendition)

  -- ---- batches, each at some size

  -- at every size each leads from the attributes that are known to those that are known then
  abbrev AllKeepRest : List SizedBatch → Encoder → Type 0
  AllKeepRest [] e = Unit {0}
  AllKeepRest (sized ∷ more) e =
      ((h w : ℕ) → KeepsRest pen h w (sent_at sized e).bytes e.attributes (sent_at sized e).next.attributes) × AllKeepRest more (sent_at sized e).next

  reshaped : (a : CellAttributes) (t u : EcmaScreen C) → Rests a t → (u.reading ≡ t.reading) × (u.rendition ≡ t.rendition) → Rests a u
  reshaped a t u rests same = (same.0 ∙ rests.0, same.1 ∙ rests.1)

  rests-behind : (played : List SizedBatch) (e : Encoder) (t u : EcmaScreen C) → AllKeepRest played e → Rests e.attributes t → Receives pen played e t u
      → Rests (sent_sized played e).next.attributes u
  rests-behind [] e t u lead rests same = reshaped e.attributes t u rests same
  rests-behind (sized ∷ more) e t u lead rests (h, w, s, same, later) =
      rests-behind more (sent_at sized e).next (receive_all pen h w (sent_at sized e).bytes s) u lead.1
      (lead.0 h w s (reshaped e.attributes t s rests same)) later

  -- the batches of stations do, and the colour that is known is by bytes
  stations-lead : (mark : Option Mark) (xs : List SizedScene) (e : Encoder) → AllByRecursion IsTypedStation xs → IsColor e.attributes.background
      → AllKeepRest (sized_after mark xs) e × IsColor (sent_sized (sized_after mark xs) e).next.attributes.background
  stations-lead mark [] e a color = (tt, color)
  stations-lead mark (x ∷ xs) e a color = by_cleared (λ known. stations-lead (Some (mark_of (painting x.cols x.scene))) xs known a.1) x.scene.cleared
    where
      shot : Painting
      shot = painting x.cols x.scene

      rest : List SizedBatch
      rest = sized_after (Some (mark_of shot)) xs

      by_cleared : ((known : Encoder) → IsColor known.attributes.background → AllKeepRest rest known × IsColor (sent_sized rest known).next.attributes.background)
          → (b : Bool) → let played = sized_at x.cols (clearing b ++ (start_of mark ++ shot.changes) ∷ []) ++ rest in
          AllKeepRest played e × IsColor (sent_sized played e).next.attributes.background
      by_cleared more false =
          let known : Encoder = record e { cols = x.cols } in
          let later = more (sent_batch (start_of mark ++ shot.changes) known).next (begun_color mark x.cols x.scene known a.0.typed) in
          (((λ h w. started-leads h w x.cols mark x.scene known a.0.typed color a.0.narrow), later.0), later.1)
      by_cleared more true =
          let first : Encoder = record e { cols = x.cols } in
          let known : Encoder = record (sent_batch clear_batch first).next { cols = x.cols } in
          let later = more (sent_batch (start_of mark ++ shot.changes) known).next (begun_color mark x.cols x.scene known a.0.typed) in
          (((λ h w. cleared-leads h w first color), ((λ h w. started-leads h w x.cols mark x.scene known a.0.typed color a.0.narrow), later.0)), later.1)

  pub rest_is_kept : {V : Type 0} (rules : HostRules V) → RestIsKept rules pen
  rest_is_kept rules stations e t u a color rests received =
      let lead = stations-lead None (map (sized_scene rules) stations) e a color in
      (rests-behind (sized_after None (map (sized_scene rules) stations)) e t u lead.0 rests received, lead.1)

  pub resized_heals : {V : Type 0} (rules : HostRules V) → ResizedHeals rules pen
  resized_heals rules h w f earlier since station later measured last e first t k =
      let kept = rest_is_kept rules earlier e first t k.typed k.color k.rests k.received in
      record {
        comes = k.comes;
        sent = k.sent;
        high = k.high;
        back = k.back;
        narrow = k.narrow;
        color = kept.1;
        reading = kept.0.0;
        rendition = kept.0.1;
        cols = refl;
      }
