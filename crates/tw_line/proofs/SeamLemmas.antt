-- What stands before a cluster boundary decides nothing after it, where clusters are not extended.
use Rattle.std.proofs.Common.{◌≡◌, ℕ, ◌+◌, ◌-◌, ◌<◌, ◌≤◌, Bool, true, false, not, ◌&&◌, ◌||◌, List, [], ◌∷◌, ◌++◌, length, take, drop, reverse, unwrap_or, refl, sym, ap, ap₂, subst, ◌∙◌, arith, ⊎_elim, append_assoc, length-append, length-drop, length-take-le, take_at, drop_at}
use Rattle.std.proofs.lemmas.Bool.{cases_Bool, cases_eq, cases_lt, not-true, false≢true}
use Rattle.std.proofs.lemmas.List.{reverse-append, drop-drop, take-append-drop}
use Rattle.std.proofs.lemmas.Str.{chars-append, encodes-chars, IsUtf8-take, IsUtf8-drop, IsCharBoundary-from_rest, IsCharBoundary-from_drop, IsCharBoundary-from_take, IsCharBoundary-start, IsUtf8-between}
use Rattle.std.proofs.Math.Seq.{take-add}
use Rattle.std.specs.List.{insert_slice}
use Rattle.std.specs.Prelude.{encode_utf8_all, slice_range}
use Rattle.std.specs.Str.{chars, IsUtf8, IsCharBoundary}
use Rattle.ucd_table.proofs.Facts.{Stepped-everywhere}
use Rattle.ucd_table.proofs.Stepped.{zip_stepped}
use Rattle.ucd_breaks.specs.GraphemeClusterBreak.{grapheme_cluster_break}
use Rattle.ucd_breaks.specs.declared.GraphemeClusterBreak.{GraphemeClusterBreak}
use Rattle.ucd_breaks.specs.declared.GraphemeClusterBreak.TheVariants.{Control, Cr, Extend, Lf, Zwj}
use Rattle.ucd_breaks.proofs.Computing.{ucd_breaks}
use Rattle.ucd_breaks.proofs.GraphemeClusterBreakLemmas.{grapheme_cluster_break_stepped}
use Rattle.ucd_emoji.specs.Binary.{is_extended_pictographic}
use Rattle.ucd_emoji.proofs.BinaryLemmas.{is_extended_pictographic_stepped}
use Rattle.ucd_emoji.proofs.Computing.{ucd_emoji}
use Rattle.unicode_segmentation.specs.Grapheme.{break_by_pair, is_extend, is_zwj, is_regional, ends_in_pictograph, joins_emoji, ends_in_half_flag, is_grapheme_break}
use Rattle.unicode_segmentation.specs.Segments.{chars_before, chars_from, breaks_at}
use Rattle.unicode_segmentation.proofs.BoolLemmas.{or-true}
use Rattle.unicode_segmentation.proofs.TextLemmas.{length-slice_range, take_split}
use Rattle.unicode_segmentation.proofs.CursorLemmas.{break_between_regionals, breaks_at-start}
use Rattle.tw_line.specs.Clusters.{is_cluster_boundary, cluster_after}
use Rattle.tw_line.proofs.BoundaryLemmas.{is_boundary-from}
use Rattle.tw_line.proofs.ClusterLemmas.{NoneBetween, cluster_after-is}

-- a line end or a control character
is_control : GraphemeClusterBreak → Bool
is_control Control = true
is_control Cr = true
is_control Lf = true
is_control _ = false

-- none is a pictograph
kinds_apart : (c : ℕ) → not (is_control (grapheme_cluster_break c) && is_extended_pictographic c) ≡ true
unfolding is_control ucd_breaks ucd_emoji
kinds_apart =
    Stepped-everywhere _ (zip_stepped (λ g e. not (is_control g && e)) grapheme_cluster_break is_extended_pictographic grapheme_cluster_break_stepped is_extended_pictographic_stepped) refl

control_alone : (c : ℕ) → is_control (grapheme_cluster_break c) ≡ true → is_extended_pictographic c ≡ false
control_alone c h = not-true _ (rw h at (kinds_apart c))

-- none extends what stands before it
control_no_extend : (g : GraphemeClusterBreak) → is_control g ≡ true → is_extend g ≡ false
unfolding is_control
control_no_extend Extend h = absurd (false≢true h)
control_no_extend _ h = refl

-- only after one of them does a character that extends begin a cluster
control_before : (left right : GraphemeClusterBreak) (rest : Bool) → (is_extend right || is_zwj right) ≡ true
    → unwrap_or (break_by_pair false left right) rest ≡ true → is_control left ≡ true
unfolding is_control
control_before Control right rest extends breaks = refl
control_before Cr right rest extends breaks = refl
control_before Lf right rest extends breaks = refl
control_before left Extend rest extends breaks = breaks
control_before left Zwj rest extends breaks = breaks
control_before left right rest extends breaks = extends

-- what stands before a character, nearest first, joins nothing from it on
pub record Apart (before : List ℕ) (next : ℕ) : Type 0 where
  pub no_half_flag : is_regional (grapheme_cluster_break next) ≡ true → ends_in_half_flag before ≡ false
  pub no_pictograph : (is_extend (grapheme_cluster_break next) || is_zwj (grapheme_cluster_break next)) ≡ true → ends_in_pictograph before ≡ false

-- so it is where a cluster begins
Apart-from_break : (before : List ℕ) (next : ℕ) (after : List ℕ) → is_grapheme_break false before (next ∷ after) ≡ true → Apart before next
unfolding is_grapheme_break ends_in_half_flag ends_in_pictograph
Apart-from_break [] next after breaks = record { no_half_flag = λ h. refl; no_pictograph = λ h. refl }
Apart-from_break (last ∷ before) next after breaks = record {
  no_half_flag = λ h.
      ⊎_elim
      (λ regional. not-true _ (sym (break_between_regionals false (last ∷ before) next after (omega arith) regional h) ∙ breaks))
      (λ other. rw other refl)
      (cases_Bool (is_regional (grapheme_cluster_break last)));
  no_pictograph = λ h.
      let control = control_before (grapheme_cluster_break last) (grapheme_cluster_break next) _ h breaks in
      let alone = control_alone last control in
      let plain = control_no_extend (grapheme_cluster_break last) control in
      rw (alone, plain) refl;
}

-- then it makes no difference to the rules that look further back
module _ (first : ℕ) (before : List ℕ) (apart : Apart before first) where
  half_flag_same : (near : List ℕ) → ends_in_half_flag (near ++ first ∷ before) ≡ ends_in_half_flag (near ++ first ∷ [])
  unfolding ends_in_half_flag
  half_flag_same [] =
      ⊎_elim (λ regional. rw (regional, apart.no_half_flag regional) refl) (λ other. rw other refl) (cases_Bool (is_regional (grapheme_cluster_break first)))
  half_flag_same (c ∷ near) = ap (λ b. is_regional (grapheme_cluster_break c) && not b) (half_flag_same near)

  pictograph_same : (near : List ℕ) → ends_in_pictograph (near ++ first ∷ before) ≡ ends_in_pictograph (near ++ first ∷ [])
  unfolding ends_in_pictograph
  pictograph_same [] =
      ⊎_elim (λ extends. let none = apart.no_pictograph (rw extends refl) in rw (extends, none) refl) (λ other. rw other refl) (cases_Bool (is_extend (grapheme_cluster_break first)))
  pictograph_same (c ∷ near) = ap (λ b. is_extended_pictographic c || (is_extend (grapheme_cluster_break c) && b)) (pictograph_same near)

  emoji_same : (near : List ℕ) (next : ℕ) → joins_emoji (near ++ first ∷ before) next ≡ joins_emoji (near ++ first ∷ []) next
  unfolding ends_in_pictograph
  emoji_same [] next =
      ⊎_elim (λ zwj. let none = apart.no_pictograph (rw zwj (or-true _)) in rw (zwj, none) refl) (λ other. rw other refl) (cases_Bool (is_zwj (grapheme_cluster_break first)))
  emoji_same (c ∷ near) next = ap (λ b. is_zwj (grapheme_cluster_break c) && b && is_extended_pictographic next) (pictograph_same near)

  pub break_same : (near after : List ℕ) → is_grapheme_break false (near ++ first ∷ before) after ≡ is_grapheme_break false (near ++ first ∷ []) after
  unfolding is_grapheme_break
  break_same [] [] = refl
  break_same (c ∷ near) [] = refl
  break_same [] (next ∷ after) =
      ap₂ (λ e h. unwrap_or (break_by_pair false (grapheme_cluster_break first) (grapheme_cluster_break next)) (not (e || (h && is_regional (grapheme_cluster_break next))))) (emoji_same [] next) (half_flag_same [])
  break_same (c ∷ near) (next ∷ after) =
      ap₂ (λ e h. unwrap_or (break_by_pair false (grapheme_cluster_break c) (grapheme_cluster_break next)) (not (e || (h && is_regional (grapheme_cluster_break next))))) (emoji_same (c ∷ near) next) (half_flag_same (c ∷ near))

-- at a boundary, the test of a cluster boundary is the rule alone
pub cluster_boundary_is : (text : List ℕ) (at : ℕ) → IsCharBoundary text at → is_cluster_boundary text at ≡ breaks_at (is_grapheme_break false) text at
unfolding is_cluster_boundary
cluster_boundary_is text at h = rw (is_boundary-from text at h) refl

-- a text from a cluster boundary on
module _ (text : List ℕ) (u : IsUtf8 text) (from : ℕ) (cut : IsCharBoundary text from) (start : breaks_at (is_grapheme_break false) text from ≡ true) where
  -- its boundaries are those of the text
  pub IsCharBoundary-part : (at : ℕ) → from ≤ at → IsCharBoundary text at → IsCharBoundary (drop from text) (at - from)
  IsCharBoundary-part at low h =
      let e : from + (at - from) ≡ at = omega arith in
      let fits : at ≤ length text = h.0 in
      IsCharBoundary-from_drop (drop from text) (at - from) (omega (arith, length-drop from text))
      (subst IsUtf8 (sym (drop-drop (at - from) from text ∙ ap (λ n. drop n text) e)) (IsUtf8-drop text at u h))

  -- the characters before a boundary of it are those in it, and those before it
  chars_before-part : (k : ℕ) → chars_before text (from + k) ≡ reverse (chars (take k (drop from text))) ++ chars_before text from
  chars_before-part k =
      ap (λ t. reverse (chars t)) (take-add from k text) ∙ ap reverse (chars-append (take from text) (take k (drop from text)) (IsUtf8-take text from u cut))
      ∙ reverse-append (chars (take from text)) (chars (take k (drop from text)))

  -- a first character of it, seen from a boundary after it
  breaks_from_first : (k c : ℕ) (cs : List ℕ) → IsCharBoundary (drop from text) k → chars (take k (drop from text)) ≡ c ∷ cs
      → breaks_at (is_grapheme_break false) text (from + k) ≡ breaks_at (is_grapheme_break false) (drop from text) k
  breaks_from_first k c cs cut_k e =
      let after = chars_from (drop from text) k in
      let before = chars_before text from in
      let near_utf8 = IsUtf8-take (drop from text) k (IsUtf8-drop text from u cut) cut_k in
      let both : chars_from text from ≡ c ∷ (cs ++ after) =
      ap chars (sym (take-append-drop k (drop from text))) ∙ chars-append (take k (drop from text)) (drop k (drop from text)) near_utf8 ∙ ap (λ t. t ++ after) e in
      let apart = Apart-from_break before c (cs ++ after) (ap (is_grapheme_break false before) (sym both) ∙ start) in
      let nearest : reverse (c ∷ cs) ≡ reverse cs ++ c ∷ [] = reverse-append (c ∷ []) cs in
      ap₂ (is_grapheme_break false) (chars_before-part k) (ap chars (sym (drop-drop k from text)))
      ∙ ap (λ t. is_grapheme_break false (t ++ before) after) (ap reverse e ∙ nearest)
      ∙ ap (λ t. is_grapheme_break false t after) (append_assoc (reverse cs) (c ∷ []) before) ∙ break_same c before apart (reverse cs) after
      ∙ ap (λ t. is_grapheme_break false t after) (sym (ap reverse e ∙ nearest))

  -- a part that is not empty has a first character
  no_characters : (k : ℕ) → 0 < k → IsCharBoundary (drop from text) k → chars (take k (drop from text)) ≡ [] → ⊥
  no_characters k some cut_k e =
      let near_utf8 = IsUtf8-take (drop from text) k (IsUtf8-drop text from u cut) cut_k in
      let none : length (take k (drop from text)) ≡ 0 = ap length (sym (encodes-chars (take k (drop from text)) near_utf8)) ∙ ap (λ t. length (encode_utf8_all t)) e in
      omega (arith, length-take-le k (drop from text) cut_k.0)

  by_characters : (k : ℕ) (cs : List ℕ) → 0 < k → IsCharBoundary (drop from text) k → chars (take k (drop from text)) ≡ cs
      → breaks_at (is_grapheme_break false) text (from + k) ≡ breaks_at (is_grapheme_break false) (drop from text) k
  by_characters k [] some cut_k e = absurd (no_characters k some cut_k e)
  by_characters k (c ∷ cs) some cut_k e = breaks_from_first k c cs cut_k e

  -- and so are its cluster boundaries
  breaks_behind : (k : ℕ) → 0 < k → IsCharBoundary (drop from text) k
      → breaks_at (is_grapheme_break false) text (from + k) ≡ breaks_at (is_grapheme_break false) (drop from text) k
  breaks_behind k some cut_k = by_characters k _ some cut_k refl

  -- whether a boundary begins a cluster is seen in it
  pub begins-part : (at : ℕ) → from ≤ at → IsCharBoundary text at → breaks_at (is_grapheme_break false) (drop from text) (at - from) ≡ is_cluster_boundary text at
  begins-part at low h =
      ⊎_elim
      (λ same. sym (breaks_at-start false (drop from text) (at - from) (omega arith)) ∙ sym (cluster_boundary_is text at h ∙ ap (breaks_at (is_grapheme_break false) text) same ∙ start))
      (λ other.
      let e : from + (at - from) ≡ at = omega arith in
      sym (cluster_boundary_is text at h ∙ ap (breaks_at (is_grapheme_break false) text) (sym e) ∙ breaks_behind (at - from) (omega arith) (IsCharBoundary-part at low h)))
      (cases_eq at from)

  -- so the next one is found in it
  pub cluster_after-part : (at next : ℕ) → from ≤ at → at - from + 1 ≤ next → IsCharBoundary (drop from text) next
      → breaks_at (is_grapheme_break false) (drop from text) next ≡ true → NoneBetween (drop from text) (at - from + 1) next → cluster_after text at ≡ from + next
  cluster_after-part at next low ahead cut_next breaks none =
      cluster_after-is text at (from + next) (omega arith) (IsCharBoundary-from_rest text from next cut.0 cut_next)
      (breaks_behind next (omega arith) cut_next ∙ breaks)
      (λ k above below cut_k.
      let e : from + (k - from) ≡ k = omega arith in
      let inside = IsCharBoundary-part k (omega arith) cut_k in
      ap (breaks_at (is_grapheme_break false) text) (sym e) ∙ breaks_behind (k - from) (omega arith) inside ∙ none (k - from) (omega arith) (omega arith) inside)

-- the start of a text is a cluster boundary
pub is_cluster_boundary-start : (text : List ℕ) → IsUtf8 text → is_cluster_boundary text 0 ≡ true
is_cluster_boundary-start text u = cluster_boundary_is text 0 (IsCharBoundary-start text u) ∙ sym (breaks_at-start false text 0 refl)

-- of what follows, the rule reads one character
next_alone : (before : List ℕ) (c : ℕ) (a b : List ℕ) → is_grapheme_break false before (c ∷ a) ≡ is_grapheme_break false before (c ∷ b)
unfolding is_grapheme_break
next_alone [] c a b = refl
next_alone (last ∷ before) c a b = refl

-- a boundary of a text before another one, after which the text may change
module _ (text : List ℕ) (u : IsUtf8 text) (from at : ℕ) (cut_from : IsCharBoundary text from) (cut_at : IsCharBoundary text at) (low : from < at) where
  front_width : length (take from text) ≡ from
  front_width = length-take-le from text cut_from.0

  -- it stays where it is
  take_before : (rest : List ℕ) → take from (take at text ++ rest) ≡ take from text
  take_before rest =
      ap (λ t. take from (t ++ rest)) (take_split text from at (omega arith)) ∙ ap (take from) (append_assoc (take from text) (slice_range text from at) rest)
      ∙ take_at (take from text) (slice_range text from at ++ rest) from front_width

  drop_before : (rest : List ℕ) → drop from (take at text ++ rest) ≡ slice_range text from at ++ rest
  drop_before rest =
      ap (λ t. drop from (t ++ rest)) (take_split text from at (omega arith)) ∙ ap (drop from) (append_assoc (take from text) (slice_range text from at) rest)
      ∙ drop_at (take from text) (slice_range text from at ++ rest) from front_width

  between_utf8 : IsUtf8 (slice_range text from at)
  between_utf8 = IsUtf8-between text from at u (omega arith) cut_from cut_at

  breaks_before : (cs rest : List ℕ) → chars (slice_range text from at) ≡ cs → breaks_at (is_grapheme_break false) (take at text ++ rest) from ≡ is_grapheme_break false (chars_before text from) (cs ++ [])
  breaks_before [] rest e =
      let none : length (slice_range text from at) ≡ 0 = ap length (sym (encodes-chars (slice_range text from at) between_utf8)) ∙ ap (λ t. length (encode_utf8_all t)) e in
      absurd (omega (arith, length-slice_range text from at cut_at.0))
  breaks_before (c ∷ cs) rest e =
      ap₂ (is_grapheme_break false) (ap (λ t. reverse (chars t)) (take_before rest)) (ap chars (drop_before rest) ∙ chars-append (slice_range text from at) rest between_utf8 ∙ ap (λ t. t ++ chars rest) e)
      ∙ next_alone (chars_before text from) c (cs ++ chars rest) (cs ++ [])

  breaks_still : (rest other : List ℕ) → breaks_at (is_grapheme_break false) (take at text ++ rest) from ≡ breaks_at (is_grapheme_break false) (take at text ++ other) from
  breaks_still rest other = breaks_before _ rest refl ∙ sym (breaks_before _ other refl)

  -- an insertion after it leaves it a cluster boundary
  begins_before : (t : List ℕ) → IsUtf8 (insert_slice text at t) → is_cluster_boundary text from ≡ true
      → IsCharBoundary (insert_slice text at t) from × (is_cluster_boundary (insert_slice text at t) from ≡ true)
  begins_before t v begins =
      let split : insert_slice text at t ≡ take at text ++ (t ++ drop at text) = append_assoc (take at text) t (drop at text) in
      let fits : at ≤ length text = cut_at.0 in
      let longer : from ≤ length (insert_slice text at t) = omega (arith, ap length split, length-append (take at text) (t ++ drop at text), length-take-le at text fits) in
      let cut = IsCharBoundary-from_take (insert_slice text at t) from v longer (subst IsUtf8 (sym (ap (take from) split ∙ take_before (t ++ drop at text))) (IsUtf8-take text from u cut_from)) in (
        cut,
        cluster_boundary_is _ from cut ∙ ap (λ s. breaks_at (is_grapheme_break false) s from) split ∙ breaks_still (t ++ drop at text) (drop at text)
            ∙ ap (λ s. breaks_at (is_grapheme_break false) s from) (take-append-drop at text) ∙ sym (cluster_boundary_is text from cut_from) ∙ begins,
      )

-- the same of a boundary that is the start of the text or before the insertion
pub begins-insert : (text t : List ℕ) (from at : ℕ) → IsUtf8 text → IsCharBoundary text from → IsCharBoundary text at → (0 < from → from < at) → IsUtf8 (insert_slice text at t)
    → is_cluster_boundary text from ≡ true → IsCharBoundary (insert_slice text at t) from × (is_cluster_boundary (insert_slice text at t) from ≡ true)
begins-insert text t from at u cut_from cut_at low v begins =
    ⊎_elim
    (λ some. begins_before text u from at cut_from cut_at (low some) t v begins)
    (λ none.
    let e : 0 ≡ from = omega arith in
    subst (λ n. IsCharBoundary (insert_slice text at t) n × (is_cluster_boundary (insert_slice text at t) n ≡ true)) e (IsCharBoundary-start _ v, is_cluster_boundary-start _ v))
    (cases_lt 0 from)

-- a cluster boundary that is known up to a cursor
pub record KnownBoundary (text : List ℕ) (from cursor : ℕ) : Type 0 where
  pub boundary : IsCharBoundary text from
  pub begins : is_cluster_boundary text from ≡ true
  pub order : from ≤ cursor
  pub before : 0 < from → from < cursor

-- the start is one
pub KnownBoundary-start : (text : List ℕ) (cursor : ℕ) → IsUtf8 text → KnownBoundary text 0 cursor
KnownBoundary-start text cursor u =
    record { boundary = IsCharBoundary-start text u; begins = is_cluster_boundary-start text u; order = omega arith; before = λ some. absurd (omega arith) }
