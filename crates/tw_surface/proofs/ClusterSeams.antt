-- What stands before a boundary of extended grapheme clusters decides nothing after it.
use Rattle.std.proofs.Common.{◌≡◌, ℕ, Bool, true, false, not, ◌&&◌, ◌||◌, List, [], ◌∷◌, ◌++◌, map, unwrap_or, refl, sym, ap, ap₂, ◌∙◌, arith, ⊎_elim}
use Rattle.std.proofs.lemmas.Bool.{cases_Bool, not-true, false≢true}
use Rattle.ucd_table.proofs.Facts.{Stepped-everywhere}
use Rattle.ucd_table.proofs.Stepped.{zip_stepped}
use Rattle.ucd_breaks.specs.GraphemeClusterBreak.{grapheme_cluster_break}
use Rattle.ucd_breaks.specs.declared.GraphemeClusterBreak.{GraphemeClusterBreak}
use Rattle.ucd_breaks.specs.declared.GraphemeClusterBreak.TheVariants.{Control, Cr, Extend, Lf, SpacingMark, Zwj}
use Rattle.ucd_breaks.proofs.Computing.{ucd_breaks}
use Rattle.ucd_breaks.proofs.GraphemeClusterBreakLemmas.{grapheme_cluster_break_stepped}
use Rattle.ucd_derived.specs.IndicConjunctBreak.{indic_conjunct_break}
use Rattle.ucd_derived.specs.declared.IndicConjunctBreak.{IndicConjunctBreak}
use Rattle.ucd_derived.specs.declared.IndicConjunctBreak.TheVariants as conjuncts
use Rattle.ucd_derived.proofs.Computing.{ucd_derived}
use Rattle.ucd_derived.proofs.IndicConjunctBreakLemmas.{indic_conjunct_break_stepped}
use Rattle.ucd_emoji.specs.Binary.{is_extended_pictographic}
use Rattle.ucd_emoji.proofs.BinaryLemmas.{is_extended_pictographic_stepped}
use Rattle.ucd_emoji.proofs.Computing.{ucd_emoji}
use Rattle.unicode_segmentation.specs.Grapheme.{break_by_pair, ends_in_linker, is_consonant, is_extend, is_zwj, is_regional, ends_in_pictograph, joins_emoji, ends_in_half_flag, is_grapheme_break}
use Rattle.unicode_segmentation.specs.Segments.{cut}
use Rattle.unicode_segmentation.proofs.BoolLemmas.{or-true}
use Rattle.unicode_segmentation.proofs.CursorLemmas.{break_between_regionals}
use Rattle.tw_surface.specs.Clusters.{is_joined, is_linking}

-- a line end or a control character
is_control : GraphemeClusterBreak → Bool
is_control Control = true
is_control Cr = true
is_control Lf = true
is_control _ = false

-- a mark that may stand after the linker of a conjunct
abbrev pub is_mark : IndicConjunctBreak → Bool
is_mark conjuncts.Extend = true
is_mark _ = false

control_no_pictograph : (c : ℕ) → not (is_control (grapheme_cluster_break c) && is_extended_pictographic c) ≡ true
unfolding is_control ucd_breaks ucd_emoji
control_no_pictograph =
    Stepped-everywhere _ (zip_stepped (λ g e. not (is_control g && e)) grapheme_cluster_break is_extended_pictographic grapheme_cluster_break_stepped is_extended_pictographic_stepped) refl

control_no_linker : (c : ℕ) → not (is_control (grapheme_cluster_break c) && is_linking (indic_conjunct_break c)) ≡ true
unfolding is_control ucd_breaks ucd_derived
control_no_linker =
    Stepped-everywhere _ (zip_stepped (λ g v. not (is_control g && is_linking v)) grapheme_cluster_break indic_conjunct_break grapheme_cluster_break_stepped indic_conjunct_break_stepped) refl

mark_joined : (c : ℕ) → not (is_mark (indic_conjunct_break c) && not (is_joined (grapheme_cluster_break c))) ≡ true
unfolding ucd_breaks ucd_derived
mark_joined =
    Stepped-everywhere _ (zip_stepped (λ v g. not (is_mark v && not (is_joined g))) indic_conjunct_break grapheme_cluster_break indic_conjunct_break_stepped grapheme_cluster_break_stepped) refl

-- a control character joins nothing
control_no_extend : (g : GraphemeClusterBreak) → is_control g ≡ true → is_extend g ≡ false
unfolding is_control
control_no_extend Extend h = absurd (false≢true h)
control_no_extend _ h = refl

pub ends_in_linker-not : (v : IndicConjunctBreak) (vs : List IndicConjunctBreak) → is_linking v ≡ false → ends_in_linker (v ∷ vs) ≡ false
unfolding ends_in_linker
ends_in_linker-not conjuncts.Linker vs h = absurd (false≢true (sym h))
ends_in_linker-not conjuncts.Extend vs h = absurd (false≢true (sym h))
ends_in_linker-not _ vs h = refl

joined-from_extend : (g : GraphemeClusterBreak) → (is_extend g || is_zwj g) ≡ true → is_joined g ≡ true
joined-from_extend Extend h = refl
joined-from_extend Zwj h = refl
joined-from_extend SpacingMark h = refl
joined-from_extend _ h = h

-- only after a control character does a character that joins begin a cluster
control_before : (left right : GraphemeClusterBreak) (rest : Bool) → is_joined right ≡ true
    → unwrap_or (break_by_pair true left right) rest ≡ true → is_control left ≡ true
unfolding is_control
control_before Control right rest joined breaks = refl
control_before Cr right rest joined breaks = refl
control_before Lf right rest joined breaks = refl
control_before left Extend rest joined breaks = breaks
control_before left Zwj rest joined breaks = breaks
control_before left SpacingMark rest joined breaks = breaks
control_before left right rest joined breaks = joined

-- what stands before a character, nearest first, joins nothing from it on
pub record Apart (before : List ℕ) (next : ℕ) : Type 0 where
  pub no_half_flag : is_regional (grapheme_cluster_break next) ≡ true → ends_in_half_flag before ≡ false
  pub no_pictograph : (is_extend (grapheme_cluster_break next) || is_zwj (grapheme_cluster_break next)) ≡ true → ends_in_pictograph before ≡ false
  pub no_linker : is_mark (indic_conjunct_break next) ≡ true → ends_in_linker (map indic_conjunct_break before) ≡ false

-- so it is where a cluster begins
pub Apart-from_break : (before : List ℕ) (next : ℕ) (after : List ℕ) → is_grapheme_break true before (next ∷ after) ≡ true → Apart before next
unfolding is_grapheme_break ends_in_half_flag ends_in_pictograph ends_in_linker
Apart-from_break [] next after breaks = record { no_half_flag = λ h. refl; no_pictograph = λ h. refl; no_linker = λ h. refl }
Apart-from_break (last ∷ before) next after breaks =
    let control : is_joined (grapheme_cluster_break next) ≡ true → is_control (grapheme_cluster_break last) ≡ true =
    λ joined. control_before (grapheme_cluster_break last) (grapheme_cluster_break next) _ joined breaks in
    record {
      no_half_flag = λ h.
          ⊎_elim
          (λ regional. not-true _ (sym (break_between_regionals true (last ∷ before) next after (omega arith) regional h) ∙ breaks))
          (λ other. rw other refl)
          (cases_Bool (is_regional (grapheme_cluster_break last)));
      no_pictograph = λ h.
          let is = control (joined-from_extend (grapheme_cluster_break next) h) in
          let alone = not-true _ (rw is at (control_no_pictograph last)) in
          let plain = control_no_extend (grapheme_cluster_break last) is in
          rw (alone, plain) refl;
      no_linker = λ h.
          let joined = not-true _ (rw h at (mark_joined next)) in
          let is = control (not-false (is_joined (grapheme_cluster_break next)) joined) in
          ends_in_linker-not (indic_conjunct_break last) (map indic_conjunct_break before) (not-true _ (rw is at (control_no_linker last)));
    }
  where
    not-false : (b : Bool) → not b ≡ false → b ≡ true
    not-false true h = refl
    not-false false h = sym h

-- then it makes no difference to the rules that look further back
module _ (first : ℕ) (before : List ℕ) (apart : Apart before first) where
  half_flag_same : (near : List ℕ) → ends_in_half_flag (near ++ first ∷ before) ≡ ends_in_half_flag (near ++ first ∷ [])
  unfolding ends_in_half_flag
  half_flag_same [] =
      ⊎_elim (λ regional. rw (regional, apart.no_half_flag regional) refl) (λ other. rw other refl) (cases_Bool (is_regional (grapheme_cluster_break first)))
  half_flag_same (c ∷ near) = ap (λ b. is_regional (grapheme_cluster_break c) && not b) (half_flag_same near)

  pictograph_same : (near : List ℕ) → ends_in_pictograph (near ++ first ∷ before) ≡ ends_in_pictograph (near ++ first ∷ [])
  unfolding ends_in_pictograph
  pictograph_same [] =
      ⊎_elim (λ extends. let none = apart.no_pictograph (rw extends refl) in rw (extends, none) refl) (λ other. rw other refl) (cases_Bool (is_extend (grapheme_cluster_break first)))
  pictograph_same (c ∷ near) = ap (λ b. is_extended_pictographic c || (is_extend (grapheme_cluster_break c) && b)) (pictograph_same near)

  emoji_same : (near : List ℕ) (next : ℕ) → joins_emoji (near ++ first ∷ before) next ≡ joins_emoji (near ++ first ∷ []) next
  unfolding ends_in_pictograph
  emoji_same [] next =
      ⊎_elim (λ zwj. let none = apart.no_pictograph (rw zwj (or-true _)) in rw (zwj, none) refl) (λ other. rw other refl) (cases_Bool (is_zwj (grapheme_cluster_break first)))
  emoji_same (c ∷ near) next = ap (λ b. is_zwj (grapheme_cluster_break c) && b && is_extended_pictographic next) (pictograph_same near)

  linker_step : (v : IndicConjunctBreak) (vs ws : List IndicConjunctBreak) → (is_mark v ≡ true → ends_in_linker vs ≡ ends_in_linker ws)
      → ends_in_linker (v ∷ vs) ≡ ends_in_linker (v ∷ ws)
  unfolding ends_in_linker
  linker_step conjuncts.Linker vs ws same = refl
  linker_step conjuncts.Extend vs ws same = same refl
  linker_step _ vs ws same = refl

  linker_same : (near : List ℕ) → ends_in_linker (map indic_conjunct_break (near ++ first ∷ before)) ≡ ends_in_linker (map indic_conjunct_break (near ++ first ∷ []))
  unfolding ends_in_linker
  linker_same [] = linker_step (indic_conjunct_break first) (map indic_conjunct_break before) [] apart.no_linker
  linker_same (c ∷ near) = linker_step (indic_conjunct_break c) _ _ (λ h. linker_same near)

  pub break_same : (near after : List ℕ) → is_grapheme_break true (near ++ first ∷ before) after ≡ is_grapheme_break true (near ++ first ∷ []) after
  unfolding is_grapheme_break
  break_same [] [] = refl
  break_same (c ∷ near) [] = refl
  break_same [] (next ∷ after) =
      ap₂ (λ k (e, h). unwrap_or (break_by_pair true (grapheme_cluster_break first) (grapheme_cluster_break next)) (not ((k && is_consonant (indic_conjunct_break next)) || e || (h && is_regional (grapheme_cluster_break next)))))
      (linker_same []) (ap₂ (λ e h. (e, h)) (emoji_same [] next) (half_flag_same []))
  break_same (c ∷ near) (next ∷ after) =
      ap₂ (λ k (e, h). unwrap_or (break_by_pair true (grapheme_cluster_break c) (grapheme_cluster_break next)) (not ((k && is_consonant (indic_conjunct_break next)) || e || (h && is_regional (grapheme_cluster_break next)))))
      (linker_same (c ∷ near)) (ap₂ (λ e h. (e, h)) (emoji_same (c ∷ near) next) (half_flag_same (c ∷ near)))

  -- so what follows is cut alike
  cut_behind : (near cs : List ℕ) → cut (is_grapheme_break true) (near ++ first ∷ before) cs [] ≡ cut (is_grapheme_break true) (near ++ first ∷ []) cs []
  unfolding cut
  cut_behind near [] = refl
  cut_behind near (c ∷ cs) = rw (break_same (c ∷ near) (cs ++ []), cut_behind (c ∷ near) cs) refl

-- and the clusters from a boundary on are those of the text that begins there
pub cut-from_boundary : (before : List ℕ) (next : ℕ) (cs : List ℕ) → is_grapheme_break true before (next ∷ cs) ≡ true
    → cut (is_grapheme_break true) before (next ∷ cs) [] ≡ cut (is_grapheme_break true) [] (next ∷ cs) []
unfolding cut
cut-from_boundary before next cs breaks =
    let apart = Apart-from_break before next cs breaks in
    rw (break_same next before apart [] (cs ++ []), cut_behind next before apart [] cs) refl
