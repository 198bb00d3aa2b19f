-- A text cut after its first extended grapheme cluster.
use Rattle.std.specs.Prelude.{ℕ, ◌<◌, ◌≡◌, Bool, true, false, not, ◌&&◌, ◌||◌, leb, List, [], ◌∷◌, ◌++◌, length, take, drop, if◌then◌else◌}
use Rattle.std.specs.Str.{IsCharBoundary}
use Rattle.ucd_table.specs.Rows.{Range, in_ranges}
use Rattle.ucd_breaks.specs.GraphemeClusterBreak.{grapheme_cluster_break}
use Rattle.ucd_breaks.specs.declared.GraphemeClusterBreak.{GraphemeClusterBreak}
use Rattle.ucd_breaks.specs.declared.GraphemeClusterBreak.TheVariants.{Extend, Other, SpacingMark, Zwj}
use Rattle.ucd_derived.specs.IndicConjunctBreak.{indic_conjunct_break}
use Rattle.ucd_emoji.specs.Binary.{is_extended_pictographic}
use Rattle.ucd_derived.specs.declared.IndicConjunctBreak.{IndicConjunctBreak}
use Rattle.ucd_derived.specs.declared.IndicConjunctBreak.TheVariants as conjuncts
use Rattle.unicode_segmentation.specs.Grapheme.{graphemes, is_extend}
use Rattle.tw_surface.specs.Characters.{is_printable}

-- the bytes of a character that begins with this byte, where all such characters are a cluster each in a row of
-- them: printable ASCII, Latin, Greek and Cyrillic of two bytes, Han. Else 0
abbrev pub lone_len : ℕ → ℕ
lone_len lead =
    if is_printable lead then 1
    else if (leb 0xC3 lead && leb lead 0xCB) || (leb 0xCE lead && leb lead 0xD1) then 2
    else if leb 0xE4 lead && leb lead 0xE9 then 3
    else 0

-- the characters that such bytes begin
abbrev pub lone_ranges : List Range
lone_ranges = (0x20, 0x7E) ∷ (0xC0, 0x2FF) ∷ (0x380, 0x47F) ∷ (0x4000, 0x9FFF) ∷ []

-- two of these are a flag
abbrev pub flag_letters : List Range
flag_letters = (0x1F1E6, 0x1F1FF) ∷ []

-- characters of one column that are a cluster each before any that does not join them: letters of Hebrew, Arabic,
-- Devanagari, Tamil and Thai, accented Latin and Greek, punctuation, arrows, mathematics, box drawing, Braille, private
-- use, halfwidth kana
abbrev pub narrow_blocks : List Range
narrow_blocks =
    (0x05D0, 0x05FF) ∷ (0x0620, 0x064A) ∷ (0x0676, 0x06D5) ∷ (0x0904, 0x0939) ∷ (0x0B83, 0x0BB9)
    ∷ (0x0E01, 0x0E30) ∷ (0x0E40, 0x0E46) ∷ (0x1E00, 0x200A) ∷ (0x2010, 0x2027)
    ∷ (0x2070, 0x20CF) ∷ (0x20F1, 0x2319) ∷ (0x232B, 0x23E8) ∷ (0x23F4, 0x25FC) ∷ (0x27C0, 0x2B1A) ∷ (0xE000, 0xF8FF)
    ∷ (0xFF61, 0xFF9D) ∷ []

-- emoji that are such characters, of two columns
abbrev pub picture_blocks : List Range
picture_blocks =
    (0x1F300, 0x1F320) ∷ (0x1F337, 0x1F37C) ∷ (0x1F3A0, 0x1F3CA) ∷ (0x1F400, 0x1F43E) ∷ (0x1F442, 0x1F4FC)
    ∷ (0x1F4FF, 0x1F53D) ∷ (0x1F5FB, 0x1F64F) ∷ (0x1F680, 0x1F6C5) ∷ (0x1F90C, 0x1F93A) ∷ (0x1F947, 0x1F9FF) ∷ []

-- all such characters of two columns: kana, Hanzi with their marks, fullwidth forms, emoji
abbrev pub wide_blocks : List Range
wide_blocks =
    (0x3000, 0x3029) ∷ (0x3041, 0x3096) ∷ (0x309B, 0x30FF) ∷ (0x3250, 0xA48C) ∷ (0xF900, 0xFAFF) ∷ (0xFF01, 0xFF60)
    ∷ picture_blocks

-- skin tones of emoji
abbrev pub skin_tones : List Range
skin_tones = (0x1F3FB, 0x1F3FF) ∷ []

-- Hangul
abbrev pub syllables : List Range
syllables = (0xAC00, 0xD7A3) ∷ []

-- nothing joins a syllable there
abbrev pub ends_syllable : List ℕ → Bool
ends_syllable [] = true
ends_syllable (c ∷ cs) = in_ranges syllables c || in_ranges lone_ranges c

-- the columns of such a character. Else 0
abbrev pub lone_columns : ℕ → ℕ
lone_columns c = if in_ranges narrow_blocks c then 1 else if in_ranges wide_blocks c then 2 else 0

-- a character that joins whatever stands before it, if that is no line end and no control character
abbrev pub is_joined : GraphemeClusterBreak → Bool
is_joined Extend = true
is_joined Zwj = true
is_joined SpacingMark = true
is_joined _ = false

-- a linker of conjuncts, or a mark that may stand behind one
abbrev pub is_linking : IndicConjunctBreak → Bool
is_linking conjuncts.Linker = true
is_linking conjuncts.Extend = true
is_linking _ = false

abbrev pub is_linker : IndicConjunctBreak → Bool
is_linker conjuncts.Linker = true
is_linker _ = false

abbrev pub is_other : GraphemeClusterBreak → Bool
is_other Other = true
is_other _ = false

-- a base: nothing follows it in its cluster but what joins whatever stands before it
abbrev pub stands_alone : ℕ → Bool
stands_alone c = is_other (grapheme_cluster_break c) && not (is_linking (indic_conjunct_break c))

-- blocks in which a mark adds its own columns, whatever stands before it
abbrev pub mark_blocks : List Range
mark_blocks = (0x300, 0x337) ∷ (0x339, 0x200C) ∷ (0x200E, 0x2CFF) ∷ []

-- blocks in which a linker and a consonant add one column: India's scripts, Myanmar's, and what is no subscript of
-- Khmer's
abbrev pub conjunct_blocks : List Range
conjunct_blocks =
    (0x900, 0xDFF) ∷ (0x1000, 0x109F) ∷ (0x1783, 0x1783) ∷ (0x1788, 0x1788) ∷ (0x178D, 0x178D) ∷ (0x1794, 0x1794)
    ∷ (0x1799, 0x179A) ∷ (0x17A1, 0x17A1) ∷ (0x17D2, 0x17D2) ∷ []

-- letters of Khmer that take no column behind its linker
abbrev pub khmer_subscripts : List Range
khmer_subscripts =
    (0x1780, 0x1782) ∷ (0x1784, 0x1787) ∷ (0x1789, 0x178C) ∷ (0x178E, 0x1793) ∷ (0x1795, 0x1798) ∷ (0x179B, 0x179D)
    ∷ (0x17A0, 0x17A0) ∷ (0x17A2, 0x17A2) ∷ []

-- a mark that may stand between a pictograph and a joiner: no linker
abbrev pub is_plain_extend : ℕ → Bool
is_plain_extend c = is_extend (grapheme_cluster_break c) && not (is_linker (indic_conjunct_break c))

-- a pictograph that is a base
abbrev pub is_picture : ℕ → Bool
is_picture c = stands_alone c && is_extended_pictographic c

-- the characters begin with none that joins what stands before it
abbrev pub starts_apart : List ℕ → Bool
starts_apart [] = true
starts_apart (c ∷ cs) = not (is_joined (grapheme_cluster_break c))

-- the first cluster ends at the offset, and the others are those of the rest
pub record IsFirstCluster (text : List ℕ) (end : ℕ) : Type 0 where
  pub some : 0 < end
  pub boundary : IsCharBoundary text end
  pub first : graphemes true text ≡ take end text ∷ graphemes true (drop end text)

-- a cluster and a rest are the first cluster of a text, which is not empty, and what follows it
abbrev pub IsSplit : List ℕ → List ℕ → List ℕ → Type 0
IsSplit text cluster rest =
    (text ≡ cluster ++ rest) × (0 < length cluster) × (graphemes true text ≡ cluster ∷ graphemes true rest)
