-- The steps over words, from offset to offset.
use Rattle.std.specs.Prelude.{ℕ, List}
use Rattle.std.specs.Str.{chars}
use Rattle.tw_line.specs.Indices.{index_of, offset_of}
use Rattle.tw_line.specs.Words.{word_after, word_before}
use Rattle.tw_line.specs.declared.movements.Step.{Step}
use Rattle.tw_line.specs.declared.movements.Step.TheVariants.{BackwardWord, ForwardWord}

-- a step over characters, taken by an offset
abbrev pub by_offset : (ℕ → ℕ) → List ℕ → ℕ → ℕ
by_offset step text at = offset_of text (step (index_of text at))

-- where one step over a word leads from an offset
abbrev pub step_from : Step → List ℕ → ℕ → ℕ
step_from BackwardWord text = by_offset (word_before (chars text)) text
step_from ForwardWord text = by_offset (word_after (chars text)) text
