-- What an application has prepared: the colours of a line, and what completes one.
use Rattle.std.specs.Prelude.{ℕ, ◌-◌, List, [], ◌∷◌, ◌++◌, length, take, drop, if◌then◌else◌}
use Rattle.tw_surface.specs.declared.cell.CellAttributes.{CellAttributes}
use Rattle.tw_surface.specs.Width.{column_width}
use Rattle.tw_line.specs.Boundaries.{boundary_below}
use Rattle.tw_line.specs.Cut.{Cut}
use Rattle.tw_host.specs.CandidateView.{CandidateView}
use Rattle.tw_host.specs.ElementView.{ElementView, Text}
use Rattle.tw_host.specs.HostRules.{HostRules, plain_rules}
use Rattle.tw_hosts.specs.Tokens.{styled_text}
use Rattle.tw_hosts.specs.Words.{is_same}
use Rattle.tw_key_parts.specs.Ring.{is_same_cut}
use Rattle.tw_prompt_host.specs.declared.prepared.StyledRange.{StyledRange}

-- how many bytes of what is left of a line of `total` bytes stand before a place of the line, in whole characters
abbrev pub bytes_before : ℕ → ℕ → List ℕ → ℕ
bytes_before total place rest = boundary_below rest (place - (total - length rest))

-- the ranges one after the other, each in what the ranges before it leave: what stands before a range, plain, and what
-- stands in it, in its attributes; and the rest of the line, plain
abbrev pub styled_from : ℕ → List StyledRange → List ℕ → List ElementView
styled_from total [] rest = Text rest ∷ []
styled_from total (range ∷ ranges) rest =
    let start = bytes_before total range.start rest in
    let inside = drop start rest in
    let end = bytes_before total range.end inside in
    Text (take start rest) ∷ (styled_text range.attributes (take end inside) ++ styled_from total ranges (drop end inside))

-- a line with ranges in their attributes
abbrev pub styled_ranges : List StyledRange → List ℕ → List ElementView
styled_ranges ranges line = styled_from (length line) ranges line

-- the attributes of the prompt; a line and its ranges; a line with its cursor and what completes it; the history
pub record PreparedView : Type 0 where
  pub prompt : CellAttributes
  pub line : List ℕ
  pub ranges : List StyledRange
  pub asked : Cut
  pub candidates : List CandidateView
  pub lines : List (List ℕ)

-- another line than the prepared one is plain, and nothing completes it
abbrev pub prepared_rules : HostRules PreparedView
prepared_rules = record (plain_rules (λ (v : PreparedView). v.lines)) {
  prompt = λ v text. styled_text v.prompt text;
  highlight = λ v cut. record {
    elements = styled_ranges (if is_same cut.line v.line then v.ranges else []) cut.line;
    column = column_width (take cut.cursor cut.line);
  };
  candidates = λ v cut. if is_same_cut cut v.asked then v.candidates else [];
}
