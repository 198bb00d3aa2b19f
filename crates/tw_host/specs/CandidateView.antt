-- A completion candidate, and what it makes of a cut text.
use Rattle.std.specs.Prelude.{ℕ, ◌+◌, ◌-◌, Bool, nat_le, ◌&&◌, Option, Some, None, if◌then◌else◌, List, ◌++◌, length, take, drop, string_bytes}
use Rattle.tw_line.specs.Cut.{Cut, cut_at}
use Rattle.tw_line.specs.Boundaries.{is_boundary}
use Rattle.tw_host.specs.declared.host.CompletionCandidate.{CompletionCandidate}

-- a range of byte offsets, and the bytes of a text
pub record CandidateView : Type 0 where
  pub start : ℕ
  pub end : ℕ
  pub text : List ℕ

-- the view of a candidate
abbrev pub candidate_view : CompletionCandidate → CandidateView
candidate_view c = record { start = c.range.start; end = c.range.end; text = string_bytes c.text }

-- the line with the text in the place of the range
abbrev pub line_with : Cut → CandidateView → List ℕ
line_with cut c = take c.start cut.line ++ (c.text ++ drop c.end cut.line)

-- where the cursor comes to stand: it goes by the length of the text, less that of the range
abbrev pub landing : Cut → CandidateView → ℕ
landing cut c = cut.cursor + length c.text + c.start - c.end

-- the range lies in the line between two boundaries, and the landing is not below 0 and a boundary of the new line
unfoldable pub fits : Cut → CandidateView → Bool
fits cut c =
    nat_le c.start c.end
    && (nat_le c.end (length cut.line)
    && (is_boundary cut.line c.start
    && (is_boundary cut.line c.end
    && (nat_le c.end (cut.cursor + length c.text + c.start)
    && is_boundary (line_with cut c) (landing cut c)))))

-- the cut text that a candidate makes, if it fits
abbrev pub completed_by : CandidateView → Cut → Option Cut
completed_by c cut = if fits cut c then Some (cut_at (line_with cut c) (landing cut c)) else None
