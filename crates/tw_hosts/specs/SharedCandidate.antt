-- What all of several texts begin with, and a candidate that several candidates share.
use Rattle.std.specs.Prelude.{ℕ, ◌-◌, ◌==◌, Bool, ◌&&◌, List, [], ◌∷◌, length, map, nat_lt, Option, Some, None, option_map, unwrap_or, if◌then◌else◌, ◌+◌, take, eqb}
use Rattle.std.specs.List.{list_all, starts_with}
use Rattle.tw_host.specs.CandidateView.{CandidateView}
use Rattle.tw_line.specs.Extremes.{greatest_below}
use Rattle.tw_line.specs.Boundaries.{is_boundary}

-- whether the first n bytes of a text are whole characters, and each of the others begins with them
abbrev pub is_shared : List ℕ → List (List ℕ) → ℕ → Bool
is_shared text others n = is_boundary text n && list_all (λ other. starts_with eqb other (take n text)) others

-- the greatest number of bytes of a text that is shared so
abbrev pub shared_len : List ℕ → List (List ℕ) → ℕ
shared_len text others = unwrap_or (greatest_below (is_shared text others) (length text + 1)) 0

-- the longest text in whole characters with which each begins; the empty one where there is none
abbrev pub common_beginning : List (List ℕ) → List ℕ
common_beginning [] = []
common_beginning (text ∷ others) = take (shared_len text others) text

-- the texts of candidates
abbrev pub candidate_texts : List CandidateView → List (List ℕ)
candidate_texts candidates = map (λ candidate. candidate.text) candidates

-- whether a candidate is for this part of the line, and whether all are
abbrev pub is_for_part : ℕ → ℕ → CandidateView → Bool
is_for_part start end candidate = (candidate.start == start) && (candidate.end == end)

abbrev pub is_one_part : ℕ → ℕ → List CandidateView → Bool
is_one_part start end candidates = list_all (is_for_part start end) candidates

-- the candidate of a text for a part, if all candidates are for that part, and the text is longer than it
abbrev pub if_longer : ℕ → ℕ → List CandidateView → List ℕ → Option CandidateView
if_longer start end candidates text =
    if is_one_part start end candidates && nat_lt (end - start) (length text) then Some (record { start = start; end = end; text = text }) else None

-- the candidate for what several candidates share
abbrev pub shared_candidate : List CandidateView → Option CandidateView
shared_candidate [] = None
shared_candidate (first ∷ []) = None
shared_candidate (first ∷ second ∷ others) =
    let candidates = first ∷ second ∷ others in
    if_longer first.start first.end candidates (common_beginning (candidate_texts candidates))

-- that candidate alone, or where there is none the candidates
abbrev pub beginning_first : List CandidateView → List CandidateView
beginning_first candidates = unwrap_or (option_map (λ shared. shared ∷ []) (shared_candidate candidates)) candidates
