-- What was shown so far, the plain text after it, and what is left to show are what the whole line shows.
use Rattle.std.proofs.Common.{ℕ, ◌≡◌, ◌≤◌, ◌++◌, length, map, string_bytes}
use denote.Text.{Utf8}
use denote.Shadow.{shadow}
use Rattle.tw_host.specs.ElementView.{element_view}
use Rattle.tw_hosts.specs.Tokens.{text_before, joined_elements, styled_line, styled_tokens}
use Rattle.tw_hosts.proofs.tokens.highlight_tokens.Given as goal

abbrev pub invariant-loop-rest : goal.invariant-loop-rest
invariant-loop-rest l =
    let keywords = map string_bytes l.keywords in
    shadow (Utf8 l.rest) × ((left : ℕ) × (length l.rest ≤ left) × (map element_view l.elements.items
    ++ text_before (string_bytes l.plain) (joined_elements (styled_tokens left l.styles keywords l.rest))
    ≡ styled_line l.styles keywords l.line))

abbrev pub decreases-loop-rest : goal.decreases-loop-rest
decreases-loop-rest l = length l.rest
