-- What is handed out of typed bytes: a report of the cursor's place in a pasted text comes behind the text.
use Rattle.std.specs.Prelude.{ℕ, ◌+◌, ◌&&◌, ◌||◌, ◌==◌, if◌then◌else◌, nat_lt, not, Bool, true, false, List, [], ◌∷◌, ◌++◌, length, slice_index}

-- ESC [ 2 0 0 ~, the mark before a pasted text
abbrev pub start_mark : List ℕ
start_mark = 27 ∷ 91 ∷ 50 ∷ 48 ∷ 48 ∷ 126 ∷ []

-- ESC [ 2 0 1 ~, the mark behind it
abbrev pub end_mark : List ℕ
end_mark = 27 ∷ 91 ∷ 50 ∷ 48 ∷ 49 ∷ 126 ∷ []

-- What is known of the bytes so far: whether they lead into a pasted text; how many bytes of the mark that begins one,
-- or in one of the mark that ends it, came last; what is held back, a beginning of a control sequence in a pasted text;
-- whether a beginning of the end mark is right before that; and the last report in the pasted text.
pub record SieveView : Type 0 where
  pub is_inside : Bool
  pub matched : ℕ
  pub held : List ℕ
  pub follows_mark : Bool
  pub report : List ℕ

-- before the first byte, and behind each pasted text
abbrev pub outside : SieveView
outside = record { is_inside = false; matched = 0; held = []; follows_mark = false; report = [] }

-- what is handed out, and what is known then
pub record Sifted : Type 0 where
  pub given : List ℕ
  pub next : SieveView

-- how many bytes of a mark came last, if m did before this byte
abbrev pub matched_by : List ℕ → ℕ → ℕ → ℕ
matched_by mark m b = if b == 27 then 1 else if nat_lt m (length mark) && slice_index mark m == b then m + 1 else 0

-- ---- a key: it is handed out

abbrev pub with_start : ℕ → SieveView → SieveView
with_start m s = if m == 6 then record s { is_inside = true; matched = 0 } else record s { matched = m }

abbrev pub key : SieveView → ℕ → Sifted
key s b = record { given = b ∷ []; next = with_start (matched_by start_mark s.matched b) s }

-- ---- a byte of a pasted text, or of the mark behind it

-- digits and semicolons
abbrev pub is_number : ℕ → Bool
is_number b = (nat_lt 47 b && nat_lt b 58) || b == 59

-- whether what is held goes on with this byte: ESC [ and then numbers, at most 31 bytes
abbrev pub number_goes_on : List ℕ → ℕ → Bool
number_goes_on held b = if length held == 1 then b == 91 else is_number b && nat_lt (length held) 31

-- whether a byte makes a report of what is held: R behind ESC [ and at least three numbers
abbrev pub is_report : SieveView → ℕ → Bool
is_report s b = b == 82 && nat_lt 4 (length s.held) && not s.follows_mark

-- the pasted text ends with these bytes
abbrev pub at_paste_end : SieveView → List ℕ → Sifted
at_paste_end s bytes = record { given = s.held ++ bytes ++ s.report; next = outside }

abbrev pub held_on : SieveView → ℕ → Sifted
held_on s b =
    if matched_by end_mark s.matched b == 6 then at_paste_end s (b ∷ [])
    else if is_report s b then record { given = []; next = record s { report = s.held ++ b ∷ []; held = []; matched = 0 } }
    else if number_goes_on s.held b then record { given = []; next = record s { held = s.held ++ b ∷ []; matched = matched_by end_mark s.matched b } }
    else record { given = s.held ++ b ∷ []; next = record s { held = []; matched = 0 } }

abbrev pub pasted : SieveView → ℕ → Sifted
pasted s b =
    if b == 27 then record { given = s.held; next = record s { held = 27 ∷ []; matched = 1; follows_mark = nat_lt 0 s.matched } }
    else if length s.held == 0 then record { given = b ∷ []; next = s }
    else held_on s b

-- ---- all bytes

abbrev pub sift : SieveView → ℕ → Sifted
sift s b = if s.is_inside then pasted s b else key s b

-- what bytes hand out, one after the other
abbrev pub sift_all : SieveView → List ℕ → Sifted
sift_all s [] = record { given = []; next = s }
sift_all s (b ∷ bytes) = record { given = (sift s b).given ++ (sift_all (sift s b).next bytes).given; next = (sift_all (sift s b).next bytes).next }

-- what the last bytes hand out: what is held back behind them comes too
abbrev pub sifted : SieveView → List ℕ → List ℕ
sifted s bytes = (sift_all s bytes).given ++ (sift_all s bytes).next.held

-- A Ctrl-C that comes by itself between two pauses ends a pasted text: the mark is made, and comes before the key.
abbrev pub interrupted : SieveView → Sifted
interrupted s = record { given = (at_paste_end s end_mark).given ++ 3 ∷ []; next = outside }
