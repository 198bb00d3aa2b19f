-- A text's list of the starts of its characters.
use Rattle.std.proofs.Common.{◌≡◌, ◌≢◌, ℕ, ◌+◌, ◌^◌, ◌<◌, ◌≤◌, ⊎_elim, All, List, [], length, drop, slice_index, slice_index_or, vec_len, sym, ap, subst, ◌∙◌, arith}
use Rattle.std.proofs.lemmas.List.{get_or_read}
use Rattle.std.proofs.lemmas.List.Elements.{All-drop}
use Rattle.std.proofs.lemmas.Str.{IsUtf8-string_bytes}
use Rattle.std.specs.List.Sorted.{IsStrictlyIncreasing}
use Rattle.std.specs.Str.{chars, IsUtf8, IsCharBoundary}
use Rattle.tw_line.specs.Indices.{offset_of}
use Rattle.tw_line.specs.Starts.{starts_of}
use Rattle.tw_line.specs.Text.{bytes_of, chars_of, index_in, room_of, places_of, LacksRoom}
use Rattle.tw_line.specs.declared.text.Text.{Text}
use Rattle.tw_line.proofs.StartsLemmas.{length-starts_from, IsStrictlyIncreasing-starts_from, start_is, starts_of-inside, drop-starts_of, starts_from-above}

-- the text is UTF-8
pub bytes_utf8 : (t : Text) → IsUtf8 (bytes_of t)
bytes_utf8 t = IsUtf8-string_bytes t.line

-- a start for each character
pub starts-count : (t : Text) → vec_len t.starts ≡ length (chars_of t)
starts-count t = t.starts.ok.0 ∙ ap length t.listed ∙ length-starts_from 0 (chars_of t)

-- they rise
pub starts-rise : (t : Text) → IsStrictlyIncreasing t.starts.items
starts-rise t = subst IsStrictlyIncreasing (sym t.listed) (IsStrictlyIncreasing-starts_from 0 (chars_of t))

-- where the character of an index starts
pub start-of : (t : Text) (k : ℕ) → k < length (chars_of t) → slice_index t.starts.items k ≡ offset_of (bytes_of t) k
start-of t k h = ap (λ s. slice_index s k) t.listed ∙ start_is (bytes_of t) (bytes_utf8 t) k h

-- the text is no longer than memory
pub length-bytes : (t : Text) → length (bytes_of t) < 2 ^ 63
length-bytes t = omega (arith, t.line.bytes.ok.0, t.line.bytes.ok.1, t.line.bytes.small)

-- a start that is raised fits
pub starts-fit : (t : Text) (by : ℕ) → by < 2 ^ 63 → (k : ℕ) → All (λ n. n + by < 2 ^ 64) (drop k t.starts.items)
starts-fit t by low k =
    All-drop (λ n. n + by < 2 ^ 64) k t.starts.items
    (λ i d h. let inside = subst (All (λ n. n < length (bytes_of t))) (sym t.listed) (starts_of-inside (bytes_of t) (bytes_utf8 t)) i d h in omega (arith, length-bytes t))

-- the starts from a boundary on are not below it
pub starts-from_boundary : (t : Text) (at k : ℕ) → IsCharBoundary (bytes_of t) at → k ≡ index_in t at → All (λ n. at ≤ n) (drop k t.starts.items)
starts-from_boundary t at k cut e =
    subst (All (λ n. at ≤ n)) (sym (ap (λ s. drop k s) t.listed ∙ ap (λ n. drop n (starts_of (bytes_of t))) e ∙ drop-starts_of (bytes_of t) (bytes_utf8 t) at cut)) (starts_from-above at _)

-- the same of a start that was read
pub start-read : (t : Text) (k n : ℕ) → k < length (chars_of t) → n ≡ slice_index_or t.starts.items k n → n ≡ offset_of (bytes_of t) k
start-read t k n h e = get_or_read t.starts.items k n (omega (arith, starts-count t, t.starts.ok.0)) e 0 ∙ start-of t k h

-- the text has room for what it holds
pub room-enough : (t : Text) → length (bytes_of t) ≤ room_of t
room-enough t = omega (arith, t.line.bytes.ok.0, t.line.bytes.ok.1)

-- and places for the starts of its characters
pub places-enough : (t : Text) → length (chars_of t) ≤ places_of t
places-enough t = omega (arith, starts-count t, t.starts.ok.1)

-- room is lacking for a text that is not empty alone
pub lacks-some : (t : Text) (text : List ℕ) → LacksRoom (length text) (length (chars text)) t → text ≢ []
unfolding chars
lacks-some t text lacks empty =
    let bytes : length text ≡ 0 = ap length empty in
    let characters : length (chars text) ≡ 0 = ap (λ s. length (chars s)) empty in
    ⊎_elim (λ full. omega (arith, room-enough t)) (λ full. omega (arith, places-enough t)) lacks
