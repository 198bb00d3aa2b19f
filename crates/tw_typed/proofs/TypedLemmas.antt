-- What pieces and pauses hand out.
use Rattle.std.proofs.Common.{◌≡◌, ℕ, ◌+◌, ◌<◌, ◌&&◌, if◌then◌else◌, Bool, true, false, List, [], ◌∷◌, ◌++◌, length, drop, get_or, Option, None, Some, option_map, refl, sym, ap, ◌∙◌, subst, append_assoc, append-nil, add-one}
use Rattle.std.proofs.Math.Seq.{drop-cons}
use Rattle.std.specs.Io.KnownBytes.{Keeps, Consumes}
use Rattle.tw_typed.specs.declared.typed.Lull.{Lull}
use Rattle.tw_typed.specs.declared.typed.Lull.TheVariants.{Busy, Paused, Interrupted}
use Rattle.tw_typed.specs.PieceLaws.{InterruptEnds, InterruptStays, PiecesAreOne}
use Rattle.tw_typed.specs.Sieve.{SieveView, Sifted, sift, sift_all, sifted}
use Rattle.tw_typed.specs.Typed.{Heard, by_bytes, by_piece, given_too, is_alone, is_interrupt, is_paused, by_pause, known_after, left_after, resumed, resumed_in}

-- a piece, behind bytes, is its first byte and then the others
pub busy_piece : (given : List ℕ) (sieve : SieveView) (bytes : List ℕ)
    → by_piece (record { given = given; sieve = sieve; lull = Busy }) bytes ≡ by_bytes (record { given = given; sieve = sieve; lull = Busy }) bytes
busy_piece given sieve [] = ap (λ all. record { given = all; sieve = sieve; lull = Busy }) (sym (append-nil given))
busy_piece given sieve (b ∷ bytes) = refl

pub next_byte : (given : List ℕ) (sieve : SieveView) (b : ℕ) (bytes : List ℕ)
    → by_piece (record { given = given ++ (sift sieve b).given; sieve = (sift sieve b).next; lull = Busy }) bytes
    ≡ by_piece (record { given = given; sieve = sieve; lull = Busy }) (b ∷ bytes)
next_byte given sieve b bytes =
    busy_piece (given ++ (sift sieve b).given) (sift sieve b).next bytes
    ∙ ap (λ all. record { given = all; sieve = (sift_all (sift sieve b).next bytes).next; lull = Busy }) (append_assoc given (sift sieve b).given (sift_all (sift sieve b).next bytes).given)

next_at : (piece : List ℕ) (n : ℕ) → n < length piece → drop n piece ≡ get_or piece n 0 ∷ drop (n + 1) piece
next_at piece n within = rw add-one (drop-cons piece n 0 within)

pub next_of : (given : List ℕ) (sieve : SieveView) (piece : List ℕ) (n : ℕ) → n < length piece
    → by_piece (record { given = given ++ (sift sieve (get_or piece n 0)).given; sieve = (sift sieve (get_or piece n 0)).next; lull = Busy }) (drop (n + 1) piece)
    ≡ by_piece (record { given = given; sieve = sieve; lull = Busy }) (drop n piece)
next_of given sieve piece n within =
    next_byte given sieve (get_or piece n 0) (drop (n + 1) piece)
    ∙ ap (λ bytes. by_piece (record { given = given; sieve = sieve; lull = Busy }) bytes) (sym (next_at piece n within))

-- Bytes that are no Ctrl-C by itself come behind one that waits.
resumed_piece : (h : Heard) (b : ℕ) (bytes : List ℕ) → is_alone h (b ∷ bytes) ≡ false
    → by_piece (record (resumed h) { lull = Busy }) (b ∷ bytes) ≡ by_piece h (b ∷ bytes)
resumed_piece h b bytes apart =
    sym (ap (λ alone. if alone then record h { lull = Interrupted } else by_bytes (resumed h) (b ∷ bytes)) apart)

pub resumed_of : (h between : Heard) (piece unread : List ℕ) (n : ℕ) → n < length piece → is_alone h (drop n piece) ≡ false
    → between ≡ resumed h → unread ≡ drop n piece → by_piece (record between { lull = Busy }) unread ≡ by_piece h (drop n piece)
resumed_of h between piece unread n within apart is same =
    ap (λ taken. by_piece (record taken { lull = Busy }) unread) is
    ∙ (ap (λ left. by_piece (record (resumed h) { lull = Busy }) left) same
    ∙ subst (λ left. is_alone h left ≡ false → by_piece (record (resumed h) { lull = Busy }) left ≡ by_piece h left) (sym (next_at piece n within)) (resumed_piece h (get_or piece n 0) (drop (n + 1) piece)) apart)

-- ---- known bytes

pub steps_joined : (sieve : SieveView) (bytes more : List ℕ)
    → sifted sieve (bytes ++ more) ≡ (sift_all sieve bytes).given ++ sifted (sift_all sieve bytes).next more
steps_joined sieve [] more = refl
steps_joined sieve (b ∷ bytes) more =
    let first = sift sieve b in
    let all = sift_all first.next (bytes ++ more) in
    let some = sift_all first.next bytes in
    append_assoc first.given all.given all.next.held
    ∙ (ap (λ rest. first.given ++ rest) (steps_joined first.next bytes more) ∙ sym (append_assoc first.given some.given (sifted some.next more)))

read_busy : (given : List ℕ) (sieve : SieveView) (bytes : List ℕ) (old left : Option (List ℕ)) → Consumes old left bytes
    → Keeps (left_after (record { given = given; sieve = sieve; lull = Busy }) old) (left_after (by_piece (record { given = given; sieve = sieve; lull = Busy }) bytes) left)
read_busy given sieve bytes None left is = tt
read_busy given sieve bytes (Some xs) None is = absurd is
read_busy given sieve bytes (Some xs) (Some ys) is =
    let taken = sift_all sieve bytes in
    subst (λ h. Keeps (Some (given ++ sifted sieve xs)) (left_after h (Some ys))) (sym (busy_piece given sieve bytes))
    (append_assoc given taken.given (sifted taken.next ys) ∙ ap (λ rest. given ++ rest) (sym (steps_joined sieve bytes ys) ∙ ap (sifted sieve) (sym is)))

read_paused : (given : List ℕ) (sieve : SieveView) (bytes : List ℕ) (old left : Option (List ℕ)) → Consumes old left bytes
    → Keeps (left_after (record { given = given; sieve = sieve; lull = Paused }) old) (left_after (by_piece (record { given = given; sieve = sieve; lull = Paused }) bytes) left)
read_paused given sieve bytes None left is = tt
read_paused given sieve bytes (Some (x ∷ xs)) left is = tt
read_paused given sieve bytes (Some []) None is = absurd is
read_paused given sieve [] (Some []) (Some []) is = refl
read_paused given sieve [] (Some []) (Some (y ∷ ys)) is = absurd (cc is)
read_paused given sieve (b ∷ bytes) (Some []) (Some ys) is = absurd (cc is)

read_after : (lull : Lull) (given : List ℕ) (sieve : SieveView) (bytes : List ℕ) (old left : Option (List ℕ)) → Consumes old left bytes
    → Keeps (left_after (record { given = given; sieve = sieve; lull = lull }) old) (left_after (by_piece (record { given = given; sieve = sieve; lull = lull }) bytes) left)
read_after Busy given sieve bytes old left is = read_busy given sieve bytes old left is
read_after Paused given sieve bytes old left is = read_paused given sieve bytes old left is
read_after Interrupted given sieve bytes old left is = tt

pub read_keeps : (h : Heard) (unread bytes : List ℕ) (old left : Option (List ℕ)) → unread ≡ [] → Consumes old left bytes
    → Keeps (left_after (by_piece h unread) old) (left_after (by_piece h bytes) left)
read_keeps h unread bytes old left none is =
    subst (λ xs. Keeps (left_after (by_piece h xs) old) (left_after (by_piece h bytes) left)) (sym none) (read_after h.lull h.given h.sieve bytes old left is)

-- ---- what is handed out

abbrev behind : List ℕ → Heard → Heard
behind a h = record h { given = a ++ h.given }

given_behind : (a : List ℕ) (h : Heard) (sifted : Sifted) (lull : Lull)
    → given_too (behind a h) sifted lull ≡ behind a (given_too h sifted lull)
given_behind a h sifted lull =
    ap (λ given. record { given = given; sieve = sifted.next; lull = lull }) (append_assoc a h.given sifted.given)

resumed_behind : (a : List ℕ) (lull : Lull) (h : Heard) → resumed_in lull (behind a h) ≡ behind a (resumed_in lull h)
resumed_behind a Busy h = refl
resumed_behind a Paused h = refl
resumed_behind a Interrupted h = given_behind a h (sift h.sieve 3) Busy

choice_behind : (a : List ℕ) (c : Bool) (one other : Heard) → (if c then behind a one else behind a other) ≡ behind a (if c then one else other)
choice_behind a true one other = refl
choice_behind a false one other = refl

piece_behind : (a : List ℕ) (h : Heard) (bytes : List ℕ) → by_piece (behind a h) bytes ≡ behind a (by_piece h bytes)
piece_behind a h [] = refl
piece_behind a h (b ∷ bytes) =
    let alone : Heard = record h { lull = Interrupted } in
    let resumed_first = ap (λ it. by_bytes it (b ∷ bytes)) (resumed_behind a h.lull h) ∙ given_behind a (resumed h) (sift_all (resumed h).sieve (b ∷ bytes)) Busy in
    ap (λ other. if is_alone h (b ∷ bytes) then behind a alone else other) resumed_first
    ∙ choice_behind a (is_alone h (b ∷ bytes)) alone (by_bytes (resumed h) (b ∷ bytes))

known_behind : (a given : List ℕ) (sieve : SieveView) (old known : Option (List ℕ)) → Keeps old (option_map (λ bytes. (a ++ given) ++ sifted sieve bytes) known)
    → Consumes old (option_map (λ bytes. given ++ sifted sieve bytes) known) a
known_behind a given sieve None known keeps = tt
known_behind a given sieve (Some xs) None keeps = absurd keeps
known_behind a given sieve (Some xs) (Some bytes) keeps = sym keeps ∙ append_assoc a given (sifted sieve bytes)

pub hands_out : (a : List ℕ) (h : Heard) (unread : List ℕ) (old left : Option (List ℕ)) → Keeps old (left_after (by_piece (record h { given = a ++ h.given }) unread) left)
    → Consumes old (left_after (by_piece h unread) left) a
hands_out a h unread old left keeps =
    let after = by_piece h unread in
    known_behind a after.given after.sieve old (known_after after.lull left) (subst (λ it. Keeps old (left_after it left)) (piece_behind a h unread) keeps)

-- ---- the laws of pieces

steps_behind : (s : SieveView) (first second : List ℕ)
    → sift_all s (first ++ second) ≡ record { given = (sift_all s first).given ++ (sift_all (sift_all s first).next second).given; next = (sift_all (sift_all s first).next second).next }
steps_behind s [] second = refl
steps_behind s (b ∷ first) second =
    let one = sift s b in
    let some = sift_all one.next first in
    let more = sift_all some.next second in
    ap (λ (rest : Sifted). record { given = one.given ++ rest.given; next = rest.next }) (steps_behind one.next first second)
    ∙ ap (λ given. record { given = given; next = more.next }) (sym (append_assoc one.given some.given more.given))

pub pieces_are_one : PiecesAreOne
pieces_are_one given s first second =
    let some = sift_all s first in
    let more = sift_all some.next second in
    ap (λ h. by_piece h second) (busy_piece given s first)
    ∙ (busy_piece (given ++ some.given) some.next second
    ∙ (ap (λ all. record { given = all; sieve = more.next; lull = Busy }) (append_assoc given some.given more.given)
    ∙ (sym (ap (λ (all : Sifted). given_too (record { given = given; sieve = s; lull = Busy }) all Busy) (steps_behind s first second))
    ∙ sym (busy_piece given s (first ++ second)))))

waits : (given : List ℕ) (s : SieveView) → s.is_inside ≡ true
    → by_piece (record { given = given; sieve = s; lull = Paused }) (3 ∷ []) ≡ record { given = given; sieve = s; lull = Interrupted }
waits given s is =
    let h : Heard = record { given = given; sieve = s; lull = Paused } in
    ap (λ inside. if is_paused Paused && inside && is_interrupt (3 ∷ []) then record h { lull = Interrupted } else by_bytes h (3 ∷ [])) is

pub interrupt_ends : InterruptEnds
interrupt_ends given s is = ap by_pause (waits given s is)

pub interrupt_stays : InterruptStays
interrupt_stays given s b bytes is = ap (λ h. by_piece h (b ∷ bytes)) (waits given s is) ∙ next_byte given s 3 (b ∷ bytes)
