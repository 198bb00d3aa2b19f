-- What a reader of typed bytes hands out of the pieces and pauses that come from its own reader.
use Rattle.std.specs.Prelude.{ℕ, ◌&&◌, ◌==◌, if◌then◌else◌, Bool, true, false, List, [], ◌∷◌, ◌++◌, drop, Option, None, Some, option_map, option_and_then}
use Rattle.tw_typed.specs.declared.typed.Lull.{Lull}
use Rattle.tw_typed.specs.declared.typed.Lull.TheVariants.{Busy, Paused, Interrupted}
use Rattle.tw_typed.specs.declared.typed.Typed.{Typed}
use Rattle.tw_typed.specs.Sieve.{SieveView, Sifted, sift, sift_all, sifted, interrupted}

-- what the pieces and pauses so far hand out, but for what was taken of that; what is known of their bytes; and whether
-- a pause came last, or a Ctrl-C by itself behind one
pub record Heard : Type 0 where
  pub given : List ℕ
  pub sieve : SieveView
  pub lull : Lull

abbrev pub given_too : Heard → Sifted → Lull → Heard
given_too h sifted lull = record { given = h.given ++ sifted.given; sieve = sifted.next; lull = lull }

-- a Ctrl-C that ends no pasted text is a part of it
abbrev pub resumed_in : Lull → Heard → Heard
resumed_in Busy h = h
resumed_in Paused h = h
resumed_in Interrupted h = given_too h (sift h.sieve 3) Busy

abbrev pub resumed : Heard → Heard
resumed h = resumed_in h.lull h

abbrev pub by_bytes : Heard → List ℕ → Heard
by_bytes h bytes = given_too h (sift_all h.sieve bytes) Busy

-- whether a piece is a Ctrl-C by itself behind a pause in a pasted text
abbrev pub is_interrupt : List ℕ → Bool
is_interrupt (b ∷ []) = b == 3
is_interrupt _ = false

abbrev pub is_paused : Lull → Bool
is_paused Paused = true
is_paused _ = false

abbrev pub is_alone : Heard → List ℕ → Bool
is_alone h bytes = is_paused h.lull && h.sieve.is_inside && is_interrupt bytes

-- a piece, if it has bytes
abbrev pub by_piece : Heard → List ℕ → Heard
by_piece h [] = h
by_piece h (b ∷ bytes) = if is_alone h (b ∷ bytes) then record h { lull = Interrupted } else by_bytes (resumed h) (b ∷ bytes)

-- a pause
abbrev pub paused_in : Lull → Heard → Heard
paused_in Busy h = record h { lull = Paused }
paused_in Paused h = record h { lull = Paused }
paused_in Interrupted h = given_too h (interrupted h.sieve) Paused

abbrev pub by_pause : Heard → Heard
by_pause h = paused_in h.lull h

-- the end, if no Ctrl-C waits: what is held back is handed out
abbrev pub by_end : Heard → Heard
by_end h = given_too h (record { given = h.sieve.held; next = record h.sieve { held = []; matched = 0 } }) h.lull

-- ---- a reader

-- what it took of what it read
abbrev pub heard_of : {R C : Type 0} → Typed R C → Heard
heard_of it = record { given = it.ready.items; sieve = it.sieve; lull = it.lull }

-- what it read and did not take
abbrev pub untaken : {R C : Type 0} → Typed R C → List ℕ
untaken it = drop it.taken it.piece.items

-- what it read
abbrev pub heard_by : {R C : Type 0} → Typed R C → Heard
heard_by it = by_piece (heard_of it) (untaken it)

-- ---- known bytes

-- that there are no bytes, if that is known
abbrev pub none_left : List ℕ → Option (List ℕ)
none_left [] = Some []
none_left (_ ∷ _) = None

-- Bytes behind a pause are not known, since a Ctrl-C among them may be one by itself. If there are none, that is known.
abbrev pub known_after : Lull → Option (List ℕ) → Option (List ℕ)
known_after Busy left = left
known_after Paused left = option_and_then none_left left
known_after Interrupted left = None

-- what is handed out yet, if these bytes are left
abbrev pub left_after : Heard → Option (List ℕ) → Option (List ℕ)
left_after h left = option_map (λ bytes. h.given ++ sifted h.sieve bytes) (known_after h.lull left)

abbrev pub left_in : {R C : Type 0} → (R → Option (List ℕ)) → Typed R C → Option (List ℕ)
left_in remaining it = left_after (heard_by it) (remaining it.reader)
