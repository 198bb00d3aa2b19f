-- What is taken of a source and of what is held back, call after call.
use Rattle.std.proofs.Common.{◌≡◌, ◌==◌, ◌≤◌, ◌<◌, ◌&&◌, ℕ, List, [], ◌∷◌, ◌++◌, Bool, true, false, Some, None, length, map, refl, sym, ap, ◌∙◌, append_assoc, append-nil, arith, eqb-true, if◌then◌else◌}
use Rattle.std.specs.Prelude.{encode_utf8, encode_utf8_all}
use Rattle.std.specs.List.{list_all}
use Rattle.std.proofs.lemmas.List.{length-append, map-append}
use Rattle.std.proofs.lemmas.Str.{encodes-append}
use Rattle.tw_input.specs.EventView.{EventView, Key, Resized, Paste, Wake}
use Rattle.tw_input.specs.declared.key.KeyCode.{KeyCode}
use Rattle.tw_input.specs.declared.key.KeyCode.TheVariants.{Char, Backspace, Tab, Enter, Escape, Insert, Delete, Home, End, PageUp, PageDown, LeftArrow, RightArrow, UpArrow, DownArrow, ApplicationLeftArrow, ApplicationRightArrow, ApplicationUpArrow, ApplicationDownArrow, Function}
use Rattle.tw_surface.proofs.LoneCharacters.{some_bytes}
use Rattle.tw_lineedit.proofs.UseLemmas.{both_uses}
use Rattle.tw_device.specs.Calls.{all_events}
use Rattle.tw_prompt.specs.Joined.{AreRight, IsRight, Moves, Piece, Pieced, Run, Single, character_in, character_of, is_joining, run_event, told_in, told_in_all, piece_events, typed_in_all, key_of_character}

some-same : {X : Type 0} {x y : X} → Some x ≡ Some y → x ≡ y
some-same e = cc

all_of_both : (parts more : List (List EventView)) → all_events (parts ++ more) ≡ all_events parts ++ all_events more
all_of_both [] more = refl
all_of_both (part ∷ parts) more = ap (λ es. part ++ es) (all_of_both parts more) ∙ sym (append_assoc part (all_events parts) (all_events more))

module _ {S : Type 0} (told : S → List EventView) (Follows : S → S → List EventView → Type 0) where
  -- no call, and nothing is taken
  pub moves_nothing : (s : S) (held : List EventView) → Moves told Follows s held s held []
  moves_nothing s held = (([], sym (append-nil (told s)), refl), append-nil held)

  -- no call, and what was held back is taken
  pub moves_held : (s : S) (held : List EventView) → Moves told Follows s held s [] held
  moves_held s held = (([], sym (append-nil (told s)), refl), refl)

  -- one call, and what it tells is taken
  pub moves_call : (old new : S) (events : List EventView) → Follows old new events → told new ≡ told old ++ events → Moves told Follows old [] new [] events
  moves_call old new events follows grown = ((events ∷ [], grown ∙ ap (λ es. told old ++ es) (sym (append-nil events)), (new, follows, refl)), refl)

  -- the same, by what is held back
  pub moves_as : (s t : S) (h h' k k' taken : List EventView) → h ≡ h' → k ≡ k' → Moves told Follows s h t k taken → Moves told Follows s h' t k' taken
  moves_as s t h h' k k' taken before after moves = (moves.0, ap (λ es. es ++ all_events moves.0.0) (sym before) ∙ moves.1 ∙ ap (λ es. taken ++ es) after)

  -- what was taken last is held back
  pub moves_back : (old new : S) (held taken back : List EventView) → Moves told Follows old held new [] (taken ++ back) → Moves told Follows old held new back taken
  moves_back old new held taken back moves = (moves.0, moves.1 ∙ append-nil (taken ++ back))

  -- the same, by what is taken
  pub moves_of : (s t : S) (h k taken taken' : List EventView) → taken ≡ taken' → Moves told Follows s h t k taken → Moves told Follows s h t k taken'
  moves_of s t h k taken taken' same moves = (moves.0, moves.1 ∙ ap (λ es. es ++ k) same)

  -- one after the other
  pub moves_then : (s t u : S) (h k l taken more : List EventView) → Moves told Follows s h t k taken → Moves told Follows t k u l more → Moves told Follows s h u l (taken ++ more)
  moves_then s t u h k l taken more first second =
      let a = first.0 in
      let b = second.0 in
      let all = all_of_both a.0 b.0 in (
        (
          a.0 ++ b.0,
          b.1 ∙ ap (λ es. es ++ all_events b.0) a.1 ∙ append_assoc (told s) (all_events a.0) (all_events b.0) ∙ ap (λ es. told s ++ es) (sym all),
          both_uses Follows a.0 b.0 s t u a.2 b.2,
        ),
        ap (λ es. h ++ es) all
            ∙ sym (append_assoc h (all_events a.0) (all_events b.0))
            ∙ ap (λ es. es ++ all_events b.0) first.1
            ∙ append_assoc taken k (all_events b.0)
            ∙ ap (λ es. taken ++ es) second.1
            ∙ sym (append_assoc taken more l),
      )

-- the event that types a character is its key
code_is : (key : KeyCode) (bits c : ℕ) (plain : Bool) → (bits == 0) ≡ plain → (if plain then character_of key else None) ≡ Some c
    → (Key (record { key = key; modifiers = record { 0 = bits } }) ≡ key_of_character c) × (is_joining c ≡ true)
code_is key bits c false other e = cc
code_is (Char d) bits c true same e = by (is_joining d) refl e
  where
    by : (b : Bool) → is_joining d ≡ b → (if b then Some d else None) ≡ Some c → (Key (record { key = Char d; modifiers = record { 0 = bits } }) ≡ key_of_character c) × (is_joining c ≡ true)
    by true printable e =
        let none : bits ≡ 0 = eqb-true bits 0 same in
        let this : d ≡ c = some-same e in
        (ap (λ n. Key (record { key = Char d; modifiers = record { 0 = n } })) none ∙ ap key_of_character this, ap is_joining (sym this) ∙ printable)
    by false other e = cc
code_is Backspace bits c true same e = cc
code_is Tab bits c true same e = cc
code_is Enter bits c true same e = cc
code_is Escape bits c true same e = cc
code_is Insert bits c true same e = cc
code_is Delete bits c true same e = cc
code_is Home bits c true same e = cc
code_is End bits c true same e = cc
code_is PageUp bits c true same e = cc
code_is PageDown bits c true same e = cc
code_is LeftArrow bits c true same e = cc
code_is RightArrow bits c true same e = cc
code_is UpArrow bits c true same e = cc
code_is DownArrow bits c true same e = cc
code_is ApplicationLeftArrow bits c true same e = cc
code_is ApplicationRightArrow bits c true same e = cc
code_is ApplicationUpArrow bits c true same e = cc
code_is ApplicationDownArrow bits c true same e = cc
code_is (Function n) bits c true same e = cc

pub character_is : (event : EventView) (c : ℕ) → character_in event ≡ Some c → (event ≡ key_of_character c) × (is_joining c ≡ true)
character_is (Key key) c e = code_is key.key key.modifiers.0 c (key.modifiers.0 == 0) refl e
character_is (Resized cols rows) c e = cc
character_is (Paste text) c e = cc
character_is Wake c e = cc

-- the bytes of one character more
pub bytes_more : (text : List ℕ) (c : ℕ) → encode_utf8_all text ++ encode_utf8 c ≡ encode_utf8_all (text ++ c ∷ [])
bytes_more text c = ap (λ bytes. encode_utf8_all text ++ bytes) (sym (append-nil (encode_utf8 c))) ∙ sym (encodes-append text (c ∷ []))

-- one character more of a run
pub keys_more : (text : List ℕ) (c : ℕ) → map key_of_character (text ++ c ∷ []) ≡ map key_of_character text ++ key_of_character c ∷ []
keys_more text c = map-append key_of_character text (c ∷ [])

pub text_more : (text : List ℕ) (c : ℕ) → list_all is_joining text ≡ true → is_joining c ≡ true → list_all is_joining (text ++ c ∷ []) ≡ true
text_more [] c all one = ap (λ b. b && true) one
text_more (d ∷ text) c all one =
    let (first, rest) = both (is_joining d) (list_all is_joining text) all in
    ap (λ b. b && list_all is_joining (text ++ c ∷ [])) first ∙ text_more text c rest one
  where
    both : (a b : Bool) → (a && b) ≡ true → (a ≡ true) × (b ≡ true)
    both true b e = (refl, e)
    both false b e = cc

-- a run as an event: the bytes of its first character, and those of all, tell whether there are others
pub run_is : (first : ℕ) (more lone run : List ℕ) → lone ≡ encode_utf8 first → run ≡ lone ++ encode_utf8_all more → length lone < length run → Paste run ≡ run_event first more
run_is first [] lone run one all long = absurd (omega (arith, long, ap length (all ∙ append-nil lone)))
run_is first (c ∷ more) lone run one all long = ap Paste (all ∙ ap (λ bytes. bytes ++ encode_utf8_all (c ∷ more)) one)

pub one_is : (first : ℕ) (more lone run : List ℕ) → run ≡ lone ++ encode_utf8_all more → length run ≤ length lone → key_of_character first ≡ run_event first more
one_is first [] lone run all short = refl
one_is first (c ∷ more) lone run all short =
    let both = ap length all ∙ length-append lone (encode_utf8_all (c ∷ more)) in
    let some = length-append (encode_utf8 c) (encode_utf8_all more) in
    absurd (omega (arith, short, both, some, some_bytes c))

-- a run as a piece
pub run_piece : ℕ → List ℕ → Piece
run_piece first [] = Single (key_of_character first)
run_piece first (c ∷ more) = Run (first ∷ c ∷ more)

pub run_right : (first : ℕ) (more : List ℕ) → is_joining first ≡ true → list_all is_joining more ≡ true → IsRight true (run_piece first more)
unfolding run_piece
run_right first [] one all = tt
run_right first (c ∷ more) one all = (refl, omega arith, ap (λ b. b && list_all is_joining (c ∷ more)) one ∙ all)

pub run_typed : (first : ℕ) (more : List ℕ) → piece_events (run_piece first more) ≡ map key_of_character (first ∷ more)
unfolding run_piece
run_typed first [] = refl
run_typed first (c ∷ more) = refl

pub run_told : (first : ℕ) (more : List ℕ) → told_in (run_piece first more) ≡ run_event first more ∷ []
unfolding run_piece
run_told first [] = refl
run_told first (c ∷ more) = refl

-- one piece more
pub right_more : (joins : Bool) (pieces : List Piece) (piece : Piece) → AreRight joins pieces → IsRight joins piece → AreRight joins (pieces ++ piece ∷ [])
right_more joins [] piece rights right = (right, tt)
right_more joins (first ∷ pieces) piece rights right = (rights.0, right_more joins pieces piece rights.1 right)

pub typed_more : (pieces : List Piece) (piece : Piece) → typed_in_all (pieces ++ piece ∷ []) ≡ typed_in_all pieces ++ piece_events piece
typed_more [] piece = append-nil (piece_events piece)
typed_more (first ∷ pieces) piece = ap (λ es. piece_events first ++ es) (typed_more pieces piece) ∙ sym (append_assoc (piece_events first) (typed_in_all pieces) (piece_events piece))

pub told_more : (pieces : List Piece) (piece : Piece) → told_in_all pieces ≡ [] → told_in_all (pieces ++ piece ∷ []) ≡ told_in piece
told_more [] piece none = append-nil (told_in piece)
told_more (first ∷ pieces) piece none =
    let parts = nothing (told_in first) (told_in_all pieces) none in
    ap (λ es. es ++ told_in_all (pieces ++ piece ∷ [])) parts.0 ∙ told_more pieces piece parts.1
  where
    nothing : (a b : List EventView) → a ++ b ≡ [] → (a ≡ []) × (b ≡ [])
    nothing [] b e = (refl, e)
    nothing (x ∷ a) b e = cc

module _ {S : Type 0} (told : S → List EventView) (Follows : S → S → List EventView → Type 0) (joins : Bool) (s t u : S) (h k l : List EventView) (pieces : List Piece) (so-far : Pieced told Follows joins s h t k pieces) where
  -- nothing more was taken
  pub pieced_nothing : Moves told Follows t k u l [] → Pieced told Follows joins s h u l pieces
  pieced_nothing moves = (so-far.0, moves_of told Follows s u h l (typed_in_all pieces ++ []) (typed_in_all pieces) (append-nil (typed_in_all pieces)) (moves_then told Follows s t u h k l (typed_in_all pieces) [] so-far.1 moves))

  -- a piece more was taken
  pub pieced_more : (piece : Piece) → IsRight joins piece → Moves told Follows t k u l (piece_events piece) → Pieced told Follows joins s h u l (pieces ++ piece ∷ [])
  pieced_more piece right moves = (
    right_more joins pieces piece so-far.0 right,
    moves_of told Follows s u h l (typed_in_all pieces ++ piece_events piece) (typed_in_all (pieces ++ piece ∷ [])) (sym (typed_more pieces piece)) (moves_then told Follows s t u h k l (typed_in_all pieces) (piece_events piece) so-far.1 moves),
  )
