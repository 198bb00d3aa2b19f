-- What one more step of reading tells.
use Rattle.std.proofs.Common.{◌≡◌, ◌+◌, ℕ, Bool, true, false, not, ◌&&◌, cond, List, [], ◌∷◌, ◌++◌, Option, Some, None, take, drop, length, length-append, take-append-drop, refl, sym, ap, ◌∙◌, subst, append_assoc, append-nil, arith, inl, inr}
use Rattle.std.proofs.lemmas.Bool.{false≢true}
use Rattle.std.specs.Io.KnownBytes.{Keeps, Consumes, IsAtEnd}
use Rattle.std.proofs.KnownBytes.{Keeps-refl, Keeps-trans, Consumes-nil, Consumes-trans, Consumes-kept}
use Rattle.tw_input.specs.EventView.{EventView}
use Rattle.tw_ansi.specs.declared.token.Scanned.{Scanned}
use Rattle.tw_ansi.specs.declared.token.Token.{Token}
use Rattle.tw_ansi.specs.declared.token.Token.TheVariants.{Key, Size, Paste, Unknown}
use Rattle.tw_ansi.specs.KeyBytes.{token_at}
use Rattle.tw_device.specs.Told.{token_events}
use Rattle.tw_device.specs.Typed.{Held, ReadStep, Came, Took, Lead, TellsIn, TellsTyped, next_token, is_at_hand, is_event_in, is_key_or_paste, escape_waits, is_lone_escape, held_after_read, held_after_token, given_bytes, taken_by, told_by, taken_bytes, events_of, NoneIsLost, IsHeldUp, IsPasted}
use Rattle.tw_device.specs.declared.escape.Escape.{Escape}
use Rattle.tw_device.specs.declared.pasted.Pasted.{Pasted}
use Rattle.tw_terminal.specs.declared.terminal.TerminalFault.{TerminalFault}
use Rattle.tw_terminal.specs.declared.terminal.TerminalFault.TheVariants.{Device, Memory}

kept_consumes : (a b c : Option (List ℕ)) (bs : List ℕ) → Keeps a b → Consumes b c bs → Consumes a c bs
kept_consumes None b c bs p q = tt
kept_consumes (Some x) None c bs p q = absurd p
kept_consumes (Some x) (Some y) None bs p q = absurd q
kept_consumes (Some x) (Some y) (Some z) bs p q = sym p ∙ q

kept_consumes_none : (a b : Option (List ℕ)) → Keeps a b → Consumes a b []
kept_consumes_none a b k = Consumes-kept a a b [] (Consumes-nil a) k

kept_end : (a b : Option (List ℕ)) → Keeps a b → IsAtEnd b → IsAtEnd a
kept_end None b p q = tt
kept_end (Some x) None p q = absurd p
kept_end (Some x) (Some y) p q = sym p ∙ q

-- what is held, part by part
abbrev held : Escape → Pasted → List ℕ → Bool → Option (List ℕ) → Held
held escape pasted unread was_full left = record { escape = escape; pasted = pasted; unread = unread; was_full = was_full; left = left }

pub held_is : (c : Held) (e : Escape) (p : Pasted) (u : List ℕ) (w : Bool) (l : Option (List ℕ)) → c.escape ≡ e → c.pasted ≡ p → c.unread ≡ u → c.was_full ≡ w → c.left ≡ l
    → c ≡ held e p u w l
held_is c e p u w l same_escape same_pasted same_unread same_fullness same_left =
    ap (λ x. held x c.pasted c.unread c.was_full c.left) same_escape ∙ ap (λ x. held e x c.unread c.was_full c.left) same_pasted
    ∙ ap (λ x. held e p x c.was_full c.left) same_unread ∙ ap (λ x. held e p u x c.left) same_fullness ∙ ap (λ x. held e p u w x) same_left

-- a key and a pasted text tell an event
event_told : (pasted : Pasted) (token : Token) (unread : List ℕ) → is_key_or_paste token ≡ true → [] ≡ token_events pasted token unread → ⊥
event_told pasted (Key key) unread is none = omega (arith, ap length none)
event_told pasted (Size cols rows) unread is none = false≢true is
event_told pasted (Paste from len) unread is none = omega (arith, ap length none)
event_told pasted Unknown unread is none = false≢true is

-- where an event is at hand, what is found is one
pub no_event_at_hand : (first now : Held) (is_last : Bool) (s : Scanned) (pasted : Pasted) (unread : List ℕ) → is_at_hand first ≡ true → is_last ≡ false → now ≡ first
    → Some s ≡ next_token is_last now → [] ≡ token_events pasted s.token unread → ⊥
no_event_at_hand first now is_last s pasted unread there goes_on same found none =
    event_told pasted s.token unread (ap is_event_in (found ∙ ap (λ l. next_token l now) goes_on ∙ ap (next_token false) same) ∙ there) none

-- and no more bytes are wanted
pub none_at_hand : (first now : Held) (is_last : Bool) → is_at_hand first ≡ true → is_last ≡ false → now ≡ first → None ≡ next_token is_last now → ⊥
none_at_hand first now is_last there goes_on same wanted =
    false≢true (ap is_event_in (wanted ∙ ap (λ l. next_token l now) goes_on ∙ ap (next_token false) same) ∙ there)

-- what is left may be told by what was known of it before
lead_kept : (steps : List ReadStep) (left : Option (List ℕ)) (old new : Held) (events : List EventView)
    → Keeps left old.left → Lead steps old new events → Lead steps (record old { left = left }) new events
lead_kept [] left old new events k g = (g.0, Keeps-trans left old.left new.left k g.1, g.2)
lead_kept (Came more ∷ steps) left old new events k g = (g.0, (g.1.0, kept_consumes left old.left g.1.0 more k g.1.1, g.1.2))
lead_kept (Took is_last ∷ steps) left old new events k g =
    (λ last. kept_end left old.left k (g.0 last), (g.1.0, g.1.1, (g.1.2.0, g.1.2.1, lead_kept steps left (held_after_token g.1.0.used old) new g.1.2.0 k g.1.2.2)))

lead_then : (steps more : List ReadStep) (a b c : Held) (e f : List EventView) → Lead steps a b e → Lead more b c f → Lead (steps ++ more) a c (e ++ f)
lead_then [] more a b c e f g h =
    subst (λ x. Lead more a c x) (ap (λ x. x ++ f) (sym g.2))
    (lead_kept more a.left (record a { left = b.left }) c f g.1 (subst (λ x. Lead more x c f) g.0 h))
lead_then (Came bytes ∷ steps) more a b c e f g h =
    (g.0, (g.1.0, g.1.1, lead_then steps more (held_after_read bytes g.1.0 a) b c e f g.1.2 h))
lead_then (Took is_last ∷ steps) more a b c e f g h = (
  g.0,
  (
    g.1.0,
    g.1.1,
    (
      g.1.2.0 ++ f,
      ap (λ x. x ++ f) g.1.2.1 ∙ append_assoc (token_events a.pasted g.1.0.token a.unread) g.1.2.0 f,
      lead_then steps more (held_after_token g.1.0.used a) b c g.1.2.0 f g.1.2.2 h,
    ),
  ),
)

-- what is told one after the other is told together
pub tells_then : (n m : ℕ) (a b c : Held) (e f : List EventView) → TellsIn n a b e → TellsIn m b c f → TellsIn (n + m) a c (e ++ f)
tells_then n m a b c e f g h =
    (g.0 ++ h.0, length-append g.0 h.0 ∙ ap (λ k. k + length h.0) g.1 ∙ ap (λ k. n + k) h.1, lead_then g.0 h.0 a b c e f g.2 h.2)

-- nothing was done
pub tells_nothing : (a : Held) → TellsIn 0 a a []
tells_nothing a = ([], refl, (refl, Keeps-refl a.left, refl))

-- In what follows a reader that has b scanned, which leaves it as m, and then has c.

-- a refusal leaves what there is
pub tells_kept : (n : ℕ) (a b m c : Held) → TellsIn n a b [] → m ≡ b → c ≡ record m { left = c.left } → Keeps m.left c.left → TellsTyped a c []
tells_kept n a b m c g scanned same kept =
    let h : TellsIn n a m [] = subst (λ (y : Held). TellsIn n a y []) (sym scanned) g in
    (n + 0, tells_then n 0 a m c [] [] h ([], refl, (same, kept, refl)))

-- nothing was done
pub tells_same : (n : ℕ) (a b c : Held) → TellsIn n a b [] → c ≡ b → TellsTyped a c []
tells_same n a b c g same = (n, subst (λ (y : Held). TellsIn n a y []) (sym same) g)

-- bytes came
pub tells_came : (n : ℕ) (a b m c : Held) (more : List ℕ) → TellsIn n a b [] → m ≡ b → None ≡ next_token false b → c ≡ held_after_read more c.left m
    → Consumes m.left c.left more → TellsIn (n + 1) a c []
tells_came n a b m c more g scanned wants same consumed =
    let h : TellsIn n a m [] = subst (λ (y : Held). TellsIn n a y []) (sym scanned) g in
    let wants_then : next_token false m ≡ None = ap (next_token false) scanned ∙ sym wants in
    tells_then n 1 a m c [] [] h (Came more ∷ [], refl, (wants_then, (c.left, consumed, (same, Keeps-refl c.left, refl))))

-- a token was taken
pub tells_took : (n : ℕ) (a b m c : Held) (f : List EventView) (is_last : Bool) (s : Scanned) → TellsIn n a b [] → m ≡ b → (is_last ≡ true → IsAtEnd b.left)
    → Some s ≡ next_token is_last b → f ≡ token_events m.pasted s.token m.unread → c ≡ held_after_token s.used m → TellsIn (n + 1) a c f
tells_took n a b m c f is_last s g scanned last found told is =
    let after = held_after_token s.used b in
    let same : c ≡ after = is ∙ ap (held_after_token s.used) scanned in
    let told_then : f ≡ token_events b.pasted s.token b.unread = told ∙ ap (λ (y : Held). token_events y.pasted s.token y.unread) scanned in
    let rest : c ≡ record after { left = c.left } = subst (λ (y : Held). y ≡ record after { left = y.left }) (sym same) refl in
    let kept : Keeps after.left c.left = subst (λ (y : Held). Keeps after.left y.left) (sym same) (Keeps-refl after.left) in
    tells_then n 1 a b c [] f g
    (Took is_last ∷ [], refl, (last, (s, sym found, ([], told_then ∙ sym (append-nil _), (rest, kept, refl)))))

-- why a call is refused

wanted : (why : TerminalFault) (old c : Held) → next_token false c ≡ None → IsHeldUp why old c
wanted Device old c wants = inl wants
wanted Memory old c wants = inl wants

-- more bytes are wanted
pub wants_more : (why : TerminalFault) (old b m c : Held) → m ≡ b → None ≡ next_token false b → c ≡ record m { left = c.left } → IsHeldUp why old c
wants_more why old b m c scanned wants same =
    wanted why old c (ap (next_token false) same ∙ ap (next_token false) scanned ∙ sym wants)

-- there is no memory for a pasted text
pub wants_memory : (why : TerminalFault) (old b c : Held) (is_last : Bool) (s : Scanned) → c ≡ b → Some s ≡ next_token is_last b → (why ≡ Memory) × IsPasted s.token
    → IsHeldUp why old c
wants_memory why old b c is_last s same found refused =
    let found_then : next_token is_last c ≡ Some s = ap (next_token is_last) same ∙ sym found in
    subst (λ x. IsHeldUp x old c) (sym refused.0) (inr (is_last, s, found_then, refused.1))

-- no byte is lost

-- what is found is a token of the bytes
found_if : (waits : Bool) (o : Option Scanned) (s : Scanned) → cond waits None o ≡ Some s → o ≡ Some s
found_if true o s e = absurd cc
found_if false o s e = e

pub found_at : (is_last : Bool) (old : Held) (s : Scanned) → next_token is_last old ≡ Some s → token_at is_last old.unread ≡ Some s
found_at is_last old s e = found_if (escape_waits old.escape old.was_full && is_lone_escape old.unread && not is_last) (token_at is_last old.unread) s e

took_all : (o : Option Scanned) (s : Scanned) (bytes given rest : List ℕ) (more : List ℕ → List ℕ) → o ≡ Some s
    → drop s.used bytes ++ given ≡ more (drop s.used bytes) ++ rest → bytes ++ given ≡ taken_by o bytes more ++ rest
took_all o s bytes given rest more found later =
    ap (λ bs. bs ++ given) (sym (take-append-drop s.used bytes)) ∙ append_assoc (take s.used bytes) (drop s.used bytes) given
    ∙ ap (λ bs. take s.used bytes ++ bs) later ∙ sym (append_assoc (take s.used bytes) (more (drop s.used bytes)) rest)
    ∙ ap (λ p. taken_by p bytes more ++ rest) (sym found)

pub none_is_lost : NoneIsLost
none_is_lost [] old new events g =
    (append-nil old.unread ∙ sym (ap (λ (h : Held). h.unread) g.0), kept_consumes_none old.left new.left g.1, g.2)
none_is_lost (Came more ∷ steps) old new events g =
    let later = none_is_lost steps (held_after_read more g.1.0 old) new events g.1.2 in
    (sym (append_assoc old.unread more (given_bytes steps)) ∙ later.0, Consumes-trans old.left g.1.0 new.left more (given_bytes steps) g.1.1 later.1, later.2)
none_is_lost (Took is_last ∷ steps) old new events g =
    let s = g.1.0 in
    let found : token_at is_last old.unread ≡ Some s = found_at is_last old s g.1.1 in
    let later = none_is_lost steps (held_after_token s.used old) new g.1.2.0 g.1.2.2 in (
      took_all (token_at is_last old.unread) s old.unread (given_bytes steps) new.unread (taken_bytes steps) found later.0,
      later.1,
      g.1.2.1 ∙ ap (λ es. token_events old.pasted s.token old.unread ++ es) later.2 ∙ ap (λ o. told_by old.pasted o old.unread (events_of old.pasted steps)) (sym found),
    )
