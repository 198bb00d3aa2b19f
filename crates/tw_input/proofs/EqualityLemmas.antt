-- `==` of key codes and of key events.
use Rattle.std.proofs.Common.{◌≡◌, ◌↔◌, IsTrue, refl, subst, rules}
use Rattle.std.proofs.lemmas.Bool.{false≢true}
use Rattle.tw_input.specs.declared.key.KeyCode.{KeyCode}
use Rattle.tw_input.specs.declared.key.KeyCode.TheVariants.{Char, Backspace, Tab, Enter, Escape, Insert, Delete, Home, End, PageUp, PageDown, LeftArrow, RightArrow, UpArrow, DownArrow, ApplicationLeftArrow, ApplicationRightArrow, ApplicationUpArrow, ApplicationDownArrow, Function}
use Rattle.tw_input.specs.declared.key.KeyEvent.{KeyEvent}
use Rattle.tw_input.specs.contracts.key.KeyCodePartialEq.TheImpl.{ghosts as key_codes}
use Rattle.tw_input.specs.contracts.key.KeyEventPartialEq.TheImpl.{ghosts as key_events}

equal-is : (a b : KeyCode) → IsTrue (key_codes.eq a b) → a ≡ b
equal-is (Char x) (Char y) h = search rules
equal-is (Function x) (Function y) h = search rules
equal-is Backspace Backspace h = refl
equal-is Tab Tab h = refl
equal-is Enter Enter h = refl
equal-is Escape Escape h = refl
equal-is Insert Insert h = refl
equal-is Delete Delete h = refl
equal-is Home Home h = refl
equal-is End End h = refl
equal-is PageUp PageUp h = refl
equal-is PageDown PageDown h = refl
equal-is LeftArrow LeftArrow h = refl
equal-is RightArrow RightArrow h = refl
equal-is UpArrow UpArrow h = refl
equal-is DownArrow DownArrow h = refl
equal-is ApplicationLeftArrow ApplicationLeftArrow h = refl
equal-is ApplicationRightArrow ApplicationRightArrow h = refl
equal-is ApplicationUpArrow ApplicationUpArrow h = refl
equal-is ApplicationDownArrow ApplicationDownArrow h = refl
equal-is _ _ h = absurd (false≢true h)

is-equal : (a : KeyCode) → IsTrue (key_codes.eq a a)
is-equal (Char x) = search rules
is-equal (Function x) = search rules
is-equal Backspace = refl
is-equal Tab = refl
is-equal Enter = refl
is-equal Escape = refl
is-equal Insert = refl
is-equal Delete = refl
is-equal Home = refl
is-equal End = refl
is-equal PageUp = refl
is-equal PageDown = refl
is-equal LeftArrow = refl
is-equal RightArrow = refl
is-equal UpArrow = refl
is-equal DownArrow = refl
is-equal ApplicationLeftArrow = refl
is-equal ApplicationRightArrow = refl
is-equal ApplicationUpArrow = refl
is-equal ApplicationDownArrow = refl

pub key_codes_equal : (a b : KeyCode) → IsTrue (key_codes.eq a b) ↔ (a ≡ b)
key_codes_equal a b = (equal-is a b, λ e. subst (λ (k : KeyCode). IsTrue (key_codes.eq a k)) e (is-equal a))

pub key_events_equal : (a b : KeyEvent) → IsTrue (key_events.eq a b) ↔ (a ≡ b)
key_events_equal a b = search (rules, key_codes_equal)
