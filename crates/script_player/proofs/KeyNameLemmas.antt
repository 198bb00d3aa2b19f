-- Each key that has a name has one of those listed.
use Rattle.std.proofs.Common.{◌≡◌, ◌≢◌, ℕ, Bool, true, false, cond, eqb, List, codes, Some, None, Contains, inl, inr, lit<, ap, sym, ◌∙◌, refl, All}
use Rattle.std.specs.Prelude.{◌⊎◌}
use Rattle.std.proofs.Math.Logic.{Ne-symm}
use Rattle.std.proofs.lemmas.List.Elements.{All-contains, All-from_recursion}
use Rattle.std.specs.Char.{IsScalar}
use Rattle.std.specs.Cmp.Lexicographic.{other_text}
use Rattle.tw_input.specs.Modifiers.{modifier_bits, none, shift, alt, ctrl}
use Rattle.tw_input.specs.declared.key.KeyCode.{KeyCode}
use Rattle.tw_input.specs.declared.key.KeyCode.TheVariants.{Char, Backspace, Tab, Enter, Escape, Delete, Home, End, LeftArrow, RightArrow, UpArrow, DownArrow, ApplicationLeftArrow, ApplicationRightArrow, ApplicationUpArrow, ApplicationDownArrow}
use Rattle.tw_input.specs.declared.key.KeyEvent.{KeyEvent}
use Rattle.script_player.specs.Directives.{IsDirective, IsLineOf, first_word, behind_word}
use Rattle.script_player.specs.KeyNames.{IsKey, IsKeyCode, key_name, key_names, character_name, character_names, plain_name, alt_name}
use Rattle.script_player.specs.declared.directive.Directive.{Directive}
use Rattle.script_player.specs.declared.directive.Directive.TheVariants.{Key}
use Rattle.script_player.proofs.DirectiveLemmas.{begins_with, word_of}

-- a name of the list, or of a character's key
abbrev IsListed : List ℕ → Type 0
IsListed name = Contains key_names name ⊎ ((c : ℕ) × IsScalar c × Contains (character_names c) name)

plain_listed : (key : KeyCode) (name : List ℕ) → plain_name key ≡ Some name → IsListed name
plain_listed Enter name e = inl (0, lit< tt, cc)
plain_listed Tab name e = inl (1, lit< tt, cc)
plain_listed Backspace name e = inl (2, lit< tt, cc)
plain_listed Delete name e = inl (3, lit< tt, cc)
plain_listed Home name e = inl (4, lit< tt, cc)
plain_listed End name e = inl (5, lit< tt, cc)
plain_listed LeftArrow name e = inl (6, lit< tt, cc)
plain_listed RightArrow name e = inl (7, lit< tt, cc)
plain_listed UpArrow name e = inl (8, lit< tt, cc)
plain_listed DownArrow name e = inl (9, lit< tt, cc)
plain_listed ApplicationLeftArrow name e = inl (10, lit< tt, cc)
plain_listed ApplicationRightArrow name e = inl (11, lit< tt, cc)
plain_listed ApplicationUpArrow name e = inl (12, lit< tt, cc)
plain_listed ApplicationDownArrow name e = inl (13, lit< tt, cc)
plain_listed Escape name e = inl (14, lit< tt, cc)
plain_listed _ name e = cc

alt_listed : (key : KeyCode) (name : List ℕ) → IsKeyCode key → alt_name key ≡ Some name → IsListed name
alt_listed LeftArrow name k e = inl (15, lit< tt, cc)
alt_listed RightArrow name k e = inl (16, lit< tt, cc)
alt_listed ApplicationLeftArrow name k e = inl (17, lit< tt, cc)
alt_listed ApplicationRightArrow name k e = inl (18, lit< tt, cc)
alt_listed (Char c) name k e = inr (c, k, (1, lit< tt, cc))
alt_listed _ name k e = cc

ctrl_listed : (key : KeyCode) (name : List ℕ) → IsKeyCode key → character_name (codes "C-") key ≡ Some name → IsListed name
ctrl_listed (Char c) name k e = inr (c, k, (0, lit< tt, cc))
ctrl_listed _ name k e = cc

shift_listed : (key : KeyCode) (name : List ℕ) → IsKeyCode key → character_name (codes "S-") key ≡ Some name → IsListed name
shift_listed (Char c) name k e = inr (c, k, (2, lit< tt, cc))
shift_listed _ name k e = cc

listed_with : (plain alts ctrls shifts : Bool) (key : KeyCode) (name : List ℕ) → IsKeyCode key
    → cond plain (plain_name key) (cond alts (alt_name key) (cond ctrls (character_name (codes "C-") key) (cond shifts (character_name (codes "S-") key) None))) ≡ Some name
    → IsListed name
listed_with true a c s key name k e = plain_listed key name e
listed_with false true c s key name k e = alt_listed key name k e
listed_with false false true s key name k e = ctrl_listed key name k e
listed_with false false false true key name k e = shift_listed key name k e
listed_with false false false false key name k e = cc

key_listed : (key : KeyEvent) (name : List ℕ) → IsKey key → key_name key ≡ Some name → IsListed name
key_listed key name k e =
    let bits = modifier_bits key.modifiers in
    listed_with (eqb bits none) (eqb bits alt) (eqb bits ctrl) (eqb bits shift) key.key name k e

-- a line of the word `key` with any other name is no directive
pub no_key : (line name : List ℕ) → first_word line ≡ codes "key" → behind_word line ≡ name → ¬ (Contains key_names name)
    → ((c : ℕ) → IsScalar c → ¬ (Contains (character_names c) name)) → ¬ (IsDirective line)
no_key line name word behind unknown no_character (utf8, (directive, is)) = by directive is (sym word ∙ begins_with line directive is)
  where
    unlisted : ¬ (IsListed name)
    unlisted (inl in_list) = unknown in_list
    unlisted (inr (c, scalar, in_list)) = no_character c scalar in_list

    by : (directive : Directive) → IsLineOf line directive → codes "key" ≡ word_of directive → ⊥
    by (Key key) is same = let named = is.2 in unlisted (key_listed key name is.1 (cc))
    by _ is same = other_text _ _ refl same

-- a name with no letter of a modifier, other than each of a key's names, is none
pub no_plain : (name : List ℕ)
    → name ≢ codes "Enter" → name ≢ codes "Tab" → name ≢ codes "Backspace" → name ≢ codes "Delete" → name ≢ codes "Home"
    → name ≢ codes "End" → name ≢ codes "Left" → name ≢ codes "Right" → name ≢ codes "Up" → name ≢ codes "Down"
    → name ≢ codes "AppLeft" → name ≢ codes "AppRight" → name ≢ codes "AppUp" → name ≢ codes "AppDown" → name ≢ codes "Escape"
    → (key : KeyCode) → ¬ (plain_name key ≡ Some name)
no_plain name enter tab backspace delete home end left right up down app_left app_right app_up app_down escape = by
  where
    by : (key : KeyCode) → ¬ (plain_name key ≡ Some name)
    by Enter is = enter (cc)
    by Tab is = tab (cc)
    by Backspace is = backspace (cc)
    by Delete is = delete (cc)
    by Home is = home (cc)
    by End is = end (cc)
    by LeftArrow is = left (cc)
    by RightArrow is = right (cc)
    by UpArrow is = up (cc)
    by DownArrow is = down (cc)
    by ApplicationLeftArrow is = app_left (cc)
    by ApplicationRightArrow is = app_right (cc)
    by ApplicationUpArrow is = app_up (cc)
    by ApplicationDownArrow is = app_down (cc)
    by Escape is = escape (cc)
    by _ is = cc

infixr 10 ◌and◌
◌and◌ : {A B : Type 0} → A → B → A × B
a and b = (a, b)

-- a name that is neither that of a key with no modifier nor of an arrow with ALT is not listed
pub no_listed : (name : List ℕ) → ((key : KeyCode) → ¬ (plain_name key ≡ Some name))
    → name ≢ codes "A-Left" → name ≢ codes "A-Right" → name ≢ codes "A-AppLeft" → name ≢ codes "A-AppRight"
    → ¬ (Contains key_names name)
no_listed name plain left right app_left app_right listed = All-contains (λ known. known ≢ name) key_names name others listed refl
  where
    by : (key : KeyCode) (known : List ℕ) → plain_name key ≡ Some known → known ≢ name
    by key known is same = plain key (is ∙ ap Some same)

    others : All (λ known. known ≢ name) key_names
    others = All-from_recursion (λ known. known ≢ name) key_names
        (by Enter _ refl and by Tab _ refl and by Backspace _ refl and by Delete _ refl and by Home _ refl and by End _ refl
        and by LeftArrow _ refl and by RightArrow _ refl and by UpArrow _ refl and by DownArrow _ refl
        and by ApplicationLeftArrow _ refl and by ApplicationRightArrow _ refl
        and by ApplicationUpArrow _ refl and by ApplicationDownArrow _ refl and by Escape _ refl
        and Ne-symm left and Ne-symm right and Ne-symm app_left and Ne-symm app_right and tt)
