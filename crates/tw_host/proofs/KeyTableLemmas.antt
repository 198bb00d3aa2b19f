-- The keys of the key table are compared by value, and each row stands alone.
use Rattle.std.proofs.Common.{◌≡◌, ◌≢◌, Bool, true, not, ◌&&◌, ◌==◌, List, [], ◌∷◌, map, refl, ap, ◌∙◌, arith}
use Rattle.std.specs.Prelude.{Some, None, All, AllPairs}
use Rattle.std.specs.List.{list_all, AllPass}
use Rattle.std.proofs.lemmas.Bool.{eqb-true, eq-eqb, and_parts, and_from, not-true, both_ways}
use Rattle.std.proofs.lemmas.List.Elements.{All-nil, All-cons}
use Rattle.std.proofs.lemmas.List.Kept.{AllPairs-cons}
use Rattle.std.proofs.lemmas.List.Sums.{AllPass-from_list_all}
use Rattle.tw_input.specs.Modifiers.{modifier_bits}
use Rattle.tw_input.specs.Equality.{ComparesValues}
use Rattle.tw_input.specs.declared.key.KeyCode.{KeyCode}
use Rattle.tw_input.specs.declared.key.KeyCode.TheVariants.{Char, Backspace, Tab, Enter, Escape, Insert, Delete, Home, End, PageUp, PageDown, LeftArrow, RightArrow, UpArrow, DownArrow, ApplicationLeftArrow, ApplicationRightArrow, ApplicationUpArrow, ApplicationDownArrow, Function}
use Rattle.tw_input.specs.declared.key.KeyEvent.{KeyEvent}
use Rattle.tw_host.specs.ActionView.{ActionView}
use Rattle.tw_host.specs.KeyTable.{is_same_code, is_same_key, key_table, key_press, looked_up, typed_action}

-- keys that are one are equal
equal_codes : (a b : KeyCode) → is_same_code a b ≡ true → a ≡ b
equal_codes (Char a) b =
    elim b as (λ v. is_same_code (Char a) v ≡ true → Char a ≡ v) [ Char b ↦ λ e. ap Char (eqb-true a b e) | _ ↦ λ e. cc ]
equal_codes Backspace b = elim b as (λ v. is_same_code Backspace v ≡ true → Backspace ≡ v) [ Backspace ↦ λ e. refl | _ ↦ λ e. cc ]
equal_codes Tab b = elim b as (λ v. is_same_code Tab v ≡ true → Tab ≡ v) [ Tab ↦ λ e. refl | _ ↦ λ e. cc ]
equal_codes Enter b = elim b as (λ v. is_same_code Enter v ≡ true → Enter ≡ v) [ Enter ↦ λ e. refl | _ ↦ λ e. cc ]
equal_codes Escape b = elim b as (λ v. is_same_code Escape v ≡ true → Escape ≡ v) [ Escape ↦ λ e. refl | _ ↦ λ e. cc ]
equal_codes Insert b = elim b as (λ v. is_same_code Insert v ≡ true → Insert ≡ v) [ Insert ↦ λ e. refl | _ ↦ λ e. cc ]
equal_codes Delete b = elim b as (λ v. is_same_code Delete v ≡ true → Delete ≡ v) [ Delete ↦ λ e. refl | _ ↦ λ e. cc ]
equal_codes Home b = elim b as (λ v. is_same_code Home v ≡ true → Home ≡ v) [ Home ↦ λ e. refl | _ ↦ λ e. cc ]
equal_codes End b = elim b as (λ v. is_same_code End v ≡ true → End ≡ v) [ End ↦ λ e. refl | _ ↦ λ e. cc ]
equal_codes PageUp b = elim b as (λ v. is_same_code PageUp v ≡ true → PageUp ≡ v) [ PageUp ↦ λ e. refl | _ ↦ λ e. cc ]
equal_codes PageDown b = elim b as (λ v. is_same_code PageDown v ≡ true → PageDown ≡ v) [ PageDown ↦ λ e. refl | _ ↦ λ e. cc ]
equal_codes LeftArrow b = elim b as (λ v. is_same_code LeftArrow v ≡ true → LeftArrow ≡ v) [ LeftArrow ↦ λ e. refl | _ ↦ λ e. cc ]
equal_codes RightArrow b = elim b as (λ v. is_same_code RightArrow v ≡ true → RightArrow ≡ v) [ RightArrow ↦ λ e. refl | _ ↦ λ e. cc ]
equal_codes UpArrow b = elim b as (λ v. is_same_code UpArrow v ≡ true → UpArrow ≡ v) [ UpArrow ↦ λ e. refl | _ ↦ λ e. cc ]
equal_codes DownArrow b = elim b as (λ v. is_same_code DownArrow v ≡ true → DownArrow ≡ v) [ DownArrow ↦ λ e. refl | _ ↦ λ e. cc ]
equal_codes ApplicationLeftArrow b = elim b as (λ v. is_same_code ApplicationLeftArrow v ≡ true → ApplicationLeftArrow ≡ v) [ ApplicationLeftArrow ↦ λ e. refl | _ ↦ λ e. cc ]
equal_codes ApplicationRightArrow b = elim b as (λ v. is_same_code ApplicationRightArrow v ≡ true → ApplicationRightArrow ≡ v) [ ApplicationRightArrow ↦ λ e. refl | _ ↦ λ e. cc ]
equal_codes ApplicationUpArrow b = elim b as (λ v. is_same_code ApplicationUpArrow v ≡ true → ApplicationUpArrow ≡ v) [ ApplicationUpArrow ↦ λ e. refl | _ ↦ λ e. cc ]
equal_codes ApplicationDownArrow b = elim b as (λ v. is_same_code ApplicationDownArrow v ≡ true → ApplicationDownArrow ≡ v) [ ApplicationDownArrow ↦ λ e. refl | _ ↦ λ e. cc ]
equal_codes (Function a) b =
    elim b as (λ v. is_same_code (Function a) v ≡ true → Function a ≡ v) [ Function b ↦ λ e. ap Function (eqb-true a b e) | _ ↦ λ e. cc ]

-- a key is one with itself
code_itself : (a : KeyCode) → is_same_code a a ≡ true
code_itself (Char a) = eq-eqb a a refl
code_itself Backspace = refl
code_itself Tab = refl
code_itself Enter = refl
code_itself Escape = refl
code_itself Insert = refl
code_itself Delete = refl
code_itself Home = refl
code_itself End = refl
code_itself PageUp = refl
code_itself PageDown = refl
code_itself LeftArrow = refl
code_itself RightArrow = refl
code_itself UpArrow = refl
code_itself DownArrow = refl
code_itself ApplicationLeftArrow = refl
code_itself ApplicationRightArrow = refl
code_itself ApplicationUpArrow = refl
code_itself ApplicationDownArrow = refl
code_itself (Function a) = eq-eqb a a refl

-- a key event is one with itself
key_itself : (a b : KeyEvent) → a ≡ b → is_same_key a b ≡ true
key_itself a b e =
    let bits = modifier_bits a.modifiers in
    rw (← e) (and_from (bits == bits) (is_same_code a.key a.key) (eq-eqb bits bits refl) (code_itself a.key))

-- key events that are one are equal
equal_keys : (a b : KeyEvent) → is_same_key a b ≡ true → a ≡ b
equal_keys a b e =
    let parts = and_parts (modifier_bits a.modifiers == modifier_bits b.modifiers) (is_same_code a.key b.key) e in
    let bits = eqb-true (modifier_bits a.modifiers) (modifier_bits b.modifiers) parts.0 in
    let code = equal_codes a.key b.key parts.1 in
    ap (λ k. key_press (modifier_bits a.modifiers) k) code ∙ ap (λ m. key_press m b.key) bits

-- key events are compared by value
pub same_key : ComparesValues is_same_key
same_key a b = (equal_keys a b, key_itself a b)

-- no key stands in two rows
abbrev are_distinct : List (KeyEvent × ActionView) → Bool
are_distinct [] = true
are_distinct (row ∷ rest) = list_all (λ later. not (is_same_key row.0 later.0)) rest && are_distinct rest

-- so the keys of two rows are different
all_pairs-are_distinct : (rows : List (KeyEvent × ActionView)) → are_distinct rows ≡ true → AllPairs (λ row later. row.0 ≢ later.0) rows
all_pairs-are_distinct [] e = λ i j d below in_range. absurd (omega arith)
all_pairs-are_distinct (row ∷ rest) e =
    let test : (KeyEvent × ActionView) → Bool = λ later. not (is_same_key row.0 later.0) in
    let parts = and_parts (list_all test rest) (are_distinct rest) e in
    let passes : AllPass test rest = AllPass-from_list_all test rest parts.0 in
    AllPairs-cons (λ row later. row.0 ≢ later.0) row rest
    (λ k d in_range same. both_ways _ (not-true _ (passes k d in_range)) (key_itself _ _ same))
    (all_pairs-are_distinct rest parts.1)

-- no key stands in two rows of the table
pub distinct : AllPairs (λ row later. row.0 ≢ later.0) key_table
distinct = all_pairs-are_distinct key_table refl

-- what two maps of a list agree on holds of each element
all-map : {X Y : Type 0} → (f g : X → Y) (xs : List X) → map f xs ≡ map g xs → All (λ x. f x ≡ g x) xs
all-map f g [] e = All-nil (λ x. f x ≡ g x)
all-map f g (x ∷ xs) e = let rest : map f xs ≡ map g xs = (cc) in All-cons (λ x. f x ≡ g x) x xs (cc) (all-map f g xs rest)

-- each row is found by its key
pub found : All (λ row. looked_up key_table row.0 ≡ Some row.1) key_table
found = all-map (λ row. looked_up key_table row.0) (λ row. Some row.1) key_table refl

-- no row is a typed character
pub not_typed : All (λ row. typed_action row.0 ≡ None) key_table
not_typed = all-map (λ row. typed_action row.0) (λ row. None) key_table refl
