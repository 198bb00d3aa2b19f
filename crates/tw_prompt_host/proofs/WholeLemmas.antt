-- Texts that leave no mark open, by the open marks without their places.
use Rattle.std.proofs.Common.{◌≡◌, ℕ, ◌==◌, ◌&&◌, Bool, true, false, not, List, [], ◌∷◌, ◌++◌, Option, Some, None, refl, ap, sym, ◌∙◌, if◌then◌else◌, append-nil, ◌+◌, length, map}
use Rattle.std.specs.Prelude.{encode_utf8, is_none}
use Rattle.std.specs.Char.{IsScalar}
use Rattle.std.specs.List.{list_all}
use Rattle.std.specs.Str.{IsUtf8, chars}
use Rattle.std.proofs.lemmas.Bool.{and_parts, eq-eqb, eqb-true}
use Rattle.std.proofs.lemmas.Str.{chars-append, chars_past_char, chars_from_encodes}
use Rattle.tw_prompt_host.specs.Nesting.{AreBrackets, BracketedIsWhole, IsWhole, JoinedIsWhole, NestingView, Open, PlainIsWhole, QuotedIsWhole, Wrong, after_character, after_text, behind_opening, between, closes, closes_kind, escape_pair, escapes, is_closing, is_no_mark, is_quoted, nesting_from, opened_pair}
use Rattle.tw_prompt_host.specs.declared.marks.MarkKind.{MarkKind}
use Rattle.tw_prompt_host.specs.declared.marks.MarkKind.TheVariants.{Brackets, Quotation, Escape}
use Rattle.tw_prompt_host.specs.declared.marks.MarkPair.{MarkPair}
use Rattle.tw_prompt_host.specs.declared.marks.OpenMark.{OpenMark}
use Rattle.tw_prompt_host.proofs.NestingLemmas.{wrong_stays}

-- an open mark without its place
abbrev unplaced : OpenMark → OpenMark
unplaced mark = record mark { at = 0 }

-- an open pair, without its place
abbrev mark_of : MarkPair → OpenMark
mark_of pair = record { pair = pair; at = 0 }

wrong-open : {c at : ℕ} {opens : List OpenMark} → Wrong c at ≡ Open opens → ⊥
wrong-open e = cc

-- the characters of a text between marks
chars-between : (pair : MarkPair) (text : List ℕ) → IsScalar pair.closing → IsUtf8 text → IsUtf8 (between pair text)
    → chars (between pair text) ≡ pair.opening ∷ (chars text ++ pair.closing ∷ [])
chars-between pair text scalar utf8 whole =
    let mark : List ℕ = encode_utf8 pair.closing in
    let one : chars mark ≡ pair.closing ∷ [] = sym (chars_from_encodes (pair.closing ∷ []) mark (pair.closing ∷ [], (ap (λ b. b && true) scalar, append-nil mark)) (append-nil mark)) in
    chars_past_char (between pair text) (text ++ mark) pair.opening whole refl
    ∙ ap (λ cs. pair.opening ∷ cs) (chars-append text mark utf8 ∙ ap (λ cs. chars text ++ cs) one)

module _ (pairs : List MarkPair) where
  -- over other open marks a character does the same, wherever the marks stand
  module _ (base : List OpenMark) where
    abbrev over : NestingView → NestingView
    over (Open opens) = Open (map unplaced opens ++ base)
    over (Wrong c at) = Wrong c 0

    opening-over : (opens : List OpenMark) (at c : ℕ) (opened : Option MarkPair) (closing : Bool)
        → over (behind_opening opens at c opened closing) ≡ behind_opening (map unplaced opens ++ base) 0 c opened closing
    opening-over opens at c (Some pair) closing = refl
    opening-over opens at c None true = refl
    opening-over opens at c None false = refl

    step-over : (mark : OpenMark) (opens : List OpenMark) (at c : ℕ) → over (after_character pairs (mark ∷ opens) at c) ≡ after_character pairs (map unplaced (mark ∷ opens) ++ base) 0 c
    step-over mark opens at c = by (closes mark.pair c) mark.pair.kind
      where
        by : (b : Bool) (kind : MarkKind) → over (if b then Open opens else after_text pairs kind (mark ∷ opens) at c)
            ≡ (if b then Open (map unplaced opens ++ base) else after_text pairs kind (map unplaced (mark ∷ opens) ++ base) 0 c)
        by true kind = refl
        by false Brackets = opening-over (mark ∷ opens) at c (opened_pair pairs c) (is_closing pairs c)
        by false (Quotation escape) = opening-over (mark ∷ opens) at c (if escapes escape c then Some (escape_pair c) else None) false
        by false Escape = refl

  -- what characters leave, all without their places
  abbrev run : List ℕ → NestingView → NestingView
  run [] nesting = nesting
  run (c ∷ cs) (Open opens) = run cs (after_character pairs opens 0 c)
  run (c ∷ cs) (Wrong mark at) = Wrong mark at

  run-same : (cs : List ℕ) (nesting : NestingView) (at : ℕ) → over [] (nesting_from pairs cs nesting at) ≡ run cs (over [] nesting)
  run-same [] nesting at = refl
  run-same (c ∷ cs) (Open []) at =
      run-same cs (after_character pairs [] at c) (at + length (encode_utf8 c)) ∙ ap (run cs) (opening-over [] [] at c (opened_pair pairs c) (is_closing pairs c))
  run-same (c ∷ cs) (Open (mark ∷ opens)) at =
      run-same cs (after_character pairs (mark ∷ opens) at c) (at + length (encode_utf8 c)) ∙ ap (run cs) (step-over [] mark opens at c)
  run-same (c ∷ cs) (Wrong mark before) at = refl

  -- characters, and then more of them
  run-join : (cs ds : List ℕ) (nesting : NestingView) → run (cs ++ ds) nesting ≡ run ds (run cs nesting)
  run-join [] ds nesting = refl
  run-join (c ∷ cs) ds (Open opens) = run-join cs ds (after_character pairs opens 0 c)
  run-join (c ∷ cs) [] (Wrong mark at) = refl
  run-join (c ∷ cs) (d ∷ ds) (Wrong mark at) = refl

  -- a text is whole where its characters leave nothing open
  whole-to : (text : List ℕ) → IsWhole pairs text → run (chars text) (Open []) ≡ Open []
  whole-to text whole = sym (run-same (chars text) (Open []) 0) ∙ ap (over []) whole

  whole-from : (text : List ℕ) → run (chars text) (Open []) ≡ Open [] → IsWhole pairs text
  whole-from text all = by (nesting_from pairs (chars text) (Open []) 0) (run-same (chars text) (Open []) 0 ∙ all)
    where
      by : (view : NestingView) → over [] view ≡ Open [] → view ≡ Open []
      by (Open []) e = refl
      by (Open (mark ∷ opens)) e = cc
      by (Wrong c at) e = cc

  -- brackets around the open marks stay there, since their closing mark is wrong where nothing is open
  module _ (pair : MarkPair) (are : AreBrackets pairs pair) where
    abbrev outer : List OpenMark
    outer = mark_of pair ∷ []

    first-over : (at c : ℕ) (more : List OpenMark) → after_character pairs [] at c ≡ Open more → after_character pairs outer 0 c ≡ over outer (Open more)
    first-over at c more e = by (pair.closing == c) refl
      where
        opened : Option MarkPair
        opened = opened_pair pairs c

        wrong : pair.closing ≡ c → behind_opening [] at c opened (is_closing pairs c) ≡ Wrong c at
        wrong same = rw (sym same, are.apart, are.closing) refl

        by : (b : Bool) → (pair.closing == c) ≡ b → (if closes pair c then Open [] else after_text pairs pair.kind outer 0 c) ≡ over outer (Open more)
        by true same = absurd (wrong-open (sym (wrong (eqb-true pair.closing c same)) ∙ e))
        by false other =
            ap (λ b. if b then Open [] else after_text pairs pair.kind outer 0 c) (ap (λ kind. closes_kind kind pair.closing c) are.brackets ∙ other)
            ∙ ap (λ kind. after_text pairs kind outer 0 c) are.brackets
            ∙ sym (opening-over outer [] at c opened (is_closing pairs c)) ∙ ap (over outer) e

    run-over : (cs : List ℕ) (opens more : List OpenMark) (at : ℕ) → nesting_from pairs cs (Open opens) at ≡ Open more → run cs (over outer (Open opens)) ≡ over outer (Open more)
    run-over [] opens more at e = ap (over outer) e
    run-over (c ∷ cs) opens more at e = by (λ next. run-over cs next more (at + length (encode_utf8 c))) (after_character pairs opens at c) refl
      where
        step : (all next : List OpenMark) → after_character pairs all at c ≡ Open next → after_character pairs (map unplaced all ++ outer) 0 c ≡ over outer (Open next)
        step [] next same = first-over at c next same
        step (mark ∷ all) next same = sym (step-over outer mark all at c) ∙ ap (over outer) same

        by : ((next : List OpenMark) → nesting_from pairs cs (Open next) (at + length (encode_utf8 c)) ≡ Open more → run cs (over outer (Open next)) ≡ over outer (Open more))
            → (v : NestingView) → after_character pairs opens at c ≡ v → run (c ∷ cs) (over outer (Open opens)) ≡ over outer (Open more)
        by rest (Open next) same =
            ap (run cs) (step opens next same) ∙ rest next (ap (λ v. nesting_from pairs cs v (at + length (encode_utf8 c))) (sym same) ∙ e)
        by rest (Wrong d place) same =
            absurd (wrong-open (sym (wrong_stays pairs cs d place _) ∙ ap (λ v. nesting_from pairs cs v (at + length (encode_utf8 c))) (sym same) ∙ e))

  -- the closing mark closes its pair
  closes-own : (kind : MarkKind) (closing : ℕ) → closes_kind kind closing closing ≡ true
  closes-own Brackets closing = eq-eqb closing closing refl
  closes-own (Quotation escape) closing = eq-eqb closing closing refl
  closes-own Escape closing = refl

  -- characters between the marks of a pair that they leave open
  between-marks : (pair : MarkPair) (cs : List ℕ) → opened_pair pairs pair.opening ≡ Some pair → run cs (Open (mark_of pair ∷ [])) ≡ Open (mark_of pair ∷ [])
      → run (pair.opening ∷ (cs ++ pair.closing ∷ [])) (Open []) ≡ Open []
  between-marks pair cs opens e =
      ap (λ o. run (cs ++ pair.closing ∷ []) (behind_opening [] 0 pair.opening o (is_closing pairs pair.opening))) opens
      ∙ run-join cs (pair.closing ∷ []) (Open (mark_of pair ∷ [])) ∙ ap (run (pair.closing ∷ [])) e
      ∙ ap (λ b. if b then Open [] else after_text pairs pair.kind (mark_of pair ∷ []) 0 pair.closing) (closes-own pair.kind pair.closing)

  -- within a quotation all is text but a closing mark that is not escaped
  module _ (pair : MarkPair) (escape : Option ℕ) (quotes : pair.kind ≡ Quotation escape) where
    -- what is open, behind an escape character or not
    abbrev on : Bool → ℕ → NestingView
    on true c = Open (mark_of (escape_pair c) ∷ mark_of pair ∷ [])
    on false c = Open (mark_of pair ∷ [])

    text-step : (c : ℕ) → (pair.closing == c) ≡ false → after_character pairs (mark_of pair ∷ []) 0 c ≡ on (escapes escape c) c
    text-step c other =
        ap (λ kind. if closes_kind kind pair.closing c then Open [] else after_text pairs kind (mark_of pair ∷ []) 0 c) quotes
        ∙ ap (λ b. if b then Open [] else after_text pairs (Quotation escape) (mark_of pair ∷ []) 0 c) other ∙ by (escapes escape c)
      where
        by : (b : Bool) → behind_opening (mark_of pair ∷ []) 0 c (if b then Some (escape_pair c) else None) false ≡ on b c
        by true = refl
        by false = refl

    within : (cs : List ℕ) (escaped : Bool) (before : ℕ) → is_quoted pair.closing escape escaped cs ≡ true → run cs (on escaped before) ≡ Open (mark_of pair ∷ [])
    within [] true before e = cc
    within [] false before e = refl
    within (c ∷ cs) true before e = within cs false c e
    within (c ∷ cs) false before e = by (λ rest. within cs (escapes escape c) c rest) (pair.closing == c) refl e
      where
        by : (is_quoted pair.closing escape (escapes escape c) cs ≡ true → run cs (on (escapes escape c) c) ≡ Open (mark_of pair ∷ []))
            → (b : Bool) → (pair.closing == c) ≡ b → (if b then false else is_quoted pair.closing escape (escapes escape c) cs) ≡ true → run (c ∷ cs) (Open (mark_of pair ∷ [])) ≡ Open (mark_of pair ∷ [])
        by rest true same e = cc
        by rest false other e = ap (run cs) (text-step c other) ∙ rest e

  -- characters that are no marks leave nothing open
  run-plain : (cs : List ℕ) → list_all (is_no_mark pairs) cs ≡ true → run cs (Open []) ≡ Open []
  run-plain [] e = refl
  run-plain (c ∷ cs) e = let (first, others) = and_parts (is_no_mark pairs c) _ e in ap (run cs) (text (opened_pair pairs c) (is_closing pairs c) first) ∙ run-plain cs others
    where
      text : (opened : Option MarkPair) (closing : Bool) → is_none opened && not closing ≡ true → behind_opening [] 0 c opened closing ≡ Open []
      text (Some pair) closing e = cc
      text None true e = cc
      text None false e = refl

pub plain_is_whole : PlainIsWhole
plain_is_whole pairs text plain = whole-from pairs text (run-plain pairs (chars text) plain)

pub joined_is_whole : JoinedIsWhole
joined_is_whole pairs text other utf8 whole more =
    whole-from pairs (text ++ other)
    (ap (λ cs. run pairs cs (Open [])) (chars-append text other utf8) ∙ run-join pairs (chars text) (chars other) (Open [])
    ∙ ap (run pairs (chars other)) (whole-to pairs text whole) ∙ whole-to pairs other more)

pub bracketed_is_whole : BracketedIsWhole
bracketed_is_whole pairs pair text are utf8 all whole =
    whole-from pairs (between pair text)
    (ap (λ cs. run pairs cs (Open [])) (chars-between pair text are.character utf8 all) ∙ between-marks pairs pair (chars text) are.opening (run-over pairs pair are (chars text) [] [] 0 whole))

pub quoted_is_whole : QuotedIsWhole
quoted_is_whole pairs pair escape text is utf8 all quoted =
    whole-from pairs (between pair text)
    (ap (λ cs. run pairs cs (Open [])) (chars-between pair text is.character utf8 all) ∙ between-marks pairs pair (chars text) is.opening (within pairs pair escape is.quotation (chars text) false 0 quoted))
