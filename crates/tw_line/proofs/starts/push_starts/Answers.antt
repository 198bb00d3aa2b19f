use Rattle.std.proofs.Common.{◌+◌, ◌++◌, ◌∷◌, [], length, sym, ap, ◌∙◌, append_assoc, append-nil, arith, length-append}
use Rattle.std.proofs.lemmas.List.{nil_from_length}
use Rattle.std.proofs.lemmas.Str.{IsUtf8-past_char}
use Rattle.std.specs.Prelude.{encode_utf8}
use Rattle.std.specs.Str.{chars}
use Rattle.std.specs.Str.Iter.{chars_rest}
use Rattle.tw_line.specs.Starts.{starts_from}
use Rattle.tw_line.proofs.StartsLemmas.{starts_from-char, starts_from-none, length-chars_past_char}
use Rattle.tw_line.proofs.starts.push_starts.Goals as goal

pub unreachable-requires : goal.unreachable-requires
unreachable-requires c =
    let inv = c.loop-c.invariant in
    let more = length-chars_past_char _ _ _ inv.utf8 c.in-Some.ensures.steps.0 in
    omega (arith, c.in_default.ensures.full)

pub overflow_add-start : goal.overflow_add-start
overflow_add-start c =
    let inv = c.loop-c.invariant in
    omega (
      arith,
      inv.start,
      c.requires.fits,
      c.len_utf8-start.ensures.len,
      ap length c.in-Some.ensures.steps.0,
      length-append (encode_utf8 c.in-Some.c) (chars_rest c.next.new.self),
    )

pub loop-c-preserved : goal.loop-c-preserved
loop-c-preserved c =
    let inv = c.loop-c.invariant in
    let split = c.in-Some.ensures.steps.0 in
    let rest = chars_rest c.next.new.self in
    let start = c.loop-c.start in
    let width = c.len_utf8-start.ensures.len in
    record {
      utf8 = IsUtf8-past_char _ rest _ inv.utf8 split;
      start = omega (arith, inv.start, width, ap length split, length-append (encode_utf8 c.in-Some.c) rest);
      room = omega (arith, inv.room, length-chars_past_char _ _ _ inv.utf8 split, c.in-Ok.ensures.len, c.in-Ok.ensures.capacity);
      capacity = omega (arith, inv.capacity, c.in-Ok.ensures.capacity);
      items =
          ap (λ t. t ++ starts_from (start + c.len_utf8-start.result) (chars rest)) c.in-Ok.ensures.items
          ∙ append_assoc c.loop-c.starts.items (start ∷ []) _
          ∙ ap (λ n. c.loop-c.starts.items ++ (start ∷ starts_from (start + n) (chars rest))) width
          ∙ ap (λ t. c.loop-c.starts.items ++ t) (sym (starts_from-char start c.in-Some.c _ rest inv.utf8 split)) ∙ inv.items;
    }

pub returns-clause-items : goal.returns-clause-items
returns-clause-items c =
    let inv = c.loop-c.invariant in
    sym (append-nil c.loop-c.starts.items) ∙ ap (λ t. c.loop-c.starts.items ++ t) (sym (starts_from-none c.loop-c.start _ (nil_from_length _ c.in-None.ensures.steps.0.0))) ∙ inv.items
