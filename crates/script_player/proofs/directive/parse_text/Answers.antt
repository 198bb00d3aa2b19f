use Rattle.std.proofs.Common.{rules, ◌∙◌, sym}
use Rattle.std.proofs.lemmas.Bool.{false≢true}
use Rattle.script_player.proofs.DirectiveLemmas.{no_number, no_range, no_read, no_word}
use Rattle.script_player.proofs.KeyNameLemmas.{no_key}
use Rattle.script_player.proofs.directive.parse_text.Goals as goal
use Rattle.script_player.proofs.directive.parse_text.Goals.{in_default-via-in-read+else-eq, in_default-via-in_default}

pub returns-in_err-parse_number-in-cols : goal.returns-in_err-parse_number-in-cols
returns-in_err-parse_number-in-cols c =
    let word = sym c.split_word.ensures.word ∙ c.in-cols.is in
    rw c.from_residual.ensures (no_number c.args.line.now _ word c.split_word.ensures.text
    (λ number. false≢true (c.in_err-parse_number-in-cols.ensures.number.1 number)))

pub returns-in_err-range-in-cand : goal.returns-in_err-range-in-cand
returns-in_err-range-in-cand c =
    let word = sym c.split_word.ensures.word ∙ c.in-cand.is in
    rw c.from_residual-in_err-range-in-cand.ensures (no_range c.args.line.now _ word c.split_word.ensures.text
    (λ start end range. false≢true (c.in_err-range-in-cand.ensures.found start end range)))

pub returns-in_err-key_named-in-key : goal.returns-in_err-key_named-in-key
returns-in_err-key_named-in-key c =
    let word = sym c.split_word.ensures.word ∙ c.in-key.is in
    rw c.from_residual-in_err-key_named-in-key.ensures (no_key c.args.line.now _ word (sym c.split_word.ensures.text)
    (λ known. false≢true (c.in_err-key_named-in-key.ensures.known known))
    (λ n scalar named. false≢true (c.in_err-key_named-in-key.ensures.character n scalar named)))

pub returns-in_default : goal.returns-in_default
returns-in_default c =
    let first = c.split_word.ensures.word in
    elim c.in_default.branch [
      | in_default-via-in-read+else-eq w ↦ no_read c.args.line.now (sym first ∙ w.in-read.is) (search rules)
      | in_default-via-in_default w ↦
          let other = w.in_default in
          no_word c.args.line.now _ first other.not-cols other.not-prompt other.not-preview other.not-history
          other.not-cand other.not-type other.not-paste other.not-key (search rules)
    ]
