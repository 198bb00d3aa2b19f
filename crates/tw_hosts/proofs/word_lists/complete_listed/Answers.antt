use Rattle.std.proofs.Common.{◌≡◌, take, ap, ◌∙◌, rules}
use Rattle.tw_hosts.specs.Words.{begun_part, end_row}
use Rattle.tw_hosts.proofs.word_lists.complete_listed.Goals as goal

pub returns : goal.returns
returns c =
    let before : c.range.result.now ≡ take c.args.cursor c.args.line.now = search rules in
    let row = c.end_row.ensures ∙ ap end_row before in
    let text = c.split_begun.ensures.word ∙ ap (λ delimiters. begun_part delimiters c.end_row.result.now) c.as_str.ensures.value ∙ ap (begun_part _) row in
    rw (text, c.deref.ensures.value) at c.words_from.ensures
