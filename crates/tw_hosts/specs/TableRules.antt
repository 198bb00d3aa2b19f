-- What a host of tables answers.
use Rattle.std.specs.Prelude.{ℕ, List, map, string_bytes, take}
use Rattle.tw_surface.specs.Width.{column_width}
use Rattle.tw_host.specs.HostRules.{HostRules, plain_rules}
use Rattle.tw_hosts.specs.Bindings.{resolved_event}
use Rattle.tw_hosts.specs.Hints.{hint_elements}
use Rattle.tw_hosts.specs.Tokens.{styled_line}
use Rattle.tw_hosts.specs.Words.{word_completions}
use Rattle.tw_hosts.specs.declared.bindings.KeyBinding.{KeyBinding}
use Rattle.tw_hosts.specs.declared.hints.Hint.{Hint}
use Rattle.tw_hosts.specs.declared.table_host.Tables.{Tables}
use Rattle.tw_hosts.specs.declared.tokens.Styles.{Styles}

-- what the tables hold, and the lines of the history
pub record TablesView : Type 0 where
  pub keywords : List (List ℕ)
  pub words : List (List ℕ)
  pub hints : List Hint
  pub keys : List KeyBinding
  pub styles : Styles
  pub lines : List (List ℕ)

-- the view of tables, with the lines of a history
abbrev pub tables_view : Tables → List (List ℕ) → TablesView
tables_view tables lines = record {
  keywords = map string_bytes tables.keywords.items;
  words = map string_bytes tables.words.items;
  hints = tables.hints.items;
  keys = tables.keys.items;
  styles = tables.styles;
  lines = lines;
}

-- the prompt as it is, the line by its tokens, with the columns before the cursor, and by the tables all else
abbrev pub table_rules : HostRules TablesView
table_rules = record (plain_rules (λ (v : TablesView). v.lines)) {
  preview = λ v line. hint_elements v.hints line;
  highlight = λ v cut. record { elements = styled_line v.styles v.keywords cut.line; column = column_width (take cut.cursor cut.line) };
  candidates = λ v cut. word_completions v.words cut;
  resolve = λ v event cut. resolved_event v v.keys event cut;
}
