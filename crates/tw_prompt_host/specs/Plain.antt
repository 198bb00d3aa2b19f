-- A prompt with other parts.
use Rattle.tw_prompt_host.specs.declared.prompt.PromptHost.{PromptHost}

-- with this host, history, keys and validator, and all else as it is
abbrev pub with_parts : {H L K V A B C D : Type 0} → A → B → C → D → PromptHost H L K V → PromptHost A B C D
with_parts host history keys validator it = record {
  host = host;
  history = history;
  completers = it.completers;
  listings = it.listings;
  keys = keys;
  hints = it.hints;
  stops_failing_searches = it.stops_failing_searches;
  validator = validator;
  menu = it.menu;
  screen = it.screen;
  rows = it.rows;
  going = it.going;
}
