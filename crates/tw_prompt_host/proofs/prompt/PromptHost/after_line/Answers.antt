use Rattle.std.proofs.Common.{sym}
use Rattle.tw_prompt_host.proofs.prompt.PromptHost.after_line.Goals as goal

pub returns-then-self : goal.returns-then-self
returns-then-self g c = rw (c.if-self.true, sym c.default-style.ensures, sym c.failing_text-text.ensures) c.after_line_on.ensures
