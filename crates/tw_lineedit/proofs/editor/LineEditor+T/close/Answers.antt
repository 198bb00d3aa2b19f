use Rattle.std.proofs.Common.{rules}
use Rattle.tw_terminal.specs.Uses.Call.{Other, Refused}
use Rattle.tw_lineedit.proofs.UseLemmas.{used_once, used_then}
use Rattle.tw_lineedit.proofs.editor.LineEditor+T.close.Goals.{in-None, in-Some+in_ok-render-in-Some}
use Rattle.tw_lineedit.proofs.editor.LineEditor+T.close.Goals as goal

pub returns-in_err-render-in-Some-clause-terminal : goal.returns-in_err-render-in-Some-clause-terminal
returns-in_err-render-in-Some-clause-terminal g c = (search rules, used_once g.T.Terminal.follows Refused _ _ c.in_err-render-in-Some.ensures.refused)

pub returns-in_err-flush-clause-terminal : goal.returns-in_err-flush-clause-terminal
returns-in_err-flush-clause-terminal g c = (
  search rules,
  elim c.match-end.branch [
    | in-None w ↦ used_once g.T.Terminal.follows Other _ _ (rw w.self-is at c.flush.ensures.follows)
    | in-Some+in_ok-render-in-Some w ↦ used_then g.T.Terminal.follows _ w.render.new.self _ (used_once g.T.Terminal.follows _ _ _ w.in_ok-render-in-Some.ensures.took) (used_once g.T.Terminal.follows Other _ _ (rw w.self-is at c.flush.ensures.follows))
  ],
)

pub returns-clause-terminal : goal.returns-clause-terminal
returns-clause-terminal g c = (
  search rules,
  elim c.match-end.branch [
    | in-None w ↦ used_once g.T.Terminal.follows Other _ _ (rw w.self-is at c.flush.ensures.follows)
    | in-Some+in_ok-render-in-Some w ↦ used_then g.T.Terminal.follows _ w.render.new.self _ (used_once g.T.Terminal.follows _ _ _ w.in_ok-render-in-Some.ensures.took) (used_once g.T.Terminal.follows Other _ _ (rw w.self-is at c.flush.ensures.follows))
  ],
)
