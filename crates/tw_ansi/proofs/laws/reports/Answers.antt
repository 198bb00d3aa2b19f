use Rattle.tw_ansi.proofs.Reports.{mouse_reports, open_mouse_reports}
use Rattle.tw_ansi.proofs.laws.reports.Goals as goal

pub returns-clause-mouse : goal.returns-clause-mouse
returns-clause-mouse c = mouse_reports

pub returns-clause-open_mouse : goal.returns-clause-open_mouse
returns-clause-open_mouse c = open_mouse_reports
