use Rattle.tw_ansi.proofs.Resumes.{is_found, is_far, is_read, is_bounded}
use Rattle.tw_ansi.proofs.resume.scan_on.Goals as goal

pub returns-clause-found : goal.returns-clause-found
returns-clause-found c = is_found c.args.progress c.args.is_last c.args.bytes.now c.requires _ c.go_on.ensures

pub returns-clause-fits : goal.returns-clause-fits
returns-clause-fits c = is_read c.args.progress c.args.is_last c.args.bytes.now c.requires _ c.go_on.ensures

pub returns-clause-takes : goal.returns-clause-takes
returns-clause-takes c = is_bounded c.args.progress c.args.is_last c.args.bytes.now c.requires _ c.go_on.ensures

pub returns-clause-progress : goal.returns-clause-progress
returns-clause-progress c = is_far c.args.progress c.args.is_last c.args.bytes.now c.requires _ c.go_on.ensures
