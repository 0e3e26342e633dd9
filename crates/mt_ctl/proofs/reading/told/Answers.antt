use Rattle.std.proofs.Common.{sym, ◌∙◌}
use Rattle.mt_ctl.proofs.Readings.{line_step-form}
use Rattle.mt_ctl.proofs.reading.told.Goals as goal

pub returns-clause-short : goal.returns-clause-short
returns-clause-short c = (line_step-form c.args.line.now c.in-Ok.step (sym c.in_ok-step.ensures ∙ c.in-Ok.is)).1
