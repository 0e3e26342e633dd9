use Rattle.mt_layer.proofs.Reports.{reports}
use Rattle.mt_layer.proofs.laws.reports_are_lines.Goals as goal

pub returns : goal.returns
returns c = reports
