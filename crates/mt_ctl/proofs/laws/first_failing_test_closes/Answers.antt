use Rattle.mt_ctl.proofs.Tests.{first_closes}
use Rattle.mt_ctl.proofs.laws.first_failing_test_closes.Goals as goal

pub returns : goal.returns
returns c = first_closes
