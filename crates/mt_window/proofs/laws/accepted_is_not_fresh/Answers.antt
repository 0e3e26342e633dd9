use Rattle.mt_window.proofs.Answered.{accepted-not_fresh}
use Rattle.mt_window.proofs.laws.accepted_is_not_fresh.Goals as goal

pub returns : goal.returns
returns c = accepted-not_fresh
