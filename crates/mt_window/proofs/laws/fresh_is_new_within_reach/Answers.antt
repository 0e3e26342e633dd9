use Rattle.mt_window.proofs.Answered.{fresh_is_new}
use Rattle.mt_window.proofs.laws.fresh_is_new_within_reach.Goals as goal

pub returns : goal.returns
returns c = fresh_is_new
