use Rattle.mt_runs.proofs.Replies.{expire_first, roll_back}
use Rattle.mt_runs.proofs.lines.expiries_are_rollbacks.Goals as goal

pub returns : goal.returns
returns c = record { first = expire_first c.expiries_roll_back.ensures.first; back = roll_back c.expiries_roll_back.ensures.back; leaves = c.expiries_roll_back.ensures.leaves }
