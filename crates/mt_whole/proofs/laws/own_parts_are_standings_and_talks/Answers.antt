use Rattle.mt_whole.proofs.Seen.{parts_same, parts_stand}
use Rattle.mt_whole.proofs.laws.own_parts_are_standings_and_talks.Goals as goal

pub returns : goal.returns
returns c fabric w v = (parts_stand fabric w v, parts_same fabric w v)
