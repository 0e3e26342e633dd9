use Rattle.mt_layer.proofs.Resends.{resends}
use Rattle.mt_layer.proofs.laws.resends_are_lines.Goals as goal

pub returns : goal.returns
returns c = resends c.ends_are_by_time.ensures
