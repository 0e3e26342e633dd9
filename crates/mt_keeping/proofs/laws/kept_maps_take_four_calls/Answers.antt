use Rattle.mt_keeping.proofs.Recoveries.{four_calls}
use Rattle.mt_keeping.proofs.laws.kept_maps_take_four_calls.Goals as goal

pub returns : goal.returns
returns c = four_calls
