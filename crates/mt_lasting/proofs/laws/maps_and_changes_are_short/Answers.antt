use Rattle.mt_lasting.proofs.Lengths.{changes_short, maps_short}
use Rattle.mt_lasting.proofs.laws.maps_and_changes_are_short.Goals as goal

pub returns : goal.returns
returns c = record { maps = maps_short; changes = changes_short }
