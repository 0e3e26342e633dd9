use Rattle.mt_lasting.proofs.Maps.{are_maps}
use Rattle.mt_lasting.proofs.laws.maps_are_maps.Goals as goal

pub returns : goal.returns
returns c = are_maps
