use Rattle.mt_lasting.proofs.KeptPlaces.{kept_places}
use Rattle.mt_lasting.proofs.laws.places_are_those_kept.Goals as goal

pub returns : goal.returns
returns c = kept_places
