use Rattle.mt_meta.proofs.StoredFacts.{stored-kept}
use Rattle.mt_meta.proofs.laws.stored_places_are_those_of_the_model.Goals as goal

pub returns : goal.returns
returns c = stored-kept
