use Rattle.mt_meta.proofs.TableFacts.{found-listed}
use Rattle.mt_meta.proofs.laws.places_are_found.Goals as goal

pub returns : goal.returns
returns c = found-listed
