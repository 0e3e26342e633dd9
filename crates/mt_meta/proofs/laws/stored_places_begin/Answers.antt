use Rattle.mt_meta.proofs.FirstFacts.{all-begin}
use Rattle.mt_meta.proofs.laws.stored_places_begin.Goals as goal

pub returns : goal.returns
returns c = all-begin
