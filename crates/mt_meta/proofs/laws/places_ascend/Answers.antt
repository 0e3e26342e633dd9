use Rattle.mt_meta.proofs.TableFacts.{all-ascend}
use Rattle.mt_meta.proofs.laws.places_ascend.Goals as goal

pub returns : goal.returns
returns c = all-ascend
