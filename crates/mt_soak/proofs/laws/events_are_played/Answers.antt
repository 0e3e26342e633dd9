use Rattle.mt_soak.specs.Generated.{begun}
use Rattle.mt_soak.proofs.OneByOne.{all_played, played}
use Rattle.mt_soak.proofs.laws.events_are_played.Goals as goal

pub returns-clause-next : goal.returns-clause-next
returns-clause-next c = played

pub returns-clause-all : goal.returns-clause-all
returns-clause-all c = λ begin fabrics count. all_played (begun begin fabrics) count
