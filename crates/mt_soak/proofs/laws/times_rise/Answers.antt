use Rattle.mt_soak.specs.Generated.{begun}
use Rattle.mt_soak.proofs.OneByOne.{rise, timed}
use Rattle.mt_soak.proofs.laws.times_rise.Goals as goal

pub returns-clause-next : goal.returns-clause-next
returns-clause-next c = timed

pub returns-clause-all : goal.returns-clause-all
returns-clause-all c = λ begin fabrics count. rise (begun begin fabrics) count
