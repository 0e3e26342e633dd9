use Rattle.mt_soak.specs.Generated.{begun}
use Rattle.mt_soak.proofs.OneByOne.{as_many, first, last}
use Rattle.mt_soak.proofs.laws.events_come_one_by_one.Goals as goal

pub returns-clause-first : goal.returns-clause-first
returns-clause-first c = first

pub returns-clause-last : goal.returns-clause-last
returns-clause-last c = λ begin fabrics count. last (begun begin fabrics) count

pub returns-clause-all : goal.returns-clause-all
returns-clause-all c = λ begin fabrics count. as_many (begun begin fabrics) count
