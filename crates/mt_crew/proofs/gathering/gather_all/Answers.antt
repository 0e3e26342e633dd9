use Rattle.std.proofs.Common.{ap}
use Rattle.mt_crew.specs.Members.{lefts}
use Rattle.mt_crew.proofs.Gatherings.{gathered_all, status_behind}
use Rattle.mt_crew.proofs.gathering.gather_all.Goals as goal

pub returns-clause-gathered : goal.returns-clause-gathered
returns-clause-gathered g c = gathered_all _ _ _ c.args.clerk (lefts c.args.members.items) c.take_in-last.ensures.took c.gather-worked.ensures.gathered

pub returns-clause-status : goal.returns-clause-status
returns-clause-status g c = status_behind _ c.take_in-last.result.1 _ (lefts c.args.members.items) c.args.clerk c.gather-worked.ensures.status (ap (λ it. it.1) c.take_in-last.ensures.result) c.first_of.ensures
