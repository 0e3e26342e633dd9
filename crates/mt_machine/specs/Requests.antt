-- What the crates that answer requests say of the steps that requests make: which they set, that these have their form, whose they are.
use Rattle.mt_admin.specs.Laws.{CommandsAreSound}
use Rattle.mt_commission.specs.Laws.{StepsAreSound, StepsStandFirst}
use Rattle.mt_groupkeys.specs.Laws.{NobodyMakesSteps}
use Rattle.mt_groupkeys.specs.Laws as group_keys
use Rattle.mt_opcreds.specs.Laws.{StepsAreWellFormed, StepsFit}
use Rattle.mt_opcreds.specs.Moves.{StepsAreMoves}
use Rattle.mt_write.specs.Laws.{LeavesSound, NobodySetsScoped, TouchesItsOwn}

pub record RequestLaws : Type 0 where
  -- writes
  pub own : TouchesItsOwn
  pub forms : LeavesSound
  pub nobody : NobodySetsScoped
  -- commands of General Commissioning and of Network Commissioning
  pub commissioning : StepsAreSound
  pub first : StepsStandFirst
  -- of Operational Credentials
  pub well_formed : StepsAreWellFormed
  pub fit : StepsFit
  pub moves : StepsAreMoves
  -- of Administrator Commissioning
  pub windows : CommandsAreSound
  -- of Group Key Management
  pub keys : group_keys.StepsAreSound
  pub keyless : NobodyMakesSteps
