use Rattle.mt_invoke.proofs.Denied.{denies_exactly}
use Rattle.mt_invoke.proofs.laws.command_denials_are_exact.Goals as goal

pub returns : goal.returns
returns c = denies_exactly
