use Rattle.mt_write.proofs.Denied.{denies_exactly}
use Rattle.mt_write.proofs.laws.write_denials_are_exact.Goals as goal

pub returns : goal.returns
returns c = denies_exactly
