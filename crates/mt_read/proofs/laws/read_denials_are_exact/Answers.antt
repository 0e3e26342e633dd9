use Rattle.mt_read.proofs.Denials.{denies_exactly, leaves_out_exactly}
use Rattle.mt_read.proofs.laws.read_denials_are_exact.Goals as goal

pub returns-clause-concrete : goal.returns-clause-concrete
returns-clause-concrete c = denies_exactly

pub returns-clause-wildcard : goal.returns-clause-wildcard
returns-clause-wildcard c = leaves_out_exactly
