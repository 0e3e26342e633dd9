use Rattle.mt_events.proofs.Denials.{denies_exactly, leaves_out_exactly}
use Rattle.mt_events.proofs.laws.event_denials_are_exact.Goals as goal

pub returns-clause-concrete : goal.returns-clause-concrete
returns-clause-concrete c = denies_exactly

pub returns-clause-told : goal.returns-clause-told
returns-clause-told c = leaves_out_exactly
