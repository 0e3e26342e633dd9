use Rattle.mt_events.proofs.Rising.{forgotten_are, pushed_are}
use Rattle.mt_events.proofs.laws.rings_stay_rings.Goals as goal

pub returns-clause-pushed : goal.returns-clause-pushed
returns-clause-pushed c = pushed_are

pub returns-clause-forgotten : goal.returns-clause-forgotten
returns-clause-forgotten c = forgotten_are
