use Rattle.mt_subs.proofs.Staying.{not_given}
use Rattle.mt_subs.proofs.laws.ids_are_never_used_again.Goals as goal

pub returns-clause-given : goal.returns-clause-given
returns-clause-given c = not_given
