use Rattle.std.proofs.Common.{sym, subst}
use Rattle.mt_whole.specs.Plan.{Brings}
use Rattle.mt_whole.proofs.outcome.WholeOutcome.take_sent.Goals as goal

pub returns-clause-brings : goal.returns-clause-brings
returns-clause-brings c given w event brings = record { fresh = brings.fresh; state = brings.state; ledger = brings.ledger; talks = brings.talks }
