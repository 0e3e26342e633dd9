use Rattle.std.proofs.Common.{sym, rules}
use Rattle.mt_interactions.proofs.Planned.{none_taken}
use Rattle.mt_interactions.proofs.deadlines.taken_away.Goals as goal

pub returns-then-not-has_deadline : goal.returns-then-not-has_deadline
returns-then-not-has_deadline c = none_taken c.args.asking.now c.args.deadlines.now (rw (sym c.has_deadline.ensures) (search rules))
