use Rattle.mt_exchange.proofs.Retelling as retelling
use Rattle.mt_exchange.proofs.laws.runs_are_retold.Goals as goal

pub returns-clause-begun : goal.returns-clause-begun
returns-clause-begun c = retelling.begins

pub returns-clause-waiting : goal.returns-clause-waiting
returns-clause-waiting c = retelling.waiting

pub returns-clause-answers : goal.returns-clause-answers
returns-clause-answers c = retelling.answers

pub returns-clause-copies : goal.returns-clause-copies
returns-clause-copies c = retelling.copies

pub returns-clause-reports : goal.returns-clause-reports
returns-clause-reports c = retelling.reports

pub returns-clause-resends : goal.returns-clause-resends
returns-clause-resends c = retelling.resends

pub returns-clause-drops : goal.returns-clause-drops
returns-clause-drops c = retelling.drops
