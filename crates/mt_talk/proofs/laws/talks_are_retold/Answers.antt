use Rattle.mt_talk.proofs.Retelling as retelling
use Rattle.mt_talk.proofs.laws.talks_are_retold.Goals as goal

pub returns-clause-begun : goal.returns-clause-begun
returns-clause-begun c = retelling.begins c.runs_are_retold.ensures.begun

pub returns-clause-hears : goal.returns-clause-hears
returns-clause-hears c = retelling.hears c.runs_are_retold.ensures.answers c.runs_are_retold.ensures.copies c.runs_are_retold.ensures.waiting c.taken_on_its_exchange.ensures

pub returns-clause-reports : goal.returns-clause-reports
returns-clause-reports c = retelling.reports c.runs_are_retold.ensures.reports

pub returns-clause-resends : goal.returns-clause-resends
returns-clause-resends c = retelling.resends c.runs_are_retold.ensures.resends

pub returns-clause-drops : goal.returns-clause-drops
returns-clause-drops c = retelling.drops c.runs_are_retold.ensures.drops

pub returns-clause-same : goal.returns-clause-same
returns-clause-same c = retelling.same c.shown_tells_the_rest.ensures
