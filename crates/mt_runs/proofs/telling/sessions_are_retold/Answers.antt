use Rattle.mt_runs.proofs.Retelling as retelling
use Rattle.mt_runs.proofs.telling.sessions_are_retold.Goals as goal

pub returns-clause-begins : goal.returns-clause-begins
returns-clause-begins c = retelling.begins c.talks_are_retold.ensures.begun

pub returns-clause-lines : goal.returns-clause-lines
returns-clause-lines c = retelling.lines c.talks_are_retold.ensures.hears c.talks_are_retold.ensures.reports c.talks_are_retold.ensures.resends c.talks_are_retold.ensures.drops

pub returns-clause-runs : goal.returns-clause-runs
returns-clause-runs c = retelling.runs c.talks_are_retold.ensures.hears c.talks_are_retold.ensures.reports c.talks_are_retold.ensures.resends c.talks_are_retold.ensures.drops c.talks_are_retold.ensures.begun
