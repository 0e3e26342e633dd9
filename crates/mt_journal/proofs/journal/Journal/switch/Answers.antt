use Rattle.mt_journal.proofs.journal.Journal.switch.Goals as goal

pub returns-clause-replaced : goal.returns-clause-replaced
returns-clause-replaced g c = λ list stands. (c.commit.ensures.committed list stands c.requires.form)

pub returns-clause-moments : goal.returns-clause-moments
returns-clause-moments g c = λ list stands. (c.commit.ensures.moments list stands c.requires.form)
