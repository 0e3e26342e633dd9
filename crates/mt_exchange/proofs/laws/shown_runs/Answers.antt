use Rattle.mt_exchange.specs.Runs.{begun}
use Rattle.mt_exchange.proofs.Sealings.{run-more}
use Rattle.mt_exchange.proofs.Showing.{arrivals-on, messages-on, more-from}
use Rattle.mt_exchange.proofs.laws.shown_runs.Goals as goal

pub returns-clause-arrivals : goal.returns-clause-arrivals
returns-clause-arrivals c = λ row happenings. arrivals-on row begun happenings

pub returns-clause-messages : goal.returns-clause-messages
returns-clause-messages c = λ row happenings. messages-on row begun happenings

pub returns-clause-more : goal.returns-clause-more
returns-clause-more c = λ row happenings h. more-from row begun happenings h

pub returns-clause-run_more : goal.returns-clause-run_more
returns-clause-run_more c = run-more
