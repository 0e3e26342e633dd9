use Rattle.mt_runs.proofs.Naming.{line_names, run_names}
use Rattle.mt_runs.proofs.runs.plain_messages_name_their_fabric.Goals as goal

pub returns-clause-line : goal.returns-clause-line
returns-clause-line c = line_names

pub returns-clause-run : goal.returns-clause-run
returns-clause-run c = λ given sessions g events. run_names given sessions events g
