use Rattle.mt_runs.proofs.Absent.{sends_nothing}
use Rattle.mt_runs.proofs.runs.strangers_are_sent_nothing.Goals as goal

pub returns : goal.returns
returns c = λ given fabric w e valid some out its. sends_nothing given fabric w valid some out e its
