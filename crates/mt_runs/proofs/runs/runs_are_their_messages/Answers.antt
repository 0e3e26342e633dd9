use Rattle.mt_runs.proofs.Replays.{texts}
use Rattle.mt_runs.proofs.runs.runs_are_their_messages.Goals as goal

pub returns : goal.returns
returns c = λ given sessions g events. texts given sessions events g
