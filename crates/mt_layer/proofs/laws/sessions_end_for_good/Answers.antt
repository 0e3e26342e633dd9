use Rattle.mt_layer.proofs.Ending.{closed_have_ended, ended_stay}
use Rattle.mt_layer.proofs.laws.sessions_end_for_good.Goals as goal

pub returns : goal.returns
returns c = record { ended = ended_stay; closed = closed_have_ended }
