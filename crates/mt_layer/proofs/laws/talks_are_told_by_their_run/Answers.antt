use Rattle.mt_layer.proofs.Alike.{answer_alike, drop_alike, hear_alike, report_alike, resend_alike}
use Rattle.mt_layer.proofs.laws.talks_are_told_by_their_run.Goals as goal

pub returns : goal.returns
returns c = record { hears = hear_alike; answers = answer_alike; reports = report_alike; resends = resend_alike; drops = drop_alike }
