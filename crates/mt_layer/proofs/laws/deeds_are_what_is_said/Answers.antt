use Rattle.mt_layer.proofs.Deeds.{deeds_are_resent, deeds_are_said}
use Rattle.mt_layer.proofs.laws.deeds_are_what_is_said.Goals as goal

pub returns : goal.returns
returns c = record { said = deeds_are_said; resent = deeds_are_resent c.ends_are_by_time.ensures }
