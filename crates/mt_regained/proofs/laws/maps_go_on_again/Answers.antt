use Rattle.mt_regained.proofs.GoesOn.{goes_on_again}
use Rattle.mt_regained.proofs.laws.maps_go_on_again.Goals as goal

pub returns : goal.returns
returns c = goes_on_again c.durable_maps_are_kept.ensures c.states_are_regained.ensures.valid c.states_are_regained.ensures.again c.states_are_valid.ensures.opens c.expiries_spare_others.ensures.valid
