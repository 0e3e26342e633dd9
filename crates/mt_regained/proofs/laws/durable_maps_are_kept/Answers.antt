use Rattle.mt_regained.proofs.Durable.{durable_kept}
use Rattle.mt_regained.proofs.laws.durable_maps_are_kept.Goals as goal

pub returns : goal.returns
returns c = durable_kept c.maps_are_maps.ensures c.maps_are_read_back.ensures.back c.maps_are_read_back.ensures.facts
