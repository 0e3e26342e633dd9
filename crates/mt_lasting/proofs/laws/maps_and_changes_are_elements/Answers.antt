use Rattle.mt_lasting.proofs.AllowedMaps.{changes_are_said, maps_have_images}
use Rattle.mt_lasting.proofs.laws.maps_and_changes_are_elements.Goals as goal

pub returns : goal.returns
returns c = record {
  maps = maps_have_images c.narrow_is_element.ensures c.maps_are_maps.ensures c.maps_and_changes_are_short.ensures.maps;
  changes = changes_are_said c.narrow_is_element.ensures c.changes_lead_on.ensures.ascend c.maps_and_changes_are_short.ensures.changes;
}
