use Rattle.mt_keeping.proofs.Commits.{first_said, have_maps, may_commit}
use Rattle.mt_keeping.proofs.OneMap.{leads_to_one}
use Rattle.mt_keeping.proofs.laws.states_may_be_committed.Goals as goal

pub returns-clause-one : goal.returns-clause-one
returns-clause-one c = leads_to_one c.bytes_of_a_change_are_read.ensures.read c.changes_lead_on.ensures.merged

pub returns-clause-may : goal.returns-clause-may
returns-clause-may c =
    may_commit (leads_to_one c.bytes_of_a_change_are_read.ensures.read c.changes_lead_on.ensures.merged) c.durable_maps_are_kept.ensures c.maps_and_changes_are_elements.ensures.maps

pub returns-clause-first : goal.returns-clause-first
returns-clause-first c = first_said c.maps_have_images.ensures.image

pub returns-clause-some : goal.returns-clause-some
returns-clause-some c = have_maps
