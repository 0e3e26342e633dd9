use Rattle.mt_machine.proofs.AlikeLeft.{left_is_gone, left_behind_expiry}
use Rattle.mt_machine.proofs.OneGoes.{action_one, ticks_take_one, veil_one}
use Rattle.mt_machine.proofs.one_leaves.Goals as goal

pub returns-clause-each : goal.returns-clause-each
returns-clause-each c = left_is_gone

pub returns-clause-removal : goal.returns-clause-removal
returns-clause-removal c = left_behind_expiry

pub returns-clause-action : goal.returns-clause-action
returns-clause-action c = λ given s action now fabric keeps valid.
    action_one c.requests_keep_rules.ensures
    c.stored_places_are_those_of_the_model.ensures given keeps s action now fabric valid

pub returns-clause-veil : goal.returns-clause-veil
returns-clause-veil c = λ given s actor asking asked deadline now fabric keeps valid on_state on_veil.
    veil_one c.requests_keep_rules.ensures
    c.stored_places_are_those_of_the_model.ensures given keeps s actor asking asked deadline now fabric valid on_state on_veil

pub returns-clause-tick : goal.returns-clause-tick
returns-clause-tick c = ticks_take_one
