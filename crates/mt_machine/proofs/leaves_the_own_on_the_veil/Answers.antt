use Rattle.mt_machine.proofs.Kept.{alike_on}
use Rattle.mt_machine.proofs.Veiled.{action_leaves_same, leaves_on_veil}
use Rattle.mt_machine.proofs.leaves_the_own_on_the_veil.Goals as goal

pub returns-clause-event : goal.returns-clause-event
returns-clause-event c = λ given s e keeps valid.
    leaves_on_veil given s e valid
    (alike_on c.requests_keep_rules.ensures
    c.stored_places_are_those_of_the_model.ensures c.steps_see_the_veil.ensures.each c.steps_see_the_veil.ensures.removal c.the_index_is_the_least.ensures given keeps s.node valid)

pub returns-clause-action : goal.returns-clause-action
returns-clause-action c = λ given s actor asking asked deadline ms keeps valid on_state on_veil.
    action_leaves_same given s valid actor asking on_veil on_state
    (alike_on c.requests_keep_rules.ensures
    c.stored_places_are_those_of_the_model.ensures c.steps_see_the_veil.ensures.each c.steps_see_the_veil.ensures.removal c.the_index_is_the_least.ensures given keeps s.node valid)
    asked deadline ms
