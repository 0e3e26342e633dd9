use Rattle.std.proofs.Common.{◌≡◌, ◌≤◌, ◌==◌, Option, Some, None, refl, inl, inr, arith, eqb-true}
use Rattle.std.proofs.lemmas.Bool.{or_cases}
use Rattle.mt_model.specs.declared.node.action.Action.{Action}
use Rattle.mt_model.specs.declared.node.action.Action.TheVariants.{Ask, Expire, Nothing}
use Rattle.mt_model.specs.declared.node.state.NodeState.{NodeState}
use Rattle.mt_model.specs.declared.tables.access.Actor.{Actor}
use Rattle.mt_machine.specs.Laws.{AskersAreKnown}
use Rattle.mt_machine.specs.State.{IsValid, is_member}
use Rattle.mt_machine.specs.Step.{after_action, asker, asker_of, steps_of}
use Rattle.mt_ledger.proofs.Recording.{fabric_for}
use Rattle.mt_ledger.proofs.EventsTold.{behind_still, member_low}
use Rattle.mt_ledger.proofs.Valid.{opens}
use Rattle.mt_ledger.proofs.history.histories_stay_histories.Goals as goal

-- whoever asks is of a fabric that there may be
low_asker : AskersAreKnown → (s : NodeState) (actor : Actor) → IsValid s → (asking : Option Actor) → asker s actor ≡ asking → fabric_for asking ≤ 16
low_asker known s actor valid None is = omega arith
low_asker known s actor valid (Some asking) is = elim (or_cases (asking.fabric == 0) (is_member asking.fabric s) (known s actor asking valid is)) [
  | inl nobody ↦ omega (arith, eqb-true asking.fabric 0 nobody)
  | inr there ↦ member_low s asking.fabric valid there
]

low : AskersAreKnown → (s : NodeState) (action : Action) → IsValid s → fabric_for (asker_of s action) ≤ 16
low known s (Ask actor request deadline) valid = low_asker known s actor valid (asker s actor) refl
low known s Expire valid = omega arith
low known s Nothing valid = omega arith

pub returns-clause-opens : goal.returns-clause-opens
returns-clause-opens c = opens c.rings_stay_rings.ensures.empty c.rings_stay_rings.ensures.pushed

pub returns-clause-stays : goal.returns-clause-stays
returns-clause-stays c = λ given s action now h rules valid is.
    behind_still c.rings_stay_rings.ensures.pushed c.rings_stay_rings.ensures.forgotten now (asker_of s action) (steps_of given s action now) s (after_action given s action now) h
    (low c.what_is_asked_is_the_same_on_the_veil.ensures.known s action valid)
    (c.actions_tell_their_own.ensures.own given s action now rules valid)
    (c.states_are_valid.ensures.stays given s action now rules valid)
    is
