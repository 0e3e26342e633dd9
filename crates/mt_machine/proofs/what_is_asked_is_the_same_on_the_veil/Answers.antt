use Rattle.std.proofs.Common.{◌≡◌, ◌==◌, ℕ, Option, Some, None, Result, Ok, Err, [], refl, sym, ap, ◌∙◌, subst}
use Rattle.mt_im.specs.declared.fault.ImFault.{ImFault}
use Rattle.mt_model.specs.declared.messages.message.Request.{Request}
use Rattle.mt_model.specs.declared.node.state.NodeState.{NodeState}
use Rattle.mt_model.specs.declared.tables.access.Actor.{Actor}
use Rattle.mt_machine.specs.Environment.{Environment}
use Rattle.mt_machine.specs.Isolation.{veil}
use Rattle.mt_machine.specs.Lines.{action_of}
use Rattle.mt_machine.specs.State.{IsValid}
use Rattle.mt_machine.specs.Step.{asker, steps_of}
use Rattle.mt_machine.proofs.Deadlines.{deadline-own}
use Rattle.mt_machine.proofs.Tells.{askers_known}
use Rattle.mt_machine.proofs.Veiled.{by_line, reply_same, steps_same}
use Rattle.mt_machine.proofs.what_is_asked_is_the_same_on_the_veil.Goals as goal

pub returns-clause-asker : goal.returns-clause-asker
returns-clause-asker c = λ s fabric node cats valid.
    by_line s valid (λ f actor. (asker (veil f s) actor ≡ asker s actor) × ((asking : Actor) → asker s actor ≡ Some asking → asking.fabric ≡ f))
    (λ actor asking on_veil on_state. (on_veil ∙ sym on_state, λ other is. ap (fabric_or asking.fabric) (sym is ∙ on_state)))
    (λ f actor on_veil on_state. (on_veil ∙ sym on_state, λ other is. absurd (none_is_some (sym on_state ∙ is))))
    fabric node cats (fabric == 0)
  where
    fabric_or : ℕ → Option Actor → ℕ
    fabric_or n None = n
    fabric_or n (Some actor) = actor.fabric

    none_is_some : {a : Actor} → None ≡ Some a → ⊥
    none_is_some is = absurd (cc)

pub returns-clause-reply : goal.returns-clause-reply
returns-clause-reply c = λ given s actor asking ms asked valid on_state on_veil. reply_same given s valid actor asking on_veil on_state ms asked

pub returns-clause-deadline : goal.returns-clause-deadline
returns-clause-deadline c = λ s asking. deadline-own asking s.deadlines

pub returns-clause-steps : goal.returns-clause-steps
returns-clause-steps c = λ given s actor asking asked deadline ms valid on_state on_veil. by_asked given s actor asking valid on_state on_veil deadline ms asked
  where
    by_asked : (given : Environment) (s : NodeState) (actor asking : Actor) → IsValid s → asker s actor ≡ Some asking → asker (veil asking.fabric s) actor ≡ Some asking → (deadline : Option ℕ) (ms : ℕ) (asked : Result Request ImFault)
        → steps_of given (veil asking.fabric s) (action_of actor deadline asked) ms ≡ steps_of given s (action_of actor deadline asked) ms
    by_asked given s actor asking valid on_state on_veil deadline ms (Ok request) = steps_same given (record { node = s; deadlines = [] }) valid actor asking on_veil on_state request deadline ms
    by_asked given s actor asking valid on_state on_veil deadline ms (Err fault) = refl

pub returns-clause-known : goal.returns-clause-known
returns-clause-known c = askers_known
