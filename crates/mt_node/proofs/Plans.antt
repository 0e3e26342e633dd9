-- The outcome of an answer is the plan of the action that it answers.
use Rattle.std.proofs.Common.{◌≡◌, ℕ, Bool, List, Option, None, Result, Ok, Err, IfOk, ap, sym, ◌∙◌, subst}
use Rattle.std.specs.Option.{option_and_then}
use Rattle.mt_model.specs.Optional.{is_that}
use Rattle.mt_model.specs.declared.tables.access.Actor.{Actor}
use Rattle.mt_model.specs.declared.node.action.Action.{Action}
use Rattle.mt_model.specs.declared.node.action.Action.TheVariants.{Ask, Nothing}
use Rattle.mt_model.specs.declared.node.action.NodeStep.{NodeStep}
use Rattle.mt_model.specs.declared.messages.message.Reply.{Reply}
use Rattle.mt_model.specs.declared.messages.message.Request.{Request}
use Rattle.mt_model.specs.declared.node.state.NodeState.{NodeState}
use Rattle.mt_machine.specs.Environment.{Environment}
use Rattle.mt_machine.specs.Leaving.{has_left}
use Rattle.mt_machine.specs.State.{IsValid}
use Rattle.mt_machine.specs.Observation.{observation}
use Rattle.mt_machine.specs.Step.{Aside, after_action, after_steps, aside_between, aside_of, asked_reply, asked_steps, asker, asker_of, at_time, reply_of, reply_to, steps_of, steps_to}
use Rattle.mt_node.specs.Answered.{IsAnswer}
use Rattle.mt_machine.specs.Telling.{told_between}
use Rattle.mt_node.specs.Plan.{IsMade, IsPlan}
use Rattle.mt_model.specs.declared.node.action.Effect.{Effect}
use Rattle.mt_node.specs.declared.outcome.Outcome.{Outcome}

pub plan_of : (given : Environment) (s : NodeState) (action : Action) (now : ℕ) (asking : Option Actor) (answered : Effect) (outcome : Outcome)
    → asking ≡ asker_of s action → answered.reply ≡ reply_of given s action now → answered.steps ≡ steps_of given s action now → IsValid (after_action given s action now)
    → ((fabric : ℕ) → has_left s (after_action given s action now) fabric ≡ is_that fabric (aside_of given s action now).gone)
    → IsMade s asking answered now outcome → IsPlan given s action now outcome
plan_of given s action now asking answered outcome asks replies steps valid one made =
    let behind : after_steps asking answered.steps (at_time now s) ≡ after_action given s action now = λ i. after_steps (asks i) (steps i) (at_time now s) in
    let aside = made.aside ∙ (λ i. aside_between (option_and_then (λ (actor : Actor). actor.session) (asks i)) s (behind i)) in
    record {
      reply = made.reply ∙ replies;
      told = made.told ∙ (λ i. told_between (asks i) (steps i) s (behind i));
      aside = aside;
      state = made.state ∙ behind;
      change = made.change;
      ready = made.ready;
      valid = subst IsValid (sym (made.state ∙ behind)) valid;
      leaves = λ fabric.
          ap (λ (t : NodeState). has_left s t fabric) (made.state ∙ behind) ∙ one fabric ∙ ap (λ (a : Aside). is_that fabric a.gone) (sym aside);
    }

-- where nobody is taken as asking, nothing is asked
pub nobody_asks : (given : Environment) (s : NodeState) (actor : Actor) (request : Request) (timed : Option ℕ) (now : ℕ) (outcome : Outcome) → asker s actor ≡ None
    → IsPlan given s Nothing now outcome → IsPlan given s (Ask actor request timed) now outcome
nobody_asks given s actor request timed now outcome nobody planned =
    let behind : after_action given s Nothing now ≡ after_action given s (Ask actor request timed) now = λ i. after_steps (sym nobody i) (asked_steps given s request timed now (sym nobody i)) (at_time now s) in
    record {
      reply = planned.reply ∙ (λ i. asked_reply given s request timed now (sym nobody i));
      told = planned.told ∙ (λ i. told_between (sym nobody i) (asked_steps given s request timed now (sym nobody i)) s (behind i));
      aside = planned.aside ∙ (λ i. aside_between (option_and_then (λ (a : Actor). a.session) (sym nobody i)) s (behind i));
      state = planned.state ∙ behind;
      change = planned.change;
      ready = planned.ready;
      valid = planned.valid;
      leaves = planned.leaves;
    }

pub if_ok : {A E : Type 0} (P Q : A → Type 0) (result : Result A E) → ((a : A) → P a → Q a) → IfOk result P → IfOk result Q
if_ok P Q (Ok a) f h = f a h
if_ok P Q (Err e) f h = h

-- what an area answers is the answer to the request
pub answer_of : {E : Type 0} (result : Result Effect E) (given : Environment) (s : NodeState) (asking : Actor) (stood : Bool) (request : Request) (reply : Reply) (steps : List NodeStep)
    → reply ≡ reply_to given (observation asking.fabric s) asking stood request → steps ≡ steps_to given (observation asking.fabric s) asking stood request
    → IfOk result (λ answered. answered ≡ record { reply = reply; steps = steps }) → IfOk result (IsAnswer given s asking stood request)
answer_of (Ok answered) given s asking stood request reply steps replies makes h = record { reply = ap (λ (a : Effect). a.reply) h ∙ replies; steps = ap (λ (a : Effect). a.steps) h ∙ makes }
answer_of (Err e) given s asking stood request reply steps replies makes h = h
