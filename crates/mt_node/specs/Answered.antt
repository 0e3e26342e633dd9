-- What an answer is made of.
use Rattle.std.specs.Prelude.{◌≡◌, ℕ, ◌==◌, Bool, false, Option}
use Rattle.mt_meta.specs.clusters.OperationalCredentials as operational_credentials
use Rattle.mt_model.specs.declared.tables.access.Actor.{Actor}
use Rattle.mt_model.specs.declared.messages.message.Request.{Request}
use Rattle.mt_model.specs.declared.messages.message.Request.TheVariants.{Invoke}
use Rattle.mt_model.specs.declared.node.state.NodeState.{NodeState}
use Rattle.mt_machine.specs.Environment.{Environment}
use Rattle.mt_machine.specs.Observation.{observation}
use Rattle.mt_machine.specs.Step.{reply_in_time, reply_to, steps_in_time, steps_to}
use Rattle.mt_model.specs.declared.node.action.Effect.{Effect}

-- the reply to a request of whoever is taken as asking, and its steps, where a deadline stood for it or none did
pub record IsAnswer (given : Environment) (s : NodeState) (asking : Actor) (stood : Bool) (request : Request) (answered : Effect) : Type 0 where
  pub reply : answered.reply ≡ reply_to given (observation asking.fabric s) asking stood request
  pub steps : answered.steps ≡ steps_to given (observation asking.fabric s) asking stood request

-- the same of a request that must have come until a time, at this time
pub record IsAnswerInTime (given : Environment) (s : NodeState) (asking : Actor) (request : Request) (timed : Option ℕ) (now : ℕ) (answered : Effect) : Type 0 where
  pub reply : answered.reply ≡ reply_in_time given s asking request timed now
  pub steps : answered.steps ≡ steps_in_time given s asking request timed now

-- whether a request is a command of Operational Credentials, which alone asks for verdicts
abbrev pub is_of_credentials : Request → Bool
is_of_credentials (Invoke suppress timed command fields) = command.cluster == operational_credentials.cluster
is_of_credentials request = false
