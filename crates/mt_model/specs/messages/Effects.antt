-- What a command comes to that is answered with a status alone.
use Rattle.std.specs.Prelude.{ℕ, List, []}
use Rattle.mt_model.specs.messages.Status.{code_of}
use Rattle.mt_model.specs.declared.messages.message.Reply.TheVariants as replies
use Rattle.mt_model.specs.declared.messages.status.Status.{Status}
use Rattle.mt_model.specs.declared.messages.status.Status.TheVariants.{Failure}
use Rattle.mt_model.specs.declared.node.action.Effect.{Effect}
use Rattle.mt_model.specs.declared.node.action.NodeStep.{NodeStep}
use Rattle.mt_model.specs.declared.rows.place.Place.{Place}

-- a status under the path of the command, and what is made of the node
abbrev pub answered_with : Place → Status → List NodeStep → Effect
answered_with command status steps = record { reply = replies.InvokeStatus command (code_of status); steps = steps }

-- a command that is refused makes nothing of the node
abbrev pub refused_at : Place → Status → Effect
refused_at command status = answered_with command status []

-- so does one that fails for a reason that its cluster has a code for
abbrev pub failed_with : Place → ℕ → Effect
failed_with command reason = record { reply = replies.InvokeClusterStatus command (code_of Failure) reason; steps = [] }
