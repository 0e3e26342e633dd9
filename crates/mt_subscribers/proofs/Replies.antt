-- What answers a request that is no wish tells no subscription.
use Rattle.std.proofs.Common.{◌≡◌, ℕ, if◌then◌else◌, is_some, Bool, true, false, List, Option, Some, None, refl, ◌∙◌}
use Rattle.std.specs.List.{list_any}
use Rattle.mt_tlv.specs.declared.value.Value.{Value}
use Rattle.mt_model.specs.messages.Blocks.{names_item}
use Rattle.mt_model.specs.rows.Seen.{Observation}
use Rattle.mt_model.specs.declared.messages.message.Item.{Item}
use Rattle.mt_model.specs.declared.messages.message.Path.{Path}
use Rattle.mt_model.specs.declared.messages.message.Reply.{Reply}
use Rattle.mt_model.specs.declared.messages.message.Reply.TheVariants as replies
use Rattle.mt_model.specs.declared.messages.message.Request.{Request}
use Rattle.mt_model.specs.declared.messages.message.Request.TheVariants as requests
use Rattle.mt_model.specs.declared.messages.message.WriteItem.{WriteItem}
use Rattle.mt_model.specs.declared.node.state.NodeState.{NodeState}
use Rattle.mt_model.specs.declared.node.state.Version.{Version}
use Rattle.mt_model.specs.declared.rows.place.Place.{Place}
use Rattle.mt_model.specs.declared.tables.access.Actor.{Actor}
use Rattle.mt_read.specs.Reading.{read_answer}
use Rattle.mt_write.specs.Writing.{write_answer}
use Rattle.mt_shared.specs.mt_machine.Commands.{command_effect}
use Rattle.mt_shared.specs.mt_machine.Environment.{Environment}
use Rattle.mt_shared.specs.mt_machine.Observation.{observation}
use Rattle.mt_shared.specs.mt_machine.Step.{asked_reply, at_time, invoke_reply, is_late, is_untimely, read_reply, reply_to, report_of, unless_suppressed, write_reply}
use Rattle.mt_shared.specs.mt_ledger.HistoryAsking.{with_events}
use Rattle.mt_subscribers.proofs.Commands.{command_tells, subscription_of}

abbrev Silent : Reply → Type 0
Silent reply = subscription_of reply ≡ None

chosen : (test : Bool) (reply other : Reply) → Silent reply → Silent other → Silent (if test then reply else other)
chosen true reply other first second = first
chosen false reply other first second = second

-- the events among a report are not its subscription
same_with_events : (events : List Item) (reply : Reply) → subscription_of (with_events events reply) ≡ subscription_of reply
same_with_events events (replies.Report subscription items suppress) = refl
same_with_events events reply = refl

-- What answers a request that is no wish tells none.

reports_none : (items : Option (List Item)) → Silent (report_of items)
reports_none None = refl
reports_none (Some items) = refl

suppressed_tells : (suppress : Bool) (reply : Reply) → Silent reply → Silent (unless_suppressed suppress reply)
suppressed_tells true reply none = refl
suppressed_tells false reply none = none

module _ (given : Environment) (o : Observation) (actor : Actor) (stood : Bool) where
  read_tells : (paths : List Path) (filtered : Bool) (versions : List Version) → Silent (read_reply o actor paths filtered versions)
  read_tells paths filtered versions = chosen (list_any names_item paths) _ _ refl (reports_none (read_answer o.seen actor paths filtered versions))

  write_tells : (suppress timed : Bool) (items : List WriteItem) → Silent (write_reply o actor stood suppress timed items)
  write_tells suppress timed items = chosen (is_untimely stood timed) _ _ refl (suppressed_tells suppress (replies.Written (write_answer o.seen actor items timed).statuses) refl)

  invoke_tells : (suppress timed : Bool) (command : Place) (fields : Value) → Silent (invoke_reply given o actor stood suppress timed command fields)
  invoke_tells suppress timed command fields =
      chosen (is_untimely stood timed) _ _ refl
      (suppressed_tells suppress (command_effect given o actor timed command fields).reply (command_tells given o actor command fields timed))

  request_tells : (request : Request) → Silent (reply_to given o actor stood request)
  request_tells (requests.Status code) = refl
  request_tells (requests.Read paths wanted minimum filtered versions) = read_tells paths filtered versions
  request_tells (requests.Subscribe keep floor ceiling paths wanted minimum filtered versions) = refl
  request_tells (requests.Write suppress timed items) = write_tells suppress timed items
  request_tells (requests.Invoke suppress timed command fields) = invoke_tells suppress timed command fields
  request_tells (requests.Timed ms) = refl

asked_tells : (given : Environment) (s : NodeState) (request : Request) (deadline : Option ℕ) (now : ℕ) (asking : Option Actor) → Silent (asked_reply given s request deadline now asking)
asked_tells given s request deadline now None = refl
asked_tells given s request deadline now (Some asking) = chosen (is_late deadline now) _ _ refl (request_tells given (observation asking.fabric (at_time now s)) asking (is_some deadline) request)

-- also with the events that it asks for
pub plainly_none : (given : Environment) (s : NodeState) (request : Request) (deadline : Option ℕ) (now : ℕ) (asking : Option Actor) (events : List Item)
    → subscription_of (with_events events (asked_reply given s request deadline now asking)) ≡ None
plainly_none given s request deadline now asking events = same_with_events events (asked_reply given s request deadline now asking) ∙ asked_tells given s request deadline now asking
