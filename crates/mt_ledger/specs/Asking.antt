-- What is replied, to an action and on a line of a plain actor: to a subscription too.
use Rattle.std.specs.Prelude.{ℕ, Option, Some, None, Result, Ok, Err}
use Rattle.mt_im.specs.declared.fault.ImFault.{ImFault}
use Rattle.mt_model.specs.declared.messages.message.Reply.{Reply}
use Rattle.mt_model.specs.declared.messages.message.Reply.TheVariants as replies
use Rattle.mt_model.specs.declared.messages.message.Request.{Request}
use Rattle.mt_model.specs.declared.node.action.Action.{Action}
use Rattle.mt_model.specs.declared.node.state.NodeState.{NodeState}
use Rattle.mt_model.specs.declared.tables.access.Actor.{Actor}
use Rattle.mt_machine.specs.Environment.{Environment}
use Rattle.mt_machine.specs.Lines.{deadline_of}
use Rattle.mt_machine.specs.State.{State}
use Rattle.mt_ledger.specs.history.Asking as histories
use Rattle.mt_ledger.specs.Ledger.{Ledger}
use Rattle.mt_ledger.specs.Subscribing.{Wish, response_to, wish_in, wish_in_time, wish_reply}

-- a wish is answered by itself, and all else as ever
abbrev pub with_wish : NodeState → Ledger → Option Wish → Reply → Reply
with_wish s l None reply = reply
with_wish s l (Some wish) reply = wish_reply s l wish

abbrev pub full_reply : Environment → NodeState → Ledger → Action → ℕ → Reply
full_reply given s l action now = with_wish s l (wish_in s action now) (histories.full_reply given s l.history action now)

-- On a line of a plain actor, and what follows at once, since it confirms at once.

abbrev pub line_wish : State → Actor → ℕ → Result Request ImFault → Option Wish
line_wish s asking ms (Ok request) = wish_in_time asking (deadline_of asking s.deadlines) ms request
line_wish s asking ms (Err fault) = None

abbrev pub full_line_reply : Environment → State → Ledger → Actor → Actor → ℕ → Result Request ImFault → Reply
full_line_reply given s l actor asking ms asked = with_wish s.node l (line_wish s asking ms asked) (histories.full_line_reply given s l.history actor asking ms asked)

abbrev pub line_response : State → Ledger → Actor → ℕ → Result Request ImFault → Reply
line_response s l asking ms asked = response_to (line_wish s asking ms asked) (with_wish s.node l (line_wish s asking ms asked) replies.Nothing)
