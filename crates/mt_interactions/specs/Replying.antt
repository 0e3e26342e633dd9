-- What is replied on a line of a plain actor.
use Rattle.std.specs.Prelude.{ℕ, List, ◌++◌, if◌then◌else◌}
use Rattle.mt_model.specs.messages.Status.{code_of}
use Rattle.mt_model.specs.declared.messages.message.Reply.{Reply}
use Rattle.mt_model.specs.declared.messages.message.Request.{Request}
use Rattle.mt_model.specs.declared.messages.status.Status.TheVariants.{Busy}
use Rattle.mt_model.specs.declared.tables.access.Actor.{Actor}
use Rattle.mt_model.specs.declared.texts.recording.Sent.{Sent}
use Rattle.mt_node.specs.mt_machine.Lines.{is_refused, sent_as}
use Rattle.mt_node.specs.mt_machine.State.{State}
use Rattle.mt_node.specs.mt_machine.Step.{refusal}
use Rattle.mt_runs.specs.mt_ledger.HistoryAsking.{events_asked, with_events}
use Rattle.mt_runs.specs.mt_ledger.Ledger.{Ledger}

-- a reply of the node, and the events that the request asks for, or the refusal of a time for which there is no room
abbrev pub replied_plainly : State → Ledger → Actor → ℕ → Request → Reply → Reply
replied_plainly s l asking ms request reply = with_events (events_asked s.node.entries l.history.rings asking request) (if is_refused asking s.deadlines ms request then refusal (code_of Busy) else reply)

-- the messages of two replies
abbrev pub sent_both : ℕ → ℕ → Reply → Reply → List Sent
sent_both ms fabric reply response = sent_as ms fabric reply ++ sent_as ms fabric response
