-- What a report step comes to: what is sent to a plain actor at once, and what is to be reported over a session.
use Rattle.std.specs.Prelude.{ℕ, List, [], Option, Some, None}
use Rattle.mt_im_out.specs.Chunks.{chunks_of}
use Rattle.mt_model.specs.declared.messages.message.Payload.{Payload}
use Rattle.mt_model.specs.declared.messages.message.Reply.{Reply}
use Rattle.mt_model.specs.declared.node.state.NodeState.{NodeState}
use Rattle.mt_model.specs.declared.texts.recording.Sent.{Sent}
use Rattle.mt_node.specs.mt_machine.Lines.{sent_as}
use Rattle.mt_runs.specs.mt_ledger.History.{History}
use Rattle.mt_runs.specs.mt_ledger.Reporting.{Due, due_report}
use Rattle.mt_interactions.specs.declared.reports.DueReport as code

-- to a plain actor

abbrev pub sent_if_plain : ℕ → ℕ → Reply → Option ℕ → List Sent
sent_if_plain ms fabric report None = sent_as ms fabric report
sent_if_plain ms fabric report (Some session) = []

abbrev pub sent_plainly : NodeState → History → ℕ → ℕ → ℕ → Option Due → List Sent
sent_plainly s h ms fabric id None = []
sent_plainly s h ms fabric id (Some due) = sent_if_plain ms fabric (due_report s h fabric id due) due.kept.sub.actor.session

-- over a session

abbrev pub payloads_if_session : Reply → Option ℕ → Option (ℕ × List Payload)
payloads_if_session report None = None
payloads_if_session report (Some session) = Some (session, chunks_of report)

abbrev pub reported_over : NodeState → History → ℕ → ℕ → Option Due → Option (ℕ × List Payload)
reported_over s h fabric id None = None
reported_over s h fabric id (Some due) = payloads_if_session (due_report s h fabric id due) due.kept.sub.actor.session

-- over which session what is due is told
abbrev pub session_due : Option Due → Option ℕ
session_due None = None
session_due (Some due) = due.kept.sub.actor.session

-- what is due, as the code has it

abbrev pub due_by : code.DueReport → Due
due_by due = record { kept = due.kept.now; places = due.places }

abbrev pub due_as : Option code.DueReport → Option Due
due_as None = None
due_as (Some due) = Some (due_by due)
