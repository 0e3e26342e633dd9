use Rattle.mt_frame.proofs.Writes.{no_message_begins, no_protocol_begins}
use Rattle.mt_frame.proofs.laws.no_header_begins_another.Goals as goal

pub returns-clause-message : goal.returns-clause-message
returns-clause-message c = no_message_begins

pub returns-clause-protocol : goal.returns-clause-protocol
returns-clause-protocol c = no_protocol_begins
