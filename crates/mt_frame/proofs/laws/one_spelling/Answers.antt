use Rattle.mt_frame.proofs.Writes.{message_only, message_spelled, protocol_only, protocol_spelled}
use Rattle.mt_frame.proofs.laws.one_spelling.Goals as goal

pub returns-clause-message : goal.returns-clause-message
returns-clause-message c = message_spelled

pub returns-clause-message_only : goal.returns-clause-message_only
returns-clause-message_only c = message_only

pub returns-clause-protocol : goal.returns-clause-protocol
returns-clause-protocol c = protocol_spelled

pub returns-clause-protocol_only : goal.returns-clause-protocol_only
returns-clause-protocol_only c = protocol_only
