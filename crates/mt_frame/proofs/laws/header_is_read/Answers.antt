use Rattle.mt_frame.proofs.Messages.{message_again}
use Rattle.mt_frame.proofs.Protocols.{protocol_again}
use Rattle.mt_frame.proofs.laws.header_is_read.Goals as goal

pub returns-clause-message : goal.returns-clause-message
returns-clause-message c = message_again

pub returns-clause-protocol : goal.returns-clause-protocol
returns-clause-protocol c = protocol_again
