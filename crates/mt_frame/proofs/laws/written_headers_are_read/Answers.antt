use Rattle.mt_frame.proofs.Writes.{message_written_again, protocol_written_again}
use Rattle.mt_frame.proofs.laws.written_headers_are_read.Goals as goal

pub returns-clause-message : goal.returns-clause-message
returns-clause-message c = message_written_again

pub returns-clause-protocol : goal.returns-clause-protocol
returns-clause-protocol c = protocol_written_again
