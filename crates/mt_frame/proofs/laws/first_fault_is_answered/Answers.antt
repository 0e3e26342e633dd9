use Rattle.std.proofs.Common.{slice_index}
use Rattle.mt_frame.specs.Reading.{message_fault, message_in, message_length, protocol_fault, protocol_in, protocol_length}
use Rattle.mt_frame.specs.Faults.{message_tests, protocol_tests}
use Rattle.mt_frame.proofs.First.{answered_is_clear, answered_is_first, message_first, protocol_first}
use Rattle.mt_frame.proofs.laws.first_fault_is_answered.Goals as goal

pub returns-clause-message : goal.returns-clause-message
returns-clause-message c = λ bytes fault.
    answered_is_first (message_fault bytes) (message_in bytes, message_length (slice_index bytes 0)) (message_tests bytes) (message_first bytes) fault

pub returns-clause-message_clear : goal.returns-clause-message_clear
returns-clause-message_clear c = λ bytes.
    answered_is_clear (message_fault bytes) (message_in bytes, message_length (slice_index bytes 0)) (message_tests bytes) (message_first bytes)

pub returns-clause-protocol : goal.returns-clause-protocol
returns-clause-protocol c = λ bytes fault.
    answered_is_first (protocol_fault bytes) (protocol_in bytes, protocol_length (slice_index bytes 0)) (protocol_tests bytes) (protocol_first bytes) fault

pub returns-clause-protocol_clear : goal.returns-clause-protocol_clear
returns-clause-protocol_clear c = λ bytes.
    answered_is_clear (protocol_fault bytes) (protocol_in bytes, protocol_length (slice_index bytes 0)) (protocol_tests bytes) (protocol_first bytes)
