-- The codes of the statuses, as the interaction model has them.
use Rattle.std.specs.Prelude.{ℕ}
use Rattle.mt_model.specs.declared.messages.status.Status.{Status}
use Rattle.mt_model.specs.declared.messages.status.Status.TheVariants as statuses

abbrev pub code_of : Status → ℕ
code_of statuses.Success = 0x00
code_of statuses.Failure = 0x01
code_of statuses.UnsupportedAccess = 0x7e
code_of statuses.UnsupportedEndpoint = 0x7f
code_of statuses.InvalidAction = 0x80
code_of statuses.UnsupportedCommand = 0x81
code_of statuses.InvalidCommand = 0x85
code_of statuses.UnsupportedAttribute = 0x86
code_of statuses.ConstraintError = 0x87
code_of statuses.UnsupportedWrite = 0x88
code_of statuses.ResourceExhausted = 0x89
code_of statuses.NotFound = 0x8b
code_of statuses.InvalidDataType = 0x8d
code_of statuses.DataVersionMismatch = 0x92
code_of statuses.Timeout = 0x94
code_of statuses.Busy = 0x9c
code_of statuses.UnsupportedCluster = 0xc3
code_of statuses.NeedsTimedInteraction = 0xc6
code_of statuses.UnsupportedEvent = 0xc7
code_of statuses.PathsExhausted = 0xc8
code_of statuses.TimedRequestMismatch = 0xc9
code_of statuses.FailsafeRequired = 0xca
