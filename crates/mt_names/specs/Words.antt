-- The names of privileges, modes, statuses and messages.
use Rattle.std.specs.Prelude.{ℕ, List, ◌==◌, codes, if◌then◌else◌, Option, Some, None}
use Rattle.mt_model.specs.declared.messages.status.Status.{Status}
use Rattle.mt_model.specs.declared.messages.status.Status.TheVariants as statuses
use Rattle.mt_model.specs.declared.tables.access.Auth.{Auth}
use Rattle.mt_model.specs.declared.tables.access.Auth.TheVariants as modes
use Rattle.mt_model.specs.declared.tables.access.Privilege.{Privilege}
use Rattle.mt_model.specs.declared.tables.access.Privilege.TheVariants as privileges

abbrev pub privilege_name : Privilege → List ℕ
privilege_name privileges.View = codes "View"
privilege_name privileges.ProxyView = codes "ProxyView"
privilege_name privileges.Operate = codes "Operate"
privilege_name privileges.Manage = codes "Manage"
privilege_name privileges.Administer = codes "Administer"

abbrev pub auth_name : Auth → List ℕ
auth_name modes.Pase = codes "PASE"
auth_name modes.Case = codes "CASE"
auth_name modes.Group = codes "group"

abbrev pub status_name : Status → List ℕ
status_name statuses.Success = codes "SUCCESS"
status_name statuses.Failure = codes "FAILURE"
status_name statuses.UnsupportedAccess = codes "UNSUPPORTED_ACCESS"
status_name statuses.UnsupportedEndpoint = codes "UNSUPPORTED_ENDPOINT"
status_name statuses.InvalidAction = codes "INVALID_ACTION"
status_name statuses.UnsupportedCommand = codes "UNSUPPORTED_COMMAND"
status_name statuses.InvalidCommand = codes "INVALID_COMMAND"
status_name statuses.UnsupportedAttribute = codes "UNSUPPORTED_ATTRIBUTE"
status_name statuses.ConstraintError = codes "CONSTRAINT_ERROR"
status_name statuses.UnsupportedWrite = codes "UNSUPPORTED_WRITE"
status_name statuses.ResourceExhausted = codes "RESOURCE_EXHAUSTED"
status_name statuses.NotFound = codes "NOT_FOUND"
status_name statuses.InvalidDataType = codes "INVALID_DATA_TYPE"
status_name statuses.DataVersionMismatch = codes "DATA_VERSION_MISMATCH"
status_name statuses.Timeout = codes "TIMEOUT"
status_name statuses.Busy = codes "BUSY"
status_name statuses.UnsupportedCluster = codes "UNSUPPORTED_CLUSTER"
status_name statuses.NeedsTimedInteraction = codes "NEEDS_TIMED_INTERACTION"
status_name statuses.UnsupportedEvent = codes "UNSUPPORTED_EVENT"
status_name statuses.PathsExhausted = codes "PATHS_EXHAUSTED"
status_name statuses.TimedRequestMismatch = codes "TIMED_REQUEST_MISMATCH"
status_name statuses.FailsafeRequired = codes "FAILSAFE_REQUIRED"

-- the status of a code
unfoldable pub status_of : ℕ → Option Status
status_of code =
    if code == 0x0 then Some statuses.Success
    else if code == 0x1 then Some statuses.Failure
    else if code == 0x7e then Some statuses.UnsupportedAccess
    else if code == 0x7f then Some statuses.UnsupportedEndpoint
    else if code == 0x80 then Some statuses.InvalidAction
    else if code == 0x81 then Some statuses.UnsupportedCommand
    else if code == 0x85 then Some statuses.InvalidCommand
    else if code == 0x86 then Some statuses.UnsupportedAttribute
    else if code == 0x87 then Some statuses.ConstraintError
    else if code == 0x88 then Some statuses.UnsupportedWrite
    else if code == 0x89 then Some statuses.ResourceExhausted
    else if code == 0x8b then Some statuses.NotFound
    else if code == 0x8d then Some statuses.InvalidDataType
    else if code == 0x92 then Some statuses.DataVersionMismatch
    else if code == 0x94 then Some statuses.Timeout
    else if code == 0x9c then Some statuses.Busy
    else if code == 0xc3 then Some statuses.UnsupportedCluster
    else if code == 0xc6 then Some statuses.NeedsTimedInteraction
    else if code == 0xc7 then Some statuses.UnsupportedEvent
    else if code == 0xc8 then Some statuses.PathsExhausted
    else if code == 0xc9 then Some statuses.TimedRequestMismatch
    else if code == 0xca then Some statuses.FailsafeRequired
    else None

-- the message of an opcode
unfoldable pub message_name : ℕ → Option (List ℕ)
message_name opcode =
    if opcode == 1 then Some (codes "StatusResponse")
    else if opcode == 2 then Some (codes "ReadRequest")
    else if opcode == 3 then Some (codes "SubscribeRequest")
    else if opcode == 4 then Some (codes "SubscribeResponse")
    else if opcode == 5 then Some (codes "ReportData")
    else if opcode == 6 then Some (codes "WriteRequest")
    else if opcode == 7 then Some (codes "WriteResponse")
    else if opcode == 8 then Some (codes "InvokeRequest")
    else if opcode == 9 then Some (codes "InvokeResponse")
    else if opcode == 10 then Some (codes "TimedRequest")
    else None
