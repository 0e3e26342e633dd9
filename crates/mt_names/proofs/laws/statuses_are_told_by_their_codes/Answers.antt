use Rattle.std.proofs.Common.{◌≡◌, Some, refl}
use Rattle.mt_model.specs.declared.messages.status.Status.{Status}
use Rattle.mt_model.specs.declared.messages.status.Status.TheVariants as statuses
use Rattle.mt_model.specs.messages.Status.{code_of}
use Rattle.mt_names.specs.Words.{status_of}
use Rattle.mt_names.proofs.laws.statuses_are_told_by_their_codes.Goals as goal

told : (status : Status) → status_of (code_of status) ≡ Some status
unfolding status_of
told statuses.Success = refl
told statuses.Failure = refl
told statuses.UnsupportedAccess = refl
told statuses.UnsupportedEndpoint = refl
told statuses.InvalidAction = refl
told statuses.UnsupportedCommand = refl
told statuses.InvalidCommand = refl
told statuses.UnsupportedAttribute = refl
told statuses.ConstraintError = refl
told statuses.UnsupportedWrite = refl
told statuses.ResourceExhausted = refl
told statuses.NotFound = refl
told statuses.InvalidDataType = refl
told statuses.DataVersionMismatch = refl
told statuses.Timeout = refl
told statuses.Busy = refl
told statuses.UnsupportedCluster = refl
told statuses.NeedsTimedInteraction = refl
told statuses.UnsupportedEvent = refl
told statuses.PathsExhausted = refl
told statuses.TimedRequestMismatch = refl
told statuses.FailsafeRequired = refl

pub returns : goal.returns
returns c = told
