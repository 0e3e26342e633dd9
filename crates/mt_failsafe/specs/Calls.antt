-- What arming, renewing, completing and expiring answer, and what they make of the fail-safe (Matter Core Specification,
-- chapter 11, General Commissioning Cluster). None stands for one that is not armed.
use Rattle.std.specs.Prelude.{ℕ, ◌+◌, ◌-◌, ◌*◌, ◌^◌, ◌==◌, ◌&&◌, min, Bool, true, false, List, Option, Some, None, Result, Ok, Err, if◌then◌else◌}
use Rattle.mt_model.specs.declared.limits.TheConstants.{LONGEST_FAILSAFE}
use Rattle.mt_model.specs.declared.tables.access.Actor.{Actor}
use Rattle.mt_model.specs.declared.tables.access.Auth.{Auth}
use Rattle.mt_model.specs.declared.tables.access.Auth.TheVariants as auths
use Rattle.mt_model.specs.declared.tables.fabric.Credentials.{Credentials}
use Rattle.mt_model.specs.declared.tables.network.Armed.{Armed}
use Rattle.mt_model.specs.declared.tables.network.Network.{Network}
use Rattle.mt_failsafe.specs.declared.fault.Busy.{Busy}
use Rattle.mt_failsafe.specs.declared.fault.FailsafeFault.{FailsafeFault}
use Rattle.mt_failsafe.specs.declared.fault.FailsafeFault.TheVariants as faults
use Rattle.mt_failsafe.specs.declared.undo.Undo.{Undo}

-- Times, in ms.

-- how long after its arming a fail-safe ends at the latest
abbrev pub longest : ℕ
longest = LONGEST_FAILSAFE

-- past which time one that is armed now can't be renewed, at most the last of 64 bits
abbrev pub limit_of : ℕ → ℕ
limit_of now = min (now + longest) (2 ^ 64 - 1)

-- when a fail-safe with this limit ends that now is to last for so many seconds
abbrev pub until_of : ℕ → ℕ → ℕ → ℕ
until_of now seconds limit = min (now + 1000 * seconds) limit

-- Arming.

abbrev pub is_armed_by : ℕ → Option Armed → Bool
is_armed_by owner None = false
is_armed_by owner (Some armed) = armed.owner == owner

-- the fail-safe of an owner who arms it now, for so many seconds, while the networks are these
abbrev pub armed_by : ℕ → ℕ → ℕ → List Network → Armed
armed_by owner now seconds networks = record { owner = owner; context = owner; until = until_of now seconds (limit_of now); limit = limit_of now; added = None; updated = None; root = None; csr = None; saved_credentials = None; saved_networks = networks }

abbrev pub arm_answer : Option Armed → Result (Unit {0}) Busy
arm_answer None = Ok tt
arm_answer (Some armed) = Err (record { owner = armed.owner })

-- Renewing.

abbrev pub renew_answer : ℕ → Option Armed → Result (Unit {0}) FailsafeFault
renew_answer owner None = Err faults.NotArmed
renew_answer owner (Some armed) = if armed.owner == owner then Ok tt else Err (faults.Busy armed.owner)

abbrev pub renewed : ℕ → ℕ → Armed → Armed
renewed now seconds armed = record armed { until = until_of now seconds armed.limit }

-- Completing.

-- whether commissioning goes on for this fabric
abbrev pub is_context : ℕ → Option Armed → Bool
is_context fabric None = false
is_context fabric (Some armed) = armed.context == fabric

abbrev pub is_case : Auth → Bool
is_case auths.Pase = false
is_case auths.Case = true
is_case auths.Group = false

-- whether a caller asks over CASE, for the fabric for which commissioning goes on
abbrev pub is_of_context : Actor → Armed → Bool
is_of_context caller armed = is_case caller.auth && is_context caller.fabric (Some armed)

abbrev pub complete_answer : Actor → Option Armed → Result (Unit {0}) FailsafeFault
complete_answer caller None = Err faults.NotArmed
complete_answer caller (Some armed) = if is_of_context caller armed then Ok tt else Err faults.Pase

-- Expiring.

-- the fabric that was updated, with the credentials that it had
abbrev pub put_back : Option ℕ → Option Credentials → Option (ℕ × Credentials)
put_back None saved = None
put_back (Some fabric) None = None
put_back (Some fabric) (Some saved) = Some (fabric, saved)

-- the fabric that was updated
abbrev pub updated_of : Option Armed → Option ℕ
updated_of None = None
updated_of (Some armed) = armed.updated

-- all that a rollback needs
abbrev pub undo_of : Armed → Undo
undo_of armed = record { added = armed.added; updated = put_back armed.updated armed.saved_credentials; networks = armed.saved_networks }
