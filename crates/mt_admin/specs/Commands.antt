-- What commands of Administrator Commissioning come to (Matter Core Specification, chapter 11, Administrator Commissioning Cluster).
use Rattle.std.specs.Prelude.{ℕ, ◌==◌, ◌&&◌, ◌||◌, is_some, nat_le, nat_lt, not, Bool, List, length, if◌then◌else◌}
use Rattle.mt_tlv.specs.declared.value.Value.{Value}
use Rattle.mt_meta.specs.Given.{number_of, octets_of}
use Rattle.mt_model.specs.messages.Effects.{answered_with, failed_with, refused_at}
use Rattle.mt_model.specs.tables.Known.{Known}
use Rattle.mt_model.specs.declared.limits.TheConstants.{LAST_DISCRIMINATOR, LEAST_ITERATIONS, LEAST_SALT_BYTES, LONGEST_WINDOW, MOST_ITERATIONS, MOST_SALT_BYTES, SHORTEST_WINDOW, VERIFIER_BYTES}
use Rattle.mt_model.specs.declared.messages.status.Status.TheVariants.{InvalidCommand, Success, UnsupportedCommand}
use Rattle.mt_model.specs.declared.node.action.Effect.{Effect}
use Rattle.mt_model.specs.declared.rows.place.Place.{Place}
use Rattle.mt_model.specs.declared.rows.place.Row.{Row}
use Rattle.mt_model.specs.declared.tables.access.Actor.{Actor}
use Rattle.mt_admin.specs.Windows.{closed, is_open, opened}
use Rattle.mt_admin.specs.declared.windows.Window.TheVariants.{Enhanced, Basic}
use Rattle.mt_admin.specs.declared.windows.WindowFault.{WindowFault}
use Rattle.mt_admin.specs.declared.windows.WindowFault.TheVariants as faults

-- the codes of the cluster
abbrev pub number_of_fault : WindowFault → ℕ
number_of_fault faults.Busy = 2
number_of_fault faults.PakeParameterError = 3
number_of_fault faults.WindowNotOpen = 4

abbrev pub failed : Place → WindowFault → Effect
failed command fault = failed_with command (number_of_fault fault)

-- for how many seconds a window may be open
abbrev pub is_timeout : ℕ → Bool
is_timeout seconds = nat_le SHORTEST_WINDOW seconds && nat_le seconds LONGEST_WINDOW

-- nobody opens a window while one is open, or while the fail-safe is armed
abbrev pub is_busy : (Place → List Row) → Known → Bool
is_busy rows_at known = is_open rows_at || is_some known.armed

-- OpenCommissioningWindow: 0 CommissioningTimeout, 1 PAKEPasscodeVerifier, 2 Discriminator, 3 Iterations, 4 Salt. What makes the passcode's
-- verifier is checked, and not kept.

abbrev pub is_verified : Value → Bool
is_verified fields =
    length (octets_of 1 fields) == VERIFIER_BYTES
    && ((nat_le LEAST_ITERATIONS (number_of 3 fields) && nat_le (number_of 3 fields) MOST_ITERATIONS)
    && (nat_le LEAST_SALT_BYTES (length (octets_of 4 fields)) && nat_le (length (octets_of 4 fields)) MOST_SALT_BYTES))

abbrev pub open_window : (Place → List Row) → Known → Actor → Place → Value → ℕ → Effect
open_window rows_at known actor command fields now =
    if not (is_timeout (number_of 0 fields)) || nat_lt LAST_DISCRIMINATOR (number_of 2 fields) then refused_at command InvalidCommand
    else if is_busy rows_at known then failed command faults.Busy
    else if not (is_verified fields) then failed command faults.PakeParameterError
    else answered_with command Success (opened Enhanced known.fabrics actor.fabric (number_of 0 fields) now)

-- OpenBasicCommissioningWindow: 0 CommissioningTimeout.
abbrev pub open_basic_window : (Place → List Row) → Known → Actor → Place → Value → ℕ → Effect
open_basic_window rows_at known actor command fields now =
    if not (is_timeout (number_of 0 fields)) then refused_at command InvalidCommand
    else if is_busy rows_at known then failed command faults.Busy
    else answered_with command Success (opened Basic known.fabrics actor.fabric (number_of 0 fields) now)

-- RevokeCommissioning: it has no fields.
abbrev pub revoke : (Place → List Row) → Place → Effect
revoke rows_at command = if is_open rows_at then answered_with command Success closed else failed command faults.WindowNotOpen

-- What a command of this actor comes to at this time, by the rows of nobody that stand at each place, and by what the actor's fabric knows
-- of the fabrics and of the fail-safe. It says nothing of whether the actor may invoke it.
abbrev pub invoked : (Place → List Row) → Known → Actor → Place → Value → ℕ → Effect
invoked rows_at known actor command fields now =
    if command.leaf == 0 then open_window rows_at known actor command fields now
    else if command.leaf == 1 then open_basic_window rows_at known actor command fields now
    else if command.leaf == 2 then revoke rows_at command
    else refused_at command UnsupportedCommand
