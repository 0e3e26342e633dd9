-- Why commands of Administrator Commissioning are refused, and with what (Matter Core Specification, chapter 11, Administrator Commissioning
-- Cluster).
use Rattle.std.specs.Prelude.{◌≡◌, ◌↔◌, ℕ, ◌==◌, ◌&&◌, ◌||◌, not, nat_lt, is_some, Bool, true, false, length}
use Rattle.mt_tlv.specs.declared.value.Value.{Value}
use Rattle.mt_meta.specs.Given.{number_of, octets_of}
use Rattle.mt_model.specs.messages.Status.{code_of}
use Rattle.mt_model.specs.declared.limits.TheConstants.{LAST_DISCRIMINATOR, LEAST_ITERATIONS, LEAST_SALT_BYTES, LONGEST_WINDOW, MOST_ITERATIONS, MOST_SALT_BYTES, SHORTEST_WINDOW, VERIFIER_BYTES}
use Rattle.mt_model.specs.declared.messages.message.Reply.{Reply}
use Rattle.mt_model.specs.declared.messages.message.Reply.TheVariants.{InvokeClusterStatus, InvokeStatus}
use Rattle.mt_model.specs.declared.messages.status.Status.TheVariants.{Failure, InvalidCommand, Success}
use Rattle.mt_model.specs.declared.node.state.NodeState.{NodeState}
use Rattle.mt_model.specs.declared.rows.place.Place.{Place}
use Rattle.mt_windows.specs.Window.{is_open, timeout_in, window_in}

-- Causes.

-- a window is open for 180 to 900 seconds
abbrev pub is_no_timeout : Value → Bool
is_no_timeout fields = nat_lt (timeout_in fields) SHORTEST_WINDOW || nat_lt LONGEST_WINDOW (timeout_in fields)

-- a discriminator has 12 bits
abbrev pub is_no_discriminator : Value → Bool
is_no_discriminator fields = nat_lt LAST_DISCRIMINATOR (number_of 2 fields)

-- another window is open, or the fail-safe is armed
abbrev pub is_busy : NodeState → Bool
is_busy s = is_open (window_in s) || is_some s.armed

-- the verifier has not its length, or there are too few or too many iterations, or too few or too many bytes of salt
abbrev pub has_no_verifier : Value → Bool
has_no_verifier fields =
    not (length (octets_of 1 fields) == VERIFIER_BYTES)
    || ((nat_lt (number_of 3 fields) LEAST_ITERATIONS || nat_lt MOST_ITERATIONS (number_of 3 fields))
    || (nat_lt (length (octets_of 4 fields)) LEAST_SALT_BYTES || nat_lt MOST_SALT_BYTES (length (octets_of 4 fields))))

-- Answers.

abbrev pub accepted : Place → Reply
accepted command = InvokeStatus command (code_of Success)

abbrev pub invalid : Place → Reply
invalid command = InvokeStatus command (code_of InvalidCommand)

-- with a code of the cluster: 2 Busy, 3 PAKEParameterError, 4 WindowNotOpen
abbrev pub failed : Place → ℕ → Reply
failed command code = InvokeClusterStatus command (code_of Failure) code

-- A command that opens a window is answered with each of these exactly where its cause stands, and no earlier one.
pub record IsOpenAnswered (command : Place) (breaks_limits stands unverified : Bool) (reply : Reply) : Type 0 where
  pub invalid_command : (reply ≡ invalid command) ↔ (breaks_limits ≡ true)
  pub busy : (reply ≡ failed command 2) ↔ ((not breaks_limits && stands) ≡ true)
  pub pake_parameter_error : (reply ≡ failed command 3) ↔ ((not breaks_limits && (not stands && unverified)) ≡ true)
  pub success : (reply ≡ accepted command) ↔ ((not breaks_limits && (not stands && not unverified)) ≡ true)

-- RevokeCommissioning is refused exactly where no window is open.
pub record IsRevokeAnswered (command : Place) (has_window : Bool) (reply : Reply) : Type 0 where
  pub window_not_open : (reply ≡ failed command 4) ↔ (has_window ≡ false)
  pub success : (reply ≡ accepted command) ↔ (has_window ≡ true)
