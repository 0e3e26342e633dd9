-- General Commissioning: what its commands come to (Matter Core Specification, chapter 11, General Commissioning Cluster).
use Rattle.std.specs.Prelude.{ℕ, ◌==◌, min, nat_lt, List, [], ◌∷◌, ◌++◌, Option, Some, None, if◌then◌else◌}
use Rattle.mt_tlv.specs.Tree.{Elements, uint, text, none, more}
use Rattle.mt_tlv.specs.declared.value.Tag.TheVariants.{Context}
use Rattle.mt_tlv.specs.declared.value.Value.{Value}
use Rattle.mt_tlv.specs.declared.value.Value.TheVariants as values
use Rattle.mt_model.specs.messages.Effects.{refused_at}
use Rattle.mt_model.specs.tables.Known.{Known}
use Rattle.mt_model.specs.declared.messages.status.Status.TheVariants.{UnsupportedCommand}
use Rattle.mt_model.specs.declared.node.action.Effect.{Effect}
use Rattle.mt_model.specs.declared.node.action.NodeStep.{NodeStep}
use Rattle.mt_model.specs.declared.node.action.NodeStep.TheVariants.{Arm, Renew, Expire, Complete}
use Rattle.mt_model.specs.declared.rows.place.Place.{Place}
use Rattle.mt_model.specs.declared.tables.access.Actor.{Actor}
use Rattle.mt_model.specs.declared.tables.network.Armed.{Armed}
use Rattle.mt_failsafe.specs.Calls.{is_of_context}
use Rattle.mt_commission.specs.Answers.{responded_with, set_breadcrumb, set_value}
use Rattle.mt_meta.specs.Given.{number_of, text_of}
use Rattle.mt_commission.specs.declared.codes.CommissioningError.{CommissioningError}
use Rattle.mt_commission.specs.declared.codes.CommissioningError.TheVariants as errors

-- the numbers of the errors
abbrev pub number_of_error : CommissioningError → ℕ
number_of_error errors.Ok = 0
number_of_error errors.ValueOutsideRange = 1
number_of_error errors.InvalidAuthentication = 2
number_of_error errors.NoFailSafe = 3
number_of_error errors.BusyWithOtherAdmin = 4

-- each response: 0 ErrorCode, 1 DebugText, which is empty
abbrev pub error_fields : CommissioningError → Elements
error_fields error = more (Context 0) (uint (number_of_error error)) (more (Context 1) (text []) none)

-- a response of this number and error
abbrev pub error_effect : Place → ℕ → CommissioningError → List NodeStep → Effect
error_effect command response error steps = responded_with command response (error_fields error) steps

-- ArmFailSafe: 0 ExpiryLengthSeconds, 1 Breadcrumb.

-- for how many seconds, 16 bits; more is read as the most
abbrev pub seconds_of : Value → ℕ
seconds_of fields = min (number_of 0 fields) 0xffff

-- what becomes of a fail-safe that is not armed: 0 seconds arm nothing
abbrev pub arming : ℕ → ℕ → List NodeStep
arming fabric seconds = if seconds == 0 then [] else Arm fabric seconds ∷ []

-- what becomes of a fail-safe of one's own: 0 seconds let it expire
abbrev pub renewing : ℕ → NodeStep
renewing seconds = if seconds == 0 then Expire else Renew seconds

-- None where another has armed it
abbrev pub failsafe_steps : ℕ → ℕ → Option Armed → Option (List NodeStep)
failsafe_steps fabric seconds None = Some (arming fabric seconds)
failsafe_steps fabric seconds (Some armed) = if armed.owner == fabric then Some (renewing seconds ∷ []) else None

abbrev pub armed_effect : Place → ℕ → Option (List NodeStep) → Effect
armed_effect command breadcrumb None = error_effect command 1 errors.BusyWithOtherAdmin []
armed_effect command breadcrumb (Some steps) = error_effect command 1 errors.Ok (steps ++ set_breadcrumb breadcrumb ∷ [])

abbrev pub arm_fail_safe : Known → Actor → Place → Value → Effect
arm_fail_safe known actor command fields = armed_effect command (number_of 1 fields) (failsafe_steps actor.fabric (seconds_of fields) known.armed)

-- SetRegulatoryConfig: 0 NewRegulatoryConfig (0 indoor, 1 outdoor, 2 both), 1 CountryCode, 2 Breadcrumb.

-- RegulatoryConfig, Location and Breadcrumb
abbrev pub regulatory_steps : Value → List NodeStep
regulatory_steps fields =
    set_value 0x30 2 (values.Uint (number_of 0 fields))
    ∷ set_value 0x28 6 (values.Text (text_of 1 fields))
    ∷ set_breadcrumb (number_of 2 fields)
    ∷ []

abbrev pub set_regulatory_config : Place → Value → Effect
set_regulatory_config command fields =
    if nat_lt 2 (number_of 0 fields) then error_effect command 3 errors.ValueOutsideRange []
    else error_effect command 3 errors.Ok (regulatory_steps fields)

-- CommissioningComplete: it has no fields.

-- whoever asks must do so over CASE, for the fabric for which commissioning goes on
abbrev pub completing : Actor → Option Armed → CommissioningError
completing actor None = errors.NoFailSafe
completing actor (Some armed) = if is_of_context actor armed then errors.Ok else errors.InvalidAuthentication

abbrev pub completed_effect : Place → CommissioningError → Effect
completed_effect command errors.Ok = error_effect command 5 errors.Ok (Complete ∷ set_breadcrumb 0 ∷ [])
completed_effect command error = error_effect command 5 error []

abbrev pub commissioning_complete : Known → Actor → Place → Effect
commissioning_complete known actor command = completed_effect command (completing actor known.armed)

-- what a command of the cluster comes to
abbrev pub general_commissioning_effect : Known → Actor → Place → Value → Effect
general_commissioning_effect known actor command fields =
    if command.leaf == 0 then arm_fail_safe known actor command fields
    else if command.leaf == 2 then set_regulatory_config command fields
    else if command.leaf == 4 then commissioning_complete known actor command
    else refused_at command UnsupportedCommand
