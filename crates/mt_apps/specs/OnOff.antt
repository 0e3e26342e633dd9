-- On/Off: what its commands come to (Matter Application Cluster Specification, section 1.5, On/Off Cluster).
use Rattle.std.specs.Prelude.{ℕ, ◌==◌, not, Bool, true, false, List, [], ◌∷◌, Option, Some, None, if◌then◌else◌}
use Rattle.mt_tlv.specs.declared.value.Value.{Value}
use Rattle.mt_tlv.specs.declared.value.Value.TheVariants as values
use Rattle.mt_model.specs.messages.Effects.{answered_with, refused_at}
use Rattle.mt_model.specs.declared.messages.status.Status.TheVariants.{Success, UnsupportedCommand}
use Rattle.mt_model.specs.declared.node.action.Effect.{Effect}
use Rattle.mt_model.specs.declared.node.action.NodeStep.TheVariants.{SetRow}
use Rattle.mt_model.specs.declared.rows.place.Place.{Place}
use Rattle.mt_model.specs.declared.rows.place.Row.{Row}

-- the attribute OnOff of an endpoint
abbrev pub on_off_at : ℕ → Place
on_off_at endpoint = record { endpoint = endpoint; cluster = 0x06; leaf = 0 }

-- whether it is on, as its row says

abbrev pub is_true : Value → Bool
is_true (values.Bool b) = b
is_true value = false

abbrev pub is_on : List Row → Bool
is_on [] = false
is_on (row ∷ rows) = is_true row.value

-- whether it is on behind a command, where it is so before; None where there is no such command
abbrev pub on_behind : ℕ → Bool → Option Bool
on_behind command on =
    if command == 0 then Some false  -- Off
    else if command == 1 then Some true  -- On
    else if command == 2 then Some (not on)  -- Toggle
    else None

abbrev pub set_on : Place → Option Bool → Effect
set_on command None = refused_at command UnsupportedCommand
set_on command (Some on) = answered_with command Success (SetRow (on_off_at command.endpoint) 0 (values.Bool on ∷ []) ∷ [])

-- what a command comes to, where these rows stand at each place
abbrev pub on_off_effect : (Place → List Row) → Place → Effect
on_off_effect rows_at command = set_on command (on_behind command.leaf (is_on (rows_at (on_off_at command.endpoint))))
