-- What holds of the steps of commands and of time steps.
use Rattle.std.specs.Prelude.{◌≡◌, ℕ, ◌^◌, nat_lt, Bool, true, false, IsTrue, List}
use Rattle.std.specs.List.{list_all}
use Rattle.mt_tlv.specs.declared.value.Value.{Value}
use Rattle.mt_meta.specs.Finding.{find_data_of}
use Rattle.mt_meta.specs.Stored.{is_stored}
use Rattle.mt_commission.specs.Laws.{is_sound_row}
use Rattle.mt_model.specs.tables.Known.{Known}
use Rattle.mt_model.specs.declared.node.action.NodeStep.{NodeStep}
use Rattle.mt_model.specs.declared.node.action.NodeStep.TheVariants.{SetRow}
use Rattle.mt_model.specs.declared.rows.place.Place.{Place}
use Rattle.mt_model.specs.declared.rows.place.Row.{Row}
use Rattle.mt_model.specs.declared.tables.access.Actor.{Actor}
use Rattle.mt_model.specs.declared.tables.fabric.Fabric.{Fabric}
use Rattle.mt_admin.specs.Commands.{invoked}
use Rattle.mt_admin.specs.Windows.{ticked}

-- a step sets the row of an attribute of the node, with one value of its form, which is nobody's
abbrev pub is_sound_step : NodeStep → Bool
is_sound_step (SetRow place fabric values) = is_sound_row (is_stored place) fabric values (find_data_of place)
is_sound_step step = false

abbrev pub has_vendor : Fabric → Bool
has_vendor fabric = nat_lt fabric.vendor (2 ^ 64)

abbrev pub CommandsAreSound : Type 0
CommandsAreSound = (rows_at : Place → List Row) (known : Known) (actor : Actor) (command : Place) (fields : Value) (now : ℕ) → nat_lt actor.fabric (2 ^ 64) ≡ true → list_all has_vendor known.fabrics ≡ true
    → IsTrue (list_all is_sound_step (invoked rows_at known actor command fields now).steps)

abbrev pub TicksAreSound : Type 0
TicksAreSound = (rows_at : Place → List Row) (now : ℕ) → IsTrue (list_all is_sound_step (ticked rows_at now))
