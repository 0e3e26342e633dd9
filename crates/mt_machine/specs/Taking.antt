-- Which steps a state takes, so that it stays valid.
use Rattle.std.specs.Prelude.{ℕ, ◌==◌, ◌&&◌, ◌||◌, Bool, true, false, List, [], ◌∷◌, Option, Result}
use Rattle.mt_tlv.specs.declared.value.Value.{Value}
use Rattle.mt_meta.specs.Finding.{find_data_of}
use Rattle.mt_meta.specs.Stored.{is_stored}
use Rattle.mt_meta.specs.declared.meta.Meta.{Meta}
use Rattle.mt_model.specs.declared.messages.status.Status.{Status}
use Rattle.mt_model.specs.declared.node.action.NodeStep.{NodeStep}
use Rattle.mt_model.specs.declared.node.action.NodeStep.TheVariants.{SetRow, SetEntries, Arm, Emit}
use Rattle.mt_model.specs.declared.node.state.NodeState.{NodeState}
use Rattle.mt_model.specs.declared.tables.access.Actor.{Actor}
use Rattle.mt_model.specs.declared.tables.fabric.Fabric.{Fabric}
use Rattle.mt_write.specs.Laws.{are_entries_of, is_sound_row}
use Rattle.mt_write.specs.Writing.{is_scoped}
use Rattle.mt_machine.specs.Effects.{after, is_sound_step}
use Rattle.mt_machine.specs.State.{is_among, is_row_of}

-- rows with values of their form, of nobody or of a fabric of the table
abbrev pub fits_row : List Fabric → ℕ → Bool → List Value → Result Meta Status → Bool
fits_row fabrics fabric stored values found = is_sound_row stored fabric values found && is_row_of fabrics (is_scoped found) fabric

-- A step that sets values fits where these are the fabrics: what it sets has its form and is nobody's, or that of one of them.
abbrev pub fits : List Fabric → NodeStep → Bool
fits fabrics (SetRow place fabric values) = fits_row fabrics fabric (is_stored place) values (find_data_of place)
fits fabrics (SetEntries fabric entries) = are_entries_of fabric entries && is_among fabrics fabric
fits fabrics (Emit place priority fabric value) = true
fits fabrics step = false

-- the fail-safe is armed by nobody, or by one of these fabrics
abbrev pub names_known : List Fabric → NodeStep → Bool
names_known fabrics (Arm owner seconds) = owner == 0 || is_among fabrics owner
names_known fabrics step = true

-- a step that sets values and fits, or one of commissioning whose values have their form and which names who is known
abbrev pub may_take : NodeState → NodeStep → Bool
may_take s step = fits s.fabrics step || (is_sound_step step && names_known s.fabrics step)

-- one after the other, each as the steps before it leave the state
abbrev pub may_take_all : Option Actor → List NodeStep → NodeState → Bool
may_take_all asker [] s = true
may_take_all asker (step ∷ steps) s = may_take s step && may_take_all asker steps (after asker step s)
