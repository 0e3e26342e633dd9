-- Bench: what its command comes to.
use Rattle.std.specs.Prelude.{ℕ, ◌==◌, List, [], ◌∷◌, if◌then◌else◌}
use Rattle.mt_tlv.specs.Tree.{uint, none, more}
use Rattle.mt_tlv.specs.View.{tree}
use Rattle.mt_tlv.specs.declared.value.Tag.TheVariants.{Context}
use Rattle.mt_tlv.specs.declared.value.Value.{Value}
use Rattle.mt_tlv.specs.declared.value.Value.TheVariants as values
use Rattle.mt_model.specs.messages.Effects.{answered_with, refused_at}
use Rattle.mt_model.specs.rows.Shown.{first_value}
use Rattle.mt_model.specs.declared.messages.status.Status.TheVariants.{Success, UnsupportedCommand}
use Rattle.mt_model.specs.declared.node.action.Effect.{Effect}
use Rattle.mt_model.specs.declared.node.action.NodeStep.{NodeStep}
use Rattle.mt_model.specs.declared.node.action.NodeStep.TheVariants.{Emit}
use Rattle.mt_model.specs.declared.rows.place.Place.{Place}
use Rattle.mt_model.specs.declared.rows.place.Row.{Row}

-- the number of an endpoint, an attribute
abbrev pub number_at : ℕ → Place
number_at endpoint = record { endpoint = endpoint; cluster = 0xfff1fc00; leaf = 1 }

-- the event Rung of an endpoint
abbrev pub rung_at : ℕ → Place
rung_at endpoint = record { endpoint = endpoint; cluster = 0xfff1fc00; leaf = 0 }

-- 0 the number, 254 the fabric index
abbrev pub rung_value : Value → ℕ → Value
rung_value number fabric = values.Struct (more (Context 0) (tree number) (more (Context 254) (uint fabric) none))

-- it is told to the fabric that rings, and to no other; its priority is that of information
abbrev pub rung : ℕ → Value → ℕ → NodeStep
rung endpoint number fabric = Emit (rung_at endpoint) 1 fabric (rung_value number fabric)

-- what a command of a fabric comes to, where these rows stand at each place
abbrev pub bench_effect : (Place → List Row) → ℕ → Place → Effect
bench_effect rows_at fabric command =
    if command.leaf == 0 then answered_with command Success (rung command.endpoint (first_value (rows_at (number_at command.endpoint))) fabric ∷ [])  -- Ring
    else refused_at command UnsupportedCommand
