-- What commands come to: those of On/Off and of Bench. What each cluster makes of its own stands in the file of its name.
use Rattle.std.specs.Prelude.{◌==◌, List, if◌then◌else◌}
use Rattle.mt_model.specs.messages.Effects.{refused_at}
use Rattle.mt_model.specs.declared.messages.status.Status.TheVariants.{UnsupportedCommand}
use Rattle.mt_model.specs.declared.node.action.Effect.{Effect}
use Rattle.mt_model.specs.declared.rows.place.Place.{Place}
use Rattle.mt_model.specs.declared.rows.place.Row.{Row}
use Rattle.mt_model.specs.declared.tables.access.Actor.{Actor}
use Rattle.mt_meta.specs.clusters.Bench as bench
use Rattle.mt_meta.specs.clusters.OnOff as on_off
use Rattle.mt_apps.specs.Bench.{bench_effect}
use Rattle.mt_apps.specs.OnOff.{on_off_effect}

-- What a command of this actor comes to, by the rows of nobody that stand at each place. It says nothing of whether the actor
-- may invoke it.
abbrev pub invoked : (Place → List Row) → Actor → Place → Effect
invoked rows_at actor command =
    if command.cluster == on_off.cluster then on_off_effect rows_at command
    else if command.cluster == bench.cluster then bench_effect rows_at actor.fabric command
    else refused_at command UnsupportedCommand
