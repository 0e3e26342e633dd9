-- Which events an action tells, in their order: those among its steps, the entries of a fabric that joins, and that a fabric leaves.
use Rattle.std.specs.Prelude.{ℕ, ◌==◌, ◌||◌, Bool, true, false, List, [], ◌∷◌, ◌++◌, Option, Some, None, if◌then◌else◌}
use Rattle.std.specs.List.{list_any}
use Rattle.mt_model.specs.rows.Seen.{own_entries}
use Rattle.mt_model.specs.rows.Sight.{same_place}
use Rattle.mt_model.specs.declared.node.action.Action.{Action}
use Rattle.mt_model.specs.declared.node.action.NodeStep.{NodeStep}
use Rattle.mt_model.specs.declared.node.action.NodeStep.TheVariants.{Emit}
use Rattle.mt_model.specs.declared.node.state.NodeState.{NodeState}
use Rattle.mt_model.specs.declared.tables.access.AclEntry.{AclEntry}
use Rattle.mt_model.specs.declared.tables.access.Actor.{Actor}
use Rattle.mt_model.specs.declared.tables.fabric.Fabric.{Fabric}
use Rattle.mt_apps.specs.EntryEvents.{events_between}
use Rattle.mt_opcreds.specs.RemoveFabric.{leave, leave_event}
use Rattle.mt_machine.specs.Effects.{events_in}
use Rattle.mt_machine.specs.Environment.{Environment}
use Rattle.mt_machine.specs.Step.{after_action, asker_of, gone_between, steps_of}

-- A fabric that joins the table is told of its entries, which whoever asks has added.

-- the first that was not there before
abbrev pub joined_between : List Fabric → List Fabric → Option ℕ
joined_between before now = gone_between now before

abbrev pub joining_events : Option Actor → List AclEntry → Option ℕ → List NodeStep
joining_events None entries joined = []
joining_events (Some actor) entries None = []
joining_events (Some actor) entries (Some fabric) = events_between (record actor { fabric = fabric }) [] (own_entries fabric entries)

-- That a fabric leaves it is told to all, once: an expiry that takes it away has no step that tells it.

abbrev pub is_leave : NodeStep → Bool
is_leave (Emit place priority fabric value) = same_place place leave
is_leave step = false

abbrev pub leaving_events : List NodeStep → Option ℕ → List NodeStep
leaving_events told None = []
leaving_events told (Some fabric) = if list_any is_leave told then [] else leave_event fabric ∷ []

-- what is told where these steps, of whoever is taken as asking, lead from one state to another
abbrev pub told_between : Option Actor → List NodeStep → NodeState → NodeState → List NodeStep
told_between asking steps before now =
    events_in steps
    ++ (joining_events asking now.entries (joined_between before.fabrics now.fabrics)
    ++ leaving_events (events_in steps) (gone_between before.fabrics now.fabrics))

-- WHAT AN ACTION TELLS
abbrev pub told : Environment → NodeState → Action → ℕ → List NodeStep
told given s action now = told_between (asker_of s action) (steps_of given s action now) s (after_action given s action now)

-- An event is told to the fabric of this actor alone, or to all.
abbrev pub is_told_to : Actor → NodeStep → Bool
is_told_to actor (Emit place priority fabric value) = fabric == 0 || fabric == actor.fabric
is_told_to actor step = true

abbrev pub is_told_as : Option Actor → NodeStep → Bool
is_told_as None (Emit place priority fabric value) = fabric == 0
is_told_as None step = true
is_told_as (Some actor) step = is_told_to actor step
