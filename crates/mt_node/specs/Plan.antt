-- What an outcome stands for.
use Rattle.std.specs.Prelude.{◌≡◌, ℕ, ◌+◌, ◌≤◌, ◌==◌, ◌&&◌, ⊤, not, true, List, [], ◌∷◌, Option, None, Some, filter, if◌then◌else◌, length, vec_capacity}
use Rattle.std.specs.Global.{Box, Vec}
use Rattle.std.specs.List.{list_all, sum_by}
use Rattle.std.specs.Option.{option_and_then}
use Rattle.mt_model.specs.Optional.{is_that}
use Rattle.mt_model.specs.rows.Setting.{is_other_at, with_rows}
use Rattle.mt_model.specs.rows.Sight.{same_place}
use Rattle.mt_model.specs.declared.tables.access.Actor.{Actor}
use Rattle.mt_model.specs.declared.node.action.Action.{Action}
use Rattle.mt_model.specs.declared.node.action.NodeStep.{NodeStep}
use Rattle.mt_model.specs.declared.node.action.NodeStep.TheVariants.{SetRow, SetEntries}
use Rattle.mt_model.specs.declared.rows.place.Place.{Place}
use Rattle.mt_model.specs.declared.rows.place.Row.{Row}
use Rattle.mt_model.specs.declared.node.state.NodeState.{NodeState}
use Rattle.mt_machine.specs.Changes.{changed_at}
use Rattle.mt_machine.specs.Effects.{after_all, is_setting_step}
use Rattle.mt_machine.specs.Environment.{Environment}
use Rattle.mt_machine.specs.Leaving.{has_left}
use Rattle.mt_machine.specs.State.{IsValid}
use Rattle.mt_machine.specs.Step.{Aside, after_action, after_steps, aside_between, aside_of, at_time, reply_of}
use Rattle.mt_machine.specs.Telling.{told, told_between}
use Rattle.mt_regained.specs.mt_lasting.Changes.{change_between}
use Rattle.mt_model.specs.declared.node.action.Effect.{Effect}
use Rattle.mt_node.specs.declared.outcome.Outcome.{Outcome}

-- The state behind an outcome. One that brings a state puts it in place; for another it is its time, its steps are made, and versions and
-- change numbers follow from where attributes differ. Steps that set values make the same, whoever asks.

abbrev pub made_by : Outcome → NodeState → NodeState
made_by outcome s = changed_at outcome.places s (after_all None outcome.steps s)

abbrev pub applied_as : Option (Box NodeState) → Outcome → NodeState → NodeState
applied_as None outcome s = made_by outcome (at_time outcome.clock s)
applied_as (Some behind) outcome s = behind.value

abbrev pub applied : Outcome → NodeState → NodeState
applied outcome s = applied_as outcome.behind outcome s

-- on whose session it was asked, which sessions end, which fabric goes
abbrev pub aside_in : Outcome → Aside
aside_in outcome = record { session = outcome.session; closed = outcome.closed; gone = outcome.gone }

-- Room for rows.

-- the rows behind a step
abbrev pub rows_behind : NodeStep → List Row → List Row
rows_behind (SetRow place fabric values) rows = with_rows place fabric values rows
rows_behind step rows = rows

-- room for the rows of others at a step's place, and for those that it sets
abbrev pub IsRoomFor : List Row → NodeStep → Vec Row → Type 0
IsRoomFor rows (SetRow place fabric values) room = (room.items ≡ []) × (length (filter (is_other_at place fabric) rows) + length values ≤ vec_capacity room)
IsRoomFor rows step room = ⊤

-- one room for each step, as it finds the rows
abbrev pub HaveRoom : List Row → List NodeStep → List (Vec Row) → Type 0
HaveRoom rows [] rooms = ⊤
HaveRoom rows (step ∷ steps) [] = ⊥
HaveRoom rows (step ∷ steps) (room ∷ rooms) = IsRoomFor rows step room × HaveRoom (rows_behind step rows) steps rooms

-- how many rows of fabrics other than this a step sets at this place
abbrev pub others_in : Place → ℕ → NodeStep → ℕ
others_in place fabric (SetRow at whose values) = if same_place at place && not (whose == fabric) then length values else 0
others_in place fabric step = 0

-- room enough whatever the other ones of these steps do before
abbrev pub IsAmple : List Row → List NodeStep → NodeStep → Vec Row → Type 0
IsAmple rows steps (SetRow place fabric values) room = (room.items ≡ []) × ((length (filter (is_other_at place fabric) rows) + length values) + sum_by (others_in place fabric) steps ≤ vec_capacity room)
IsAmple rows steps step room = ⊤

-- Room for entries.

-- how many entries a step sets
abbrev pub entries_in : NodeStep → ℕ
entries_in (SetEntries fabric entries) = length entries
entries_in step = 0

-- room for as many as are there and as the steps set; none where there is no step
abbrev pub needed : (NodeStep → ℕ) → ℕ → List NodeStep → ℕ
needed count there [] = 0
needed count there (step ∷ steps) = there + sum_by count (step ∷ steps)

-- The outcome brings the room that its steps need, so that nothing is taken when they are made.
pub record HasRoom (s : NodeState) (outcome : Outcome) : Type 0 where
  pub rows : HaveRoom s.rows outcome.steps outcome.rows_rooms.items
  pub no_entries : outcome.entries_room.items ≡ []
  pub entries : needed entries_in (length s.entries) outcome.steps ≤ vec_capacity outcome.entries_room

-- An outcome that brings no state makes steps that set rows and entries, in the room that it brings.

abbrev pub IsReadyAs : Option (Box NodeState) → NodeState → Outcome → Type 0
IsReadyAs None s outcome = (list_all is_setting_step outcome.steps ≡ true) × HasRoom s outcome
IsReadyAs (Some behind) s outcome = ⊤

abbrev pub IsReady : NodeState → Outcome → Type 0
IsReady s outcome = IsReadyAs outcome.behind s outcome

-- The outcome says what of the durable map changes, where the ceiling of event numbers stays, whatever it is.
abbrev pub SaysTheChange : NodeState → Outcome → Type 0
SaysTheChange s outcome = (ceiling : ℕ) → outcome.change ≡ change_between s ceiling (applied outcome s) ceiling

-- The outcome is that of an answer to whoever is taken as asking, at this time, whose steps it makes, and it tells what these tell.
pub record IsMade (s : NodeState) (asking : Option Actor) (answered : Effect) (now : ℕ) (outcome : Outcome) : Type 0 where
  pub reply : outcome.reply ≡ answered.reply
  pub told : outcome.told ≡ told_between asking answered.steps s (after_steps asking answered.steps (at_time now s))
  pub aside : aside_in outcome ≡ aside_between (option_and_then (λ (actor : Actor). actor.session) asking) s (after_steps asking answered.steps (at_time now s))
  pub state : applied outcome s ≡ after_steps asking answered.steps (at_time now s)
  pub change : SaysTheChange s outcome
  pub ready : IsReady s outcome

-- The outcome is that of this action at this time, where this is given: what is answered, the events that are told, the state, and what of it
-- is to be committed. The state behind it is valid, and the fabric that leaves the table, where one does, is the one that is gone.
pub record IsPlan (given : Environment) (s : NodeState) (action : Action) (now : ℕ) (outcome : Outcome) : Type 0 where
  pub reply : outcome.reply ≡ reply_of given s action now
  pub told : outcome.told ≡ told given s action now
  pub aside : aside_in outcome ≡ aside_of given s action now
  pub state : applied outcome s ≡ after_action given s action now
  pub change : SaysTheChange s outcome
  pub ready : IsReady s outcome
  pub valid : IsValid (applied outcome s)
  pub leaves : (fabric : ℕ) → has_left s (applied outcome s) fabric ≡ is_that fabric outcome.gone

-- the outcome was made on this state
abbrev pub IsPlanned : NodeState → Outcome → Type 0
IsPlanned s outcome = (given : Environment) × ((action : Action) × ((now : ℕ) × IsPlan given s action now outcome))
