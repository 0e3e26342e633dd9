-- Expiries of the fail-safe, whichever way they come: by a time step once its end has come, by ArmFailSafe with 0 seconds of its owner, by
-- the removal of the fabric for which commissioning goes on.
use Rattle.std.specs.Prelude.{◌≡◌, ℕ, not, Bool, true, false, List, [], ◌∷◌, Option, Some, None, drop, filter, map}
use Rattle.std.specs.List.{list_all, list_any}
use Rattle.mt_failsafe.specs.Calls.{is_context}
use Rattle.mt_tlv.specs.declared.value.Value.TheVariants as values
use Rattle.mt_opcreds.specs.Laws.{KeepsRules}
use Rattle.mt_model.specs.rows.Order.{row_at}
use Rattle.mt_model.specs.rows.Setting.{is_at}
use Rattle.mt_model.specs.tables.Leaving.{stays}
use Rattle.mt_model.specs.declared.node.action.Action.{Action}
use Rattle.mt_model.specs.declared.node.action.NodeStep.{NodeStep}
use Rattle.mt_model.specs.declared.node.action.NodeStep.TheVariants.{SetRow, Expire, RemoveFabric, Emit}
use Rattle.mt_model.specs.declared.node.state.NodeState.{NodeState}
use Rattle.mt_model.specs.declared.rows.place.Row.{Row}
use Rattle.mt_model.specs.declared.tables.access.AclEntry.{AclEntry}
use Rattle.mt_model.specs.declared.tables.network.Armed.{Armed}
use Rattle.mt_machine.specs.Changes.{settled}
use Rattle.mt_machine.specs.Effects.{after_all}
use Rattle.mt_machine.specs.Environment.{Environment}
use Rattle.mt_machine.specs.Rollback.{breadcrumb, fabrics_behind, rollback, roots_behind, session_behind}
use Rattle.mt_machine.specs.State.{IsValid}
use Rattle.mt_machine.specs.Step.{after_action, asker_of, at_time, steps_of}

abbrev pub is_expiry : NodeStep → Bool
is_expiry Expire = true
is_expiry step = false

-- whether an action at this time lets the fail-safe expire
abbrev pub expires : Environment → NodeState → Action → ℕ → Bool
expires given s action now = list_any is_expiry (steps_of given s action now)

-- what else it does behind that
abbrev pub steps_behind : Environment → NodeState → Action → ℕ → List NodeStep
steps_behind given s action now = drop 1 (steps_of given s action now)

-- behind an expiry a value is set, or the fabric leaves for which commissioning went on, and is told of
abbrev pub may_stand_behind : Option Armed → NodeStep → Bool
may_stand_behind armed (SetRow place fabric values) = true
may_stand_behind armed (RemoveFabric index) = is_context index armed
may_stand_behind armed (Emit place priority fabric value) = true
may_stand_behind armed step = false

-- An expiry is the first of an action's steps, and the only one among them.
pub record ComesFirst (armed : Option Armed) (steps : List NodeStep) : Type 0 where
  pub first : steps ≡ Expire ∷ drop 1 steps
  pub behind : list_all (may_stand_behind armed) (drop 1 steps) ≡ true

abbrev pub ExpiriesComeFirst : Type 0
ExpiriesComeFirst = (given : Environment) (s : NodeState) (action : Action) (now : ℕ) → KeepsRules given.judged → IsValid s → expires given s action now ≡ true
    → ComesFirst s.armed (steps_of given s action now)

-- So the state behind it is the rollback of the state before, at that time, with what its other steps make of that.
abbrev pub ExpiriesRollBack : Type 0
ExpiriesRollBack = (given : Environment) (s : NodeState) (action : Action) (now : ℕ) → KeepsRules given.judged → IsValid s → expires given s action now ≡ true
    → after_action given s action now ≡ settled (at_time now s) (after_all (asker_of s action) (steps_behind given s action now) (rollback (at_time now s)))

-- What a rollback leaves, field by field.

abbrev pub is_breadcrumb : Row → Bool
is_breadcrumb row = is_at breadcrumb 0 row

pub record IsRolledBack (armed : Armed) (before now : NodeState) : Type 0 where
  -- the fail-safe is not armed
  pub armed_no_more : now.armed ≡ None
  -- the fabric that was added is gone, and the one that was updated has the credentials that it had; labels and vendors are as they were
  pub fabrics : now.fabrics ≡ fabrics_behind armed before.fabrics
  -- the networks are those that were saved when it was armed
  pub networks : now.networks ≡ armed.saved_networks
  -- Breadcrumb is 0
  pub breadcrumb_is_zero : filter is_breadcrumb now.rows ≡ row_at breadcrumb 0 (values.Uint 0) ∷ []
  -- every other row is as it was, and so is every entry, but for those of the fabric that was added
  pub rows : filter (λ (row : Row). not (is_breadcrumb row)) now.rows ≡ filter (λ (row : Row). not (is_breadcrumb row)) (filter (λ (row : Row). stays armed.added row.fabric) before.rows)
  pub entries : now.entries ≡ filter (λ (entry : AclEntry). stays armed.added entry.fabric) before.entries
  -- roots go that no fabric uses
  pub roots : now.roots ≡ roots_behind now.fabrics before.roots
  -- sessions end over PASE, and those of a fabric that was added or updated
  pub sessions : now.sessions ≡ map (session_behind armed) before.sessions
  pub plain : now.plain ≡ None
  -- no version moves by itself, and no time passes
  pub versions : now.versions ≡ before.versions
  pub changes : now.changes ≡ before.changes
  pub changed : now.changed ≡ before.changed
  pub boot : now.boot ≡ before.boot
  pub clock : now.clock ≡ before.clock

abbrev pub RollbacksLeave : Type 0
RollbacksLeave = (s : NodeState) (armed : Armed) → IsValid s → s.armed ≡ Some armed → IsRolledBack armed s (rollback s)
