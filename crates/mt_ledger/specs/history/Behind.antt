-- The history behind an action.
use Rattle.std.specs.Prelude.{ℕ}
use Rattle.mt_model.specs.declared.node.action.Action.{Action}
use Rattle.mt_model.specs.declared.node.state.NodeState.{NodeState}
use Rattle.mt_machine.specs.Environment.{Environment}
use Rattle.mt_machine.specs.Step.{after_action, gone_between}
use Rattle.mt_machine.specs.Telling.{told}
use Rattle.mt_ledger.specs.history.History.{History, recorded_all, without_left}

-- What is private to a fabric that leaves goes; then all that the action tells is recorded.
abbrev pub history_behind : Environment → NodeState → Action → ℕ → History → History
history_behind given s action now h =
    recorded_all now (told given s action now) (without_left (gone_between s.fabrics (after_action given s action now).fabrics) h)
