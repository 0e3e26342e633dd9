use Rattle.std.proofs.Common.{ℕ}
use Rattle.mt_model.specs.declared.node.action.Action.{Action}
use Rattle.mt_model.specs.declared.node.state.NodeState.{NodeState}
use Rattle.mt_opcreds.specs.Laws.{KeepsRules}
use Rattle.mt_machine.specs.Environment.{Environment}
use Rattle.mt_machine.specs.State.{IsValid}
use Rattle.mt_windows.proofs.Actions.{action_follows}
use Rattle.mt_windows.proofs.Openings.{runs_open}
use Rattle.mt_windows.proofs.Runs.{runs_show}
use Rattle.mt_windows.proofs.laws.windows_are_as_commands_leave_them.Goals as goal

pub returns : goal.returns
returns c =
    let follows = λ (given : Environment) (s : NodeState) (action : Action) (now : ℕ) (rules : KeepsRules given.judged) (valid : IsValid s).
    action_follows c.steps_are_moves.ensures given s c.set_rows_stand_in_order.ensures.others c.what_stays_stands_in_order.ensures.rows
    c.steps_leave_states_valid.ensures.each c.states_are_valid.ensures.times c.states_are_valid.ensures.takes action now rules valid in
    record { rows = runs_show follows c.runs_are_replayed.ensures.valid; opened = runs_open follows c.states_are_valid.ensures.times c.runs_are_replayed.ensures.valid }
