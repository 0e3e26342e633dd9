use Rattle.std.proofs.Common.{◌≡◌, ◌++◌, drop}
use Rattle.mt_machine.specs.Effects.{events_in}
use Rattle.mt_node.proofs.telling.events_in.Given as goal

abbrev pub invariant-loop-step : goal.invariant-loop-step
invariant-loop-step l = l.told ++ events_in (drop l.step-index l.steps) ≡ events_in l.steps
