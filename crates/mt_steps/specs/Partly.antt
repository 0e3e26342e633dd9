-- Steps that are made one after the other, where one is not made.
use Rattle.std.specs.Prelude.{◌≡◌, ◌<◌, ℕ, List, Option, length, take}
use Rattle.mt_model.specs.declared.node.action.NodeStep.{NodeStep}
use Rattle.mt_model.specs.declared.node.state.NodeState.{NodeState}
use Rattle.mt_model.specs.declared.tables.access.Actor.{Actor}
use Rattle.mt_machine.specs.Effects.{after_all}

-- The first of these steps are made of the state before, as many as are counted and not all, and nothing else is.
pub record IsMadeInPart (asking : Option Actor) (steps : List NodeStep) (before behind : NodeState) : Type 0 where
  pub count : ℕ
  pub fewer : count < length steps
  pub state : behind ≡ after_all asking (take count steps) before
