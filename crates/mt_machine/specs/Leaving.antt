-- Which fabrics leave the table between two states.
use Rattle.std.specs.Prelude.{ℕ, ◌&&◌, not, Bool}
use Rattle.mt_model.specs.declared.node.state.NodeState.{NodeState}
use Rattle.mt_machine.specs.State.{is_member}

-- it was in the table, and is not any more
abbrev pub has_left : NodeState → NodeState → ℕ → Bool
has_left before now fabric = is_member fabric before && not (is_member fabric now)
