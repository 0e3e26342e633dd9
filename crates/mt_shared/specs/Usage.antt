-- Which sessions of a node are in use.
use Rattle.std.specs.Prelude.{Bool, true, false}
use Rattle.mt_model.specs.declared.node.state.NodeSession.{NodeSession}
use Rattle.mt_model.specs.declared.node.state.Standing.{Standing}
use Rattle.mt_model.specs.declared.node.state.Standing.TheVariants.{Waits, Live, Ended}

abbrev pub is_live : Standing → Bool
is_live (Live fabric) = true
is_live Waits = false
is_live Ended = false

-- a session that is live
abbrev pub is_in_use : NodeSession → Bool
is_in_use session = is_live session.standing
