use Rattle.mt_node.proofs.Orderly.{entries_up_from_none}
use Rattle.mt_node.proofs.sight.view.Goals as goal

pub view_of-requires-clause-entries : goal.view_of-requires-clause-entries
view_of-requires-clause-entries c = entries_up_from_none c.node.inside.state c.node.invariant

pub view_of-requires-clause-fabrics : goal.view_of-requires-clause-fabrics
view_of-requires-clause-fabrics c = c.node.invariant.fabrics_rise
