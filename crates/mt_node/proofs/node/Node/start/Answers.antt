use Rattle.mt_node.proofs.node.Node.start.Goals as goal

pub invariant_of-node : goal.invariant_of-node
invariant_of-node c = c.in_ok-state.ensures.valid
