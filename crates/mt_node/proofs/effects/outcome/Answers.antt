use Rattle.mt_node.proofs.effects.outcome.Goals as goal

pub returns-then-is_empty : goal.returns-then-is_empty
returns-then-is_empty c = c.unchanged.ensures c.args.node.now.state
