use Rattle.std.proofs.Common.{◌≤◌, subst, sym}
use Rattle.mt_model.specs.declared.node.state.NodeState.{NodeState}
use Rattle.mt_subs.specs.Changes.{IsChanges, newest_of}
use Rattle.mt_node.proofs.Counts.{newest_up_to}
use Rattle.mt_node.proofs.Orderly.{entries_up_from_none}
use Rattle.mt_node.proofs.effects.apply.Goals as goal

pub make-requires-clause-ascending : goal.make-requires-clause-ascending
make-requires-clause-ascending c = entries_up_from_none c.args.state.now c.requires.valid

-- the steps move no change number
pub settle-requires-clause-stand : goal.settle-requires-clause-stand
settle-requires-clause-stand c = subst (λ (s : NodeState). IsChanges s.changes) (sym c.make.ensures.kept) c.requires.valid.changes_stand

pub settle-requires-clause-newest : goal.settle-requires-clause-newest
settle-requires-clause-newest c = subst (λ (s : NodeState). newest_of s.changes ≤ s.changed) (sym c.make.ensures.kept) (newest_up_to c.args.state.now c.requires.valid)
