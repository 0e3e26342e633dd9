-- the changes that were gone through are later
use Rattle.std.proofs.Common.{◌≡◌, ℕ, ◌<◌, get_or, true}
use Rattle.mt_model.specs.declared.node.state.ChangeNumber.{ChangeNumber}
use Rattle.mt_subs.specs.Changes.{is_later}
use Rattle.mt_subs.proofs.changes.later.Given as goal

abbrev pub invariant-loop-count : goal.invariant-loop-count
invariant-loop-count l = (k : ℕ) (d : ChangeNumber) → k < l.count → is_later l.number (get_or l.changes k d) ≡ true
