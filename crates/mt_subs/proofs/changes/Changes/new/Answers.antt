use Rattle.std.proofs.Common.{◌≡◌, List, arith, subst, sym}
use Rattle.std.proofs.lemmas.Grind.{common_steps}
use Rattle.mt_model.specs.declared.node.state.ChangeNumber.{ChangeNumber}
use Rattle.mt_subs.specs.Changes.{IsChanges, unchanged}
use Rattle.mt_subs.proofs.Noting.{unchanged_is}
use Rattle.mt_subs.proofs.changes.Changes.new.Goals as goal

pub invariant_of-result : goal.invariant_of-result
invariant_of-result c =
    let is : c.loop-place.changes.items ≡ unchanged = grind (arith, common_steps) in
    subst (λ (l : List ChangeNumber). IsChanges l) (sym is) unchanged_is
