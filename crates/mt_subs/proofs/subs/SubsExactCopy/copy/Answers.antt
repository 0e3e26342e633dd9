use Rattle.std.proofs.Common.{◌≡◌, List, arith, subst, sym}
use Rattle.std.proofs.lemmas.Grind.{common_steps}
use Rattle.mt_subs.specs.Subscriptions.{IsSubs}
use Rattle.mt_subs.specs.declared.subscription.Subscription.{Subscription}
use Rattle.mt_subs.proofs.subs.SubsExactCopy.copy.Goals as goal

pub invariant_of-result : goal.invariant_of-result
invariant_of-result c =
    let is : c.loop-s.subscriptions.items ≡ c.self.inside.subscriptions.items = grind (arith, common_steps) in
    subst (λ (l : List Subscription). IsSubs (record { subscriptions = l; next_ids = c.self.inside.next_ids })) (sym is) c.self.invariant
