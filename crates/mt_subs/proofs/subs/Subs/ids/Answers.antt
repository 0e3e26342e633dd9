use Rattle.std.proofs.Common.{◌≡◌, ◌≤◌, ◌∙◌, arith, count_by, filter, length, subst}
use Rattle.std.proofs.lemmas.List.{length-map}
use Rattle.std.proofs.lemmas.List.Sums.{length-filter}
use Rattle.mt_subs.specs.Subscriptions.{ids_of, is_of}
use Rattle.mt_subs.specs.declared.subscription.SubState.{SubState}
use Rattle.mt_subs.specs.declared.subscription.Subscription.{Subscription}
use Rattle.mt_subs.proofs.subs.Subs.ids.Goals as goal

pub returns-clause-all : goal.returns-clause-all
returns-clause-all c =
    let fabric = c.args.fabric in
    let all = c.args.self.now.subscriptions in
    let few : count_by (is_of fabric) all ≤ 3 = subst (λ (s : SubState). count_by (is_of fabric) s.subscriptions ≤ 3) c.self.view_is (c.self.invariant.few fabric) in
    let long : length (ids_of fabric all) ≡ count_by (is_of fabric) all = length-map (filter (is_of fabric) all) (λ (s : Subscription). s.id) ∙ length-filter (is_of fabric) all in
    omega (arith, few, long)
