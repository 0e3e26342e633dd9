use Rattle.std.proofs.Common.{◌≡◌, ◌∙◌, ◌++◌, List, false, arith, take, drop, length, map, ap, subst, sym}
use Rattle.std.proofs.lemmas.Grind.{common_steps}
use Rattle.std.specs.List.{list_any}
use Rattle.mt_subs.specs.Places.{IsPlace}
use Rattle.mt_subs.specs.Subscriptions.{IsSubs, changed_at, reported, is_named}
use Rattle.mt_subs.specs.declared.subscription.SubState.{SubState}
use Rattle.mt_subs.specs.declared.subscription.Subscription.{Subscription}
use Rattle.mt_subs.proofs.Staying.{changed_is, not_changed}
use Rattle.mt_subs.proofs.subs.Subs.reported.Goals as goal

pub invariant_of-self : goal.invariant_of-self
invariant_of-self c =
    let fabric = c.args.fabric in
    let id = c.args.id in
    let items = c.self.inside.subscriptions.items in
    let next_ids = c.self.inside.next_ids in
    let is : take c.self.inside.subscriptions.len (c.report.new.subs ++ drop (length c.report.new.subs) items) ≡ map (changed_at fabric id (reported c.args.now c.args.change c.args.event)) items = grind (arith, common_steps) in
    subst (λ (l : List Subscription). IsSubs (record { subscriptions = l; next_ids = next_ids })) (sym is) (changed_is fabric id (reported c.args.now c.args.change c.args.event) (record { subscriptions = items; next_ids = next_ids }) c.self.invariant)

pub returns-in-None : goal.returns-in-None
returns-in-None c =
    let fabric = c.args.fabric in
    let id = c.args.id in
    let none : list_any (is_named fabric id) c.deref.result.now ≡ false = subst (IsPlace fabric id c.deref.result.now) c.in-None.is c.place_of.ensures in
    let same : c.deref.result.now ≡ c.args.self.now.subscriptions = c.deref.ensures.value ∙ ap (λ (s : SubState). s.subscriptions) c.self.view_is in
    not_changed fabric id (reported c.args.now c.args.change c.args.event) c.args.self.now (subst (λ (l : List Subscription). list_any (is_named fabric id) l ≡ false) same none)
