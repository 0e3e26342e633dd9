use Rattle.std.proofs.Common.{◌≡◌, ◌∙◌, List, false, filter, ap, subst, sym}
use Rattle.std.specs.List.{list_any}
use Rattle.mt_subs.specs.Places.{IsAt, IsPlace}
use Rattle.mt_subs.specs.Subscriptions.{IsSubs, is_named, is_other}
use Rattle.mt_subs.specs.declared.subscription.SubState.{SubState}
use Rattle.mt_subs.specs.declared.subscription.Subscription.{Subscription}
use Rattle.mt_subs.proofs.Staying.{not_ended, staying_is}
use Rattle.mt_subs.proofs.subs.Subs.end.Goals as goal

pub invariant_of-self : goal.invariant_of-self
invariant_of-self c =
    let fabric = c.args.fabric in
    let id = c.args.id in
    let items = c.self.inside.subscriptions.items in
    let next_ids = c.self.inside.next_ids in
    let here : IsAt fabric id c.deref.result.now c.in-Some.place = subst (IsPlace fabric id c.deref.result.now) c.in-Some.is c.place_of.ensures in
    let there : IsAt fabric id items c.in-Some.place = subst (λ (l : List Subscription). IsAt fabric id l c.in-Some.place) c.deref.ensures.value here in
    let is : c.remove.new.self.items ≡ filter (is_other fabric id) items = c.remove.ensures.items ∙ there.removes in
    subst (λ (l : List Subscription). IsSubs (record { subscriptions = l; next_ids = next_ids })) (sym is) (staying_is (is_other fabric id) (record { subscriptions = items; next_ids = next_ids }) c.self.invariant)

pub returns-in-None-clause-ended : goal.returns-in-None-clause-ended
returns-in-None-clause-ended c =
    let fabric = c.args.fabric in
    let id = c.args.id in
    let none : list_any (is_named fabric id) c.deref.result.now ≡ false = subst (IsPlace fabric id c.deref.result.now) c.in-None.is c.place_of.ensures in
    let same : c.deref.result.now ≡ c.args.self.now.subscriptions = c.deref.ensures.value ∙ ap (λ (s : SubState). s.subscriptions) c.self.view_is in
    not_ended fabric id c.args.self.now (subst (λ (l : List Subscription). list_any (is_named fabric id) l ≡ false) same none)
