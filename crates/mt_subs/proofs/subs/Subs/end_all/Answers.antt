use Rattle.std.proofs.Common.{◌≡◌, ◌∙◌, List, filter, ap, rules, subst, sym}
use Rattle.std.proofs.lemmas.Fn.{filter_same}
use Rattle.mt_subs.specs.Leaving.{is_none_of}
use Rattle.mt_subs.specs.Subscriptions.{IsSubs}
use Rattle.mt_subs.specs.declared.subscription.SubState.{SubState}
use Rattle.mt_subs.specs.declared.subscription.Subscription.{Subscription}
use Rattle.mt_subs.proofs.Staying.{staying_is}
use Rattle.mt_subs.proofs.subs.Subs.end_all.Goals as goal

pub invariant_of-self : goal.invariant_of-self
invariant_of-self c =
    let items = c.self.inside.subscriptions.items in
    let next_ids = c.self.inside.next_ids in
    let is : c.retain.new.self.items ≡ filter (is_none_of c.args.fabric c.args.ids.now) items = filter_same _ (is_none_of c.args.fabric c.args.ids.now) _ (λ x b f' k. search rules) _ _ c.retain.ensures.filtered in
    subst (λ (l : List Subscription). IsSubs (record { subscriptions = l; next_ids = next_ids })) (sym is) (staying_is (is_none_of c.args.fabric c.args.ids.now) (record { subscriptions = items; next_ids = next_ids }) c.self.invariant)

pub returns : goal.returns
returns c =
    let items = c.self.inside.subscriptions.items in
    let next_ids = c.self.inside.next_ids in
    let is : c.retain.new.self.items ≡ filter (is_none_of c.args.fabric c.args.ids.now) items = filter_same _ (is_none_of c.args.fabric c.args.ids.now) _ (λ x b f' k. search rules) _ _ c.retain.ensures.filtered in
    ap (λ (l : List Subscription). record { subscriptions = l; next_ids = next_ids }) is
    ∙ ap (λ (s : SubState). record s { subscriptions = filter (is_none_of c.args.fabric c.args.ids.now) s.subscriptions }) c.self.view_is
