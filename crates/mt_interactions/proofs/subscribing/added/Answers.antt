use Rattle.std.proofs.Common.{ℕ, ◌-◌, Bool, ap, is_none, ◌∙◌}
use Rattle.mt_model.specs.declared.node.state.NodeState.{NodeState}
use Rattle.mt_runs.specs.mt_ledger.Subscribing.{Wish, last_told}
use Rattle.mt_subs.specs.Subscriptions.{changed, reported}
use Rattle.mt_subs.specs.declared.subscription.SubState.{SubState}
use Rattle.mt_interactions.specs.Configured.{ConfiguredInteractions}
use Rattle.mt_interactions.specs.Subscribing.{confirmed_if, wish_by}
use Rattle.mt_interactions.proofs.Due.{none_is, subscribes}
use Rattle.mt_interactions.proofs.subscribing.added.Goals as goal

-- src/subscribing.rt:60:1
pub returns-in-Ok-clause-subs : goal.returns-in-Ok-clause-subs
returns-in-Ok-clause-subs c =
    let kept : ConfiguredInteractions = c.args.interactions.now in
    let wish : Wish = wish_by c.args.wish in
    let fabric : ℕ = wish.sub.actor.fabric in
    let id : ℕ = c.in-Ok.id in
    let change : ℕ = c.state.result.now.changed in
    let event : ℕ = c.last_told-event.result in
    c.in_ok-new-in-Ok.ensures.ok
    ∙ c.confirm_if.ensures
    ∙ ap (λ (b : Bool). confirmed_if b fabric id c.reported.new.self) (none_is c.is_none.result wish.sub.actor.session c.is_none.ensures)
    ∙ ap (λ (s : SubState). confirmed_if (is_none wish.sub.actor.session) fabric id s) (c.reported.ensures ∙ ap (changed fabric id (reported c.args.ms change event)) c.in-Ok.ensures.added)
    ∙ subscribes kept.state.node kept.ledger c.args.ms wish c.args.subs id change event c.requires.sound c.requires.left c.in-Ok.ensures.allowed c.in-Ok.ensures.id
    (ap (λ (s : NodeState). s.changed) c.state.ensures ∙ ap (λ (k : ConfiguredInteractions). k.state.node.changed) c.interactions.view_is)
    (c.last_told-event.ensures ∙ ap (λ (n : ℕ). last_told n c.as_slice.result.now) c.saturating_sub.ensures ∙ ap (last_told (wish.minimum - 1)) (c.as_slice.ensures ∙ c.in_ok-events.ensures))
