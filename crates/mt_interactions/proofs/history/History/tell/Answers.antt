use Rattle.std.proofs.Common.{◌≡◌, ℕ, ap, subst, sym, true, ◌∙◌}
use Rattle.mt_model.specs.declared.messages.message.Happened.{Happened}
use Rattle.mt_model.specs.declared.node.action.NodeStep.{NodeStep}
use Rattle.mt_events.specs.Rings.{pushed}
use Rattle.mt_runs.specs.mt_ledger.History.{History, IsHistory, happened}
use Rattle.mt_interactions.specs.Recording.{is_of_a_fabric}
use Rattle.mt_interactions.proofs.Recorded.{of_a_fabric}
use Rattle.mt_interactions.proofs.history.History.tell.Goals as goal

pub invariant_of-self : goal.invariant_of-self
invariant_of-self c =
    let inside = c.self.inside in
    let e = c.in-Emit in
    let event : ℕ → Happened = λ number. happened number e.place e.priority c.args.ms e.fabric e.value in
    let rings : c.push.new.self ≡ pushed (event inside.numbers.next) inside.rings = c.push.ensures.pushed ∙ ap (λ number. pushed (event number) inside.rings) c.take-number.ensures.number in
    subst (λ (h : History). IsHistory h) (sym (λ i. record { rings = rings i; numbers = c.take-number.ensures.taken i }))
    (c.histories_grow_by_events.ensures.one c.args.ms e.place e.priority e.fabric e.value (record { rings = inside.rings; numbers = inside.numbers })
    (of_a_fabric e.place e.priority e.fabric e.value (subst (λ (step : NodeStep). is_of_a_fabric step ≡ true) e.is c.requires.fabric)) c.self.invariant)
