use Rattle.std.proofs.Common.{List, Some, subst, sym}
use Rattle.mt_model.specs.declared.messages.message.Happened.{Happened}
use Rattle.mt_runs.specs.mt_ledger.History.{IsHistory}
use Rattle.mt_interactions.proofs.history.History.forget.Goals as goal

pub invariant_of-self : goal.invariant_of-self
invariant_of-self c =
    let inside = c.self.inside in
    subst (λ (rings : List (List Happened)). IsHistory (record { rings = rings; numbers = inside.numbers })) (sym c.forget.ensures.forgotten)
    (c.histories_grow_by_events.ensures.left (Some c.in-Some.fabric) (record { rings = inside.rings; numbers = inside.numbers }) c.self.invariant)
