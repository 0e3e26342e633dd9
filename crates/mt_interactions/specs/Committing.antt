-- What is committed for an outcome leads from the durable map before it to that behind it.
use Rattle.std.specs.Prelude.{◌≡◌, ◌≢◌, ◌↔◌, ◌^◌, ◌≤◌, []}
use Rattle.mt_durable.specs.Reading.{Says}
use Rattle.mt_durable.specs.Setting.{with_all}
use Rattle.mt_node.specs.mt_lasting.Changes.{change_between}
use Rattle.mt_node.specs.mt_lasting.Contents.{durable}
use Rattle.mt_runs.specs.mt_ledger.Ledger.{Ledger}
use Rattle.mt_node.specs.mt_machine.State.{State}
use Rattle.mt_node.specs.Plan.{applied}
use Rattle.mt_interactions.specs.Plan.{IsPlanned, applied_history}
use Rattle.mt_interactions.specs.declared.outcome.InteractionOutcome.{InteractionOutcome}

-- Nothing is committed exactly where both maps are equal. Otherwise the bytes are those of a change, which is put on the one and gives the other.
pub record LeadsOn (s : State) (l : Ledger) (outcome : InteractionOutcome) : Type 0 where
  pub nothing : (outcome.change ≡ []) ↔ (durable s.node l.history.numbers.ceiling ≡ durable (applied outcome.node s.node) (applied_history outcome l.history).numbers.ceiling)
  pub says : durable s.node l.history.numbers.ceiling ≢ durable (applied outcome.node s.node) (applied_history outcome l.history).numbers.ceiling
      → Says (change_between s.node l.history.numbers.ceiling (applied outcome.node s.node) (applied_history outcome l.history).numbers.ceiling) outcome.change
  pub leads : with_all (change_between s.node l.history.numbers.ceiling (applied outcome.node s.node) (applied_history outcome l.history).numbers.ceiling) (durable s.node l.history.numbers.ceiling)
      ≡ durable (applied outcome.node s.node) (applied_history outcome l.history).numbers.ceiling
  -- and the ceiling behind it is one that there may be
  pub within : (applied_history outcome l.history).numbers.ceiling ≤ 2 ^ 62

abbrev pub CommitsLeadOn : Type 0
CommitsLeadOn = (s : State) (l : Ledger) (outcome : InteractionOutcome) → IsPlanned s l outcome → LeadsOn s l outcome
