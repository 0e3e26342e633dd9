-- What the node remembers beside its state: the events that happened, and who has subscribed to what.
use Rattle.std.specs.Prelude.{◌≡◌, ℕ, ◌==◌, Bool, true}
use Rattle.std.specs.List.{list_all}
use Rattle.mt_model.specs.declared.node.state.NodeState.{NodeState}
use Rattle.mt_subs.specs.Leaving.{stands_in}
use Rattle.mt_subs.specs.Subscriptions.{IsSubs, none}
use Rattle.mt_subs.specs.declared.subscription.SubState.{SubState}
use Rattle.mt_subs.specs.declared.subscription.Subscription.{Subscription}
use Rattle.mt_ledger.specs.history.History as histories
use Rattle.mt_ledger.specs.history.History.{History, IsHistory}

pub record Ledger : Type 0 where
  pub history : History
  pub subs : SubState

-- that of a boot, where this ceiling of event numbers was stored: the node has started, and nobody has subscribed
abbrev pub opened_at : ℕ → Ledger
opened_at ceiling = record { history = histories.begun_at ceiling; subs = none }

-- that of a new node
abbrev pub opened : Ledger
opened = opened_at 0

-- a subscription stands under the fabric of the actor who made it
abbrev pub is_its_actors : Subscription → Bool
is_its_actors x = x.kept.sub.actor.fabric == x.fabric

-- What holds of every ledger beside a state: the history is one, the subscriptions keep their rules, whoever subscribed is there, and each
-- stands under its actor's fabric.
pub record IsLedger (s : NodeState) (l : Ledger) : Type 0 where
  pub history : IsHistory l.history
  pub subs : IsSubs l.subs
  pub there : list_all (stands_in s) l.subs.subscriptions ≡ true
  pub owners : list_all is_its_actors l.subs.subscriptions ≡ true
