-- What contracts see of the interactions.
use Rattle.std.specs.Prelude.{◌≡◌, ℕ, List, []}
use Rattle.mt_durable.specs.Changes.{change_bytes}
use Rattle.mt_durable.specs.Setting.{with_all}
use Rattle.mt_durable.specs.declared.durable.Entry.{Entry}
use Rattle.mt_model.specs.texts.Contents.{Contents}
use Rattle.mt_model.specs.declared.texts.config.Config.{Config}
use Rattle.mt_model.specs.declared.texts.config.CsrRow.{CsrRow}
use Rattle.mt_model.specs.declared.texts.config.JoinRow.{JoinRow}
use Rattle.mt_model.specs.declared.texts.config.RootRow.{RootRow}
use Rattle.mt_node.specs.mt_machine.Environment.{Environment}
use Rattle.mt_node.specs.mt_machine.State.{State}
use Rattle.mt_runs.specs.mt_ledger.Ledger.{Ledger, opened_at}
use Rattle.mt_node.specs.mt_lasting.Contents as lasting
use Rattle.mt_node.specs.mt_regained.Begun.{ceiling_in, first_change}
use Rattle.mt_node.specs.Configured as nodes

-- its state, what it remembers of events and subscriptions, and the configuration and the durable map with which it was started
pub record ConfiguredInteractions : Type 0 where
  pub state : State
  pub ledger : Ledger
  pub config : Contents
  pub durable : List Entry

-- the node in it
abbrev pub node_of : ConfiguredInteractions → nodes.ConfiguredNode
node_of kept = record { state = kept.state.node; config = kept.config; durable = kept.durable }

-- They are those of the boot behind the map with which the node goes on: nobody has a deadline or has subscribed, and events go on at the
-- number that the map has.
pub record IsStarted (map : List Entry) (config : Config) (one : ConfiguredInteractions) : Type 0 where
  pub node : nodes.IsStarted map config (node_of one)
  pub deadlines : one.state.deadlines ≡ []
  pub ledger : one.ledger ≡ opened_at (ceiling_in map)

-- These bytes have to be committed first, with which the map with which the node goes on is that of its state.
pub record IsFirst (map : List Entry) (one : ConfiguredInteractions) (bytes : List ℕ) : Type 0 where
  pub said : bytes ≡ change_bytes (first_change one.state.node.boot one.ledger.history.numbers.ceiling)
  pub leads : with_all (first_change one.state.node.boot one.ledger.history.numbers.ceiling) map ≡ lasting.durable one.state.node one.ledger.history.numbers.ceiling

-- what is given to it, where these are the rows of the verdicts
abbrev pub given_to : ConfiguredInteractions → List RootRow → List CsrRow → List JoinRow → Environment
given_to kept roots csrs joins = nodes.given_to (node_of kept) roots csrs joins

-- the same in another state, with another ledger
abbrev pub behind : State → Ledger → ConfiguredInteractions → ConfiguredInteractions
behind state ledger kept = record kept { state = state; ledger = ledger }
