-- What contracts see of a node.
use Rattle.std.specs.Prelude.{◌≡◌, List, Some}
use Rattle.mt_durable.specs.declared.durable.Entry.{Entry}
use Rattle.mt_model.specs.texts.Contents.{Contents, contents_of}
use Rattle.mt_model.specs.declared.texts.config.Config.{Config}
use Rattle.mt_model.specs.declared.node.state.NodeState.{NodeState}
use Rattle.mt_model.specs.declared.texts.config.CsrRow.{CsrRow}
use Rattle.mt_model.specs.declared.texts.config.JoinRow.{JoinRow}
use Rattle.mt_model.specs.declared.texts.config.RootRow.{RootRow}
use Rattle.mt_opcreds.specs.Judged.{judged_by}
use Rattle.mt_machine.specs.Environment.{Environment}
use Rattle.mt_regained.specs.Begun.{next_boot}

-- Its state, and the configuration and the durable map with which it was started. The configuration has all keys, and so it is no part of
-- the state, of which others observe what is public.
pub record ConfiguredNode : Type 0 where
  pub state : NodeState
  pub config : Contents
  pub durable : List Entry

-- a node in the boot behind the map with which it goes on, with this configuration
pub record IsStarted (map : List Entry) (config : Config) (node : ConfiguredNode) : Type 0 where
  pub state : next_boot config map ≡ Some node.state
  pub configured : node.config ≡ contents_of config
  pub durable : node.durable ≡ map

-- what is given to it, where these are the rows of the verdicts
abbrev pub given_to : ConfiguredNode → List RootRow → List CsrRow → List JoinRow → Environment
given_to kept roots csrs joins = record { judged = judged_by roots csrs joins; reachable = kept.config.reachable }

-- the same node in another state
abbrev pub in_state : NodeState → ConfiguredNode → ConfiguredNode
in_state state kept = record kept { state = state }
