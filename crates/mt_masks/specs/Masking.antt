-- Epoch keys masked: what a request, a step and a state are once each epoch key of a group key set (Matter Core Specification, chapter 11,
-- Group Key Management Cluster) holds zeros alone.
use Rattle.std.specs.Prelude.{ℕ, ◌==◌, ◌||◌, Bool, false, List, length, map, replicate, Result, Ok, Err, if◌then◌else◌}
use Rattle.mt_tlv.specs.Tree.{Tree, octets, structure, Elements, none, more}
use Rattle.mt_tlv.specs.declared.value.Tag.{Tag}
use Rattle.mt_tlv.specs.declared.value.Tag.TheVariants.{Context}
use Rattle.mt_tlv.specs.declared.value.Value.{Value}
use Rattle.mt_tlv.specs.declared.value.Value.TheVariants as values
use Rattle.mt_im.specs.declared.fault.ImFault.{ImFault}
use Rattle.mt_meta.specs.clusters.GroupKeyManagement.{cluster}
use Rattle.mt_model.specs.Trees.{is_context}
use Rattle.mt_model.specs.rows.Sight.{same_place}
use Rattle.mt_model.specs.tables.KeySets.{key_sets}
use Rattle.mt_model.specs.declared.messages.message.Request.{Request}
use Rattle.mt_model.specs.declared.messages.message.Request.TheVariants.{Invoke}
use Rattle.mt_model.specs.declared.node.action.Action.{Action}
use Rattle.mt_model.specs.declared.node.action.Action.TheVariants.{Ask}
use Rattle.mt_model.specs.declared.node.action.NodeStep.{NodeStep}
use Rattle.mt_model.specs.declared.node.action.NodeStep.TheVariants.{SetRow}
use Rattle.mt_model.specs.declared.node.state.NodeState.{NodeState}
use Rattle.mt_model.specs.declared.rows.place.Place.{Place}
use Rattle.mt_model.specs.declared.rows.place.Row.{Row}
use Rattle.mt_machine.specs.State.{State}

-- members of which those under some tags are changed
abbrev pub changed_under : (Tag → Bool) → (Tree → Tree) → Elements → Elements
changed_under under change none = none
changed_under under change (more tag v es) = more tag (if under tag then change v else v) (changed_under under change es)

-- Key sets. A key of 16 bytes is as many zeros; any other value stays.

abbrev pub masked_bytes : List ℕ → List ℕ
masked_bytes key = if length key == 16 then replicate 16 0 else key

abbrev pub masked_key : Tree → Tree
masked_key (octets key) = octets (masked_bytes key)
masked_key tree = tree

-- a key set has its keys under 2, 4 and 6
abbrev pub is_key_field : Tag → Bool
is_key_field (Context field) = field == 2 || (field == 4 || field == 6)
is_key_field tag = false

abbrev pub masked_members : Elements → Elements
masked_members es = changed_under is_key_field masked_key es

abbrev pub masked_set : Value → Value
masked_set (values.Struct es) = values.Struct (masked_members es)
masked_set value = value

-- Requests. KeySetWrite has a key set under 0.

abbrev pub masked_structure : Tree → Tree
masked_structure (structure es) = structure (masked_members es)
masked_structure tree = tree

abbrev pub masked_fields : Value → Value
masked_fields (values.Struct es) = values.Struct (changed_under (is_context 0) masked_structure es)
masked_fields fields = fields

abbrev pub key_set_write : Place
key_set_write = record { endpoint = 0; cluster = cluster; leaf = 0 }

-- the fields of a command
abbrev pub masked_for : Place → Value → Value
masked_for command fields = if same_place command key_set_write then masked_fields fields else fields

abbrev pub masked_request : Request → Request
masked_request (Invoke suppress timed command fields) = Invoke suppress timed command (masked_for command fields)
masked_request request = request

abbrev pub masked_asked : Result Request ImFault → Result Request ImFault
masked_asked (Ok request) = Ok (masked_request request)
masked_asked (Err fault) = Err fault

abbrev pub masked_action : Action → Action
masked_action (Ask actor request deadline) = Ask actor (masked_request request) deadline
masked_action action = action

-- States. The key sets of every fabric are rows at one place.

abbrev pub masked_value : Place → Value → Value
masked_value place value = if same_place place key_sets then masked_set value else value

abbrev pub masked_row : Row → Row
masked_row row = record row { value = masked_value row.place row.value }

abbrev pub masked_node : NodeState → NodeState
masked_node s = record s { rows = map masked_row s.rows }

abbrev pub masked_state : State → State
masked_state s = record s { node = masked_node s.node }

-- Steps: one that sets key sets sets them masked.
abbrev pub masked_step : NodeStep → NodeStep
masked_step (SetRow place fabric given) = SetRow place fabric (map (masked_value place) given)
masked_step step = step
