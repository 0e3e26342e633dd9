-- The messages that ask, as TLV trees (Matter Core Specification, chapter 10, Interaction Model Encoding).
-- Fields stand by ascending tag. Truth values are written also where they are false. An array of paths, of
-- event filters or of version filters is left out where it would have no block; the arrays of writes and of
-- commands are always there.
use Rattle.std.specs.Prelude.{ℕ, ◌==◌, List, [], ◌∷◌, if◌then◌else◌}
use Rattle.mt_tlv.specs.declared.value.Tag.TheVariants.{Anonymous, Context}
use Rattle.mt_tlv.specs.declared.value.Value.{Value}
use Rattle.mt_tlv.specs.Tree.{Tree, uint, bool, structure, array, list, Elements, none, more}
use Rattle.mt_tlv.specs.View.{tree}
use Rattle.mt_model.specs.Trees.{untagged}
use Rattle.mt_model.specs.messages.Blocks.{optional_number, path_tree, event_path_tree}
use Rattle.mt_model.specs.declared.messages.message.Request.{Request}
use Rattle.mt_model.specs.declared.messages.message.Request.TheVariants as requests
use Rattle.mt_model.specs.declared.messages.message.WriteItem.{WriteItem}
use Rattle.mt_model.specs.declared.messages.opcode.TheConstants.{STATUS_RESPONSE, READ_REQUEST, SUBSCRIBE_REQUEST, WRITE_REQUEST, INVOKE_REQUEST, TIMED_REQUEST}
use Rattle.mt_model.specs.declared.rows.place.Place.{Place}
use Rattle.mt_model.specs.declared.node.state.Version.{Version}

-- the opcode of a request
abbrev pub opcode_of : Request → ℕ
opcode_of (requests.Status code) = STATUS_RESPONSE
opcode_of (requests.Read paths events minimum filtered versions) = READ_REQUEST
opcode_of (requests.Subscribe keep floor ceiling paths events minimum filtered versions) = SUBSCRIBE_REQUEST
opcode_of (requests.Write suppress timed items) = WRITE_REQUEST
opcode_of (requests.Invoke suppress timed command fields) = INVOKE_REQUEST
opcode_of (requests.Timed ms) = TIMED_REQUEST

-- the field that ends every message: 255 is the revision, which is 1
abbrev pub revision : Elements
revision = more (Context 255) (uint 1) none

-- an array of blocks, left out where there is none
abbrev pub optional_blocks : {X : Type 0} → ℕ → (X → Tree) → List X → Elements → Elements
optional_blocks tag block [] others = others
optional_blocks tag block (x ∷ xs) others = more (Context tag) (array (untagged block (x ∷ xs))) others

-- EventFilter: 1 minimum
abbrev pub event_filter_tree : ℕ → Tree
event_filter_tree minimum = structure (more (Context 1) (uint minimum) none)

-- the filters that let the events from this number on pass: none is needed from 0 on
abbrev pub event_filters : ℕ → List ℕ
event_filters minimum = if minimum == 0 then [] else minimum ∷ []

-- ClusterPath: 1 endpoint, 2 cluster
abbrev pub cluster_path_tree : Version → Tree
cluster_path_tree known = list (more (Context 1) (uint known.endpoint) (more (Context 2) (uint known.cluster) none))

-- VersionFilter: 0 ClusterPath, 1 data version
abbrev pub version_filter_tree : Version → Tree
version_filter_tree known = structure (more (Context 0) (cluster_path_tree known) (more (Context 1) (uint known.version) none))

-- AttributeData of a write: 0 data version, left out where none is asked for, 1 path, 2 value
abbrev pub write_tree : WriteItem → Tree
write_tree item = structure (optional_number 0 item.version (more (Context 1) (path_tree item.path) (more (Context 2) (tree item.value) none)))

-- CommandPath: 0 endpoint, 1 cluster, 2 command
abbrev pub command_path_tree : Place → Tree
command_path_tree place = list (more (Context 0) (uint place.endpoint) (more (Context 1) (uint place.cluster) (more (Context 2) (uint place.leaf) none)))

-- CommandData: 0 path, 1 fields
abbrev pub command_tree : Place → Value → Tree
command_tree command fields = structure (more (Context 0) (command_path_tree command) (more (Context 1) (tree fields) none))

-- the fields of a message
abbrev pub request_fields : Request → Elements
-- StatusResponse: 0 status
request_fields (requests.Status code) = more (Context 0) (uint code) revision
-- ReadRequest: 0 attribute paths, 1 event paths, 2 event filters, 3 fabric filtered, 4 version filters
request_fields (requests.Read paths events minimum filtered versions) =
    optional_blocks 0 path_tree paths
    (optional_blocks 1 event_path_tree events
    (optional_blocks 2 event_filter_tree (event_filters minimum)
    (more (Context 3) (bool filtered)
    (optional_blocks 4 version_filter_tree versions revision))))
-- SubscribeRequest: 0 keep subscriptions, 1 floor, 2 ceiling, 3 attribute paths, 4 event paths, 5 event filters,
-- 7 fabric filtered, 8 version filters
request_fields (requests.Subscribe keep floor ceiling paths events minimum filtered versions) =
    more (Context 0) (bool keep)
    (more (Context 1) (uint floor)
    (more (Context 2) (uint ceiling)
    (optional_blocks 3 path_tree paths
    (optional_blocks 4 event_path_tree events
    (optional_blocks 5 event_filter_tree (event_filters minimum)
    (more (Context 7) (bool filtered)
    (optional_blocks 8 version_filter_tree versions revision)))))))
-- WriteRequest: 0 suppress response, 1 timed request, 2 writes
request_fields (requests.Write suppress timed items) =
    more (Context 0) (bool suppress) (more (Context 1) (bool timed) (more (Context 2) (array (untagged write_tree items)) revision))
-- InvokeRequest: 0 suppress response, 1 timed request, 2 requests, of which there is one
request_fields (requests.Invoke suppress timed command fields) =
    more (Context 0) (bool suppress) (more (Context 1) (bool timed)
    (more (Context 2) (array (more Anonymous (command_tree command fields) none)) revision))
-- TimedRequest: 0 timeout in ms
request_fields (requests.Timed ms) = more (Context 0) (uint ms) revision

-- a message: an anonymous structure of its fields
abbrev pub request_tree : Request → Tree
request_tree request = structure (request_fields request)
