-- Which trees spell a request, by the tables of messages and blocks (Matter Core Specification, chapter 10,
-- Interaction Model Encoding). A field in square brackets may be missing.
use Rattle.std.specs.Prelude.{◌≡◌, ℕ, Bool, false, List, [], ◌∷◌, IsSome, ◌⊎◌}
use Rattle.mt_tlv.specs.declared.value.Value.{Value}
use Rattle.mt_tlv.specs.Tree.{Tree, uint, null, structure, list, Elements, none}
use Rattle.mt_tlv.specs.View.{tree}
use Rattle.mt_model.specs.declared.messages.message.Index.{Index}
use Rattle.mt_model.specs.declared.messages.message.Index.TheVariants.{Whole, Append, At}
use Rattle.mt_model.specs.declared.messages.message.Path.{Path}
use Rattle.mt_model.specs.declared.messages.message.Request.{Request}
use Rattle.mt_model.specs.declared.messages.message.Request.TheVariants as requests
use Rattle.mt_model.specs.declared.messages.message.WriteItem.{WriteItem}
use Rattle.mt_model.specs.declared.rows.place.Place.{Place}
use Rattle.mt_model.specs.declared.node.state.Version.{Version}
use Rattle.mt_im.specs.Fields.{greatest, HasNo, HasField, HasNumber, MayHaveNumber, HasTruth, MayHaveTruth, HasBlocks, MayHaveBlocks}
use Rattle.mt_im.specs.Requests.{opcode_of}

-- ---- blocks

-- the list index of a path, tag 5: missing for the whole attribute, null to append, or an item's number
abbrev pub IndexSpells : Index → Elements → Type 0
IndexSpells Whole fields = HasNo 5 fields
IndexSpells Append fields = HasField 5 null fields
IndexSpells (At n) fields = HasNumber 16 5 n fields

-- AttributePath: a list of [0 compression, false], [1 node, passed over], [2 endpoint], [3 cluster],
-- [4 attribute], [5 list index or null].
pub record AttributePathSpells (path : Path) (v : Tree) : Type 0 where
  pub fields : Elements
  pub form : v ≡ list fields
  pub compression : MayHaveTruth 0 false fields
  pub endpoint : MayHaveNumber 16 2 path.endpoint fields
  pub cluster : MayHaveNumber 32 3 path.cluster fields
  pub attribute : MayHaveNumber 32 4 path.leaf fields
  pub index : IndexSpells path.index fields

-- EventPath: a list of [0 node, passed over], [1 endpoint], [2 cluster], [3 event], [4 urgent, passed over].
pub record EventPathSpells (path : Path) (v : Tree) : Type 0 where
  pub fields : Elements
  pub form : v ≡ list fields
  pub endpoint : MayHaveNumber 16 1 path.endpoint fields
  pub cluster : MayHaveNumber 32 2 path.cluster fields
  pub event : MayHaveNumber 32 3 path.leaf fields
  pub index : path.index ≡ Whole

-- EventFilter: a structure of [0 node, passed over], 1 minimum.
pub record EventFilterSpells (minimum : ℕ) (v : Tree) : Type 0 where
  pub fields : Elements
  pub form : v ≡ structure fields
  pub least : HasField 1 (uint minimum) fields

-- ClusterPath: a list of [0 node, passed over], 1 endpoint, 2 cluster.
pub record ClusterPathSpells (known : Version) (v : Tree) : Type 0 where
  pub fields : Elements
  pub form : v ≡ list fields
  pub endpoint : HasNumber 16 1 known.endpoint fields
  pub cluster : HasNumber 32 2 known.cluster fields

-- VersionFilter: a structure of 0 ClusterPath, 1 version.
pub record VersionFilterSpells (known : Version) (v : Tree) : Type 0 where
  pub fields : Elements
  pub path : Tree
  pub form : v ≡ structure fields
  pub has_path : HasField 0 path fields
  pub is_path : ClusterPathSpells known path
  pub version : HasNumber 32 1 known.version fields

-- A written path names an endpoint, a cluster and an attribute.
pub record IsConcrete (path : Path) : Type 0 where
  pub endpoint : IsSome path.endpoint
  pub cluster : IsSome path.cluster
  pub attribute : IsSome path.leaf

-- AttributeData: a structure of [0 version], 1 path, 2 value.
pub record AttributeDataSpells (item : WriteItem) (v : Tree) : Type 0 where
  pub fields : Elements
  pub path : Tree
  pub form : v ≡ structure fields
  pub version : MayHaveNumber 32 0 item.version fields
  pub has_path : HasField 1 path fields
  pub is_path : AttributePathSpells item.path path
  pub concrete : IsConcrete item.path
  pub value : HasField 2 (tree item.value) fields

-- CommandPath: a list of 0 endpoint, 1 cluster, 2 command.
pub record CommandPathSpells (command : Place) (v : Tree) : Type 0 where
  pub fields : Elements
  pub form : v ≡ list fields
  pub endpoint : HasNumber 16 0 command.endpoint fields
  pub cluster : HasNumber 32 1 command.cluster fields
  pub leaf : HasNumber 32 2 command.leaf fields

-- CommandData: a structure of 0 path, [1 fields]. The fields may have any form; missing they are an empty
-- structure.
pub record CommandDataSpells (command : Place × Value) (v : Tree) : Type 0 where
  pub fields : Elements
  pub path : Tree
  pub form : v ≡ structure fields
  pub has_path : HasField 0 path fields
  pub is_path : CommandPathSpells command.0 path
  pub value : HasField 1 (tree command.1) fields ⊎ HasNo 1 fields × (tree command.1 ≡ structure none)

-- ---- messages

-- StatusResponse: 0 status.
pub record StatusSpells (code : ℕ) (fields : Elements) : Type 0 where
  pub status : HasNumber 8 0 code fields

-- ReadRequest: [0 attribute paths], [1 event paths], [2 event filters], 3 fabric filtered, [4 version filters].
-- The greatest minimum of the event filters counts.
pub record ReadSpells (paths events : List Path) (minimum : ℕ) (filtered : Bool) (versions : List Version) (fields : Elements) : Type 0 where
  pub minimums : List ℕ
  pub attribute_paths : MayHaveBlocks 0 AttributePathSpells paths fields
  pub event_paths : MayHaveBlocks 1 EventPathSpells events fields
  pub event_filters : MayHaveBlocks 2 EventFilterSpells minimums fields
  pub is_greatest : minimum ≡ greatest minimums
  pub fabric_filtered : HasTruth 3 filtered fields
  pub version_filters : MayHaveBlocks 4 VersionFilterSpells versions fields

-- SubscribeRequest: 0 keep, 1 floor, 2 ceiling, [3 attribute paths], [4 event paths], [5 event filters],
-- 7 fabric filtered, [8 version filters].
pub record SubscribeSpells (keep : Bool) (floor ceiling : ℕ) (paths events : List Path) (minimum : ℕ) (filtered : Bool) (versions : List Version) (fields : Elements) : Type 0 where
  pub minimums : List ℕ
  pub keep_subscriptions : HasTruth 0 keep fields
  pub min_interval_floor : HasNumber 16 1 floor fields
  pub max_interval_ceiling : HasNumber 16 2 ceiling fields
  pub attribute_paths : MayHaveBlocks 3 AttributePathSpells paths fields
  pub event_paths : MayHaveBlocks 4 EventPathSpells events fields
  pub event_filters : MayHaveBlocks 5 EventFilterSpells minimums fields
  pub is_greatest : minimum ≡ greatest minimums
  pub fabric_filtered : HasTruth 7 filtered fields
  pub version_filters : MayHaveBlocks 8 VersionFilterSpells versions fields

-- WriteRequest: [0 suppress], 1 timed, 2 writes, [3 more], which is false.
pub record WriteSpells (suppress timed : Bool) (items : List WriteItem) (fields : Elements) : Type 0 where
  pub suppress_response : MayHaveTruth 0 suppress fields
  pub timed_request : HasTruth 1 timed fields
  pub writes : HasBlocks 2 AttributeDataSpells items fields
  pub more_chunks : MayHaveTruth 3 false fields

-- InvokeRequest: 0 suppress, 1 timed, 2 requests, of which there is one.
pub record InvokeSpells (suppress timed : Bool) (command : Place) (arguments : Value) (fields : Elements) : Type 0 where
  pub suppress_response : HasTruth 0 suppress fields
  pub timed_request : HasTruth 1 timed fields
  pub invokes : HasBlocks 2 CommandDataSpells ((command, arguments) ∷ []) fields

-- TimedRequest: 0 ms.
pub record TimedSpells (ms : ℕ) (fields : Elements) : Type 0 where
  pub timeout : HasNumber 16 0 ms fields

-- the table of each message
abbrev pub FieldsSpell : Request → Elements → Type 0
FieldsSpell (requests.Status code) fields = StatusSpells code fields
FieldsSpell (requests.Read paths events minimum filtered versions) fields = ReadSpells paths events minimum filtered versions fields
FieldsSpell (requests.Subscribe keep floor ceiling paths events minimum filtered versions) fields = SubscribeSpells keep floor ceiling paths events minimum filtered versions fields
FieldsSpell (requests.Write suppress timed items) fields = WriteSpells suppress timed items fields
FieldsSpell (requests.Invoke suppress timed command arguments) fields = InvokeSpells suppress timed command arguments fields
FieldsSpell (requests.Timed ms) fields = TimedSpells ms fields

-- RequestSpells opcode request v: under this opcode the tree is a spelling of the request. Every message has
-- the revision, 255, which may be any unsigned number.
pub record RequestSpells (opcode : ℕ) (request : Request) (v : Tree) : Type 0 where
  pub fields : Elements
  pub number : ℕ
  pub form : v ≡ structure fields
  pub code : opcode ≡ opcode_of request
  pub table : FieldsSpell request fields
  pub revision : HasField 255 (uint number) fields
