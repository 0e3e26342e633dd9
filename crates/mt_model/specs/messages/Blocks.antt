-- The blocks of messages that the items of an answer are encoded as, as TLV trees (Matter Core
-- Specification, chapter 10, Interaction Model Encoding). Fields stand by ascending tag.
use Rattle.std.specs.Prelude.{ℕ, Bool, true, false, List, Option, Some, None}
use Rattle.mt_tlv.specs.Narrow.{narrow}
use Rattle.mt_tlv.specs.Tree.{Tree, uint, null, structure, list, Elements, none, more}
use Rattle.mt_tlv.specs.View.{tree}
use Rattle.mt_tlv.specs.declared.value.Tag.TheVariants.{Anonymous, Context}
use Rattle.mt_tlv.specs.declared.value.Value.{Value}
use Rattle.mt_model.specs.declared.messages.message.Happened.{Happened}
use Rattle.mt_model.specs.declared.messages.message.Index.{Index}
use Rattle.mt_model.specs.declared.messages.message.Index.TheVariants.{Whole, Append, At}
use Rattle.mt_model.specs.declared.messages.message.Item.{Item}
use Rattle.mt_model.specs.declared.messages.message.Item.TheVariants as items
use Rattle.mt_model.specs.declared.messages.message.Path.{Path}
use Rattle.mt_model.specs.declared.rows.place.Place.{Place}

-- a number under a context tag, left out where it is None
abbrev pub optional_number : ℕ → Option ℕ → Elements → Elements
optional_number tag None others = others
optional_number tag (Some n) others = more (Context tag) (uint n) others

-- the list index of a path
abbrev pub index_field : Index → Elements
index_field Whole = none
index_field Append = more (Context 5) null none
index_field (At n) = more (Context 5) (uint n) none

-- AttributePath: 2 endpoint, 3 cluster, 4 attribute, 5 list index
abbrev pub path_tree : Path → Tree
path_tree path = list (optional_number 2 path.endpoint (optional_number 3 path.cluster (optional_number 4 path.leaf (index_field path.index))))

-- EventPath: 1 endpoint, 2 cluster, 3 event
abbrev pub event_path_tree : Path → Tree
event_path_tree path = list (optional_number 1 path.endpoint (optional_number 2 path.cluster (optional_number 3 path.leaf none)))

-- the path that names a place as a whole
abbrev pub path_of : Place → Path
path_of place = record { endpoint = Some place.endpoint; cluster = Some place.cluster; leaf = Some place.leaf; index = Whole }

-- the place that a path without a wildcard names
abbrev pub place_in : Option ℕ → Option ℕ → Option ℕ → Option Place
place_in (Some endpoint) (Some cluster) (Some leaf) = Some (record { endpoint = endpoint; cluster = cluster; leaf = leaf })
place_in _ _ _ = None

abbrev pub place_named : Path → Option Place
place_named path = place_in path.endpoint path.cluster path.leaf

-- whether a path names a single item of a list
abbrev pub is_numbered : Index → Bool
is_numbered Whole = false
is_numbered Append = false
is_numbered (At n) = true

abbrev pub names_item : Path → Bool
names_item path = is_numbered path.index

-- Status: 0 code
abbrev pub status_tree : ℕ → Tree
status_tree code = structure (more (Context 0) (uint code) none)

-- AttributeStatus and EventStatus: 0 path, 1 Status
abbrev pub refused_tree : Tree → ℕ → Tree
refused_tree path code = structure (more (Context 0) path (more (Context 1) (status_tree code) none))

-- AttributeData: 0 data version, 1 path, 2 value
abbrev pub data_tree : Path → ℕ → Value → Tree
data_tree path version value = structure (more (Context 0) (uint version) (more (Context 1) (path_tree path) (more (Context 2) (tree value) none)))

-- EventData: 0 path, 1 number, 2 priority, 4 system time, 7 value
abbrev pub event_tree : Happened → Tree
event_tree e = structure (more (Context 0) (event_path_tree (path_of e.place)) (more (Context 1) (uint e.number) (more (Context 2) (uint e.priority) (more (Context 4) (uint e.at) (more (Context 7) (tree e.value) none)))))

-- AttributeReport and EventReport: 0 the status, or 1 the data
abbrev pub item_tree : Item → Tree
item_tree (items.Attribute path version value) = structure (more (Context 1) (data_tree path version value) none)
item_tree (items.Refused path code) = structure (more (Context 0) (refused_tree (path_tree path) code) none)
item_tree (items.Event e) = structure (more (Context 1) (event_tree e) none)
item_tree (items.EventRefused path code) = structure (more (Context 0) (refused_tree (event_path_tree path) code) none)

-- an item as it stands in a list of reports
abbrev pub item_block : Item → List ℕ
item_block item = narrow Anonymous (item_tree item)
