-- The messages of the interaction model that answer, as TLV trees (Matter Core Specification, chapter
-- 10, Interaction Model Encoding). Fields stand by ascending tag; the last of each is the revision.
use Rattle.std.specs.Prelude.{ℕ, Bool, true, false, Option, List, [], ◌∷◌}
use Rattle.mt_tlv.specs.declared.value.Tag.TheVariants.{Anonymous, Context}
use Rattle.mt_tlv.specs.Tree.{Tree, uint, bool, structure, array, Elements, none, more}
use Rattle.mt_model.specs.declared.messages.message.Item.{Item}
use Rattle.mt_model.specs.declared.messages.message.Item.TheVariants.{Refused}
use Rattle.mt_model.specs.declared.rows.place.Place.{Place}
use Rattle.mt_model.specs.messages.Blocks.{optional_number, path_tree, refused_tree, item_tree}
use Rattle.mt_im.specs.Requests.{revision, optional_blocks, command_path_tree}

-- StatusResponse: 0 status
abbrev pub status_response_tree : ℕ → Tree
status_response_tree code = structure (more (Context 0) (uint code) revision)

-- SubscribeResponse: 0 the subscription, 2 the greatest interval between reports, in seconds
abbrev pub subscribe_response_tree : ℕ → ℕ → Tree
subscribe_response_tree id ceiling = structure (more (Context 0) (uint id) (more (Context 2) (uint ceiling) revision))

-- the statuses among items, one after the other
abbrev pub status_elements : List Item → Elements
status_elements [] = none
status_elements (Refused path code ∷ items) = more Anonymous (refused_tree (path_tree path) code) (status_elements items)
status_elements (item ∷ items) = status_elements items

-- WriteResponse: 0 statuses
abbrev pub write_response_tree : List Item → Tree
write_response_tree items = structure (more (Context 0) (array (status_elements items)) revision)

-- CommandStatus: 0 path, 1 Status
abbrev pub command_status_tree : Place → ℕ → Tree
command_status_tree command code = refused_tree (command_path_tree command) code

-- Status with a code of the cluster's own: 0 code, 1 cluster code
abbrev pub cluster_status_tree : ℕ → ℕ → Tree
cluster_status_tree code reason = structure (more (Context 0) (uint code) (more (Context 1) (uint reason) none))

-- CommandStatus with such a Status
abbrev pub command_failure_tree : Place → ℕ → ℕ → Tree
command_failure_tree command code reason = structure (more (Context 0) (command_path_tree command) (more (Context 1) (cluster_status_tree code reason) none))

-- InvokeResponse of one block: 0 whether no answer is wanted, which is false, 1 responses, of which each is
-- a structure with 0 CommandData or 1 CommandStatus
abbrev pub invoke_response_tree : ℕ → Tree → Tree
invoke_response_tree tag answer = structure (more (Context 0) (bool false) (more (Context 1) (array (more Anonymous (structure (more (Context tag) answer none)) none)) revision))

-- a truth value under a context tag, left out where it is false
abbrev pub optional_truth : ℕ → Bool → Elements → Elements
optional_truth tag true others = more (Context tag) (bool true) others
optional_truth tag false others = others

-- ReportData: 0 subscription, 1 attribute reports, 2 event reports, 3 whether more follows, 4 whether no
-- confirmation is wanted
abbrev pub report_tree : Option ℕ → List Item → List Item → Bool → Bool → Tree
report_tree subscription attributes events follows suppress = structure (optional_number 0 subscription (optional_blocks 1 item_tree attributes (optional_blocks 2 item_tree events (optional_truth 3 follows (optional_truth 4 suppress revision)))))
