-- What is written for a request whose numbers and values fit is within the limits of the encoding.
use Rattle.std.proofs.Common.{◌≡◌, sym, subst, ℕ, suc, ◌+◌, ◌^◌, ◌<◌, ◌≤◌, ◌==◌, Bool, true, false, List, [], ◌∷◌, ◌++◌, Option, Some, None, IfSome, All, refl, arith, lit<, lit≤}
use Rattle.std.proofs.lemmas.Bool.{eqb-true}
use Rattle.std.proofs.lemmas.List.Elements.{All-head, All-tail}
use Rattle.mt_tlv.specs.declared.value.Tag.{Tag}
use Rattle.mt_tlv.specs.declared.value.Tag.TheVariants.{Anonymous, Context}
use Rattle.mt_tlv.specs.declared.value.Value.{Value}
use Rattle.mt_tlv.specs.declared.reading.Kind.TheVariants as containers
use Rattle.mt_tlv.specs.Limits.{is_same_tag, is_tag_in, IsAllowed, AreAllowed, deepest}
use Rattle.mt_tlv.specs.Tree.{Tree, uint, bool, structure, array, Elements, none, more}
use Rattle.mt_tlv.specs.View.{tree}
use Rattle.mt_model.specs.Trees.{untagged}
use Rattle.mt_model.specs.messages.Blocks.{optional_number, index_field, path_tree, event_path_tree}
use Rattle.mt_model.specs.declared.messages.message.Index.{Index}
use Rattle.mt_model.specs.declared.messages.message.Index.TheVariants.{Whole, Append, At}
use Rattle.mt_model.specs.declared.messages.message.Path.{Path}
use Rattle.mt_model.specs.declared.messages.message.Request.{Request}
use Rattle.mt_model.specs.declared.messages.message.Request.TheVariants as requests
use Rattle.mt_model.specs.declared.messages.message.WriteItem.{WriteItem}
use Rattle.mt_model.specs.declared.rows.place.Place.{Place}
use Rattle.mt_model.specs.declared.node.state.Version.{Version}
use Rattle.mt_im.specs.Requests.{revision, optional_blocks, event_filter_tree, event_filters, cluster_path_tree, version_filter_tree, write_tree, command_path_tree, command_tree, request_fields, request_tree}
use Rattle.mt_im.specs.Limits.{IsIndex, IsPath, IsEventPath, IsVersion, IsWriteItem, IsCommand, Fits, room_inside}
use Rattle.mt_im.proofs.Written.{filters_fit}

-- ---- the fields of a structure ascend, so that no two have one tag

-- The tags are context tags below this number.
AreBelow : ℕ → List Tag → Type 0
AreBelow n [] = Unit {0}
AreBelow n (t ∷ ts) = ((k : ℕ) × (t ≡ Context k) × (k < n)) × AreBelow n ts

below_higher : (n m : ℕ) (tags : List Tag) → n ≤ m → AreBelow n tags → AreBelow m tags
unfolding AreBelow
below_higher n m [] le h = tt
below_higher n m (t ∷ ts) le h = ((h.0.0, h.0.1, omega (arith, h.0.2)), below_higher n m ts le h.1)

below_one_more : (n : ℕ) (tags : List Tag) → AreBelow n tags → AreBelow (n + 1) (tags ++ Context n ∷ [])
unfolding AreBelow
below_one_more n [] h = ((n, refl, omega arith), tt)
below_one_more n (t ∷ ts) h = ((h.0.0, h.0.1, omega (arith, h.0.2)), below_one_more n ts h.1)

not_same : (k n : ℕ) (b : Bool) → k == n ≡ b → k < n → k == n ≡ false
not_same k n true e h = let same : k ≡ n = eqb-true k n e in absurd (omega arith)
not_same k n false e h = e

fresh : (n : ℕ) (tags : List Tag) → AreBelow n tags → is_tag_in (Context n) tags ≡ false
unfolding AreBelow
fresh n [] h = refl
fresh n (t ∷ ts) h =
    let e : is_same_tag (Context h.0.0) (Context n) ≡ false = not_same h.0.0 n (h.0.0 == n) refl h.0.2 in
    let d : is_same_tag t (Context n) ≡ false = subst (λ (s : Tag). is_same_tag s (Context n) ≡ false) (sym h.0.1) e in
    rw d (fresh n ts h.1)

-- Behind fields of lower tags than n these may stand.
Follow : ℕ → ℕ → Elements → Type 0
Follow room n es = (tags : List Tag) → AreBelow n tags → AreAllowed es containers.Struct tags room

follow_lower : (room n m : ℕ) (es : Elements) → m ≤ n → Follow room n es → Follow room m es
unfolding Follow
follow_lower room n m es le h = λ tags below. h tags (below_higher m n tags le below)

follow_none : (room n : ℕ) → Follow room n none
unfolding Follow
follow_none room n = λ tags below. tt

follow_field : (room n : ℕ) (v : Tree) (es : Elements) → n < 2 ^ 8 → IsAllowed v room → Follow room (n + 1) es → Follow room n (more (Context n) v es)
unfolding Follow
follow_field room n v es fits allowed rest = λ tags below.
    (fits, (refl, fresh n tags below), allowed, rest (tags ++ Context n ∷ []) (below_one_more n tags below))

follow_number : (room n : ℕ) (o : Option ℕ) (es : Elements) → n < 2 ^ 8 → IfSome o (λ k. k < 2 ^ 64) → Follow room (n + 1) es → Follow room n (optional_number n o es)
follow_number room n None es fits h rest = follow_lower room (n + 1) n es (omega arith) rest
follow_number room n (Some k) es fits h rest = follow_field room n (uint k) es fits h rest

are_blocks_allowed : {X : Type 0} (room : ℕ) (P : X → Type 0) (block : X → Tree) → ((x : X) → P x → IsAllowed (block x) room) → (xs : List X) (tags : List Tag) → All P xs → AreAllowed (untagged block xs) containers.Array tags room
are_blocks_allowed room P block each [] tags h = tt
are_blocks_allowed room P block each (x ∷ xs) tags h = (tt, refl, each x (All-head P x xs h), are_blocks_allowed room P block each xs (tags ++ Anonymous ∷ []) (All-tail P x xs h))

follow_blocks : {X : Type 0} (room n : ℕ) (P : X → Type 0) (block : X → Tree) → ((x : X) → P x → IsAllowed (block x) room) → (xs : List X) (es : Elements) → n < 2 ^ 8 → All P xs → Follow (suc room) (n + 1) es
    → Follow (suc room) n (optional_blocks n block xs es)
follow_blocks room n P block each [] es fits h rest = follow_lower (suc room) (n + 1) n es (omega arith) rest
follow_blocks room n P block each (x ∷ xs) es fits h rest = follow_field (suc room) n (array (untagged block (x ∷ xs))) es fits (are_blocks_allowed room P block each (x ∷ xs) [] h) rest

begins : (room n : ℕ) (es : Elements) → Follow room n es → IsAllowed (structure es) (suc room)
unfolding Follow AreBelow
begins room n es h = h [] tt

follow_revision : (room : ℕ) → Follow room 255 revision
follow_revision room = follow_field room 255 (uint 1) none (lit< tt) (lit< tt) (follow_none room (255 + 1))

-- ---- lists may have any tags

list_number : (room n : ℕ) (o : Option ℕ) (es : Elements) (tags : List Tag) → n < 2 ^ 8 → IfSome o (λ k. k < 2 ^ 64) → ((ts : List Tag) → AreAllowed es containers.List ts room) → AreAllowed (optional_number n o es) containers.List tags room
list_number room n None es tags fits h rest = rest tags
list_number room n (Some k) es tags fits h rest = (fits, tt, h, rest (tags ++ Context n ∷ []))

wider : (bits : ℕ) (o : Option ℕ) → 2 ^ bits ≤ 2 ^ 64 → IfSome o (λ k. k < 2 ^ bits) → IfSome o (λ k. k < 2 ^ 64)
wider bits None le h = tt
wider bits (Some k) le h = omega arith

short : (k : ℕ) → k < 2 ^ 16 → k < 2 ^ 64
short k h = omega arith

long : (k : ℕ) → k < 2 ^ 32 → k < 2 ^ 64
long k h = omega arith

index_allowed : (room : ℕ) (i : Index) (tags : List Tag) → IsIndex i → AreAllowed (index_field i) containers.List tags room
index_allowed room Whole tags h = tt
index_allowed room Append tags h = (lit< tt, tt, tt, tt)
index_allowed room (At k) tags h = (lit< tt, tt, short k h, tt)

path_allowed : (room : ℕ) (path : Path) → IsPath path → IsAllowed (path_tree path) (suc room)
path_allowed room path h =
    list_number room 2 path.endpoint _ [] (lit< tt) (wider 16 path.endpoint (lit≤ tt) h.endpoint) (λ ts2.
    list_number room 3 path.cluster _ ts2 (lit< tt) (wider 32 path.cluster (lit≤ tt) h.cluster) (λ ts3.
    list_number room 4 path.leaf _ ts3 (lit< tt) (wider 32 path.leaf (lit≤ tt) h.leaf) (λ ts4. index_allowed room path.index ts4 h.index)))

event_path_allowed : (path : Path) → IsEventPath path → IsAllowed (event_path_tree path) 14
event_path_allowed path h =
    list_number 13 1 path.endpoint _ [] (lit< tt) (wider 16 path.endpoint (lit≤ tt) h.fits.endpoint) (λ ts2.
    list_number 13 2 path.cluster _ ts2 (lit< tt) (wider 32 path.cluster (lit≤ tt) h.fits.cluster) (λ ts3.
    list_number 13 3 path.leaf _ ts3 (lit< tt) (wider 32 path.leaf (lit≤ tt) h.fits.leaf) (λ ts4. tt)))

event_filter_allowed : (minimum : ℕ) → minimum < 2 ^ 64 → IsAllowed (event_filter_tree minimum) 14
event_filter_allowed minimum h = begins 13 0 _ (follow_lower 13 1 0 _ (omega arith) (follow_field 13 1 (uint minimum) none (lit< tt) h (follow_none 13 (1 + 1))))

cluster_path_allowed : (known : Version) → IsVersion known → IsAllowed (cluster_path_tree known) 13
cluster_path_allowed known h = (lit< tt, tt, short known.endpoint h.endpoint, (lit< tt, tt, long known.cluster h.cluster, tt))

version_allowed : (known : Version) → IsVersion known → IsAllowed (version_filter_tree known) 14
version_allowed known h =
    begins 13 0 _ (follow_field 13 0 (cluster_path_tree known) _ (lit< tt) (cluster_path_allowed known h)
    (follow_field 13 1 (uint known.version) none (lit< tt) (long known.version h.version) (follow_none 13 (1 + 1))))

item_allowed : (item : WriteItem) → IsWriteItem item → IsAllowed (write_tree item) 14
item_allowed item h =
    begins 13 0 _ (follow_number 13 0 item.version _ (lit< tt) (wider 32 item.version (lit≤ tt) h.version)
    (follow_field 13 1 (path_tree item.path) _ (lit< tt) (path_allowed 12 item.path h.fits)
    (follow_field 13 2 (tree item.value) none (lit< tt) h.value (follow_none 13 (2 + 1)))))

command_path_allowed : (command : Place) → IsCommand command → IsAllowed (command_path_tree command) 13
command_path_allowed command h =
    (lit< tt, tt, short command.endpoint h.endpoint, (lit< tt, tt, long command.cluster h.cluster, (lit< tt, tt, long command.leaf h.leaf, tt)))

command_allowed : (command : Place) (fields : Value) → IsCommand command → IsAllowed (tree fields) room_inside → IsAllowed (command_tree command fields) 14
command_allowed command fields h value =
    begins 13 0 _ (follow_field 13 0 (command_path_tree command) _ (lit< tt) (command_path_allowed command h)
    (follow_field 13 1 (tree fields) none (lit< tt) value (follow_none 13 (1 + 1))))

-- ---- messages

revision_from : (n : ℕ) → n ≤ 255 → Follow 15 n revision
revision_from n le = follow_lower 15 255 n revision le (follow_revision 15)

-- the fields of a message may stand in it
message_allowed : (request : Request) → Fits request → Follow 15 0 (request_fields request)
message_allowed (requests.Status code) h = follow_field 15 0 (uint code) revision (lit< tt) (omega arith) (revision_from (0 + 1) (lit≤ tt))
message_allowed (requests.Read paths events minimum filtered versions) h =
    follow_blocks 14 0 IsPath path_tree (path_allowed 13) paths _ (lit< tt) h.are_paths
    (follow_blocks 14 1 IsEventPath event_path_tree event_path_allowed events _ (lit< tt) h.are_events
    (follow_blocks 14 2 (λ n. n < 2 ^ 64) event_filter_tree event_filter_allowed (event_filters minimum) _ (lit< tt) (filters_fit minimum (minimum == 0) h.minimum_fits)
    (follow_field 15 3 (bool filtered) _ (lit< tt) tt
    (follow_blocks 14 4 IsVersion version_filter_tree version_allowed versions revision (lit< tt) h.are_versions (revision_from (4 + 1) (lit≤ tt))))))
message_allowed (requests.Subscribe keep floor ceiling paths events minimum filtered versions) h =
    follow_field 15 0 (bool keep) _ (lit< tt) tt
    (follow_field 15 1 (uint floor) _ (lit< tt) (short floor h.0)
    (follow_field 15 2 (uint ceiling) _ (lit< tt) (short ceiling h.1)
    (follow_blocks 14 3 IsPath path_tree (path_allowed 13) paths _ (lit< tt) h.2.are_paths
    (follow_blocks 14 4 IsEventPath event_path_tree event_path_allowed events _ (lit< tt) h.2.are_events
    (follow_blocks 14 5 (λ n. n < 2 ^ 64) event_filter_tree event_filter_allowed (event_filters minimum) _ (lit< tt) (filters_fit minimum (minimum == 0) h.2.minimum_fits)
    (follow_lower 15 7 6 _ (lit≤ tt) (follow_field 15 7 (bool filtered) _ (lit< tt) tt
    (follow_blocks 14 8 IsVersion version_filter_tree version_allowed versions revision (lit< tt) h.2.are_versions (revision_from (8 + 1) (lit≤ tt))))))))))
message_allowed (requests.Write suppress timed items) h =
    follow_field 15 0 (bool suppress) _ (lit< tt) tt
    (follow_field 15 1 (bool timed) _ (lit< tt) tt
    (follow_field 15 2 (array (untagged write_tree items)) revision (lit< tt) (are_blocks_allowed 14 IsWriteItem write_tree item_allowed items [] h) (revision_from (2 + 1) (lit≤ tt))))
message_allowed (requests.Invoke suppress timed command fields) h =
    follow_field 15 0 (bool suppress) _ (lit< tt) tt
    (follow_field 15 1 (bool timed) _ (lit< tt) tt
    (follow_field 15 2 (array (more Anonymous (command_tree command fields) none)) revision (lit< tt) (tt, refl, command_allowed command fields h.0 h.1, tt) (revision_from (2 + 1) (lit≤ tt))))
message_allowed (requests.Timed ms) h = follow_field 15 0 (uint ms) revision (lit< tt) (short ms h) (revision_from (0 + 1) (lit≤ tt))

-- what is written for a request is within the limits of the encoding
pub request_allowed : (request : Request) → Fits request → IsAllowed (request_tree request) deepest
request_allowed request h = begins 15 0 (request_fields request) (message_allowed request h)
