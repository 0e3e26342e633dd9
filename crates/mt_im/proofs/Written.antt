-- What is written for a request spells it.
use Rattle.std.proofs.Common.{◌≡◌, ◌≢◌, ℕ, ◌^◌, ◌<◌, ◌==◌, Bool, true, false, List, [], ◌∷◌, Option, Some, None, IfSome, All, inl, inr, refl, arith, if◌then◌else◌}
use Rattle.std.proofs.lemmas.Bool.{eq-eqb, eqb-true}
use Rattle.std.proofs.lemmas.List.Elements.{All-nil, All-cons, All-head, All-tail}
use Rattle.mt_tlv.specs.declared.value.Tag.TheVariants.{Anonymous, Context}
use Rattle.mt_tlv.specs.declared.value.Value.{Value}
use Rattle.mt_tlv.specs.Tree.{Tree, uint, bool, null, array, Elements, none, more}
use Rattle.mt_tlv.specs.View.{tree}
use Rattle.mt_model.specs.Trees.{untagged}
use Rattle.mt_model.specs.messages.Blocks.{optional_number, index_field, path_tree, event_path_tree}
use Rattle.mt_model.specs.declared.messages.message.Index.{Index}
use Rattle.mt_model.specs.declared.messages.message.Index.TheVariants.{Whole, Append, At}
use Rattle.mt_model.specs.declared.messages.message.Path.{Path}
use Rattle.mt_model.specs.declared.messages.message.Request.{Request}
use Rattle.mt_model.specs.declared.messages.message.Request.TheVariants as requests
use Rattle.mt_model.specs.declared.messages.message.WriteItem.{WriteItem}
use Rattle.mt_model.specs.declared.rows.place.Place.{Place}
use Rattle.mt_model.specs.declared.node.state.Version.{Version}
use Rattle.mt_im.specs.Fields.{greatest, HasNo, HasField, MayHaveNumber, MayHaveTruth, AreBlocks, MayHaveBlocks}
use Rattle.mt_im.specs.Requests.{opcode_of, revision, optional_blocks, event_filter_tree, event_filters, cluster_path_tree, version_filter_tree, write_tree, command_path_tree, command_tree, request_fields, request_tree}
use Rattle.mt_im.specs.Spelling.{IndexSpells, AttributePathSpells, EventPathSpells, EventFilterSpells, VersionFilterSpells, AttributeDataSpells, CommandDataSpells, FieldsSpell, RequestSpells}
use Rattle.mt_im.specs.Limits.{IsIndex, IsPath, IsEventPath, IsVersion, IsWriteItem, IsCommand, IsSelection, Fits}

-- ---- members that stand in front of a field

other_context : (k n : ℕ) → k == n ≡ false → Context k ≢ Context n
other_context k n h e = let same : k ≡ n = cc in let t : k == n ≡ true = eq-eqb k n same in cc

-- A front that has no field of this number.
record Passes (n : ℕ) (front : Elements → Elements) : Type 0 where
  field : (v : Tree) (es : Elements) → HasField n v es → HasField n v (front es)
  missing : (es : Elements) → HasNo n es → HasNo n (front es)

past_field : (n k : ℕ) (v : Tree) → k == n ≡ false → Passes n (more (Context k) v)
past_field n k v h = record {
  field = λ w es f. inr (other_context k n h, f);
  missing = λ es f. (other_context k n h, f);
}

past_number : (n k : ℕ) (o : Option ℕ) → k == n ≡ false → Passes n (optional_number k o)
past_number n k None h = record { field = λ w es f. f; missing = λ es f. f }
past_number n k (Some number) h = past_field n k (uint number) h

past_blocks : {X : Type 0} (n k : ℕ) (block : X → Tree) (xs : List X) → k == n ≡ false → Passes n (optional_blocks k block xs)
past_blocks n k block [] h = record { field = λ w es f. f; missing = λ es f. f }
past_blocks n k block (x ∷ xs) h = past_field n k (array (untagged block (x ∷ xs))) h

past : (n : ℕ) (f g : Elements → Elements) → Passes n f → Passes n g → Passes n (λ es. f (g es))
past n f g p q = record {
  field = λ v es h. p.field v (g es) (q.field v es h);
  missing = λ es h. p.missing (g es) (q.missing es h);
}

-- a field that may be missing, behind such a front
may_number : (bits n : ℕ) (o : Option ℕ) (front : Elements → Elements) (es : Elements) → Passes n front → MayHaveNumber bits n o es → MayHaveNumber bits n o (front es)
may_number bits n None front es p h = p.missing es h
may_number bits n (Some k) front es p h = (p.field (uint k) es h.0, h.1)

may_blocks : {X : Type 0} (n : ℕ) (Spells : X → Tree → Type 0) (xs : List X) (front : Elements → Elements) (es : Elements) → Passes n front → MayHaveBlocks n Spells xs es → MayHaveBlocks n Spells xs (front es)
may_blocks n Spells xs front es p (inl h) = inl (h.0, p.field (array h.0) es h.1, h.2)
may_blocks n Spells xs front es p (inr h) = inr (p.missing es h.0, h.1)

-- ---- fields where they are written

field_written : (n : ℕ) (v : Tree) (es : Elements) → HasField n v (more (Context n) v es)
field_written n v es = inl (refl, refl)

number_written : (bits n : ℕ) (o : Option ℕ) (es : Elements) → IfSome o (λ k. k < 2 ^ bits) → HasNo n es → MayHaveNumber bits n o (optional_number n o es)
number_written bits n None es h free = free
number_written bits n (Some k) es h free = (field_written n (uint k) es, h)

are_written : {X : Type 0} (P : X → Type 0) (block : X → Tree) (Spells : X → Tree → Type 0) → ((x : X) → P x → Spells x (block x)) → (xs : List X) → All P xs → AreBlocks Spells xs (untagged block xs)
are_written P block Spells each [] h = tt
are_written P block Spells each (x ∷ xs) h = (each x (All-head P x xs h), are_written P block Spells each xs (All-tail P x xs h))

blocks_written : {X : Type 0} (n : ℕ) (P : X → Type 0) (block : X → Tree) (Spells : X → Tree → Type 0) → ((x : X) → P x → Spells x (block x)) → (xs : List X) (es : Elements) → All P xs → HasNo n es
    → MayHaveBlocks n Spells xs (optional_blocks n block xs es)
blocks_written n P block Spells each [] es h free = inr (free, refl)
blocks_written n P block Spells each (x ∷ xs) es h free = inl (untagged block (x ∷ xs), field_written n (array (untagged block (x ∷ xs))) es, are_written P block Spells each (x ∷ xs) h)

-- the revision alone has no other field
revision_free : (n : ℕ) → 255 == n ≡ false → HasNo n revision
revision_free n h = (other_context 255 n h, tt)

-- ---- blocks

index_free : (n : ℕ) (i : Index) → 5 == n ≡ false → HasNo n (index_field i)
index_free n Whole h = tt
index_free n Append h = (other_context 5 n h, tt)
index_free n (At k) h = (other_context 5 n h, tt)

index_written : (i : Index) → IsIndex i → IndexSpells i (index_field i)
index_written Whole h = tt
index_written Append h = field_written 5 null none
index_written (At k) h = (field_written 5 (uint k) none, h)

index_behind : (i : Index) (front : Elements → Elements) (es : Elements) → Passes 5 front → IndexSpells i es → IndexSpells i (front es)
index_behind Whole front es p h = p.missing es h
index_behind Append front es p h = p.field null es h
index_behind (At k) front es p h = (p.field (uint k) es h.0, h.1)

path_written : (path : Path) → IsPath path → AttributePathSpells path (path_tree path)
path_written path h =
    let end = index_field path.index in
    let leaf = optional_number 4 path.leaf end in
    let cluster = optional_number 3 path.cluster leaf in
    record {
      fields = optional_number 2 path.endpoint cluster;
      form = refl;
      compression = inr ((past_number 0 2 path.endpoint refl).missing cluster ((past_number 0 3 path.cluster refl).missing leaf ((past_number 0 4 path.leaf refl).missing end (index_free 0 path.index refl))));
      endpoint = number_written 16 2 path.endpoint cluster h.endpoint ((past_number 2 3 path.cluster refl).missing leaf ((past_number 2 4 path.leaf refl).missing end (index_free 2 path.index refl)));
      cluster = may_number 32 3 path.cluster (optional_number 2 path.endpoint) cluster (past_number 3 2 path.endpoint refl)
          (number_written 32 3 path.cluster leaf h.cluster ((past_number 3 4 path.leaf refl).missing end (index_free 3 path.index refl)));
      attribute = may_number 32 4 path.leaf (optional_number 2 path.endpoint) cluster (past_number 4 2 path.endpoint refl)
          (may_number 32 4 path.leaf (optional_number 3 path.cluster) leaf (past_number 4 3 path.cluster refl) (number_written 32 4 path.leaf end h.leaf (index_free 4 path.index refl)));
      index = index_behind path.index (optional_number 2 path.endpoint) cluster (past_number 5 2 path.endpoint refl)
          (index_behind path.index (optional_number 3 path.cluster) leaf (past_number 5 3 path.cluster refl)
          (index_behind path.index (optional_number 4 path.leaf) end (past_number 5 4 path.leaf refl) (index_written path.index h.index)));
    }

event_path_written : (path : Path) → IsEventPath path → EventPathSpells path (event_path_tree path)
event_path_written path h =
    let leaf = optional_number 3 path.leaf none in
    let cluster = optional_number 2 path.cluster leaf in
    record {
      fields = optional_number 1 path.endpoint cluster;
      form = refl;
      endpoint = number_written 16 1 path.endpoint cluster h.fits.endpoint ((past_number 1 2 path.cluster refl).missing leaf ((past_number 1 3 path.leaf refl).missing none tt));
      cluster = may_number 32 2 path.cluster (optional_number 1 path.endpoint) cluster (past_number 2 1 path.endpoint refl)
          (number_written 32 2 path.cluster leaf h.fits.cluster ((past_number 2 3 path.leaf refl).missing none tt));
      event = may_number 32 3 path.leaf (optional_number 1 path.endpoint) cluster (past_number 3 1 path.endpoint refl)
          (may_number 32 3 path.leaf (optional_number 2 path.cluster) leaf (past_number 3 2 path.cluster refl) (number_written 32 3 path.leaf none h.fits.leaf tt));
      index = h.index;
    }

event_filter_written : (minimum : ℕ) → minimum < 2 ^ 64 → EventFilterSpells minimum (event_filter_tree minimum)
event_filter_written minimum h = record { fields = more (Context 1) (uint minimum) none; form = refl; least = field_written 1 (uint minimum) none }

version_written : (known : Version) → IsVersion known → VersionFilterSpells known (version_filter_tree known)
version_written known h =
    let cluster = more (Context 2) (uint known.cluster) none in
    let version = more (Context 1) (uint known.version) none in
    record {
      fields = more (Context 0) (cluster_path_tree known) version;
      path = cluster_path_tree known;
      form = refl;
      has_path = field_written 0 (cluster_path_tree known) version;
      is_path = record {
        fields = more (Context 1) (uint known.endpoint) cluster;
        form = refl;
        endpoint = (field_written 1 (uint known.endpoint) cluster, h.endpoint);
        cluster = ((past_field 2 1 (uint known.endpoint) refl).field (uint known.cluster) cluster (field_written 2 (uint known.cluster) none), h.cluster);
      };
      version = ((past_field 1 0 (cluster_path_tree known) refl).field (uint known.version) version (field_written 1 (uint known.version) none), h.version);
    }

item_written : (item : WriteItem) → IsWriteItem item → AttributeDataSpells item (write_tree item)
item_written item h =
    let value = more (Context 2) (tree item.value) none in
    let path = more (Context 1) (path_tree item.path) value in
    record {
      fields = optional_number 0 item.version path;
      path = path_tree item.path;
      form = refl;
      version = number_written 32 0 item.version path h.version ((past_field 0 1 (path_tree item.path) refl).missing value ((past_field 0 2 (tree item.value) refl).missing none tt));
      has_path = (past_number 1 0 item.version refl).field (path_tree item.path) path (field_written 1 (path_tree item.path) value);
      is_path = path_written item.path h.fits;
      concrete = h.concrete;
      value = (past_number 2 0 item.version refl).field (tree item.value) path ((past_field 2 1 (path_tree item.path) refl).field (tree item.value) value (field_written 2 (tree item.value) none));
    }

command_written : (command : Place) (fields : Value) → IsCommand command → CommandDataSpells (command, fields) (command_tree command fields)
command_written command fields h =
    let leaf = more (Context 2) (uint command.leaf) none in
    let cluster = more (Context 1) (uint command.cluster) leaf in
    let value = more (Context 1) (tree fields) none in
    record {
      fields = more (Context 0) (command_path_tree command) value;
      path = command_path_tree command;
      form = refl;
      has_path = field_written 0 (command_path_tree command) value;
      is_path = record {
        fields = more (Context 0) (uint command.endpoint) cluster;
        form = refl;
        endpoint = (field_written 0 (uint command.endpoint) cluster, h.endpoint);
        cluster = ((past_field 1 0 (uint command.endpoint) refl).field (uint command.cluster) cluster (field_written 1 (uint command.cluster) leaf), h.cluster);
        leaf = ((past_field 2 0 (uint command.endpoint) refl).field (uint command.leaf) cluster ((past_field 2 1 (uint command.cluster) refl).field (uint command.leaf) leaf (field_written 2 (uint command.leaf) none)), h.leaf);
      };
      value = inl ((past_field 1 0 (command_path_tree command) refl).field (tree fields) value (field_written 1 (tree fields) none));
    }

-- ---- messages

-- the minimum is the greatest of the filters that are written for it
minimum_step : (minimum : ℕ) (b : Bool) → minimum == 0 ≡ b → minimum ≡ greatest (if b then [] else minimum ∷ [])
minimum_step minimum true e = eqb-true minimum 0 e
minimum_step minimum false e = omega arith

pub filters_fit : (minimum : ℕ) (b : Bool) → minimum < 2 ^ 64 → All (λ n. n < 2 ^ 64) (if b then [] else minimum ∷ [])
filters_fit minimum true h = All-nil (λ n. n < 2 ^ 64)
filters_fit minimum false h = All-cons (λ n. n < 2 ^ 64) minimum [] h (All-nil (λ n. n < 2 ^ 64))

truth_written : (n : ℕ) (b : Bool) (es : Elements) → MayHaveTruth n b (more (Context n) (bool b) es)
truth_written n true es = field_written n (bool true) es
truth_written n false es = inl (field_written n (bool false) es)

read_written : (paths events : List Path) (minimum : ℕ) (filtered : Bool) (versions : List Version) → IsSelection paths events minimum versions
    → FieldsSpell (requests.Read paths events minimum filtered versions) (request_fields (requests.Read paths events minimum filtered versions))
read_written paths events minimum filtered versions h =
    let versions_ : Elements = optional_blocks 4 version_filter_tree versions revision in
    let filtered_ : Elements = more (Context 3) (bool filtered) versions_ in
    let filters_ : Elements = optional_blocks 2 event_filter_tree (event_filters minimum) filtered_ in
    let events_ : Elements = optional_blocks 1 event_path_tree events filters_ in
    record {
      minimums = event_filters minimum;
      attribute_paths = (blocks_written 0 IsPath path_tree AttributePathSpells path_written paths events_ h.are_paths
          ((past_blocks 0 1 event_path_tree events refl).missing filters_
          ((past_blocks 0 2 event_filter_tree (event_filters minimum) refl).missing filtered_
          ((past_field 0 3 (bool filtered) refl).missing versions_
          ((past_blocks 0 4 version_filter_tree versions refl).missing revision (revision_free 0 refl))))));
      event_paths = (may_blocks 1 EventPathSpells events (optional_blocks 0 path_tree paths) events_ (past_blocks 1 0 path_tree paths refl)
          (blocks_written 1 IsEventPath event_path_tree EventPathSpells event_path_written events filters_ h.are_events
          ((past_blocks 1 2 event_filter_tree (event_filters minimum) refl).missing filtered_
          ((past_field 1 3 (bool filtered) refl).missing versions_
          ((past_blocks 1 4 version_filter_tree versions refl).missing revision (revision_free 1 refl))))));
      event_filters = (may_blocks 2 EventFilterSpells (event_filters minimum) (optional_blocks 0 path_tree paths) events_ (past_blocks 2 0 path_tree paths refl)
          (may_blocks 2 EventFilterSpells (event_filters minimum) (optional_blocks 1 event_path_tree events) filters_ (past_blocks 2 1 event_path_tree events refl)
          (blocks_written 2 (λ n. n < 2 ^ 64) event_filter_tree EventFilterSpells event_filter_written (event_filters minimum) filtered_ (filters_fit minimum (minimum == 0) h.minimum_fits)
          ((past_field 2 3 (bool filtered) refl).missing versions_
          ((past_blocks 2 4 version_filter_tree versions refl).missing revision (revision_free 2 refl))))));
      is_greatest = minimum_step minimum (minimum == 0) refl;
      fabric_filtered = ((past_blocks 3 0 path_tree paths refl).field (bool filtered) events_
          ((past_blocks 3 1 event_path_tree events refl).field (bool filtered) filters_
          ((past_blocks 3 2 event_filter_tree (event_filters minimum) refl).field (bool filtered) filtered_
          (field_written 3 (bool filtered) versions_))));
      version_filters = (may_blocks 4 VersionFilterSpells versions (optional_blocks 0 path_tree paths) events_ (past_blocks 4 0 path_tree paths refl)
          (may_blocks 4 VersionFilterSpells versions (optional_blocks 1 event_path_tree events) filters_ (past_blocks 4 1 event_path_tree events refl)
          (may_blocks 4 VersionFilterSpells versions (optional_blocks 2 event_filter_tree (event_filters minimum)) filtered_ (past_blocks 4 2 event_filter_tree (event_filters minimum) refl)
          (may_blocks 4 VersionFilterSpells versions (more (Context 3) (bool filtered)) versions_ (past_field 4 3 (bool filtered) refl)
          (blocks_written 4 IsVersion version_filter_tree VersionFilterSpells version_written versions revision h.are_versions (revision_free 4 refl))))));
    }

subscribe_written : (keep : Bool) (floor ceiling : ℕ) (paths events : List Path) (minimum : ℕ) (filtered : Bool) (versions : List Version) → floor < 2 ^ 16 → ceiling < 2 ^ 16 → IsSelection paths events minimum versions
    → FieldsSpell (requests.Subscribe keep floor ceiling paths events minimum filtered versions) (request_fields (requests.Subscribe keep floor ceiling paths events minimum filtered versions))
subscribe_written keep floor ceiling paths events minimum filtered versions floor_fits ceiling_fits h =
    let versions_ : Elements = optional_blocks 8 version_filter_tree versions revision in
    let filtered_ : Elements = more (Context 7) (bool filtered) versions_ in
    let filters_ : Elements = optional_blocks 5 event_filter_tree (event_filters minimum) filtered_ in
    let events_ : Elements = optional_blocks 4 event_path_tree events filters_ in
    let paths_ : Elements = optional_blocks 3 path_tree paths events_ in
    let ceiling_ : Elements = more (Context 2) (uint ceiling) paths_ in
    let floor_ : Elements = more (Context 1) (uint floor) ceiling_ in
    record {
      minimums = event_filters minimum;
      keep_subscriptions = field_written 0 (bool keep) floor_;
      min_interval_floor = (
        ((past_field 1 0 (bool keep) refl).field (uint floor) floor_
            (field_written 1 (uint floor) ceiling_)),
        floor_fits,
      );
      max_interval_ceiling = (
        ((past_field 2 0 (bool keep) refl).field (uint ceiling) floor_
            ((past_field 2 1 (uint floor) refl).field (uint ceiling) ceiling_
            (field_written 2 (uint ceiling) paths_))),
        ceiling_fits,
      );
      attribute_paths = (may_blocks 3 AttributePathSpells paths (more (Context 0) (bool keep)) floor_ (past_field 3 0 (bool keep) refl)
          (may_blocks 3 AttributePathSpells paths (more (Context 1) (uint floor)) ceiling_ (past_field 3 1 (uint floor) refl)
          (may_blocks 3 AttributePathSpells paths (more (Context 2) (uint ceiling)) paths_ (past_field 3 2 (uint ceiling) refl)
          (blocks_written 3 IsPath path_tree AttributePathSpells path_written paths events_ h.are_paths
          ((past_blocks 3 4 event_path_tree events refl).missing filters_
          ((past_blocks 3 5 event_filter_tree (event_filters minimum) refl).missing filtered_
          ((past_field 3 7 (bool filtered) refl).missing versions_
          ((past_blocks 3 8 version_filter_tree versions refl).missing revision (revision_free 3 refl)))))))));
      event_paths = (may_blocks 4 EventPathSpells events (more (Context 0) (bool keep)) floor_ (past_field 4 0 (bool keep) refl)
          (may_blocks 4 EventPathSpells events (more (Context 1) (uint floor)) ceiling_ (past_field 4 1 (uint floor) refl)
          (may_blocks 4 EventPathSpells events (more (Context 2) (uint ceiling)) paths_ (past_field 4 2 (uint ceiling) refl)
          (may_blocks 4 EventPathSpells events (optional_blocks 3 path_tree paths) events_ (past_blocks 4 3 path_tree paths refl)
          (blocks_written 4 IsEventPath event_path_tree EventPathSpells event_path_written events filters_ h.are_events
          ((past_blocks 4 5 event_filter_tree (event_filters minimum) refl).missing filtered_
          ((past_field 4 7 (bool filtered) refl).missing versions_
          ((past_blocks 4 8 version_filter_tree versions refl).missing revision (revision_free 4 refl)))))))));
      event_filters = (may_blocks 5 EventFilterSpells (event_filters minimum) (more (Context 0) (bool keep)) floor_ (past_field 5 0 (bool keep) refl)
          (may_blocks 5 EventFilterSpells (event_filters minimum) (more (Context 1) (uint floor)) ceiling_ (past_field 5 1 (uint floor) refl)
          (may_blocks 5 EventFilterSpells (event_filters minimum) (more (Context 2) (uint ceiling)) paths_ (past_field 5 2 (uint ceiling) refl)
          (may_blocks 5 EventFilterSpells (event_filters minimum) (optional_blocks 3 path_tree paths) events_ (past_blocks 5 3 path_tree paths refl)
          (may_blocks 5 EventFilterSpells (event_filters minimum) (optional_blocks 4 event_path_tree events) filters_ (past_blocks 5 4 event_path_tree events refl)
          (blocks_written 5 (λ n. n < 2 ^ 64) event_filter_tree EventFilterSpells event_filter_written (event_filters minimum) filtered_ (filters_fit minimum (minimum == 0) h.minimum_fits)
          ((past_field 5 7 (bool filtered) refl).missing versions_
          ((past_blocks 5 8 version_filter_tree versions refl).missing revision (revision_free 5 refl)))))))));
      is_greatest = minimum_step minimum (minimum == 0) refl;
      fabric_filtered = ((past_field 7 0 (bool keep) refl).field (bool filtered) floor_
          ((past_field 7 1 (uint floor) refl).field (bool filtered) ceiling_
          ((past_field 7 2 (uint ceiling) refl).field (bool filtered) paths_
          ((past_blocks 7 3 path_tree paths refl).field (bool filtered) events_
          ((past_blocks 7 4 event_path_tree events refl).field (bool filtered) filters_
          ((past_blocks 7 5 event_filter_tree (event_filters minimum) refl).field (bool filtered) filtered_
          (field_written 7 (bool filtered) versions_)))))));
      version_filters = (may_blocks 8 VersionFilterSpells versions (more (Context 0) (bool keep)) floor_ (past_field 8 0 (bool keep) refl)
          (may_blocks 8 VersionFilterSpells versions (more (Context 1) (uint floor)) ceiling_ (past_field 8 1 (uint floor) refl)
          (may_blocks 8 VersionFilterSpells versions (more (Context 2) (uint ceiling)) paths_ (past_field 8 2 (uint ceiling) refl)
          (may_blocks 8 VersionFilterSpells versions (optional_blocks 3 path_tree paths) events_ (past_blocks 8 3 path_tree paths refl)
          (may_blocks 8 VersionFilterSpells versions (optional_blocks 4 event_path_tree events) filters_ (past_blocks 8 4 event_path_tree events refl)
          (may_blocks 8 VersionFilterSpells versions (optional_blocks 5 event_filter_tree (event_filters minimum)) filtered_ (past_blocks 8 5 event_filter_tree (event_filters minimum) refl)
          (may_blocks 8 VersionFilterSpells versions (more (Context 7) (bool filtered)) versions_ (past_field 8 7 (bool filtered) refl)
          (blocks_written 8 IsVersion version_filter_tree VersionFilterSpells version_written versions revision h.are_versions (revision_free 8 refl)))))))));
    }

write_written : (suppress timed : Bool) (items : List WriteItem) → All IsWriteItem items → FieldsSpell (requests.Write suppress timed items) (request_fields (requests.Write suppress timed items))
write_written suppress timed items h =
    let writes : Elements = more (Context 2) (array (untagged write_tree items)) revision in
    let timed_ : Elements = more (Context 1) (bool timed) writes in
    record {
      suppress_response = truth_written 0 suppress timed_;
      timed_request = (past_field 1 0 (bool suppress) refl).field (bool timed) timed_ (field_written 1 (bool timed) writes);
      writes = (
        untagged write_tree items,
        (past_field 2 0 (bool suppress) refl).field (array (untagged write_tree items)) timed_ ((past_field 2 1 (bool timed) refl).field (array (untagged write_tree items)) writes (field_written 2 (array (untagged write_tree items)) revision)),
        are_written IsWriteItem write_tree AttributeDataSpells item_written items h,
      );
      more_chunks = inr ((past_field 3 0 (bool suppress) refl).missing timed_ ((past_field 3 1 (bool timed) refl).missing writes ((past_field 3 2 (array (untagged write_tree items)) refl).missing revision (revision_free 3 refl))));
    }

invoke_written : (suppress timed : Bool) (command : Place) (fields : Value) → IsCommand command → FieldsSpell (requests.Invoke suppress timed command fields) (request_fields (requests.Invoke suppress timed command fields))
invoke_written suppress timed command fields h =
    let one : Elements = more Anonymous (command_tree command fields) none in
    let invokes : Elements = more (Context 2) (array one) revision in
    let timed_ : Elements = more (Context 1) (bool timed) invokes in
    record {
      suppress_response = field_written 0 (bool suppress) timed_;
      timed_request = (past_field 1 0 (bool suppress) refl).field (bool timed) timed_ (field_written 1 (bool timed) invokes);
      invokes = (
        one,
        (past_field 2 0 (bool suppress) refl).field (array one) timed_ ((past_field 2 1 (bool timed) refl).field (array one) invokes (field_written 2 (array one) revision)),
        (command_written command fields h, tt),
      );
    }

-- the table of each message is kept
fields_written : (request : Request) → Fits request → FieldsSpell request (request_fields request)
fields_written (requests.Status code) h = record { status = (field_written 0 (uint code) revision, h) }
fields_written (requests.Read paths events minimum filtered versions) h = read_written paths events minimum filtered versions h
fields_written (requests.Subscribe keep floor ceiling paths events minimum filtered versions) h = subscribe_written keep floor ceiling paths events minimum filtered versions h.0 h.1 h.2
fields_written (requests.Write suppress timed items) h = write_written suppress timed items h
fields_written (requests.Invoke suppress timed command fields) h = invoke_written suppress timed command fields h.0
fields_written (requests.Timed ms) h = record { timeout = (field_written 0 (uint ms) revision, h) }

-- The revision is among the fields.
record HasRevision (es : Elements) : Type 0 where
  there : HasField 255 (uint 1) es

revision_here : HasRevision revision
revision_here = record { there = field_written 255 (uint 1) none }

behind : {front : Elements → Elements} {es : Elements} → Passes 255 front → HasRevision es → HasRevision (front es)
behind {front} {es} p h = record { there = p.field (uint 1) es h.there }

-- the revision is in each message
revision_written : (request : Request) → HasRevision (request_fields request)
revision_written (requests.Status code) =
    (behind (past_field 255 0 (uint code) refl)
    revision_here)
revision_written (requests.Read paths events minimum filtered versions) =
    (behind (past_blocks 255 0 path_tree paths refl)
    (behind (past_blocks 255 1 event_path_tree events refl)
    (behind (past_blocks 255 2 event_filter_tree (event_filters minimum) refl)
    (behind (past_field 255 3 (bool filtered) refl)
    (behind (past_blocks 255 4 version_filter_tree versions refl)
    revision_here)))))
revision_written (requests.Subscribe keep floor ceiling paths events minimum filtered versions) =
    (behind (past_field 255 0 (bool keep) refl)
    (behind (past_field 255 1 (uint floor) refl)
    (behind (past_field 255 2 (uint ceiling) refl)
    (behind (past_blocks 255 3 path_tree paths refl)
    (behind (past_blocks 255 4 event_path_tree events refl)
    (behind (past_blocks 255 5 event_filter_tree (event_filters minimum) refl)
    (behind (past_field 255 7 (bool filtered) refl)
    (behind (past_blocks 255 8 version_filter_tree versions refl)
    revision_here))))))))
revision_written (requests.Write suppress timed items) =
    (behind (past_field 255 0 (bool suppress) refl)
    (behind (past_field 255 1 (bool timed) refl)
    (behind (past_field 255 2 (array (untagged write_tree items)) refl)
    revision_here)))
revision_written (requests.Invoke suppress timed command fields) =
    (behind (past_field 255 0 (bool suppress) refl)
    (behind (past_field 255 1 (bool timed) refl)
    (behind (past_field 255 2 (array (more Anonymous (command_tree command fields) none)) refl)
    revision_here)))
revision_written (requests.Timed ms) =
    (behind (past_field 255 0 (uint ms) refl)
    revision_here)

-- what is written for a request whose numbers fit is a spelling of it
pub request_written : (request : Request) → Fits request → RequestSpells (opcode_of request) request (request_tree request)
request_written request h = record {
  fields = request_fields request;
  number = 1;
  form = refl;
  code = refl;
  table = fields_written request h;
  revision = (revision_written request).there;
}
