-- What is read as a block is spelled by it, and what a block spells is read.
use Rattle.std.proofs.Common.{◌≡◌, ◌∙◌, sym, subst, ap, ℕ, Bool, true, false, ◌&&◌, is_some, Option, Some, None, ◌⊎◌, inl, inr, refl, if◌then◌else◌}
use Rattle.mt_tlv.specs.Scalars.{unsigned_in}
use Rattle.mt_tlv.specs.declared.value.Value.{Value}
use Rattle.mt_tlv.specs.declared.value.Value.TheVariants as values
use Rattle.mt_tlv.specs.Tree.{Tree, int, uint, bool, text, octets, null, bits32, bits64, structure, array, list, Elements, none}
use Rattle.mt_tlv.specs.View.{tree, value_of}
use Rattle.mt_model.specs.declared.messages.message.Index.{Index}
use Rattle.mt_model.specs.declared.messages.message.Index.TheVariants.{Whole, Append, At}
use Rattle.mt_model.specs.declared.messages.message.Path.{Path}
use Rattle.mt_model.specs.declared.messages.message.WriteItem.{WriteItem}
use Rattle.mt_model.specs.declared.rows.place.Place.{Place}
use Rattle.mt_model.specs.declared.node.state.Version.{Version}
use Rattle.mt_im.specs.Blocks.{◌>>=◌, number_in, list_in, required_at, number_at, optional_number_at, optional_truth_at, not_true, index_in, index_at, attribute_path_in, event_path_in, event_filter_in, version_in, version_filter_in, is_concrete, concrete_path_in, write_item_in, command_path_in, arguments_in, command_data_in}
use Rattle.mt_model.specs.Trees.{field_in, structure_in}
use Rattle.mt_im.specs.Fields.{HasNo, HasField}
use Rattle.mt_im.specs.Spelling.{IndexSpells, AttributePathSpells, EventPathSpells, EventFilterSpells, ClusterPathSpells, VersionFilterSpells, IsConcrete, AttributeDataSpells, CommandPathSpells, CommandDataSpells}
use Rattle.mt_im.proofs.FieldLaws.{bind_some, field_found, field_missing, field_only, field_none, number_found, number_only, list_found, structure_found, Ties, required_found, has_number_at, number_read_at, has_unsigned, may_have_number, optional_number_read, must_be_false, optional_truth_read}

-- ---- paths

numbered : (es : Elements) (i : Index) (v : Tree) → field_in 5 es ≡ Some v → (number_in 16 v >>= λ n. Some (At n)) ≡ Some i → IndexSpells i es
numbered es i v e h =
    let p = bind_some (number_in 16 v) (λ n. Some (At n)) i h in
    let q = number_found 16 v p.0 p.1 in
    let same : At p.0 ≡ i = cc in
    subst (λ (j : Index). IndexSpells j es) same (field_found 5 es (uint p.0) (e ∙ ap Some q.0), q.1)

index_step : (es : Elements) (i : Index) (there : Option Tree) → field_in 5 es ≡ there → index_in there ≡ Some i → IndexSpells i es
index_step es i None e h = let same : Whole ≡ i = cc in subst (λ (j : Index). IndexSpells j es) same (field_missing 5 es e)
index_step es i (Some null) e h = let same : Append ≡ i = cc in subst (λ (j : Index). IndexSpells j es) same (field_found 5 es null e)
index_step es i (Some v) e h = numbered es i v e h

index_found : (es : Elements) (i : Index) → index_at es ≡ Some i → IndexSpells i es
unfolding index_at
index_found es i h = index_step es i (field_in 5 es) refl h

index_only : (es : Elements) (i : Index) → IndexSpells i es → index_at es ≡ Some i
unfolding index_at
index_only es Whole h = rw (field_none 5 es h) refl
index_only es Append h = rw (field_only 5 es null h) refl
index_only es (At n) h = rw (field_only 5 es (uint n) h.0, number_only 16 n h.1) refl

attribute_path_found : (v : Tree) (path : Path) → attribute_path_in v ≡ Some path → AttributePathSpells path v
unfolding attribute_path_in
attribute_path_found v path h =
    let l = bind_some (list_in v) _ path h in
    let compression = bind_some (not_true (optional_truth_at 0 l.0)) _ path l.2 in
    let endpoint = bind_some (optional_number_at 16 2 l.0) _ path compression.2 in
    let cluster = bind_some (optional_number_at 32 3 l.0) _ path endpoint.2 in
    let leaf = bind_some (optional_number_at 32 4 l.0) _ path cluster.2 in
    let index = bind_some (index_at l.0) _ path leaf.2 in
    let made : Path = record { endpoint = endpoint.0; cluster = cluster.0; leaf = leaf.0; index = index.0 } in
    let same : made ≡ path = cc in
    subst (λ (p : Path). AttributePathSpells p v) same (record {
      fields = l.0;
      form = list_found v l.0 l.1;
      compression = must_be_false 0 l.0 compression.0 compression.1;
      endpoint = may_have_number 16 2 l.0 endpoint.0 endpoint.1;
      cluster = may_have_number 32 3 l.0 cluster.0 cluster.1;
      attribute = may_have_number 32 4 l.0 leaf.0 leaf.1;
      index = index_found l.0 index.0 index.1;
    })

attribute_path_only : (v : Tree) (path : Path) → AttributePathSpells path v → attribute_path_in v ≡ Some path
unfolding attribute_path_in
attribute_path_only v path s =
    rw (
      s.form,
      optional_truth_read 0 s.fields false s.compression,
      optional_number_read 16 2 s.fields path.endpoint s.endpoint,
      optional_number_read 32 3 s.fields path.cluster s.cluster,
      optional_number_read 32 4 s.fields path.leaf s.attribute,
      index_only s.fields path.index s.index,
    ) refl

pub attribute_path_ties : Ties attribute_path_in AttributePathSpells
attribute_path_ties = record { found = attribute_path_found; only = attribute_path_only }

event_path_found : (v : Tree) (path : Path) → event_path_in v ≡ Some path → EventPathSpells path v
unfolding event_path_in
event_path_found v path h =
    let l = bind_some (list_in v) _ path h in
    let endpoint = bind_some (optional_number_at 16 1 l.0) _ path l.2 in
    let cluster = bind_some (optional_number_at 32 2 l.0) _ path endpoint.2 in
    let leaf = bind_some (optional_number_at 32 3 l.0) _ path cluster.2 in
    let made : Path = record { endpoint = endpoint.0; cluster = cluster.0; leaf = leaf.0; index = Whole } in
    let same : made ≡ path = cc in
    subst (λ (p : Path). EventPathSpells p v) same (record {
      fields = l.0;
      form = list_found v l.0 l.1;
      endpoint = may_have_number 16 1 l.0 endpoint.0 endpoint.1;
      cluster = may_have_number 32 2 l.0 cluster.0 cluster.1;
      event = may_have_number 32 3 l.0 leaf.0 leaf.1;
      index = refl;
    })

event_path_only : (v : Tree) (path : Path) → EventPathSpells path v → event_path_in v ≡ Some path
unfolding event_path_in
event_path_only v path s =
    rw (
      s.form,
      optional_number_read 16 1 s.fields path.endpoint s.endpoint,
      optional_number_read 32 2 s.fields path.cluster s.cluster,
      optional_number_read 32 3 s.fields path.leaf s.event,
    ) (ap (λ (i : Index). Some (record path { index = i })) (sym s.index))

pub event_path_ties : Ties event_path_in EventPathSpells
event_path_ties = record { found = event_path_found; only = event_path_only }

-- ---- filters

event_filter_found : (v : Tree) (minimum : ℕ) → event_filter_in v ≡ Some minimum → EventFilterSpells minimum v
unfolding event_filter_in
event_filter_found v minimum h =
    let l = bind_some (structure_in v) (required_at unsigned_in 1) minimum h in
    record { fields = l.0; form = structure_found v l.0 l.1; least = has_unsigned 1 l.0 minimum l.2 }

event_filter_only : (v : Tree) (minimum : ℕ) → EventFilterSpells minimum v → event_filter_in v ≡ Some minimum
unfolding event_filter_in
event_filter_only v minimum s = rw (s.form, field_only 1 s.fields (uint minimum) s.least) refl

pub event_filter_ties : Ties event_filter_in EventFilterSpells
event_filter_ties = record { found = event_filter_found; only = event_filter_only }

version_found : (version : ℕ) (v : Tree) (known : Version) → version_in version v ≡ Some known → ClusterPathSpells known v × (version ≡ known.version)
unfolding version_in
version_found version v known h =
    let l = bind_some (list_in v) _ known h in
    let endpoint = bind_some (number_at 16 1 l.0) _ known l.2 in
    let cluster = bind_some (number_at 32 2 l.0) _ known endpoint.2 in
    let made : Version = record { endpoint = endpoint.0; cluster = cluster.0; version = version } in
    let same : made ≡ known = cc in
    subst (λ (k : Version). ClusterPathSpells k v × (version ≡ k.version)) same (
      record {
        fields = l.0;
        form = list_found v l.0 l.1;
        endpoint = has_number_at 16 1 l.0 endpoint.0 endpoint.1;
        cluster = has_number_at 32 2 l.0 cluster.0 cluster.1;
      },
      refl,
    )

version_only : (v : Tree) (known : Version) → ClusterPathSpells known v → version_in known.version v ≡ Some known
unfolding version_in
version_only v known s = rw (s.form, number_read_at 16 1 s.fields known.endpoint s.endpoint, number_read_at 32 2 s.fields known.cluster s.cluster) refl

version_filter_found : (v : Tree) (known : Version) → version_filter_in v ≡ Some known → VersionFilterSpells known v
unfolding version_filter_in
version_filter_found v known h =
    let l = bind_some (structure_in v) _ known h in
    let version = bind_some (number_at 32 1 l.0) _ known l.2 in
    let path = required_found (version_in version.0) 0 l.0 known version.2 in
    let p = version_found version.0 path.0 known path.2 in
    record {
      fields = l.0;
      path = path.0;
      form = structure_found v l.0 l.1;
      has_path = path.1;
      is_path = p.0;
      version = has_number_at 32 1 l.0 known.version (version.1 ∙ ap Some p.1);
    }

version_filter_only : (v : Tree) (known : Version) → VersionFilterSpells known v → version_filter_in v ≡ Some known
unfolding version_filter_in
version_filter_only v known s = rw (s.form, number_read_at 32 1 s.fields known.version s.version, field_only 0 s.fields s.path s.has_path) (version_only s.path known s.is_path)

pub version_filter_ties : Ties version_filter_in VersionFilterSpells
version_filter_ties = record { found = version_filter_found; only = version_filter_only }

-- ---- written data

and_true : (a b : Bool) → a && b ≡ true → (a ≡ true) × (b ≡ true)
and_true true b h = (refl, h)
and_true false b h = absurd cc

concrete_step : (path made : Path) (b : Bool) → is_concrete made ≡ b → (if b then Some made else None) ≡ Some path → (made ≡ path) × IsConcrete path
concrete_step path made true e h =
    let same : made ≡ path = cc in
    let p = and_true (is_some made.endpoint) (is_some made.cluster && is_some made.leaf) e in
    let q = and_true (is_some made.cluster) (is_some made.leaf) p.1 in
    (same, subst (λ (x : Path). IsConcrete x) same (record { endpoint = p.0; cluster = q.0; attribute = q.1 }))
concrete_step path made false e h = absurd cc

concrete_path_found : (v : Tree) (path : Path) → concrete_path_in v ≡ Some path → AttributePathSpells path v × IsConcrete path
unfolding concrete_path_in
concrete_path_found v path h =
    let p = bind_some (attribute_path_in v) (λ made. if is_concrete made then Some made else None) path h in
    let q = concrete_step path p.0 (is_concrete p.0) refl p.2 in
    (attribute_path_found v path (p.1 ∙ ap Some q.0), q.1)

concrete_path_only : (v : Tree) (path : Path) → AttributePathSpells path v → IsConcrete path → concrete_path_in v ≡ Some path
unfolding concrete_path_in
concrete_path_only v path s c = rw (attribute_path_only v path s, c.endpoint, c.cluster, c.attribute) refl

-- By the law of values and their trees.
module _ (tree_value : (t : Tree) → tree (value_of t) ≡ t) (value_tree : (v : Value) → value_of (tree v) ≡ v) where
  write_item_found : (v : Tree) (item : WriteItem) → write_item_in v ≡ Some item → AttributeDataSpells item v
  unfolding write_item_in
  write_item_found v item h =
      let l = bind_some (structure_in v) _ item h in
      let version = bind_some (optional_number_at 32 0 l.0) _ item l.2 in
      let path = bind_some (required_at concrete_path_in 1 l.0) _ item version.2 in
      let place = required_found concrete_path_in 1 l.0 path.0 path.1 in
      let p = concrete_path_found place.0 path.0 place.2 in
      let value = bind_some (field_in 2 l.0) _ item path.2 in
      let made : WriteItem = record { path = path.0; version = version.0; value = value_of value.0 } in
      let same : made ≡ item = cc in
      subst (λ (x : WriteItem). AttributeDataSpells x v) same (record {
        fields = l.0;
        path = place.0;
        form = structure_found v l.0 l.1;
        version = may_have_number 32 0 l.0 version.0 version.1;
        has_path = place.1;
        is_path = p.0;
        concrete = p.1;
        value = field_found 2 l.0 (tree (value_of value.0)) (value.1 ∙ ap Some (sym (tree_value value.0)));
      })

  write_item_only : (v : Tree) (item : WriteItem) → AttributeDataSpells item v → write_item_in v ≡ Some item
  unfolding write_item_in
  write_item_only v item s =
      rw (
        s.form,
        optional_number_read 32 0 s.fields item.version s.version,
        field_only 1 s.fields s.path s.has_path,
        concrete_path_only s.path item.path s.is_path s.concrete,
        field_only 2 s.fields (tree item.value) s.value,
        value_tree item.value,
      ) refl

  pub write_item_ties : Ties write_item_in AttributeDataSpells
  write_item_ties = record { found = write_item_found; only = write_item_only }

-- ---- commands

command_path_found : (v : Tree) (command : Place) → command_path_in v ≡ Some command → CommandPathSpells command v
unfolding command_path_in
command_path_found v command h =
    let l = bind_some (list_in v) _ command h in
    let endpoint = bind_some (number_at 16 0 l.0) _ command l.2 in
    let cluster = bind_some (number_at 32 1 l.0) _ command endpoint.2 in
    let leaf = bind_some (number_at 32 2 l.0) _ command cluster.2 in
    let made : Place = record { endpoint = endpoint.0; cluster = cluster.0; leaf = leaf.0 } in
    let same : made ≡ command = cc in
    subst (λ (p : Place). CommandPathSpells p v) same (record {
      fields = l.0;
      form = list_found v l.0 l.1;
      endpoint = has_number_at 16 0 l.0 endpoint.0 endpoint.1;
      cluster = has_number_at 32 1 l.0 cluster.0 cluster.1;
      leaf = has_number_at 32 2 l.0 leaf.0 leaf.1;
    })

command_path_only : (v : Tree) (command : Place) → CommandPathSpells command v → command_path_in v ≡ Some command
unfolding command_path_in
command_path_only v command s =
    rw (s.form, number_read_at 16 0 s.fields command.endpoint s.endpoint, number_read_at 32 1 s.fields command.cluster s.cluster, number_read_at 32 2 s.fields command.leaf s.leaf) refl

-- By the law of values and their trees.
module _ (tree_value : (t : Tree) → tree (value_of t) ≡ t) (value_tree : (v : Value) → value_of (tree v) ≡ v) where
  arguments_step : (es : Elements) (there : Option Tree) → field_in 1 es ≡ there → HasField 1 (tree (arguments_in there)) es ⊎ HasNo 1 es × (tree (arguments_in there) ≡ structure none)
  arguments_step es None e = inr (field_missing 1 es e, refl)
  arguments_step es (Some v) e = inl (field_found 1 es (tree (value_of v)) (e ∙ ap Some (sym (tree_value v))))

  arguments_only : (es : Elements) (fields : Value) → HasField 1 (tree fields) es ⊎ HasNo 1 es × (tree fields ≡ structure none) → arguments_in (field_in 1 es) ≡ fields
  arguments_only es fields (inl h) = rw (field_only 1 es (tree fields) h) (value_tree fields)
  arguments_only es fields (inr h) = rw (field_none 1 es h.0) (sym (ap value_of h.1) ∙ value_tree fields)

  command_data_found : (v : Tree) (command : Place × Value) → command_data_in v ≡ Some command → CommandDataSpells command v
  unfolding command_data_in
  command_data_found v command h =
      let l = bind_some (structure_in v) _ command h in
      let path = bind_some (required_at command_path_in 0 l.0) _ command l.2 in
      let place = required_found command_path_in 0 l.0 path.0 path.1 in
      let made : Place × Value = (path.0, arguments_in (field_in 1 l.0)) in
      let same : made ≡ command = cc in
      subst (λ (c : Place × Value). CommandDataSpells c v) same (record {
        fields = l.0;
        path = place.0;
        form = structure_found v l.0 l.1;
        has_path = place.1;
        is_path = command_path_found place.0 path.0 place.2;
        value = arguments_step l.0 (field_in 1 l.0) refl;
      })

  command_data_only : (v : Tree) (command : Place × Value) → CommandDataSpells command v → command_data_in v ≡ Some command
  unfolding command_data_in
  command_data_only v command s =
      rw (s.form, field_only 0 s.fields s.path s.has_path, command_path_only s.path command.0 s.is_path) (ap (λ (fields : Value). Some (command.0, fields)) (arguments_only s.fields command.1 s.value))

  pub command_data_ties : Ties command_data_in CommandDataSpells
  command_data_ties = record { found = command_data_found; only = command_data_only }
