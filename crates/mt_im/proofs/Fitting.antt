-- What a tree within the limits of the encoding spells has numbers and values that fit.
use Rattle.std.proofs.Common.{◌≡◌, sym, subst, ℕ, suc, ◌^◌, ◌<◌, max, List, [], ◌∷◌, ◌++◌, Option, Some, None, IfSome, All, ◌⊎◌, inl, inr, arith, lit<}
use Rattle.std.proofs.lemmas.List.Elements.{All-nil, All-cons, All-head, All-tail}
use Rattle.mt_tlv.specs.declared.value.Tag.{Tag}
use Rattle.mt_tlv.specs.declared.value.Value.{Value}
use Rattle.mt_tlv.specs.declared.reading.Kind.{Kind}
use Rattle.mt_tlv.specs.declared.reading.Kind.TheVariants as containers
use Rattle.mt_tlv.specs.Limits.{IsAllowed, AreAllowed, deepest}
use Rattle.mt_tlv.specs.Tree.{Tree, uint, structure, array, Elements, none, more}
use Rattle.mt_tlv.specs.View.{tree}
use Rattle.mt_model.specs.declared.messages.message.Index.{Index}
use Rattle.mt_model.specs.declared.messages.message.Index.TheVariants.{Whole, Append, At}
use Rattle.mt_model.specs.declared.messages.message.Path.{Path}
use Rattle.mt_model.specs.declared.messages.message.Request.{Request}
use Rattle.mt_model.specs.declared.messages.message.Request.TheVariants as requests
use Rattle.mt_model.specs.declared.messages.message.WriteItem.{WriteItem}
use Rattle.mt_model.specs.declared.rows.place.Place.{Place}
use Rattle.mt_model.specs.declared.node.state.Version.{Version}
use Rattle.mt_im.specs.Fields.{greatest, HasNo, HasField, MayHaveNumber, AreBlocks, HasBlocks, MayHaveBlocks}
use Rattle.mt_im.specs.Spelling.{IndexSpells, AttributePathSpells, EventPathSpells, EventFilterSpells, VersionFilterSpells, AttributeDataSpells, CommandDataSpells, FieldsSpell, RequestSpells}
use Rattle.mt_im.specs.Limits.{IsIndex, IsPath, IsEventPath, IsVersion, IsWriteItem, IsCommand, IsSelection, Fits, room_inside}

field_allowed : (room n : ℕ) (v : Tree) (es : Elements) (kind : Kind) (tags : List Tag) → AreAllowed es kind tags room → HasField n v es → IsAllowed v room
field_allowed room n v none kind tags a h = absurd h
field_allowed room n v (more tag w es) kind tags a (inl h) = subst (λ (x : Tree). IsAllowed x room) h.1 a.2
field_allowed room n v (more tag w es) kind tags a (inr h) = field_allowed room n v es kind (tags ++ tag ∷ []) a.3 h.1

number_fits : (bits n : ℕ) (o : Option ℕ) (es : Elements) → MayHaveNumber bits n o es → IfSome o (λ k. k < 2 ^ bits)
number_fits bits n None es h = tt
number_fits bits n (Some k) es h = h.1

-- what holds of each block holds of all
all_fit : {X : Type 0} (room : ℕ) (P : X → Type 0) (Spells : X → Tree → Type 0) → ((x : X) (v : Tree) → IsAllowed v room → Spells x v → P x)
    → (xs : List X) (es : Elements) (tags : List Tag) → AreAllowed es containers.Array tags room → AreBlocks Spells xs es → All P xs
all_fit room P Spells each [] es tags a h = All-nil P
all_fit room P Spells each (x ∷ xs) none tags a h = absurd h
all_fit room P Spells each (x ∷ xs) (more tag v es) tags a h = All-cons P x xs (each x v a.2 h.0) (all_fit room P Spells each xs es (tags ++ tag ∷ []) a.3 h.1)

array_fits : {X : Type 0} (room n : ℕ) (P : X → Type 0) (Spells : X → Tree → Type 0) → ((x : X) (v : Tree) → IsAllowed v room → Spells x v → P x)
    → (xs : List X) (es : Elements) → AreAllowed es containers.Struct [] (suc room) → HasBlocks n Spells xs es → All P xs
array_fits room n P Spells each xs es a h = all_fit room P Spells each xs h.0 [] (field_allowed (suc room) n (array h.0) es containers.Struct [] a h.1) h.2

blocks_fit : {X : Type 0} (room n : ℕ) (P : X → Type 0) (Spells : X → Tree → Type 0) → ((x : X) (v : Tree) → IsAllowed v room → Spells x v → P x)
    → (xs : List X) (es : Elements) → AreAllowed es containers.Struct [] (suc room) → MayHaveBlocks n Spells xs es → All P xs
blocks_fit room n P Spells each xs es a (inl h) = array_fits room n P Spells each xs es a h
blocks_fit {X} room n P Spells each xs es a (inr h) = subst (λ (ys : List X). All P ys) (sym h.1) (All-nil P)

index_fits : (i : Index) (es : Elements) → IndexSpells i es → IsIndex i
index_fits Whole es h = tt
index_fits Append es h = tt
index_fits (At n) es h = h.1

spelled_path_fits : (path : Path) (v : Tree) → AttributePathSpells path v → IsPath path
spelled_path_fits path v s = record {
  endpoint = number_fits 16 2 path.endpoint s.fields s.endpoint;
  cluster = number_fits 32 3 path.cluster s.fields s.cluster;
  leaf = number_fits 32 4 path.leaf s.fields s.attribute;
  index = index_fits path.index s.fields s.index;
}

path_fits : (path : Path) (v : Tree) → IsAllowed v 14 → AttributePathSpells path v → IsPath path
path_fits path v a s = spelled_path_fits path v s

event_path_fits : (path : Path) (v : Tree) → IsAllowed v 14 → EventPathSpells path v → IsEventPath path
event_path_fits path v a s = record {
  fits = record {
    endpoint = number_fits 16 1 path.endpoint s.fields s.endpoint;
    cluster = number_fits 32 2 path.cluster s.fields s.cluster;
    leaf = number_fits 32 3 path.leaf s.fields s.event;
    index = subst (λ (i : Index). IsIndex i) (sym s.index) tt;
  };
  index = s.index;
}

-- a structure's members
inside : (room : ℕ) (v : Tree) (es : Elements) → IsAllowed v (suc room) → v ≡ structure es → AreAllowed es containers.Struct [] room
inside room v es a e = subst (λ (x : Tree). IsAllowed x (suc room)) e a

event_filter_fits : (minimum : ℕ) (v : Tree) → IsAllowed v 14 → EventFilterSpells minimum v → minimum < 2 ^ 64
event_filter_fits minimum v a s = field_allowed 13 1 (uint minimum) s.fields containers.Struct [] (inside 13 v s.fields a s.form) s.least

version_fits : (known : Version) (v : Tree) → IsAllowed v 14 → VersionFilterSpells known v → IsVersion known
version_fits known v a s = record { endpoint = s.is_path.endpoint.1; cluster = s.is_path.cluster.1; version = s.version.1 }

item_fits : (item : WriteItem) (v : Tree) → IsAllowed v 14 → AttributeDataSpells item v → IsWriteItem item
item_fits item v a s = record {
  fits = spelled_path_fits item.path s.path s.is_path;
  concrete = s.concrete;
  version = number_fits 32 0 item.version s.fields s.version;
  value = field_allowed 13 2 (tree item.value) s.fields containers.Struct [] (inside 13 v s.fields a s.form) s.value;
}

-- the fields of a command, also where they are missing
arguments_fit : (fields : Value) (es : Elements) → AreAllowed es containers.Struct [] 13 → HasField 1 (tree fields) es ⊎ HasNo 1 es × (tree fields ≡ structure none) → IsAllowed (tree fields) room_inside
arguments_fit fields es a (inl h) = field_allowed 13 1 (tree fields) es containers.Struct [] a h
arguments_fit fields es a (inr h) = subst (λ (x : Tree). IsAllowed x room_inside) (sym h.1) tt

-- A command and its fields fit.
CommandFits : Place × Value → Type 0
CommandFits c = IsCommand c.0 × IsAllowed (tree c.1) room_inside

command_fits : (command : Place × Value) (v : Tree) → IsAllowed v 14 → CommandDataSpells command v → CommandFits command
unfolding CommandFits
command_fits command v a s =
    (record { endpoint = s.is_path.endpoint.1; cluster = s.is_path.cluster.1; leaf = s.is_path.leaf.1 }, arguments_fit command.1 s.fields (inside 13 v s.fields a s.form) s.value)

one_fits : (command : Place × Value) → All CommandFits (command ∷ []) → IsCommand command.0 × IsAllowed (tree command.1) room_inside
unfolding CommandFits
one_fits command h = All-head CommandFits command [] h

max_below : (m n : ℕ) → m < 2 ^ 64 → n < 2 ^ 64 → max m n < 2 ^ 64
max_below m n h k = omega arith

greatest_fits : (ns : List ℕ) → All (λ n. n < 2 ^ 64) ns → greatest ns < 2 ^ 64
greatest_fits [] h = lit< tt
greatest_fits (n ∷ ns) h = max_below n (greatest ns) (All-head (λ k. k < 2 ^ 64) n ns h) (greatest_fits ns (All-tail (λ k. k < 2 ^ 64) n ns h))

selection_fits : (first filtered_tag : ℕ) (paths events : List Path) (minimum : ℕ) (minimums : List ℕ) (versions : List Version) (es : Elements) → AreAllowed es containers.Struct [] 15
    → MayHaveBlocks first AttributePathSpells paths es → MayHaveBlocks (suc first) EventPathSpells events es → MayHaveBlocks (suc (suc first)) EventFilterSpells minimums es
    → minimum ≡ greatest minimums → MayHaveBlocks (suc filtered_tag) VersionFilterSpells versions es → IsSelection paths events minimum versions
selection_fits first filtered_tag paths events minimum minimums versions es a p e f g v = record {
  are_paths = blocks_fit 14 first IsPath AttributePathSpells path_fits paths es a p;
  are_events = blocks_fit 14 (suc first) IsEventPath EventPathSpells event_path_fits events es a e;
  minimum_fits = subst (λ (n : ℕ). n < 2 ^ 64) (sym g) (greatest_fits minimums (blocks_fit 14 (suc (suc first)) (λ n. n < 2 ^ 64) EventFilterSpells event_filter_fits minimums es a f));
  are_versions = blocks_fit 14 (suc filtered_tag) IsVersion VersionFilterSpells version_fits versions es a v;
}

fields_fit : (request : Request) (es : Elements) → AreAllowed es containers.Struct [] 15 → FieldsSpell request es → Fits request
fields_fit (requests.Status code) es a t = t.status.1
fields_fit (requests.Read paths events minimum filtered versions) es a t =
    selection_fits 0 3 paths events minimum t.minimums versions es a t.attribute_paths t.event_paths t.event_filters t.is_greatest t.version_filters
fields_fit (requests.Subscribe keep floor ceiling paths events minimum filtered versions) es a t = (
  t.min_interval_floor.1,
  t.max_interval_ceiling.1,
  selection_fits 3 7 paths events minimum t.minimums versions es a t.attribute_paths t.event_paths t.event_filters t.is_greatest t.version_filters,
)
fields_fit (requests.Write suppress timed items) es a t = array_fits 14 2 IsWriteItem AttributeDataSpells item_fits items es a t.writes
fields_fit (requests.Invoke suppress timed command fields) es a t =
    one_fits (command, fields) (array_fits 14 2 CommandFits CommandDataSpells command_fits ((command, fields) ∷ []) es a t.invokes)
fields_fit (requests.Timed ms) es a t = t.timeout.1

-- a request that a tree within the limits of the encoding spells fits
pub spelled_fits : (opcode : ℕ) (request : Request) (v : Tree) → RequestSpells opcode request v → IsAllowed v deepest → Fits request
spelled_fits opcode request v s a = fields_fit request s.fields (inside 15 v s.fields a s.form) s.table
