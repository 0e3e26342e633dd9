-- Reading fields and blocks: what they hold, or None where they are malformed.
use Rattle.std.specs.Prelude.{ℕ, ◌^◌, Bool, true, false, ◌&&◌, ◌==◌, nat_lt, List, [], ◌∷◌, Option, Some, None, is_some, if◌then◌else◌}
use Rattle.mt_tlv.specs.Scalars.{truth_in, unsigned_in}
use Rattle.mt_tlv.specs.declared.value.Value.{Value}
use Rattle.mt_tlv.specs.declared.value.Value.TheVariants as values
use Rattle.mt_tlv.specs.Tree.{Tree, int, uint, bool, text, octets, null, bits32, bits64, structure, array, list, Elements, none, more}
use Rattle.mt_tlv.specs.View.{value_of}
use Rattle.mt_model.specs.Trees.{field_in, structure_in}
use Rattle.mt_model.specs.declared.messages.message.Index.{Index}
use Rattle.mt_model.specs.declared.messages.message.Index.TheVariants.{Whole, Append, At}
use Rattle.mt_model.specs.declared.messages.message.Path.{Path}
use Rattle.mt_model.specs.declared.messages.message.WriteItem.{WriteItem}
use Rattle.mt_model.specs.declared.rows.place.Place.{Place}
use Rattle.mt_model.specs.declared.node.state.Version.{Version}

infixl 10 ◌>>=◌
abbrev pub ◌>>=◌ : {A B : Type 0} → Option A → (A → Option B) → Option B
None >>= f = None
(Some x) >>= f = f x

-- ---- fields

-- an unsigned number of at most this many bits
abbrev pub number_in : ℕ → Tree → Option ℕ
number_in bits (uint n) = if nat_lt n (2 ^ bits) then Some n else None
number_in bits v = None

-- the members of a list
abbrev pub list_in : Tree → Option Elements
list_in (list es) = Some es
list_in v = None

-- the members of an array
abbrev pub array_in : Tree → Option Elements
array_in (array es) = Some es
array_in v = None

-- a field that must be there
abbrev pub required_at : {X : Type 0} → (Tree → Option X) → ℕ → Elements → Option X
required_at read n es = field_in n es >>= read

-- a number that must be there
unfoldable pub number_at : ℕ → ℕ → Elements → Option ℕ
number_at bits n es = required_at (number_in bits) n es

abbrev pub optional_number_in : ℕ → Option Tree → Option (Option ℕ)
optional_number_in bits None = Some None
optional_number_in bits (Some v) = number_in bits v >>= λ number. Some (Some number)

-- a number that may be missing
unfoldable pub optional_number_at : ℕ → ℕ → Elements → Option (Option ℕ)
optional_number_at bits n es = optional_number_in bits (field_in n es)

abbrev pub optional_truth_in : Option Tree → Option Bool
optional_truth_in None = Some false
optional_truth_in (Some v) = truth_in v

-- a truth value that may be missing
unfoldable pub optional_truth_at : ℕ → Elements → Option Bool
optional_truth_at n es = optional_truth_in (field_in n es)

-- an optional truth value that must not be true
abbrev pub not_true : Option Bool → Option (Unit {0})
not_true None = None
not_true (Some true) = None
not_true (Some false) = Some tt

-- each member, read as a block
unfoldable pub blocks_of : {X : Type 0} → (Tree → Option X) → Elements → Option (List X)
blocks_of read none = Some []
blocks_of read (more tag v es) = read v >>= λ x. blocks_of read es >>= λ xs. Some (x ∷ xs)

-- an array of blocks
abbrev pub blocks_in : {X : Type 0} → (Tree → Option X) → Tree → Option (List X)
blocks_in read v = array_in v >>= blocks_of read

abbrev pub optional_blocks_in : {X : Type 0} → (Tree → Option X) → Option Tree → Option (List X)
optional_blocks_in read None = Some []
optional_blocks_in read (Some v) = blocks_in read v

-- an array of blocks that may be missing
abbrev pub optional_blocks_at : {X : Type 0} → (Tree → Option X) → ℕ → Elements → Option (List X)
optional_blocks_at read n es = optional_blocks_in read (field_in n es)

-- ---- blocks

abbrev pub index_in : Option Tree → Option Index
index_in None = Some Whole
index_in (Some null) = Some Append
index_in (Some v) = number_in 16 v >>= λ n. Some (At n)

-- the list index of a path
unfoldable pub index_at : Elements → Option Index
index_at es = index_in (field_in 5 es)

-- AttributePath
unfoldable pub attribute_path_in : Tree → Option Path
attribute_path_in v =
    list_in v >>= λ es.
    not_true (optional_truth_at 0 es) >>= λ _.
    optional_number_at 16 2 es >>= λ endpoint.
    optional_number_at 32 3 es >>= λ cluster.
    optional_number_at 32 4 es >>= λ leaf.
    index_at es >>= λ index.
    Some (record { endpoint = endpoint; cluster = cluster; leaf = leaf; index = index })

-- EventPath
unfoldable pub event_path_in : Tree → Option Path
event_path_in v =
    list_in v >>= λ es.
    optional_number_at 16 1 es >>= λ endpoint.
    optional_number_at 32 2 es >>= λ cluster.
    optional_number_at 32 3 es >>= λ leaf.
    Some (record { endpoint = endpoint; cluster = cluster; leaf = leaf; index = Whole })

-- EventFilter, by its minimum
unfoldable pub event_filter_in : Tree → Option ℕ
event_filter_in v = structure_in v >>= λ es. required_at unsigned_in 1 es

-- ClusterPath and data version
unfoldable pub version_in : ℕ → Tree → Option Version
version_in version v =
    list_in v >>= λ es.
    number_at 16 1 es >>= λ endpoint.
    number_at 32 2 es >>= λ cluster.
    Some (record { endpoint = endpoint; cluster = cluster; version = version })

-- VersionFilter
unfoldable pub version_filter_in : Tree → Option Version
version_filter_in v =
    structure_in v >>= λ es.
    number_at 32 1 es >>= λ version.
    required_at (version_in version) 0 es

abbrev pub is_concrete : Path → Bool
is_concrete path = is_some path.endpoint && (is_some path.cluster && is_some path.leaf)

-- a path that names an endpoint, a cluster and an attribute
unfoldable pub concrete_path_in : Tree → Option Path
concrete_path_in v = attribute_path_in v >>= λ path. if is_concrete path then Some path else None

-- AttributeData of a write
unfoldable pub write_item_in : Tree → Option WriteItem
write_item_in v =
    structure_in v >>= λ es.
    optional_number_at 32 0 es >>= λ version.
    required_at concrete_path_in 1 es >>= λ path.
    field_in 2 es >>= λ value.
    Some (record { path = path; version = version; value = value_of value })

-- CommandPath
unfoldable pub command_path_in : Tree → Option Place
command_path_in v =
    list_in v >>= λ es.
    number_at 16 0 es >>= λ endpoint.
    number_at 32 1 es >>= λ cluster.
    number_at 32 2 es >>= λ leaf.
    Some (record { endpoint = endpoint; cluster = cluster; leaf = leaf })

-- the fields of a command, an empty structure where they are missing
abbrev pub arguments_in : Option Tree → Value
arguments_in None = values.Struct none
arguments_in (Some v) = value_of v

-- CommandData
unfoldable pub command_data_in : Tree → Option (Place × Value)
command_data_in v =
    structure_in v >>= λ es.
    required_at command_path_in 0 es >>= λ command.
    Some (command, arguments_in (field_in 1 es))

-- the one member
abbrev pub only_member : Elements → Option Tree
only_member none = None
only_member (more tag v none) = Some v
only_member (more tag v (more other w es)) = None

-- the one command among members
abbrev pub command_among : Elements → Option (Place × Value)
command_among es = only_member es >>= command_data_in

-- an array of one command
abbrev pub command_in : Tree → Option (Place × Value)
command_in v = array_in v >>= command_among
