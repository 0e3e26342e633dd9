-- The keys that a node's state may have, ascending, and their bytes.
use Rattle.std.specs.Prelude.{ℕ, zero, suc, ◌+◌, ◌/◌, ◌%◌, List, [], ◌∷◌, ◌++◌, map}
use Rattle.std.specs.List.{flat_map}
use Rattle.mt_model.specs.declared.limits.TheConstants.{FABRICS}
use Rattle.mt_model.specs.declared.rows.place.Place.{Place}
use Rattle.mt_grammar.specs.declared.keys.Key.{Key}
use Rattle.mt_grammar.specs.declared.keys.Key.TheVariants as keys

-- The bytes of a key: its kind, and behind it what it is of. Numbers are big-endian.

abbrev pub two_bytes : ℕ → List ℕ
two_bytes n = n / 0x100 ∷ n % 0x100 ∷ []

abbrev pub four_bytes : ℕ → List ℕ
four_bytes n = n / 0x1000000 ∷ n / 0x10000 % 0x100 ∷ n / 0x100 % 0x100 ∷ n % 0x100 ∷ []

abbrev pub place_bytes : Place → List ℕ
place_bytes place = two_bytes place.endpoint ++ (four_bytes place.cluster ++ four_bytes place.leaf)

abbrev pub key_bytes : Key → List ℕ
key_bytes keys.Boot = 1 ∷ []
key_bytes keys.Ceiling = 2 ∷ []
key_bytes (keys.Single place) = 3 ∷ place_bytes place
key_bytes (keys.Items fabric place) = 4 ∷ fabric ∷ place_bytes place
key_bytes (keys.Fabric index) = 5 ∷ index ∷ []
key_bytes keys.Roots = 6 ∷ []
key_bytes keys.Networks = 7 ∷ []
key_bytes keys.Failsafe = 8 ∷ []

-- What is kept of the attributes.

-- the places with one value for the node
abbrev pub single_places : List Place
single_places =
    record { endpoint = 0; cluster = 0x28; leaf = 5 }  -- Basic Information: NodeLabel
    ∷ record { endpoint = 0; cluster = 0x28; leaf = 6 }  -- Location
    ∷ record { endpoint = 0; cluster = 0x30; leaf = 2 }  -- General Commissioning: RegulatoryConfig
    ∷ record { endpoint = 0; cluster = 0x31; leaf = 4 }  -- Network Commissioning: InterfaceEnabled
    ∷ record { endpoint = 1; cluster = 0x06; leaf = 0 }  -- On/Off: OnOff
    ∷ record { endpoint = 1; cluster = 0x41; leaf = 0 }  -- User Label: LabelList
    ∷ record { endpoint = 1; cluster = 0xfff1fc00; leaf = 1 }  -- Bench: Number
    ∷ []

-- the place of the access control list, whose items are entries
abbrev pub acl_place : Place
acl_place = record { endpoint = 0; cluster = 0x1f; leaf = 0 }

-- the other places with items of each fabric, which are rows
abbrev pub item_places : List Place
item_places =
    record { endpoint = 0; cluster = 0x3f; leaf = 0 }  -- Group Key Management: GroupKeyMap
    ∷ record { endpoint = 0; cluster = 0x3f; leaf = 0xfff10000 }  -- the key sets, which are no attribute's
    ∷ record { endpoint = 1; cluster = 0x1e; leaf = 0 }  -- Binding: Binding
    ∷ record { endpoint = 1; cluster = 0xfff1fc00; leaf = 0 }  -- Bench: Items
    ∷ []

-- The keys.

-- so many numbers, from one on
abbrev pub numbers_from : ℕ → ℕ → List ℕ
numbers_from n zero = []
numbers_from n (suc count) = n ∷ numbers_from (n + 1) count

-- the indexes that fabrics may have
abbrev pub indexes : List ℕ
indexes = numbers_from 1 FABRICS

abbrev pub keys_of : ℕ → List Key
keys_of fabric = keys.Items fabric acl_place ∷ map (keys.Items fabric) item_places

abbrev pub all_keys : List Key
all_keys = keys.Boot ∷ keys.Ceiling
    ∷ map keys.Single single_places
    ++ (flat_map keys_of indexes
    ++ (map keys.Fabric indexes
    ++ (keys.Roots ∷ keys.Networks ∷ keys.Failsafe ∷ [])))
