-- What a key of durable state is: a kind, and behind it what it is of. Numbers are big-endian, and no byte stands behind them.
use Rattle.std.specs.Prelude.{ℕ, ◌+◌, ◌*◌, ◌==◌, ◌&&◌, nat_le, Bool, List, [], ◌∷◌, Option, Some, None, length, slice_index, option_map, if◌then◌else◌}
use Rattle.mt_model.specs.declared.limits.TheConstants.{FABRICS}
use Rattle.mt_model.specs.declared.rows.place.Place.{Place}
use Rattle.mt_grammar.specs.declared.keys.Key.{Key}
use Rattle.mt_grammar.specs.declared.keys.Key.TheVariants as keys

-- Numbers of two and of four bytes, the highest first.

abbrev pub two_bytes : ℕ → ℕ → ℕ
two_bytes a b = a * 256 + b

abbrev pub four_bytes : ℕ → ℕ → ℕ → ℕ → ℕ
four_bytes a b c d = ((a * 256 + b) * 256 + c) * 256 + d

-- endpoint in two bytes, cluster and attribute in four each
abbrev pub place_in : List ℕ → Option Place
place_in bytes = if length bytes == 10 then Some (record {
  endpoint = two_bytes (slice_index bytes 0) (slice_index bytes 1);
  cluster = four_bytes (slice_index bytes 2) (slice_index bytes 3) (slice_index bytes 4) (slice_index bytes 5);
  leaf = four_bytes (slice_index bytes 6) (slice_index bytes 7) (slice_index bytes 8) (slice_index bytes 9);
}) else None

-- the index of a fabric: there is none above the most fabrics
abbrev pub is_index : ℕ → Bool
is_index index = nat_le 1 index && nat_le index FABRICS

-- What stands behind the kind.

abbrev pub alone : Key → List ℕ → Option Key
alone key [] = Some key
alone key (byte ∷ bytes) = None

abbrev pub with_place : (Place → Key) → List ℕ → Option Key
with_place key bytes = option_map key (place_in bytes)

abbrev pub items_key : List ℕ → Option Key
items_key [] = None
items_key (index ∷ bytes) = if is_index index then with_place (keys.Items index) bytes else None

abbrev pub fabric_key : List ℕ → Option Key
fabric_key [] = None
fabric_key (index ∷ bytes) = if is_index index then alone (keys.Fabric index) bytes else None

abbrev pub key_of : ℕ → List ℕ → Option Key
key_of kind bytes = if kind == 1 then alone keys.Boot bytes
    else if kind == 2 then alone keys.Ceiling bytes
    else if kind == 3 then with_place keys.Single bytes
    else if kind == 4 then items_key bytes
    else if kind == 5 then fabric_key bytes
    else if kind == 6 then alone keys.Roots bytes
    else if kind == 7 then alone keys.Networks bytes
    else if kind == 8 then alone keys.Failsafe bytes
    else None

-- the key that bytes are, None where they are none
abbrev pub key_in : List ℕ → Option Key
key_in [] = None
key_in (kind ∷ bytes) = key_of kind bytes
