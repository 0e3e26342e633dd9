-- The form of a group key set (Matter Core Specification, chapter 11, Group Key Management Cluster), and where those of all fabrics are kept.
use Rattle.std.specs.Prelude.{ℕ, ◌==◌, ◌&&◌, ◌||◌, nat_le, nat_lt, Bool, false, true, List, length, Option, Some, None, option_and_then, unwrap_or}
use Rattle.mt_tlv.specs.Scalars.{octets_in, unsigned_in}
use Rattle.mt_tlv.specs.Tree.{Tree, null, Elements}
use Rattle.mt_model.specs.Trees.{field_in}
use Rattle.mt_model.specs.declared.limits.TheConstants.{EPOCH_KEY_BYTES, LAST_KEY_SET}
use Rattle.mt_model.specs.declared.rows.place.Place.{Place}

-- No path names this place.
abbrev pub key_sets : Place
key_sets = record { endpoint = 0; cluster = 0x3f; leaf = 0xfff10000 }

-- A key set has the fields 0 id and 1 policy, and three keys, each with the time from which it is used: 2 and 3, 4 and 5, 6 and 7.

-- any id but 0, which is that of the set that is always there
abbrev pub is_id : Option ℕ → Bool
is_id None = false
is_id (Some id) = nat_lt 0 id && nat_le id LAST_KEY_SET

-- the one policy that there is
abbrev pub is_policy : Option ℕ → Bool
is_policy None = false
is_policy (Some policy) = policy == 0

abbrev pub is_key : Option (List ℕ) → Bool
is_key None = false
is_key (Some key) = length key == EPOCH_KEY_BYTES

abbrev pub is_later : ℕ → Option ℕ → Bool
is_later time None = false
is_later time (Some start) = nat_lt time start

abbrev pub is_null : Option Tree → Bool
is_null (Some null) = true
is_null field = false

-- the number under a field
abbrev pub number_at : ℕ → Elements → Option ℕ
number_at field es = option_and_then unsigned_in (field_in field es)

-- from when the key of a field is used, which stands behind it; 0 where there is no key
abbrev pub start_of : ℕ → Elements → ℕ
start_of field es = unwrap_or (number_at field es) 0

-- a key stands under this field and its start under the next, later than a time
abbrev pub has_key : ℕ → ℕ → ℕ → Elements → Bool
has_key time key start es = is_key (option_and_then octets_in (field_in key es)) && is_later time (number_at start es)

-- both are null
abbrev pub has_no_key : ℕ → ℕ → Elements → Bool
has_no_key key start es = is_null (field_in key es) && is_null (field_in start es)

-- There is a first key. Each later one is used from a later time on, and none is left out.
abbrev pub keys_rise : Elements → Bool
keys_rise es =
    has_key 0 2 3 es
    && ((has_no_key 4 5 es && has_no_key 6 7 es)
    || (has_key (start_of 3 es) 4 5 es && (has_no_key 6 7 es || has_key (start_of 5 es) 6 7 es)))

abbrev pub is_key_set : Elements → Bool
is_key_set es = is_id (number_at 0 es) && (is_policy (number_at 1 es) && keys_rise es)
