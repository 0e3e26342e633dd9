-- What holds between the tables of a node: whose an entry is, what a root is of, which networks there may be, and what saved
-- credentials are of.
use Rattle.std.specs.Prelude.{ℕ, ◌==◌, ◌&&◌, nat_le, bytes_eq, Bool, false, List, length, Option, Some, None}
use Rattle.std.specs.List.{list_any}
use Rattle.mt_model.specs.texts.Config.{has_identity, has_up_to, is_of}
use Rattle.mt_model.specs.declared.limits.TheConstants.{NETWORK_ID_BYTES, NETWORK_SECRET_BYTES}
use Rattle.mt_model.specs.declared.tables.access.AclEntry.{AclEntry}
use Rattle.mt_model.specs.declared.tables.fabric.Credentials.{Credentials}
use Rattle.mt_model.specs.declared.tables.fabric.Fabric.{Fabric}
use Rattle.mt_model.specs.declared.tables.network.Network.{Network}

-- an entry is of a fabric of the table
abbrev pub is_owned : List Fabric → AclEntry → Bool
is_owned fabrics entry = list_any (λ fabric. is_of fabric entry) fabrics

abbrev pub is_root_of : List ℕ → Fabric → Bool
is_root_of root fabric = bytes_eq fabric.credentials.root root

abbrev pub is_network : Network → Bool
is_network network = has_up_to NETWORK_ID_BYTES network.id && nat_le (length network.secret) NETWORK_SECRET_BYTES

abbrev pub have_one_id : Network → Network → Bool
have_one_id a b = bytes_eq a.id b.id

-- the fabric of this index has the identity that saved credentials have
abbrev pub is_fabric_with : ℕ → Credentials → Fabric → Bool
is_fabric_with index saved fabric = (fabric.index == index) && has_identity saved.root_key saved.fabric_id fabric

-- Saved credentials have the identity of the fabric that was updated, which is in the table.
abbrev pub saves_identity : List Fabric → ℕ → Option Credentials → Bool
saves_identity fabrics index None = false
saves_identity fabrics index (Some saved) = list_any (is_fabric_with index saved) fabrics
