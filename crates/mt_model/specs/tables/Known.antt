-- What a fabric knows of the fabrics, the networks and the fail-safe of the node: its own credentials whole, of other fabrics who
-- they are, no network's secret, and nothing of what an expiry gives back.
use Rattle.std.specs.Prelude.{ℕ, ◌==◌, List, [], Option, None, map, option_copied, if◌then◌else◌}
use Rattle.std.specs.Option.{option_map}
use Rattle.mt_model.specs.declared.rows.sight.View.{View}
use Rattle.mt_model.specs.declared.tables.fabric.Credentials.{Credentials}
use Rattle.mt_model.specs.declared.tables.fabric.Fabric.{Fabric}
use Rattle.mt_model.specs.declared.tables.network.Armed.{Armed}
use Rattle.mt_model.specs.declared.tables.network.Network.{Network}

-- what others may know of credentials: the identity, and the node id
abbrev pub bare_credentials : Credentials → Credentials
bare_credentials credentials = record credentials { root = []; noc = []; icac = []; ipk = [] }

-- a fabric as it is known to one
abbrev pub fabric_known_to : ℕ → Fabric → Fabric
fabric_known_to fabric other = if other.index == fabric then other else record other { credentials = bare_credentials other.credentials }

-- a network without its secret
abbrev pub bare_network : Network → Network
bare_network network = record network { secret = [] }

-- the fail-safe without saved values
abbrev pub bare_armed : Armed → Armed
bare_armed armed = record armed { saved_credentials = None; saved_networks = [] }

pub record Known : Type 0 where
  pub fabrics : List Fabric
  pub networks : List Network
  pub armed : Option Armed

abbrev pub known_to : ℕ → List Fabric → List Network → Option Armed → Known
known_to fabric fabrics networks armed = record {
  fabrics = map (fabric_known_to fabric) fabrics;
  networks = map bare_network networks;
  armed = option_map bare_armed armed;
}

-- what a fabric knows of the parts of a state that are lent
abbrev pub known_in : ℕ → View → Known
known_in fabric view = known_to fabric view.fabrics.now view.networks.now (option_copied view.armed)
