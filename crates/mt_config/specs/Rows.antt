-- The rows of a configuration: for each kind its fields, each with the form that it has. What the rows
-- must be besides (lengths, ranges, valid entries, what differs) stands with the model, in `are_fabrics`
-- and its like.
use Rattle.std.specs.Prelude.{ℕ, ◌==◌, ◌%◌, ◌^◌, if◌then◌else◌, List, [], ◌∷◌, codes, Option, Some, None}
use Rattle.serde_json.specs.Data.{Data}
use Rattle.serde_json.specs.Find.{get_item, as_str}
use Rattle.mt_model.specs.tables.Entries.{mode_numbered, privilege_numbered}
use Rattle.mt_model.specs.declared.tables.access.AclEntry.{AclEntry}
use Rattle.mt_model.specs.declared.tables.access.Auth.{Auth}
use Rattle.mt_model.specs.declared.tables.access.Auth.TheVariants.{Pase, Case, Group}
use Rattle.mt_model.specs.declared.tables.access.Privilege.{Privilege}
use Rattle.mt_model.specs.declared.tables.access.Target.{Target}
use Rattle.mt_model.specs.declared.texts.config.CsrRow.{CsrRow}
use Rattle.mt_model.specs.declared.texts.config.JoinRow.{JoinRow}
use Rattle.mt_model.specs.declared.texts.config.RootRow.{RootRow}
use Rattle.mt_model.specs.declared.texts.config.SessionRow.{SessionRow}
use Rattle.mt_model.specs.declared.tables.fabric.Credentials.{Credentials}
use Rattle.mt_model.specs.declared.tables.fabric.Fabric.{Fabric}
use Rattle.mt_model.specs.declared.limits.TheConstants.{ENTRIES, SUBJECTS, TARGETS, CATS}
use Rattle.mt_config.specs.declared.rows.Ids.{Ids}
use Rattle.mt_config.specs.declared.rows.Keys.{Keys}
use Rattle.mt_config.specs.declared.rows.Owner.{Owner}
use Rattle.mt_config.specs.Json.{◌>>=◌, octets, octets_of, id, number, field, optional, items_of, each, list_of}

-- whole numbers of 8, 16 and 32 bits
abbrev pub number8 : Data → Option ℕ
number8 = number 255

abbrev pub number16 : Data → Option ℕ
number16 = number 65535

abbrev pub number32 : Data → Option ℕ
number32 = number 4294967295

-- Access control entries.

unfoldable pub privilege : Data → Option Privilege
privilege d = do
  n ← number8 d
  privilege_numbered n

unfoldable pub mode : Data → Option Auth
mode d = do
  n ← number8 d
  mode_numbered n

unfoldable pub target : Data → Option Target
target d = do
  cluster ← optional (codes "cluster") number32 d
  endpoint ← optional (codes "endpoint") number16 d
  device ← optional (codes "device") number32 d
  Some (record { cluster = cluster; endpoint = endpoint; device = device })

-- an entry of the fabric with this index
unfoldable pub entry_of : ℕ → Data → Option AclEntry
entry_of fabric d = do
  privilege ← field (codes "privilege") privilege d
  auth ← field (codes "mode") mode d
  subjects ← list_of (codes "subjects") SUBJECTS id d
  targets ← list_of (codes "targets") TARGETS target d
  Some (record { privilege = privilege; auth = auth; subjects = subjects; targets = targets; fabric = fabric })

unfoldable pub entries_of : ℕ → Data → Option (List AclEntry)
entries_of fabric d = do
  items ← items_of (codes "acl") ENTRIES d
  each (entry_of fabric) items

-- Fabrics.

unfoldable pub credentials : Data → Option Credentials
credentials d = do
  root ← field (codes "root") octets d
  root_key ← field (codes "root_key") octets d
  fabric_id ← field (codes "fabric_id") id d
  node_id ← field (codes "node_id") id d
  noc ← field (codes "noc") octets d
  icac ← field (codes "icac") octets d
  ipk ← field (codes "ipk") octets d
  Some (record { root = root; root_key = root_key; fabric_id = fabric_id; node_id = node_id; noc = noc; icac = icac; ipk = ipk })

unfoldable pub fabric_of : ℕ → Data → Option Fabric
fabric_of index d = do
  credentials ← credentials d
  vendor ← field (codes "vendor") number16 d
  label ← field (codes "label") as_str d
  Some (record { index = index; credentials = credentials; vendor = vendor; label = label })

-- Sessions.

unfoldable pub owner : Auth → Data → Option Owner
owner Pase d = Some (record { root_key = []; fabric_id = 0; own_node = 0; peer_node = 0 })
owner Case d = do
  root_key ← field (codes "root_key") octets d
  fabric_id ← field (codes "fabric_id") id d
  own_node ← field (codes "own_node") id d
  peer_node ← field (codes "peer_node") id d
  Some (record { root_key = root_key; fabric_id = fabric_id; own_node = own_node; peer_node = peer_node })
owner Group d = None

-- a CAT has a version, its lower 16 bits, that is not 0
unfoldable pub cat : Data → Option ℕ
cat d = do
  n ← number32 d
  if n % 2 ^ 16 == 0 then None else Some n

-- 0 where there is none
abbrev pub cat_or_none : Option Data → Option ℕ
cat_or_none None = Some 0
cat_or_none (Some d) = cat d

unfoldable pub cats : Data → Option (List ℕ)
cats d = do
  items ← items_of (codes "cats") CATS d
  first ← cat_or_none (get_item 0 items)
  second ← cat_or_none (get_item 1 items)
  third ← cat_or_none (get_item 2 items)
  Some (first ∷ second ∷ third ∷ [])

unfoldable pub ids : Data → Option Ids
ids d = do
  session ← field (codes "session") number16 d
  peer_session ← field (codes "peer_session") number16 d
  boot ← field (codes "boot") number32 d
  auth ← field (codes "mode") mode d
  Some (record { session = session; peer_session = peer_session; boot = boot; auth = auth })

unfoldable pub keys : Data → Option Keys
keys d = do
  key_in ← field (codes "key_in") (octets_of 16) d
  key_out ← field (codes "key_out") (octets_of 16) d
  counter_in ← field (codes "counter_in") number32 d
  counter_out ← field (codes "counter_out") number32 d
  Some (record { key_in = key_in; key_out = key_out; counter_in = counter_in; counter_out = counter_out })

unfoldable pub session : Data → Option SessionRow
session d = do
  ids ← ids d
  owner ← owner ids.auth d
  cats ← cats d
  keys ← keys d
  Some (record {
    session = ids.session;
    peer_session = ids.peer_session;
    boot = ids.boot;
    auth = ids.auth;
    root_key = owner.root_key;
    fabric_id = owner.fabric_id;
    own_node = owner.own_node;
    peer_node = owner.peer_node;
    cats = cats;
    key_in = keys.key_in;
    key_out = keys.key_out;
    counter_in = keys.counter_in;
    counter_out = keys.counter_out;
  })

-- Verdicts.

unfoldable pub root : Data → Option RootRow
root d = do
  cert ← field (codes "cert") octets d
  key ← field (codes "key") octets d
  Some (record { cert = cert; key = key })

unfoldable pub csr : Data → Option CsrRow
csr d = do
  nonce ← field (codes "nonce") octets d
  elements ← field (codes "elements") octets d
  signature ← field (codes "signature") octets d
  Some (record { nonce = nonce; elements = elements; signature = signature })

unfoldable pub join : Data → Option JoinRow
join d = do
  root ← field (codes "root") octets d
  noc ← field (codes "noc") octets d
  icac ← field (codes "icac") octets d
  nonce ← field (codes "nonce") octets d
  fabric_id ← field (codes "fabric_id") id d
  node_id ← field (codes "node_id") id d
  Some (record { root = root; noc = noc; icac = icac; nonce = nonce; fabric_id = fabric_id; node_id = node_id })
