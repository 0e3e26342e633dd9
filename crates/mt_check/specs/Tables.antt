-- The fields of each row: how it is called, whether it must be there, and what it must be.
use Rattle.std.specs.Prelude.{ℕ, Bool, true, false, List, [], ◌∷◌, codes}
use Rattle.mt_check.specs.declared.forms.Field.{Field}
use Rattle.mt_check.specs.declared.forms.Form.{Form}
use Rattle.mt_check.specs.declared.forms.Form.TheVariants as forms

abbrev pub Row : Type 0
Row = List ℕ × Bool × Form

abbrev pub row : Field → Row
row field = (field.name.now, field.needed, field.form)

-- the lists of a configuration
abbrev pub object_fields : List Row
object_fields =
    (codes "fabrics", false, forms.List 16)
    ∷ (codes "sessions", false, forms.List 64)
    ∷ (codes "roots", false, forms.List 16)
    ∷ (codes "csrs", false, forms.List 16)
    ∷ (codes "joins", false, forms.List 16)
    ∷ (codes "reachable", false, forms.List 4)
    ∷ []

-- a fabric
abbrev pub fabric_fields : List Row
fabric_fields =
    (codes "root", true, forms.Bytes 1 400)
    ∷ (codes "root_key", true, forms.Bytes 65 65)
    ∷ (codes "fabric_id", true, forms.Id)
    ∷ (codes "node_id", true, forms.Node)
    ∷ (codes "noc", true, forms.Bytes 1 400)
    ∷ (codes "icac", true, forms.Bytes 0 400)
    ∷ (codes "ipk", true, forms.Bytes 16 16)
    ∷ (codes "vendor", true, forms.Number 0 65535)
    ∷ (codes "label", true, forms.Text 32)
    ∷ (codes "acl", false, forms.List 4)
    ∷ []

-- an access control entry
abbrev pub entry_fields : List Row
entry_fields =
    (codes "privilege", true, forms.Number 1 5)
    ∷ (codes "mode", true, forms.Number 2 3)
    ∷ (codes "subjects", false, forms.List 4)
    ∷ (codes "targets", false, forms.List 3)
    ∷ []

-- a target of an entry
abbrev pub target_fields : List Row
target_fields =
    (codes "cluster", false, forms.NumberOrNull 4294967295)
    ∷ (codes "endpoint", false, forms.NumberOrNull 65535)
    ∷ (codes "device", false, forms.NumberOrNull 4294967295)
    ∷ []

-- a session, on PASE and on CASE
abbrev pub session_fields : List Row
session_fields =
    (codes "session", true, forms.Number 1 65535)
    ∷ (codes "peer_session", true, forms.Number 1 65535)
    ∷ (codes "boot", true, forms.Number 1 4294967295)
    ∷ (codes "mode", true, forms.Number 1 2)
    ∷ (codes "cats", false, forms.List 3)
    ∷ (codes "key_in", true, forms.Bytes 16 16)
    ∷ (codes "key_out", true, forms.Bytes 16 16)
    ∷ (codes "counter_in", true, forms.Number 0 4294967295)
    ∷ (codes "counter_out", true, forms.Number 0 4294967295)
    ∷ []

-- a session, on CASE alone
abbrev pub owner_fields : List Row
owner_fields =
    (codes "root_key", true, forms.Bytes 65 65)
    ∷ (codes "fabric_id", true, forms.Id)
    ∷ (codes "own_node", true, forms.Id)
    ∷ (codes "peer_node", true, forms.Id)
    ∷ []

-- a verdict on a root certificate
abbrev pub root_fields : List Row
root_fields =
    (codes "cert", true, forms.Bytes 1 400)
    ∷ (codes "key", true, forms.Bytes 65 65)
    ∷ []

-- an answer to a request for a certificate signing request
abbrev pub csr_fields : List Row
csr_fields =
    (codes "nonce", true, forms.Bytes 32 32)
    ∷ (codes "elements", true, forms.Bytes 1 400)
    ∷ (codes "signature", true, forms.Bytes 64 64)
    ∷ []

-- a verdict on a chain of certificates
abbrev pub join_fields : List Row
join_fields =
    (codes "root", true, forms.Bytes 1 400)
    ∷ (codes "noc", true, forms.Bytes 1 400)
    ∷ (codes "icac", true, forms.Bytes 0 400)
    ∷ (codes "nonce", true, forms.Bytes 32 32)
    ∷ (codes "fabric_id", true, forms.Id)
    ∷ (codes "node_id", true, forms.Id)
    ∷ []
