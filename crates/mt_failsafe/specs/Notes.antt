-- What the commands of commissioning note in an armed fail-safe, and when they may (Matter Core Specification, chapter 11,
-- Operational Credentials Cluster).
use Rattle.std.specs.Prelude.{ℕ, ◌==◌, ◌&&◌, ◌||◌, not, is_none, is_some, Bool, false, List, Option, Some, None, if◌then◌else◌}
use Rattle.mt_model.specs.Optional.{is_that}
use Rattle.mt_model.specs.declared.tables.fabric.Credentials.{Credentials}
use Rattle.mt_model.specs.declared.tables.network.Armed.{Armed}

-- no fabric was added since it was armed, and none updated
abbrev pub is_unused : Armed → Bool
is_unused armed = is_none armed.added && is_none armed.updated

-- whether this fabric was added since it was armed, or updated

abbrev pub was_added : ℕ → Option Armed → Bool
was_added fabric None = false
was_added fabric (Some armed) = is_that fabric armed.added

abbrev pub was_updated : ℕ → Option Armed → Bool
was_updated fabric None = false
was_updated fabric (Some armed) = is_that fabric armed.updated

-- it was armed by a fabric, not over PASE
abbrev pub is_of_fabric : Armed → Bool
is_of_fabric armed = not (armed.owner == 0)

-- a signing request was answered that is for a new fabric
abbrev pub is_for_new : Option (List ℕ × Bool) → Bool
is_for_new None = false
is_for_new (Some csr) = not csr.1

-- a signing request was answered that is for an update
abbrev pub is_for_update : Option (List ℕ × Bool) → Bool
is_for_update None = false
is_for_update (Some csr) = csr.1

-- AddTrustedRootCertificate: one root, before a fabric is added or updated.

abbrev pub may_note_root : Option Armed → Bool
may_note_root None = false
may_note_root (Some armed) = is_unused armed && is_none armed.root

abbrev pub with_root : List ℕ → Armed → Armed
with_root cert armed = record armed { root = Some cert }

-- CSRRequest: any number of them, before a fabric is added or updated; none for an update over PASE.

abbrev pub may_note_csr : Bool → Option Armed → Bool
may_note_csr update None = false
may_note_csr update (Some armed) = is_unused armed && (not update || is_of_fabric armed)

abbrev pub with_csr : List ℕ → Bool → Armed → Armed
with_csr nonce update armed = record armed { csr = Some (nonce, update) }

-- AddNOC: under a root and a signing request of this context. Over PASE the new fabric becomes the owner too.

abbrev pub may_note_added : Option Armed → Bool
may_note_added None = false
may_note_added (Some armed) = is_unused armed && (is_some armed.root && is_for_new armed.csr)

abbrev pub owner_behind : ℕ → Bool → ℕ → ℕ
owner_behind index pase owner = if pase then index else owner

abbrev pub with_added : ℕ → Bool → Armed → Armed
with_added index pase armed = record armed { owner = owner_behind index pase armed.owner; context = index; added = Some index }

-- UpdateNOC: of the fabric that armed it, under a signing request of this context and with no root given.

abbrev pub may_note_updated : Option Armed → Bool
may_note_updated None = false
may_note_updated (Some armed) = is_unused armed && (is_of_fabric armed && (is_none armed.root && is_for_update armed.csr))

-- the owner was updated, which had these credentials
abbrev pub with_updated : Credentials → Armed → Armed
with_updated old armed = record armed { updated = Some armed.owner; saved_credentials = Some old }
