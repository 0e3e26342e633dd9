-- Whether an actor is granted a privilege at a place, and by what (Matter Core Specification, section 6.6,
-- Access Control).
use Rattle.std.specs.Prelude.{ℕ, ◌≡◌, ◌/◌, ◌%◌, ◌^◌, ◌==◌, nat_le, not, ◌&&◌, ◌||◌, if◌then◌else◌, Bool, true, false, IsTrue, IsFalse, List, [], ◌∷◌, Option, Some, None, position, slice_get}
use Rattle.std.specs.List.{AllWithin, list_any}
use Rattle.std.specs.Option.{option_map}
use Rattle.mt_model.specs.Optional.{fits, is_that}
use Rattle.mt_model.specs.tables.Access.{includes}
use Rattle.mt_model.specs.rows.Devices.{device_of}
use Rattle.mt_model.specs.declared.tables.access.AclEntry.{AclEntry}
use Rattle.mt_model.specs.declared.tables.access.Actor.{Actor}
use Rattle.mt_model.specs.declared.tables.access.Auth.{Auth}
use Rattle.mt_model.specs.declared.tables.access.Auth.TheVariants.{Pase, Case, Group}
use Rattle.mt_model.specs.declared.tables.access.Privilege.{Privilege}
use Rattle.mt_model.specs.declared.tables.access.Target.{Target}
use Rattle.mt_model.specs.declared.rows.place.Place.{Place}
use Rattle.mt_acl.specs.declared.granting.Grant.{Grant}
use Rattle.mt_acl.specs.declared.granting.Grant.TheVariants.{Implicit, Entry}

-- Mode.

abbrev pub same_auth : Auth → Auth → Bool
same_auth Pase Pase = true
same_auth Case Case = true
same_auth Group Group = true
same_auth a b = false

-- Subjects.

-- A subject that is a CAT has 0xfffffffd in its upper half, then the identifier and the version.
-- It names whoever has a CAT of this identifier and of this version or a later one. The version of a
-- CAT is never 0, so the number 0, which stands for no CAT, is named by none.
abbrev pub names_cat : ℕ → ℕ → Bool
names_cat subject cat = subject / 2 ^ 32 == 0xfffffffd && (subject / 2 ^ 16 % 2 ^ 16 == cat / 2 ^ 16 && (nat_le 1 (cat % 2 ^ 16) && nat_le (subject % 2 ^ 16) (cat % 2 ^ 16)))

-- the subject is the actor's node id or names one of its CATs
abbrev pub names_actor : Actor → ℕ → Bool
names_actor actor subject = subject == actor.node || list_any (names_cat subject) actor.cats

-- no subjects stand for every actor
abbrev pub fits_subjects : List ℕ → Actor → Bool
fits_subjects [] actor = true
fits_subjects (subject ∷ subjects) actor = list_any (names_actor actor) (subject ∷ subjects)

-- Targets.

-- the device type of an endpoint that is not there fits no field
abbrev pub fits_device : Option ℕ → Option ℕ → Bool
fits_device None device = true
fits_device (Some wanted) device = is_that wanted device

abbrev pub fits_target : Place → Target → Bool
fits_target place target = fits target.endpoint place.endpoint && (fits target.cluster place.cluster && fits_device target.device (device_of place.endpoint))

-- no targets stand for every place
abbrev pub fits_targets : List Target → Place → Bool
fits_targets [] place = true
fits_targets (target ∷ targets) place = list_any (fits_target place) (target ∷ targets)

-- Entries.

-- The entry has the actor's mode, names the actor, reaches the place and includes the privilege.
abbrev pub entry_grants : Actor → Place → Privilege → AclEntry → Bool
entry_grants actor place asked entry = same_auth entry.auth actor.auth && (fits_subjects entry.subjects actor && (fits_targets entry.targets place && includes entry.privilege asked))

-- the entry is of the actor's own fabric
abbrev pub is_own : Actor → AclEntry → Bool
is_own actor entry = entry.fabric == actor.fabric

-- an entry of another fabric grants nothing
abbrev pub own_entry_grants : Actor → Place → Privilege → AclEntry → Bool
own_entry_grants actor place asked entry = is_own actor entry && entry_grants actor place asked entry

-- The implicit entry. Whoever commissions the node over PASE may do all, but that, while the session has no fabric,
-- it may change nothing that is scoped by fabric.

abbrev pub is_over_pase : Actor → Bool
is_over_pase actor = same_auth actor.auth Pase

abbrev pub implicit_grants : Actor → Bool → Bool
implicit_grants actor scoped_change = is_over_pase actor && (not (actor.fabric == 0) || not scoped_change)

-- Grants.

-- What grants: the implicit entry where it does, otherwise the first entry that does, by its index among all entries.
-- Whether a fabric-scoped attribute is written, or a fabric-scoped command is called, is told by `scoped_change`.
abbrev pub grant_of : List AclEntry → Actor → Place → Privilege → Bool → Option Grant
grant_of entries actor place asked scoped_change = if implicit_grants actor scoped_change then Some Implicit else option_map Entry (position (own_entry_grants actor place asked) entries)

-- whether anything grants
abbrev pub is_granted : List AclEntry → Actor → Place → Privilege → Bool → Bool
is_granted entries actor place asked scoped_change = implicit_grants actor scoped_change || list_any (own_entry_grants actor place asked) entries

-- whether what is asked is granted; nobody needs a grant where no privilege is asked
abbrev pub is_granted_if_asked : List AclEntry → Actor → Place → Option Privilege → Bool → Bool
is_granted_if_asked entries actor place None scoped_change = true
is_granted_if_asked entries actor place (Some asked) scoped_change = is_granted entries actor place asked scoped_change

-- The entry of this index grants, and none before it does.
pub record IsFirstToGrant (entries : List AclEntry) (actor : Actor) (place : Place) (asked : Privilege) (index : ℕ) : Type 0 where
  pub entry : AclEntry
  pub stands : slice_get entries index ≡ Some entry
  pub grants : IsTrue (own_entry_grants actor place asked entry)
  pub none_before : AllWithin (λ earlier. IsFalse (own_entry_grants actor place asked earlier)) entries 0 index

-- an index is that of the first entry to grant
abbrev pub NamesFirst : List AclEntry → Actor → Place → Privilege → Grant → Type 0
NamesFirst entries actor place asked Implicit = Unit {0}
NamesFirst entries actor place asked (Entry index) = IsFirstToGrant entries actor place asked index
