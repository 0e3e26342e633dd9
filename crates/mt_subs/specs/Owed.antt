-- What is owed to a subscription, and when it is due.
use Rattle.std.specs.Prelude.{ℕ, ◌-◌, ◌*◌, ◌&&◌, ◌||◌, nat_le, Bool, false, IsTrue, List, length, Option, Some, None, filter, if◌then◌else◌}
use Rattle.mt_acl.specs.Access.{is_granted_if_asked}
use Rattle.mt_meta.specs.Finding.{privilege_of}
use Rattle.mt_meta.specs.Places.{all_places, is_named_by}
use Rattle.mt_meta.specs.declared.finding.Asked.TheVariants.{Read}
use Rattle.mt_model.specs.declared.node.state.ChangeNumber.{ChangeNumber}
use Rattle.mt_model.specs.declared.rows.place.Place.{Place}
use Rattle.mt_model.specs.declared.tables.access.AclEntry.{AclEntry}
use Rattle.mt_model.specs.declared.tables.access.Actor.{Actor}
use Rattle.mt_subs.specs.Changes.{is_among, later}
use Rattle.mt_subs.specs.declared.subscription.Kept.{Kept}

-- Places. The entries are those of the subscriber's fabric.

-- whether the subscriber may read the place now
abbrev pub may_read : List AclEntry → Actor → Place → Bool
may_read entries actor place = is_granted_if_asked entries actor place (privilege_of place Read) false

-- The place has changed since the last report, is subscribed to, and may be read now.
abbrev pub is_owed : List AclEntry → Kept → List ChangeNumber → Place → Bool
is_owed entries kept changes place = is_among place (later kept.change changes) && (is_named_by kept.sub.paths place && may_read entries kept.sub.actor place)

-- the places that are owed, ascending and each once
abbrev pub owed : List AclEntry → Kept → List ChangeNumber → List Place
owed entries kept changes = filter (is_owed entries kept changes) all_places

-- Times.

-- at least so many whole seconds lie between the last report and now, both in ms
abbrev pub has_passed : ℕ → ℕ → ℕ → Bool
has_passed seconds last now = nat_le (1000 * seconds) (now - last)

-- A subscription is due where its last report was confirmed and the ceiling has passed; or the floor has, and there is
-- something to tell, a place or an event.
abbrev pub is_due : Kept → ℕ → List Place → Bool → Bool
is_due kept now places unreported = kept.live
    && (has_passed kept.sub.ceiling kept.time now || (has_passed kept.sub.floor kept.time now && (nat_le 1 (length places) || unreported)))

-- what a subscription is owed where it is due, None where it is not or there is none
abbrev pub due_of : List AclEntry → Option Kept → ℕ → List ChangeNumber → Bool → Option (List Place)
due_of entries None now changes unreported = None
due_of entries (Some kept) now changes unreported = if is_due kept now (owed entries kept changes) unreported then Some (owed entries kept changes) else None

-- There is such a subscription, and it is due.
abbrev pub IsDue : List AclEntry → Option Kept → ℕ → List ChangeNumber → Bool → Type 0
IsDue entries None now changes unreported = ⊥
IsDue entries (Some kept) now changes unreported = IsTrue (is_due kept now (owed entries kept changes) unreported)
