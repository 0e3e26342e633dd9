-- What a reader may see of events, and which paths are refused (Matter Core Specification, section 8.4, Read Interaction).
use Rattle.std.specs.Prelude.{ℕ, ◌&&◌, nat_le, Bool, false, List, [], ◌∷◌, Option, Some, None, Result, Ok, Err, if◌then◌else◌}
use Rattle.std.specs.List.{flat_map}
use Rattle.mt_acl.specs.Access.{is_granted_if_asked}
use Rattle.mt_meta.specs.Finding.{find_event_of, privilege_of}
use Rattle.mt_meta.specs.Places.{is_named_by}
use Rattle.mt_meta.specs.declared.finding.Asked.TheVariants as asked
use Rattle.mt_meta.specs.declared.meta.EventMeta.{EventMeta}
use Rattle.mt_model.specs.messages.Blocks.{path_of, place_named}
use Rattle.mt_model.specs.messages.Status.{code_of}
use Rattle.mt_model.specs.rows.Seen.{own_entries}
use Rattle.mt_model.specs.declared.messages.message.Happened.{Happened}
use Rattle.mt_model.specs.declared.messages.message.Item.{Item}
use Rattle.mt_model.specs.declared.messages.message.Item.TheVariants.{EventRefused}
use Rattle.mt_model.specs.declared.messages.message.Path.{Path}
use Rattle.mt_model.specs.declared.messages.status.Status.{Status}
use Rattle.mt_model.specs.declared.messages.status.Status.TheVariants.{UnsupportedAccess}
use Rattle.mt_model.specs.declared.rows.place.Place.{Place}
use Rattle.mt_model.specs.declared.tables.access.AclEntry.{AclEntry}
use Rattle.mt_model.specs.declared.tables.access.Actor.{Actor}

-- What a reader asks: the entries of its fabric, itself, the least number of an event, and the paths.
pub record Asking : Type 0 where
  pub entries : List AclEntry
  pub actor : Actor
  pub minimum : ℕ
  pub paths : List Path

-- what an actor asks, where these are the entries of all fabrics
abbrev pub asking : List AclEntry → Actor → ℕ → List Path → Asking
asking entries actor minimum paths = record { entries = own_entries actor.fabric entries; actor = actor; minimum = minimum; paths = paths }

-- Access.

-- whether the reader may see events of this place, or, where there are none, may learn that
abbrev pub may_see : Asking → Place → Bool
may_see asking place = is_granted_if_asked asking.entries asking.actor place (privilege_of place asked.Event) false

-- An event is told where its number is not below the least, a path names its place, and the reader may see it.
abbrev pub is_told : Asking → Happened → Bool
is_told asking e = nat_le asking.minimum e.number && (is_named_by asking.paths e.place && may_see asking e.place)

-- Refusals of paths that name one place: access comes first, then what there is.

abbrev pub missing_items : Place → Result EventMeta Status → List Item
missing_items place (Ok meta) = []
missing_items place (Err status) = EventRefused (path_of place) (code_of status) ∷ []

abbrev pub refusal_at : Asking → Place → List Item
refusal_at asking place = if may_see asking place then missing_items place (find_event_of place) else EventRefused (path_of place) (code_of UnsupportedAccess) ∷ []

-- a path with a wildcard is never refused
abbrev pub refusal_of : Asking → Option Place → List Item
refusal_of asking None = []
refusal_of asking (Some place) = refusal_at asking place

-- the refused paths, in their order
abbrev pub refusals : Asking → List Item
refusals asking = flat_map (λ path. refusal_of asking (place_named path)) asking.paths
