-- A read of events is denied exactly where nothing grants.
use Rattle.std.proofs.Common.{◌≡◌, ◌||◌, not, Bool, true, false, List, [], ◌∷◌, Option, Some, None, Result, Ok, Err, refl, sym, ap, ◌∙◌, arith, if◌then◌else◌, ℕ}
use Rattle.std.specs.List.{list_any}
use Rattle.std.specs.Result.{result_unwrap_or}
use Rattle.mt_acl.specs.Access.{implicit_grants, is_granted_if_asked, own_entry_grants}
use Rattle.mt_meta.specs.Finding.{event_of, find_event_of, found, has_cluster, is_endpoint, of_found}
use Rattle.mt_meta.specs.declared.meta.EventMeta.{EventMeta}
use Rattle.mt_model.specs.messages.Blocks.{path_of}
use Rattle.mt_model.specs.messages.Status.{code_of}
use Rattle.mt_model.specs.declared.messages.message.Item.{Item}
use Rattle.mt_model.specs.declared.messages.message.Item.TheVariants.{Attribute, Refused, Event, EventRefused}
use Rattle.mt_model.specs.declared.messages.status.Status.{Status}
use Rattle.mt_model.specs.declared.messages.status.Status.TheVariants.{UnsupportedAccess, UnsupportedCluster, UnsupportedEndpoint, UnsupportedEvent}
use Rattle.mt_model.specs.declared.rows.place.Place.{Place}
use Rattle.mt_model.specs.declared.tables.access.Privilege.{Privilege}
use Rattle.mt_model.specs.declared.tables.access.Privilege.TheVariants.{View}
use Rattle.mt_events.specs.Denials.{DeniesEventsExactly, IsDenied, LeavesOutEventsExactly}
use Rattle.mt_events.specs.Reading.{Asking, is_told, may_see, missing_items, refusal_at}

-- Some privilege is asked everywhere.
asked_of : (there : Result EventMeta Status) → (p : Privilege) × (result_unwrap_or (of_found (λ (meta : EventMeta). Some meta.read) there) (Some View) ≡ Some p)
asked_of (Ok meta) = (meta.read, refl)
asked_of (Err status) = (View, refl)

neither : (a b : Bool) → (a || b) ≡ false → (a ≡ false) × (b ≡ false)
neither true b h = absurd (cc)
neither false b h = (refl, h)

-- the code of a refusal, and something else where there is none
abbrev code_in : List Item → ℕ
code_in [] = 0
code_in (EventRefused path code ∷ items) = code
code_in (Refused path code ∷ items) = 0
code_in (Attribute path version value ∷ items) = 0
code_in (Event e ∷ items) = 0

-- What is missing has another code.
missing_code : (place : Place) (a b : Bool) (there : Option EventMeta)
    → code_in (missing_items place (found (if not a then Some UnsupportedEndpoint else if not b then Some UnsupportedCluster else None) there UnsupportedEvent)) ≡ 0x7e → ⊥
missing_code place false b there h = absurd (omega (arith, h))
missing_code place true false there h = absurd (omega (arith, h))
missing_code place true true None h = absurd (omega (arith, h))
missing_code place true true (Some meta) h = absurd (omega (arith, h))

module _ (asking : Asking) (place : Place) where
  abbrev allowed : Option Privilege → Bool
  allowed asked = is_granted_if_asked asking.entries asking.actor place asked false

  to_denied : may_see asking place ≡ false → IsDenied asking place
  to_denied h =
      let asked = asked_of (find_event_of place) in
      let nothing = neither (implicit_grants asking.actor false) (list_any (own_entry_grants asking.actor place asked.0) asking.entries) (sym (ap allowed asked.1) ∙ h) in
      record { asked = asked.0; is = asked.1; implicit = nothing.0; entries = nothing.1 }

  from_denied : IsDenied asking place → may_see asking place ≡ false
  from_denied d = ap allowed d.is ∙ (λ i. d.implicit i || d.entries i)

  denied_by : (may : Bool) → may_see asking place ≡ may → (if may then missing_items place (find_event_of place) else EventRefused (path_of place) (code_of UnsupportedAccess) ∷ []) ≡ EventRefused (path_of place) 0x7e ∷ [] → IsDenied asking place
  denied_by true is h = absurd (missing_code place (is_endpoint place.endpoint) (has_cluster place.endpoint place.cluster) (event_of place) (ap code_in h))
  denied_by false is h = to_denied is

  is_refused : IsDenied asking place → refusal_at asking place ≡ EventRefused (path_of place) 0x7e ∷ []
  is_refused d = ap (λ (may : Bool). if may then missing_items place (find_event_of place) else EventRefused (path_of place) (code_of UnsupportedAccess) ∷ []) (from_denied d)

pub denies_exactly : DeniesEventsExactly
denies_exactly asking place = (denied_by asking place (may_see asking place) refl, is_refused asking place)

pub leaves_out_exactly : LeavesOutEventsExactly
leaves_out_exactly asking e number named =
    let is : is_told asking e ≡ may_see asking e.place = rw (number, named) refl in
    (λ h. to_denied asking e.place (sym is ∙ h), λ d. is ∙ from_denied asking e.place d)
