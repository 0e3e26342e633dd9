-- A read is denied exactly where nothing grants.
use Rattle.std.proofs.Common.{◌≡◌, ◌⊎◌, inl, inr, ℕ, ◌||◌, not, Bool, true, false, List, [], ◌∷◌, Option, Some, None, Result, Ok, Err, refl, sym, ap, ◌∙◌, arith, if◌then◌else◌}
use Rattle.std.specs.List.{list_any}
use Rattle.std.specs.Result.{result_unwrap_or}
use Rattle.mt_acl.specs.Access.{implicit_grants, is_granted_if_asked, own_entry_grants}
use Rattle.mt_meta.specs.Finding.{attribute_of, find_of, found, has_cluster, is_endpoint, of_found}
use Rattle.mt_meta.specs.declared.meta.Meta.{Meta}
use Rattle.mt_model.specs.messages.Blocks.{path_of}
use Rattle.mt_model.specs.rows.Seen.{Seen}
use Rattle.mt_model.specs.messages.Status.{code_of}
use Rattle.mt_model.specs.declared.tables.access.Actor.{Actor}
use Rattle.mt_model.specs.declared.tables.access.Privilege.{Privilege}
use Rattle.mt_model.specs.declared.tables.access.Privilege.TheVariants.{View}
use Rattle.mt_model.specs.declared.messages.message.Item.{Item}
use Rattle.mt_model.specs.declared.messages.message.Item.TheVariants.{Attribute, Refused, Event, EventRefused}
use Rattle.mt_model.specs.declared.rows.place.Place.{Place}
use Rattle.mt_model.specs.declared.node.state.Version.{Version}
use Rattle.mt_model.specs.declared.messages.status.Status.{Status}
use Rattle.mt_model.specs.declared.messages.status.Status.TheVariants.{UnsupportedAccess, UnsupportedAttribute, UnsupportedCluster, UnsupportedEndpoint}
use Rattle.mt_read.specs.Denials.{DeniesReadsExactly, IsDenied, LeavesOutAttributesExactly}
use Rattle.mt_read.specs.Reading.{concrete_items, data_items, found_items, granted_items, is_known, may_read, value_of, wildcard_items}

-- Some privilege is asked everywhere.
asked_of : (there : Result Meta Status) → (p : Privilege) × (result_unwrap_or (of_found (λ (meta : Meta). Some meta.read) there) (Some View) ≡ Some p)
asked_of (Ok meta) = (meta.read, refl)
asked_of (Err status) = (View, refl)

or_false : (a b : Bool) → (a || b) ≡ false → (a ≡ false) × (b ≡ false)
or_false true b h = absurd (cc)
or_false false b h = (refl, h)

module _ (seen : Seen) (actor : Actor) (place : Place) where
  abbrev allowed : Option Privilege → Bool
  allowed asked = is_granted_if_asked seen.entries actor place asked false

  to_denied : may_read seen actor place ≡ false → IsDenied seen actor place
  to_denied h =
      let asked = asked_of (find_of place) in
      let nothing = or_false (implicit_grants actor false) (list_any (own_entry_grants actor place asked.0) seen.entries) (sym (ap allowed asked.1) ∙ h) in
      record { asked = asked.0; is = asked.1; implicit = nothing.0; entries = nothing.1 }

  from_denied : IsDenied seen actor place → may_read seen actor place ≡ false
  from_denied d = ap allowed d.is ∙ (λ i. d.implicit i || d.entries i)

-- the code of a refusal, and something else where there is none
abbrev code_in : List Item → ℕ
code_in [] = 0
code_in (Refused path code ∷ items) = code
code_in (Attribute path version value ∷ items) = 0
code_in (Event e ∷ items) = 0
code_in (EventRefused path code ∷ items) = 0

-- What is missing has another code.
missing_code : (a b : Bool) (there : Option Meta) → (k : Result Meta Status → ℕ) → (k (Err UnsupportedEndpoint) ≡ 0x7f) → (k (Err UnsupportedCluster) ≡ 0xc3) → (k (Err UnsupportedAttribute) ≡ 0x86) → ((meta : Meta) → k (Ok meta) ≡ 0)
    → k (found (if not a then Some UnsupportedEndpoint else if not b then Some UnsupportedCluster else None) there UnsupportedAttribute) ≡ 0x7e → ⊥
missing_code false b there k e c u o h = omega (arith, e, h)
missing_code true false there k e c u o h = omega (arith, c, h)
missing_code true true None k e c u o h = omega (arith, u, h)
missing_code true true (Some meta) k e c u o h = omega (arith, o meta, h)

no_code : (known : Bool) (item : Item) → code_in (item ∷ []) ≡ 0 → code_in (if known then [] else item ∷ []) ≡ 0
no_code true item h = refl
no_code false item h = h

module _ (seen : Seen) (actor : Actor) (filtered : Bool) (versions : List Version) (place : Place) where
  granted_otherwise : code_in (found_items seen actor filtered versions place (find_of place)) ≡ 0x7e → ⊥
  granted_otherwise h = missing_code (is_endpoint place.endpoint) (has_cluster place.endpoint place.cluster) (attribute_of place) (λ there. code_in (found_items seen actor filtered versions place there)) refl refl refl
      (λ meta. no_code (is_known seen versions place) (Attribute (path_of place) (seen.version_of place.endpoint place.cluster) (value_of seen actor filtered place meta)) refl) h

  denied_by : (may : Bool) → may_read seen actor place ≡ may → (if may then found_items seen actor filtered versions place (find_of place) else Refused (path_of place) (code_of UnsupportedAccess) ∷ []) ≡ Refused (path_of place) 0x7e ∷ [] → IsDenied seen actor place
  denied_by true is h = absurd (granted_otherwise (ap code_in h))
  denied_by false is h = to_denied seen actor place is

  is_refused : IsDenied seen actor place → concrete_items seen actor filtered versions place ≡ Refused (path_of place) 0x7e ∷ []
  is_refused d = ap (λ (may : Bool). if may then found_items seen actor filtered versions place (find_of place) else Refused (path_of place) (code_of UnsupportedAccess) ∷ []) (from_denied seen actor place d)

  left_out_by : (may known : Bool) (item : Item) → may_read seen actor place ≡ may → is_known seen versions place ≡ known → (if may then (if known then [] else item ∷ []) else []) ≡ [] → IsDenied seen actor place ⊎ (is_known seen versions place ≡ true)
  left_out_by false known item is at h = inl (to_denied seen actor place is)
  left_out_by true true item is at h = inr at
  left_out_by true false item is at h = absurd (cc)

  is_left_out : (may known : Bool) (item : Item) → (may ≡ false) ⊎ (known ≡ true) → (if may then (if known then [] else item ∷ []) else []) ≡ []
  is_left_out false known item h = refl
  is_left_out true true item h = refl
  is_left_out true false item (inl h) = absurd (cc)
  is_left_out true false item (inr h) = absurd (cc)

  either_way : IsDenied seen actor place ⊎ (is_known seen versions place ≡ true) → (may_read seen actor place ≡ false) ⊎ (is_known seen versions place ≡ true)
  either_way (inl d) = inl (from_denied seen actor place d)
  either_way (inr k) = inr k

pub denies_exactly : DeniesReadsExactly
denies_exactly seen actor filtered versions place = (denied_by seen actor filtered versions place (may_read seen actor place) refl, is_refused seen actor filtered versions place)

pub leaves_out_exactly : LeavesOutAttributesExactly
leaves_out_exactly seen actor filtered versions place meta there =
    let item = Attribute (path_of place) (seen.version_of place.endpoint place.cluster) (value_of seen actor filtered place meta) in
    let is : wildcard_items seen actor filtered versions place ≡ (if may_read seen actor place then data_items seen actor filtered versions place meta else []) = ap (λ r. if may_read seen actor place then granted_items seen actor filtered versions place r else []) there in (
      λ h. left_out_by seen actor filtered versions place (may_read seen actor place) (is_known seen versions place) item refl refl (sym is ∙ h),
      λ h. is ∙ is_left_out seen actor filtered versions place (may_read seen actor place) (is_known seen versions place) item (either_way seen actor filtered versions place h),
    )
