-- What of the fabrics of others is looked at is known to all: indexes, identities and labels. What is looked at of one's own is
-- known whole.
use Rattle.std.proofs.Common.{◌≡◌, ℕ, ◌+◌, ◌==◌, ◌||◌, cond, Bool, true, false, List, [], ◌∷◌, map, Option, Some, None, refl, ap, sym, ◌∙◌, if◌then◌else◌}
use Rattle.std.proofs.lemmas.List.{length-map}
use Rattle.std.specs.List.{find, list_any}
use Rattle.std.specs.Option.{option_map}
use Rattle.mt_tlv.specs.declared.value.Value.{Value}
use Rattle.mt_fabrics.specs.Table.{credentials_at, has_index, has_others_label, is_used, least_unused, unused_from}
use Rattle.mt_model.specs.tables.Known.{bare_armed, bare_credentials, fabric_known_to}
use Rattle.mt_model.specs.texts.Config.{has_identity}
use Rattle.mt_model.specs.declared.rows.place.Place.{Place}
use Rattle.mt_model.specs.declared.tables.fabric.Fabric.{Fabric}
use Rattle.mt_model.specs.declared.tables.network.Armed.{Armed}
use Rattle.mt_model.specs.declared.texts.config.JoinRow.{JoinRow}
use Rattle.mt_model.specs.declared.texts.config.RootRow.{RootRow}
use Rattle.mt_opcreds.specs.AddNoc.{add_if, add_judged, add_refusal, new_credentials}
use Rattle.mt_opcreds.specs.RemoveFabric.{removal_steps}

-- a fabric that is known whole, or without its credentials
abbrev known_as : Bool → Fabric → Fabric
known_as whole fabric = if whole then fabric else record fabric { credentials = bare_credentials fabric.credentials }

-- a test that passes a fabric as it passes what is known of it
abbrev IsPublic : (Fabric → Bool) → Type 0
IsPublic test = (whole : Bool) (fabric : Fabric) → test (known_as whole fabric) ≡ test fabric

any_known : (test : Fabric → Bool) → IsPublic test → (knower : ℕ) (fabrics : List Fabric) → list_any test (map (fabric_known_to knower) fabrics) ≡ list_any test fabrics
any_known test same knower [] = refl
any_known test same knower (fabric ∷ fabrics) = λ i. same (fabric.index == knower) fabric i || any_known test same knower fabrics i

pub others_identities : (knower fabric_id : ℕ) (root_key : List ℕ) (fabrics : List Fabric)
    → list_any (has_identity root_key fabric_id) (map (fabric_known_to knower) fabrics) ≡ list_any (has_identity root_key fabric_id) fabrics
others_identities knower fabric_id root_key fabrics = any_known (has_identity root_key fabric_id) same knower fabrics
  where
    same : IsPublic (has_identity root_key fabric_id)
    same true fabric = refl
    same false fabric = refl

pub others_labels : (knower index : ℕ) (label : List ℕ) (fabrics : List Fabric)
    → list_any (has_others_label index label) (map (fabric_known_to knower) fabrics) ≡ list_any (has_others_label index label) fabrics
others_labels knower index label fabrics = any_known (has_others_label index label) same knower fabrics
  where
    same : IsPublic (has_others_label index label)
    same true fabric = refl
    same false fabric = refl

pub used_indexes : (knower index : ℕ) (fabrics : List Fabric) → is_used index (map (fabric_known_to knower) fabrics) ≡ is_used index fabrics
used_indexes knower index fabrics = any_known (has_index index) same knower fabrics
  where
    same : IsPublic (has_index index)
    same true fabric = refl
    same false fabric = refl

index_known : (whole : Bool) (fabric : Fabric) → (known_as whole fabric).index ≡ fabric.index
index_known true fabric = refl
index_known false fabric = refl

unused_known : (knower index : ℕ) (fabrics : List Fabric) → unused_from index (map (fabric_known_to knower) fabrics) ≡ unused_from index fabrics
unused_known knower index [] = refl
unused_known knower index (fabric ∷ fabrics) = λ i. cond (index_known (fabric.index == knower) fabric i == index) (unused_known knower (index + 1) fabrics i) index

pub unused_indexes : (knower : ℕ) (fabrics : List Fabric) → least_unused (map (fabric_known_to knower) fabrics) ≡ least_unused fabrics
unused_indexes knower fabrics = unused_known knower 1 fabrics

others_refusal : (knower : ℕ) (fabrics : List Fabric) (fields : Value) (nonce : List ℕ) (judged_root : RootRow) (chain : JoinRow)
    → add_refusal (map (fabric_known_to knower) fabrics) fields nonce judged_root chain ≡ add_refusal fabrics fields nonce judged_root chain
others_refusal knower fabrics fields nonce judged_root chain = simp (others_identities, length-map)

pub others_judged : (knower : ℕ) (fabrics : List Fabric) (command : Place) (fields : Value) (nonce root : List ℕ) (judged_root : Option RootRow) (chain : Option JoinRow)
    → add_judged (map (fabric_known_to knower) fabrics) command fields nonce root judged_root chain ≡ add_judged fabrics command fields nonce root judged_root chain
others_judged knower fabrics command fields nonce root None None = refl
others_judged knower fabrics command fields nonce root None (Some chain) = refl
others_judged knower fabrics command fields nonce root (Some judged_root) None = refl
others_judged knower fabrics command fields nonce root (Some judged_root) (Some chain) = λ i.
    add_if (unused_indexes knower fabrics i) command fields (new_credentials fields root judged_root chain) (others_refusal knower fabrics fields nonce judged_root chain i)

-- the fabric's own credentials

own_at : (whole : Bool) (index : ℕ) (fabric : Fabric) (known fabrics : List Fabric) → (fabric.index == index) ≡ whole → find (has_index index) known ≡ find (has_index index) fabrics
    → find (has_index index) (known_as whole fabric ∷ known) ≡ find (has_index index) (fabric ∷ fabrics)
own_at true index fabric known fabrics is rest = ap (λ (own : Bool). cond own (Some fabric) (find (has_index index) known)) is ∙ sym (ap (λ (own : Bool). cond own (Some fabric) (find (has_index index) fabrics)) is)
own_at false index fabric known fabrics is rest = ap (λ (own : Bool). cond own (Some (known_as false fabric)) (find (has_index index) known)) is ∙ rest ∙ sym (ap (λ (own : Bool). cond own (Some fabric) (find (has_index index) fabrics)) is)

own_known : (index : ℕ) (fabrics : List Fabric) → find (has_index index) (map (fabric_known_to index) fabrics) ≡ find (has_index index) fabrics
own_known index [] = refl
own_known index (fabric ∷ fabrics) = own_at (fabric.index == index) index fabric (map (fabric_known_to index) fabrics) fabrics refl (own_known index fabrics)

pub own_credentials : (index : ℕ) (fabrics : List Fabric) → credentials_at index (map (fabric_known_to index) fabrics) ≡ credentials_at index fabrics
own_credentials index fabrics = ap (option_map (λ (fabric : Fabric). fabric.credentials)) (own_known index fabrics)

-- nothing that an expiry gives back is looked at
pub bare_removal : (index : ℕ) (armed : Option Armed) → removal_steps index (option_map bare_armed armed) ≡ removal_steps index armed
bare_removal index None = refl
bare_removal index (Some armed) = refl
