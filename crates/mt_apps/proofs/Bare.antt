-- Computed rows as a fabric sees them.
use Rattle.std.proofs.Common.{◌≡◌, ◌==◌, ◌&&◌, ◌||◌, ℕ, Bool, true, false, Some, refl, ap, ◌∙◌, if◌then◌else◌}
use Rattle.std.proofs.lemmas.Bool.{and_parts, eqb-true}
use Rattle.mt_tlv.specs.declared.value.Value.{Value}
use Rattle.mt_model.specs.tables.Entries.{entry_value}
use Rattle.mt_model.specs.rows.Order.{row_at}
use Rattle.mt_model.specs.rows.Shown.{shown_value}
use Rattle.mt_model.specs.rows.Sight.{bare_value, is_acl, is_nocs, seen_by}
use Rattle.mt_model.specs.declared.rows.place.Place.{Place}
use Rattle.mt_model.specs.declared.tables.access.AclEntry.{AclEntry}
use Rattle.mt_model.specs.declared.tables.fabric.Fabric.{Fabric}
use Rattle.mt_apps.specs.Computed.{value_rows}
use Rattle.mt_apps.specs.Lists.{fabric_alone}
use Rattle.mt_apps.specs.OperationalCredentials.{fabric_value, is_fabrics, noc_value}

pub seen_whole : (fabric : ℕ) (place : Place) (owner : ℕ) (value : Value) → (owner == fabric || owner == 0) ≡ true → (seen_by fabric (row_at place owner value)).value ≡ value
seen_whole fabric place owner value h = ap (λ (whole : Bool). (if whole then row_at place owner value else record (row_at place owner value) { value = bare_value place value }).value) h

pub seen_bare : (fabric : ℕ) (place : Place) (owner : ℕ) (value : Value) → (owner == fabric || owner == 0) ≡ false → (seen_by fabric (row_at place owner value)).value ≡ bare_value place value
seen_bare fabric place owner value h = ap (λ (whole : Bool). (if whole then row_at place owner value else record (row_at place owner value) { value = bare_value place value }).value) h

-- what is bare of a value depends on the cluster and the leaf alone
at_leaf : (cluster leaf : ℕ) (place : Place) (value : Value) → (place.cluster == cluster && place.leaf == leaf) ≡ true
    → bare_value place value ≡ bare_value (record { endpoint = place.endpoint; cluster = cluster; leaf = leaf }) value
at_leaf cluster leaf place value p =
    let both = and_parts (place.cluster == cluster) (place.leaf == leaf) p in
    ap (λ (at : ℕ). bare_value (record { endpoint = place.endpoint; cluster = at; leaf = place.leaf }) value) (eqb-true _ _ both.0)
    ∙ ap (λ (at : ℕ). bare_value (record { endpoint = place.endpoint; cluster = cluster; leaf = at }) value) (eqb-true _ _ both.1)

pub bare_entry : (place : Place) (entry : AclEntry) → is_acl place ≡ true → bare_value place (entry_value entry) ≡ fabric_alone entry.fabric
bare_entry place entry p = at_leaf 0x1f 0 place (entry_value entry) p

pub bare_noc : (place : Place) (owner : Fabric) → is_nocs place ≡ true → bare_value place (noc_value owner) ≡ fabric_alone owner.index
bare_noc place owner p = at_leaf 0x3e 0 place (noc_value owner) p

-- nothing of a fabric is sensitive
pub plain_fabric : (place : Place) (owner : Fabric) → is_fabrics place ≡ true → bare_value place (fabric_value owner) ≡ fabric_value owner
plain_fabric place owner p = at_leaf 0x3e 1 place (fabric_value owner) p

-- the value of no fabric is seen by all
pub of_nobody : (fabric : ℕ) (place : Place) (value : Value) → shown_value fabric (value_rows place (Some value)) ≡ value
of_nobody fabric place value = by_own (0 == fabric)
  where
    by_own : (own : Bool) → (if own || true then row_at place 0 value else record (row_at place 0 value) { value = bare_value place value }).value ≡ value
    by_own true = refl
    by_own false = refl
