-- The sensitive fields of the table.
use Rattle.std.proofs.Common.{ℕ, ◌≡◌, ◌==◌, ◌&&◌, ◌||◌, ◌++◌, Bool, true, false, List, [], ◌∷◌, Option, Some, None, not, inl, inr, if◌then◌else◌, refl, sym, ◌∙◌, ap, subst}
use Rattle.std.specs.List.{list_all, list_any}
use Rattle.std.proofs.lemmas.Bool.{eq-eqb, and_from, and_parts}
use Rattle.std.proofs.lemmas.Bool.Decides.{eqb_tells}
use Rattle.mt_model.specs.rows.Sight.{is_sensitive_field}
use Rattle.mt_model.specs.declared.rows.place.Place.{Place}
use Rattle.mt_meta.specs.declared.rows.AttributeRow.{AttributeRow}
use Rattle.mt_meta.specs.declared.rows.Sensitive.{Sensitive}
use Rattle.mt_meta.specs.declared.rows.Sensitive.TheVariants.{Nothing, OneField, TwoFields, AllButFabric}
use Rattle.mt_meta.specs.clusters.AccessControl as access_control
use Rattle.mt_meta.specs.clusters.AdministratorCommissioning as administrator_commissioning
use Rattle.mt_meta.specs.clusters.BasicInformation as basic_information
use Rattle.mt_meta.specs.clusters.Bench as bench
use Rattle.mt_meta.specs.clusters.Binding as binding
use Rattle.mt_meta.specs.clusters.Descriptor as descriptor
use Rattle.mt_meta.specs.clusters.GeneralCommissioning as general_commissioning
use Rattle.mt_meta.specs.clusters.GroupKeyManagement as group_key_management
use Rattle.mt_meta.specs.clusters.NetworkCommissioning as network_commissioning
use Rattle.mt_meta.specs.clusters.OnOff as on_off
use Rattle.mt_meta.specs.clusters.UserLabel as user_label
use Rattle.mt_meta.specs.Stored.{is_sensitive_by_table, is_sensitive_in, is_sensitive_in_row, row_in}
use Rattle.mt_meta.specs.Table.{all_attributes_of, all_data_of, attributes_of, extensions_of, globals, hidden_of}

-- rows of which nothing is sensitive

abbrev is_bare : Sensitive → Bool
is_bare Nothing = true
is_bare (OneField a) = false
is_bare (TwoFields a b) = false
is_bare AllButFabric = false

bare-shows : (s : Sensitive) (field : ℕ) → is_bare s ≡ true → is_sensitive_in s field ≡ false
bare-shows Nothing field bare = refl
bare-shows (OneField a) field bare = absurd (cc)
bare-shows (TwoFields a b) field bare = absurd (cc)
bare-shows AllButFabric field bare = absurd (cc)

abbrev are_bare : List AttributeRow → Bool
are_bare rows = list_all (λ (row : AttributeRow). is_bare row.sensitive) rows

bare-row : (b : Bool) (row : AttributeRow) (rest : Option AttributeRow) (field : ℕ) → is_sensitive_in row.sensitive field ≡ false → is_sensitive_in_row rest field ≡ false → is_sensitive_in_row (if b then Some row else rest) field ≡ false
bare-row true row rest field here later = here
bare-row false row rest field here later = later

bare-rows : (rows : List AttributeRow) (leaf field : ℕ) → are_bare rows ≡ true → is_sensitive_in_row (row_in rows leaf) field ≡ false
bare-rows [] leaf field bare = refl
bare-rows (row ∷ rows) leaf field bare =
    let parts = and_parts (is_bare row.sensitive) (are_bare rows) bare in
    bare-row (row.number == leaf) row (row_in rows leaf) field (bare-shows row.sensitive field parts.0) (bare-rows rows leaf field parts.1)

bare-append : (xs ys : List AttributeRow) → are_bare xs ≡ true → are_bare ys ≡ true → are_bare (xs ++ ys) ≡ true
bare-append [] ys bare more = more
bare-append (row ∷ xs) ys bare more =
    let parts = and_parts (is_bare row.sensitive) (are_bare xs) bare in
    and_from _ _ parts.0 (bare-append xs ys parts.1 more)

bare-either : (b : Bool) (xs ys : List AttributeRow) → are_bare xs ≡ true → are_bare ys ≡ true → are_bare (if b then xs else ys) ≡ true
bare-either true xs ys here there = here
bare-either false xs ys here there = there

bare-other : (b : Bool) (xs ys : List AttributeRow) → b ≡ false → are_bare ys ≡ true → are_bare (if b then xs else ys) ≡ true
bare-other b xs ys apart there = rw apart there

-- the clusters of which something is sensitive are four, in one of which it is no attribute

bare-own : (cluster : ℕ) → (cluster == 0x1f) ≡ false → (cluster == 0x3e) ≡ false → (cluster == 0xfff1fc00) ≡ false → are_bare (attributes_of cluster) ≡ true
unfolding attributes_of
bare-own cluster no_acl no_nocs no_list =
    bare-either (cluster == on_off.cluster) on_off.attributes _ refl
    (bare-either (cluster == descriptor.cluster) descriptor.attributes _ refl
    (bare-either (cluster == binding.cluster) binding.attributes _ refl
    (bare-other (cluster == access_control.cluster) _ _ no_acl
    (bare-either (cluster == basic_information.cluster) basic_information.attributes _ refl
    (bare-either (cluster == general_commissioning.cluster) general_commissioning.attributes _ refl
    (bare-either (cluster == network_commissioning.cluster) network_commissioning.attributes _ refl
    (bare-either (cluster == administrator_commissioning.cluster) administrator_commissioning.attributes _ refl
    (bare-other (cluster == 0x3e) _ _ no_nocs
    (bare-either (cluster == group_key_management.cluster) group_key_management.attributes _ refl
    (bare-either (cluster == user_label.cluster) user_label.attributes _ refl
    (bare-other (cluster == bench.cluster) _ _ no_list refl)))))))))))

bare-rest : (cluster : ℕ) → are_bare (globals ++ extensions_of cluster) ≡ true
unfolding globals extensions_of
bare-rest cluster = bare-append globals (extensions_of cluster) refl (bare-either (cluster == administrator_commissioning.cluster) administrator_commissioning.extensions [] refl refl)

bare-hidden : (cluster : ℕ) → (cluster == 0x3f) ≡ false → are_bare (hidden_of cluster) ≡ true
bare-hidden cluster apart = bare-other (cluster == 0x3f) group_key_management.hidden [] apart refl

abbrev by_table : ℕ → ℕ → ℕ → Bool
by_table cluster leaf field = is_sensitive_in_row (row_in (all_data_of cluster) leaf) field

abbrev by_sight : ℕ → ℕ → ℕ → Bool
by_sight cluster leaf field = is_sensitive_field (record { endpoint = 0; cluster = cluster; leaf = leaf }) field

bare-all : (cluster : ℕ) → (cluster == 0x1f) ≡ false → (cluster == 0x3e) ≡ false → (cluster == 0xfff1fc00) ≡ false → are_bare (all_attributes_of cluster) ≡ true
bare-all cluster no_acl no_nocs no_list = bare-append (attributes_of cluster) (globals ++ extensions_of cluster) (bare-own cluster no_acl no_nocs no_list) (bare-rest cluster)

sight-shows : (cluster leaf field : ℕ) → (cluster == 0x1f) ≡ false → (cluster == 0x3e) ≡ false → (cluster == 0x3f) ≡ false → (cluster == 0xfff1fc00) ≡ false → by_sight cluster leaf field ≡ false
sight-shows cluster leaf field no_acl no_nocs no_sets no_list = rw (no_acl, no_nocs, no_sets, no_list) refl

others : (cluster leaf field : ℕ) → (cluster == 0x1f) ≡ false → (cluster == 0x3e) ≡ false → (cluster == 0x3f) ≡ false → (cluster == 0xfff1fc00) ≡ false → by_table cluster leaf field ≡ by_sight cluster leaf field
others cluster leaf field no_acl no_nocs no_sets no_list =
    bare-rows (all_data_of cluster) leaf field (bare-append (all_attributes_of cluster) (hidden_of cluster) (bare-all cluster no_acl no_nocs no_list) (bare-hidden cluster no_sets))
    ∙ sym (sight-shows cluster leaf field no_acl no_nocs no_sets no_list)

-- In three of those it is the first attribute of which something is, in the fourth what is hidden.

eqb-sym : (a b : ℕ) → (a == b) ≡ (b == a)
eqb-sym a b = elim (eqb_tells a b) [
  | inl same ↦ same.0 ∙ sym (eq-eqb b a (sym same.1))
  | inr other ↦ elim (eqb_tells b a) [ inl same ↦ absurd (other.1 (sym same.1)) | inr back ↦ other.0 ∙ sym back.0 ]
]

at-first : (here : Bool) (row : AttributeRow) (rest : Option AttributeRow) (field : ℕ) → is_sensitive_in_row rest field ≡ false → is_sensitive_in_row (if here then Some row else rest) field ≡ (here && is_sensitive_in row.sensitive field)
at-first true row rest field later = refl
at-first false row rest field later = later

abbrev rest : List AttributeRow → List AttributeRow
rest [] = []
rest (row ∷ rows) = rows

abbrev hides_first : List AttributeRow → ℕ → ℕ → Bool
hides_first [] leaf field = false
hides_first (row ∷ rows) leaf field = leaf == row.number && is_sensitive_in row.sensitive field

first-row : (rows : List AttributeRow) (leaf field : ℕ) → are_bare (rest rows) ≡ true → is_sensitive_in_row (row_in rows leaf) field ≡ hides_first rows leaf field
first-row [] leaf field bare = refl
first-row (row ∷ rows) leaf field bare = at-first (row.number == leaf) row (row_in rows leaf) field (bare-rows rows leaf field bare) ∙ ap (λ here. here && is_sensitive_in row.sensitive field) (eqb-sym row.number leaf)

if-and : (b c : Bool) → (b && c) ≡ (if b then c else false)
if-and true c = refl
if-and false c = refl

acl-fields : (leaf field : ℕ) → by_table 0x1f leaf field ≡ by_sight 0x1f leaf field
unfolding attributes_of globals extensions_of
acl-fields leaf field = first-row (all_data_of 0x1f) leaf field refl ∙ if-and (leaf == 0) (not (field == 254))

nocs-fields : (leaf field : ℕ) → by_table 0x3e leaf field ≡ by_sight 0x3e leaf field
unfolding attributes_of globals extensions_of
nocs-fields leaf field = first-row (all_data_of 0x3e) leaf field refl ∙ if-and (leaf == 0) (field == 1 || field == 2)

list-fields : (leaf field : ℕ) → by_table 0xfff1fc00 leaf field ≡ by_sight 0xfff1fc00 leaf field
unfolding attributes_of globals extensions_of
list-fields leaf field = first-row (all_data_of 0xfff1fc00) leaf field refl

or_none : (a b : Bool) → (a || b) ≡ false → (a ≡ false) × (b ≡ false)
or_none true b is = absurd (cc)
or_none false b is = (refl, is)

-- behind rows of which nothing is sensitive, and which have not its number, the last one says what is
at-last : (rows : List AttributeRow) (row : AttributeRow) (leaf field : ℕ) → are_bare rows ≡ true → list_any (λ (other : AttributeRow). other.number == row.number) rows ≡ false
    → is_sensitive_in_row (row_in (rows ++ row ∷ []) leaf) field ≡ (leaf == row.number && is_sensitive_in row.sensitive field)
at-last [] row leaf field bare apart = at-first (row.number == leaf) row None field refl ∙ ap (λ here. here && is_sensitive_in row.sensitive field) (eqb-sym row.number leaf)
at-last (other ∷ rows) row leaf field bare apart =
    let parts = and_parts (is_bare other.sensitive) (are_bare rows) bare in
    let apart_too = or_none (other.number == row.number) (list_any (λ (o : AttributeRow). o.number == row.number) rows) apart in
    elim (eqb_tells other.number leaf) [
      | inl here ↦
          rw here.0 (bare-shows other.sensitive field parts.0 ∙ sym (ap (λ b. b && is_sensitive_in row.sensitive field) (ap (λ n. n == row.number) (sym here.1) ∙ apart_too.0)))
      | inr there ↦ rw there.0 (at-last rows row leaf field parts.1 apart_too.1)
    ]

sets-fields : (leaf field : ℕ) → by_table 0x3f leaf field ≡ by_sight 0x3f leaf field
unfolding attributes_of globals extensions_of
sets-fields leaf field = at-last (all_attributes_of 0x3f) group_key_management.sets leaf field refl refl ∙ if-and (leaf == 0xfff10000) (not (field == 254))

module _ (leaf field : ℕ) where
  abbrev Same : ℕ → Type 0
  Same cluster = by_table cluster leaf field ≡ by_sight cluster leaf field

  same : (cluster : ℕ) → Same cluster
  same cluster = elim (eqb_tells cluster 0x1f) [
    | inl acl ↦ subst Same (sym acl.1) (acl-fields leaf field)
    | inr no_acl ↦ elim (eqb_tells cluster 0x3e) [
      | inl nocs ↦ subst Same (sym nocs.1) (nocs-fields leaf field)
      | inr no_nocs ↦ elim (eqb_tells cluster 0x3f) [
        | inl sets ↦ subst Same (sym sets.1) (sets-fields leaf field)
        | inr no_sets ↦ elim (eqb_tells cluster 0xfff1fc00) [
          | inl list ↦ subst Same (sym list.1) (list-fields leaf field)
          | inr no_list ↦ others cluster leaf field no_acl.0 no_nocs.0 no_sets.0 no_list.0
        ]
      ]
    ]
  ]

pub sensitive-same : (place : Place) (field : ℕ) → is_sensitive_by_table place field ≡ is_sensitive_field place field
sensitive-same place field = same place.leaf field place.cluster
