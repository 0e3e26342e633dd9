-- The steps of commands of Administrator Commissioning set rows of nobody, and those of commands of Group Key Management the rows of whoever
-- asks: they are the asker's own, and fit the state.
use Rattle.std.proofs.Common.{◌≡◌, ℕ, ◌==◌, ◌&&◌, ◌||◌, ◌^◌, ◌≤◌, inl, inr, not, nat_le, nat_lt, Bool, true, false, List, [], ◌∷◌, length, Option, Some, Result, Ok, Err, refl, sym, ap, ◌∙◌, subst, map, arith, if◌then◌else◌}
use Rattle.std.specs.List.{list_all}
use Rattle.std.proofs.lemmas.Bool.{and_from, and_parts, cases_Bool, eqb-true, leb-true, le-ltb, or_cases}
use Rattle.mt_tlv.specs.declared.value.Value.{Value}
use Rattle.mt_meta.specs.Finding.{find_data_of}
use Rattle.mt_meta.specs.Forms.{has_form}
use Rattle.mt_meta.specs.Stored.{is_stored}
use Rattle.mt_meta.specs.Table.{attributes_of, clusters_of, endpoints, extensions_of, globals}
use Rattle.mt_meta.specs.clusters.GroupKeyManagement as group_key_management
use Rattle.mt_meta.specs.declared.meta.Kind.TheVariants as kinds
use Rattle.mt_meta.specs.declared.meta.Meta.{Meta}
use Rattle.mt_admin.specs.Commands as admin
use Rattle.mt_admin.specs.Laws.{CommandsAreSound, has_vendor, is_sound_step}
use Rattle.mt_commission.specs.Laws as commission
use Rattle.mt_fabrics.specs.Table.{has_index_up_to}
use Rattle.mt_groupkeys.specs.Commands as group_keys
use Rattle.mt_groupkeys.specs.Laws as keys
use Rattle.mt_groupkeys.specs.Laws.{AreSound, NobodyMakesSteps, StepsAreSound}
use Rattle.mt_model.specs.rows.Seen.{Observation}
use Rattle.mt_model.specs.tables.KeySets.{key_sets}
use Rattle.mt_model.specs.tables.Known.{fabric_known_to, known_to}
use Rattle.mt_model.specs.texts.Config.{are_credentials, is_fabric, is_label}
use Rattle.mt_model.specs.declared.limits.TheConstants.{FABRICS, KEY_MAP_ITEMS}
use Rattle.mt_model.specs.declared.messages.status.Status.{Status}
use Rattle.mt_model.specs.declared.node.action.NodeStep.{NodeStep}
use Rattle.mt_model.specs.declared.node.action.NodeStep.TheVariants.{SetRow}
use Rattle.mt_model.specs.declared.rows.place.Place.{Place}
use Rattle.mt_model.specs.declared.rows.place.Row.{Row}
use Rattle.mt_model.specs.declared.tables.access.Actor.{Actor}
use Rattle.mt_model.specs.declared.tables.access.Privilege.TheVariants as privileges
use Rattle.mt_model.specs.declared.tables.fabric.Fabric.{Fabric}
use Rattle.mt_model.specs.declared.tables.network.Armed.{Armed}
use Rattle.mt_model.specs.declared.tables.network.Network.{Network}
use Rattle.mt_write.specs.Laws.{IsSoundSight, is_own_step}
use Rattle.mt_write.specs.Writing.{is_scoped}
use Rattle.mt_machine.specs.Commands.{own_rows}
use Rattle.mt_machine.specs.State.{is_among}
use Rattle.mt_machine.specs.Taking.{fits, fits_row}
use Rattle.mt_machine.proofs.Counting.{all-weaker, impossible}
use Rattle.mt_machine.proofs.Moving.{row_taken}
use Rattle.mt_machine.proofs.Writes.{passes_among}

-- Administrator Commissioning.

unscoped_own : (scoped : Bool) (fabric own : ℕ) → not scoped ≡ true → (fabric == 0) ≡ true → (fabric == (if scoped then own else 0)) ≡ true
unscoped_own true fabric own open_to_all nobodys = impossible open_to_all
unscoped_own false fabric own open_to_all nobodys = nobodys

row_own : (own fabric : ℕ) (values : List Value) (stored : Bool) (found : Result Meta Status) → commission.is_sound_row stored fabric values found ≡ true → (fabric == (if is_scoped found then own else 0)) ≡ true
row_own own fabric values stored (Err status) sound = impossible sound
row_own own fabric values stored (Ok meta) sound =
    let one = and_parts stored (not meta.scoped && (fabric == 0 && (length values == 1 && list_all (has_form meta fabric) values))) sound in
    let two = and_parts (not meta.scoped) (fabric == 0 && (length values == 1 && list_all (has_form meta fabric) values)) one.1 in
    let three = and_parts (fabric == 0) (length values == 1 && list_all (has_form meta fabric) values) two.1 in
    unscoped_own meta.scoped fabric own two.0 three.0

pub admin_own : (actor : Actor) (steps : List NodeStep) → list_all is_sound_step steps ≡ true → list_all (is_own_step actor) steps ≡ true
admin_own actor = all-weaker is_sound_step (is_own_step actor) each
  where
    each : (step : NodeStep) → is_sound_step step ≡ true → is_own_step actor step ≡ true
    each (SetRow place fabric values) sound = row_own actor.fabric fabric values (is_stored place) (find_data_of place) sound
    each step sound = impossible sound

pub admin_fits : (fabrics : List Fabric) (steps : List NodeStep) → list_all is_sound_step steps ≡ true → list_all (fits fabrics) steps ≡ true
admin_fits fabrics = all-weaker is_sound_step (fits fabrics) each
  where
    each : (step : NodeStep) → is_sound_step step ≡ true → fits fabrics step ≡ true
    each (SetRow place fabric values) sound = row_taken fabrics fabric (is_stored place) values (find_data_of place) sound
    each step sound = impossible sound

vendor_fits : (f : Fabric) → is_fabric f ≡ true → has_vendor f ≡ true
vendor_fits f is =
    let vendor = (and_parts (are_credentials f.credentials && is_label f.label) (nat_lt f.vendor (2 ^ 16)) is).1 in
    grind (arith, vendor)

vendors_known : (fabric : ℕ) (fabrics : List Fabric) → list_all is_fabric fabrics ≡ true → list_all has_vendor (map (fabric_known_to fabric) fabrics) ≡ true
vendors_known fabric [] all = refl
vendors_known fabric (f ∷ fs) all =
    let both = and_parts (is_fabric f) (list_all is_fabric fs) all in
    let rest = vendors_known fabric fs both.1 in
    elim (cases_Bool (f.index == fabric)) [
      | inl mine ↦ rw mine (and_from _ _ (vendor_fits f both.0) rest)
      | inr other ↦ rw other (and_from _ _ (vendor_fits f both.0) rest)
    ]

index_fits : (fabrics : List Fabric) (fabric : ℕ) → list_all (has_index_up_to FABRICS) fabrics ≡ true → (fabric == 0 || is_among fabrics fabric) ≡ true → nat_lt fabric (2 ^ 64) ≡ true
index_fits fabrics fabric indexes known = elim (or_cases (fabric == 0) (is_among fabrics fabric) known) [
  | inl none ↦ let zero = eqb-true fabric 0 none in grind (arith, zero)
  | inr among ↦ let most = leb-true fabric FABRICS (passes_among (λ index. nat_le index FABRICS) fabric fabrics indexes among) in grind (arith, most)
]

pub admin_sound : CommandsAreSound → (fabrics : List Fabric) (networks : List Network) (armed : Option Armed) → list_all is_fabric fabrics ≡ true → list_all (has_index_up_to FABRICS) fabrics ≡ true
    → (actor : Actor) (rows_at : Place → List Row) (command : Place) (fields : Value) (now : ℕ) → (actor.fabric == 0 || is_among fabrics actor.fabric) ≡ true
    → list_all is_sound_step (admin.invoked rows_at (known_to actor.fabric fabrics networks armed) actor command fields now).steps ≡ true
admin_sound sound fabrics networks armed forms indexes actor rows_at command fields now known =
    sound rows_at (known_to actor.fabric fabrics networks armed) actor command fields now (index_fits fabrics actor.fabric indexes known) (vendors_known actor.fabric fabrics forms)

-- Group Key Management.

abbrev map_meta : Meta
map_meta = record { kind = kinds.GroupKeyMap; read = privileges.View; write = Some privileges.Manage; scoped = true; timed = false; kept = true; least = 0; limit = KEY_MAP_ITEMS }

map_there : find_data_of group_keys.key_map ≡ Ok map_meta
unfolding endpoints clusters_of attributes_of globals extensions_of
map_there = refl

map_stored : is_stored group_keys.key_map ≡ true
unfolding is_stored endpoints clusters_of attributes_of globals extensions_of
map_stored = refl

sets_there : find_data_of key_sets ≡ Ok group_key_management.sets.meta
unfolding endpoints clusters_of attributes_of globals extensions_of
sets_there = refl

sets_stored : is_stored key_sets ≡ true
unfolding is_stored endpoints clusters_of attributes_of globals extensions_of
sets_stored = refl

rows_sound : (o : Observation) (actor : Actor) → o.fabric ≡ actor.fabric → IsSoundSight o.seen actor → AreSound (own_rows o) actor.fabric
rows_sound o actor same sight =
    subst (λ (n : ℕ). AreSound (own_rows (record o { fabric = n })) actor.fabric) (sym same)
    record {
      sets = sight.rows key_sets group_key_management.sets.meta sets_there sets_stored;
      few_sets = sight.few key_sets group_key_management.sets.meta sets_there sets_stored refl;
      items = sight.rows group_keys.key_map map_meta map_there map_stored;
      few_items = sight.few group_keys.key_map map_meta map_there map_stored refl;
    }

scoped_own : (scoped : Bool) (whose fabric : ℕ) → scoped ≡ true → (whose == fabric) ≡ true → (whose == (if scoped then fabric else 0)) ≡ true
scoped_own true whose fabric is own = own
scoped_own false whose fabric is own = impossible is

key_row_own : (fabric whose : ℕ) (values : List Value) (stored : Bool) (found : Result Meta Status) → keys.is_sound_row stored fabric whose values found ≡ true → (whose == (if is_scoped found then fabric else 0)) ≡ true
key_row_own fabric whose values stored (Err status) sound = impossible sound
key_row_own fabric whose values stored (Ok meta) sound =
    let one = and_parts stored (meta.scoped && (whose == fabric && (list_all (has_form meta fabric) values && nat_le (length values) meta.limit))) sound in
    let two = and_parts meta.scoped (whose == fabric && (list_all (has_form meta fabric) values && nat_le (length values) meta.limit)) one.1 in
    let three = and_parts (whose == fabric) (list_all (has_form meta fabric) values && nat_le (length values) meta.limit) two.1 in
    scoped_own meta.scoped whose fabric two.0 three.0

key_row_fits : (fabrics : List Fabric) (fabric whose : ℕ) (values : List Value) (stored : Bool) (found : Result Meta Status) → is_among fabrics fabric ≡ true → keys.is_sound_row stored fabric whose values found ≡ true
    → fits_row fabrics whose stored values found ≡ true
key_row_fits fabrics fabric whose values stored (Err status) among sound = impossible sound
key_row_fits fabrics fabric whose values stored (Ok meta) among sound =
    let one = and_parts stored (meta.scoped && (whose == fabric && (list_all (has_form meta fabric) values && nat_le (length values) meta.limit))) sound in
    let two = and_parts meta.scoped (whose == fabric && (list_all (has_form meta fabric) values && nat_le (length values) meta.limit)) one.1 in
    let three = and_parts (whose == fabric) (list_all (has_form meta fabric) values && nat_le (length values) meta.limit) two.1 in
    let four = and_parts (list_all (has_form meta fabric) values) (nat_le (length values) meta.limit) three.1 in
    subst (λ (n : ℕ). fits_row fabrics n stored values (Ok meta) ≡ true) (sym (eqb-true whose fabric three.0)) (row_by meta.scoped two.0 one.0 four.0 four.1)
  where
    row_by : (scoped : Bool) → scoped ≡ true → stored ≡ true → list_all (has_form meta fabric) values ≡ true → nat_le (length values) meta.limit ≡ true
        → ((stored && (list_all (has_form meta fabric) values && (if scoped then nat_le (length values) meta.limit else length values == 1))) && (if scoped then is_among fabrics fabric else fabric == 0)) ≡ true
    row_by true is there form few = and_from _ _ (and_from _ _ there (and_from _ _ form few)) among
    row_by false is there form few = impossible is

keys_own : (actor : Actor) (steps : List NodeStep) → list_all (keys.is_sound_step actor.fabric) steps ≡ true → list_all (is_own_step actor) steps ≡ true
keys_own actor = all-weaker (keys.is_sound_step actor.fabric) (is_own_step actor) each
  where
    each : (step : NodeStep) → keys.is_sound_step actor.fabric step ≡ true → is_own_step actor step ≡ true
    each (SetRow place whose values) sound = key_row_own actor.fabric whose values (is_stored place) (find_data_of place) sound
    each step sound = impossible sound

keys_fit : (fabrics : List Fabric) (fabric : ℕ) → is_among fabrics fabric ≡ true → (steps : List NodeStep) → list_all (keys.is_sound_step fabric) steps ≡ true → list_all (fits fabrics) steps ≡ true
keys_fit fabrics fabric among = all-weaker (keys.is_sound_step fabric) (fits fabrics) each
  where
    each : (step : NodeStep) → keys.is_sound_step fabric step ≡ true → fits fabrics step ≡ true
    each (SetRow place whose values) sound = key_row_fits fabrics fabric whose values (is_stored place) (find_data_of place) among sound
    each step sound = impossible sound

pub keys_pass : StepsAreSound → NobodyMakesSteps → (fabrics : List Fabric) (o : Observation) (actor : Actor) → o.fabric ≡ actor.fabric → (command : Place) (fields : Value) → (actor.fabric == 0 || is_among fabrics actor.fabric) ≡ true
    → (is_among fabrics actor.fabric ≡ true → IsSoundSight o.seen actor)
    → (list_all (is_own_step actor) (group_keys.invoked (own_rows o) actor command fields).steps ≡ true) × (list_all (fits fabrics) (group_keys.invoked (own_rows o) actor command fields).steps ≡ true)
keys_pass sound nobody fabrics o actor same command fields known sights = elim (or_cases (actor.fabric == 0) (is_among fabrics actor.fabric) known) [
  | inl none ↦
      let no_step = nobody (own_rows o) actor command fields none in
      (ap (list_all (is_own_step actor)) no_step, ap (list_all (fits fabrics)) no_step)
  | inr among ↦
      let all = sound (own_rows o) actor command fields (rows_sound o actor same (sights among)) in
      (keys_own actor _ all, keys_fit fabrics actor.fabric among _ all)
]
