-- The entries and the fabrics that a map keeps are those of a valid state.
use Rattle.std.proofs.Common.{◌≡◌, ◌∙◌, refl, ap, ℕ, ◌+◌, ◌≤◌, ◌==◌, nat_le, true, List, [], ◌∷◌, Option, Some, None, length, arith}
use Rattle.std.proofs.lemmas.Bool.{and_from, and_parts, eqb-true, le-leb}
use Rattle.std.specs.List.{list_all}
use Rattle.mt_tlv.specs.View.{tree}
use Rattle.mt_tlv.specs.declared.value.Value.{Value}
use Rattle.mt_durable.specs.declared.durable.Entry.{Entry}
use Rattle.mt_fabrics.specs.Table.{has_index_up_to}
use Rattle.mt_model.specs.rows.Order.{fabrics_ascend}
use Rattle.mt_model.specs.texts.Config.{ascend_from}
use Rattle.mt_model.specs.declared.limits.TheConstants.{FABRICS}
use Rattle.mt_model.specs.declared.tables.access.AclEntry.{AclEntry}
use Rattle.mt_model.specs.declared.tables.fabric.Fabric.{Fabric}
use Rattle.mt_grammar.specs.Values.{fabric_in}
use Rattle.mt_grammar.specs.declared.kept.MapContents.{MapContents}
use Rattle.mt_grammar.specs.declared.keys.Key.{Key}
use Rattle.mt_grammar.specs.declared.keys.Key.TheVariants as keys
use Rattle.mt_lasting.specs.Keys.{all_keys}
use Rattle.mt_regained.specs.Laws.{IsKeptIn}
use Rattle.mt_regained.proofs.Fold.{lists, under_in}
use Rattle.mt_regained.proofs.KeyFacts.{KeyFacts, key_facts}
use Rattle.mt_regained.proofs.Lists.{IsIn, all-flat, all-weaker, each-all, each-of, each-same}
use Rattle.mt_regained.proofs.Rises.{fabrics_few, fabrics_rise, rise, rise_from_one, rise_strictly, rises, weight}
use Rattle.mt_regained.proofs.Steps.{Stand, entries_of, entry_stands, fabric_stands, fabrics_of, one_or_none}

abbrev its_fabric : AclEntry → ℕ
its_fabric entry = entry.fabric

entries_ascend : (least : ℕ) (entries : List AclEntry) → rise AclEntry its_fabric least entries ≡ true → ascend_from least entries ≡ true
entries_ascend least [] up = refl
entries_ascend least (entry ∷ entries) up =
    let both = and_parts (nat_le least entry.fabric) (rise AclEntry its_fabric entry.fabric entries) up in
    and_from _ _ both.0 (entries_ascend entry.fabric entries both.1)

one_at_most : (found : Option Fabric) → nat_le (length (one_or_none found)) 1 ≡ true
one_at_most None = refl
one_at_most (Some fabric) = refl

fabrics_one : (value : Option Value) (key : Key) → nat_le (length (fabrics_of value key)) 1 ≡ true
fabrics_one None key = refl
fabrics_one (Some value) (keys.Fabric index) = one_at_most (fabric_in index (tree value))
fabrics_one (Some value) keys.Boot = refl
fabrics_one (Some value) keys.Ceiling = refl
fabrics_one (Some value) (keys.Single place) = refl
fabrics_one (Some value) (keys.Items fabric place) = refl
fabrics_one (Some value) keys.Roots = refl
fabrics_one (Some value) keys.Networks = refl
fabrics_one (Some value) keys.Failsafe = refl

entry_weighed : (key : Key) (entry : AclEntry) → entry_stands key entry ≡ true → (entry.fabric == weight 1 key) ≡ true
entry_weighed (keys.Items fabric place) entry stands = stands
entry_weighed (keys.Single place) entry stands = absurd cc
entry_weighed keys.Boot entry stands = absurd cc
entry_weighed keys.Ceiling entry stands = absurd cc
entry_weighed (keys.Fabric index) entry stands = absurd cc
entry_weighed keys.Roots entry stands = absurd cc
entry_weighed keys.Networks entry stands = absurd cc
entry_weighed keys.Failsafe entry stands = absurd cc

index_fits : (key : Key) → KeyFacts key → (fabric : Fabric) → fabric_stands key fabric ≡ true → has_index_up_to FABRICS fabric ≡ true
index_fits (keys.Fabric index) known fabric stands =
    let its : fabric.index ≡ index = eqb-true fabric.index index stands in
    ap (λ (n : ℕ). nat_le n FABRICS) its ∙ (and_parts (nat_le 1 index) (nat_le index FABRICS) known).1
index_fits (keys.Items fabric place) known one stands = absurd cc
index_fits (keys.Single place) known fabric stands = absurd cc
index_fits keys.Boot known fabric stands = absurd cc
index_fits keys.Ceiling known fabric stands = absurd cc
index_fits keys.Roots known fabric stands = absurd cc
index_fits keys.Networks known fabric stands = absurd cc
index_fits keys.Failsafe known fabric stands = absurd cc

module _ (map : List Entry) (kept : MapContents) (is : IsKeptIn map kept) where
  abbrev Stands : Key → Type 0
  Stands key = Stand (under_in map key) key

  abbrev entries_here : Key → List AclEntry
  entries_here key = entries_of (under_in map key) key

  abbrev fabrics_here : Key → List Fabric
  fabrics_here key = fabrics_of (under_in map key) key

  pub entries_rise : ascend_from 1 kept.entries ≡ true
  entries_rise = entries_ascend 1 kept.entries (
      ap (rise AclEntry its_fabric 1) (lists map kept is).entries
      ∙ rises AclEntry its_fabric entries_here 1 1 all_keys
      (each-same Stands (λ key. list_all (λ (entry : AclEntry). entry.fabric == weight 1 key) (entries_here key) ≡ true)
      (λ key stand. all-weaker (entry_stands key) (λ (entry : AclEntry). entry.fabric == weight 1 key) (entry_weighed key) (entries_here key) stand.entries) all_keys (lists map kept is).stand)
      rise_from_one)

  pub indexes_rise : fabrics_ascend kept.fabrics ≡ true
  indexes_rise =
      ap fabrics_ascend (lists map kept is).fabrics
      ∙ fabrics_rise fabrics_here 0 all_keys
      (each-same Stands (λ key. (list_all (fabric_stands key) (fabrics_here key) ≡ true) × (nat_le (length (fabrics_here key)) 1 ≡ true)) (λ key stand. (stand.fabrics, fabrics_one (under_in map key) key)) all_keys (lists map kept is).stand)
      rise_strictly

  pub indexes_fit : list_all (has_index_up_to FABRICS) kept.fabrics ≡ true
  indexes_fit =
      ap (list_all (has_index_up_to FABRICS)) (lists map kept is).fabrics
      ∙ all-flat (has_index_up_to FABRICS) fabrics_here all_keys (each-all (λ key. list_all (has_index_up_to FABRICS) (fabrics_here key) ≡ true) all_keys of_key)
    where
      of_key : (key : Key) → IsIn key all_keys → list_all (has_index_up_to FABRICS) (fabrics_here key) ≡ true
      of_key key there =
          let stand : Stand (under_in map key) key = each-of Stands all_keys (lists map kept is).stand key there in
          all-weaker (fabric_stands key) (has_index_up_to FABRICS) (index_fits key (each-of KeyFacts all_keys key_facts key there)) (fabrics_here key) stand.fabrics

  pub few_fabrics : nat_le (length kept.fabrics) FABRICS ≡ true
  few_fabrics =
      let few : length kept.fabrics + 0 ≤ FABRICS = fabrics_few FABRICS 0 kept.fabrics (omega arith) indexes_rise indexes_fit in
      le-leb (length kept.fabrics) FABRICS (omega (arith, few))
