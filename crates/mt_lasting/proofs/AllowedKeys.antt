-- What is under each key may stand in an element.
use Rattle.std.proofs.Common.{◌≡◌, refl, ℕ, ◌<◌, ◌≤◌, ◌^◌, nat_le, true, List, [], ◌∷◌, ◌++◌, map, arith}
use Rattle.std.proofs.lemmas.Bool.{and_parts, leb-true}
use Rattle.std.specs.List.{flat_map, list_all}
use Rattle.mt_model.specs.declared.node.state.NodeState.{NodeState}
use Rattle.mt_model.specs.declared.rows.place.Place.{Place}
use Rattle.mt_grammar.specs.Keys.{is_index}
use Rattle.mt_grammar.specs.declared.keys.Key.{Key}
use Rattle.mt_grammar.specs.declared.keys.Key.TheVariants as keys
use Rattle.mt_machine.specs.State.{IsValid}
use Rattle.mt_lasting.specs.Keys.{all_keys, indexes, item_places, keys_of, single_places}
use Rattle.mt_lasting.specs.Values.{value_at}
use Rattle.mt_lasting.proofs.AllowedEntries.{entries_allowed}
use Rattle.mt_lasting.proofs.AllowedItems.{BoundsItems, bound_items, items_allowed}
use Rattle.mt_lasting.proofs.AllowedSingles.{BoundsSingle, bound_singles, single_allowed}
use Rattle.mt_lasting.proofs.AllowedTables.{failsafe_allowed, found_allowed, networks_allowed, roots_allowed}
use Rattle.mt_lasting.proofs.AllowedTrees.{IsAllowedIf}
use Rattle.mt_lasting.proofs.Folding.{Each, each-append, each-map}
use Rattle.mt_lasting.proofs.ItemFacts.{IsItems, have_items}
use Rattle.mt_lasting.proofs.KeySizes.{each-both, indexes_are}
use Rattle.mt_lasting.proofs.PlaceFacts.{IsSingle, are_single}

-- an index has 64 bits
index_fits : (fabric : ℕ) → is_index fabric ≡ true → fabric < 2 ^ 64
index_fits fabric is = omega (arith, leb-true _ _ (and_parts (nat_le 1 fabric) (nat_le fabric 16) is).1)

module _ (s : NodeState) (ceiling : ℕ) (valid : IsValid s) (low : ceiling ≤ 2 ^ 62) where
  abbrev pub MayStand : Key → Type 0
  MayStand key = IsAllowedIf (value_at key s ceiling) 14

  boot_allowed : MayStand keys.Boot
  boot_allowed = omega (arith, leb-true s.boot (2 ^ 31) valid.boot_fits)

  ceiling_allowed : MayStand keys.Ceiling
  ceiling_allowed = omega (arith, low)

  singles_allowed : Each MayStand (map keys.Single single_places)
  singles_allowed = each-map keys.Single (λ (place : Place). MayStand (keys.Single place)) MayStand (λ place its. its) single_places
      (each-both IsSingle BoundsSingle (λ (place : Place). MayStand (keys.Single place)) (single_allowed s valid) single_places are_single bound_singles)

  of_fabric : (fabric : ℕ) → is_index fabric ≡ true → Each MayStand (keys_of fabric)
  of_fabric fabric is =
      let fits = index_fits fabric is in (
        entries_allowed s valid fabric fits,
        each-map (keys.Items fabric) (λ (place : Place). MayStand (keys.Items fabric place)) MayStand (λ place its. its) item_places
            (each-both IsItems BoundsItems (λ (place : Place). MayStand (keys.Items fabric place)) (items_allowed s valid fabric fits) item_places have_items bound_items),
      )

  of_all : (some : List ℕ) → list_all is_index some ≡ true → Each MayStand (flat_map keys_of some)
  of_all [] all = refl
  of_all (fabric ∷ some) all =
      let both = and_parts (is_index fabric) (list_all is_index some) all in
      each-append MayStand (keys_of fabric) (flat_map keys_of some) (of_fabric fabric both.0) (of_all some both.1)

  fabrics_allowed : (some : List ℕ) → Each MayStand (map keys.Fabric some)
  fabrics_allowed [] = refl
  fabrics_allowed (index ∷ some) = (found_allowed index s.fabrics valid.fabric_forms, fabrics_allowed some)

  pub keys_allowed : Each MayStand all_keys
  keys_allowed =
      let failsafe : MayStand keys.Failsafe = failsafe_allowed s.fabrics s.armed valid.indexes valid.failsafe_names valid.saved_stand in
      let roots : MayStand keys.Roots = roots_allowed s.roots valid.root_forms in
      let networks : MayStand keys.Networks = networks_allowed s.networks valid.network_forms in
      let last : Each MayStand (keys.Roots ∷ keys.Networks ∷ keys.Failsafe ∷ []) = (roots, (networks, (failsafe, refl))) in
      let fabrics = each-append MayStand (map keys.Fabric indexes) (keys.Roots ∷ keys.Networks ∷ keys.Failsafe ∷ []) (fabrics_allowed indexes) last in
      let lists = each-append MayStand (flat_map keys_of indexes) (map keys.Fabric indexes ++ (keys.Roots ∷ keys.Networks ∷ keys.Failsafe ∷ [])) (of_all indexes indexes_are) fabrics in
      let all = each-append MayStand (map keys.Single single_places) (flat_map keys_of indexes ++ (map keys.Fabric indexes ++ (keys.Roots ∷ keys.Networks ∷ keys.Failsafe ∷ []))) singles_allowed lists in
      (boot_allowed, (ceiling_allowed, all))
