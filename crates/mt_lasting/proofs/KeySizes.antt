-- The bytes of what is under each key are bounded.
use Rattle.std.proofs.Common.{◌≡◌, refl, ℕ, ◌+◌, ◌≤◌, nat_le, true, List, [], ◌∷◌, ◌++◌, map, arith}
use Rattle.std.proofs.lemmas.Bool.{and_parts, leb-true}
use Rattle.std.specs.List.{flat_map, list_all}
use Rattle.mt_model.specs.declared.node.state.NodeState.{NodeState}
use Rattle.mt_model.specs.declared.rows.place.Place.{Place}
use Rattle.mt_grammar.specs.Keys.{is_index}
use Rattle.mt_grammar.specs.declared.keys.Key.{Key}
use Rattle.mt_grammar.specs.declared.keys.Key.TheVariants as keys
use Rattle.mt_machine.specs.State.{IsValid}
use Rattle.mt_lasting.specs.Keys.{all_keys, indexes, item_places, keys_of, single_places}
use Rattle.mt_lasting.specs.Values.{value_at}
use Rattle.mt_lasting.proofs.EntrySizes.{entries_size}
use Rattle.mt_lasting.proofs.FewRoots.{few_roots}
use Rattle.mt_lasting.proofs.Folding.{Each, each-append, each-map}
use Rattle.mt_lasting.proofs.ItemFacts.{IsItems, have_items}
use Rattle.mt_lasting.proofs.ItemSizes.{AreBounded, all_bounded, items_bound, items_size}
use Rattle.mt_lasting.proofs.NumberSizes.{in_eight, in_one}
use Rattle.mt_lasting.proofs.PlaceFacts.{IsSingle, are_single}
use Rattle.mt_lasting.proofs.SingleSizes.{IsShort, all_short, single_size}
use Rattle.mt_lasting.proofs.TableSizes.{failsafe_size, found_size, networks_size, roots_size}
use Rattle.mt_lasting.proofs.TreeSizes.{number_size, value_size}

-- the most bytes of the field with the value
abbrev pub bound : Key → ℕ
bound keys.Boot = 10
bound keys.Ceiling = 10
bound (keys.Single place) = 323
bound (keys.Items fabric place) = 3 + items_bound place
bound (keys.Fabric index) = 1361
bound keys.Roots = 6854
bound keys.Networks = 427
bound keys.Failsafe = 1776

pub each-both : {X : Type 0} (P Q R : X → Type 0) → ((x : X) → P x → Q x → R x) → (xs : List X) → Each P xs → Each Q xs → Each R xs
each-both P Q R on [] each other = each
each-both P Q R on (x ∷ xs) each other = (on x each.0 other.0, each-both P Q R on xs each.1 other.1)

-- an index takes one byte
small_index : (fabric : ℕ) → is_index fabric ≡ true → number_size fabric ≤ 1
small_index fabric is = in_one fabric (omega (arith, leb-true _ _ (and_parts (nat_le 1 fabric) (nat_le fabric 16) is).1))

pub indexes_are : list_all is_index indexes ≡ true
indexes_are = refl

module _ (s : NodeState) (ceiling : ℕ) (valid : IsValid s) where
  abbrev pub Bounded : Key → Type 0
  Bounded key = value_size (value_at key s ceiling) ≤ bound key

  singles_bounded : Each Bounded (map keys.Single single_places)
  singles_bounded = each-map keys.Single (λ (place : Place). Bounded (keys.Single place)) Bounded (λ place its. its) single_places
      (each-both IsSingle IsShort (λ (place : Place). Bounded (keys.Single place)) (single_size s valid) single_places are_single all_short)

  of_fabric : (fabric : ℕ) → is_index fabric ≡ true → Each Bounded (keys_of fabric)
  of_fabric fabric is =
      let small = small_index fabric is in (
        entries_size s valid fabric small,
        each-map (keys.Items fabric) (λ (place : Place). Bounded (keys.Items fabric place)) Bounded (λ place its. its) item_places
            (each-both IsItems AreBounded (λ (place : Place). Bounded (keys.Items fabric place)) (items_size s valid fabric small) item_places have_items all_bounded),
      )

  of_all : (some : List ℕ) → list_all is_index some ≡ true → Each Bounded (flat_map keys_of some)
  of_all [] all = refl
  of_all (fabric ∷ some) all =
      let both = and_parts (is_index fabric) (list_all is_index some) all in
      each-append Bounded (keys_of fabric) (flat_map keys_of some) (of_fabric fabric both.0) (of_all some both.1)

  fabrics_bounded : (some : List ℕ) → Each Bounded (map keys.Fabric some)
  fabrics_bounded [] = refl
  fabrics_bounded (index ∷ some) = (found_size index s.fabrics valid.fabric_forms, fabrics_bounded some)

  roots_bounded : Bounded keys.Roots
  roots_bounded = roots_size s.roots (omega (arith, few_roots s.fabrics s.armed s.roots valid.roots_differ valid.roots_used, leb-true _ _ valid.fabric_count)) valid.root_forms

  networks_bounded : Bounded keys.Networks
  networks_bounded = networks_size s.networks valid.network_count valid.network_forms

  failsafe_bounded : Bounded keys.Failsafe
  failsafe_bounded = failsafe_size s.armed valid.saved_stand

  number_bounded : (n : ℕ) → 2 + number_size n ≤ 10
  number_bounded n = omega (arith, in_eight n)

  pub keys_bounded : Each Bounded all_keys
  keys_bounded =
      let last : Each Bounded (keys.Roots ∷ keys.Networks ∷ keys.Failsafe ∷ []) = (roots_bounded, (networks_bounded, (failsafe_bounded, refl))) in
      let fabrics = each-append Bounded (map keys.Fabric indexes) (keys.Roots ∷ keys.Networks ∷ keys.Failsafe ∷ []) (fabrics_bounded indexes) last in
      let lists = each-append Bounded (flat_map keys_of indexes) (map keys.Fabric indexes ++ (keys.Roots ∷ keys.Networks ∷ keys.Failsafe ∷ [])) (of_all indexes indexes_are) fabrics in
      let all = each-append Bounded (map keys.Single single_places) (flat_map keys_of indexes ++ (map keys.Fabric indexes ++ (keys.Roots ∷ keys.Networks ∷ keys.Failsafe ∷ []))) singles_bounded lists in
      (number_bounded s.boot, (number_bounded ceiling, all))
