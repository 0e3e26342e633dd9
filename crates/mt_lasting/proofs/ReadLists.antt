-- Arrays are read as the lists of which they were made: where each element is read as what it was made of, and of roots and networks.
use Rattle.std.proofs.Common.{◌≡◌, ◌∙◌, ℕ, nat_le, length, arith, Bool, true, List, [], ◌∷◌, Option, Some, refl, ap}
use Rattle.std.specs.List.{list_all}
use Rattle.std.proofs.lemmas.Bool.{and_parts, le-leb}
use Rattle.mt_tlv.specs.Scalars.{octets_in}
use Rattle.mt_tlv.specs.Tree.{Tree, octets, array}
use Rattle.mt_tlv.specs.View.{tree}
use Rattle.mt_model.specs.Trees.{array_of, untagged}
use Rattle.mt_model.specs.tables.Entries.{each_in, one_more}
use Rattle.mt_model.specs.declared.tables.network.Network.{Network}
use Rattle.mt_grammar.specs.Fields.{all_in, are_untagged, if_some, some_in}
use Rattle.mt_grammar.specs.Values.{network_in, networks_in, roots_in}
use Rattle.mt_lasting.specs.Values.{network_tree}

untagged_stand : {X : Type 0} (write : X → Tree) (xs : List X) → are_untagged (untagged write xs) ≡ true
untagged_stand write [] = refl
untagged_stand write (x ∷ xs) = untagged_stand write xs

filled : {X : Type 0} (x : X) (xs : List X) → if_some (Some (x ∷ xs)) ≡ Some (x ∷ xs)
filled x xs = let there : nat_le 1 (length (x ∷ xs)) ≡ true = le-leb 1 (length (x ∷ xs)) (omega arith) in rw there refl

-- Lists whose elements all pass a test, where each that passes is read as it was written.
module _ {X : Type 0} (read : Tree → Option X) (write : X → Tree) (p : X → Bool) (again : (x : X) → p x ≡ true → read (write x) ≡ Some x) where
  each_read : (xs : List X) → list_all p xs ≡ true → each_in read (untagged write xs) ≡ Some xs
  each_read [] all = refl
  each_read (x ∷ xs) all =
      let both = and_parts (p x) (list_all p xs) all in
      λ i. one_more (again x both.0 i) (each_read xs both.1 i)

  -- any number of elements
  pub all_read : (xs : List X) → list_all p xs ≡ true → all_in read (array (untagged write xs)) ≡ Some xs
  all_read xs all = rw (untagged_stand write xs) (each_read xs all)

  -- one or more
  pub some_read : (x : X) (xs : List X) → list_all p (x ∷ xs) ≡ true → some_in read (tree (array_of write (x ∷ xs))) ≡ Some (x ∷ xs)
  some_read x xs all = ap if_some (all_read (x ∷ xs) all) ∙ filled x xs

-- The same where each element is read as it was written, without a test.

any_passes : {X : Type 0} (xs : List X) → list_all (λ (x : X). true) xs ≡ true
any_passes [] = refl
any_passes (x ∷ xs) = any_passes xs

module _ {X : Type 0} (read : Tree → Option X) (write : X → Tree) (again : (x : X) → read (write x) ≡ Some x) where
  pub whole_read : (xs : List X) → all_in read (array (untagged write xs)) ≡ Some xs
  whole_read xs = all_read read write (λ (x : X). true) (λ x passes. again x) xs (any_passes xs)

  pub filled_read : (x : X) (xs : List X) → some_in read (tree (array_of write (x ∷ xs))) ≡ Some (x ∷ xs)
  filled_read x xs = some_read read write (λ (y : X). true) (λ y passes. again y) x xs (any_passes (x ∷ xs))

-- Root certificates and networks.

pub roots_read : (root : List ℕ) (roots : List (List ℕ)) → roots_in (tree (array_of octets (root ∷ roots))) ≡ Some (root ∷ roots)
roots_read root roots = filled_read octets_in octets (λ one. refl) root roots

network_read : (network : Network) → network_in (network_tree network) ≡ Some network
network_read network = refl

pub networks_read : (network : Network) (networks : List Network) → networks_in (tree (array_of network_tree (network ∷ networks))) ≡ Some (network ∷ networks)
networks_read network networks = filled_read network_in network_tree network_read network networks

-- networks that were saved, if any
pub saved_networks_read : (networks : List Network) → all_in network_in (array (untagged network_tree networks)) ≡ Some networks
saved_networks_read networks = whole_read network_in network_tree network_read networks
