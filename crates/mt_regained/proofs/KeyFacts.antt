-- What the table says of each key.
use Rattle.std.proofs.Common.{◌≡◌, refl, ℕ, true, List, [], ◌∷◌, ◌++◌, Some, map}
use Rattle.std.proofs.lemmas.Bool.{and_parts}
use Rattle.std.specs.List.{flat_map, list_all}
use Rattle.mt_grammar.specs.Keys.{is_index, key_in}
use Rattle.mt_grammar.specs.declared.keys.Key.{Key}
use Rattle.mt_grammar.specs.declared.keys.Key.TheVariants as keys
use Rattle.mt_lasting.specs.Keys.{acl_place, all_keys, indexes, item_places, key_bytes, keys_of, single_places}
use Rattle.mt_regained.proofs.Lists.{Each}
use Rattle.mt_regained.proofs.PlaceFacts.{IsItems, IsSingle, are_single, have_items}

abbrev pub KeyFacts : Key → Type 0
KeyFacts (keys.Single place) = IsSingle place
KeyFacts (keys.Items fabric place) = (is_index fabric ≡ true) × IsItems place
KeyFacts (keys.Fabric index) = is_index index ≡ true
KeyFacts key = true ≡ true

each-append : {X : Type 0} (P : X → Type 0) (xs ys : List X) → Each P xs → Each P ys → Each P (xs ++ ys)
each-append P [] ys first second = second
each-append P (x ∷ xs) ys first second = (first.0, each-append P xs ys first.1 second)

each-map : {X Y : Type 0} (h : X → Y) (P : X → Type 0) (Q : Y → Type 0) → ((x : X) → P x → Q (h x)) → (xs : List X) → Each P xs → Each Q (map h xs)
each-map h P Q on [] each = each
each-map h P Q on (x ∷ xs) each = (on x each.0, each-map h P Q on xs each.1)

of_indexes : (some : List ℕ) → list_all is_index some ≡ true → Each KeyFacts (flat_map keys_of some)
of_indexes [] all = refl
of_indexes (fabric ∷ some) all =
    let both = and_parts (is_index fabric) (list_all is_index some) all in
    each-append KeyFacts (keys_of fabric) (flat_map keys_of some) (each-map (keys.Items fabric) IsItems KeyFacts (λ place items. (both.0, items)) (acl_place ∷ item_places) have_items) (of_indexes some both.1)

of_fabrics : (some : List ℕ) → list_all is_index some ≡ true → Each KeyFacts (map keys.Fabric some)
of_fabrics [] all = refl
of_fabrics (index ∷ some) all =
    let both = and_parts (is_index index) (list_all is_index some) all in
    (both.0, of_fabrics some both.1)

indexes_are : list_all is_index indexes ≡ true
indexes_are = refl

abbrev last_keys : List Key
last_keys = keys.Roots ∷ keys.Networks ∷ keys.Failsafe ∷ []

pub key_facts : Each KeyFacts all_keys
key_facts = (
  refl,
  (
    refl,
    each-append KeyFacts (map keys.Single single_places) (flat_map keys_of indexes ++ (map keys.Fabric indexes ++ last_keys))
        (each-map keys.Single IsSingle KeyFacts (λ place single. single) single_places are_single)
        (each-append KeyFacts (flat_map keys_of indexes) (map keys.Fabric indexes ++ last_keys) (of_indexes indexes indexes_are)
        (each-append KeyFacts (map keys.Fabric indexes) last_keys (of_fabrics indexes indexes_are) (refl, (refl, (refl, refl))))),
  ),
)

-- each is read as itself
pub keys_read : map (λ key. key_in (key_bytes key)) all_keys ≡ map Some all_keys
keys_read = refl
