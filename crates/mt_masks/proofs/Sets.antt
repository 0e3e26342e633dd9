-- Lists of masked key sets: they are found, put and taken away as those that are not masked.
use Rattle.std.proofs.Common.{◌≡◌, ℕ, ◌==◌, ◌++◌, not, length, suc, List, [], ◌∷◌, Option, refl, sym, ap, ◌∙◌, map, if◌then◌else◌}
use Rattle.std.specs.Prelude.{unwrap_or}
use Rattle.std.specs.List.{find, list_any}
use Rattle.std.specs.Option.{option_map}
use Rattle.std.proofs.lemmas.List.{map-append}
use Rattle.mt_tlv.specs.declared.value.Value.{Value}
use Rattle.mt_groupkeys.specs.Sets.{has_id, has_number, ids_of, put_in, replaced, without}
use Rattle.mt_masks.specs.Masking.{masked_set}
use Rattle.mt_masks.proofs.Fields.{number_masked}
use Rattle.mt_masks.proofs.Lists.{any_changed, chosen, filter_changed, find_changed}

pub length_same : (sets : List Value) → length (map masked_set sets) ≡ length sets
length_same [] = refl
length_same (set ∷ sets) = ap (λ (n : ℕ). suc n) (length_same sets)

id_same : (id : ℕ) (set : Value) → has_id id (masked_set set) ≡ has_id id set
id_same id set = ap (λ (o : Option ℕ). unwrap_or o 0 == id) (number_masked 0 refl set)

pub among_same : (id : ℕ) (sets : List Value) → list_any (has_id id) (map masked_set sets) ≡ list_any (has_id id) sets
among_same id sets = any_changed masked_set (has_id id) (id_same id) sets

pub find_masked : (id : ℕ) (sets : List Value) → find (has_id id) (map masked_set sets) ≡ option_map masked_set (find (has_id id) sets)
find_masked id sets = find_changed masked_set (has_id id) (id_same id) sets

pub without_masked : (id : ℕ) (sets : List Value) → without 0 id (map masked_set sets) ≡ map masked_set (without 0 id sets)
without_masked id sets = filter_changed masked_set (λ (item : Value). not (has_number 0 id item)) (λ set. ap not (id_same id set)) sets

pub ids_same : (sets : List Value) → ids_of (map masked_set sets) ≡ ids_of sets
ids_same [] = refl
ids_same (set ∷ sets) = λ i. unwrap_or (number_masked 0 refl set i) 0 ∷ ids_same sets i

replaced_masked : (id : ℕ) (set : Value) (sets : List Value) → replaced id (masked_set set) (map masked_set sets) ≡ map masked_set (replaced id set sets)
replaced_masked id set [] = refl
replaced_masked id set (other ∷ sets) =
    let one = (λ i. if id_same id other i then masked_set set else masked_set other) ∙ chosen masked_set (has_id id other) set other in
    λ i. one i ∷ replaced_masked id set sets i

pub put_masked : (id : ℕ) (set : Value) (sets : List Value) → put_in id (masked_set set) (map masked_set sets) ≡ map masked_set (put_in id set sets)
put_masked id set sets =
    let last = sym (map-append masked_set sets (set ∷ [])) in
    (λ i. if among_same id sets i then replaced_masked id set sets i else last i)
    ∙ chosen (map masked_set) (list_any (has_id id) sets) (replaced id set sets) (sets ++ set ∷ [])
