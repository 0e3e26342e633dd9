-- Loops that add to a list what belongs to each element of another.
use Rattle.std.proofs.Common.{◌≡◌, ◌∙◌, sym, ap, ℕ, ◌+◌, ◌<◌, ◌≤◌, List, ◌++◌, drop, get_or, length, append_assoc}
use Rattle.std.proofs.lemmas.List.{append-nil, drop_all, drop_more}
use Rattle.std.specs.List.{flat_map}
use Rattle.mt_durable.specs.declared.durable.Entry.{Entry}
use Rattle.mt_grammar.specs.declared.keys.Key.{Key}
use Rattle.mt_grammar.specs.declared.keys.Key.TheVariants.{Items}
use Rattle.mt_lasting.specs.Keys.{acl_place, item_places, keys_of}

module _ {X A : Type 0} (f : X → List A) (xs : List X) (i : ℕ) where
  -- one element more
  pub one_more : (d : X) (before new all : List A) → i < length xs → before ++ flat_map f (drop i xs) ≡ all → new ≡ before ++ f (get_or xs i d) → new ++ flat_map f (drop (i + 1) xs) ≡ all
  one_more d before new all lt so_far made =
      ap (λ (l : List A). l ++ flat_map f (drop (i + 1) xs)) made
      ∙ append_assoc before (f (get_or xs i d)) (flat_map f (drop (i + 1) xs))
      ∙ ap (λ (l : List X). before ++ flat_map f l) (sym (drop_more xs i d lt))
      ∙ so_far

  -- all elements
  pub all_done : (before all : List A) → length xs ≤ i → before ++ flat_map f (drop i xs) ≡ all → before ≡ all
  all_done before all le so_far = sym (append-nil before) ∙ ap (λ (l : List X). before ++ flat_map f l) (sym (drop_all i xs le)) ∙ so_far

-- What is said of all items of a fabric: of its entries, and of its rows.
pub one_fabric : (said : Key → List Entry) (fabric : ℕ) (before middle new : List Entry) → middle ≡ before ++ said (Items fabric acl_place)
    → new ≡ middle ++ flat_map (λ place. said (Items fabric place)) item_places → new ≡ before ++ flat_map said (keys_of fabric)
one_fabric said fabric before middle new first next =
    let rest = flat_map (λ place. said (Items fabric place)) item_places in
    next ∙ ap (λ (l : List Entry). l ++ rest) first ∙ append_assoc before (said (Items fabric acl_place)) rest
