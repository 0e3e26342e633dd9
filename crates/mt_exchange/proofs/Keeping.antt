-- What a change of a slab and of the list of its keys makes of the exchanges in order.
use Rattle.std.proofs.Common.{◌≡◌, ◌≢◌, ℕ, zero, suc, ◌+◌, ◌<◌, ◌≤◌, List, [], ◌∷◌, map, length, get_or, set, false, true≢false, Option, Some, None, is_some, IsSome, unwrap_or, count_by, cond, refl, sym, ap, subst, ◌∙◌, inl, inr, arith}
use Rattle.std.specs.List.{AllByRecursion, insert, remove}
use Rattle.std.proofs.lemmas.Bool.{cases_eq}
use Rattle.std.proofs.lemmas.List.{get_or-set_same, get_or-set_other, get_or_past}
use Rattle.std.proofs.lemmas.List.Edits.{length-insert, length-remove}
use Rattle.std.proofs.lemmas.List.Sums.{sum_by-cons}
use Rattle.slab.specs.Slab.{Slab, get, slab_len, ContainsKey, Updates, with_value}
use Rattle.mt_exchange.specs.declared.exchange.Exchange.{Exchange}
use Rattle.mt_exchange.specs.Kept.{IsKept, IsOnce, kept, under}
use Rattle.mt_exchange.specs.Opened.{nothing}

-- what holds of each key, with one key more or less
module _ (P : ℕ → Type 0) where
  all-insert : (xs : List ℕ) (i y : ℕ) → P y → AllByRecursion P xs → AllByRecursion P (insert xs i y)
  all-insert [] zero y p all = (p, tt)
  all-insert [] (suc i) y p all = (p, tt)
  all-insert (x ∷ xs) zero y p all = (p, all)
  all-insert (x ∷ xs) (suc i) y p all = (all.0, all-insert xs i y p all.1)

  all-remove : (xs : List ℕ) (i : ℕ) → AllByRecursion P xs → AllByRecursion P (remove xs i)
  all-remove [] zero all = tt
  all-remove [] (suc i) all = tt
  all-remove (x ∷ xs) zero all = all.1
  all-remove (x ∷ xs) (suc i) all = (all.0, all-remove xs i all.1)

  all-at : (xs : List ℕ) (i d : ℕ) → i < length xs → AllByRecursion P xs → P (get_or xs i d)
  all-at [] i d within all = absurd (omega arith)
  all-at (x ∷ xs) zero d within all = all.0
  all-at (x ∷ xs) (suc i) d within all = all-at xs i d (omega arith) all.1

once-insert : (xs : List ℕ) (i y : ℕ) → AllByRecursion (λ x. x ≢ y) xs → IsOnce xs → IsOnce (insert xs i y)
once-insert [] zero y apart once = (tt, tt)
once-insert [] (suc i) y apart once = (tt, tt)
once-insert (x ∷ xs) zero y apart once = (apart, once)
once-insert (x ∷ xs) (suc i) y apart once = (all-insert (λ o. o ≢ x) xs i y (λ e. apart.0 (sym e)) once.0, once-insert xs i y apart.1 once.1)

once-remove : (xs : List ℕ) (i : ℕ) → IsOnce xs → IsOnce (remove xs i)
once-remove [] zero once = tt
once-remove [] (suc i) once = tt
once-remove (x ∷ xs) zero once = once.1
once-remove (x ∷ xs) (suc i) once = (all-remove (λ o. o ≢ x) xs i once.0, once-remove xs i once.1)

-- the key at a place is none of the others
apart-remove : (xs : List ℕ) (i key : ℕ) → i < length xs → key ≡ get_or xs i key → IsOnce xs → AllByRecursion (λ x. x ≢ key) (remove xs i)
apart-remove [] i key within here once = absurd (omega arith)
apart-remove (x ∷ xs) zero key within here once =
    let P : ℕ → Type 0 = λ k. AllByRecursion (λ o. o ≢ k) xs in subst P (sym here) once.0
apart-remove (x ∷ xs) (suc i) key within here once =
    (λ e. all-at (λ o. o ≢ x) xs i key (omega arith) once.0 (sym here ∙ sym e), apart-remove xs i key (omega arith) here once.1)

-- a list of what stands under keys, with one key more or less
module _ {X : Type 0} (f : ℕ → X) where
  map-insert : (xs : List ℕ) (i y : ℕ) → map f (insert xs i y) ≡ insert (map f xs) i (f y)
  map-insert [] zero y = refl
  map-insert [] (suc i) y = refl
  map-insert (x ∷ xs) zero y = refl
  map-insert (x ∷ xs) (suc i) y = ap (λ (l : List X). f x ∷ l) (map-insert xs i y)

  map-remove : (xs : List ℕ) (i : ℕ) → map f (remove xs i) ≡ remove (map f xs) i
  map-remove [] zero = refl
  map-remove [] (suc i) = refl
  map-remove (x ∷ xs) zero = refl
  map-remove (x ∷ xs) (suc i) = ap (λ (l : List X). f x ∷ l) (map-remove xs i)

-- a key that has nothing is none of those that have an exchange
apart_from_vacant : (s : Slab Exchange) (key : ℕ) (xs : List ℕ) → get s key ≡ None → AllByRecursion (ContainsKey s) xs → AllByRecursion (λ x. x ≢ key) xs
apart_from_vacant s key [] vacant present = tt
apart_from_vacant s key (x ∷ xs) vacant present =
    (λ e. true≢false (sym present.0 ∙ ap (λ k. is_some (get s k)) e ∙ ap is_some vacant), apart_from_vacant s key xs vacant present.1)

-- the exchanges under other keys than one that changes
module _ (old new : Slab Exchange) (key : ℕ) (slot : Option Exchange) (updates : Updates old new key slot) where
  under-other : (x : ℕ) → x ≢ key → under new x ≡ under old x
  under-other x differs = ap (λ o. unwrap_or o (nothing (record { exchange = 0; ours = false }))) (updates.others x differs)

  kept-others : (xs : List ℕ) → AllByRecursion (λ x. x ≢ key) xs → kept new xs ≡ kept old xs
  kept-others [] apart = refl
  kept-others (x ∷ xs) apart = λ i. under-other x apart.0 i ∷ kept-others xs apart.1 i

  present-others : (xs : List ℕ) → AllByRecursion (λ x. x ≢ key) xs → AllByRecursion (ContainsKey old) xs → AllByRecursion (ContainsKey new) xs
  present-others [] apart present = tt
  present-others (x ∷ xs) apart present = (ap is_some (updates.others x apart.0) ∙ present.0, present-others xs apart.1 present.1)

-- more room changes nothing
pub is_kept-room : (s t : Slab Exchange) (order : List ℕ) → t ≡ record s { capacity = t.capacity } → IsKept s order → IsKept t order
is_kept-room s t order same k =
    let P : Slab Exchange → Type 0 = λ z. IsKept z order in
    subst P (sym same) (record { present = k.present; once = k.once; alone = k.alone })

-- an exchange is put under a key that had nothing, which goes into the order
module _ (old new : Slab Exchange) (key : ℕ) (x : Exchange) (order : List ℕ) (i : ℕ) (vacant : get old key ≡ None) (updates : Updates old new key (Some x)) (is : IsKept old order) where
  pub is_kept-insert : slab_len new ≡ slab_len old + 1 → i ≤ length order → IsKept new (insert order i key)
  is_kept-insert len within =
      let apart = apart_from_vacant old key order vacant is.present in
      record {
        present = all-insert (ContainsKey new) order i key (ap is_some updates.changed) (present-others old new key (Some x) updates order apart is.present);
        once = once-insert order i key apart is.once;
        alone = len ∙ ap (λ n. n + 1) is.alone ∙ sym (length-insert order i key within);
      }

  pub kept-insert : kept new (insert order i key) ≡ insert (kept old order) i x
  kept-insert =
      let same = kept-others old new key (Some x) updates order (apart_from_vacant old key order vacant is.present) in
      let here : under new key ≡ x = ap (λ o. unwrap_or o (nothing (record { exchange = 0; ours = false }))) updates.changed in
      map-insert (under new) order i key ∙ (λ j. insert (same j) i (here j))

-- the exchange under a key is taken out, and the key out of the order
module _ (old new : Slab Exchange) (key : ℕ) (order : List ℕ) (i : ℕ) (within : i < length order) (here : key ≡ get_or order i key) (updates : Updates old new key None) (is : IsKept old order) where
  pub is_kept-remove : slab_len new + 1 ≡ slab_len old → IsKept new (remove order i)
  is_kept-remove len = record {
    present = present-others old new key None updates (remove order i) (apart-remove order i key within here is.once) (all-remove (ContainsKey old) order i is.present);
    once = once-remove order i is.once;
    alone = omega (arith, len, is.alone, length-remove order i within);
  }

  pub kept-remove : kept new (remove order i) ≡ remove (kept old order) i
  kept-remove = kept-others old new key None updates (remove order i) (apart-remove order i key within here is.once) ∙ map-remove (under old) order i

-- an exchange is put in place of another under a key
count-set : (xs : List (Option Exchange)) (i : ℕ) (y : Exchange) → IsSome (get_or xs i None) → count_by is_some (set xs i (Some y)) ≡ count_by is_some xs
count-set [] i y there = refl
count-set (None ∷ xs) zero y there = absurd (true≢false (sym there))
count-set (Some x ∷ xs) zero y there = omega (arith, sum_by-cons (λ o. cond (is_some o) 1 0) (Some x) xs, sum_by-cons (λ o. cond (is_some o) 1 0) (Some y) xs)
count-set (x ∷ xs) (suc i) y there =
    omega (arith, count-set xs i y there, sum_by-cons (λ o. cond (is_some o) 1 0) x xs, sum_by-cons (λ o. cond (is_some o) 1 0) x (set xs i (Some y)))

module _ (s : Slab Exchange) (key : ℕ) (y : Exchange) where
  updates-set : ContainsKey s key → Updates s (with_value s key y) key (Some y)
  updates-set there =
      let within : key < length s.slots = grind (arith, get_or_past) in
      record {
        changed = get_or-set_same s.slots key (Some y) None within;
        others = λ other differs. get_or-set_other s.slots key other (Some y) None differs;
      }

  present-set : ContainsKey s key → (xs : List ℕ) → AllByRecursion (ContainsKey s) xs → AllByRecursion (ContainsKey (with_value s key y)) xs
  present-set there [] present = tt
  present-set there (x ∷ xs) present = (
    elim (cases_eq x key) [
      | inl same ↦ ap is_some (ap (get (with_value s key y)) same ∙ (updates-set there).changed)
      | inr differs ↦ ap is_some ((updates-set there).others x differs) ∙ present.0
    ],
    present-set there xs present.1,
  )

  pub is_kept-set : ContainsKey s key → (order : List ℕ) → IsKept s order → IsKept (with_value s key y) order
  is_kept-set there order is = record {
    present = present-set there order is.present;
    once = is.once;
    alone = count-set s.slots key y there ∙ is.alone;
  }

  pub kept-set : ContainsKey s key → (order : List ℕ) (i : ℕ) → i < length order → key ≡ get_or order i key → IsOnce order
      → kept (with_value s key y) order ≡ set (kept s order) i y
  kept-set there [] i within here once = absurd (omega arith)
  kept-set there (x ∷ xs) zero within here once =
      let P : ℕ → Type 0 = λ k. AllByRecursion (λ o. o ≢ k) xs in
      let rest = kept-others s (with_value s key y) key (Some y) (updates-set there) xs (subst P (sym here) once.0) in
      let first : under (with_value s key y) x ≡ y =
      ap (under (with_value s key y)) (sym here) ∙ ap (λ o. unwrap_or o (nothing (record { exchange = 0; ours = false }))) (updates-set there).changed in
      λ j. first j ∷ rest j
  kept-set there (x ∷ xs) (suc i) within here once =
      let differs : x ≢ key = λ e. all-at (λ o. o ≢ x) xs i key (omega arith) once.0 (sym here ∙ sym e) in
      let first = under-other s (with_value s key y) key (Some y) (updates-set there) x differs in
      let rest = kept-set there xs i (omega arith) here once.1 in
      λ j. first j ∷ rest j
