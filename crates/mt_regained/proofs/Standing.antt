-- The rows of a place and a fabric are those of one key.
use Rattle.std.proofs.Common.{◌≡◌, ◌∙◌, refl, sym, ap, subst, ℕ, ◌≤◌, inl, inr, ◌&&◌, ◌==◌, not, Bool, true, false, List, [], ◌∷◌, ◌++◌, filter, length, arith}
use Rattle.std.proofs.lemmas.Bool.{and_parts, both_ways, cases_Bool, eqb-true, not-true, or_cases, or_left, or_right, or_parts}
use Rattle.std.proofs.lemmas.List.{append-nil}
use Rattle.std.specs.List.{flat_map, list_all, list_any}
use Rattle.mt_model.specs.rows.Setting.{is_at}
use Rattle.mt_model.specs.rows.Sight.{same_place}
use Rattle.mt_model.specs.texts.Config.{none_alike}
use Rattle.mt_model.specs.declared.rows.place.Place.{Place}
use Rattle.mt_model.specs.declared.rows.place.Row.{Row}
use Rattle.mt_grammar.specs.Values.{is_first_at}
use Rattle.mt_grammar.specs.declared.keys.Key.{Key}
use Rattle.mt_grammar.specs.declared.keys.Key.TheVariants as keys
use Rattle.mt_lasting.specs.Keys.{all_keys}
use Rattle.mt_regained.proofs.Lists.{Each, IsIn, all-weaker, filter-all, filter-append, filter-none}
use Rattle.mt_regained.proofs.Places.{place-same}
use Rattle.mt_regained.proofs.Steps.{is_sound, row_stands}

-- whether a key is of the rows of this place and this fabric
abbrev pub key_at : Place → ℕ → Key → Bool
key_at place fabric (keys.Single one) = same_place one place && 0 == fabric
key_at place fabric (keys.Items its one) = same_place one place && its == fabric
key_at place fabric key = false

abbrev pub same_key : Key → Key → Bool
same_key (keys.Single place) key = key_at place 0 key
same_key (keys.Items fabric place) key = key_at place fabric key
same_key key other = false

pub all_differ : none_alike same_key all_keys ≡ true
all_differ = refl

same_at : (one place : Place) (its fabric : ℕ) (key : Key) → (same_place one place && its == fabric) ≡ true → key_at place fabric key ≡ true → key_at one its key ≡ true
same_at one place its fabric key at there =
    let both = and_parts (same_place one place) (its == fabric) at in
    let is : one ≡ place = place-same one place both.0 in
    let own : its ≡ fabric = eqb-true its fabric both.1 in
    subst (λ (p : Place). key_at p its key ≡ true) (sym is) (subst (λ (f : ℕ). key_at place f key ≡ true) (sym own) there)

same_keys : (place : Place) (fabric : ℕ) (key other : Key) → key_at place fabric key ≡ true → key_at place fabric other ≡ true → same_key key other ≡ true
same_keys place fabric (keys.Single one) other at there = same_at one place 0 fabric other at there
same_keys place fabric (keys.Items its one) other at there = same_at one place its fabric other at there
same_keys place fabric keys.Boot other at there = absurd cc
same_keys place fabric keys.Ceiling other at there = absurd cc
same_keys place fabric (keys.Fabric index) other at there = absurd cc
same_keys place fabric keys.Roots other at there = absurd cc
same_keys place fabric keys.Networks other at there = absurd cc
same_keys place fabric keys.Failsafe other at there = absurd cc

any_of : {X : Type 0} (p : X → Bool) (x : X) (xs : List X) → IsIn x xs → p x ≡ true → list_any p xs ≡ true
any_of p x [] there its = absurd there
any_of p x (y ∷ ys) (inl is) its = or_left (p y) (list_any p ys) (ap p (sym is) ∙ its)
any_of p x (y ∷ ys) (inr later) its = or_right (p y) (list_any p ys) (any_of p x ys later its)

pub any_in : {X : Type 0} (p : X → Bool) (xs : List X) → list_any p xs ≡ true → (x : X) × IsIn x xs × (p x ≡ true)
any_in p [] any = absurd cc
any_in p (x ∷ xs) any = elim (or_cases (p x) (list_any p xs) any) [
  | inl here ↦ (x, inl refl, here)
  | inr later ↦ let rest = any_in p xs later in (rest.0, inr rest.1, rest.2)
]

apart : (place : Place) (fabric : ℕ) (key : Key) (some : List Key) → key_at place fabric key ≡ true → list_any (same_key key) some ≡ false → list_any (key_at place fabric) some ≡ false
apart place fabric key some at none = elim (cases_Bool (list_any (key_at place fabric) some)) [
  | inr not_there ↦ not_there
  | inl there ↦
      let one = any_in (key_at place fabric) some there in
      absurd (both_ways (list_any (same_key key) some) none (any_of (same_key key) one.0 some one.1 (same_keys place fabric key one.0 at one.2)))
]

-- What stands under a key is of its place and its fabric.

at_place : (one place : Place) (its fabric : ℕ) (row : Row) → is_at one its row ≡ true → is_at place fabric row ≡ (same_place one place && its == fabric)
at_place one place its fabric row at =
    let both = and_parts (same_place row.place one) (row.fabric == its) at in
    let is : row.place ≡ one = place-same row.place one both.0 in
    let own : row.fabric ≡ its = eqb-true row.fabric its both.1 in
    λ i. same_place (is i) place && own i == fabric

pub at_key : (place : Place) (fabric : ℕ) (key : Key) (row : Row) → row_stands key row ≡ true → is_at place fabric row ≡ key_at place fabric key
at_key place fabric (keys.Single one) row stands = at_place one place 0 fabric row (and_parts (is_at one 0 row) (is_sound row && not (is_first_at one row.value)) stands).0
at_key place fabric (keys.Items its one) row stands = at_place one place its fabric row (and_parts (is_at one its row) (is_sound row) stands).0
at_key place fabric keys.Boot row stands = absurd cc
at_key place fabric keys.Ceiling row stands = absurd cc
at_key place fabric (keys.Fabric index) row stands = absurd cc
at_key place fabric keys.Roots row stands = absurd cc
at_key place fabric keys.Networks row stands = absurd cc
at_key place fabric keys.Failsafe row stands = absurd cc

pub sound_of : (key : Key) (row : Row) → row_stands key row ≡ true → is_sound row ≡ true
sound_of (keys.Single place) row stands = (and_parts (is_sound row) (not (is_first_at place row.value)) (and_parts (is_at place 0 row) (is_sound row && not (is_first_at place row.value)) stands).1).0
sound_of (keys.Items fabric place) row stands = (and_parts (is_at place fabric row) (is_sound row) stands).1
sound_of keys.Boot row stands = absurd cc
sound_of keys.Ceiling row stands = absurd cc
sound_of (keys.Fabric index) row stands = absurd cc
sound_of keys.Roots row stands = absurd cc
sound_of keys.Networks row stands = absurd cc
sound_of keys.Failsafe row stands = absurd cc

module _ (of : Key → List Row) (place : Place) (fabric : ℕ) where
  abbrev RowsStand : Key → Type 0
  RowsStand key = list_all (row_stands key) (of key) ≡ true

  of_this : (key : Key) → RowsStand key → key_at place fabric key ≡ true → filter (is_at place fabric) (of key) ≡ of key
  of_this key stand at = filter-all (is_at place fabric) (of key) (each (of key) stand)
    where
      each : (rows : List Row) → list_all (row_stands key) rows ≡ true → list_all (is_at place fabric) rows ≡ true
      each rows all = all-weaker (row_stands key) (is_at place fabric) (λ row stands. at_key place fabric key row stands ∙ at) rows all

  of_other : (key : Key) → RowsStand key → key_at place fabric key ≡ false → filter (is_at place fabric) (of key) ≡ []
  of_other key stand at = filter-none (row_stands key) (is_at place fabric) (λ row stands. at_key place fabric key row stands ∙ at) (of key) stand

  pub none_at : (some : List Key) → Each RowsStand some → list_any (key_at place fabric) some ≡ false → filter (is_at place fabric) (flat_map of some) ≡ []
  none_at [] each none = refl
  none_at (key ∷ some) each none =
      let both = or_parts (key_at place fabric key) (list_any (key_at place fabric) some) none in
      filter-append (is_at place fabric) (of key) (flat_map of some) ∙ (λ i. of_other key each.0 both.0 i ++ none_at some each.1 both.1 i)

  pub exact_at : (some : List Key) → Each RowsStand some → none_alike same_key some ≡ true → (key : Key) → IsIn key some → key_at place fabric key ≡ true → filter (is_at place fabric) (flat_map of some) ≡ of key
  exact_at [] each differ key there at = absurd there
  exact_at (first ∷ some) each differ key (inl is) at =
      let both = and_parts (not (list_any (same_key first) some)) (none_alike same_key some) differ in
      let here : key_at place fabric first ≡ true = ap (key_at place fabric) (sym is) ∙ at in
      let others = none_at some each.1 (apart place fabric first some here (not-true (list_any (same_key first) some) both.0)) in
      filter-append (is_at place fabric) (of first) (flat_map of some) ∙ (λ i. of_this first each.0 here i ++ others i) ∙ append-nil (of first) ∙ ap of (sym is)
  exact_at (first ∷ some) each differ key (inr later) at =
      let both = and_parts (not (list_any (same_key first) some)) (none_alike same_key some) differ in
      elim (cases_Bool (key_at place fabric first)) [
        | inl here ↦ absurd (both_ways (list_any (key_at place fabric) some) (apart place fabric first some here (not-true (list_any (same_key first) some) both.0)) (any_of (key_at place fabric) key some later at))
        | inr other ↦
            filter-append (is_at place fabric) (of first) (flat_map of some)
            ∙ ap (λ (l : List Row). l ++ filter (is_at place fabric) (flat_map of some)) (of_other first each.0 other)
            ∙ exact_at some each.1 both.1 key later at
      ]

  -- no more than the keys of this place and this fabric may have
  pub few_at : (some : List Key) → Each RowsStand some → none_alike same_key some ≡ true → (most : ℕ) → ((key : Key) → IsIn key some → key_at place fabric key ≡ true → length (of key) ≤ most)
      → length (filter (is_at place fabric) (flat_map of some)) ≤ most
  few_at some each differ most few = elim (cases_Bool (list_any (key_at place fabric) some)) [
    | inl there ↦
        let one = any_in (key_at place fabric) some there in
        subst (λ (l : List Row). length l ≤ most) (sym (exact_at some each differ one.0 one.1 one.2)) (few one.0 one.1 one.2)
    | inr none ↦ subst (λ (l : List Row). length l ≤ most) (sym (none_at some each none)) (omega arith)
  ]
