-- What is done to a place's rows in the map, told of the one list of all rows.
use Rattle.std.proofs.Common.{◌≡◌, ℕ, ◌+◌, length, ◌⊎◌, inl, inr, Bool, true, false, not, Option, Some, None, is_some, List, [], ◌∷◌, ◌++◌, refl, sym, ap, ◌∙◌, subst, filter, IsSome, cond, map, append_assoc, append-nil, arith}
use Rattle.std.specs.BTreeMap as tree
use Rattle.std.specs.BTreeMap.{BTreeMap, insert_entry}
use Rattle.std.specs.Global.{Vec}
use Rattle.std.specs.List.{AllByRecursion, list_all, list_any}
use Rattle.std.specs.List.Sorted.{IsStrictlySortedBy}
use Rattle.std.specs.Map.{keys_of, lookup, set_value}
use Rattle.std.specs.Ordering.{is_eq}
use Rattle.std.specs.declared.cmp.Ordering.{Ordering}
use Rattle.std.specs.declared.cmp.Ordering.TheVariants.{Less, Equal, Greater}
use Rattle.std.proofs.lemmas.Grind.{common_steps}
use Rattle.std.proofs.lemmas.Bool.{and_from, and_parts, both_ways, cases_Bool, eqb-true, not_from_false, or_cases}
use Rattle.std.proofs.lemmas.List.Elements.{filter-append}
use Rattle.std.proofs.lemmas.List.Folds.{list_all-append}
use Rattle.std.proofs.lemmas.Map.Keys.{sorted_head, sorted_tail}
use Rattle.std.proofs.lemmas.Option.{none-some}
use Rattle.mt_tlv.specs.declared.value.Value.{Value}
use Rattle.mt_model.specs.rows.Order.{are_ascending, ascend_after, may_follow, row_at, stands_before}
use Rattle.mt_model.specs.rows.Setting.{is_above, is_at, is_below, is_other_at, with_rows}
use Rattle.mt_model.specs.rows.Sight.{same_place, stands_at}
use Rattle.mt_model.specs.rows.Stored.{IsKept, has_place, is_stored_place, listed, place_order, stand_there, stored_places}
use Rattle.mt_model.specs.declared.rows.place.Place.{Place}
use Rattle.mt_model.specs.declared.rows.place.Row.{Row}
use Rattle.mt_model.proofs.Order.{ascending-tail, may_follow-trans, same_before, same_place-refl, stands_before-trans}
use Rattle.mt_model.proofs.Setting.{above_is_other, below_is_other, rows_ascending}

-- Lists.

filter_none : {X : Type 0} (p q : X → Bool) → ((x : X) → q x ≡ true → p x ≡ false) → (xs : List X) → list_all q xs ≡ true → filter p xs ≡ []
filter_none p q h [] all = refl
filter_none p q h (x ∷ xs) all = rw (h x (and_parts _ _ all).0) (filter_none p q h xs (and_parts _ _ all).1)

filter_every : {X : Type 0} (p q : X → Bool) → ((x : X) → q x ≡ true → p x ≡ true) → (xs : List X) → list_all q xs ≡ true → filter p xs ≡ xs
filter_every p q h [] all = refl
filter_every {X} p q h (x ∷ xs) all = rw (h x (and_parts _ _ all).0) (ap (λ (l : List X). x ∷ l) (filter_every p q h xs (and_parts _ _ all).1))

pub all_weaker : {X : Type 0} (p q : X → Bool) → ((x : X) → p x ≡ true → q x ≡ true) → (xs : List X) → list_all p xs ≡ true → list_all q xs ≡ true
all_weaker p q h [] all = refl
all_weaker p q h (x ∷ xs) all = and_from _ _ (h x (and_parts _ _ all).0) (all_weaker p q h xs (and_parts _ _ all).1)

-- The order of the map's places.

pub less_before : (p q : Place) → place_order p q ≡ Less → stands_before p q ≡ true
less_before p q e = grind (arith, common_steps)

pub greater_behind : (p q : Place) → place_order p q ≡ Greater → stands_before q p ≡ true
greater_behind p q e = grind (arith, common_steps)

pub equal_same : (p q : Place) → place_order p q ≡ Equal → same_place p q ≡ true
equal_same p q e = grind (arith, common_steps)

before_not_equal : (p q : Place) → stands_before p q ≡ true → is_eq (place_order p q) ≡ false
before_not_equal p q e = grind (arith, common_steps)

pub same_is : (p q : Place) → same_place p q ≡ true → p ≡ q
same_is p q e =
    let first = and_parts _ _ e in
    let rest = and_parts _ _ first.1 in
    let a : p.endpoint ≡ q.endpoint = eqb-true _ _ first.0 in
    let b : p.cluster ≡ q.cluster = eqb-true _ _ rest.0 in
    let d : p.leaf ≡ q.leaf = eqb-true _ _ rest.1 in
    λ i. record { endpoint = a i; cluster = b i; leaf = d i }

-- what holds of each place holds of one that is among them
pub among : (P : Place → Bool) (place : Place) (places : List Place) → list_all P places ≡ true → list_any (same_place place) places ≡ true → P place ≡ true
among P place [] all any = absurd (cc)
among P place (p ∷ places) all any = elim (or_cases (same_place place p) (list_any (same_place place) places) any) [
  | inl same ↦ subst (λ (q : Place). P q ≡ true) (sym (same_is place p same)) (and_parts _ _ all).0
  | inr later ↦ among P place places (and_parts _ _ all).1 later
]

three : (r : Ordering) → (r ≡ Less) ⊎ ((r ≡ Equal) ⊎ (r ≡ Greater))
three Less = inl refl
three Equal = inr (inl refl)
three Greater = inr (inr refl)

-- One place.

abbrev pub Kept : Type 0
Kept = Place × Vec Row

abbrev pub items_of : Option (Vec Row) → List Row
items_of None = []
items_of (Some rows) = rows.items

module _ (place : Place) where
  abbrev pub test : Place → Bool
  test = tree.is_at (place_order place)

  abbrev pub is_behind : Row → Bool
  is_behind row = stands_before place row.place

  -- rows that stand under a place before this one, at this one, or behind it

  early_below : (fabric : ℕ) (p : Place) → stands_before p place ≡ true → (row : Row) → stands_at p row ≡ true → is_below place fabric row ≡ true
  early_below fabric p e row at = grind (arith, common_steps)

  early_not_above : (fabric : ℕ) (p : Place) → stands_before p place ≡ true → (row : Row) → stands_at p row ≡ true → is_above place fabric row ≡ false
  early_not_above fabric p e row at = grind (arith, common_steps)

  early_not_at : (p : Place) → stands_before p place ≡ true → (row : Row) → stands_at p row ≡ true → stands_at place row ≡ false
  early_not_at p e row at = grind (arith, common_steps)

  late_not_at : (p : Place) → stands_before place p ≡ true → (row : Row) → stands_at p row ≡ true → stands_at place row ≡ false
  late_not_at p e row at = grind (arith, common_steps)

  here_at : (p : Place) → same_place place p ≡ true → (row : Row) → stands_at p row ≡ true → stands_at place row ≡ true
  here_at p e row at = grind (arith, common_steps)

  there_at : (p : Place) → same_place place p ≡ true → (row : Row) → stands_at place row ≡ true → stands_at p row ≡ true
  there_at p e row at = grind (arith, common_steps)

  behind_not_below : (fabric : ℕ) (row : Row) → is_behind row ≡ true → is_below place fabric row ≡ false
  behind_not_below fabric row e = grind (arith, common_steps)

  behind_above : (fabric : ℕ) (row : Row) → is_behind row ≡ true → is_above place fabric row ≡ true
  behind_above fabric row e = grind (arith, common_steps)

  behind_not_at : (row : Row) → is_behind row ≡ true → stands_at place row ≡ false
  behind_not_at row e = grind (arith, common_steps)

  late_behind : (p : Place) → stands_before place p ≡ true → (row : Row) → stands_at p row ≡ true → is_behind row ≡ true
  late_behind p e row at = grind (arith, common_steps)

  -- what is kept under later places stands behind
  all_behind : (first : Place) → same_place place first ≡ true → (es : List Kept) → AllByRecursion (λ k. place_order first k ≡ Less) (keys_of es) → list_all stand_there es ≡ true → list_all is_behind (listed es) ≡ true
  all_behind first same [] less stand = refl
  all_behind first same (e ∷ es) less stand =
      let later : stands_before place e.0 ≡ true = same_before place first e.0 same (less_before first e.0 less.0) in
      list_all-append is_behind e.1.items (listed es)
      ∙ and_from _ _ (all_weaker (stands_at e.0) is_behind (late_behind e.0 later) e.1.items (and_parts _ _ stand).0) (all_behind first same es less.1 (and_parts _ _ stand).1)

  -- what stands under the place and behind it

  behind_nowhere : (first : Place) → same_place place first ≡ true → (es : List Kept) → AllByRecursion (λ k. place_order first k ≡ Less) (keys_of es) → list_all stand_there es ≡ true → filter (stands_at place) (listed es) ≡ []
  behind_nowhere first same es less stand = filter_none (stands_at place) is_behind behind_not_at (listed es) (all_behind first same es less stand)

  found_here : (e : Kept) (es : List Kept) → place_order place e.0 ≡ Equal → lookup test (e ∷ es) ≡ Some e.1
  found_here e es is = rw is refl

  passed : (e : Kept) (es : List Kept) → is_eq (place_order place e.0) ≡ false → lookup test (e ∷ es) ≡ lookup test es
  passed e es is = rw is refl

  at_head : (e : Kept) (es : List Kept) → IsStrictlySortedBy place_order (keys_of (e ∷ es)) → list_all stand_there (e ∷ es) ≡ true
      → filter (stands_at place) (listed es) ≡ items_of (lookup test es) → filter (stands_at place) (listed (e ∷ es)) ≡ items_of (lookup test (e ∷ es))
  at_head e es up stand rest =
      let parts = and_parts (stand_there e) (list_all stand_there es) stand in
      let apart : filter (stands_at place) (listed (e ∷ es)) ≡ filter (stands_at place) e.1.items ++ filter (stands_at place) (listed es) = filter-append (stands_at place) e.1.items (listed es) in
      elim (three (place_order place e.0)) [
        | inl less ↦
            let none : filter (stands_at place) e.1.items ≡ [] = filter_none (stands_at place) (stands_at e.0) (late_not_at e.0 (less_before place e.0 less)) e.1.items parts.0 in
            apart ∙ ap (λ (l : List Row). l ++ filter (stands_at place) (listed es)) none ∙ rest ∙ ap items_of (sym (passed e es (ap is_eq less)))
        | inr more ↦ elim more [
          | inl equal ↦
              let same : same_place place e.0 ≡ true = equal_same place e.0 equal in
              let every : filter (stands_at place) e.1.items ≡ e.1.items = filter_every (stands_at place) (stands_at e.0) (here_at e.0 same) e.1.items parts.0 in
              let none : filter (stands_at place) (listed es) ≡ [] = behind_nowhere e.0 same es (sorted_head place_order e.0 (keys_of es) up) parts.1 in
              apart ∙ (λ i. every i ++ none i) ∙ append-nil e.1.items ∙ ap items_of (sym (found_here e es equal))
          | inr greater ↦
              let none : filter (stands_at place) e.1.items ≡ [] = filter_none (stands_at place) (stands_at e.0) (early_not_at e.0 (greater_behind place e.0 greater)) e.1.items parts.0 in
              apart ∙ ap (λ (l : List Row). l ++ filter (stands_at place) (listed es)) none ∙ rest ∙ ap items_of (sym (passed e es (ap is_eq greater)))
        ]
      ]

  -- the rows of the place
  pub at_listed : (es : List Kept) → IsStrictlySortedBy place_order (keys_of es) → list_all stand_there es ≡ true → filter (stands_at place) (listed es) ≡ items_of (lookup test es)
  at_listed [] up stand = refl
  at_listed (e ∷ es) up stand = at_head e es up stand (at_listed es (sorted_tail place_order e.0 (keys_of es) up) (and_parts _ _ stand).1)

  -- What is put in the place of these.

  beyond : (first : Place) → stands_before place first ≡ true → (es : List Kept) → AllByRecursion (λ k. place_order first k ≡ Less) (keys_of es) → lookup test es ≡ None
  beyond first before [] less = refl
  beyond first before (e ∷ es) less =
      let later : stands_before place e.0 ≡ true = stands_before-trans place first e.0 before (less_before first e.0 less.0) in
      passed e es (before_not_equal place e.0 later) ∙ beyond first before es less.1

  -- what is found is not before the first
  not_before : (e : Kept) (es : List Kept) (old : Vec Row) → IsStrictlySortedBy place_order (keys_of (e ∷ es)) → place_order place e.0 ≡ Less → lookup test (e ∷ es) ≡ Some old → ⊥
  not_before e es old up less found =
      none-some old (sym (passed e es (ap is_eq less) ∙ beyond e.0 (less_before place e.0 less) es (sorted_head place_order e.0 (keys_of es) up)) ∙ found)

  set_here : (e : Kept) (es : List Kept) (w : Vec Row) → place_order place e.0 ≡ Equal → listed (set_value test (e ∷ es) w) ≡ w.items ++ listed es
  set_here e es w is = rw is refl

  set_later : (e : Kept) (es : List Kept) (w : Vec Row) → is_eq (place_order place e.0) ≡ false → listed (set_value test (e ∷ es) w) ≡ e.1.items ++ listed (set_value test es w)
  set_later e es w is = rw is refl

  here_is : (e : Kept) (es : List Kept) (old : Vec Row) → place_order place e.0 ≡ Equal → lookup test (e ∷ es) ≡ Some old → old.items ≡ e.1.items
  here_is e es old is found = ap items_of (sym found ∙ found_here e es is)

  -- rows that are set
  module _ (fabric : ℕ) (values : List Value) where
    abbrev pub set_there : List Row → List Row
    set_there rows = with_rows place fabric values rows

    parts_of : (rows others : List Row) → set_there (rows ++ others)
        ≡ (filter (is_below place fabric) rows ++ filter (is_below place fabric) others) ++ (map (row_at place fabric) values ++ (filter (is_above place fabric) rows ++ filter (is_above place fabric) others))
    parts_of rows others = λ i. filter-append (is_below place fabric) rows others i ++ (map (row_at place fabric) values ++ filter-append (is_above place fabric) rows others i)

    -- rows before the place stay in front
    set_behind : (rows others : List Row) → filter (is_below place fabric) rows ≡ rows → filter (is_above place fabric) rows ≡ [] → set_there (rows ++ others) ≡ rows ++ set_there others
    set_behind rows others every none =
        parts_of rows others
        ∙ (λ i. (every i ++ filter (is_below place fabric) others) ++ (map (row_at place fabric) values ++ (none i ++ filter (is_above place fabric) others)))
        ∙ append_assoc rows (filter (is_below place fabric) others) (map (row_at place fabric) values ++ filter (is_above place fabric) others)

    -- rows behind it stay behind
    set_before : (rows others : List Row) → filter (is_below place fabric) others ≡ [] → filter (is_above place fabric) others ≡ others → set_there (rows ++ others) ≡ set_there rows ++ others
    set_before rows others none every =
        let lower : List Row = filter (is_below place fabric) rows in
        let new : List Row = map (row_at place fabric) values in
        let higher : List Row = filter (is_above place fabric) rows in
        parts_of rows others
        ∙ (λ i. (lower ++ none i) ++ (new ++ (higher ++ every i)))
        ∙ (λ i. append-nil lower i ++ sym (append_assoc new higher others) i)
        ∙ sym (append_assoc lower (new ++ higher) others)

    set_head : (e : Kept) (es : List Kept) (old w : Vec Row) → IsStrictlySortedBy place_order (keys_of (e ∷ es)) → list_all stand_there (e ∷ es) ≡ true
        → lookup test (e ∷ es) ≡ Some old → w.items ≡ set_there old.items
        → (lookup test es ≡ Some old → listed (set_value test es w) ≡ set_there (listed es))
        → listed (set_value test (e ∷ es) w) ≡ set_there (listed (e ∷ es))
    set_head e es old w up stand found is rest =
        let parts = and_parts (stand_there e) (list_all stand_there es) stand in
        elim (three (place_order place e.0)) [
          | inl less ↦ absurd (not_before e es old up less found)
          | inr more ↦ elim more [
            | inl equal ↦
                let behind : list_all is_behind (listed es) ≡ true = all_behind e.0 (equal_same place e.0 equal) es (sorted_head place_order e.0 (keys_of es) up) parts.1 in
                set_here e es w equal
                ∙ ap (λ (l : List Row). l ++ listed es) (is ∙ ap set_there (here_is e es old equal found))
                ∙ sym (set_before e.1.items (listed es)
                (filter_none (is_below place fabric) is_behind (behind_not_below fabric) (listed es) behind)
                (filter_every (is_above place fabric) is_behind (behind_above fabric) (listed es) behind))
            | inr greater ↦
                let apart : is_eq (place_order place e.0) ≡ false = ap is_eq greater in
                let before : stands_before e.0 place ≡ true = greater_behind place e.0 greater in
                set_later e es w apart
                ∙ ap (λ (l : List Row). e.1.items ++ l) (rest (sym (passed e es apart) ∙ found))
                ∙ sym (set_behind e.1.items (listed es)
                (filter_every (is_below place fabric) (stands_at e.0) (early_below fabric e.0 before) e.1.items parts.0)
                (filter_none (is_above place fabric) (stands_at e.0) (early_not_above fabric e.0 before) e.1.items parts.0))
          ]
        ]

    -- where the rows of the place are set, all rows are as the definition sets them
    pub set_listed : (es : List Kept) (old w : Vec Row) → IsStrictlySortedBy place_order (keys_of es) → list_all stand_there es ≡ true
        → lookup test es ≡ Some old → w.items ≡ set_there old.items → listed (set_value test es w) ≡ set_there (listed es)
    set_listed [] old w up stand found is = absurd (none-some old found)
    set_listed (e ∷ es) old w up stand found is =
        set_head e es old w up stand found is
        (λ later. set_listed es old w (sorted_tail place_order e.0 (keys_of es) up) (and_parts _ _ stand).1 later is)

  -- a row that is added at the end
  module _ (row : Row) where
    abbrev pub is_no_later : Row → Bool
    is_no_later other = not (stands_before place other.place)

    later_and_not : (other : Row) → is_behind other ≡ true → is_no_later other ≡ false
    later_and_not other is = rw is refl

    none_left : (rows : List Row) → list_all is_behind rows ≡ true → list_all is_no_later rows ≡ true → rows ≡ []
    none_left [] behind none = refl
    none_left (other ∷ rows) behind none = absurd (both_ways (is_no_later other) (later_and_not other (and_parts _ _ behind).0) (and_parts _ _ none).0)

    add_head : (e : Kept) (es : List Kept) (old w : Vec Row) → IsStrictlySortedBy place_order (keys_of (e ∷ es)) → list_all stand_there (e ∷ es) ≡ true
        → list_all is_no_later (listed es) ≡ true
        → lookup test (e ∷ es) ≡ Some old → w.items ≡ old.items ++ row ∷ []
        → (lookup test es ≡ Some old → listed (set_value test es w) ≡ listed es ++ row ∷ [])
        → listed (set_value test (e ∷ es) w) ≡ listed (e ∷ es) ++ row ∷ []
    add_head e es old w up stand early found is rest =
        let parts = and_parts (stand_there e) (list_all stand_there es) stand in
        elim (three (place_order place e.0)) [
          | inl less ↦ absurd (not_before e es old up less found)
          | inr more ↦ elim more [
            | inl equal ↦
                let none : listed es ≡ [] = none_left (listed es) (all_behind e.0 (equal_same place e.0 equal) es (sorted_head place_order e.0 (keys_of es) up) parts.1) early in
                set_here e es w equal
                ∙ (λ i. (is ∙ ap (λ (l : List Row). l ++ row ∷ []) (here_is e es old equal found)) i ++ none i)
                ∙ append-nil (e.1.items ++ row ∷ [])
                ∙ ap (λ (l : List Row). l ++ row ∷ []) (sym (append-nil e.1.items) ∙ ap (λ (l : List Row). e.1.items ++ l) (sym none))
            | inr greater ↦
                let apart : is_eq (place_order place e.0) ≡ false = ap is_eq greater in
                set_later e es w apart
                ∙ ap (λ (l : List Row). e.1.items ++ l) (rest (sym (passed e es apart) ∙ found))
                ∙ sym (append_assoc e.1.items (listed es) (row ∷ []))
          ]
        ]

    pub add_listed : (es : List Kept) (old w : Vec Row) → IsStrictlySortedBy place_order (keys_of es) → list_all stand_there es ≡ true
        → list_all is_no_later (listed es) ≡ true
        → lookup test es ≡ Some old → w.items ≡ old.items ++ row ∷ [] → listed (set_value test es w) ≡ listed es ++ row ∷ []
    add_listed [] old w up stand early found is = absurd (none-some old found)
    add_listed (e ∷ es) old w up stand early found is =
        let rest : list_all is_no_later (listed es) ≡ true = (and_parts _ _ (sym (list_all-append is_no_later e.1.items (listed es)) ∙ early)).1 in
        add_head e es old w up stand rest found is
        (λ later. add_listed es old w (sorted_tail place_order e.0 (keys_of es) up) (and_parts _ _ stand).1 rest later is)

  -- the same rows as before
  pub same_listed : (old w : Vec Row) → w.items ≡ old.items → (es : List Kept) → lookup test es ≡ Some old → listed (set_value test es w) ≡ listed es
  same_listed old w same [] found = refl
  same_listed old w same (e ∷ es) found = elim (three (place_order place e.0)) [
    | inl less ↦ set_later e es w (ap is_eq less) ∙ ap (λ (l : List Row). e.1.items ++ l) (same_listed old w same es (sym (passed e es (ap is_eq less)) ∙ found))
    | inr more ↦ elim more [
      | inl equal ↦ set_here e es w equal ∙ ap (λ (l : List Row). l ++ listed es) (same ∙ here_is e es old equal found)
      | inr greater ↦ set_later e es w (ap is_eq greater) ∙ ap (λ (l : List Row). e.1.items ++ l) (same_listed old w same es (sym (passed e es (ap is_eq greater)) ∙ found))
    ]
  ]

  -- rows that are put where rows of the place stood
  pub stand_set : (es : List Kept) (w : Vec Row) → list_all (stands_at place) w.items ≡ true → list_all stand_there es ≡ true → list_all stand_there (set_value test es w) ≡ true
  stand_set [] w there stand = refl
  stand_set (e ∷ es) w there stand =
      let parts = and_parts (stand_there e) (list_all stand_there es) stand in
      elim (three (place_order place e.0)) [
        | inl less ↦ rw less (and_from _ _ parts.0 (stand_set es w there parts.1))
        | inr more ↦ elim more [
          | inl equal ↦ rw equal (and_from _ _ (all_weaker (stands_at place) (stands_at e.0) (there_at e.0 (equal_same place e.0 equal)) w.items there) parts.1)
          | inr greater ↦ rw greater (and_from _ _ parts.0 (stand_set es w there parts.1))
        ]
      ]

  -- the rows under the place stand there
  pub found_stand : (es : List Kept) (old : Vec Row) → list_all stand_there es ≡ true → lookup test es ≡ Some old → list_all (stands_at place) old.items ≡ true
  found_stand [] old stand found = absurd (none-some old found)
  found_stand (e ∷ es) old stand found =
      let parts = and_parts (stand_there e) (list_all stand_there es) stand in
      elim (three (place_order place e.0)) [
        | inl less ↦ found_stand es old parts.1 (sym (passed e es (ap is_eq less)) ∙ found)
        | inr more ↦ elim more [
          | inl equal ↦ rw (here_is e es old equal found) (all_weaker (stands_at e.0) (stands_at place) (here_at e.0 (equal_same place e.0 equal)) e.1.items parts.0)
          | inr greater ↦ found_stand es old parts.1 (sym (passed e es (ap is_eq greater)) ∙ found)
        ]
      ]

-- Rows of the place that are set stand there.
module _ (place : Place) (fabric : ℕ) where
  pub filter_keeps : (p : Row → Bool) (rows : List Row) → list_all (stands_at place) rows ≡ true → list_all (stands_at place) (filter p rows) ≡ true
  filter_keeps p [] all = refl
  filter_keeps p (row ∷ rows) all = elim (cases_Bool (p row)) [
    | inl e ↦ rw e (and_from _ _ (and_parts _ _ all).0 (filter_keeps p rows (and_parts _ _ all).1))
    | inr e ↦ rw e (filter_keeps p rows (and_parts _ _ all).1)
  ]

  new_stand : (values : List Value) → list_all (stands_at place) (map (row_at place fabric) values) ≡ true
  new_stand [] = refl
  new_stand (value ∷ values) = and_from _ _ (same_place-refl place) (new_stand values)

  pub set_stand : (values : List Value) (rows : List Row) → list_all (stands_at place) rows ≡ true → list_all (stands_at place) (with_rows place fabric values rows) ≡ true
  set_stand values rows all =
      list_all-append (stands_at place) (filter (is_below place fabric) rows) (map (row_at place fabric) values ++ filter (is_above place fabric) rows)
      ∙ and_from _ _ (filter_keeps (is_below place fabric) rows all)
      (list_all-append (stands_at place) (map (row_at place fabric) values) (filter (is_above place fabric) rows) ∙ and_from _ _ (new_stand values) (filter_keeps (is_above place fabric) rows all))

-- The rows of a fabric at a place are among the rows of the place.
pub at_of_place : (place : Place) (fabric : ℕ) (rows : List Row) → filter (is_at place fabric) (filter (stands_at place) rows) ≡ filter (is_at place fabric) rows
at_of_place place fabric [] = refl
at_of_place place fabric (row ∷ rows) = elim (cases_Bool (stands_at place row)) [
  | inl there ↦
      let first : filter (stands_at place) (row ∷ rows) ≡ row ∷ filter (stands_at place) rows = rw there refl in
      ap (filter (is_at place fabric)) first ∙ ap (λ (l : List Row). cond (is_at place fabric row) (row ∷ l) l) (at_of_place place fabric rows)
  | inr apart ↦
      let first : filter (stands_at place) (row ∷ rows) ≡ filter (stands_at place) rows = rw apart refl in
      let other : filter (is_at place fabric) (row ∷ rows) ≡ filter (is_at place fabric) rows = rw apart refl in
      ap (filter (is_at place fabric)) first ∙ at_of_place place fabric rows ∙ sym other
]

-- and the others are the rows of other fabrics there
pub others_of_place : (place : Place) (fabric : ℕ) (rows : List Row) → filter (λ (row : Row). not (is_at place fabric row)) (filter (stands_at place) rows) ≡ filter (is_other_at place fabric) rows
others_of_place place fabric [] = refl
others_of_place place fabric (row ∷ rows) = elim (cases_Bool (stands_at place row)) [
  | inl there ↦
      let first : filter (stands_at place) (row ∷ rows) ≡ row ∷ filter (stands_at place) rows = rw there refl in
      let same : not (is_at place fabric row) ≡ is_other_at place fabric row = rw there refl in
      ap (filter (λ (r : Row). not (is_at place fabric r))) first ∙ (λ i. cond (same i) (row ∷ others_of_place place fabric rows i) (others_of_place place fabric rows i))
  | inr apart ↦
      let first : filter (stands_at place) (row ∷ rows) ≡ filter (stands_at place) rows = rw apart refl in
      let other : filter (is_other_at place fabric) (row ∷ rows) ≡ filter (is_other_at place fabric) rows = rw apart refl in
      ap (filter (λ (r : Row). not (is_at place fabric r))) first ∙ others_of_place place fabric rows ∙ sym other
]

counted_apart : {X : Type 0} (p : X → Bool) (xs : List X) → length (filter p xs) + length (filter (λ x. not (p x)) xs) ≡ length xs
counted_apart p [] = refl
counted_apart p (x ∷ xs) = elim (cases_Bool (p x)) [
  | inl e ↦ rw e (omega (arith, counted_apart p xs))
  | inr e ↦ rw e (omega (arith, counted_apart p xs))
]

pub counted_others : (place : Place) (fabric : ℕ) (rows : List Row) → length (filter (is_at place fabric) rows) + length (filter (is_other_at place fabric) rows) ≡ length (filter (stands_at place) rows)
counted_others place fabric rows =
    (λ i. length (sym (at_of_place place fabric rows) i) + length (sym (others_of_place place fabric rows) i))
    ∙ counted_apart (is_at place fabric) (filter (stands_at place) rows)

-- Rows of a fabric that are set take the place of those that it had.
filter_again : {X : Type 0} (p q : X → Bool) → ((x : X) → p x ≡ true → q x ≡ true) → (xs : List X) → filter p (filter q xs) ≡ filter p xs
filter_again p q h [] = refl
filter_again {X} p q h (x ∷ xs) = elim (cases_Bool (p x)) [
  | inl e ↦ rw (h x e) (ap (λ (l : List X). cond (p x) (x ∷ l) l) (filter_again p q h xs))
  | inr e ↦
      let gone : filter p (x ∷ xs) ≡ filter p xs = rw e refl in
      elim (cases_Bool (q x)) [
        | inl f ↦
            let first : filter q (x ∷ xs) ≡ x ∷ filter q xs = rw f refl in
            let left : filter p (x ∷ filter q xs) ≡ filter p (filter q xs) = rw e refl in
            ap (filter p) first ∙ left ∙ filter_again p q h xs ∙ sym gone
        | inr f ↦
            let first : filter q (x ∷ xs) ≡ filter q xs = rw f refl in
            ap (filter p) first ∙ filter_again p q h xs ∙ sym gone
      ]
]

pub set_anew : (place : Place) (fabric : ℕ) (values : List Value) (rows : List Row) → with_rows place fabric values (filter (λ (row : Row). not (is_at place fabric row)) rows) ≡ with_rows place fabric values rows
set_anew place fabric values rows =
    let is_other : Row → Bool = λ row. not (is_at place fabric row) in
    let lower = filter_again (is_below place fabric) is_other (λ row e. not_from_false _ (below_is_other place fabric row e)) rows in
    let higher = filter_again (is_above place fabric) is_other (λ row e. not_from_false _ (above_is_other place fabric row e)) rows in
    λ i. lower i ++ (map (row_at place fabric) values ++ higher i)

-- Places without a row.

abbrev pub is_nothing : List Row → Bool
is_nothing [] = true
is_nothing (row ∷ rows) = false

abbrev pub has_none : Kept → Bool
has_none e = is_nothing e.1.items

nothing-is : (rows : List Row) → is_nothing rows ≡ true → rows ≡ []
nothing-is [] e = refl
nothing-is (row ∷ rows) e = absurd (cc)

pub none_listed : (es : List Kept) → list_all has_none es ≡ true → listed es ≡ []
none_listed [] all = refl
none_listed (e ∷ es) all = λ i. nothing-is e.1.items (and_parts _ _ all).0 i ++ none_listed es (and_parts _ _ all).1 i

nothing_stands : (e : Kept) → has_none e ≡ true → stand_there e ≡ true
nothing_stands e none = ap (list_all (stands_at e.0)) (nothing-is e.1.items none)

pub none_stand : (es : List Kept) → list_all has_none es ≡ true → list_all stand_there es ≡ true
none_stand = all_weaker has_none stand_there nothing_stands

pub none_inserted : (place : Place) (w : Vec Row) → w.items ≡ [] → (es : List Kept) → list_all has_none es ≡ true → list_all has_none (insert_entry place_order es place w) ≡ true
none_inserted place w empty [] all = rw empty refl
none_inserted place w empty (e ∷ es) all = elim (three (place_order place e.0)) [
  | inl less ↦ rw (less, empty) all
  | inr more ↦ elim more [
    | inl equal ↦ rw (equal, empty) (and_parts _ _ all).1
    | inr greater ↦ rw greater (and_from _ _ (and_parts _ _ all).0 (none_inserted place w empty es (and_parts _ _ all).1))
  ]
]

-- Places that are there stay there.

stays : (b : Bool) (w : Vec Row) (old : Option (Vec Row)) → is_some old ≡ true → is_some (cond b (Some w) old) ≡ true
stays true w old there = refl
stays false w old there = there

pub place_stays : (m n : BTreeMap Place (Vec Row)) (place : Place) (w : Vec Row) → tree.Updates place_order m n place (Some w) → (q : Place) → has_place m q ≡ true → has_place n q ≡ true
place_stays m n place w update q there = ap is_some (update.0 q) ∙ stays (tree.is_at (place_order place) q) w (tree.get place_order m q) there

pub places_stay : (m n : BTreeMap Place (Vec Row)) (place : Place) (w : Vec Row) → tree.Updates place_order m n place (Some w) → (places : List Place) → list_all (has_place m) places ≡ true → list_all (has_place n) places ≡ true
places_stay m n place w update = all_weaker (has_place m) (has_place n) (place_stays m n place w update)

pub one_more : (m n : BTreeMap Place (Vec Row)) (place : Place) (w : Vec Row) → tree.Updates place_order m n place (Some w) → (places : List Place) → list_all (has_place m) places ≡ true → list_all (has_place n) (places ++ place ∷ []) ≡ true
one_more m n place w update places there =
    list_all-append (has_place n) places (place ∷ [])
    ∙ and_from _ _ (places_stay m n place w update places there) (and_from _ _ (ap is_some update.1) refl)

-- What may follow all rows stands behind none of them.

follows_last : (first : Row) (rows : List Row) (row : Row) → ascend_after first (rows ++ row ∷ []) ≡ true → may_follow first row ≡ true
follows_last first [] row up = (and_parts _ _ up).0
follows_last first (next ∷ rows) row up = may_follow-trans first next row (and_parts _ _ up).0 (follows_last next rows row (and_parts _ _ up).1)

follower_no_earlier : (first row : Row) → may_follow first row ≡ true → not (stands_before row.place first.place) ≡ true
follower_no_earlier first row follows = grind (arith, common_steps)

pub no_later : (rows : List Row) (row : Row) → are_ascending (rows ++ row ∷ []) ≡ true → list_all (λ (other : Row). not (stands_before row.place other.place)) rows ≡ true
no_later [] row up = refl
no_later (first ∷ rows) row up = and_from _ _ (follower_no_earlier first row (follows_last first rows row up)) (no_later rows row (ascending-tail first (rows ++ row ∷ []) up))

-- The map keeps its rules where the rows of a place are replaced by others that stand there.

module _ (m n : BTreeMap Place (Vec Row)) (place : Place) (old w : Vec Row)
    (kept : IsKept m) (through : tree.WritesThrough place_order (place_order place) m w n) (found : tree.get place_order m place ≡ Some old) where
  pub kept_through : list_all (stands_at place) w.items ≡ true → are_ascending (listed n.entries) ≡ true → IsKept n
  kept_through there up = record {
    ordered = through.4;
    rows_stand = subst (λ (es : List Kept). list_all stand_there es ≡ true) (sym through.0) (stand_set place m.entries w there kept.rows_stand);
    rows_ascend = up;
    all_there = places_stay m n place w (through.3 (subst (λ (o : Option (Vec Row)). IsSome o) (sym found) refl)) stored_places kept.all_there;
  }

  old_stand : list_all (stands_at place) old.items ≡ true
  old_stand = found_stand place m.entries old kept.rows_stand found

  pub same_through : w.items ≡ old.items → listed n.entries ≡ listed m.entries
  same_through same = ap listed through.0 ∙ same_listed place old w same m.entries found

  pub kept_same : w.items ≡ old.items → IsKept n
  kept_same same = kept_through
      (subst (λ (l : List Row). list_all (stands_at place) l ≡ true) (sym same) old_stand)
      (subst (λ (l : List Row). are_ascending l ≡ true) (sym (same_through same)) kept.rows_ascend)

  pub set_through : (fabric : ℕ) (values : List Value) → w.items ≡ with_rows place fabric values old.items → listed n.entries ≡ with_rows place fabric values (listed m.entries)
  set_through fabric values is = ap listed through.0 ∙ set_listed place fabric values m.entries old w kept.ordered kept.rows_stand found is

  pub kept_set : (fabric : ℕ) (values : List Value) → w.items ≡ with_rows place fabric values old.items → IsKept n
  kept_set fabric values is = kept_through
      (subst (λ (l : List Row). list_all (stands_at place) l ≡ true) (sym is) (set_stand place fabric values old.items old_stand))
      (subst (λ (l : List Row). are_ascending l ≡ true) (sym (set_through fabric values is)) (rows_ascending place fabric values (listed m.entries) kept.rows_ascend))

  pub added_through : (row : Row) → row.place ≡ place → are_ascending (listed m.entries ++ row ∷ []) ≡ true → w.items ≡ old.items ++ row ∷ [] → listed n.entries ≡ listed m.entries ++ row ∷ []
  added_through row at up is =
      let none : list_all (λ (other : Row). not (stands_before place other.place)) (listed m.entries) ≡ true =
      subst (λ (p : Place). list_all (λ (other : Row). not (stands_before p other.place)) (listed m.entries) ≡ true) at (no_later (listed m.entries) row up) in
      ap listed through.0 ∙ add_listed place row m.entries old w kept.ordered kept.rows_stand none found is

  pub kept_added : (row : Row) → row.place ≡ place → are_ascending (listed m.entries ++ row ∷ []) ≡ true → w.items ≡ old.items ++ row ∷ [] → IsKept n
  kept_added row at up is =
      let there : stands_at place row ≡ true = subst (λ (p : Place). same_place row.place p ≡ true) at (same_place-refl row.place) in
      kept_through
      (subst (λ (l : List Row). list_all (stands_at place) l ≡ true) (sym is) (list_all-append (stands_at place) old.items (row ∷ []) ∙ and_from _ _ old_stand (and_from _ _ there refl)))
      (subst (λ (l : List Row). are_ascending l ≡ true) (sym (added_through row at up is)) up)

-- a stored place is found
pub stored_found : (m : BTreeMap Place (Vec Row)) (place : Place) → IsKept m → is_stored_place place ≡ true → tree.get place_order m place ≡ None → ⊥
stored_found m place kept stored none =
    let there : has_place m place ≡ true = among (has_place m) place stored_places kept.all_there stored in
    both_ways (has_place m place) (ap is_some none) there
