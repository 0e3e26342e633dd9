-- Rows and entries stay in their order where those of one fabric are set, and the others stay.
use Rattle.std.proofs.Common.{◌≡◌, ℕ, ◌<◌, ◌≤◌, ◌⊎◌, inl, inr, Bool, true, false, not, List, [], ◌∷◌, ◌++◌, refl, sym, ap, ◌∙◌, subst, filter, get_or, map, arith}
use Rattle.std.specs.List.{list_all}
use Rattle.std.specs.List.Sorted.{IsPartitionedBy}
use Rattle.std.proofs.lemmas.Grind.{common_steps}
use Rattle.std.proofs.lemmas.Bool.{and_from, and_parts, cases_Bool, cases_order, false_from_ne_true, both_ways, not_from_false, not-false, not-true, or_cases, or_left, or_right, ltb-true, lt-ltb, le-ltb, leb-true, le-leb, eqb-true}
use Rattle.std.proofs.lemmas.List.Folds.{list_all-append}
use Rattle.mt_tlv.specs.declared.value.Value.{Value}
use Rattle.mt_tlv.specs.declared.value.Value.TheVariants.{Null}
use Rattle.mt_model.specs.texts.Config.{ascend_from}
use Rattle.mt_model.specs.rows.Order.{are_ascending, ascend_after, may_follow, row_at}
use Rattle.mt_model.specs.rows.Setting.{is_above, is_at, is_below, is_entry_above, is_entry_below, is_entry_of, with_entries, with_rows}
use Rattle.mt_model.specs.declared.tables.access.AclEntry.{AclEntry}
use Rattle.mt_model.specs.declared.rows.place.Place.{Place}
use Rattle.mt_model.specs.declared.rows.place.Row.{Row}
use Rattle.mt_model.proofs.Order.{after_on, ascending-tail, ascending_pairs, before_back, before_same, follow_before, follow_cases, follow_same, may_follow-trans, same_before, same_place-refl, same_place-trans}

same_or_less : (i j : ℕ) → i ≤ j → (i ≡ j) ⊎ (i < j)
same_or_less i j le = elim (cases_order i j) [
  | inl same ↦ inl same
  | inr apart ↦ elim apart [ inl lt ↦ inr lt | inr gt ↦ absurd (omega arith) ]
]

-- Lists.

-- what passes one test passes another
all_filter : {X : Type 0} (p q : X → Bool) → ((x : X) → p x ≡ true → q x ≡ true) → (xs : List X) → list_all q (filter p xs) ≡ true
all_filter p q h [] = refl
all_filter p q h (x ∷ xs) = elim (cases_Bool (p x)) [
  | inl e ↦ rw e (and_from _ _ (h x e) (all_filter p q h xs))
  | inr e ↦ rw e (all_filter p q h xs)
]

all_joined : {X : Type 0} (q : X → Bool) (xs ys : List X) → list_all q xs ≡ true → list_all q ys ≡ true → list_all q (xs ++ ys) ≡ true
all_joined q xs ys a b = list_all-append q xs ys ∙ and_from _ _ a b

-- Of rows and entries that stand in order, what is below, at and above one place and fabric.
module _ (X : Type 0) (below at above : X → Bool)
    (below_not : (x : X) → below x ≡ true → at x ≡ false)
    (above_not : (x : X) → above x ≡ true → at x ≡ false)
    (above_not_below : (x : X) → above x ≡ true → below x ≡ false)
    (neither : (x : X) → below x ≡ false → above x ≡ false → at x ≡ true) where
  abbrev pub OthersOf : List X → Type 0
  OthersOf xs = filter below xs ++ filter above xs ≡ filter (λ x. not (at x)) xs

  others_below : (x : X) (xs : List X) → below x ≡ true → above x ≡ false → OthersOf xs → OthersOf (x ∷ xs)
  others_below x xs b a rest = rw (b, a, below_not x b) (ap (λ (l : List X). x ∷ l) rest)

  others_above : (x : X) (xs : List X) → above x ≡ true → filter below xs ≡ [] → OthersOf xs → OthersOf (x ∷ xs)
  others_above x xs a none rest = rw (above_not_below x a, a, above_not x a, none) (ap (λ (l : List X). x ∷ l) (rw none at rest))

  others_at : (x : X) (xs : List X) → below x ≡ false → above x ≡ false → OthersOf xs → OthersOf (x ∷ xs)
  others_at x xs b a rest = rw (b, a, neither x b a) rest

  pub others_more : (x : X) (xs : List X) → (above x ≡ true → filter below xs ≡ []) → OthersOf xs → OthersOf (x ∷ xs)
  others_more x xs none rest = elim (cases_Bool (above x)) [
    | inl a ↦ others_above x xs a (none a) rest
    | inr a ↦ elim (cases_Bool (below x)) [ inl b ↦ others_below x xs b a rest | inr b ↦ others_at x xs b a rest ]
  ]

-- Rows.

ascend_skipped : (row next : Row) (rows : List Row) → ascend_after row (next ∷ rows) ≡ true → ascend_after row rows ≡ true
ascend_skipped row next [] up = refl
ascend_skipped row next (third ∷ rows) up =
    let both = and_parts _ _ up in
    let rest = and_parts _ _ both.1 in
    and_from _ _ (may_follow-trans row next third both.0 rest.0) rest.1

ascend_filter : (p : Row → Bool) (row : Row) (rows : List Row) → ascend_after row rows ≡ true → ascend_after row (filter p rows) ≡ true
ascend_filter p row [] up = refl
ascend_filter p row (next ∷ rows) up = elim (cases_Bool (p next)) [
  | inl e ↦ rw e (and_from _ _ (and_parts _ _ up).0 (ascend_filter p next rows (and_parts _ _ up).1))
  | inr e ↦ rw e (ascend_filter p row rows (ascend_skipped row next rows up))
]

pub ascending_filter : (p : Row → Bool) (rows : List Row) → are_ascending rows ≡ true → are_ascending (filter p rows) ≡ true
ascending_filter p [] up = refl
ascending_filter p (row ∷ rows) up = elim (cases_Bool (p row)) [
  | inl e ↦ rw e (ascend_filter p row rows up)
  | inr e ↦ rw e (ascending_filter p rows (ascending-tail row rows up))
]

-- rows that a row may follow, and rows that may follow it
ascend_joined : (t row : Row) (rows others : List Row) → ascend_after row rows ≡ true → may_follow row t ≡ true → list_all (λ (r : Row). may_follow r t) rows ≡ true
    → are_ascending others ≡ true → list_all (may_follow t) others ≡ true → ascend_after row (rows ++ others) ≡ true
ascend_joined t row [] [] up last before on behind = refl
ascend_joined t row [] (next ∷ others) up last before on behind = and_from _ _ (may_follow-trans row t next last (and_parts _ _ behind).0) on
ascend_joined t row (next ∷ rows) others up last before on behind =
    and_from _ _ (and_parts _ _ up).0 (ascend_joined t next rows others (and_parts _ _ up).1 (and_parts _ _ before).0 (and_parts _ _ before).1 on behind)

ascending_joined : (t : Row) (rows others : List Row) → are_ascending rows ≡ true → list_all (λ (r : Row). may_follow r t) rows ≡ true
    → are_ascending others ≡ true → list_all (may_follow t) others ≡ true → are_ascending (rows ++ others) ≡ true
ascending_joined t [] others up before on behind = on
ascending_joined t (row ∷ rows) others up before on behind = ascend_joined t row rows others up (and_parts _ _ before).0 (and_parts _ _ before).1 on behind

module _ (place : Place) (fabric : ℕ) where
  -- rows of the place and the fabric follow each other
  here_follows : (v w : Value) → may_follow (row_at place fabric v) (row_at place fabric w) ≡ true
  here_follows v w = follow_same (row_at place fabric v) (row_at place fabric w) (same_place-refl place) (omega arith)

  values_ascend : (v : Value) (values : List Value) → ascend_after (row_at place fabric v) (map (row_at place fabric) values) ≡ true
  values_ascend v [] = refl
  values_ascend v (w ∷ values) = and_from _ _ (here_follows v w) (values_ascend w values)

  values_ascending : (values : List Value) → are_ascending (map (row_at place fabric) values) ≡ true
  values_ascending [] = refl
  values_ascending (v ∷ values) = values_ascend v values

  values_follow : (v : Value) (values : List Value) → list_all (may_follow (row_at place fabric v)) (map (row_at place fabric) values) ≡ true
  values_follow v [] = refl
  values_follow v (w ∷ values) = and_from _ _ (here_follows v w) (values_follow v values)

  values_precede : (v : Value) (values : List Value) → list_all (λ (r : Row). may_follow r (row_at place fabric v)) (map (row_at place fabric) values) ≡ true
  values_precede v [] = refl
  values_precede v (w ∷ values) = and_from _ _ (here_follows w v) (values_precede v values)

  below_precedes : (v : Value) (row : Row) → is_below place fabric row ≡ true → may_follow row (row_at place fabric v) ≡ true
  below_precedes v row e = elim (or_cases _ _ e) [
    | inl x ↦ follow_before row (row_at place fabric v) x
    | inr y ↦
        let lt : row.fabric < fabric = ltb-true row.fabric fabric (and_parts _ _ y).1 in
        follow_same row (row_at place fabric v) (and_parts _ _ y).0 (omega arith)
  ]

  above_follows : (v : Value) (row : Row) → is_above place fabric row ≡ true → may_follow (row_at place fabric v) row ≡ true
  above_follows v row e = elim (or_cases _ _ e) [
    | inl x ↦ follow_before (row_at place fabric v) row x
    | inr y ↦
        let lt : fabric < row.fabric = ltb-true fabric row.fabric (and_parts _ _ y).1 in
        follow_same (row_at place fabric v) row (and_parts _ _ y).0 (omega arith)
  ]

  pub rows_ascending : (values : List Value) (rows : List Row) → are_ascending rows ≡ true → are_ascending (with_rows place fabric values rows) ≡ true
  rows_ascending values rows up =
      let t : Row = row_at place fabric Null in
      let new : List Row = map (row_at place fabric) values in
      let lower : List Row = filter (is_below place fabric) rows in
      let higher : List Row = filter (is_above place fabric) rows in
      let behind : list_all (may_follow t) higher ≡ true = all_filter (is_above place fabric) (may_follow t) (above_follows Null) rows in
      let rest : are_ascending (new ++ higher) ≡ true = ascending_joined t new higher (values_ascending values) (values_precede Null values) (ascending_filter (is_above place fabric) rows up) behind in
      ascending_joined t lower (new ++ higher) (ascending_filter (is_below place fabric) rows up)
      (all_filter (is_below place fabric) (λ (r : Row). may_follow r t) (below_precedes Null) rows)
      rest
      (all_joined (may_follow t) new higher (values_follow Null values) behind)

  pub below_is_other : (row : Row) → is_below place fabric row ≡ true → is_at place fabric row ≡ false
  below_is_other row e = grind (arith, common_steps)

  pub above_is_other : (row : Row) → is_above place fabric row ≡ true → is_at place fabric row ≡ false
  above_is_other row e = grind (arith, common_steps)

  above_is_not_below : (row : Row) → is_above place fabric row ≡ true → is_below place fabric row ≡ false
  above_is_not_below row e = grind (arith, common_steps)

  pub neither_is_at : (row : Row) → is_below place fabric row ≡ false → is_above place fabric row ≡ false → is_at place fabric row ≡ true
  neither_is_at row a b = grind (arith, common_steps)

  pub below_back : (a b : Row) → may_follow a b ≡ true → is_below place fabric b ≡ true → is_below place fabric a ≡ true
  below_back a b x y = elim (or_cases _ _ y) [
    | inl before ↦ or_left _ _ (before_back place a b x before)
    | inr at ↦ elim (follow_cases a b x) [
      | inl p ↦ or_left _ _ (before_same a.place b.place place p (and_parts _ _ at).0)
      | inr q ↦
          let lt : b.fabric < fabric = ltb-true b.fabric fabric (and_parts _ _ at).1 in
          or_right _ _ (and_from _ _ (same_place-trans a.place b.place place q.0 (and_parts _ _ at).0) (lt-ltb a.fabric fabric (omega (arith, q.1))))
    ]
  ]

  pub above_on : (a b : Row) → may_follow a b ≡ true → is_above place fabric a ≡ true → is_above place fabric b ≡ true
  above_on a b x y = elim (or_cases _ _ y) [
    | inl behind ↦ or_left _ _ (after_on place a b x behind)
    | inr at ↦ elim (follow_cases a b x) [
      | inl p ↦ or_left _ _ (same_before place a.place b.place (and_parts _ _ at).0 p)
      | inr q ↦
          let lt : fabric < a.fabric = ltb-true fabric a.fabric (and_parts _ _ at).1 in
          or_right _ _ (and_from _ _ (same_place-trans place a.place b.place (and_parts _ _ at).0 q.0) (lt-ltb fabric b.fabric (omega (arith, q.1))))
    ]
  ]

  pub behind_is_other : (row : Row) → not (is_above place fabric row) ≡ false → is_at place fabric row ≡ false
  behind_is_other row e = above_is_other row (not-false _ e)

  pub between_is_at : (row : Row) → is_below place fabric row ≡ false → not (is_above place fabric row) ≡ true → is_at place fabric row ≡ true
  between_is_at row a b = neither_is_at row a (not-true _ b)

  -- rows that ascend are parted by each of the two tests

  pub below_parts : (rows : List Row) → are_ascending rows ≡ true → IsPartitionedBy (is_below place fabric) rows
  below_parts rows up i j d le h x = elim (same_or_less i j le) [
    | inl same ↦ subst (λ (k : ℕ). is_below place fabric (get_or rows k d) ≡ true) (sym same) x
    | inr lt ↦ below_back (get_or rows i d) (get_or rows j d) (ascending_pairs rows up i j d lt h) x
  ]

  pub no_above_parts : (rows : List Row) → are_ascending rows ≡ true → IsPartitionedBy (λ (row : Row). not (is_above place fabric row)) rows
  no_above_parts rows up i j d le h x = elim (same_or_less i j le) [
    | inl same ↦ subst (λ (k : ℕ). not (is_above place fabric (get_or rows k d)) ≡ true) (sym same) x
    | inr lt ↦ not_from_false _ (false_from_ne_true _ (λ y. both_ways _ (not-true _ x) (above_on (get_or rows i d) (get_or rows j d) (ascending_pairs rows up i j d lt h) y)))
  ]

  pub below_is_not_above : (row : Row) → is_below place fabric row ≡ true → not (is_above place fabric row) ≡ true
  below_is_not_above row e = not_from_false _ (false_from_ne_true _ (λ a. both_ways (is_below place fabric row) (above_is_not_below row a) e))

  none_below : (row : Row) (rows : List Row) → ascend_after row rows ≡ true → is_above place fabric row ≡ true → filter (is_below place fabric) rows ≡ []
  none_below row [] up a = refl
  none_below row (next ∷ rows) up a =
      let on : is_above place fabric next ≡ true = above_on row next (and_parts _ _ up).0 a in
      rw (above_is_not_below next on) (none_below next rows (and_parts _ _ up).1 on)

  pub other_rows : (rows : List Row) → are_ascending rows ≡ true → filter (is_below place fabric) rows ++ filter (is_above place fabric) rows ≡ filter (λ (row : Row). not (is_at place fabric row)) rows
  other_rows [] up = refl
  other_rows (row ∷ rows) up =
      others_more Row (is_below place fabric) (is_at place fabric) (is_above place fabric) below_is_other above_is_other above_is_not_below neither_is_at row rows
      (λ a. none_below row rows up a) (other_rows rows (ascending-tail row rows up))

-- Entries.

entries_from : (least more : ℕ) (es : List AclEntry) → least ≤ more → ascend_from more es ≡ true → ascend_from least es ≡ true
entries_from least more [] le up = refl
entries_from least more (e ∷ es) le up =
    let first : more ≤ e.fabric = leb-true _ _ (and_parts _ _ up).0 in
    and_from _ _ (le-leb least e.fabric (omega arith)) (and_parts _ _ up).1

pub entries_filter : (p : AclEntry → Bool) (least : ℕ) (es : List AclEntry) → ascend_from least es ≡ true → ascend_from least (filter p es) ≡ true
entries_filter p least [] up = refl
entries_filter p least (e ∷ es) up = elim (cases_Bool (p e)) [
  | inl x ↦ rw x (and_from _ _ (and_parts _ _ up).0 (entries_filter p e.fabric es (and_parts _ _ up).1))
  | inr x ↦ rw x (entries_from least e.fabric (filter p es) (leb-true _ _ (and_parts _ _ up).0) (entries_filter p e.fabric es (and_parts _ _ up).1))
]

module _ (fabric : ℕ) where
  entries_joined : (least : ℕ) (es others : List AclEntry) → least ≤ fabric → ascend_from least es ≡ true → list_all (is_entry_below fabric) es ≡ true
      → ascend_from fabric others ≡ true → ascend_from least (es ++ others) ≡ true
  entries_joined least [] others le up before on = entries_from least fabric others le on
  entries_joined least (e ∷ es) others le up before on =
      let lt : e.fabric < fabric = ltb-true _ _ (and_parts _ _ before).0 in
      and_from _ _ (and_parts _ _ up).0 (entries_joined e.fabric es others (omega arith) (and_parts _ _ up).1 (and_parts _ _ before).1 on)

  own_joined : (es others : List AclEntry) → list_all (is_entry_of fabric) es ≡ true → ascend_from fabric others ≡ true → ascend_from fabric (es ++ others) ≡ true
  own_joined [] others own on = on
  own_joined (e ∷ es) others own on =
      let same : e.fabric ≡ fabric = eqb-true _ _ (and_parts _ _ own).0 in
      and_from _ _ (le-leb fabric e.fabric (omega arith)) (subst (λ (f : ℕ). ascend_from f (es ++ others) ≡ true) (sym same) (own_joined es others (and_parts _ _ own).1 on))

  above_from : (least : ℕ) (es : List AclEntry) → ascend_from least es ≡ true → list_all (is_entry_above fabric) es ≡ true → ascend_from fabric es ≡ true
  above_from least [] up above = refl
  above_from least (e ∷ es) up above =
      let lt : fabric < e.fabric = ltb-true _ _ (and_parts _ _ above).0 in
      and_from _ _ (le-leb fabric e.fabric (omega arith)) (and_parts _ _ up).1

  pub entries_ascending : (least : ℕ) (new es : List AclEntry) → least ≤ fabric → ascend_from least es ≡ true → list_all (is_entry_of fabric) new ≡ true
      → ascend_from least (with_entries fabric new es) ≡ true
  entries_ascending least new es le up own =
      let higher : List AclEntry = filter (is_entry_above fabric) es in
      let on : ascend_from fabric higher ≡ true = above_from least higher (entries_filter (is_entry_above fabric) least es up) (all_filter (is_entry_above fabric) (is_entry_above fabric) (λ e x. x) es) in
      entries_joined least (filter (is_entry_below fabric) es) (new ++ higher) le (entries_filter (is_entry_below fabric) least es up)
      (all_filter (is_entry_below fabric) (is_entry_below fabric) (λ e x. x) es)
      (own_joined new higher own on)

  no_entry_below : (least : ℕ) (es : List AclEntry) → fabric < least → ascend_from least es ≡ true → filter (is_entry_below fabric) es ≡ []
  no_entry_below least [] lt up = refl
  no_entry_below least (e ∷ es) lt up =
      let first : least ≤ e.fabric = leb-true _ _ (and_parts _ _ up).0 in
      rw (le-ltb e.fabric fabric (omega arith)) (no_entry_below e.fabric es (omega arith) (and_parts _ _ up).1)

  entry_below_is_other : (e : AclEntry) → is_entry_below fabric e ≡ true → is_entry_of fabric e ≡ false
  entry_below_is_other e x = grind (arith, x)

  entry_above_is_other : (e : AclEntry) → is_entry_above fabric e ≡ true → is_entry_of fabric e ≡ false
  entry_above_is_other e x = grind (arith, x)

  entry_above_is_not_below : (e : AclEntry) → is_entry_above fabric e ≡ true → is_entry_below fabric e ≡ false
  entry_above_is_not_below e x = grind (arith, x)

  neither_is_entry_of : (e : AclEntry) → is_entry_below fabric e ≡ false → is_entry_above fabric e ≡ false → is_entry_of fabric e ≡ true
  neither_is_entry_of e x y = grind (arith, x, y)

  pub other_entries_from : (least : ℕ) (es : List AclEntry) → ascend_from least es ≡ true → filter (is_entry_below fabric) es ++ filter (is_entry_above fabric) es ≡ filter (λ (e : AclEntry). not (is_entry_of fabric e)) es
  other_entries_from least [] up = refl
  other_entries_from least (e ∷ es) up =
      others_more AclEntry (is_entry_below fabric) (is_entry_of fabric) (is_entry_above fabric) entry_below_is_other entry_above_is_other entry_above_is_not_below neither_is_entry_of e es
      (λ a. no_entry_below e.fabric es (ltb-true _ _ a) (and_parts _ _ up).1) (other_entries_from e.fabric es (and_parts _ _ up).1)
