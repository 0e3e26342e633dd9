-- Rows of one place, by their fabrics.
use Rattle.std.proofs.Common.{◌≡◌, ℕ, ◌+◌, ◌<◌, ◌≤◌, inl, inr, Bool, true, ◌||◌, ◌==◌, ltb, eqb, List, [], ◌∷◌, refl, ap, ◌∙◌, filter, map, arith}
use Rattle.std.proofs.lemmas.Bool.{and_parts, and_from, cases_Bool, cases_order, ltb-true, lt-ltb, le-ltb, leb-true, eqb-true, eq-eqb, ne_eqb}
use Rattle.std.proofs.lemmas.List.{map-append}
use Rattle.mt_tlv.specs.declared.value.Value.{Value}
use Rattle.mt_model.proofs.Order.{follow_cases, follow_same, may_follow-trans, ascending-tail, same_place-refl, same_place-sym, same_place-trans, same_not_before}
use Rattle.mt_model.specs.texts.Config.{ascend_from, are_numbered_from}
use Rattle.mt_model.specs.rows.Order.{may_follow, ascend_after, are_ascending, rise_above, fabrics_ascend, in_order, is_lower, is_own, is_higher, row_at, entry_rows, fabric_rows}
use Rattle.mt_model.specs.rows.Sight.{stands_at, seen_by}
use Rattle.mt_model.specs.declared.tables.access.AclEntry.{AclEntry}
use Rattle.mt_model.specs.declared.tables.fabric.Fabric.{Fabric}
use Rattle.mt_model.specs.declared.rows.place.Place.{Place}
use Rattle.mt_model.specs.declared.rows.place.Row.{Row}

-- whether the fabrics of the rows do not fall, from this on
pub Rises : ℕ → List Row → Type 0
Rises fabric [] = Unit {0}
Rises fabric (row ∷ rows) = (fabric ≤ row.fabric) × Rises row.fabric rows

Rises-from : (f g : ℕ) (rows : List Row) → g ≤ f → Rises f rows → Rises g rows
unfolding Rises
Rises-from f g [] le h = tt
Rises-from f g (row ∷ rows) le h = (omega (arith, h.0), h.1)

none_lower : (g f : ℕ) (rows : List Row) → g ≤ f → Rises f rows → filter (is_lower g) rows ≡ []
unfolding Rises
none_lower g f [] le h = refl
none_lower g f (row ∷ rows) le h = rw (le-ltb row.fabric g (omega (arith, h.0))) (none_lower g row.fabric rows (omega (arith, h.0)) h.1)

none_own : (g f : ℕ) (rows : List Row) → g < f → Rises f rows → filter (is_own g) rows ≡ []
unfolding Rises
none_own g f [] le h = refl
none_own g f (row ∷ rows) le h = rw (ne_eqb row.fabric g (λ e. omega (arith, h.0, e))) (none_own g row.fabric rows (omega (arith, h.0)) h.1)

pub rising_in_order : (g f : ℕ) (rows : List Row) → Rises f rows → in_order g rows ≡ rows
unfolding Rises
rising_in_order g f [] h = refl
rising_in_order g f (row ∷ rows) h =
    let rest : in_order g rows ≡ rows = rising_in_order g row.fabric rows h.1 in
    elim (cases_order row.fabric g) [
      | inl same ↦
          let lower : filter (is_lower g) rows ≡ [] = none_lower g row.fabric rows (omega arith) h.1 in
          rw (le-ltb row.fabric g (omega arith), eq-eqb row.fabric g same, le-ltb g row.fabric (omega arith), lower)
          (ap (λ (rs : List Row). row ∷ rs) (rw lower at rest))
      | inr apart ↦ elim apart [
        | inl lt ↦
            rw (lt-ltb row.fabric g lt, ne_eqb row.fabric g (λ e. omega arith), le-ltb g row.fabric (omega arith))
            (ap (λ (rs : List Row). row ∷ rs) rest)
        | inr gt ↦
            let lower : filter (is_lower g) rows ≡ [] = none_lower g row.fabric rows (omega arith) h.1 in
            let none : filter (is_own g) rows ≡ [] = none_own g row.fabric rows gt h.1 in
            rw (le-ltb row.fabric g (omega arith), ne_eqb row.fabric g (λ e. omega arith), lt-ltb g row.fabric gt, lower, none)
            (ap (λ (rs : List Row). row ∷ rs) (rw (lower, none) at rest))
      ]
    ]

-- each row may follow this one
Follows : Row → List Row → Type 0
Follows row [] = Unit {0}
Follows row (next ∷ rows) = (may_follow row next ≡ true) × Follows row rows

Follows-on : (row next : Row) (rows : List Row) → may_follow row next ≡ true → ascend_after next rows ≡ true → Follows row rows
unfolding Follows
Follows-on row next [] e h = tt
Follows-on row next (third ∷ rows) e h =
    let on : may_follow row third ≡ true = may_follow-trans row next third e (and_parts _ _ h).0 in
    (on, Follows-on row third rows on (and_parts _ _ h).1)

Follows-from : (row : Row) (rows : List Row) → ascend_after row rows ≡ true → Follows row rows
unfolding Follows
Follows-from row [] h = tt
Follows-from row (next ∷ rows) h = ((and_parts _ _ h).0, Follows-on row next rows (and_parts _ _ h).0 (and_parts _ _ h).1)

-- each row of the place has this fabric or a higher one
AtLeast : ℕ → Place → List Row → Type 0
AtLeast fabric place [] = Unit {0}
AtLeast fabric place (row ∷ rows) = (stands_at place row ≡ true → fabric ≤ row.fabric) × AtLeast fabric place rows

none_below : (place : Place) (rows : List Row) → AtLeast 0 place rows
unfolding AtLeast
none_below place [] = tt
none_below place (row ∷ rows) = (λ e. omega arith, none_below place rows)

not_lower : (place : Place) (row next : Row) → stands_at place row ≡ true → stands_at place next ≡ true → may_follow row next ≡ true → row.fabric ≤ next.fabric
not_lower place row next a b e = elim (follow_cases row next e) [
  | inl before ↦ absurd (same_not_before row.place next.place (same_place-trans row.place place next.place a (same_place-sym next.place place b)) before)
  | inr same ↦ same.1
]

at_least : (place : Place) (row : Row) (rows : List Row) → stands_at place row ≡ true → Follows row rows → AtLeast row.fabric place rows
unfolding AtLeast Follows
at_least place row [] e h = tt
at_least place row (next ∷ rows) e h = (λ a. not_lower place row next e a h.0, at_least place row rows e h.1)

place_rises : (place : Place) (fabric : ℕ) (rows : List Row) → are_ascending rows ≡ true → AtLeast fabric place rows → Rises fabric (filter (stands_at place) rows)
unfolding AtLeast Rises
place_rises place fabric [] up h = tt
place_rises place fabric (row ∷ rows) up h = elim (cases_Bool (stands_at place row)) [
  | inl e ↦ rw e (h.0 e, place_rises place row.fabric rows (ascending-tail row rows up) (at_least place row rows e (Follows-from row rows up)))
  | inr e ↦ rw e (place_rises place fabric rows (ascending-tail row rows up) h.1)
]

pub place_in_order : (rows : List Row) (place : Place) (fabric : ℕ) → are_ascending rows ≡ true → in_order fabric (filter (stands_at place) rows) ≡ filter (stands_at place) rows
place_in_order rows place fabric up = rising_in_order fabric 0 _ (place_rises place 0 rows up (none_below place rows))

-- Rows of one place whose fabrics do not fall.

entries_rise : (place : Place) (value : AclEntry → Value) (fabric : ℕ) (entries : List AclEntry) → ascend_from fabric entries ≡ true → Rises fabric (entry_rows place value entries)
unfolding Rises
entries_rise place value fabric [] e = tt
entries_rise place value fabric (entry ∷ entries) e = (leb-true _ _ (and_parts _ _ e).0, entries_rise place value entry.fabric entries (and_parts _ _ e).1)

fabrics_rise : (place : Place) (value : Fabric → Value) (index : ℕ) (fabrics : List Fabric) → rise_above index fabrics ≡ true → Rises index (fabric_rows place value fabrics)
unfolding Rises
fabrics_rise place value index [] e = tt
fabrics_rise place value index (fabric ∷ fabrics) e =
    let lt : index < fabric.index = ltb-true _ _ (and_parts _ _ e).0 in
    (omega arith, fabrics_rise place value fabric.index fabrics (and_parts _ _ e).1)

entries_after : (place : Place) (value : AclEntry → Value) (fabric : ℕ) (v : Value) (entries : List AclEntry) → ascend_from fabric entries ≡ true → ascend_after (row_at place fabric v) (entry_rows place value entries) ≡ true
entries_after place value fabric v [] e = refl
entries_after place value fabric v (entry ∷ entries) e =
    and_from _ _
    (follow_same (row_at place fabric v) (row_at place entry.fabric (value entry)) (same_place-refl place) (leb-true _ _ (and_parts _ _ e).0))
    (entries_after place value entry.fabric (value entry) entries (and_parts _ _ e).1)

fabrics_after : (place : Place) (value : Fabric → Value) (index : ℕ) (v : Value) (fabrics : List Fabric) → rise_above index fabrics ≡ true → ascend_after (row_at place index v) (fabric_rows place value fabrics) ≡ true
fabrics_after place value index v [] e = refl
fabrics_after place value index v (fabric ∷ fabrics) e =
    let lt : index < fabric.index = ltb-true _ _ (and_parts _ _ e).0 in
    and_from _ _
    (follow_same (row_at place index v) (row_at place fabric.index (value fabric)) (same_place-refl place) (omega arith))
    (fabrics_after place value fabric.index (value fabric) fabrics (and_parts _ _ e).1)

pub entries_ascending : (entries : List AclEntry) (place : Place) (value : AclEntry → Value) → ascend_from 0 entries ≡ true → are_ascending (entry_rows place value entries) ≡ true
entries_ascending [] place value e = refl
entries_ascending (entry ∷ entries) place value e = entries_after place value entry.fabric (value entry) entries (and_parts _ _ e).1

pub entries_in_order : (entries : List AclEntry) (place : Place) (value : AclEntry → Value) (fabric : ℕ) → ascend_from 0 entries ≡ true → in_order fabric (entry_rows place value entries) ≡ entry_rows place value entries
entries_in_order entries place value fabric e = rising_in_order fabric 0 _ (entries_rise place value 0 entries e)

pub fabrics_ascending : (fabrics : List Fabric) (place : Place) (value : Fabric → Value) → fabrics_ascend fabrics ≡ true → are_ascending (fabric_rows place value fabrics) ≡ true
fabrics_ascending [] place value e = refl
fabrics_ascending (fabric ∷ fabrics) place value e = fabrics_after place value fabric.index (value fabric) fabrics (and_parts _ _ e).1

pub fabrics_in_order : (fabrics : List Fabric) (place : Place) (value : Fabric → Value) (fabric : ℕ) → fabrics_ascend fabrics ≡ true → in_order fabric (fabric_rows place value fabrics) ≡ fabric_rows place value fabrics
fabrics_in_order fabrics place value fabric e = rising_in_order fabric 0 _ (fabrics_rise place value 0 fabrics e)

numbered_rise : (below index : ℕ) (fabrics : List Fabric) → below < index → are_numbered_from index fabrics ≡ true → rise_above below fabrics ≡ true
numbered_rise below index [] lt e = refl
numbered_rise below index (fabric ∷ fabrics) lt e =
    let same : fabric.index ≡ index = eqb-true _ _ (and_parts _ _ e).0 in
    and_from _ _ (lt-ltb below fabric.index (omega arith)) (numbered_rise fabric.index (index + 1) fabrics (omega arith) (and_parts _ _ e).1)

pub numbered_ascend : (fabrics : List Fabric) → are_numbered_from 1 fabrics ≡ true → fabrics_ascend fabrics ≡ true
numbered_ascend fabrics e = numbered_rise 0 1 fabrics (omega arith) e

-- What a fabric may see of rows, in their order.

filter_mapped : (h : Row → Row) (p : Row → Bool) (rows : List Row) → ((row : Row) → p (h row) ≡ p row) → filter p (map h rows) ≡ map h (filter p rows)
filter_mapped h p [] same = refl
filter_mapped h p (row ∷ rows) same = elim (cases_Bool (p row)) [
  | inl e ↦ rw (same row ∙ e, e) (ap (λ (rs : List Row). h row ∷ rs) (filter_mapped h p rows same))
  | inr e ↦ rw (same row ∙ e, e) (filter_mapped h p rows same)
]

seen_fabric : (fabric : ℕ) (row : Row) → (seen_by fabric row).fabric ≡ row.fabric
seen_fabric fabric row = elim (cases_Bool (row.fabric == fabric || row.fabric == 0)) [
  | inl e ↦ rw e refl
  | inr e ↦ rw e refl
]

pub order_sees : (fabric other : ℕ) (rows : List Row) → map (seen_by fabric) (in_order other rows) ≡ in_order other (map (seen_by fabric) rows)
order_sees fabric other rows =
    let sees = seen_by fabric in
    let lower : filter (is_lower other) (map sees rows) ≡ map sees (filter (is_lower other) rows) = filter_mapped sees (is_lower other) rows (λ row. ap (λ (n : ℕ). ltb n other) (seen_fabric fabric row)) in
    let own : filter (is_own other) (map sees rows) ≡ map sees (filter (is_own other) rows) = filter_mapped sees (is_own other) rows (λ row. ap (λ (n : ℕ). eqb n other) (seen_fabric fabric row)) in
    let higher : filter (is_higher other) (map sees rows) ≡ map sees (filter (is_higher other) rows) = filter_mapped sees (is_higher other) rows (λ row. ap (λ (n : ℕ). ltb other n) (seen_fabric fabric row)) in
    rw (map-append, map-append, lower, own, higher) refl
