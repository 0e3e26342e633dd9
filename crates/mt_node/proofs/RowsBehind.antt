-- What rows of a fabric stand at a place behind steps, and that these rows, fabric by fabric, are the rows of the place.
use Rattle.std.proofs.Common.{◌≡◌, ◌↔◌, ℕ, zero, suc, ◌+◌, ◌≤◌, ◌==◌, ◌&&◌, ◌⊎◌, inl, inr, not, max, Bool, true, false, List, [], ◌∷◌, ◌++◌, Option, Some, None, IsTrue, refl, sym, ap, ◌∙◌, subst, filter, map, append-nil, arith, if◌then◌else◌, option_map, unwrap_or}
use Rattle.std.specs.List.{list_all, list_any}
use Rattle.std.specs.Option.{option_or}
use Rattle.std.proofs.lemmas.Grind.{common_steps}
use Rattle.std.proofs.lemmas.Bool.{false≢true, and_from, and_parts, cases_Bool, eqb-true, le-ltb, lt-ltb, ltb-true, not-false, not-true, or_parts}
use Rattle.std.proofs.lemmas.List.Elements.{filter-append}
use Rattle.mt_tlv.specs.declared.value.Value.{Value}
use Rattle.mt_model.specs.rows.Order.{are_ascending, in_order, is_higher, is_lower, is_own, row_at}
use Rattle.mt_model.specs.rows.Setting.{is_above, is_at, is_below, with_rows}
use Rattle.mt_model.specs.rows.Sight.{same_place, stands_at}
use Rattle.mt_model.specs.declared.tables.access.Actor.{Actor}
use Rattle.mt_model.specs.declared.node.action.NodeStep.{NodeStep}
use Rattle.mt_model.specs.declared.node.action.NodeStep.TheVariants.{SetRow, SetEntries, PutNetwork, RemoveNetwork, ConnectNetwork, MoveNetwork, Arm, Renew, Expire, Complete, AddRoot, Csr, AddFabric, UpdateFabric, RemoveFabric, Label, Emit}
use Rattle.mt_model.specs.declared.node.state.NodeState.{NodeState}
use Rattle.mt_model.specs.declared.rows.place.Place.{Place}
use Rattle.mt_model.specs.declared.rows.place.Row.{Row}
use Rattle.mt_write.specs.Latest.{latest, row_set}
use Rattle.mt_model.specs.rows.Same.{are_same_rows}
use Rattle.mt_machine.specs.Effects.{after, after_all, is_setting_step}
use Rattle.mt_machine.specs.Settings.{setting_cases}
use Rattle.mt_node.specs.Differences.{rows_stand, sets_other_rows}
use Rattle.mt_node.proofs.Filters.{filter_all, filter_and, filter_none, filter_through, filter_within, filter_without}
use Rattle.mt_node.proofs.Same.{ToldSame, differ_rows, rows_differ, rows_same, same_rows}

-- Rows in the order of their fabrics are told by the rows of each fabric.

lower_and_own : (n : ℕ) (rows : List Row) → filter (is_lower (n + 1)) (in_order n rows) ≡ filter (is_lower n) rows ++ filter (is_own n) rows
lower_and_own n rows =
    filter-append (is_lower (n + 1)) (filter (is_lower n) rows) (filter (is_own n) rows ++ filter (is_higher n) rows)
    ∙ ap (λ (l : List Row). filter (is_lower (n + 1)) (filter (is_lower n) rows) ++ l) (filter-append (is_lower (n + 1)) (filter (is_own n) rows) (filter (is_higher n) rows))
    ∙ (λ i. filter_within (is_lower (n + 1)) (is_lower n) (λ row e. lt-ltb row.fabric (n + 1) (omega (arith, ltb-true row.fabric n e))) rows i
    ++ (filter_within (is_lower (n + 1)) (is_own n) (λ row e. lt-ltb row.fabric (n + 1) (omega (arith, eqb-true row.fabric n e))) rows i
    ++ filter_without (is_lower (n + 1)) (is_higher n) (λ row e. le-ltb row.fabric (n + 1) (omega (arith, ltb-true n row.fabric e))) rows i))
    ∙ ap (λ (l : List Row). filter (is_lower n) rows ++ l) (append-nil (filter (is_own n) rows))

-- one above each fabric of the rows
above_all : List Row → ℕ
above_all [] = 0
above_all (row ∷ rows) = max (row.fabric + 1) (above_all rows)

all_lower : (rows : List Row) (n : ℕ) → above_all rows ≤ n → filter (is_lower n) rows ≡ rows
unfolding above_all
all_lower [] n le = refl
all_lower (row ∷ rows) n le =
    rw (lt-ltb row.fabric n (omega arith)) (ap (λ (l : List Row). row ∷ l) (all_lower rows n (omega arith)))

none_lower : (rows : List Row) → filter (is_lower 0) rows ≡ []
none_lower [] = refl
none_lower (row ∷ rows) = rw (le-ltb row.fabric 0 (omega arith)) (none_lower rows)

module _ (rows others : List Row) (up : (n : ℕ) → in_order n rows ≡ rows) (up_too : (n : ℕ) → in_order n others ≡ others)
    (same : (n : ℕ) → filter (is_own n) rows ≡ filter (is_own n) others) where
  lower_same : (n : ℕ) → filter (is_lower n) rows ≡ filter (is_lower n) others
  lower_same zero = none_lower rows ∙ sym (none_lower others)
  lower_same (suc n) =
      let one : n + 1 ≡ suc n = omega arith in
      subst (λ (k : ℕ). filter (is_lower k) rows ≡ filter (is_lower k) others) one
      (ap (filter (is_lower (n + 1))) (sym (up n)) ∙ lower_and_own n rows ∙ (λ i. lower_same n i ++ same n i)
      ∙ sym (lower_and_own n others) ∙ ap (filter (is_lower (n + 1))) (up_too n))

  pub rows_are_own : rows ≡ others
  rows_are_own =
      let most = max (above_all rows) (above_all others) in
      sym (all_lower rows most (omega arith)) ∙ lower_same most ∙ all_lower others most (omega arith)

-- Rows behind steps.

abbrev pub SetsInOrder : Type 0
SetsInOrder = (rows : List Row) (place : Place) (fabric : ℕ) (values : List Value) → IsTrue (are_ascending rows) → IsTrue (are_ascending (with_rows place fabric values rows))

abbrev pub KeepsOthers : Type 0
KeepsOthers = (rows : List Row) (place : Place) (fabric : ℕ) → IsTrue (are_ascending rows)
    → filter (is_below place fabric) rows ++ filter (is_above place fabric) rows ≡ filter (λ (row : Row). not (is_at place fabric row)) rows

place_of : (p q : Place) → same_place p q ≡ true → p ≡ q
place_of p q e =
    let one = and_parts (p.endpoint == q.endpoint) _ e in
    let two = and_parts (p.cluster == q.cluster) _ one.1 in
    λ i. record { endpoint = eqb-true _ _ one.0 i; cluster = eqb-true _ _ two.0 i; leaf = eqb-true _ _ two.1 i }

below_is_other : (place : Place) (fabric : ℕ) (row : Row) → is_below place fabric row ≡ true → is_at place fabric row ≡ false
below_is_other place fabric row e = grind (arith, common_steps)

above_is_other : (place : Place) (fabric : ℕ) (row : Row) → is_above place fabric row ≡ true → is_at place fabric row ≡ false
above_is_other place fabric row e = grind (arith, common_steps)

self_place : (p : Place) → same_place p p ≡ true
self_place p = grind (arith, common_steps)

module _ (place : Place) (fabric : ℕ) where
  -- rows of the fabric at the place are told by their values
  row_is : (row : Row) → is_at place fabric row ≡ true → row ≡ row_at place fabric row.value
  row_is row e =
      let both = and_parts (same_place row.place place) (row.fabric == fabric) e in
      λ i. record { place = place_of row.place place both.0 i; fabric = eqb-true row.fabric fabric both.1 i; value = row.value }

  rows_told : (rows : List Row) → list_all (is_at place fabric) rows ≡ true → rows ≡ map (row_at place fabric) (map (λ (row : Row). row.value) rows)
  rows_told [] all = refl
  rows_told (row ∷ rows) all =
      let both = and_parts (is_at place fabric row) (list_all (is_at place fabric) rows) all in
      λ i. row_is row both.0 i ∷ rows_told rows both.1 i

  filtered_all : (rows : List Row) → list_all (is_at place fabric) (filter (is_at place fabric) rows) ≡ true
  filtered_all [] = refl
  filtered_all (row ∷ rows) = elim (cases_Bool (is_at place fabric row)) [
    | inl e ↦ rw e (and_from _ _ e (filtered_all rows))
    | inr e ↦ rw e (filtered_all rows)
  ]

  values_told : (values : List Value) → map (λ (row : Row). row.value) (map (row_at place fabric) values) ≡ values
  values_told [] = refl
  values_told (v ∷ values) = ap (λ (l : List Value). v ∷ l) (values_told values)

  -- a test that decides whether these are their values
  pub rows_decided : ToldSame → (rows : List Row) (values : List Value) (same : Bool) → filter (is_at place fabric) rows ≡ rows → IsTrue same ↔ (map (λ (row : Row). row.value) rows ≡ values)
      → same ≡ are_same_rows rows (map (row_at place fabric) values)
  rows_decided told rows values true own decides =
      let all : list_all (is_at place fabric) rows ≡ true = subst (λ (l : List Row). list_all (is_at place fabric) l ≡ true) own (filtered_all rows) in
      sym (same_rows told rows (map (row_at place fabric) values) (rows_told rows all ∙ ap (map (row_at place fabric)) (decides.0 refl)))
  rows_decided told rows values false own decides =
      sym (rows_differ told rows (map (row_at place fabric) values) (λ e. false≢true (decides.1 (ap (map (λ (row : Row). row.value)) e ∙ values_told values))))

  here : (v : Value) → is_at place fabric (row_at place fabric v) ≡ true
  here v = grind (arith, self_place place)

  all_here : (values : List Value) → list_all (is_at place fabric) (map (row_at place fabric) values) ≡ true
  all_here [] = refl
  all_here (v ∷ values) = and_from _ _ (here v) (all_here values)

  none_here : (at : Place) (whose : ℕ) (values : List Value) → (same_place at place && (whose == fabric)) ≡ false → list_all (λ (row : Row). not (is_at place fabric row)) (map (row_at at whose) values) ≡ true
  none_here at whose [] e = refl
  none_here at whose (v ∷ values) e = and_from _ _ (ap not e) (none_here at whose values e)

  split : (below new above : List Row) → filter (is_at place fabric) (below ++ (new ++ above)) ≡ filter (is_at place fabric) below ++ (filter (is_at place fabric) new ++ filter (is_at place fabric) above)
  split below new above = filter-append (is_at place fabric) below (new ++ above) ∙ ap (λ (l : List Row). filter (is_at place fabric) below ++ l) (filter-append (is_at place fabric) new above)

  set_here : (values : List Value) (rows : List Row) → filter (is_at place fabric) (with_rows place fabric values rows) ≡ map (row_at place fabric) values
  set_here values rows =
      split (filter (is_below place fabric) rows) (map (row_at place fabric) values) (filter (is_above place fabric) rows)
      ∙ (λ i. filter_without (is_at place fabric) (is_below place fabric) (below_is_other place fabric) rows i
      ++ (filter_all (is_at place fabric) (map (row_at place fabric) values) (all_here values) i
      ++ filter_without (is_at place fabric) (is_above place fabric) (above_is_other place fabric) rows i))
      ∙ append-nil (map (row_at place fabric) values)

  other_at : (at : Place) (whose : ℕ) → (same_place at place && (whose == fabric)) ≡ false → (row : Row) → is_at place fabric row ≡ true → not (is_at at whose row) ≡ true
  other_at at whose e row h = grind (arith, common_steps)

  set_elsewhere : KeepsOthers → (at : Place) (whose : ℕ) (values : List Value) (rows : List Row) → IsTrue (are_ascending rows)
      → (same_place at place && (whose == fabric)) ≡ false → filter (is_at place fabric) (with_rows at whose values rows) ≡ filter (is_at place fabric) rows
  set_elsewhere keeps at whose values rows up e =
      let lower = filter (is_below at whose) rows in
      let higher = filter (is_above at whose) rows in
      split lower (map (row_at at whose) values) higher
      ∙ ap (λ (l : List Row). filter (is_at place fabric) lower ++ (l ++ filter (is_at place fabric) higher)) (filter_none (is_at place fabric) (map (row_at at whose) values) (none_here at whose values e))
      ∙ sym (filter-append (is_at place fabric) lower higher)
      ∙ ap (filter (is_at place fabric)) (keeps rows at whose up)
      ∙ filter_through (is_at place fabric) (λ (row : Row). not (is_at at whose row)) (other_at at whose e) rows

  -- what a step sets there, or what stands there
  abbrev pub or_stored : Option (List Value) → List Row → List Row
  or_stored set rows = unwrap_or (option_map (map (row_at place fabric)) set) rows

  behind_row : KeepsOthers → (at : Place) (whose : ℕ) (values : List Value) (rows : List Row) → IsTrue (are_ascending rows) → (t : Bool) → (same_place at place && (whose == fabric)) ≡ t
      → filter (is_at place fabric) (with_rows at whose values rows) ≡ or_stored (if t then Some values else None) (filter (is_at place fabric) rows)
  behind_row keeps at whose values rows up true e =
      let both = and_parts (same_place at place) (whose == fabric) e in
      let is : at ≡ place = place_of at place both.0 in
      let whose_is : whose ≡ fabric = eqb-true whose fabric both.1 in
      (λ i. filter (is_at place fabric) (with_rows (is i) (whose_is i) values rows)) ∙ set_here values rows
  behind_row keeps at whose values rows up false e = set_elsewhere keeps at whose values rows up e

  behind_step : KeepsOthers → (asking : Option Actor) (step : NodeStep) (s : NodeState) → IsTrue (are_ascending s.rows) → is_setting_step step ≡ true
      → filter (is_at place fabric) (after asking step s).rows ≡ or_stored (row_set place fabric step) (filter (is_at place fabric) s.rows)
  behind_step keeps asking step s up =
      setting_cases (λ (step : NodeStep). filter (is_at place fabric) (after asking step s).rows ≡ or_stored (row_set place fabric step) (filter (is_at place fabric) s.rows))
      (λ at whose values stored. behind_row keeps at whose values s.rows up (same_place at place && (whose == fabric)) refl) (λ whose entries all. refl) (λ at-event priority whom value. refl) step

  newer_is : (set found : Option (List Value)) (behind before stored : List Row) → behind ≡ or_stored set before → before ≡ or_stored found stored → behind ≡ or_stored (option_or set found) stored
  newer_is (Some values) found behind before stored a b = a
  newer_is None found behind before stored a b = a ∙ b

up_step : SetsInOrder → (asking : Option Actor) (step : NodeStep) (s : NodeState) → IsTrue (are_ascending s.rows) → is_setting_step step ≡ true → IsTrue (are_ascending (after asking step s).rows)
up_step sets asking step s up =
    setting_cases (λ (step : NodeStep). IsTrue (are_ascending (after asking step s).rows)) (λ at whose values stored. sets s.rows at whose values up) (λ whose entries all. up) (λ at-event priority whom value. up) step

pub up_all : SetsInOrder → (asking : Option Actor) (steps : List NodeStep) (s : NodeState) → IsTrue (are_ascending s.rows) → list_all is_setting_step steps ≡ true → IsTrue (are_ascending (after_all asking steps s).rows)
up_all sets asking [] s up settings = up
up_all sets asking (step ∷ steps) s up settings =
    let both = and_parts (is_setting_step step) (list_all is_setting_step steps) settings in
    up_all sets asking steps (after asking step s) (up_step sets asking step s up both.0) both.1

module _ (told : ToldSame) (sets : SetsInOrder) (keeps : KeepsOthers) (place : Place) where
  behind_all : (fabric : ℕ) (asking : Option Actor) (steps : List NodeStep) (s : NodeState) (found : Option (List Value)) (stored : List Row) → IsTrue (are_ascending s.rows) → list_all is_setting_step steps ≡ true
      → filter (is_at place fabric) s.rows ≡ or_stored place fabric found stored
      → filter (is_at place fabric) (after_all asking steps s).rows ≡ or_stored place fabric (latest (row_set place fabric) found steps) stored
  behind_all fabric asking [] s found stored up settings e = e
  behind_all fabric asking (step ∷ steps) s found stored up settings e =
      let both = and_parts (is_setting_step step) (list_all is_setting_step steps) settings in
      behind_all fabric asking steps (after asking step s) (option_or (row_set place fabric step) found) stored (up_step sets asking step s up both.0) both.1
      (newer_is place fabric (row_set place fabric step) found (filter (is_at place fabric) (after asking step s).rows) (filter (is_at place fabric) s.rows) stored (behind_step place fabric keeps asking step s up both.0) e)

  own_at : (fabric : ℕ) (rows : List Row) → filter (is_own fabric) (filter (stands_at place) rows) ≡ filter (is_at place fabric) rows
  own_at fabric rows = filter_and (is_own fabric) (stands_at place) rows

  module _ (asking : Option Actor) (steps : List NodeStep) (s : NodeState) (up : IsTrue (are_ascending s.rows)) (settings : list_all is_setting_step steps ≡ true) where
    latest_rows : (fabric : ℕ) → Option (List Value)
    latest_rows fabric = latest (row_set place fabric) None steps

    behind : (fabric : ℕ) → filter (is_at place fabric) (after_all asking steps s).rows ≡ or_stored place fabric (latest (row_set place fabric) None steps) (filter (is_at place fabric) s.rows)
    behind fabric = behind_all fabric asking steps s None (filter (is_at place fabric) s.rows) up settings refl

    -- where what the steps set stands already, nothing differs, and otherwise something does
    stays : (fabric : ℕ) (set : Option (List Value)) (before after : List Row) → rows_stand place fabric before set ≡ true → after ≡ or_stored place fabric set before → after ≡ before
    stays fabric None before after stand is = is
    stays fabric (Some values) before after stand is = is ∙ sym (rows_same told before (map (row_at place fabric) values) stand)

    moves : (fabric : ℕ) (set : Option (List Value)) (before after : List Row) → rows_stand place fabric before set ≡ false → after ≡ or_stored place fabric set before → before ≡ after → ⊥
    moves fabric None before after stand is same = absurd (cc)
    moves fabric (Some values) before after stand is same = differ_rows told before (map (row_at place fabric) values) stand (same ∙ is)

    abbrev stands : ℕ → Bool
    stands fabric = rows_stand place fabric (filter (is_at place fabric) s.rows) (latest (row_set place fabric) None steps)

    some_moves : (some : List NodeStep) → list_any (sets_other_rows s.rows steps place) some ≡ true → filter (stands_at place) s.rows ≡ filter (stands_at place) (after_all asking steps s).rows → ⊥
    some_moves [] any same = absurd (cc)
    some_moves (SetRow at fabric values ∷ some) any same = elim (cases_Bool (same_place at place && not (stands fabric))) [
      | inl e ↦ moves fabric (latest (row_set place fabric) None steps) (filter (is_at place fabric) s.rows) (filter (is_at place fabric) (after_all asking steps s).rows)
          (not-true _ (and_parts (same_place at place) (not (stands fabric)) e).1) (behind fabric) (sym (own_at fabric s.rows) ∙ ap (filter (is_own fabric)) same ∙ own_at fabric (after_all asking steps s).rows)
      | inr e ↦ some_moves some (rw e at any) same
    ]
    some_moves (SetEntries whose entries ∷ some) any same = some_moves some any same
    some_moves (PutNetwork id secret ∷ some) any same = some_moves some any same
    some_moves (RemoveNetwork id ∷ some) any same = some_moves some any same
    some_moves (ConnectNetwork id ∷ some) any same = some_moves some any same
    some_moves (MoveNetwork id index ∷ some) any same = some_moves some any same
    some_moves (Arm owner seconds ∷ some) any same = some_moves some any same
    some_moves (Renew seconds ∷ some) any same = some_moves some any same
    some_moves (Expire ∷ some) any same = some_moves some any same
    some_moves (Complete ∷ some) any same = some_moves some any same
    some_moves (AddRoot cert ∷ some) any same = some_moves some any same
    some_moves (Csr nonce update ∷ some) any same = some_moves some any same
    some_moves (AddFabric joins ∷ some) any same = some_moves some any same
    some_moves (UpdateFabric index given ∷ some) any same = some_moves some any same
    some_moves (RemoveFabric index ∷ some) any same = some_moves some any same
    some_moves (Label index label ∷ some) any same = some_moves some any same
    some_moves (Emit at-event priority whom value ∷ some) any same = some_moves some any same

    -- either what stands is what the steps set, or these steps set nothing of the fabric there
    StaysOf : ℕ → List NodeStep → Type 0
    StaysOf fabric some = (stands fabric ≡ true) ⊎ ((found : Option (List Value)) → latest (row_set place fabric) found some ≡ found)

    passed : (fabric : ℕ) (step : NodeStep) (some : List NodeStep) → row_set place fabric step ≡ None → StaysOf fabric some → StaysOf fabric (step ∷ some)
    unfolding StaysOf
    passed fabric step some none (inl e) = inl e
    passed fabric step some none (inr f) = inr (λ found. ap (λ (set : Option (List Value)). latest (row_set place fabric) (option_or set found) some) none ∙ f found)

    none_moves : (fabric : ℕ) (some : List NodeStep) → list_any (sets_other_rows s.rows steps place) some ≡ false → StaysOf fabric some
    unfolding StaysOf
    none_moves fabric [] none = inr (λ found. refl)
    none_moves fabric (SetRow at whose values ∷ some) none =
        let both = or_parts (same_place at place && not (stands whose)) (list_any (sets_other_rows s.rows steps place) some) none in
        elim (cases_Bool (same_place at place && (whose == fabric))) [
          | inl e ↦
              let parts = and_parts (same_place at place) (whose == fabric) e in
              let stand : not (stands whose) ≡ false = rw parts.0 at both.0 in
              inl (subst (λ (n : ℕ). stands n ≡ true) (eqb-true whose fabric parts.1) (not-false (stands whose) stand))
          | inr e ↦ passed fabric (SetRow at whose values) some (rw e refl) (none_moves fabric some both.1)
        ]
    none_moves fabric (SetEntries whose entries ∷ some) none = passed fabric (SetEntries whose entries) some refl (none_moves fabric some none)
    none_moves fabric (PutNetwork id secret ∷ some) none = passed fabric (PutNetwork id secret) some refl (none_moves fabric some none)
    none_moves fabric (RemoveNetwork id ∷ some) none = passed fabric (RemoveNetwork id) some refl (none_moves fabric some none)
    none_moves fabric (ConnectNetwork id ∷ some) none = passed fabric (ConnectNetwork id) some refl (none_moves fabric some none)
    none_moves fabric (MoveNetwork id index ∷ some) none = passed fabric (MoveNetwork id index) some refl (none_moves fabric some none)
    none_moves fabric (Arm owner seconds ∷ some) none = passed fabric (Arm owner seconds) some refl (none_moves fabric some none)
    none_moves fabric (Renew seconds ∷ some) none = passed fabric (Renew seconds) some refl (none_moves fabric some none)
    none_moves fabric (Expire ∷ some) none = passed fabric Expire some refl (none_moves fabric some none)
    none_moves fabric (Complete ∷ some) none = passed fabric Complete some refl (none_moves fabric some none)
    none_moves fabric (AddRoot cert ∷ some) none = passed fabric (AddRoot cert) some refl (none_moves fabric some none)
    none_moves fabric (Csr nonce update ∷ some) none = passed fabric (Csr nonce update) some refl (none_moves fabric some none)
    none_moves fabric (AddFabric joins ∷ some) none = passed fabric (AddFabric joins) some refl (none_moves fabric some none)
    none_moves fabric (UpdateFabric index given ∷ some) none = passed fabric (UpdateFabric index given) some refl (none_moves fabric some none)
    none_moves fabric (RemoveFabric index ∷ some) none = passed fabric (RemoveFabric index) some refl (none_moves fabric some none)
    none_moves fabric (Label index label ∷ some) none = passed fabric (Label index label) some refl (none_moves fabric some none)
    none_moves fabric (Emit at-event priority whom value ∷ some) none = passed fabric (Emit at-event priority whom value) some refl (none_moves fabric some none)

    own_stays : (fabric : ℕ) → StaysOf fabric steps → filter (is_at place fabric) (after_all asking steps s).rows ≡ filter (is_at place fabric) s.rows
    unfolding StaysOf
    own_stays fabric (inl e) = stays fabric (latest (row_set place fabric) None steps) (filter (is_at place fabric) s.rows) (filter (is_at place fabric) (after_all asking steps s).rows) e (behind fabric)
    own_stays fabric (inr f) = behind fabric ∙ ap (λ (set : Option (List Value)). or_stored place fabric set (filter (is_at place fabric) s.rows)) (f None)

    module _ (order : (rows : List Row) (at : Place) (fabric : ℕ) → IsTrue (are_ascending rows) → in_order fabric (filter (stands_at at) rows) ≡ filter (stands_at at) rows) where
      all_stay : list_any (sets_other_rows s.rows steps place) steps ≡ false → filter (stands_at place) s.rows ≡ filter (stands_at place) (after_all asking steps s).rows
      all_stay none =
          rows_are_own (filter (stands_at place) s.rows) (filter (stands_at place) (after_all asking steps s).rows)
          (λ n. order s.rows place n up) (λ n. order (after_all asking steps s).rows place n (up_all sets asking steps s up settings))
          (λ n. own_at n s.rows ∙ sym (own_stays n (none_moves n steps none)) ∙ sym (own_at n (after_all asking steps s).rows))

      agree : (any : Bool) → list_any (sets_other_rows s.rows steps place) steps ≡ any → any ≡ not (are_same_rows (filter (stands_at place) s.rows) (filter (stands_at place) (after_all asking steps s).rows))
      agree true e = sym (ap not (rows_differ told (filter (stands_at place) s.rows) (filter (stands_at place) (after_all asking steps s).rows) (some_moves steps e)))
      agree false e = sym (ap not (same_rows told (filter (stands_at place) s.rows) (filter (stands_at place) (after_all asking steps s).rows) (all_stay e)))

      pub rows_agree : list_any (sets_other_rows s.rows steps place) steps ≡ not (are_same_rows (filter (stands_at place) s.rows) (filter (stands_at place) (after_all asking steps s).rows))
      rows_agree = agree (list_any (sets_other_rows s.rows steps place) steps) refl
