-- What the steps of commands of commissioning leave of the own part of another fabric that stays where it is: all of it.
use Rattle.std.proofs.Common.{◌≡◌, ℕ, ◌==◌, ◌&&◌, ◌||◌, ◌++◌, inl, inr, not, is_none, is_some, Bool, true, false, List, [], ◌∷◌, Option, Some, None, Result, Ok, Err, option_map, length, refl, sym, ap, ◌∙◌, subst, filter, arith, if◌then◌else◌}
use Rattle.std.proofs.lemmas.Bool.{and_from, and_parts, cases_Bool, eqb-true, false_from_ne_true}
use Rattle.std.specs.List.{list_all}
use Rattle.mt_failsafe.specs.Notes.{was_added, was_updated}
use Rattle.mt_tlv.specs.declared.value.Value.{Value}
use Rattle.mt_commission.specs.Laws as commission
use Rattle.mt_fabrics.specs.Table.{IsLeastUnused, IsTable, is_used, least_unused, removed}
use Rattle.mt_failsafe.specs.Calls.{is_armed_by, is_context}
use Rattle.mt_failsafe.specs.Notes as notes
use Rattle.mt_model.specs.Optional.{is_that}
use Rattle.mt_model.specs.rows.Order.{are_ascending}
use Rattle.mt_model.specs.rows.Setting.{is_above, is_at, is_below, is_entry_above, is_entry_below, is_entry_of, with_entries, with_rows}
use Rattle.mt_model.specs.tables.Known.{Known, bare_armed, known_to}
use Rattle.mt_meta.specs.Finding.{find_data_of}
use Rattle.mt_meta.specs.Stored.{is_stored}
use Rattle.mt_meta.specs.declared.meta.Meta.{Meta}
use Rattle.mt_model.specs.tables.Leaving.{stays}
use Rattle.mt_model.specs.declared.messages.status.Status.{Status}
use Rattle.mt_model.specs.texts.Config.{are_credentials, ascend_from, is_certificate, is_fabric, is_label}
use Rattle.mt_model.specs.declared.node.action.NodeStep.{NodeStep}
use Rattle.mt_model.specs.declared.node.action.NodeStep.TheVariants.{SetRow, SetEntries, PutNetwork, RemoveNetwork, ConnectNetwork, MoveNetwork, Arm, Renew, Expire, Complete, AddRoot, Csr, AddFabric, UpdateFabric, RemoveFabric, Label, Emit}
use Rattle.mt_model.specs.declared.node.state.NodeState.{NodeState}
use Rattle.mt_model.specs.declared.rows.place.Place.{Place}
use Rattle.mt_model.specs.declared.rows.place.Row.{Row}
use Rattle.mt_model.specs.declared.tables.access.AclEntry.{AclEntry}
use Rattle.mt_model.specs.declared.tables.access.Actor.{Actor}
use Rattle.mt_model.specs.declared.tables.fabric.Fabric.{Fabric}
use Rattle.mt_model.specs.declared.tables.network.Armed.{Armed}
use Rattle.mt_model.specs.declared.tables.network.Network.{Network}
use Rattle.mt_opcreds.specs.Laws as credentials
use Rattle.mt_opcreds.specs.Laws.{is_well_formed}
use Rattle.mt_opcreds.specs.Moves.{IsMove, expires, expires_and_leaves, joins, leaves, names, nothing, renews, requests, trusts}
use Rattle.mt_machine.specs.Effects.{after, after_all, is_pase, is_sound_step, joined, joined_as, may_join, may_leave, without_fabric}
use Rattle.mt_machine.specs.Isolation.{own}
use Rattle.mt_machine.specs.Rollback.{rolled_back}
use Rattle.mt_machine.specs.State.{IsValid, is_added, is_among, is_member, is_updated, keeps_facts}
use Rattle.mt_machine.specs.Taking.{may_take}
use Rattle.mt_machine.specs.Touching.{StaysThere, may_touch}
use Rattle.mt_machine.proofs.Expired.{among-behind}
use Rattle.mt_machine.proofs.Knowing.{used-known}
use Rattle.mt_machine.proofs.Moving.{among_joined, may_be_added, named_first, step_taken}
use Rattle.mt_machine.proofs.Order.{from_zero}
use Rattle.mt_machine.proofs.Steps.{is_step_of, own-kept}
use Rattle.mt_machine.proofs.Untouched.{untouched}
use Rattle.mt_machine.proofs.ValidParts.{its_fabrics, table_of}
use Rattle.mt_machine.proofs.Counting.{impossible}

-- Who leaves.

removed_none : (index : ℕ) (fs : List Fabric) → is_among (removed index fs) index ≡ false
removed_none index [] = refl
removed_none index (f ∷ fs) = elim (cases_Bool (f.index == index)) [
  | inl this ↦ rw this (removed_none index fs)
  | inr other ↦ rw (other, other) (removed_none index fs)
]

-- a fabric for which commissioning does not go on is not in the table once it was to leave
gone_behind : (index : ℕ) (s : NodeState) → is_context index s.armed ≡ false → is_member index (without_fabric index s) ≡ false
gone_behind index s free = elim (cases_Bool (is_used index s.fabrics)) [
  | inl there ↦ rw (there, free) (removed_none index s.fabrics)
  | inr not_there ↦ rw not_there not_there
]

-- steps that set values leave fabrics and fail-safe as they are

pub record LeftAlone (s t : NodeState) : Type 0 where
  pub fabrics : t.fabrics ≡ s.fabrics
  pub armed : t.armed ≡ s.armed

pub left_alone : (asker : Option Actor) (steps : List NodeStep) (s : NodeState) → list_all commission.sets_value steps ≡ true → LeftAlone s (after_all asker steps s)
left_alone asker [] s sets = record { fabrics = refl; armed = refl }
left_alone asker (SetRow place whose values ∷ steps) s sets =
    let rest = left_alone asker steps (after asker (SetRow place whose values) s) sets in
    record { fabrics = rest.fabrics; armed = rest.armed }
left_alone asker (SetEntries whose entries ∷ steps) s sets = impossible sets
left_alone asker (PutNetwork id secret ∷ steps) s sets = impossible sets
left_alone asker (RemoveNetwork id ∷ steps) s sets = impossible sets
left_alone asker (ConnectNetwork id ∷ steps) s sets = impossible sets
left_alone asker (MoveNetwork id index ∷ steps) s sets = impossible sets
left_alone asker (Arm owner seconds ∷ steps) s sets = impossible sets
left_alone asker (Renew seconds ∷ steps) s sets = impossible sets
left_alone asker (Expire ∷ steps) s sets = impossible sets
left_alone asker (Complete ∷ steps) s sets = impossible sets
left_alone asker (AddRoot cert ∷ steps) s sets = impossible sets
left_alone asker (Csr nonce update ∷ steps) s sets = impossible sets
left_alone asker (AddFabric new ∷ steps) s sets = impossible sets
left_alone asker (UpdateFabric index given ∷ steps) s sets = impossible sets
left_alone asker (RemoveFabric index ∷ steps) s sets = impossible sets
left_alone asker (Label index label ∷ steps) s sets = impossible sets
left_alone asker (Emit place priority whose value ∷ steps) s sets = impossible sets

-- Facts of the fail-safe, of which this is what was added and what was updated.

module _ (s : NodeState) (valid : IsValid s) (armed : Armed) (is : s.armed ≡ Some armed) where
  facts : keeps_facts s.fabrics (Some armed) ≡ true
  facts = subst (λ (a : Option Armed). keeps_facts s.fabrics a ≡ true) is valid.failsafe_facts

  added_facts : (fabric : ℕ) (added : Option ℕ) → is_added s.fabrics armed added ≡ true → is_that fabric added ≡ true → ((armed.context == fabric) ≡ true) × (is_among s.fabrics fabric ≡ true)
  added_facts fabric None is_a its = impossible its
  added_facts fabric (Some added) is_a its =
      let both = and_parts (armed.context == added) (is_among s.fabrics added) is_a in
      let same = eqb-true added fabric its in (
        subst (λ n. (armed.context == n) ≡ true) same both.0,
        subst (λ n. is_among s.fabrics n ≡ true) same both.1,
      )

  updated_facts : (fabric : ℕ) (added updated : Option ℕ) → is_updated s.fabrics armed added updated ≡ true → is_that fabric updated ≡ true → ((armed.owner == fabric) ≡ true) × ((armed.context == fabric) ≡ true) × (added ≡ None)
  updated_facts fabric added None is_u its = impossible its
  updated_facts fabric (Some added) (Some updated) is_u its = impossible is_u
  updated_facts fabric None (Some updated) is_u its =
      let same = eqb-true updated fabric its in
      let one = and_parts (armed.owner == updated) (armed.context == updated && _) is_u in
      let two = and_parts (armed.context == updated) _ one.1 in (
        subst (λ n. (armed.owner == n) ≡ true) same one.0,
        subst (λ n. (armed.context == n) ≡ true) same two.0,
        refl,
      )

  its_added : (fabric : ℕ) → is_that fabric armed.added ≡ true → ((armed.context == fabric) ≡ true) × (is_among s.fabrics fabric ≡ true)
  its_added fabric = added_facts fabric armed.added (and_parts (is_added s.fabrics armed armed.added) (is_updated s.fabrics armed armed.added armed.updated) facts).0

  its_updated : (fabric : ℕ) → is_that fabric armed.updated ≡ true → ((armed.owner == fabric) ≡ true) × ((armed.context == fabric) ≡ true) × (armed.added ≡ None)
  its_updated fabric = updated_facts fabric armed.added armed.updated (and_parts (is_added s.fabrics armed armed.added) (is_updated s.fabrics armed armed.added armed.updated) facts).1

same_number : (n : ℕ) → (n == n) ≡ true
same_number n = grind arith

-- a row that a command of commissioning sets is nobody's
nobodys_row : (stored : Bool) (whose : ℕ) (values : List Value) (found : Result Meta Status) → commission.is_sound_row stored whose values found ≡ true → (whose == 0) ≡ true
nobodys_row stored whose values (Err status) sound = impossible sound
nobodys_row stored whose values (Ok meta) sound = (and_parts (whose == 0) _ (and_parts (not meta.scoped) _ (and_parts stored _ sound).1).1).0

-- What is known of the fail-safe.

armed_bare : (owner : ℕ) (armed : Option Armed) → is_armed_by owner (option_map bare_armed armed) ≡ true → is_armed_by owner armed ≡ true
armed_bare owner None is = is
armed_bare owner (Some armed) is = is

context_bare : (index : ℕ) (armed : Option Armed) → is_context index armed ≡ is_context index (option_map bare_armed armed)
context_bare index None = refl
context_bare index (Some armed) = refl

added_bare : (index : ℕ) (armed : Option Armed) → was_added index armed ≡ was_added index (option_map bare_armed armed)
added_bare index None = refl
added_bare index (Some armed) = refl

-- an expiry leaves it not armed
ends : (armed : Option Armed) (s : NodeState) → s.armed ≡ armed → (rolled_back armed s).armed ≡ None
ends None s is = is
ends (Some armed) s is = refl

-- a fabric that leaves leaves it as it is
leaving_armed : (index : ℕ) (s : NodeState) → (without_fabric index s).armed ≡ s.armed
leaving_armed index s = elim (cases_Bool (may_leave index s)) [
  | inl may ↦ rw may refl
  | inr may_not ↦ rw may_not refl
]

abbrev added_of : Option Armed → Option ℕ
added_of None = None
added_of (Some armed) = armed.added

-- one that joins changes it
joining_arms : (asker : Option Actor) (new : Fabric) (s : NodeState) → may_join new s ≡ true → (joined asker new s).armed ≡ s.armed → false ≡ true
joining_arms asker new s may same =
    let noted : notes.may_note_added s.armed ≡ true = (and_parts (notes.may_note_added s.armed) _ may).0 in
    changes s.armed noted (sym (ap (λ (t : NodeState). t.armed) (joins_as asker new s may)) ∙ same)
  where
    joins_as : (asker : Option Actor) (new : Fabric) (s : NodeState) → may_join new s ≡ true → joined asker new s ≡ joined_as asker (least_unused s.fabrics) new s
    joins_as asker new s may = rw may refl

    changes : (armed : Option Armed) → notes.may_note_added armed ≡ true → option_map (notes.with_added (least_unused s.fabrics) (is_pase asker)) armed ≡ armed → false ≡ true
    changes None may same = may
    changes (Some armed) may same =
        let unused = (and_parts (notes.is_unused armed) _ may).0 in
        let none = (and_parts (is_none armed.added) (is_none armed.updated) unused).0 in
        ap (λ (a : Option Armed). is_none (added_of a)) same ∙ none

turned : (n m fabric : ℕ) → n ≡ m → (n == fabric) ≡ false → (fabric == m) ≡ false
turned n m fabric is other = grind (arith, is, other)

-- The fabric that asks, and another that stays where it is.
module _ (fabric writer : ℕ) (apart : (writer == fabric) ≡ false) where
  -- two numbers that are each a third's are each other's
  not_both : (n : ℕ) → (n == writer) ≡ true → (n == fabric) ≡ true → false ≡ true
  not_both n one two = sym apart ∙ subst (λ m. (m == fabric) ≡ true) (eqb-true n writer one) two

  -- An expiry does not touch it.

  expiry_apart : (s : NodeState) (armed : Option Armed) → s.armed ≡ armed → (is_some armed ≡ true → (fabric == 0) ≡ false) → was_added fabric armed ≡ false → was_updated fabric armed ≡ false
      → (is_some armed && (fabric == 0 || (was_added fabric armed || was_updated fabric armed))) ≡ false
  expiry_apart s None is some not_added not_updated = refl
  expiry_apart s (Some armed) is some not_added not_updated = rw (some refl, not_added, not_updated) refl

  -- what is of nobody does not stay where the fail-safe ends
  not_nobody : (s t : NodeState) → StaysThere fabric s t → t.armed ≡ None → is_some s.armed ≡ true → (fabric == 0) ≡ false
  not_nobody s t there none some = false_from_ne_true (fabric == 0) (λ zero. impossible (ap is_some (sym none ∙ there.nobody (eqb-true fabric 0 zero)) ∙ some))

  -- an added fabric leaves by an expiry
  not_added_behind : (s t : NodeState) → IsValid s → (armed : Option Armed) → s.armed ≡ armed → StaysThere fabric s t → t.fabrics ≡ (rolled_back armed s).fabrics → was_added fabric armed ≡ false
  not_added_behind s t valid None is there same = refl
  not_added_behind s t valid (Some armed) is there same = false_from_ne_true (was_added fabric (Some armed)) (λ its.
      let was : is_among s.fabrics fabric ≡ true = (its_added s valid armed is fabric its).1 in
      let goes : stays armed.added fabric ≡ false = goes_by armed.added its in
      let now : is_among t.fabrics fabric ≡ false =
      ap (λ (fs : List Fabric). is_among fs fabric) same ∙ among-behind armed.added armed.updated armed.saved_credentials fabric s.fabrics ∙ ap (λ b. b && is_among s.fabrics fabric) goes in
      impossible (sym now ∙ there.member ∙ was))
    where
      goes_by : (added : Option ℕ) → is_that fabric added ≡ true → stays added fabric ≡ false
      goes_by None its = impossible its
      goes_by (Some added) its = ap not its

  -- what its owner lets expire has updated nobody else
  not_updated_by_owner : (s : NodeState) → IsValid s → (armed : Option Armed) → s.armed ≡ armed → is_armed_by writer armed ≡ true → was_updated fabric armed ≡ false
  not_updated_by_owner s valid None is owns = refl
  not_updated_by_owner s valid (Some armed) is owns = false_from_ne_true (was_updated fabric (Some armed)) (λ its. impossible (not_both armed.owner owns (its_updated s valid armed is fabric its).0))

  -- nothing is updated where something was added
  not_updated_beside : (s : NodeState) → IsValid s → (index : ℕ) (armed : Option Armed) → s.armed ≡ armed → was_added index armed ≡ true → was_updated fabric armed ≡ false
  not_updated_beside s valid index None is was = refl
  not_updated_beside s valid index (Some armed) is was = false_from_ne_true (was_updated fabric (Some armed)) (λ its. impossible (ap (is_that index) (sym (its_updated s valid armed is fabric its).2) ∙ was))

  -- where commissioning goes on for one fabric, no other was added or updated
  not_added_for : (s : NodeState) → IsValid s → (index : ℕ) (armed : Option Armed) → s.armed ≡ armed → is_context index armed ≡ true → (index == fabric) ≡ false → was_added fabric armed ≡ false
  not_added_for s valid index None is context other = refl
  not_added_for s valid index (Some armed) is context other = false_from_ne_true (was_added fabric (Some armed)) (λ its.
      impossible (sym other ∙ subst (λ n. (n == fabric) ≡ true) (eqb-true armed.context index context) (its_added s valid armed is fabric its).0))

  not_updated_for : (s : NodeState) → IsValid s → (index : ℕ) (armed : Option Armed) → s.armed ≡ armed → is_context index armed ≡ true → (index == fabric) ≡ false → was_updated fabric armed ≡ false
  not_updated_for s valid index None is context other = refl
  not_updated_for s valid index (Some armed) is context other = false_from_ne_true (was_updated fabric (Some armed)) (λ its.
      impossible (sym other ∙ subst (λ n. (n == fabric) ≡ true) (eqb-true armed.context index context) (its_updated s valid armed is fabric its).1))

  -- only the fabric for which commissioning goes on completes it
  context_apart : (armed : Option Armed) → is_context writer (option_map bare_armed armed) ≡ true → is_context fabric armed ≡ false
  context_apart None is = impossible is
  context_apart (Some armed) is = false_from_ne_true (armed.context == fabric) (λ its. impossible (sym apart ∙ subst (λ n. (n == fabric) ≡ true) (eqb-true armed.context writer is) its))

  -- By the laws of the model on rows and entries, those of the table of fabrics, and that steps leave a valid state valid.
  module _
      (rows_stay : (keep : Row → Bool) (rows : List Row) → are_ascending rows ≡ true → are_ascending (filter keep rows) ≡ true)
      (entries_stay : (keep : AclEntry → Bool) (least : ℕ) (entries : List AclEntry) → ascend_from least entries ≡ true → ascend_from least (filter keep entries) ≡ true)
      (rows_ascend : (rows : List Row) (place : Place) (whose : ℕ) (vs : List Value) → are_ascending rows ≡ true → are_ascending (with_rows place whose vs rows) ≡ true)
      (rows_apart : (rows : List Row) (place : Place) (whose : ℕ) → are_ascending rows ≡ true → filter (is_below place whose) rows ++ filter (is_above place whose) rows ≡ filter (λ (row : Row). not (is_at place whose row)) rows)
      (entries_ascend : (es new : List AclEntry) (whose : ℕ) → ascend_from 0 es ≡ true → list_all (is_entry_of whose) new ≡ true → ascend_from 0 (with_entries whose new es) ≡ true)
      (entries_apart : (es : List AclEntry) (whose : ℕ) → ascend_from 0 es ≡ true → filter (is_entry_below whose) es ++ filter (is_entry_above whose) es ≡ filter (λ (e : AclEntry). not (is_entry_of whose e)) es)
      (least : (fabrics : List Fabric) → IsTable fabrics → IsLeastUnused (least_unused fabrics) fabrics)
      (still : (asker : Option Actor) (step : NodeStep) (s : NodeState) → IsValid s → may_take s step ≡ true → IsValid (after asker step s))
    where
      abbrev Kept : Option Actor → List NodeStep → NodeState → Type 0
      Kept asker steps s = StaysThere fabric s (after_all asker steps s) → own fabric (after_all asker steps s) ≡ own fabric s

      touches_not : (asker : Option Actor) (step : NodeStep) (s : NodeState) → IsValid s → is_sound_step step ≡ true → may_touch s step fabric ≡ false → own fabric (after asker step s) ≡ own fabric s
      touches_not = untouched rows_stay entries_stay rows_ascend rows_apart entries_ascend entries_apart fabric

      -- steps of one fabric, or of nobody, that set values
      pub values_kept : (whose : ℕ) (asker : Option Actor) (steps : List NodeStep) (s : NodeState) → (whose == fabric) ≡ false → IsValid s → list_all (is_step_of whose) steps ≡ true → own fabric (after_all asker steps s) ≡ own fabric s
      values_kept whose asker steps s other valid its = own-kept rows_ascend rows_apart entries_ascend entries_apart fabric whose other asker steps s valid.rows_rise (from_zero s.entries valid.entries_rise) its

      -- General Commissioning and Network Commissioning.

      module _ (networks : List Network) (s : NodeState) (valid : IsValid s) where
        abbrev is_sound : NodeStep → Bool
        is_sound = commission.is_sound_step networks (option_map bare_armed s.armed) writer

        first_kept : (asker : Option Actor) (step : NodeStep) (t : NodeState) → is_sound step ≡ true → StaysThere fabric s t → t.fabrics ≡ (after asker step s).fabrics → t.armed ≡ (after asker step s).armed → own fabric (after asker step s) ≡ own fabric s
        first_kept asker (SetRow place whose values) t sound there fabrics armed =
            values_kept writer asker (SetRow place whose values ∷ []) s apart valid (and_from _ _ (ap (λ b. if b then true else whose == writer) (nobodys_row (is_stored place) whose values (find_data_of place) sound)) refl)
        first_kept asker (SetEntries whose entries) t sound there fabrics armed = impossible sound
        first_kept asker (PutNetwork id secret) t sound there fabrics armed = refl
        first_kept asker (RemoveNetwork id) t sound there fabrics armed = refl
        first_kept asker (ConnectNetwork id) t sound there fabrics armed = refl
        first_kept asker (MoveNetwork id index) t sound there fabrics armed = refl
        first_kept asker (Arm owner seconds) t sound there fabrics armed = touches_not asker (Arm owner seconds) s valid refl refl
        first_kept asker (Renew seconds) t sound there fabrics armed = touches_not asker (Renew seconds) s valid refl refl
        first_kept asker Expire t sound there fabrics armed =
            touches_not asker Expire s valid refl
            (expiry_apart s s.armed refl (not_nobody s t there (armed ∙ ends s.armed s refl)) (not_added_behind s t valid s.armed refl there fabrics) (not_updated_by_owner s valid s.armed refl (armed_bare writer s.armed sound)))
        first_kept asker Complete t sound there fabrics armed = touches_not asker Complete s valid refl (context_apart s.armed sound)
        first_kept asker (AddRoot cert) t sound there fabrics armed = impossible sound
        first_kept asker (Csr nonce update) t sound there fabrics armed = impossible sound
        first_kept asker (AddFabric new) t sound there fabrics armed = impossible sound
        first_kept asker (UpdateFabric index given) t sound there fabrics armed = impossible sound
        first_kept asker (RemoveFabric index) t sound there fabrics armed = impossible sound
        first_kept asker (Label index label) t sound there fabrics armed = impossible sound
        first_kept asker (Emit place priority whose value) t sound there fabrics armed = impossible sound

        -- rows that are set are nobody's
        rows_its : (steps : List NodeStep) → list_all is_sound steps ≡ true → list_all commission.sets_value steps ≡ true → list_all (is_step_of writer) steps ≡ true
        rows_its [] sound sets = refl
        rows_its (SetRow place whose values ∷ steps) sound sets =
            let both = and_parts (is_sound (SetRow place whose values)) (list_all is_sound steps) sound in
            and_from _ _ (ap (λ b. if b then true else whose == writer) (nobodys_row (is_stored place) whose values (find_data_of place) both.0)) (rows_its steps both.1 sets)
        rows_its (SetEntries whose entries ∷ steps) sound sets = impossible sets
        rows_its (PutNetwork id secret ∷ steps) sound sets = impossible sets
        rows_its (RemoveNetwork id ∷ steps) sound sets = impossible sets
        rows_its (ConnectNetwork id ∷ steps) sound sets = impossible sets
        rows_its (MoveNetwork id index ∷ steps) sound sets = impossible sets
        rows_its (Arm owner seconds ∷ steps) sound sets = impossible sets
        rows_its (Renew seconds ∷ steps) sound sets = impossible sets
        rows_its (Expire ∷ steps) sound sets = impossible sets
        rows_its (Complete ∷ steps) sound sets = impossible sets
        rows_its (AddRoot cert ∷ steps) sound sets = impossible sets
        rows_its (Csr nonce update ∷ steps) sound sets = impossible sets
        rows_its (AddFabric new ∷ steps) sound sets = impossible sets
        rows_its (UpdateFabric index given ∷ steps) sound sets = impossible sets
        rows_its (RemoveFabric index ∷ steps) sound sets = impossible sets
        rows_its (Label index label ∷ steps) sound sets = impossible sets
        rows_its (Emit place priority whose value ∷ steps) sound sets = impossible sets

        pub commission_kept : (writer == 0 || is_among s.fabrics writer) ≡ true → (asker : Option Actor) (steps : List NodeStep) → list_all is_sound steps ≡ true → commission.sets_values_behind steps ≡ true → Kept asker steps s
        commission_kept known asker [] sound behind there = refl
        commission_kept known asker (step ∷ steps) sound behind there =
            let both = and_parts (is_sound step) (list_all is_sound steps) sound in
            let alone = left_alone asker steps (after asker step s) behind in
            values_kept writer asker steps (after asker step s) apart (still asker step s valid (step_taken networks (option_map bare_armed s.armed) writer step s (named_first networks (option_map bare_armed s.armed) writer s.fabrics step known both.0) both.0)) (rows_its steps both.1 behind)
            ∙ first_kept asker step (after_all asker (step ∷ steps) s) both.0 there alone.fabrics alone.armed

      -- Operational Credentials.

      module _ (s : NodeState) (valid : IsValid s) (asker : Option Actor) where
        abbrev known : Known
        known = known_to writer s.fabrics s.networks s.armed

        joins_kept : (new : Fabric) (entries : List AclEntry) → list_all (is_entry_of new.index) entries ≡ true → is_fabric new ≡ true → credentials.fits known (AddFabric new) ≡ true
            → Kept asker (AddFabric new ∷ SetEntries new.index entries ∷ []) s
        joins_kept new entries its good fit there =
            let may = may_be_added writer new s fit in
            let its_index : new.index ≡ least_unused s.fabrics = may.1 in
            let unused = (least s.fabrics (table_of s.fabrics (its_fabrics s valid))).unused in
            let other : (new.index == fabric) ≡ false = false_from_ne_true (new.index == fabric) (λ same.
            let is_new : least_unused s.fabrics ≡ fabric = sym its_index ∙ eqb-true new.index fabric same in
            let now : is_among (joined asker new s).fabrics fabric ≡ true = ap (is_among (joined asker new s).fabrics) (sym is_new) ∙ among_joined asker new s may.0 in
            impossible (sym unused ∙ ap (is_among s.fabrics) is_new ∙ sym there.member ∙ now)) in
            let some : (fabric == 0) ≡ false = false_from_ne_true (fabric == 0) (λ zero. impossible (joining_arms asker new s may.0 (there.nobody (eqb-true fabric 0 zero)))) in
            let untouched_by : (fabric == 0 || fabric == least_unused s.fabrics) ≡ false = rw some (turned new.index (least_unused s.fabrics) fabric its_index other) in
            values_kept new.index asker (SetEntries new.index entries ∷ []) (after asker (AddFabric new) s) other (still asker (AddFabric new) s valid (and_from _ _ good refl)) (and_from _ _ (and_from _ _ (same_number new.index) its) refl)
            ∙ touches_not asker (AddFabric new) s valid good untouched_by

        abbrev Good : List NodeStep → Type 0
        Good steps = list_all is_well_formed steps ≡ true

        abbrev Fit : List NodeStep → Type 0
        Fit steps = list_all (credentials.fits known) steps ≡ true

        -- a fabric that leaves does not stay
        leaver_not : (index : ℕ) (u : NodeState) → is_context index u.armed ≡ false → is_used index s.fabrics ≡ true → StaysThere fabric s (without_fabric index u) → (index == fabric) ≡ false
        leaver_not index u free used there = false_from_ne_true (index == fabric) (λ same.
            let is = eqb-true index fabric same in
            let now : is_member fabric (without_fabric index u) ≡ false = subst (λ n. is_member n (without_fabric index u) ≡ false) is (gone_behind index u free) in
            impossible (sym now ∙ there.member ∙ ap (is_among s.fabrics) (sym is) ∙ used))

        used_now : (index : ℕ) → credentials.fits known (RemoveFabric index) ≡ true → is_used index s.fabrics ≡ true
        used_now index fit = sym (used-known writer index s.fabrics) ∙ fit

        pub moved_kept : (steps : List NodeStep) → Good steps → Fit steps → IsMove known writer steps → Kept asker steps s
        moved_kept steps good fit (nothing is) = subst (λ l. Kept asker l s) (sym is) (λ there. refl)
        moved_kept steps good fit (requests nonce update is) =
            let good_ones : (length nonce == 32 && true) ≡ true = subst Good is good in
            subst (λ l. Kept asker l s) (sym is) (λ there. touches_not asker (Csr nonce update) s valid (and_parts (length nonce == 32) true good_ones).0 refl)
        moved_kept steps good fit (trusts cert is) =
            let good_ones : (is_certificate cert && true) ≡ true = subst Good is good in
            subst (λ l. Kept asker l s) (sym is) (λ there. touches_not asker (AddRoot cert) s valid (and_parts (is_certificate cert) true good_ones).0 refl)
        moved_kept steps good fit (joins new entries own_ones is) =
            let good_ones = subst Good is good in
            let fit_ones = subst Fit is fit in
            subst (λ l. Kept asker l s) (sym is) (joins_kept new entries own_ones (and_parts (is_fabric new) _ good_ones).0 (and_parts (credentials.fits known (AddFabric new)) _ fit_ones).0)
        moved_kept steps good fit (renews given is) =
            let good_ones : (are_credentials given && true) ≡ true = subst Good is good in
            subst (λ l. Kept asker l s) (sym is) (λ there. touches_not asker (UpdateFabric writer given) s valid (and_parts (are_credentials given) true good_ones).0 apart)
        moved_kept steps good fit (names label is) =
            let good_ones : (is_label label && true) ≡ true = subst Good is good in
            subst (λ l. Kept asker l s) (sym is) (λ there. touches_not asker (Label writer label) s valid (and_parts (is_label label) true good_ones).0 apart)
        moved_kept steps good fit (leaves index free is) =
            let fit_ones = subst Fit is fit in
            let used = used_now index (and_parts (credentials.fits known (RemoveFabric index)) _ fit_ones).0 in
            subst (λ l. Kept asker l s) (sym is) (λ there. touches_not asker (RemoveFabric index) s valid refl (leaver_not index s (context_bare index s.armed ∙ free) used there))
        moved_kept steps good fit (expires index context was is) =
            subst (λ l. Kept asker l s) (sym is) (λ there.
            touches_not asker Expire s valid refl
            (expiry_apart s s.armed refl (not_nobody s (after asker Expire s) there (ends s.armed s refl)) (not_added_behind s (after asker Expire s) valid s.armed refl there refl)
            (not_updated_beside s valid index s.armed refl (added_bare index s.armed ∙ was))))
        moved_kept steps good fit (expires_and_leaves index context was_not is) =
            let fit_ones = subst Fit is fit in
            let both = and_parts (credentials.fits known Expire) (credentials.fits known (RemoveFabric index) && _) fit_ones in
            let used = used_now index (and_parts (credentials.fits known (RemoveFabric index)) _ both.1).0 in
            let its = context_bare index s.armed ∙ context in
            subst (λ l. Kept asker l s) (sym is) (λ there.
            let u = after asker Expire s in
            let free : is_context index u.armed ≡ false = ap (is_context index) (ends s.armed s refl) in
            let other = leaver_not index u free used there in
            let none : (after asker (RemoveFabric index) u).armed ≡ None = leaving_armed index u ∙ ends s.armed s refl in
            touches_not asker (RemoveFabric index) u (still asker Expire s valid refl) refl other
            ∙ touches_not asker Expire s valid refl
            (expiry_apart s s.armed refl (not_nobody s (after asker (RemoveFabric index) u) there none) (not_added_for s valid index s.armed refl its other) (not_updated_for s valid index s.armed refl its other)))
