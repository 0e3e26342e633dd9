-- What entries of a fabric stand behind steps, and when the rows of the access control list are the same.
use Rattle.std.proofs.Common.{◌≡◌, ◌↔◌, ℕ, ◌≤◌, ◌==◌, ◌⊎◌, inl, inr, not, Bool, true, false, List, [], ◌∷◌, ◌++◌, Option, Some, None, IsTrue, refl, sym, ap, ◌∙◌, subst, filter, append-nil, arith, if◌then◌else◌, unwrap_or}
use Rattle.std.specs.List.{list_all, list_any}
use Rattle.std.specs.Option.{option_or}
use Rattle.std.proofs.lemmas.Bool.{false≢true, and_from, and_parts, cases_Bool, eqb-true, not-false, not-true, or_parts}
use Rattle.std.proofs.lemmas.List.Elements.{filter-append}
use Rattle.mt_tlv.specs.declared.value.Value.{Value}
use Rattle.mt_model.specs.rows.Order.{entry_rows, in_order, is_own, row_at}
use Rattle.mt_model.specs.rows.Seen.{own_entries}
use Rattle.mt_model.specs.rows.Setting.{is_entry_above, is_entry_below, is_entry_of, with_entries}
use Rattle.mt_model.specs.tables.Entries.{entry_in, entry_value}
use Rattle.mt_model.specs.texts.Config.{ascend_from}
use Rattle.mt_model.specs.declared.tables.access.AclEntry.{AclEntry}
use Rattle.mt_model.specs.declared.tables.access.Actor.{Actor}
use Rattle.mt_model.specs.declared.node.action.NodeStep.{NodeStep}
use Rattle.mt_model.specs.declared.node.action.NodeStep.TheVariants.{SetRow, SetEntries, PutNetwork, RemoveNetwork, ConnectNetwork, MoveNetwork, Arm, Renew, Expire, Complete, AddRoot, Csr, AddFabric, UpdateFabric, RemoveFabric, Label, Emit}
use Rattle.mt_model.specs.declared.node.state.NodeState.{NodeState}
use Rattle.mt_model.specs.declared.rows.place.Place.{Place}
use Rattle.mt_model.specs.declared.rows.place.Row.{Row}
use Rattle.mt_write.specs.Latest.{entries_set, latest}
use Rattle.mt_model.specs.rows.Same.{are_same_rows}
use Rattle.mt_machine.specs.Effects.{after, after_all, is_setting_step}
use Rattle.mt_machine.specs.Settings.{setting_cases}
use Rattle.mt_node.specs.Differences.{are_same_entries, entries_stand, has_other_entries, list_of_entries, sets_other_entries}
use Rattle.mt_node.proofs.Filters.{filter_all, filter_none, filter_through, filter_without}
use Rattle.mt_node.proofs.RowsBehind.{rows_are_own}
use Rattle.mt_node.proofs.Same.{ToldSame, differ_rows, rows_differ, rows_same, same_rows}

abbrev pub ReadsAgain : Type 0
ReadsAgain = (entry : AclEntry) → entry_in (entry_value entry) ≡ Some entry

-- Entries are told by the rows that they are written as.

entry_of : (Option AclEntry) → AclEntry → AclEntry
entry_of (Some entry) default = entry
entry_of None default = default

same_entry : ReadsAgain → (a b : AclEntry) → entry_value a ≡ entry_value b → a ≡ b
unfolding entry_of
same_entry again a b e = ap (λ (o : Option AclEntry). entry_of o a) (sym (again a) ∙ ap entry_in e ∙ again b)

first_of : List Row → Value → Value
first_of [] default = default
first_of (row ∷ rows) default = row.value

rest_of : List Row → List Row
rest_of [] = []
rest_of (row ∷ rows) = rows

pub entries_told : ReadsAgain → (place : Place) (es fs : List AclEntry) → entry_rows place entry_value es ≡ entry_rows place entry_value fs → es ≡ fs
unfolding first_of rest_of
entries_told again place [] [] e = refl
entries_told again place [] (f ∷ fs) e = absurd (cc)
entries_told again place (x ∷ es) [] e = absurd (cc)
entries_told again place (x ∷ es) (f ∷ fs) e =
    λ i. same_entry again x f (ap (λ (rows : List Row). first_of rows (entry_value x)) e) i ∷ entries_told again place es fs (ap rest_of e) i

-- a test that decides whether entries are the same
pub entries_decided : ToldSame → ReadsAgain → (entries new : List AclEntry) (same : Bool) → IsTrue same ↔ (entries ≡ new) → same ≡ are_same_entries entries new
entries_decided told again entries new true decides = sym (same_rows told _ _ (ap (entry_rows list_of_entries entry_value) (decides.0 refl)))
entries_decided told again entries new false decides = sym (rows_differ told _ _ (λ e. false≢true (decides.1 (entries_told again list_of_entries entries new e))))

-- Entries behind steps.

abbrev pub SetsEntriesInOrder : Type 0
SetsEntriesInOrder = (entries new : List AclEntry) (least fabric : ℕ) → least ≤ fabric → IsTrue (ascend_from least entries)
    → IsTrue (list_all (is_entry_of fabric) new) → IsTrue (ascend_from least (with_entries fabric new entries))

abbrev pub KeepsOtherEntries : Type 0
KeepsOtherEntries = (entries : List AclEntry) (fabric : ℕ) → IsTrue (ascend_from 0 entries)
    → filter (is_entry_below fabric) entries ++ filter (is_entry_above fabric) entries ≡ filter (λ (entry : AclEntry). not (is_entry_of fabric entry)) entries

module _ (fabric : ℕ) where
  below_is_other : (e : AclEntry) → is_entry_below fabric e ≡ true → is_entry_of fabric e ≡ false
  below_is_other e x = grind (arith, x)

  above_is_other : (e : AclEntry) → is_entry_above fabric e ≡ true → is_entry_of fabric e ≡ false
  above_is_other e x = grind (arith, x)

  split : (below new above : List AclEntry) → own_entries fabric (below ++ (new ++ above)) ≡ own_entries fabric below ++ (own_entries fabric new ++ own_entries fabric above)
  split below new above = filter-append (is_entry_of fabric) below (new ++ above) ∙ ap (λ (l : List AclEntry). own_entries fabric below ++ l) (filter-append (is_entry_of fabric) new above)

  set_own : (new es : List AclEntry) → list_all (is_entry_of fabric) new ≡ true → own_entries fabric (with_entries fabric new es) ≡ new
  set_own new es own =
      split (filter (is_entry_below fabric) es) new (filter (is_entry_above fabric) es)
      ∙ (λ i. filter_without (is_entry_of fabric) (is_entry_below fabric) below_is_other es i
      ++ (filter_all (is_entry_of fabric) new own i
      ++ filter_without (is_entry_of fabric) (is_entry_above fabric) above_is_other es i))
      ∙ append-nil new

  none_own : (whose : ℕ) (new : List AclEntry) → (whose == fabric) ≡ false → list_all (is_entry_of whose) new ≡ true → list_all (λ (e : AclEntry). not (is_entry_of fabric e)) new ≡ true
  none_own whose [] apart own = refl
  none_own whose (e ∷ new) apart own =
      let both = and_parts (is_entry_of whose e) (list_all (is_entry_of whose) new) own in
      and_from _ _ (ap not (ap (λ (n : ℕ). n == fabric) (eqb-true e.fabric whose both.0) ∙ apart)) (none_own whose new apart both.1)

  other_of : (whose : ℕ) → (whose == fabric) ≡ false → (e : AclEntry) → is_entry_of fabric e ≡ true → not (is_entry_of whose e) ≡ true
  other_of whose apart e h = grind (arith, apart, h)

  set_others : KeepsOtherEntries → (whose : ℕ) (new es : List AclEntry) → ascend_from 0 es ≡ true → (whose == fabric) ≡ false → list_all (is_entry_of whose) new ≡ true
      → own_entries fabric (with_entries whose new es) ≡ own_entries fabric es
  set_others keeps whose new es up apart own =
      let lower = filter (is_entry_below whose) es in
      let higher = filter (is_entry_above whose) es in
      split lower new higher
      ∙ ap (λ (l : List AclEntry). own_entries fabric lower ++ (l ++ own_entries fabric higher)) (filter_none (is_entry_of fabric) new (none_own whose new apart own))
      ∙ sym (filter-append (is_entry_of fabric) lower higher)
      ∙ ap (own_entries fabric) (keeps es whose up)
      ∙ filter_through (is_entry_of fabric) (λ (e : AclEntry). not (is_entry_of whose e)) (other_of whose apart) es

  behind_entries : KeepsOtherEntries → (whose : ℕ) (new es : List AclEntry) → ascend_from 0 es ≡ true → list_all (is_entry_of whose) new ≡ true → (t : Bool) → (whose == fabric) ≡ t
      → own_entries fabric (with_entries whose new es) ≡ unwrap_or (if t then Some new else None) (own_entries fabric es)
  behind_entries keeps whose new es up own true e =
      let is : whose ≡ fabric = eqb-true whose fabric e in
      ap (λ (n : ℕ). own_entries fabric (with_entries n new es)) is ∙ set_own new es (subst (λ (n : ℕ). list_all (is_entry_of n) new ≡ true) is own)
  behind_entries keeps whose new es up own false e = set_others keeps whose new es up e own

  behind_step : KeepsOtherEntries → (asking : Option Actor) (step : NodeStep) (s : NodeState) → ascend_from 0 s.entries ≡ true → is_setting_step step ≡ true
      → own_entries fabric (after asking step s).entries ≡ unwrap_or (entries_set fabric step) (own_entries fabric s.entries)
  behind_step keeps asking step s up =
      setting_cases (λ (step : NodeStep). own_entries fabric (after asking step s).entries ≡ unwrap_or (entries_set fabric step) (own_entries fabric s.entries))
      (λ at whose values stored. refl) (λ whose new all. behind_entries keeps whose new s.entries up all (whose == fabric) refl) (λ at-event priority whom value. refl) step

  newer_is : (set found : Option (List AclEntry)) (behind before stored : List AclEntry) → behind ≡ unwrap_or set before → before ≡ unwrap_or found stored → behind ≡ unwrap_or (option_or set found) stored
  newer_is (Some new) found behind before stored a b = a
  newer_is None found behind before stored a b = a ∙ b

up_step : SetsEntriesInOrder → (asking : Option Actor) (step : NodeStep) (s : NodeState) → ascend_from 0 s.entries ≡ true → is_setting_step step ≡ true → ascend_from 0 (after asking step s).entries ≡ true
up_step sets asking step s up =
    setting_cases (λ (step : NodeStep). ascend_from 0 (after asking step s).entries ≡ true)
    (λ at whose values stored. up) (λ whose new all. sets s.entries new 0 whose (omega arith) up all) (λ at-event priority whom value. up) step

pub up_all : SetsEntriesInOrder → (asking : Option Actor) (steps : List NodeStep) (s : NodeState) → ascend_from 0 s.entries ≡ true → list_all is_setting_step steps ≡ true → ascend_from 0 (after_all asking steps s).entries ≡ true
up_all sets asking [] s up settings = up
up_all sets asking (step ∷ steps) s up settings =
    let both = and_parts (is_setting_step step) (list_all is_setting_step steps) settings in
    up_all sets asking steps (after asking step s) (up_step sets asking step s up both.0) both.1

module _ (told : ToldSame) (sets : SetsEntriesInOrder) (keeps : KeepsOtherEntries) where
  behind_all : (fabric : ℕ) (asking : Option Actor) (steps : List NodeStep) (s : NodeState) (found : Option (List AclEntry)) (stored : List AclEntry) → ascend_from 0 s.entries ≡ true
      → list_all is_setting_step steps ≡ true → own_entries fabric s.entries ≡ unwrap_or found stored
      → own_entries fabric (after_all asking steps s).entries ≡ unwrap_or (latest (entries_set fabric) found steps) stored
  behind_all fabric asking [] s found stored up settings e = e
  behind_all fabric asking (step ∷ steps) s found stored up settings e =
      let both = and_parts (is_setting_step step) (list_all is_setting_step steps) settings in
      behind_all fabric asking steps (after asking step s) (option_or (entries_set fabric step) found) stored (up_step sets asking step s up both.0) both.1
      (newer_is fabric (entries_set fabric step) found (own_entries fabric (after asking step s).entries) (own_entries fabric s.entries) stored (behind_step fabric keeps asking step s up both.0) e)

  module _ (again : ReadsAgain) (asking : Option Actor) (steps : List NodeStep) (s : NodeState) (up : ascend_from 0 s.entries ≡ true) (settings : list_all is_setting_step steps ≡ true) where
    behind : (fabric : ℕ) → own_entries fabric (after_all asking steps s).entries ≡ unwrap_or (latest (entries_set fabric) None steps) (own_entries fabric s.entries)
    behind fabric = behind_all fabric asking steps s None (own_entries fabric s.entries) up settings refl

    stays : (set : Option (List AclEntry)) (before after : List AclEntry) → entries_stand before set ≡ true → after ≡ unwrap_or set before → after ≡ before
    stays None before after stand is = is
    stays (Some new) before after stand is = is ∙ sym (entries_told again list_of_entries before new (rows_same told _ _ stand))

    moves : (set : Option (List AclEntry)) (before after : List AclEntry) → entries_stand before set ≡ false → after ≡ unwrap_or set before → before ≡ after → ⊥
    moves None before after stand is same = absurd (cc)
    moves (Some new) before after stand is same = differ_rows told _ _ stand (ap (entry_rows list_of_entries entry_value) (same ∙ is))

    abbrev stands : ℕ → Bool
    stands fabric = entries_stand (own_entries fabric s.entries) (latest (entries_set fabric) None steps)

    some_moves : (some : List NodeStep) → list_any (sets_other_entries s.entries steps) some ≡ true → s.entries ≡ (after_all asking steps s).entries → ⊥
    some_moves [] any same = absurd (cc)
    some_moves (SetEntries whose new ∷ some) any same = elim (cases_Bool (not (stands whose))) [
      | inl e ↦ moves (latest (entries_set whose) None steps) (own_entries whose s.entries) (own_entries whose (after_all asking steps s).entries) (not-true _ e) (behind whose) (ap (own_entries whose) same)
      | inr e ↦ some_moves some (rw e at any) same
    ]
    some_moves (SetRow at whose values ∷ some) any same = some_moves some any same
    some_moves (PutNetwork id secret ∷ some) any same = some_moves some any same
    some_moves (RemoveNetwork id ∷ some) any same = some_moves some any same
    some_moves (ConnectNetwork id ∷ some) any same = some_moves some any same
    some_moves (MoveNetwork id index ∷ some) any same = some_moves some any same
    some_moves (Arm owner seconds ∷ some) any same = some_moves some any same
    some_moves (Renew seconds ∷ some) any same = some_moves some any same
    some_moves (Expire ∷ some) any same = some_moves some any same
    some_moves (Complete ∷ some) any same = some_moves some any same
    some_moves (AddRoot cert ∷ some) any same = some_moves some any same
    some_moves (Csr nonce update ∷ some) any same = some_moves some any same
    some_moves (AddFabric joins ∷ some) any same = some_moves some any same
    some_moves (UpdateFabric index given ∷ some) any same = some_moves some any same
    some_moves (RemoveFabric index ∷ some) any same = some_moves some any same
    some_moves (Label index label ∷ some) any same = some_moves some any same
    some_moves (Emit at-event priority whom value ∷ some) any same = some_moves some any same

    -- either what stands is what the steps set, or these steps set nothing of the fabric
    StaysOf : ℕ → List NodeStep → Type 0
    StaysOf fabric some = (stands fabric ≡ true) ⊎ ((found : Option (List AclEntry)) → latest (entries_set fabric) found some ≡ found)

    passed : (fabric : ℕ) (step : NodeStep) (some : List NodeStep) → entries_set fabric step ≡ None → StaysOf fabric some → StaysOf fabric (step ∷ some)
    unfolding StaysOf
    passed fabric step some none (inl e) = inl e
    passed fabric step some none (inr f) = inr (λ found. ap (λ (set : Option (List AclEntry)). latest (entries_set fabric) (option_or set found) some) none ∙ f found)

    none_moves : (fabric : ℕ) (some : List NodeStep) → list_any (sets_other_entries s.entries steps) some ≡ false → StaysOf fabric some
    unfolding StaysOf
    none_moves fabric [] none = inr (λ found. refl)
    none_moves fabric (SetEntries whose new ∷ some) none =
        let both = or_parts (not (stands whose)) (list_any (sets_other_entries s.entries steps) some) none in
        elim (cases_Bool (whose == fabric)) [
          | inl e ↦ inl (subst (λ (n : ℕ). stands n ≡ true) (eqb-true whose fabric e) (not-false (stands whose) both.0))
          | inr e ↦ passed fabric (SetEntries whose new) some (rw e refl) (none_moves fabric some both.1)
        ]
    none_moves fabric (SetRow at whose values ∷ some) none = passed fabric (SetRow at whose values) some refl (none_moves fabric some none)
    none_moves fabric (PutNetwork id secret ∷ some) none = passed fabric (PutNetwork id secret) some refl (none_moves fabric some none)
    none_moves fabric (RemoveNetwork id ∷ some) none = passed fabric (RemoveNetwork id) some refl (none_moves fabric some none)
    none_moves fabric (ConnectNetwork id ∷ some) none = passed fabric (ConnectNetwork id) some refl (none_moves fabric some none)
    none_moves fabric (MoveNetwork id index ∷ some) none = passed fabric (MoveNetwork id index) some refl (none_moves fabric some none)
    none_moves fabric (Arm owner seconds ∷ some) none = passed fabric (Arm owner seconds) some refl (none_moves fabric some none)
    none_moves fabric (Renew seconds ∷ some) none = passed fabric (Renew seconds) some refl (none_moves fabric some none)
    none_moves fabric (Expire ∷ some) none = passed fabric Expire some refl (none_moves fabric some none)
    none_moves fabric (Complete ∷ some) none = passed fabric Complete some refl (none_moves fabric some none)
    none_moves fabric (AddRoot cert ∷ some) none = passed fabric (AddRoot cert) some refl (none_moves fabric some none)
    none_moves fabric (Csr nonce update ∷ some) none = passed fabric (Csr nonce update) some refl (none_moves fabric some none)
    none_moves fabric (AddFabric joins ∷ some) none = passed fabric (AddFabric joins) some refl (none_moves fabric some none)
    none_moves fabric (UpdateFabric index given ∷ some) none = passed fabric (UpdateFabric index given) some refl (none_moves fabric some none)
    none_moves fabric (RemoveFabric index ∷ some) none = passed fabric (RemoveFabric index) some refl (none_moves fabric some none)
    none_moves fabric (Label index label ∷ some) none = passed fabric (Label index label) some refl (none_moves fabric some none)
    none_moves fabric (Emit at-event priority whom value ∷ some) none = passed fabric (Emit at-event priority whom value) some refl (none_moves fabric some none)

    own_stays : (fabric : ℕ) → StaysOf fabric steps → own_entries fabric (after_all asking steps s).entries ≡ own_entries fabric s.entries
    unfolding StaysOf
    own_stays fabric (inl e) = stays (latest (entries_set fabric) None steps) (own_entries fabric s.entries) (own_entries fabric (after_all asking steps s).entries) e (behind fabric)
    own_stays fabric (inr f) = behind fabric ∙ ap (λ (set : Option (List AclEntry)). unwrap_or set (own_entries fabric s.entries)) (f None)

    own_rows : (place : Place) (fabric : ℕ) (es : List AclEntry) → filter (is_own fabric) (entry_rows place entry_value es) ≡ entry_rows place entry_value (own_entries fabric es)
    own_rows place fabric [] = refl
    own_rows place fabric (e ∷ es) = elim (cases_Bool (e.fabric == fabric)) [
      | inl x ↦ rw x (ap (λ (l : List Row). row_at place e.fabric (entry_value e) ∷ l) (own_rows place fabric es))
      | inr x ↦ rw x (own_rows place fabric es)
    ]

    module _ (order : (entries : List AclEntry) (at : Place) (value : AclEntry → Value) (fabric : ℕ) → IsTrue (ascend_from 0 entries) → in_order fabric (entry_rows at value entries) ≡ entry_rows at value entries) (place : Place) where
      abbrev before : List Row
      before = entry_rows place entry_value s.entries

      abbrev behind_them : List Row
      behind_them = entry_rows place entry_value (after_all asking steps s).entries

      all_stay : has_other_entries s steps ≡ false → before ≡ behind_them
      all_stay none =
          rows_are_own before behind_them
          (λ n. order s.entries place entry_value n up) (λ n. order (after_all asking steps s).entries place entry_value n (up_all sets asking steps s up settings))
          (λ n. own_rows place n s.entries ∙ ap (entry_rows place entry_value) (sym (own_stays n (none_moves n steps none))) ∙ sym (own_rows place n (after_all asking steps s).entries))

      agree : (any : Bool) → has_other_entries s steps ≡ any → any ≡ not (are_same_rows before behind_them)
      agree true e = sym (ap not (rows_differ told before behind_them (λ same. some_moves steps e (entries_told again place s.entries (after_all asking steps s).entries same))))
      agree false e = sym (ap not (same_rows told before behind_them (all_stay e)))

      pub entries_agree : has_other_entries s steps ≡ not (are_same_rows before behind_them)
      entries_agree = agree (has_other_entries s steps) refl
