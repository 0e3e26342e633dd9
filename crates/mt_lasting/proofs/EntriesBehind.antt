-- What entries of a fabric stand behind steps that set values.
use Rattle.std.proofs.Common.{◌≡◌, ◌∙◌, refl, sym, ap, subst, ℕ, ◌≤◌, ◌==◌, nat_le, not, Bool, true, false, List, [], ◌∷◌, ◌++◌, Option, Some, None, IsTrue, filter, unwrap_or, append-nil, arith, if◌then◌else◌}
use Rattle.std.specs.List.{list_all}
use Rattle.std.specs.Option.{option_or}
use Rattle.std.proofs.lemmas.Bool.{and_from, and_parts, eqb-true, le-leb}
use Rattle.std.proofs.lemmas.List.Elements.{filter-append}
use Rattle.mt_model.specs.rows.Setting.{is_entry_above, is_entry_below, is_entry_of, with_entries}
use Rattle.mt_model.specs.texts.Config.{ascend_from}
use Rattle.mt_model.specs.declared.tables.access.AclEntry.{AclEntry}
use Rattle.mt_model.specs.declared.node.action.NodeStep.{NodeStep}
use Rattle.mt_model.specs.declared.node.state.NodeState.{NodeState}
use Rattle.mt_write.specs.Latest.{entries_set, latest}
use Rattle.mt_machine.specs.Effects.{after, after_all, is_setting_step}
use Rattle.mt_machine.specs.Settings.{setting_cases}
use Rattle.mt_machine.specs.State.{IsValid}
use Rattle.mt_lasting.proofs.Filters.{filter_all, filter_none, filter_through, filter_without}

abbrev pub SetsEntriesInOrder : Type 0
SetsEntriesInOrder = (entries new : List AclEntry) (least fabric : ℕ) → least ≤ fabric → IsTrue (ascend_from least entries)
    → IsTrue (list_all (is_entry_of fabric) new) → IsTrue (ascend_from least (with_entries fabric new entries))

abbrev pub KeepsOtherEntries : Type 0
KeepsOtherEntries = (entries : List AclEntry) (fabric : ℕ) → IsTrue (ascend_from 0 entries)
    → filter (is_entry_below fabric) entries ++ filter (is_entry_above fabric) entries ≡ filter (λ (entry : AclEntry). not (is_entry_of fabric entry)) entries

-- entries that ascend from 1 on ascend from 0 on
from_none : (es : List AclEntry) → ascend_from 1 es ≡ true → ascend_from 0 es ≡ true
from_none [] up = refl
from_none (e ∷ es) up = and_from (nat_le 0 e.fabric) (ascend_from e.fabric es) (le-leb 0 e.fabric (omega arith)) (and_parts _ _ up).1

pub up_from_none : (s : NodeState) → IsValid s → ascend_from 0 s.entries ≡ true
up_from_none s valid = from_none s.entries valid.entries_rise

module _ (fabric : ℕ) where
  abbrev pub own_entries : List AclEntry → List AclEntry
  own_entries entries = filter (is_entry_of fabric) entries

  below_is_other : (e : AclEntry) → is_entry_below fabric e ≡ true → is_entry_of fabric e ≡ false
  below_is_other e x = grind (arith, x)

  above_is_other : (e : AclEntry) → is_entry_above fabric e ≡ true → is_entry_of fabric e ≡ false
  above_is_other e x = grind (arith, x)

  split : (below new above : List AclEntry) → own_entries (below ++ (new ++ above)) ≡ own_entries below ++ (own_entries new ++ own_entries above)
  split below new above = filter-append (is_entry_of fabric) below (new ++ above) ∙ ap (λ (l : List AclEntry). own_entries below ++ l) (filter-append (is_entry_of fabric) new above)

  -- behind a step that sets the fabric's entries, these stand
  set_own : (new es : List AclEntry) → list_all (is_entry_of fabric) new ≡ true → own_entries (with_entries fabric new es) ≡ new
  set_own new es own =
      split (filter (is_entry_below fabric) es) new (filter (is_entry_above fabric) es)
      ∙ (λ i. filter_without (is_entry_of fabric) (is_entry_below fabric) below_is_other es i
      ++ (filter_all (is_entry_of fabric) new own i
      ++ filter_without (is_entry_of fabric) (is_entry_above fabric) above_is_other es i))
      ∙ append-nil new

  none_own : (whose : ℕ) (new : List AclEntry) → (whose == fabric) ≡ false → list_all (is_entry_of whose) new ≡ true → list_all (λ (e : AclEntry). not (is_entry_of fabric e)) new ≡ true
  none_own whose [] apart own = refl
  none_own whose (e ∷ new) apart own =
      let both = and_parts (is_entry_of whose e) (list_all (is_entry_of whose) new) own in
      and_from _ _ (ap not (ap (λ (n : ℕ). n == fabric) (eqb-true e.fabric whose both.0) ∙ apart)) (none_own whose new apart both.1)

  other_of : (whose : ℕ) → (whose == fabric) ≡ false → (e : AclEntry) → is_entry_of fabric e ≡ true → not (is_entry_of whose e) ≡ true
  other_of whose apart e h = grind (arith, apart, h)

  -- behind one that sets another's, what stood
  set_others : KeepsOtherEntries → (whose : ℕ) (new es : List AclEntry) → ascend_from 0 es ≡ true → (whose == fabric) ≡ false → list_all (is_entry_of whose) new ≡ true
      → own_entries (with_entries whose new es) ≡ own_entries es
  set_others keeps whose new es up apart own =
      let lower = filter (is_entry_below whose) es in
      let higher = filter (is_entry_above whose) es in
      split lower new higher
      ∙ ap (λ (l : List AclEntry). own_entries lower ++ (l ++ own_entries higher)) (filter_none (is_entry_of fabric) new (none_own whose new apart own))
      ∙ sym (filter-append (is_entry_of fabric) lower higher)
      ∙ ap own_entries (keeps es whose up)
      ∙ filter_through (is_entry_of fabric) (λ (e : AclEntry). not (is_entry_of whose e)) (other_of whose apart) es

  behind_entries : KeepsOtherEntries → (whose : ℕ) (new es : List AclEntry) → ascend_from 0 es ≡ true → list_all (is_entry_of whose) new ≡ true → (t : Bool) → (whose == fabric) ≡ t
      → own_entries (with_entries whose new es) ≡ unwrap_or (if t then Some new else None) (own_entries es)
  behind_entries keeps whose new es up own true e =
      let is : whose ≡ fabric = eqb-true whose fabric e in
      ap (λ (n : ℕ). own_entries (with_entries n new es)) is ∙ set_own new es (subst (λ (n : ℕ). list_all (is_entry_of n) new ≡ true) is own)
  behind_entries keeps whose new es up own false e = set_others keeps whose new es up e own

  behind_step : KeepsOtherEntries → (step : NodeStep) (s : NodeState) → ascend_from 0 s.entries ≡ true → is_setting_step step ≡ true
      → own_entries (after None step s).entries ≡ unwrap_or (entries_set fabric step) (own_entries s.entries)
  behind_step keeps step s up =
      setting_cases (λ (step : NodeStep). own_entries (after None step s).entries ≡ unwrap_or (entries_set fabric step) (own_entries s.entries))
      (λ at whose values stored. refl) (λ whose new all. behind_entries keeps whose new s.entries up all (whose == fabric) refl) (λ at-event priority whom value. refl) step

  newer_is : (set found : Option (List AclEntry)) (behind before stored : List AclEntry) → behind ≡ unwrap_or set before → before ≡ unwrap_or found stored → behind ≡ unwrap_or (option_or set found) stored
  newer_is (Some new) found behind before stored a b = a
  newer_is None found behind before stored a b = a ∙ b

-- the entries behind steps ascend
up_step : SetsEntriesInOrder → (step : NodeStep) (s : NodeState) → ascend_from 0 s.entries ≡ true → is_setting_step step ≡ true → ascend_from 0 (after None step s).entries ≡ true
up_step sets step s up =
    setting_cases (λ (step : NodeStep). ascend_from 0 (after None step s).entries ≡ true)
    (λ at whose values stored. up) (λ whose new all. sets s.entries new 0 whose (omega arith) up all) (λ at-event priority whom value. up) step

module _ (sets : SetsEntriesInOrder) (keeps : KeepsOtherEntries) (fabric : ℕ) where
  behind_all : (steps : List NodeStep) (s : NodeState) (found : Option (List AclEntry)) (stored : List AclEntry) → ascend_from 0 s.entries ≡ true
      → list_all is_setting_step steps ≡ true → own_entries fabric s.entries ≡ unwrap_or found stored
      → own_entries fabric (after_all None steps s).entries ≡ unwrap_or (latest (entries_set fabric) found steps) stored
  behind_all [] s found stored up settings e = e
  behind_all (step ∷ steps) s found stored up settings e =
      let both = and_parts (is_setting_step step) (list_all is_setting_step steps) settings in
      behind_all steps (after None step s) (option_or (entries_set fabric step) found) stored (up_step sets step s up both.0) both.1
      (newer_is fabric (entries_set fabric step) found (own_entries fabric (after None step s).entries) (own_entries fabric s.entries) stored (behind_step fabric keeps step s up both.0) e)

  -- what the latest of the steps sets, or what stood
  pub entries_behind : (steps : List NodeStep) (s : NodeState) → ascend_from 0 s.entries ≡ true → list_all is_setting_step steps ≡ true
      → own_entries fabric (after_all None steps s).entries ≡ unwrap_or (latest (entries_set fabric) None steps) (own_entries fabric s.entries)
  entries_behind steps s up settings = behind_all steps s None (own_entries fabric s.entries) up settings refl
