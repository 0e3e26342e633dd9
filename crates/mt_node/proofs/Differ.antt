-- What the steps tell of a place is whether its rows differ behind them.
use Rattle.std.proofs.Common.{◌≡◌, ℕ, inl, inr, not, true, false, List, [], ◌∷◌, Option, IsTrue, refl, sym, ap, ◌∙◌, filter}
use Rattle.std.specs.List.{list_all}
use Rattle.std.proofs.lemmas.Bool.{and_parts, cases_Bool}
use Rattle.std.proofs.lemmas.List.Elements.{filter_agree}
use Rattle.mt_tlv.specs.declared.value.Value.{Value}
use Rattle.mt_model.specs.rows.Order.{are_ascending, entry_rows, in_order}
use Rattle.mt_model.specs.rows.Sight.{is_acl, stands_at}
use Rattle.mt_model.specs.texts.Config.{ascend_from}
use Rattle.mt_model.specs.tables.Entries.{entry_value}
use Rattle.mt_model.specs.declared.tables.access.AclEntry.{AclEntry}
use Rattle.mt_model.specs.declared.tables.access.Actor.{Actor}
use Rattle.mt_model.specs.declared.node.action.NodeStep.{NodeStep}
use Rattle.mt_model.specs.declared.node.state.NodeState.{NodeState}
use Rattle.mt_model.specs.declared.rows.place.Place.{Place}
use Rattle.mt_model.specs.declared.rows.place.Row.{Row}
use Rattle.mt_apps.specs.Computed.{computed_rows}
use Rattle.mt_apps.specs.Parts.{Parts}
use Rattle.mt_meta.specs.Places.{all_places}
use Rattle.mt_meta.specs.Stored.{is_stored}
use Rattle.mt_model.specs.rows.Same.{are_same_rows}
use Rattle.mt_machine.specs.Changes.{differing, differs}
use Rattle.mt_machine.specs.Effects.{after, after_all, is_setting_step}
use Rattle.mt_machine.specs.Settings.{setting_cases}
use Rattle.mt_machine.specs.State.{parts}
use Rattle.mt_node.specs.Differences.{differs_by}
use Rattle.mt_node.proofs.EntriesBehind.{KeepsOtherEntries, ReadsAgain, SetsEntriesInOrder, entries_agree}
use Rattle.mt_node.proofs.RowsBehind.{KeepsOthers, SetsInOrder, rows_agree}
use Rattle.mt_node.proofs.Same.{ToldSame, same_rows}

-- The rows of a place that are not its list of entries are computed of what no step sets.

with_entries_of : Parts → List AclEntry → Parts
with_entries_of parts entries = record parts { entries = entries }

computed_else : (p : Parts) (entries : List AclEntry) (place : Place) → is_acl place ≡ false → computed_rows p place ≡ computed_rows (record p { entries = entries }) place
unfolding computed_rows
computed_else p entries place e = rw e refl

computed_entries : (p : Parts) (place : Place) → is_acl place ≡ true → computed_rows p place ≡ entry_rows place entry_value p.entries
unfolding computed_rows
computed_entries p place e = rw e refl

parts_step : (asking : Option Actor) (step : NodeStep) (s : NodeState) → is_setting_step step ≡ true → parts (after asking step s) ≡ record (parts s) { entries = (after asking step s).entries }
parts_step asking step s =
    setting_cases (λ (step : NodeStep). parts (after asking step s) ≡ record (parts s) { entries = (after asking step s).entries })
    (λ at fabric values stored. refl) (λ fabric entries all. refl) (λ at priority fabric value. refl) step

parts_all : (asking : Option Actor) (steps : List NodeStep) (s : NodeState) → list_all is_setting_step steps ≡ true → parts (after_all asking steps s) ≡ record (parts s) { entries = (after_all asking steps s).entries }
parts_all asking [] s settings = refl
parts_all asking (step ∷ steps) s settings =
    let both = and_parts (is_setting_step step) (list_all is_setting_step steps) settings in
    parts_all asking steps (after asking step s) both.1
    ∙ ap (λ (p : Parts). record p { entries = (after_all asking steps (after asking step s)).entries }) (parts_step asking step s both.0)

module _ (told : ToldSame) (sets : SetsInOrder) (keeps : KeepsOthers) (sets_entries : SetsEntriesInOrder) (keeps_entries : KeepsOtherEntries) (again : ReadsAgain)
    (order : (rows : List Row) (at : Place) (fabric : ℕ) → IsTrue (are_ascending rows) → in_order fabric (filter (stands_at at) rows) ≡ filter (stands_at at) rows)
    (order_entries : (entries : List AclEntry) (at : Place) (value : AclEntry → Value) (fabric : ℕ) → IsTrue (ascend_from 0 entries) → in_order fabric (entry_rows at value entries) ≡ entry_rows at value entries)
    (asking : Option Actor) (steps : List NodeStep) (s : NodeState) (up : IsTrue (are_ascending s.rows)) (entries_up : IsTrue (ascend_from 0 s.entries)) (settings : list_all is_setting_step steps ≡ true) where
  after_them : NodeState
  after_them = after_all asking steps s

  stored_agrees : (place : Place) → is_stored place ≡ true → differs_by s steps place ≡ differs s (after_all asking steps s) place
  stored_agrees place e = rw e (rows_agree told sets keeps place asking steps s up settings order)

  entries_agree_at : (place : Place) → is_stored place ≡ false → is_acl place ≡ true → differs_by s steps place ≡ differs s (after_all asking steps s) place
  entries_agree_at place e acl =
      rw (e, acl) (entries_agree told sets_entries keeps_entries again asking steps s entries_up settings order_entries place
      ∙ (λ i. not (are_same_rows (sym (computed_entries (parts s) place acl) i) (sym (computed_entries (parts (after_all asking steps s)) place acl) i))))

  computed_agree : (place : Place) → is_stored place ≡ false → is_acl place ≡ false → differs_by s steps place ≡ differs s (after_all asking steps s) place
  computed_agree place e acl =
      let same : computed_rows (parts s) place ≡ computed_rows (parts (after_all asking steps s)) place =
      computed_else (parts s) (after_all asking steps s).entries place acl ∙ ap (λ (p : Parts). computed_rows p place) (sym (parts_all asking steps s settings)) in
      rw (e, acl) (sym (ap not (same_rows told (computed_rows (parts s) place) (computed_rows (parts (after_all asking steps s)) place) same)))

  agree_at : (place : Place) → differs_by s steps place ≡ differs s (after_all asking steps s) place
  agree_at place = elim (cases_Bool (is_stored place)) [
    | inl e ↦ stored_agrees place e
    | inr e ↦ elim (cases_Bool (is_acl place)) [ inl acl ↦ entries_agree_at place e acl | inr acl ↦ computed_agree place e acl ]
  ]

  pub differ_by : filter (differs_by s steps) all_places ≡ differing s (after_all asking steps s)
  differ_by = filter_agree (differs_by s steps) (differs s (after_all asking steps s)) agree_at all_places
