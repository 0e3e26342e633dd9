-- Of the items of a fabric that no step names nothing is said.
use Rattle.std.proofs.Common.{◌≡◌, ◌∙◌, refl, sym, ap, ℕ, ◌&&◌, Bool, true, false, List, [], ◌∷◌, ◌++◌, Option, Some, None, map, append-nil, if◌then◌else◌}
use Rattle.std.proofs.lemmas.Bool.{and_parts, or_parts}
use Rattle.std.specs.List.{flat_map, list_all, list_any}
use Rattle.std.specs.Option.{option_or}
use Rattle.mt_durable.specs.declared.durable.Entry.{Entry}
use Rattle.mt_model.specs.rows.Sight.{same_place}
use Rattle.mt_model.specs.declared.node.action.NodeStep.{NodeStep}
use Rattle.mt_model.specs.declared.node.state.NodeState.{NodeState}
use Rattle.mt_model.specs.declared.rows.place.Place.{Place}
use Rattle.mt_grammar.specs.declared.keys.Key.TheVariants.{Items}
use Rattle.mt_machine.specs.Effects.{after_all, is_setting_step}
use Rattle.mt_machine.specs.Settings.{setting_cases}
use Rattle.mt_machine.specs.State.{IsValid}
use Rattle.mt_write.specs.Latest.{entries_set, latest, row_set}
use Rattle.mt_lasting.specs.Changes.{differing_at}
use Rattle.mt_lasting.specs.Keys.{acl_place, item_places, keys_of}
use Rattle.mt_lasting.specs.Steps.{names_fabric}
use Rattle.mt_lasting.proofs.Differing.{none_differs}
use Rattle.mt_lasting.proofs.EntriesBehind.{KeepsOtherEntries, SetsEntriesInOrder}
use Rattle.mt_lasting.proofs.Folding.{Each}
use Rattle.mt_lasting.proofs.RowsBehind.{KeepsOthers, SetsInOrder}
use Rattle.mt_lasting.proofs.ValuesBehind.{entries_stay, items_stay}

none_if : {X : Type 0} (here : Bool) (x : X) → (if here && false then Some x else None) ≡ None
none_if true x = refl
none_if false x = refl

module _ (fabric : ℕ) where
  sets_no_row : (place : Place) (step : NodeStep) → is_setting_step step ≡ true → names_fabric fabric step ≡ false → row_set place fabric step ≡ None
  sets_no_row place step =
      setting_cases (λ (step : NodeStep). names_fabric fabric step ≡ false → row_set place fabric step ≡ None)
      (λ at whose values stored unnamed. ap (λ (b : Bool). if same_place at place && b then Some values else None) unnamed ∙ none_if (same_place at place) values)
      (λ whose new all unnamed. refl) (λ at-event priority whom value unnamed. refl) step

  sets_no_entries : (step : NodeStep) → is_setting_step step ≡ true → names_fabric fabric step ≡ false → entries_set fabric step ≡ None
  sets_no_entries step =
      setting_cases (λ (step : NodeStep). names_fabric fabric step ≡ false → entries_set fabric step ≡ None)
      (λ at whose values stored unnamed. refl)
      (λ whose new all unnamed. ap (λ (b : Bool). if b then Some new else None) unnamed)
      (λ at-event priority whom value unnamed. refl) step

  -- what each of the steps leaves, all of them leave
  none_sets : {X : Type 0} (set : NodeStep → Option X) → ((step : NodeStep) → is_setting_step step ≡ true → names_fabric fabric step ≡ false → set step ≡ None)
      → (steps : List NodeStep) → list_all is_setting_step steps ≡ true → list_any (names_fabric fabric) steps ≡ false → None ≡ latest set None steps
  none_sets set leaves [] settings unnamed = refl
  none_sets {X = X} set leaves (step ∷ steps) settings unnamed =
      let own = and_parts (is_setting_step step) (list_all is_setting_step steps) settings in
      let names = or_parts (names_fabric fabric step) (list_any (names_fabric fabric) steps) unnamed in
      none_sets set leaves steps own.1 names.1
      ∙ ap (λ (found : Option X). latest set (option_or found None) steps) (sym (leaves step own.0 names.0))

  module _ (sets : SetsInOrder) (keeps : KeepsOthers) (sets_entries : SetsEntriesInOrder) (keeps_entries : KeepsOtherEntries)
      (steps : List NodeStep) (s : NodeState) (valid : IsValid s) (settings : list_all is_setting_step steps ≡ true) (unnamed : list_any (names_fabric fabric) steps ≡ false) (ceiling : ℕ) where
    rows_unsaid : (place : Place) → same_place place acl_place ≡ false → differing_at s ceiling (after_all None steps s) ceiling (Items fabric place) ≡ []
    rows_unsaid place apart =
        none_differs (Items fabric place) _ _ (items_stay sets keeps steps s valid settings fabric place apart (none_sets (row_set place fabric) (sets_no_row place) steps settings unnamed))

    places_unsaid : (places : List Place) → Each (λ (place : Place). same_place place acl_place ≡ false) places
        → flat_map (differing_at s ceiling (after_all None steps s) ceiling) (map (Items fabric) places) ≡ []
    places_unsaid [] apart = refl
    places_unsaid (place ∷ places) apart = λ i. rows_unsaid place apart.0 i ++ places_unsaid places apart.1 i

    entries_unsaid : differing_at s ceiling (after_all None steps s) ceiling (Items fabric acl_place) ≡ []
    entries_unsaid =
        none_differs (Items fabric acl_place) _ _ (entries_stay sets_entries keeps_entries steps s valid settings fabric (none_sets (entries_set fabric) sets_no_entries steps settings unnamed))

    fabric_unsaid : flat_map (differing_at s ceiling (after_all None steps s) ceiling) (keys_of fabric) ≡ []
    fabric_unsaid = λ i. entries_unsaid i ++ places_unsaid item_places (refl, (refl, (refl, (refl, refl)))) i

    -- nothing is added for it
    pub unnamed_stays : (entries : List Entry) → entries ≡ entries ++ flat_map (differing_at s ceiling (after_all None steps s) ceiling) (keys_of fabric)
    unnamed_stays entries = sym (ap (λ (said : List Entry). entries ++ said) fabric_unsaid ∙ append-nil entries)
