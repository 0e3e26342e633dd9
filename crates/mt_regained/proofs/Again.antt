-- What is kept of a state that is regained is what it was regained from.
use Rattle.std.proofs.Common.{◌≡◌, ◌∙◌, refl, sym, ap, ℕ, inl, inr, ◌&&◌, ◌==◌, not, is_some, Bool, true, List, [], ◌∷◌, ◌++◌, Option, Some, None, filter}
use Rattle.std.proofs.lemmas.Bool.{and_from, and_parts, cases_Bool, eq-eqb}
use Rattle.std.specs.Prelude.{option_map, unwrap_or}
use Rattle.std.specs.List.{flat_map, list_all}
use Rattle.mt_tlv.specs.View.{tree}
use Rattle.mt_tlv.specs.declared.value.Value.{Value}
use Rattle.mt_durable.specs.declared.durable.Entry.{Entry}
use Rattle.mt_model.specs.rows.Setting.{is_at}
use Rattle.mt_model.specs.rows.Sight.{same_place, stands_at}
use Rattle.mt_model.specs.rows.Stored.{stored_places}
use Rattle.mt_model.specs.declared.rows.place.Place.{Place}
use Rattle.mt_model.specs.declared.rows.place.Row.{Row}
use Rattle.mt_model.specs.declared.tables.network.Armed.{Armed}
use Rattle.mt_meta.specs.Finding.{find_data_of}
use Rattle.mt_meta.specs.Stored.{first_rows}
use Rattle.mt_grammar.specs.Facts.{commissioning_facts, fabric_facts, has_numbers}
use Rattle.mt_grammar.specs.Values.{is_acl, is_first_at}
use Rattle.mt_grammar.specs.declared.kept.MapContents.{MapContents}
use Rattle.mt_grammar.specs.declared.keys.Key.{Key}
use Rattle.mt_grammar.specs.declared.keys.Key.TheVariants as keys
use Rattle.mt_machine.specs.State.{is_unscoped}
use Rattle.mt_lasting.specs.Contents.{kept_failsafe, kept_of, rows_under}
use Rattle.mt_lasting.specs.Keys.{all_keys}
use Rattle.mt_regained.specs.Laws.{IsKeptIn}
use Rattle.mt_regained.specs.Regained.{state_of, with_given_root}
use Rattle.mt_regained.specs.Rolled.{ceiling_of}
use Rattle.mt_regained.proofs.Fold.{lists, under_in}
use Rattle.mt_regained.proofs.KeyFacts.{KeyFacts, key_facts}
use Rattle.mt_regained.proofs.Lists.{Each, IsIn, all-weaker, each-all, each-of, filter-all, filter-same, filter-stronger, in-any}
use Rattle.mt_regained.proofs.PlaceFacts.{IsItems, IsSingle}
use Rattle.mt_regained.proofs.Places.{place-same}
use Rattle.mt_regained.proofs.Read.{IsPlain, place-itself}
use Rattle.mt_regained.proofs.Rises.{none_there}
use Rattle.mt_regained.proofs.Rows.{kept_sound, of, rows_are, rows_stand_there, unscoped_at}
use Rattle.mt_regained.proofs.RowsWith.{absent, kept_there}
use Rattle.mt_regained.proofs.Standing.{all_differ, exact_at, key_at}
use Rattle.mt_regained.proofs.Steps.{Numbers, is_sound, row_stands, rows_found, rows_of}

pub flat-same : {X Y : Type 0} (f g : X → List Y) (xs : List X) → Each (λ x. f x ≡ g x) xs → flat_map f xs ≡ flat_map g xs
flat-same f g [] each = refl
flat-same f g (x ∷ xs) each = λ i. each.0 i ++ flat-same f g xs each.1 i

-- the key of entries has no rows
no_rows : (fabric : ℕ) (place : Place) (facts : IsItems place) → is_acl facts.meta.kind ≡ true → (value : Option Value) → rows_of value (keys.Items fabric place) ≡ []
no_rows fabric place facts acl None = refl
no_rows fabric place facts acl (Some value) = ap (rows_found place fabric (tree value)) facts.is_data ∙ rw acl refl

some_again : {X : Type 0} (x : X) (o : Option X) → is_some o ≡ true → Some (unwrap_or o x) ≡ o
some_again x None there = absurd cc
some_again x (Some y) there = refl

pub plain_again : (kept : MapContents) (armed : Option Armed) → IsPlain armed → option_map kept_failsafe (option_map (with_given_root kept) armed) ≡ armed
plain_again kept None plain = refl
plain_again kept (Some armed) plain = ap Some plain.1

module _ (map : List Entry) (kept : MapContents) (is : IsKeptIn map kept) where
  abbrev here : Key → List Row
  here key = of map kept is key

  stand_there : (key : Key) → IsIn key all_keys → list_all (row_stands key) (here key) ≡ true
  stand_there key there = each-of (λ key. list_all (row_stands key) (here key) ≡ true) all_keys (rows_stand_there map kept is) key there

  at : (place : Place) (fabric : ℕ) (key : Key) → IsIn key all_keys → key_at place fabric key ≡ true → filter (is_at place fabric) kept.rows ≡ here key
  at place fabric key there its = ap (filter (is_at place fabric)) (rows_are map kept is) ∙ exact_at here place fabric all_keys (rows_stand_there map kept is) all_differ key there its

  of_single : (place : Place) (facts : IsSingle place) → IsIn (keys.Single place) all_keys → rows_under (state_of kept) (keys.Single place) ≡ here (keys.Single place)
  of_single place facts there =
      let differs : Row → Bool = λ row. not (is_first_at place row.value) in
      let test : Row → Bool = λ row. stands_at place row && differs row in
      let own : Row → Bool = λ row. is_at place 0 row && differs row in
      let parts = and_parts (not facts.row.meta.scoped) (not (is_acl facts.row.meta.kind)) (and_parts facts.row.meta.kept _ facts.single).1 in
      let unscoped : is_unscoped (find_data_of place) ≡ true = ap is_unscoped facts.is_data ∙ parts.0 in
      let listed = in-any (same_place place) place (place-same place) stored_places facts.listed in
      kept_there kept.rows place test (λ row passes. (and_parts (stands_at place row) (differs row) passes).0) listed facts.begins
      ∙ filter-same is_sound test own (λ row sound. ap (λ (b : Bool). b && differs row) (unscoped_at place unscoped row sound)) kept.rows (kept_sound map kept is)
      ∙ sym (filter-stronger (is_at place 0) own (λ row passes. (and_parts (is_at place 0 row) (differs row) passes).0) kept.rows)
      ∙ ap (filter own) (at place 0 (keys.Single place) there (and_from _ _ (place-itself place) refl))
      ∙ filter-all own (here (keys.Single place)) (all-weaker (row_stands (keys.Single place)) own both (here (keys.Single place)) (stand_there (keys.Single place) there))
    where
      both : (row : Row) → row_stands (keys.Single place) row ≡ true → (is_at place 0 row && not (is_first_at place row.value)) ≡ true
      both row stands =
          let outer = and_parts (is_at place 0 row) (is_sound row && not (is_first_at place row.value)) stands in
          and_from _ _ outer.0 (and_parts (is_sound row) (not (is_first_at place row.value)) outer.1).1

  of_items : (fabric : ℕ) (place : Place) (facts : IsItems place) → IsIn (keys.Items fabric place) all_keys → rows_under (state_of kept) (keys.Items fabric place) ≡ here (keys.Items fabric place)
  of_items fabric place facts there =
      let at_there : (row : Row) → is_at place fabric row ≡ true → stands_at place row ≡ true = λ row its. (and_parts (same_place row.place place) (row.fabric == fabric) its).0 in
      elim (cases_Bool (is_acl facts.meta.kind)) [
        | inl acl ↦ absent kept.rows place (is_at place fabric) at_there stored_places (facts.listed ∙ ap not acl) ∙ sym (no_rows fabric place facts acl (under_in map (keys.Items fabric place)))
        | inr rows ↦
            let listed = in-any (same_place place) place (place-same place) stored_places (facts.listed ∙ ap not rows) in
            let none : filter (is_at place fabric) first_rows ≡ [] = sym (filter-stronger (stands_at place) (is_at place fabric) at_there first_rows) ∙ ap (filter (is_at place fabric)) facts.begins in
            kept_there kept.rows place (is_at place fabric) at_there listed none
            ∙ at place fabric (keys.Items fabric place) there (and_from _ _ (place-itself place) (eq-eqb fabric fabric refl))
      ]

  of_key : (key : Key) → KeyFacts key → IsIn key all_keys → rows_under (state_of kept) key ≡ here key
  of_key (keys.Single place) facts there = of_single place facts there
  of_key (keys.Items fabric place) facts there = of_items fabric place facts.1 there
  of_key keys.Boot facts there = sym (none_there (here keys.Boot) (stand_there keys.Boot there))
  of_key keys.Ceiling facts there = sym (none_there (here keys.Ceiling) (stand_there keys.Ceiling there))
  of_key (keys.Fabric index) facts there = sym (none_there (here (keys.Fabric index)) (stand_there (keys.Fabric index) there))
  of_key keys.Roots facts there = sym (none_there (here keys.Roots) (stand_there keys.Roots there))
  of_key keys.Networks facts there = sym (none_there (here keys.Networks) (stand_there keys.Networks there))
  of_key keys.Failsafe facts there = sym (none_there (here keys.Failsafe) (stand_there keys.Failsafe there))

  rows_again : flat_map (rows_under (state_of kept)) all_keys ≡ kept.rows
  rows_again =
      flat-same (rows_under (state_of kept)) here all_keys (each-all (λ key. rows_under (state_of kept) key ≡ here key) all_keys (λ key there. of_key key (each-of KeyFacts all_keys key_facts key there) there))
      ∙ sym (rows_are map kept is)

  pub numbers : Numbers kept
  numbers = (lists map kept is).numbers (record { boot = refl; ceiling = refl; failsafe = refl })

  pub kept_again : kept_of (state_of kept) (ceiling_of kept) ≡ kept
  kept_again =
      let some = and_parts (is_some kept.boot) (is_some kept.ceiling) (and_parts (has_numbers kept) (fabric_facts kept && commissioning_facts kept) is.facts).0 in
      let boots : Some (unwrap_or kept.boot 0) ≡ kept.boot = some_again 0 kept.boot some.0 in
      let ceilings : Some (unwrap_or kept.ceiling 0) ≡ kept.ceiling = some_again 0 kept.ceiling some.1 in
      let failsafes : option_map kept_failsafe (option_map (with_given_root kept) kept.failsafe) ≡ kept.failsafe = plain_again kept kept.failsafe numbers.failsafe in
      λ i. record {
        boot = boots i;
        ceiling = ceilings i;
        rows = rows_again i;
        entries = kept.entries;
        fabrics = kept.fabrics;
        roots = kept.roots;
        networks = kept.networks;
        failsafe = failsafes i;
      }
