-- What the value under one key adds to what is kept.
use Rattle.std.proofs.Common.{◌≡◌, ◌∙◌, refl, sym, ap, subst, ℕ, ◌^◌, ◌≤◌, inl, inr, ◌&&◌, ◌==◌, not, nat_le, Bool, true, false, List, [], ◌∷◌, ◌++◌, Option, Some, None, Result, Ok, Err, length, if◌then◌else◌, arith}
use Rattle.std.proofs.lemmas.Bool.{and_from, and_parts, cases_Bool, eqb-true, le-leb, leb-true, not-true}
use Rattle.std.proofs.lemmas.List.{append-nil}
use Rattle.std.specs.Prelude.{unwrap_or}
use Rattle.std.specs.List.{list_all}
use Rattle.mt_tlv.specs.Tree.{Tree}
use Rattle.mt_tlv.specs.View.{tree}
use Rattle.mt_tlv.specs.declared.value.Value.{Value}
use Rattle.mt_model.specs.rows.Order.{row_at}
use Rattle.mt_model.specs.rows.Setting.{is_at, is_entry_of}
use Rattle.mt_model.specs.rows.Sight.{same_place}
use Rattle.mt_model.specs.declared.limits.TheConstants.{FABRICS}
use Rattle.mt_model.specs.declared.messages.status.Status.{Status}
use Rattle.mt_model.specs.declared.rows.place.Place.{Place}
use Rattle.mt_model.specs.declared.rows.place.Row.{Row}
use Rattle.mt_model.specs.declared.tables.access.AclEntry.{AclEntry}
use Rattle.mt_model.specs.declared.tables.fabric.Fabric.{Fabric}
use Rattle.mt_model.specs.declared.tables.network.Armed.{Armed}
use Rattle.mt_model.specs.declared.tables.network.Network.{Network}
use Rattle.mt_meta.specs.Finding.{find_data_of}
use Rattle.mt_meta.specs.Forms.{has_form}
use Rattle.mt_meta.specs.Stored.{is_stored}
use Rattle.mt_meta.specs.declared.meta.Meta.{Meta}
use Rattle.mt_meta.specs.declared.rows.AttributeRow.{AttributeRow}
use Rattle.mt_grammar.specs.Decoding.{with_boot, with_ceiling, with_entries, with_fabric, with_failsafe, with_items_in, with_networks, with_roots, with_rows, with_value}
use Rattle.mt_grammar.specs.Fields.{number_in}
use Rattle.mt_grammar.specs.Keys.{is_index}
use Rattle.mt_grammar.specs.Values.{armed_in, entries_in, fabric_in, greatest_boot, greatest_ceiling, is_acl, is_first, is_first_at, is_single, items_in, may_stand, may_stand_in, networks_in, roots_in}
use Rattle.mt_grammar.specs.declared.kept.MapContents.{MapContents}
use Rattle.mt_grammar.specs.declared.keys.Key.{Key}
use Rattle.mt_grammar.specs.declared.keys.Key.TheVariants as keys
use Rattle.mt_lasting.specs.Values.{has_index}
use Rattle.mt_regained.proofs.KeyFacts.{KeyFacts}
use Rattle.mt_regained.proofs.Lists.{all-weaker}
use Rattle.mt_regained.proofs.PlaceFacts.{IsItems, IsSingle}
use Rattle.mt_regained.proofs.Places.{place-same}
use Rattle.mt_regained.proofs.Read.{IsPlain, armed_formed, entries_formed, fabric_formed, is_formed, items_formed, no_value, number_fits, place-itself, some_same}

-- What is read under a key.

abbrev pub or_none : {X : Type 0} → Option (List X) → List X
or_none None = []
or_none (Some xs) = xs

abbrev pub one_or_none : {X : Type 0} → Option X → List X
one_or_none None = []
one_or_none (Some x) = x ∷ []

abbrev pub rows_found : Place → ℕ → Tree → Result Meta Status → List Row
rows_found place fabric t (Err status) = []
rows_found place fabric t (Ok meta) = if is_acl meta.kind then [] else or_none (items_in place fabric meta t)

abbrev pub entries_found : ℕ → Tree → Result Meta Status → List AclEntry
entries_found fabric t (Err status) = []
entries_found fabric t (Ok meta) = if is_acl meta.kind then or_none (entries_in fabric t) else []

abbrev pub rows_of : Option Value → Key → List Row
rows_of None key = []
rows_of (Some value) (keys.Single place) = row_at place 0 value ∷ []
rows_of (Some value) (keys.Items fabric place) = rows_found place fabric (tree value) (find_data_of place)
rows_of (Some value) key = []

abbrev pub entries_of : Option Value → Key → List AclEntry
entries_of None key = []
entries_of (Some value) (keys.Items fabric place) = entries_found fabric (tree value) (find_data_of place)
entries_of (Some value) key = []

abbrev pub fabrics_of : Option Value → Key → List Fabric
fabrics_of None key = []
fabrics_of (Some value) (keys.Fabric index) = one_or_none (fabric_in index (tree value))
fabrics_of (Some value) key = []

-- The forms of these.

abbrev pub is_sound_at : Row → Result Meta Status → Bool
is_sound_at row (Err status) = false
is_sound_at row (Ok meta) = has_form meta row.fabric row.value && (if meta.scoped then not (row.fabric == 0) else row.fabric == 0)

abbrev pub is_sound : Row → Bool
is_sound row = is_stored row.place && is_sound_at row (find_data_of row.place)

abbrev pub row_stands : Key → Row → Bool
row_stands (keys.Single place) row = is_at place 0 row && (is_sound row && not (is_first_at place row.value))
row_stands (keys.Items fabric place) row = is_at place fabric row && is_sound row
row_stands key row = false

abbrev pub limit_at : Result Meta Status → ℕ
limit_at (Err status) = 0
limit_at (Ok meta) = meta.limit

abbrev pub most_rows : Key → ℕ
most_rows (keys.Single place) = 1
most_rows (keys.Items fabric place) = limit_at (find_data_of place)
most_rows key = 0

abbrev pub entry_stands : Key → AclEntry → Bool
entry_stands (keys.Items fabric place) entry = is_entry_of fabric entry
entry_stands key entry = false

abbrev pub fabric_stands : Key → Fabric → Bool
fabric_stands (keys.Fabric index) fabric = has_index index fabric
fabric_stands key fabric = false

pub record Stand (value : Option Value) (key : Key) : Type 0 where
  pub rows : list_all (row_stands key) (rows_of value key) ≡ true
  pub few : nat_le (length (rows_of value key)) (most_rows key) ≡ true
  pub entries : list_all (entry_stands key) (entries_of value key) ≡ true
  pub fabrics : list_all (fabric_stands key) (fabrics_of value key) ≡ true

-- numbers that are kept have room
pub record Numbers (kept : MapContents) : Type 0 where
  pub boot : nat_le (unwrap_or kept.boot 0) (2 ^ 31) ≡ true
  pub ceiling : nat_le (unwrap_or kept.ceiling 0) (2 ^ 62) ≡ true
  pub failsafe : IsPlain kept.failsafe

pub record Added (kept next : MapContents) (value : Option Value) (key : Key) : Type 0 where
  pub rows : next.rows ≡ kept.rows ++ rows_of value key
  pub entries : next.entries ≡ kept.entries ++ entries_of value key
  pub fabrics : next.fabrics ≡ kept.fabrics ++ fabrics_of value key
  pub numbers : Numbers kept → Numbers next

-- One key.

abbrev Outcome : MapContents → MapContents → Option Value → Key → Type 0
Outcome kept next value key = Added kept next value key × Stand value key

same_lists : (kept : MapContents) (key : Key) (next : MapContents) (value : Value) → next.rows ≡ kept.rows → next.entries ≡ kept.entries → next.fabrics ≡ kept.fabrics → (Numbers kept → Numbers next)
    → rows_of (Some value) key ≡ [] → entries_of (Some value) key ≡ [] → fabrics_of (Some value) key ≡ [] → Outcome kept next (Some value) key
same_lists kept key next value rows entries fabrics numbers no_rows no_entries no_fabrics = (
  record {
    rows = rows ∙ sym (append-nil kept.rows) ∙ ap (λ (l : List Row). kept.rows ++ l) (sym no_rows);
    entries = entries ∙ sym (append-nil kept.entries) ∙ ap (λ (l : List AclEntry). kept.entries ++ l) (sym no_entries);
    fabrics = fabrics ∙ sym (append-nil kept.fabrics) ∙ ap (λ (l : List Fabric). kept.fabrics ++ l) (sym no_fabrics);
    numbers = numbers;
  },
  record {
    rows = rw no_rows refl;
    few = rw no_rows (le-leb 0 (most_rows key) (omega arith));
    entries = rw no_entries refl;
    fabrics = rw no_fabrics refl;
  },
)

boot_step : (kept next : MapContents) (value : Value) (read : Option ℕ) → ((n : ℕ) → read ≡ Some n → nat_le n greatest_boot ≡ true) → with_boot kept read ≡ Some next → Outcome kept next (Some value) keys.Boot
boot_step kept next value None fits is = no_value next is
boot_step kept next value (Some boot) fits is = subst (λ (k : MapContents). Outcome kept k (Some value) keys.Boot) (some_same (record kept { boot = Some boot }) next is)
    (same_lists kept keys.Boot (record kept { boot = Some boot }) value refl refl refl (λ numbers. record { boot = fits boot refl; ceiling = numbers.ceiling; failsafe = numbers.failsafe }) refl refl refl)

ceiling_step : (kept next : MapContents) (value : Value) (read : Option ℕ) → ((n : ℕ) → read ≡ Some n → nat_le n greatest_ceiling ≡ true) → with_ceiling kept read ≡ Some next → Outcome kept next (Some value) keys.Ceiling
ceiling_step kept next value None fits is = no_value next is
ceiling_step kept next value (Some ceiling) fits is = subst (λ (k : MapContents). Outcome kept k (Some value) keys.Ceiling) (some_same (record kept { ceiling = Some ceiling }) next is)
    (same_lists kept keys.Ceiling (record kept { ceiling = Some ceiling }) value refl refl refl (λ numbers. record { boot = numbers.boot; ceiling = fits ceiling refl; failsafe = numbers.failsafe }) refl refl refl)

roots_step : (kept next : MapContents) (value : Value) (read : Option (List (List ℕ))) → with_roots kept read ≡ Some next → Outcome kept next (Some value) keys.Roots
roots_step kept next value None is = no_value next is
roots_step kept next value (Some roots) is = subst (λ (k : MapContents). Outcome kept k (Some value) keys.Roots) (some_same (record kept { roots = roots }) next is)
    (same_lists kept keys.Roots (record kept { roots = roots }) value refl refl refl (λ numbers. record { boot = numbers.boot; ceiling = numbers.ceiling; failsafe = numbers.failsafe }) refl refl refl)

networks_step : (kept next : MapContents) (value : Value) (read : Option (List Network)) → with_networks kept read ≡ Some next → Outcome kept next (Some value) keys.Networks
networks_step kept next value None is = no_value next is
networks_step kept next value (Some networks) is = subst (λ (k : MapContents). Outcome kept k (Some value) keys.Networks) (some_same (record kept { networks = networks }) next is)
    (same_lists kept keys.Networks (record kept { networks = networks }) value refl refl refl (λ numbers. record { boot = numbers.boot; ceiling = numbers.ceiling; failsafe = numbers.failsafe }) refl refl refl)

failsafe_step : (kept next : MapContents) (value : Value) (read : Option Armed) → ((armed : Armed) → read ≡ Some armed → IsPlain (Some armed)) → with_failsafe kept read ≡ Some next → Outcome kept next (Some value) keys.Failsafe
failsafe_step kept next value None plain is = no_value next is
failsafe_step kept next value (Some armed) plain is = subst (λ (k : MapContents). Outcome kept k (Some value) keys.Failsafe) (some_same (record kept { failsafe = Some armed }) next is)
    (same_lists kept keys.Failsafe (record kept { failsafe = Some armed }) value refl refl refl (λ numbers. record { boot = numbers.boot; ceiling = numbers.ceiling; failsafe = plain armed refl }) refl refl refl)

fabric_step : (index : ℕ) (kept next : MapContents) (value : Value) (read : Option Fabric) → fabric_in index (tree value) ≡ read → with_fabric kept read ≡ Some next → Outcome kept next (Some value) (keys.Fabric index)
fabric_step index kept next value None its is = no_value next is
fabric_step index kept next value (Some fabric) its is = subst (λ (k : MapContents). Outcome kept k (Some value) (keys.Fabric index)) (some_same (record kept { fabrics = kept.fabrics ++ fabric ∷ [] }) next is) (
  record {
    rows = sym (append-nil kept.rows);
    entries = sym (append-nil kept.entries);
    fabrics = ap (λ (o : Option Fabric). kept.fabrics ++ one_or_none o) (sym its);
    numbers = λ numbers. record { boot = numbers.boot; ceiling = numbers.ceiling; failsafe = numbers.failsafe };
  },
  record {
    rows = refl;
    few = refl;
    entries = refl;
    fabrics = ap (λ (o : Option Fabric). list_all (has_index index) (one_or_none o)) its ∙ and_from _ _ (fabric_formed index (tree value) fabric its) refl;
  },
)

-- Rows.

single_step : (place : Place) → IsSingle place → (kept next : MapContents) (value : Value) → (if may_stand place value then with_rows kept (Some (row_at place 0 value ∷ [])) else None) ≡ Some next
    → Outcome kept next (Some value) (keys.Single place)
single_step place facts kept next value is = elim (cases_Bool (may_stand place value)) [
  | inr none ↦
      let wrong : None ≡ Some next = rw none at is in
      absurd cc
  | inl may ↦
      let same : Some (record kept { rows = kept.rows ++ row_at place 0 value ∷ [] }) ≡ Some next = rw may at is in
      let form : (is_single facts.row.meta && (has_form facts.row.meta 0 value && not (is_first facts.row.origin (tree value)))) ≡ true = ap (λ (o : Option AttributeRow). may_stand_in o value) (sym facts.is_attribute) ∙ may in
      let parts = and_parts (has_form facts.row.meta 0 value) (not (is_first facts.row.origin (tree value))) (and_parts (is_single facts.row.meta) _ form).1 in
      let alone : (not facts.row.meta.scoped) ≡ true = (and_parts (not facts.row.meta.scoped) (not (is_acl facts.row.meta.kind)) (and_parts facts.row.meta.kept _ facts.single).1).0 in
      let unscoped : facts.row.meta.scoped ≡ false = not-true facts.row.meta.scoped alone in
      let here : is_at place 0 (row_at place 0 value) ≡ true = and_from _ _ (place-itself place) refl in
      let sound : is_sound (row_at place 0 value) ≡ true = and_from _ _ facts.stored (rw (facts.is_data, unscoped) (and_from _ _ parts.0 refl)) in
      let not_first : (not (is_first_at place value)) ≡ true = rw facts.is_attribute parts.1 in
      subst (λ (k : MapContents). Outcome kept k (Some value) (keys.Single place)) (some_same (record kept { rows = kept.rows ++ row_at place 0 value ∷ [] }) next same) (
        record {
          rows = refl;
          entries = sym (append-nil kept.entries);
          fabrics = sym (append-nil kept.fabrics);
          numbers = λ numbers. record { boot = numbers.boot; ceiling = numbers.ceiling; failsafe = numbers.failsafe };
        },
        record {
          rows = and_from _ _ (and_from _ _ here (and_from _ _ sound not_first)) refl;
          few = refl;
          entries = refl;
          fabrics = refl;
        },
      )
]

-- a row of a place with items is sound
module _ (fabric : ℕ) (index : is_index fabric ≡ true) (place : Place) (facts : IsItems place) where
  abbrev here : Key
  here = keys.Items fabric place

  item_stands : is_acl facts.meta.kind ≡ false → (row : Row) → is_formed place fabric facts.meta row ≡ true → row_stands here row ≡ true
  item_stands rows row formed =
      let parts = and_parts (is_at place fabric row) (has_form facts.meta fabric row.value) formed in
      let at = and_parts (same_place row.place place) (row.fabric == fabric) parts.0 in
      let there : row.place ≡ place = place-same row.place place at.0 in
      let its : row.fabric ≡ fabric = eqb-true row.fabric fabric at.1 in
      let scoped : facts.meta.scoped ≡ true = (and_parts facts.meta.kept facts.meta.scoped facts.items).1 in
      let least : 1 ≤ fabric = leb-true 1 fabric (and_parts (nat_le 1 fabric) (nat_le fabric FABRICS) index).0 in
      let some : (row.fabric == 0) ≡ false = grind (arith, its, least) in
      let form : has_form facts.meta row.fabric row.value ≡ true = ap (λ (f : ℕ). has_form facts.meta f row.value) its ∙ parts.1 in
      let stored : is_stored row.place ≡ true = ap is_stored there ∙ facts.stored ∙ ap not rows in
      let found : find_data_of row.place ≡ Ok facts.meta = ap find_data_of there ∙ facts.is_data in
      let owner : (if facts.meta.scoped then not (row.fabric == 0) else row.fabric == 0) ≡ true = rw (scoped, some) refl in
      let sound : is_sound_at row (find_data_of row.place) ≡ true = ap (is_sound_at row) found ∙ and_from _ _ form owner in
      and_from _ _ parts.0 (and_from _ _ stored sound)

  module _ (kept next : MapContents) (value : Value) where
    of_rows : is_acl facts.meta.kind ≡ false → (read : Option (List Row)) → items_in place fabric facts.meta (tree value) ≡ read → with_rows kept read ≡ Some next → Outcome kept next (Some value) here
    of_rows rows None its is = no_value next is
    of_rows rows (Some some) its is =
        let formed = items_formed place fabric facts.meta (tree value) some its in
        let all : rows_of (Some value) here ≡ some = rw (facts.is_data, rows, its) refl in
        let none : entries_of (Some value) here ≡ [] = rw (facts.is_data, rows) refl in
        let stand = all-weaker (is_formed place fabric facts.meta) (row_stands here) (item_stands rows) some formed.0 in
        subst (λ (k : MapContents). Outcome kept k (Some value) here) (some_same (record kept { rows = kept.rows ++ some }) next is) (
          record {
            rows = ap (λ (l : List Row). kept.rows ++ l) (sym all);
            entries = sym (append-nil kept.entries) ∙ ap (λ (l : List AclEntry). kept.entries ++ l) (sym none);
            fabrics = sym (append-nil kept.fabrics);
            numbers = λ numbers. record { boot = numbers.boot; ceiling = numbers.ceiling; failsafe = numbers.failsafe };
          },
          record {
            rows = ap (list_all (row_stands here)) all ∙ stand;
            few = ap (λ (l : List Row). nat_le (length l) (limit_at (find_data_of place))) all ∙ ap (λ (r : Result Meta Status). nat_le (length some) (limit_at r)) facts.is_data ∙ formed.1;
            entries = ap (list_all (entry_stands here)) none;
            fabrics = refl;
          },
        )

    of_entries : is_acl facts.meta.kind ≡ true → (read : Option (List AclEntry)) → entries_in fabric (tree value) ≡ read → with_entries kept read ≡ Some next → Outcome kept next (Some value) here
    of_entries acl None its is = no_value next is
    of_entries acl (Some some) its is =
        let all : entries_of (Some value) here ≡ some = rw (facts.is_data, acl, its) refl in
        let none : rows_of (Some value) here ≡ [] = rw (facts.is_data, acl) refl in
        subst (λ (k : MapContents). Outcome kept k (Some value) here) (some_same (record kept { entries = kept.entries ++ some }) next is) (
          record {
            rows = sym (append-nil kept.rows) ∙ ap (λ (l : List Row). kept.rows ++ l) (sym none);
            entries = ap (λ (l : List AclEntry). kept.entries ++ l) (sym all);
            fabrics = sym (append-nil kept.fabrics);
            numbers = λ numbers. record { boot = numbers.boot; ceiling = numbers.ceiling; failsafe = numbers.failsafe };
          },
          record {
            rows = ap (list_all (row_stands here)) none;
            few = ap (λ (l : List Row). nat_le (length l) (limit_at (find_data_of place))) none ∙ le-leb 0 (limit_at (find_data_of place)) (omega arith);
            entries = ap (list_all (entry_stands here)) all ∙ entries_formed fabric (tree value) some its;
            fabrics = refl;
          },
        )

    items_step : with_items_in kept fabric place (tree value) (find_data_of place) ≡ Some next → Outcome kept next (Some value) here
    items_step is =
        let found : with_items_in kept fabric place (tree value) (Ok facts.meta) ≡ Some next = ap (with_items_in kept fabric place (tree value)) (sym facts.is_data) ∙ is in
        elim (cases_Bool (is_acl facts.meta.kind)) [
          | inl acl ↦ of_entries acl (entries_in fabric (tree value)) refl (rw (facts.items, acl) at found)
          | inr rows ↦ of_rows rows (items_in place fabric facts.meta (tree value)) refl (rw (facts.items, rows) at found)
        ]

pub value_step : (kept next : MapContents) (value : Value) (key : Key) → KeyFacts key → with_value kept value key ≡ Some next → Added kept next (Some value) key × Stand (Some value) key
value_step kept next value keys.Boot facts is = boot_step kept next value (number_in greatest_boot (tree value)) (λ n its. number_fits greatest_boot (tree value) n its) is
value_step kept next value keys.Ceiling facts is = ceiling_step kept next value (number_in greatest_ceiling (tree value)) (λ n its. number_fits greatest_ceiling (tree value) n its) is
value_step kept next value (keys.Single place) facts is = single_step place facts kept next value is
value_step kept next value (keys.Items fabric place) facts is = items_step fabric facts.0 place facts.1 kept next value is
value_step kept next value (keys.Fabric index) facts is = fabric_step index kept next value (fabric_in index (tree value)) refl is
value_step kept next value keys.Roots facts is = roots_step kept next value (roots_in (tree value)) is
value_step kept next value keys.Networks facts is = networks_step kept next value (networks_in (tree value)) is
value_step kept next value keys.Failsafe facts is = failsafe_step kept next value (armed_in (tree value)) (λ armed its. armed_formed (tree value) armed its) is

-- where nothing is under a key, nothing is added
pub none_step : (kept next : MapContents) (key : Key) → Some kept ≡ Some next → Added kept next None key × Stand None key
none_step kept next key is = subst (λ (k : MapContents). Added kept k None key × Stand None key) (some_same kept next is) (
  record {
    rows = sym (append-nil kept.rows);
    entries = sym (append-nil kept.entries);
    fabrics = sym (append-nil kept.fabrics);
    numbers = λ numbers. numbers;
  },
  record {
    rows = refl;
    few = le-leb 0 (most_rows key) (omega arith);
    entries = refl;
    fabrics = refl;
  },
)
