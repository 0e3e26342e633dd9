-- A map is read key by key: each of its keys is one of all, and adds what is under it.
use Rattle.std.proofs.Common.{◌≡◌, ◌∙◌, refl, sym, ap, subst, ℕ, inl, inr, true, List, [], ◌∷◌, ◌++◌, Option, Some, None, Result, Ok, Err, append_assoc, if◌then◌else◌, map}
use Rattle.std.proofs.lemmas.Bool.{and_parts, cases_Bool}
use Rattle.std.proofs.lemmas.List.{append-nil}
use Rattle.std.specs.List.{flat_map, list_all}
use Rattle.mt_tlv.specs.Tree.{Tree}
use Rattle.mt_tlv.specs.View.{tree}
use Rattle.mt_tlv.specs.declared.value.Value.{Value}
use Rattle.mt_durable.specs.Maps.{value_under}
use Rattle.mt_durable.specs.declared.durable.Entry.{Entry}
use Rattle.mt_model.specs.declared.messages.status.Status.{Status}
use Rattle.mt_model.specs.declared.rows.place.Place.{Place}
use Rattle.mt_model.specs.declared.rows.place.Row.{Row}
use Rattle.mt_model.specs.declared.tables.access.AclEntry.{AclEntry}
use Rattle.mt_model.specs.declared.tables.fabric.Fabric.{Fabric}
use Rattle.mt_meta.specs.Finding.{find_data_of}
use Rattle.mt_meta.specs.declared.meta.Meta.{Meta}
use Rattle.mt_meta.specs.declared.rows.AttributeRow.{AttributeRow}
use Rattle.mt_grammar.specs.Decoding.{and_entry, kept_after, kept_in, nothing, with_entry, with_items_in, with_pair, with_value}
use Rattle.mt_grammar.specs.Keys.{is_index, key_in}
use Rattle.mt_grammar.specs.Values.{has_items, is_single, may_stand, may_stand_in, table_row}
use Rattle.mt_grammar.specs.declared.kept.MapContents.{MapContents}
use Rattle.mt_grammar.specs.declared.keys.Key.{Key}
use Rattle.mt_grammar.specs.declared.keys.Key.TheVariants as keys
use Rattle.mt_lasting.specs.Contents.{entry_if}
use Rattle.mt_lasting.specs.Keys.{all_keys, key_bytes}
use Rattle.mt_regained.specs.Laws.{IsKeptIn, is_of_bytes}
use Rattle.mt_regained.proofs.KeyBytes.{bytes_again, fabric_in_all, has_its_index, items_in_all, last_in_all, single_in_all}
use Rattle.mt_regained.proofs.KeyFacts.{KeyFacts, key_facts, keys_read}
use Rattle.mt_regained.proofs.Lists.{Each, IsIn, in-map}
use Rattle.mt_regained.proofs.Order.{AreOf, all_ascend, entry_of, gathered}
use Rattle.mt_regained.proofs.Places.{items_listed, single_listed}
use Rattle.mt_regained.proofs.Read.{no_value, some_same}
use Rattle.mt_regained.proofs.Steps.{Added, Numbers, Stand, entries_of, fabrics_of, none_step, rows_of, value_step}

-- Which keys are accepted.

of_row : (place : Place) (value : Value) (row : Option AttributeRow) → table_row place ≡ row → may_stand_in row value ≡ true → IsIn (keys.Single place) all_keys
of_row place value None is may = absurd cc
of_row place value (Some row) is may = single_in_all place (single_listed place row is (and_parts (is_single row.meta) _ may).0)

of_single : (kept next : MapContents) (place : Place) (value : Value) (rows : Option MapContents) → (if may_stand place value then rows else None) ≡ Some next → IsIn (keys.Single place) all_keys
of_single kept next place value rows is = elim (cases_Bool (may_stand place value)) [
  | inl may ↦ of_row place value (table_row place) refl may
  | inr none ↦
      let wrong : None ≡ Some next = rw none at is in
      absurd cc
]

of_items : (kept next : MapContents) (fabric : ℕ) (place : Place) (t : Tree) (found : Result Meta Status) → is_index fabric ≡ true → find_data_of place ≡ found → with_items_in kept fabric place t found ≡ Some next
    → IsIn (keys.Items fabric place) all_keys
of_items kept next fabric place t (Err status) index its is = no_value next is
of_items kept next fabric place t (Ok meta) index its is = elim (cases_Bool (has_items meta)) [
  | inl items ↦ items_in_all fabric place index (items_listed place meta its items)
  | inr none ↦
      let wrong : None ≡ Some next = rw none at is in
      absurd cc
]

known : (kept next : MapContents) (value : Value) (key : Key) → has_its_index key ≡ true → with_value kept value key ≡ Some next → IsIn key all_keys
known kept next value keys.Boot index is = inl refl
known kept next value keys.Ceiling index is = inr (inl refl)
known kept next value (keys.Single place) index is = of_single kept next place value _ is
known kept next value (keys.Items fabric place) index is = of_items kept next fabric place (tree value) (find_data_of place) index refl is
known kept next value (keys.Fabric one) index is = fabric_in_all one index
known kept next value keys.Roots index is = last_in_all keys.Roots (inl refl)
known kept next value keys.Networks index is = last_in_all keys.Networks (inr (inl refl))
known kept next value keys.Failsafe index is = last_in_all keys.Failsafe (inr (inr (inl refl)))

of_pair : (kept next : MapContents) (bytes : List ℕ) (key : Option Key) (value : Option Value) → is_of_bytes (record { key = bytes; value = value }) ≡ true → key_in bytes ≡ key → with_pair kept key value ≡ Some next
    → IsIn bytes (map key_bytes all_keys)
of_pair kept next bytes None value all its is = no_value next is
of_pair kept next bytes (Some key) None all its is = no_value next is
of_pair kept next bytes (Some key) (Some value) all its is =
    let again = bytes_again bytes key all its in
    subst (λ (b : List ℕ). IsIn b (map key_bytes all_keys)) again.0 (in-map key_bytes key all_keys (known kept next value key again.1 is))

none_stays : (entries : List Entry) → kept_after None entries ≡ None
none_stays [] = refl
none_stays (entry ∷ entries) = none_stays entries

all_known : (kept next : MapContents) (entries : List Entry) → list_all is_of_bytes entries ≡ true → kept_after (Some kept) entries ≡ Some next → AreOf (map key_bytes all_keys) entries
all_known kept next [] bytes is = refl
all_known kept next (entry ∷ entries) bytes is =
    let both = and_parts (is_of_bytes entry) (list_all is_of_bytes entries) bytes in
    on both.0 (λ mid rest. all_known mid next entries both.1 rest) (with_entry kept entry) refl is
  where
    on : is_of_bytes entry ≡ true → ((mid : MapContents) → kept_after (Some mid) entries ≡ Some next → AreOf (map key_bytes all_keys) entries) → (mid : Option MapContents) → with_entry kept entry ≡ mid → kept_after mid entries ≡ Some next
        → AreOf (map key_bytes all_keys) (entry ∷ entries)
    on first later None its rest = no_value next (sym (none_stays entries) ∙ rest)
    on first later (Some mid) its rest = (of_pair kept mid entry.key (key_in entry.key) entry.value first refl its, later mid rest)

-- Key by key.

after-append : (kept : Option MapContents) (xs ys : List Entry) → kept_after kept (xs ++ ys) ≡ kept_after (kept_after kept xs) ys
after-append kept [] ys = refl
after-append kept (x ∷ xs) ys = after-append (and_entry kept x) xs ys

head_same : {X : Type 0} (x y : X) (xs ys : List X) → x ∷ xs ≡ y ∷ ys → x ≡ y
head_same x y xs ys same = cc

tail_same : {X : Type 0} (x y : X) (xs ys : List X) → x ∷ xs ≡ y ∷ ys → xs ≡ ys
tail_same x y xs ys same = cc

-- what some keys add, with what is under each
pub record Lists (under : Key → Option Value) (some : List Key) (kept next : MapContents) : Type 0 where
  pub rows : next.rows ≡ kept.rows ++ flat_map (λ key. rows_of (under key) key) some
  pub entries : next.entries ≡ kept.entries ++ flat_map (λ key. entries_of (under key) key) some
  pub fabrics : next.fabrics ≡ kept.fabrics ++ flat_map (λ key. fabrics_of (under key) key) some
  pub numbers : Numbers kept → Numbers next
  pub stand : Each (λ key. Stand (under key) key) some

module _ (under : Key → Option Value) where
  abbrev entry_under : Key → List Entry
  entry_under key = entry_if key (under key)

  one_key : (kept next : MapContents) (key : Key) (value : Option Value) → KeyFacts key → key_in (key_bytes key) ≡ Some key → kept_after (Some kept) (entry_if key value) ≡ Some next → Added kept next value key × Stand value key
  one_key kept next key None facts read is = none_step kept next key is
  one_key kept next key (Some value) facts read is = value_step kept next value key facts (ap (λ (k : Option Key). with_pair kept k (Some value)) (sym read) ∙ is)

  all_added : (some : List Key) → Each KeyFacts some → map (λ key. key_in (key_bytes key)) some ≡ map Some some → (kept next : MapContents) → kept_after (Some kept) (flat_map entry_under some) ≡ Some next → Lists under some kept next
  all_added [] facts read kept next is = subst (Lists under [] kept) (some_same kept next is) (record {
    rows = sym (append-nil kept.rows);
    entries = sym (append-nil kept.entries);
    fabrics = sym (append-nil kept.fabrics);
    numbers = λ numbers. numbers;
    stand = refl;
  })
  all_added (key ∷ some) facts read kept next is =
      let tails : map (λ key. key_in (key_bytes key)) some ≡ map Some some = tail_same (key_in (key_bytes key)) (Some key) (map (λ key. key_in (key_bytes key)) some) (map Some some) read in
      on (λ mid rest. all_added some facts.1 tails mid next rest) (kept_after (Some kept) (entry_under key)) refl (sym (after-append (Some kept) (entry_under key) (flat_map entry_under some)) ∙ is)
    where
      on : ((mid : MapContents) → kept_after (Some mid) (flat_map entry_under some) ≡ Some next → Lists under some mid next) → (mid : Option MapContents) → kept_after (Some kept) (entry_under key) ≡ mid → kept_after mid (flat_map entry_under some) ≡ Some next
          → Lists under (key ∷ some) kept next
      on again None its rest = no_value next (sym (none_stays (flat_map entry_under some)) ∙ rest)
      on again (Some mid) its rest =
          let heads : key_in (key_bytes key) ≡ Some key = head_same (key_in (key_bytes key)) (Some key) (map (λ key. key_in (key_bytes key)) some) (map Some some) read in
          let first = one_key kept mid key (under key) facts.0 heads its in
          let later = again mid rest in
          record {
            rows = later.rows ∙ ap (λ (l : List Row). l ++ flat_map (λ key. rows_of (under key) key) some) first.0.rows ∙ append_assoc kept.rows (rows_of (under key) key) (flat_map (λ key. rows_of (under key) key) some);
            entries = later.entries ∙ ap (λ (l : List AclEntry). l ++ flat_map (λ key. entries_of (under key) key) some) first.0.entries ∙ append_assoc kept.entries (entries_of (under key) key) (flat_map (λ key. entries_of (under key) key) some);
            fabrics = later.fabrics ∙ ap (λ (l : List Fabric). l ++ flat_map (λ key. fabrics_of (under key) key) some) first.0.fabrics ∙ append_assoc kept.fabrics (fabrics_of (under key) key) (flat_map (λ key. fabrics_of (under key) key) some);
            numbers = λ numbers. later.numbers (first.0.numbers numbers);
            stand = (first.1, later.stand);
          }

-- The whole.

abbrev pub under_in : List Entry → Key → Option Value
under_in map key = value_under (key_bytes key) map

pub whole : (map : List Entry) (kept : MapContents) → IsKeptIn map kept → flat_map (entry_of map) all_keys ≡ map
whole map kept is = gathered all_keys map all_ascend is.ascend is.whole (all_known nothing kept map is.bytes is.read)

pub lists : (map : List Entry) (kept : MapContents) → IsKeptIn map kept → Lists (under_in map) all_keys nothing kept
lists map kept is = all_added (under_in map) all_keys key_facts keys_read nothing kept (ap kept_in (whole map kept is) ∙ is.read)
