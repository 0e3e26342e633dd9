-- How a map is read: what each key adds to what is kept, and all keys one after the other.
use Rattle.std.proofs.Common.{◌≡◌, ◌∙◌, refl, sym, ap, ℕ, true, List, [], ◌∷◌, ◌++◌, Option, Some, None, filter, map, append_assoc}
use Rattle.std.proofs.lemmas.List.{append-nil}
use Rattle.std.specs.Prelude.{if◌then◌else◌}
use Rattle.std.specs.List.{flat_map}
use Rattle.mt_tlv.specs.declared.value.Value.{Value}
use Rattle.mt_durable.specs.declared.durable.Entry.{Entry}
use Rattle.mt_model.specs.rows.Setting.{is_entry_of}
use Rattle.mt_model.specs.rows.Sight.{same_place}
use Rattle.mt_model.specs.declared.node.state.NodeState.{NodeState}
use Rattle.mt_model.specs.declared.rows.place.Row.{Row}
use Rattle.mt_model.specs.declared.tables.access.AclEntry.{AclEntry}
use Rattle.mt_model.specs.declared.tables.fabric.Fabric.{Fabric}
use Rattle.mt_grammar.specs.Decoding.{and_entry, kept_after, with_entries, with_fabric, with_pair, with_rows, with_value}
use Rattle.mt_grammar.specs.Keys.{key_in}
use Rattle.mt_grammar.specs.declared.kept.MapContents.{MapContents}
use Rattle.mt_grammar.specs.declared.keys.Key.{Key}
use Rattle.mt_grammar.specs.declared.keys.Key.TheVariants as keys
use Rattle.mt_lasting.specs.Contents.{entry_at, entry_if, rows_under}
use Rattle.mt_lasting.specs.Keys.{acl_place, key_bytes}
use Rattle.mt_lasting.specs.Values.{has_index}

pub after-append : (kept : Option MapContents) (xs ys : List Entry) → kept_after kept (xs ++ ys) ≡ kept_after (kept_after kept xs) ys
after-append kept [] ys = refl
after-append kept (x ∷ xs) ys = after-append (and_entry kept x) xs ys

-- each of a list

abbrev pub Each : {X : Type 0} → (X → Type 0) → List X → Type 0
Each P [] = true ≡ true
Each P (x ∷ xs) = P x × Each P xs

pub each-append : {X : Type 0} (P : X → Type 0) (xs ys : List X) → Each P xs → Each P ys → Each P (xs ++ ys)
each-append P [] ys first second = second
each-append P (x ∷ xs) ys first second = (first.0, each-append P xs ys first.1 second)

pub each-map : {X Y : Type 0} (h : X → Y) (P : X → Type 0) (Q : Y → Type 0) → ((x : X) → P x → Q (h x)) → (xs : List X) → Each P xs → Each Q (map h xs)
each-map h P Q on [] each = each
each-map h P Q on (x ∷ xs) each = (on x each.0, each-map h P Q on xs each.1)

pub each-same : {X : Type 0} (P Q : X → Type 0) → ((x : X) → P x → Q x) → (xs : List X) → Each P xs → Each Q xs
each-same P Q on [] each = each
each-same P Q on (x ∷ xs) each = (on x each.0, each-same P Q on xs each.1)

-- with what is under one key, where anything is
abbrev pub with_under : MapContents → Option Value → Key → Option MapContents
with_under kept None key = Some kept
with_under kept (Some value) key = with_value kept value key

pub one_read : (kept : MapContents) (under : Option Value) (key : Key) → key_in (key_bytes key) ≡ Some key → kept_after (Some kept) (entry_if key under) ≡ with_under kept under key
one_read kept None key is = refl
one_read kept (Some value) key is = ap (λ (k : Option Key). with_pair kept k (Some value)) is

-- The keys that add to lists: those of attributes, of items and of fabrics.

abbrev pub entries_under : NodeState → Key → List AclEntry
entries_under s (keys.Items fabric place) = if same_place place acl_place then filter (is_entry_of fabric) s.entries else []
entries_under s key = []

abbrev pub fabrics_under : NodeState → Key → List Fabric
fabrics_under s (keys.Fabric index) = filter (has_index index) s.fabrics
fabrics_under s key = []

abbrev pub and_lists : MapContents → List Row → List AclEntry → List Fabric → MapContents
and_lists kept rows entries fabrics = record kept { rows = kept.rows ++ rows; entries = kept.entries ++ entries; fabrics = kept.fabrics ++ fabrics }

pub none_added : (kept : MapContents) → kept ≡ and_lists kept [] [] []
none_added kept = λ i. record kept { rows = sym (append-nil kept.rows) i; entries = sym (append-nil kept.entries) i; fabrics = sym (append-nil kept.fabrics) i }

pub rows_added : (kept : MapContents) (rows : List Row) → with_rows kept (Some rows) ≡ Some (and_lists kept rows [] [])
rows_added kept rows = ap Some (λ i. record kept { rows = kept.rows ++ rows; entries = sym (append-nil kept.entries) i; fabrics = sym (append-nil kept.fabrics) i })

pub entries_added : (kept : MapContents) (entries : List AclEntry) → with_entries kept (Some entries) ≡ Some (and_lists kept [] entries [])
entries_added kept entries = ap Some (λ i. record kept { rows = sym (append-nil kept.rows) i; entries = kept.entries ++ entries; fabrics = sym (append-nil kept.fabrics) i })

pub fabric_added : (kept : MapContents) (fabric : Fabric) → with_fabric kept (Some fabric) ≡ Some (and_lists kept [] [] (fabric ∷ []))
fabric_added kept fabric = ap Some (λ i. record kept { rows = sym (append-nil kept.rows) i; entries = sym (append-nil kept.entries) i; fabrics = kept.fabrics ++ fabric ∷ [] })

module _ (s : NodeState) (ceiling : ℕ) where
  -- whether a key adds to the lists what is under it
  abbrev pub IsAdded : Key → Type 0
  IsAdded key = (kept : MapContents) → kept_after (Some kept) (entry_at s ceiling key) ≡ Some (and_lists kept (rows_under s key) (entries_under s key) (fabrics_under s key))

  pub all_added : (some : List Key) → Each IsAdded some → (kept : MapContents)
      → kept_after (Some kept) (flat_map (entry_at s ceiling) some) ≡ Some (and_lists kept (flat_map (rows_under s) some) (flat_map (entries_under s) some) (flat_map (fabrics_under s) some))
  all_added [] each kept = ap Some (none_added kept)
  all_added (key ∷ some) each kept =
      let next = and_lists kept (rows_under s key) (entries_under s key) (fabrics_under s key) in
      after-append (Some kept) (entry_at s ceiling key) (flat_map (entry_at s ceiling) some)
      ∙ ap (λ (k : Option MapContents). kept_after k (flat_map (entry_at s ceiling) some)) (each.0 kept)
      ∙ all_added some each.1 next
      ∙ ap Some (λ i. record kept {
        rows = append_assoc kept.rows (rows_under s key) (flat_map (rows_under s) some) i;
        entries = append_assoc kept.entries (entries_under s key) (flat_map (entries_under s) some) i;
        fabrics = append_assoc kept.fabrics (fabrics_under s key) (flat_map (fabrics_under s) some) i;
      })
