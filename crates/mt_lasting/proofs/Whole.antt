-- All keys of a map, one after the other: what is kept of the state.
use Rattle.std.proofs.Common.{◌≡◌, ◌∙◌, refl, sym, ap, ℕ, nat_le, true, List, [], ◌∷◌, ◌++◌, Some, map, filter}
use Rattle.std.proofs.lemmas.Bool.{and_parts}
use Rattle.std.proofs.lemmas.List.{append-nil}
use Rattle.std.proofs.lemmas.Grind.{flat_map-append}
use Rattle.std.specs.Prelude.{option_map}
use Rattle.std.specs.List.{flat_map, list_all}
use Rattle.mt_tlv.specs.View.{tree}
use Rattle.mt_durable.specs.declared.durable.Entry.{Entry}
use Rattle.mt_model.specs.rows.Setting.{is_entry_of}
use Rattle.mt_model.specs.declared.node.state.NodeState.{NodeState}
use Rattle.mt_model.specs.declared.rows.place.Place.{Place}
use Rattle.mt_model.specs.declared.tables.network.Armed.{Armed}
use Rattle.mt_grammar.specs.Decoding.{kept_after, kept_in, nothing}
use Rattle.mt_grammar.specs.Keys.{is_index}
use Rattle.mt_grammar.specs.Values.{armed_in, greatest_boot, greatest_ceiling}
use Rattle.mt_grammar.specs.declared.kept.MapContents.{MapContents}
use Rattle.mt_grammar.specs.declared.keys.Key.{Key}
use Rattle.mt_grammar.specs.declared.keys.Key.TheVariants as keys
use Rattle.mt_lasting.specs.Contents.{durable, entry_at, kept_failsafe, kept_of, rows_under}
use Rattle.mt_lasting.specs.Keys.{acl_place, all_keys, indexes, item_places, keys_of, single_places}
use Rattle.mt_lasting.specs.Values.{failsafe_value, has_index}
use Rattle.mt_lasting.proofs.AddLast.{boot_read, ceiling_read, failsafe_last, networks_last, read_on, roots_last}
use Rattle.mt_lasting.proofs.Folding.{Each, IsAdded, all_added, and_lists, each-append, each-map, entries_under, fabrics_under}

-- The keys that add to lists, and the last.

abbrev pub list_keys : List Key
list_keys = map keys.Single single_places ++ (flat_map keys_of indexes ++ map keys.Fabric indexes)

abbrev last_keys : List Key
last_keys = keys.Roots ∷ keys.Networks ∷ keys.Failsafe ∷ []

keys_parted : all_keys ≡ keys.Boot ∷ keys.Ceiling ∷ (list_keys ++ last_keys)
keys_parted = refl

indexes_are : list_all is_index indexes ≡ true
indexes_are = refl

module _ (s : NodeState) (ceiling : ℕ)
    (singles : Each (λ (place : Place). IsAdded s ceiling (keys.Single place)) single_places)
    (lists : (fabric : ℕ) → is_index fabric ≡ true → IsAdded s ceiling (keys.Items fabric acl_place))
    (items : (fabric : ℕ) → is_index fabric ≡ true → Each (λ (place : Place). IsAdded s ceiling (keys.Items fabric place)) item_places)
    (fabrics : (fabric : ℕ) → is_index fabric ≡ true → IsAdded s ceiling (keys.Fabric fabric))
    (gathered_entries : flat_map (λ fabric. filter (is_entry_of fabric) s.entries) indexes ≡ s.entries)
    (gathered_fabrics : flat_map (λ index. filter (has_index index) s.fabrics) indexes ≡ s.fabrics)
    (boots : nat_le s.boot greatest_boot ≡ true)
    (fits : nat_le ceiling greatest_ceiling ≡ true)
    (failsafe : (one : Armed) → s.armed ≡ Some one → armed_in (tree (failsafe_value one)) ≡ Some (kept_failsafe one)) where
  abbrev Added : Key → Type 0
  Added key = IsAdded s ceiling key

  of_fabric : (fabric : ℕ) → is_index fabric ≡ true → Each Added (keys_of fabric)
  of_fabric fabric is = (lists fabric is, each-map (keys.Items fabric) (λ (place : Place). Added (keys.Items fabric place)) Added (λ place added. added) item_places (items fabric is))

  of_all : (some : List ℕ) → list_all is_index some ≡ true → Each Added (flat_map keys_of some)
  of_all [] all = refl
  of_all (fabric ∷ some) all =
      let both = and_parts (is_index fabric) (list_all is_index some) all in
      each-append Added (keys_of fabric) (flat_map keys_of some) (of_fabric fabric both.0) (of_all some both.1)

  all_fabrics : (some : List ℕ) → list_all is_index some ≡ true → Each Added (map keys.Fabric some)
  all_fabrics [] all = refl
  all_fabrics (fabric ∷ some) all =
      let both = and_parts (is_index fabric) (list_all is_index some) all in
      (fabrics fabric both.0, all_fabrics some both.1)

  lists_added : Each Added list_keys
  lists_added = each-append Added (map keys.Single single_places) (flat_map keys_of indexes ++ map keys.Fabric indexes)
      (each-map keys.Single (λ (place : Place). Added (keys.Single place)) Added (λ place added. added) single_places singles)
      (each-append Added (flat_map keys_of indexes) (map keys.Fabric indexes) (of_all indexes indexes_are) (all_fabrics indexes indexes_are))

  -- what the lists are

  rows_whole : flat_map (rows_under s) all_keys ≡ flat_map (rows_under s) list_keys
  rows_whole = ap (flat_map (rows_under s)) keys_parted ∙ flat_map-append (rows_under s) list_keys last_keys ∙ append-nil (flat_map (rows_under s) list_keys)

  entries_whole : flat_map (entries_under s) list_keys ≡ s.entries
  entries_whole = gathered_entries

  fabrics_whole : flat_map (fabrics_under s) list_keys ≡ s.fabrics
  fabrics_whole = gathered_fabrics

  abbrev begun : MapContents
  begun = record nothing { boot = Some s.boot; ceiling = Some ceiling }

  abbrev filled : MapContents
  filled = and_lists begun (flat_map (rows_under s) list_keys) (flat_map (entries_under s) list_keys) (flat_map (fabrics_under s) list_keys)

  abbrev rooted : MapContents
  rooted = record filled { roots = s.roots }

  abbrev joined : MapContents
  joined = record rooted { networks = s.networks }

  abbrev at_key : Key → List Entry
  at_key key = entry_at s ceiling key

  last_read : kept_after (Some filled) (flat_map at_key last_keys) ≡ Some (record joined { failsafe = option_map kept_failsafe s.armed })
  last_read =
      read_on filled rooted (at_key keys.Roots) (flat_map at_key (keys.Networks ∷ keys.Failsafe ∷ [])) (roots_last s ceiling filled refl)
      ∙ read_on rooted joined (at_key keys.Networks) (flat_map at_key (keys.Failsafe ∷ [])) (networks_last s ceiling rooted refl)
      ∙ ap (kept_after (Some joined)) (append-nil (at_key keys.Failsafe))
      ∙ failsafe_last s ceiling joined failsafe refl

  lists_read : kept_after (Some begun) (flat_map at_key (list_keys ++ last_keys)) ≡ Some (record joined { failsafe = option_map kept_failsafe s.armed })
  lists_read =
      ap (kept_after (Some begun)) (flat_map-append at_key list_keys last_keys)
      ∙ read_on begun filled (flat_map at_key list_keys) (flat_map at_key last_keys) (all_added s ceiling list_keys lists_added begun)
      ∙ last_read

  pub whole_read : kept_in (durable s ceiling) ≡ Some (kept_of s ceiling)
  whole_read =
      ap (λ (some : List Key). kept_in (flat_map at_key some)) keys_parted
      ∙ read_on nothing (record nothing { boot = Some s.boot }) (at_key keys.Boot) (flat_map at_key (keys.Ceiling ∷ (list_keys ++ last_keys))) (boot_read s ceiling nothing boots)
      ∙ read_on (record nothing { boot = Some s.boot }) begun (at_key keys.Ceiling) (flat_map at_key (list_keys ++ last_keys)) (ceiling_read s ceiling (record nothing { boot = Some s.boot }) fits)
      ∙ lists_read
      ∙ ap Some (λ i. record joined { rows = sym rows_whole i; entries = entries_whole i; fabrics = fabrics_whole i; failsafe = option_map kept_failsafe s.armed })
