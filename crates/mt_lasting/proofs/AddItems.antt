-- A fabric's items and entries are read back, and the fabric.
use Rattle.std.proofs.Common.{◌≡◌, ◌∙◌, refl, sym, ap, subst, ℕ, ◌≤◌, ◌&&◌, nat_le, Bool, true, List, [], ◌∷◌, Option, Some, filter, length, arith}
use Rattle.std.proofs.lemmas.Bool.{and_parts, eqb-true}
use Rattle.std.specs.Prelude.{option_map}
use Rattle.std.specs.List.{find, list_all}
use Rattle.mt_tlv.specs.View.{tree}
use Rattle.mt_model.specs.Trees.{array_of}
use Rattle.mt_model.specs.rows.Setting.{is_at, is_entry_of}
use Rattle.mt_model.specs.texts.Config.{is_fabric}
use Rattle.mt_model.specs.declared.node.state.NodeState.{NodeState}
use Rattle.mt_model.specs.declared.rows.place.Place.{Place}
use Rattle.mt_model.specs.declared.rows.place.Row.{Row}
use Rattle.mt_model.specs.declared.tables.access.AclEntry.{AclEntry}
use Rattle.mt_model.specs.declared.tables.fabric.Fabric.{Fabric}
use Rattle.mt_meta.specs.Table.{attributes_of, clusters_of, endpoints, extensions_of, globals}
use Rattle.mt_grammar.specs.Decoding.{kept_after, with_entries, with_fabric, with_rows}
use Rattle.mt_grammar.specs.Keys.{is_index, key_in}
use Rattle.mt_grammar.specs.Values.{fabric_in}
use Rattle.mt_grammar.specs.declared.kept.MapContents.{MapContents}
use Rattle.mt_grammar.specs.declared.keys.Key.{Key}
use Rattle.mt_grammar.specs.declared.keys.Key.TheVariants as keys
use Rattle.mt_lasting.specs.Contents.{entry_if}
use Rattle.mt_lasting.specs.Keys.{acl_place, key_bytes}
use Rattle.mt_lasting.specs.Values.{array_if, entry_tree, fabric_value, has_index, row_tree}
use Rattle.mt_lasting.proofs.Folding.{IsAdded, and_lists, entries_added, fabric_added, none_added, one_read, rows_added, with_under}
use Rattle.mt_lasting.proofs.ItemFacts.{IsItems}
use Rattle.mt_lasting.proofs.Lists.{first_found, first_of}
use Rattle.mt_lasting.proofs.ReadEntries.{entries_read, is_formed_of}
use Rattle.mt_lasting.proofs.ReadFabrics.{fabric_read}
use Rattle.mt_lasting.proofs.ReadItems.{is_formed, items_read}

abbrev pub is_formed_fabric : ℕ → Fabric → Bool
is_formed_fabric index fabric = has_index index fabric && is_fabric fabric

module _ (s : NodeState) (ceiling : ℕ) (fabric : ℕ) (index : is_index fabric ≡ true) where
  -- Items.

  module _ (place : Place) (facts : IsItems place) where
    of_rows : (kept : MapContents) (rows : List Row) → list_all (is_formed place fabric facts.meta facts.structs) rows ≡ true → nat_le (length rows) facts.meta.limit ≡ true
        → kept_after (Some kept) (entry_if (keys.Items fabric place) (array_if row_tree rows)) ≡ Some (and_lists kept rows [] [])
    of_rows kept [] all few = ap Some (none_added kept)
    of_rows kept (row ∷ rows) all few =
        one_read kept (Some (array_of row_tree (row ∷ rows))) (keys.Items fabric place) (facts.key fabric index)
        ∙ rw (facts.is_data, facts.items, facts.rows) (ap (with_rows kept) (items_read place fabric facts.meta facts.structs row rows all few) ∙ rows_added kept (row ∷ rows))

    pub items_added : list_all (is_formed place fabric facts.meta facts.structs) (filter (is_at place fabric) s.rows) ≡ true → nat_le (length (filter (is_at place fabric) s.rows)) facts.meta.limit ≡ true
        → IsAdded s ceiling (keys.Items fabric place)
    items_added all few kept = rw facts.no_entries (of_rows kept (filter (is_at place fabric) s.rows) all few)

  -- Entries.

  abbrev list_key : Key
  list_key = keys.Items fabric acl_place

  list_read : key_in (key_bytes list_key) ≡ Some list_key
  list_read = rw index refl

  with_list : (kept : MapContents) (entry : AclEntry) (entries : List AclEntry) → list_all (is_formed_of fabric) (entry ∷ entries) ≡ true
      → with_under kept (Some (array_of entry_tree (entry ∷ entries))) list_key ≡ Some (and_lists kept [] (entry ∷ entries) [])
  unfolding endpoints clusters_of attributes_of globals extensions_of
  with_list kept entry entries all = ap (with_entries kept) (entries_read fabric entry entries all) ∙ entries_added kept (entry ∷ entries)

  of_entries : (kept : MapContents) (entries : List AclEntry) → list_all (is_formed_of fabric) entries ≡ true
      → kept_after (Some kept) (entry_if list_key (array_if entry_tree entries)) ≡ Some (and_lists kept [] entries [])
  of_entries kept [] all = ap Some (none_added kept)
  of_entries kept (entry ∷ entries) all = one_read kept (Some (array_of entry_tree (entry ∷ entries))) list_key list_read ∙ with_list kept entry entries all

  pub entries_are_added : filter (is_at acl_place fabric) s.rows ≡ [] → list_all (is_formed_of fabric) (filter (is_entry_of fabric) s.entries) ≡ true → IsAdded s ceiling list_key
  entries_are_added none all kept = of_entries kept (filter (is_entry_of fabric) s.entries) all ∙ ap (λ (rows : List Row). Some (and_lists kept rows (filter (is_entry_of fabric) s.entries) [])) (sym none)

  -- The fabric.

  abbrev its_key : Key
  its_key = keys.Fabric fabric

  its_read : key_in (key_bytes its_key) ≡ Some its_key
  its_read = rw index refl

  with_its : (kept : MapContents) (f : Fabric) → is_formed_fabric fabric f ≡ true → with_under kept (Some (fabric_value f)) its_key ≡ Some (and_lists kept [] [] (f ∷ []))
  with_its kept f is =
      let parts = and_parts (has_index fabric f) (is_fabric f) is in
      let its : f.index ≡ fabric = eqb-true f.index fabric parts.0 in
      let read : fabric_in fabric (tree (fabric_value f)) ≡ Some f = subst (λ index. fabric_in index (tree (fabric_value f)) ≡ Some f) its (fabric_read f parts.1) in
      ap (with_fabric kept) read ∙ fabric_added kept f

  of_fabrics : (kept : MapContents) (fabrics : List Fabric) (found : Option Fabric) → found ≡ first_of fabrics → length fabrics ≤ 1 → list_all (is_formed_fabric fabric) fabrics ≡ true
      → kept_after (Some kept) (entry_if its_key (option_map fabric_value found)) ≡ Some (and_lists kept [] [] fabrics)
  of_fabrics kept [] found is few all = rw is (ap Some (none_added kept))
  of_fabrics kept (f ∷ []) found is few all = rw is (one_read kept (Some (fabric_value f)) its_key its_read ∙ with_its kept f (and_parts (is_formed_fabric fabric f) true all).0)
  of_fabrics kept (f ∷ g ∷ fabrics) found is few all = absurd (omega (arith, few))

  pub fabric_is_added : length (filter (has_index fabric) s.fabrics) ≤ 1 → list_all (is_formed_fabric fabric) (filter (has_index fabric) s.fabrics) ≡ true → IsAdded s ceiling its_key
  fabric_is_added few all kept = of_fabrics kept (filter (has_index fabric) s.fabrics) (find (has_index fabric) s.fabrics) (first_found (has_index fabric) s.fabrics) few all
