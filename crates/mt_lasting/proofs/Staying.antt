-- Of what nothing is said where parts of two states are the same, and the parts of a change in the order of keys.
use Rattle.std.proofs.Common.{◌≡◌, ◌∙◌, refl, sym, ap, ℕ, ◌==◌, Bool, false, List, [], ◌∷◌, ◌++◌, filter, map, option_map, append_assoc, append-nil, if◌then◌else◌}
use Rattle.std.proofs.lemmas.Grind.{flat_map-append}
use Rattle.std.specs.List.{find, flat_map}
use Rattle.mt_durable.specs.declared.durable.Entry.{Entry}
use Rattle.mt_model.specs.rows.Setting.{is_at, is_entry_of}
use Rattle.mt_model.specs.rows.Sight.{same_place, stands_at}
use Rattle.mt_model.specs.declared.node.state.NodeState.{NodeState}
use Rattle.mt_model.specs.declared.rows.place.Place.{Place}
use Rattle.mt_model.specs.declared.rows.place.Row.{Row}
use Rattle.mt_model.specs.declared.tables.access.AclEntry.{AclEntry}
use Rattle.mt_model.specs.declared.tables.fabric.Fabric.{Fabric}
use Rattle.mt_grammar.specs.declared.keys.Key.{Key}
use Rattle.mt_grammar.specs.declared.keys.Key.TheVariants as keys
use Rattle.mt_lasting.specs.Changes.{differing_under, rows_at_each}
use Rattle.mt_lasting.specs.Keys.{acl_place, item_places, keys_of}
use Rattle.mt_lasting.specs.Values.{array_if, entry_tree, fabric_value, has_index, row_tree, value_at}
use Rattle.mt_lasting.proofs.Differing.{flat_mapped, flat_nested, flat_none, none_differs}
use Rattle.mt_lasting.proofs.Lists.{filter-both}
use Rattle.mt_lasting.proofs.ValuesBehind.{of_rows}

-- entries to which nothing is added
pub adds_none : (entries said : List Entry) → said ≡ [] → entries ≡ entries ++ said
adds_none entries said none = sym (ap (λ (l : List Entry). entries ++ l) none ∙ append-nil entries)

first_is : {X : Type 0} (x y : X) (xs ys : List X) → x ∷ xs ≡ y ∷ ys → x ≡ y
first_is x y xs ys e = cc

rest_is : {X : Type 0} (x y : X) (xs ys : List X) → x ∷ xs ≡ y ∷ ys → xs ≡ ys
rest_is x y xs ys e = cc

module _ (s t : NodeState) where
  unsaid : (key : Key) → value_at key s 0 ≡ value_at key t 0 → differing_under s t key ≡ []
  unsaid key same = none_differs key (value_at key s 0) (value_at key t 0) same

  -- nothing is added for a key under which the same stands
  pub stays : (key : Key) → value_at key s 0 ≡ value_at key t 0 → (entries : List Entry) → entries ≡ entries ++ differing_under s t key
  stays key same entries = adds_none entries (differing_under s t key) (unsaid key same)

  -- Rows of a place.

  -- where the same rows stand at a place, each fabric has the same there
  fabrics_rows : (fabric : ℕ) (place : Place) → filter (stands_at place) s.rows ≡ filter (stands_at place) t.rows → filter (is_at place fabric) s.rows ≡ filter (is_at place fabric) t.rows
  fabrics_rows fabric place same =
      let own : Row → Bool = λ (row : Row). row.fabric == fabric in
      filter-both (stands_at place) own s.rows ∙ ap (filter own) same ∙ sym (filter-both (stands_at place) own t.rows)

  pub same_rows : (fabric : ℕ) (place : Place) → same_place place acl_place ≡ false → filter (is_at place fabric) s.rows ≡ filter (is_at place fabric) t.rows
      → value_at (keys.Items fabric place) s 0 ≡ value_at (keys.Items fabric place) t 0
  same_rows fabric place apart same = of_rows fabric place apart s ∙ ap (array_if row_tree) same ∙ sym (of_rows fabric place apart t)

  -- Items of all fabrics.
  module _ (entries : s.entries ≡ t.entries) where
    rows_unsaid : (fabric : ℕ) (place : Place) → filter (stands_at place) s.rows ≡ filter (stands_at place) t.rows → differing_under s t (keys.Items fabric place) ≡ []
    rows_unsaid fabric place rows =
        let own = fabrics_rows fabric place rows in
        unsaid (keys.Items fabric place) (λ i. if same_place place acl_place then array_if entry_tree (filter (is_entry_of fabric) (entries i)) else array_if row_tree (own i))

    places_unsaid : (fabric : ℕ) (places : List Place) → rows_at_each places s.rows ≡ rows_at_each places t.rows → flat_map (differing_under s t) (map (keys.Items fabric) places) ≡ []
    places_unsaid fabric [] same = refl
    places_unsaid fabric (place ∷ places) same =
        let here = first_is (filter (stands_at place) s.rows) (filter (stands_at place) t.rows) (rows_at_each places s.rows) (rows_at_each places t.rows) same in
        let rest = rest_is (filter (stands_at place) s.rows) (filter (stands_at place) t.rows) (rows_at_each places s.rows) (rows_at_each places t.rows) same in
        λ i. rows_unsaid fabric place here i ++ places_unsaid fabric places rest i

    fabric_unsaid : rows_at_each item_places s.rows ≡ rows_at_each item_places t.rows → (fabric : ℕ) → flat_map (differing_under s t) (keys_of fabric) ≡ []
    fabric_unsaid rows fabric =
        let own = unsaid (keys.Items fabric acl_place) (ap (λ (all : List AclEntry). array_if entry_tree (filter (is_entry_of fabric) all)) entries) in
        λ i. own i ++ places_unsaid fabric item_places rows i

    -- where entries and rows are the same, nothing is added for items of any fabric
    pub items_stay : rows_at_each item_places s.rows ≡ rows_at_each item_places t.rows → (fabrics : List ℕ) (before : List Entry)
        → before ≡ before ++ flat_map (λ fabric. flat_map (differing_under s t) (keys_of fabric)) fabrics
    items_stay rows fabrics before =
        adds_none before (flat_map (λ fabric. flat_map (differing_under s t) (keys_of fabric)) fabrics) (flat_none (λ fabric. flat_map (differing_under s t) (keys_of fabric)) (fabric_unsaid rows) fabrics)

  -- where the fabrics are the same, nothing is added for any of them
  pub fabrics_stay : s.fabrics ≡ t.fabrics → (some : List ℕ) (before : List Entry) → before ≡ before ++ flat_map (λ index. differing_under s t (keys.Fabric index)) some
  fabrics_stay same some before =
      adds_none before (flat_map (λ index. differing_under s t (keys.Fabric index)) some)
      (flat_none (λ index. differing_under s t (keys.Fabric index)) (λ index. unsaid (keys.Fabric index) (ap (λ (all : List Fabric). option_map fabric_value (find (has_index index) all)) same)) some)

-- Where nothing is said of the ceiling, all is said in the order of keys: of the boot, of attributes, of items, of fabrics, and of the last keys.
module _ (said : Key → List Entry) (ceiling : said keys.Ceiling ≡ []) (lists : ℕ → List Key) (places : List Place) (some others : List ℕ) (last : List Key) where
  abbrev singles : List Entry
  singles = flat_map (λ place. said (keys.Single place)) places

  abbrev items : List Entry
  items = flat_map (λ fabric. flat_map said (lists fabric)) some

  abbrev fabrics : List Entry
  fabrics = flat_map (λ index. said (keys.Fabric index)) others

  behind_items : flat_map said (map keys.Fabric others ++ last) ≡ fabrics ++ flat_map said last
  behind_items = flat_map-append said (map keys.Fabric others) last ∙ ap (λ (l : List Entry). l ++ flat_map said last) (flat_mapped said keys.Fabric others)

  behind_singles : flat_map said (flat_map lists some ++ (map keys.Fabric others ++ last)) ≡ items ++ (fabrics ++ flat_map said last)
  behind_singles =
      flat_map-append said (flat_map lists some) (map keys.Fabric others ++ last)
      ∙ (λ i. flat_nested said lists some i ++ behind_items i)

  all_said : flat_map said (keys.Boot ∷ keys.Ceiling ∷ (map keys.Single places ++ (flat_map lists some ++ (map keys.Fabric others ++ last))))
      ≡ said keys.Boot ++ (singles ++ (items ++ (fabrics ++ flat_map said last)))
  all_said =
      (λ i. said keys.Boot ++ (ceiling i ++ flat_map said (map keys.Single places ++ (flat_map lists some ++ (map keys.Fabric others ++ last)))))
      ∙ ap (λ (l : List Entry). said keys.Boot ++ l)
      (flat_map-append said (map keys.Single places) (flat_map lists some ++ (map keys.Fabric others ++ last))
      ∙ (λ i. flat_mapped said keys.Single places i ++ behind_singles i))

  regrouped : (one two three four five : List Entry) → (((one ++ two) ++ three) ++ four) ++ five ≡ one ++ (two ++ (three ++ (four ++ five)))
  regrouped one two three four five = simp append_assoc

  -- what is added part by part
  pub parts_tell : (begun first second third fourth end : List Entry) → begun ≡ [] → first ≡ begun ++ said keys.Boot → second ≡ first ++ singles → third ≡ second ++ items
      → fourth ≡ third ++ fabrics → end ≡ fourth ++ flat_map said last
      → end ≡ flat_map said (keys.Boot ∷ keys.Ceiling ∷ (map keys.Single places ++ (flat_map lists some ++ (map keys.Fabric others ++ last))))
  parts_tell begun first second third fourth end none one two three four five =
      five
      ∙ ap (λ (l : List Entry). l ++ flat_map said last) (four
      ∙ ap (λ (l : List Entry). l ++ fabrics) (three
      ∙ ap (λ (l : List Entry). l ++ items) (two
      ∙ ap (λ (l : List Entry). l ++ singles) (one ∙ ap (λ (l : List Entry). l ++ said keys.Boot) none))))
      ∙ regrouped (said keys.Boot) singles items fabrics (flat_map said last)
      ∙ sym all_said
