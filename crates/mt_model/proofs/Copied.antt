-- A map of the same places, where of each place's rows those are that stay.
use Rattle.std.proofs.Common.{◌≡◌, Bool, true, List, [], ◌∷◌, ◌++◌, None, refl, sym, ap, ◌∙◌, subst, filter, map, append-nil, arith}
use Rattle.std.specs.BTreeMap as tree
use Rattle.std.specs.BTreeMap.{BTreeMap, IsOrdered, insert_entry}
use Rattle.std.specs.Global.{Vec}
use Rattle.std.specs.List.{AllByRecursion, flat_map, list_all, list_any}
use Rattle.std.specs.List.Sorted.{IsStrictlySortedBy}
use Rattle.std.specs.Map.{keys_of}
use Rattle.std.specs.declared.cmp.Ordering.TheVariants.{Less, Greater}
use Rattle.std.proofs.lemmas.Grind.{common_steps}
use Rattle.std.proofs.lemmas.Bool.{and_from, and_parts}
use Rattle.std.proofs.lemmas.List.Elements.{filter-append}
use Rattle.std.proofs.lemmas.Map.Keys.{sorted_head, sorted_tail}
use Rattle.std.proofs.lemmas.Map.Made.{is_some-lookup}
use Rattle.mt_model.specs.rows.Order.{are_ascending}
use Rattle.mt_model.specs.rows.Sight.{stands_at}
use Rattle.mt_model.specs.rows.Stored.{IsKept, has_place, listed, place_order, stand_there, stored_places}
use Rattle.mt_model.specs.tables.Leaving.{stays}
use Rattle.mt_model.specs.declared.rows.place.Place.{Place}
use Rattle.mt_model.specs.declared.rows.place.Row.{Row}
use Rattle.mt_model.proofs.Setting.{ascending_filter}
use Rattle.mt_model.proofs.Stored.{Kept, all_weaker, filter_keeps}

-- where nothing is left out, all stay
pub all_stay : (rows : List Row) → filter (λ (row : Row). stays None row.fabric) rows ≡ rows
all_stay [] = refl
all_stay (row ∷ rows) = ap (λ (l : List Row). row ∷ l) (all_stay rows)

-- What is inserted behind all others.

order_back : (p q : Place) → place_order p q ≡ Less → place_order q p ≡ Greater
order_back p q e = grind (arith, common_steps)

before_last : (P : Place → Type 0) (places : List Place) (place : Place) (more : List Place) → AllByRecursion P (places ++ place ∷ more) → P place
before_last P [] place more all = all.0
before_last P (p ∷ places) place more all = before_last P places place more all.1

insert_last : (es : List Kept) (place : Place) (w : Vec Row) (more : List Place) → IsStrictlySortedBy place_order (keys_of es ++ place ∷ more) → insert_entry place_order es place w ≡ es ++ (place, w) ∷ []
insert_last [] place w more up = refl
insert_last (e ∷ es) place w more up =
    let less : place_order e.0 place ≡ Less = before_last (λ p. place_order e.0 p ≡ Less) (keys_of es) place more (sorted_head place_order e.0 (keys_of es ++ place ∷ more) up) in
    rw (order_back e.0 place less) (ap (λ (l : List Kept). e ∷ l) (insert_last es place w more (sorted_tail place_order e.0 (keys_of es ++ place ∷ more) up)))

-- A place and its rows, without the vector that they lie in.

abbrev pub Bare : Type 0
Bare = Place × List Row

abbrev pub bare : Kept → Bare
bare e = (e.0, e.1.items)

abbrev pub places_of : List Bare → List Place
places_of es = map (λ (e : Bare). e.0) es

abbrev pub rows_of : List Bare → List Row
rows_of es = flat_map (λ (e : Bare). e.1) es

abbrev pub stand : Bare → Bool
stand e = list_all (stands_at e.0) e.1

bare_places : (es : List Kept) → places_of (map bare es) ≡ keys_of es
bare_places [] = refl
bare_places (e ∷ es) = ap (λ (l : List Place). e.0 ∷ l) (bare_places es)

bare_rows : (es : List Kept) → rows_of (map bare es) ≡ listed es
bare_rows [] = refl
bare_rows (e ∷ es) = ap (λ (l : List Row). e.1.items ++ l) (bare_rows es)

bare_stand : (es : List Kept) → list_all stand (map bare es) ≡ list_all stand_there es
bare_stand [] = refl
bare_stand (e ∷ es) = rw (bare_stand es) refl

bare_append : (es : List Kept) (place : Place) (w : Vec Row) (more : List Bare) → map bare (es ++ (place, w) ∷ []) ++ more ≡ map bare es ++ (place, w.items) ∷ more
bare_append [] place w more = refl
bare_append (e ∷ es) place w more = ap (λ (l : List Bare). bare e ∷ l) (bare_append es place w more)

places_append : (es fs : List Bare) → places_of (es ++ fs) ≡ places_of es ++ places_of fs
places_append [] fs = refl
places_append (e ∷ es) fs = ap (λ (l : List Place). e.0 ∷ l) (places_append es fs)

-- A place and the copies of its rows.
module _ (p : Row → Bool) where
  abbrev pub copy_at : Kept → Bare
  copy_at e = (e.0, filter p e.1.items)

  copy_places : (es : List Kept) → places_of (map copy_at es) ≡ keys_of es
  copy_places [] = refl
  copy_places (e ∷ es) = ap (λ (l : List Place). e.0 ∷ l) (copy_places es)

  copy_rows : (es : List Kept) → rows_of (map copy_at es) ≡ filter p (listed es)
  copy_rows [] = refl
  copy_rows (e ∷ es) = ap (λ (l : List Row). filter p e.1.items ++ l) (copy_rows es) ∙ sym (filter-append p e.1.items (listed es))

  copy_stand : (es : List Kept) → list_all stand_there es ≡ true → list_all stand (map copy_at es) ≡ true
  copy_stand [] all = refl
  copy_stand (e ∷ es) all = and_from _ _ (filter_keeps e.0 0 p e.1.items (and_parts _ _ all).0) (copy_stand es (and_parts _ _ all).1)

  -- the places that were copied, the next and the rest ascend
  next_ascends : (es fs all : List Kept) (e : Kept) → IsStrictlySortedBy place_order (keys_of all) → map bare es ++ map copy_at (e ∷ fs) ≡ map copy_at all → IsStrictlySortedBy place_order (keys_of es ++ e.0 ∷ keys_of fs)
  next_ascends es fs all e up same =
      let places : keys_of all ≡ keys_of es ++ e.0 ∷ keys_of fs =
      sym (copy_places all)
      ∙ ap places_of (sym same)
      ∙ places_append (map bare es) (map copy_at (e ∷ fs))
      ∙ (λ i. bare_places es i ++ e.0 ∷ copy_places fs i) in
      subst (λ (l : List Place). IsStrictlySortedBy place_order l) places up

  -- s is what was still to copy, and fs what still is
  pub next_copied : (es new s fs all : List Kept) (e : Kept) (w : Vec Row) → IsStrictlySortedBy place_order (keys_of all) → map bare es ++ map copy_at s ≡ map copy_at all → s ≡ e ∷ fs
      → w.items ≡ filter p e.1.items → new ≡ insert_entry place_order es e.0 w → map bare new ++ map copy_at fs ≡ map copy_at all
  next_copied es new s fs all e w up so_far next is inserted =
      let same : map bare es ++ map copy_at (e ∷ fs) ≡ map copy_at all = ap (λ (l : List Kept). map bare es ++ map copy_at l) (sym next) ∙ so_far in
      ap (λ (l : List Kept). map bare l ++ map copy_at fs) (inserted ∙ insert_last es e.0 w (keys_of fs) (next_ascends es fs all e up same))
      ∙ bare_append es e.0 w (map copy_at fs)
      ∙ ap (λ (l : List Row). map bare es ++ (e.0, l) ∷ map copy_at fs) is
      ∙ same

  pub all_copied : (es s all : List Kept) → map bare es ++ map copy_at s ≡ map copy_at all → s ≡ [] → map bare es ≡ map copy_at all
  all_copied es s all so_far none = sym (append-nil (map bare es)) ∙ ap (λ (l : List Kept). map bare es ++ map copy_at l) (sym none) ∙ so_far

  -- once all places are copied
  module _ (m n : BTreeMap Place (Vec Row)) (kept : IsKept m) (ordered : IsOrdered place_order n) (same : map bare n.entries ≡ map copy_at m.entries) where
    pub copied_rows : listed n.entries ≡ filter p (listed m.entries)
    copied_rows = sym (bare_rows n.entries) ∙ ap rows_of same ∙ copy_rows m.entries

    same_places : keys_of m.entries ≡ keys_of n.entries
    same_places = sym (copy_places m.entries) ∙ ap places_of (sym same) ∙ bare_places n.entries

    place_copied : (place : Place) → has_place m place ≡ true → has_place n place ≡ true
    place_copied place there =
        is_some-lookup (tree.is_at (place_order place)) n.entries
        ∙ ap (list_any (tree.is_at (place_order place))) (sym same_places)
        ∙ sym (is_some-lookup (tree.is_at (place_order place)) m.entries)
        ∙ there

    pub copy_kept : IsKept n
    copy_kept = record {
      ordered = ordered;
      rows_stand = sym (bare_stand n.entries) ∙ ap (list_all stand) same ∙ copy_stand m.entries kept.rows_stand;
      rows_ascend = ap are_ascending copied_rows ∙ ascending_filter p (listed m.entries) kept.rows_ascend;
      all_there = all_weaker (has_place m) (has_place n) place_copied stored_places kept.all_there;
    }
