-- The value of an attribute with one value may stand in an element.
use Rattle.std.proofs.Common.{◌≡◌, ◌∙◌, ap, sym, inl, inr, refl, ◌==◌, ◌&&◌, Bool, true, List, [], ◌∷◌, filter}
use Rattle.std.proofs.lemmas.Bool.{and_parts, cases_Bool}
use Rattle.std.specs.List.{list_all}
use Rattle.mt_model.specs.rows.Sight.{stands_at}
use Rattle.mt_model.specs.declared.node.state.NodeState.{NodeState}
use Rattle.mt_model.specs.declared.rows.place.Place.{Place}
use Rattle.mt_model.specs.declared.rows.place.Row.{Row}
use Rattle.mt_meta.specs.Finding.{find_data_of}
use Rattle.mt_meta.specs.Forms.{has_form}
use Rattle.mt_meta.specs.Table.{attributes_of, clusters_of, endpoints, extensions_of, fields_of, globals}
use Rattle.mt_meta.specs.declared.meta.Meta.{Meta}
use Rattle.mt_grammar.specs.Values.{is_first_at}
use Rattle.mt_machine.specs.State.{IsValid}
use Rattle.mt_lasting.specs.Keys.{single_places}
use Rattle.mt_lasting.specs.Laws.{is_ok_and}
use Rattle.mt_lasting.specs.Values.{single_in, single_value}
use Rattle.mt_lasting.proofs.AddSingles.{fits_single}
use Rattle.mt_lasting.proofs.AllowedKinds.{is_bounding_kind, kind_allowed}
use Rattle.mt_lasting.proofs.AllowedTrees.{IsAllowedIf}
use Rattle.mt_lasting.proofs.Folding.{Each}
use Rattle.mt_lasting.proofs.PlaceFacts.{IsSingle}
use Rattle.mt_lasting.proofs.Valid.{rows_fit}

-- what is asked of the table
abbrev is_bounding_meta : Meta → Bool
is_bounding_meta meta = is_bounding_kind meta.kind meta.limit

abbrev pub BoundsSingle : Place → Type 0
BoundsSingle place = is_ok_and is_bounding_meta (find_data_of place) ≡ true

pub bound_singles : Each BoundsSingle single_places
unfolding endpoints clusters_of attributes_of globals extensions_of fields_of
bound_singles = (refl, (refl, (refl, (refl, (refl, (refl, (refl, refl)))))))

in_allowed : (place : Place) (meta : Meta) (rows : List Row) → is_bounding_meta meta ≡ true → list_all (fits_single place meta) rows ≡ true → IsAllowedIf (single_in place rows) 14
in_allowed place meta [] bounding fit = tt
in_allowed place meta (row ∷ rows) bounding fit =
    let first = (and_parts (fits_single place meta row) (list_all (fits_single place meta) rows) fit).0 in
    let its = (and_parts (stands_at place row) (has_form meta 0 row.value && row.fabric == 0) first).1 in
    let form = (and_parts (has_form meta 0 row.value) (row.fabric == 0) its).0 in
    elim (cases_Bool (is_first_at place row.value)) [
      | inl is ↦ rw is tt
      | inr differs ↦ rw differs (kind_allowed meta.kind meta.least meta.limit row.value bounding form)
    ]

pub single_allowed : (s : NodeState) → IsValid s → (place : Place) → IsSingle place → BoundsSingle place → IsAllowedIf (single_value place s.rows) 14
single_allowed s valid place facts bounds =
    let bounding : is_bounding_meta facts.row.meta ≡ true = ap (is_ok_and is_bounding_meta) (sym facts.is_data) ∙ bounds in
    in_allowed place facts.row.meta (filter (stands_at place) s.rows) bounding (rows_fit s valid place facts)
