-- How many bytes the value of an attribute with one value takes at most.
use Rattle.std.proofs.Common.{◌≡◌, ◌∙◌, ap, sym, inl, inr, refl, ◌≤◌, ◌==◌, ◌&&◌, Bool, true, List, [], ◌∷◌, filter, arith}
use Rattle.std.proofs.lemmas.Bool.{and_parts, cases_Bool}
use Rattle.std.specs.List.{list_all}
use Rattle.mt_model.specs.rows.Sight.{stands_at}
use Rattle.mt_model.specs.declared.node.state.NodeState.{NodeState}
use Rattle.mt_model.specs.declared.rows.place.Place.{Place}
use Rattle.mt_model.specs.declared.rows.place.Row.{Row}
use Rattle.mt_meta.specs.Finding.{find_data_of}
use Rattle.mt_meta.specs.Forms.{has_form}
use Rattle.mt_meta.specs.Table.{attributes_of, clusters_of, endpoints, extensions_of, fields_of, globals}
use Rattle.mt_meta.specs.declared.meta.Meta.{Meta}
use Rattle.mt_grammar.specs.Values.{is_first_at}
use Rattle.mt_machine.specs.State.{IsValid}
use Rattle.mt_lasting.specs.Keys.{single_places}
use Rattle.mt_lasting.specs.Laws.{is_ok_and}
use Rattle.mt_lasting.specs.Values.{single_in, single_value}
use Rattle.mt_lasting.proofs.AddSingles.{fits_single}
use Rattle.mt_lasting.proofs.Folding.{Each}
use Rattle.mt_lasting.proofs.KindSizes.{is_short_kind, kind_size}
use Rattle.mt_lasting.proofs.PlaceFacts.{IsSingle}
use Rattle.mt_lasting.proofs.TreeSizes.{value_size}
use Rattle.mt_lasting.proofs.Valid.{rows_fit}

-- what is asked of the table
abbrev is_short : Meta → Bool
is_short meta = is_short_kind meta.kind meta.limit

abbrev pub IsShort : Place → Type 0
IsShort place = is_ok_and is_short (find_data_of place) ≡ true

pub all_short : Each IsShort single_places
unfolding endpoints clusters_of attributes_of globals extensions_of fields_of
all_short = (refl, (refl, (refl, (refl, (refl, (refl, (refl, refl)))))))

in_size : (place : Place) (meta : Meta) (rows : List Row) → is_short meta ≡ true → list_all (fits_single place meta) rows ≡ true → value_size (single_in place rows) ≤ 323
in_size place meta [] short fit = omega arith
in_size place meta (row ∷ rows) short fit =
    let first = (and_parts (fits_single place meta row) (list_all (fits_single place meta) rows) fit).0 in
    let its = (and_parts (stands_at place row) (has_form meta 0 row.value && row.fabric == 0) first).1 in
    let form = (and_parts (has_form meta 0 row.value) (row.fabric == 0) its).0 in
    elim (cases_Bool (is_first_at place row.value)) [
      | inl is ↦ rw is (omega arith)
      | inr differs ↦ rw differs (omega (arith, kind_size meta.kind meta.least meta.limit row.value short form))
    ]

pub single_size : (s : NodeState) → IsValid s → (place : Place) → IsSingle place → IsShort place → value_size (single_value place s.rows) ≤ 323
single_size s valid place facts few =
    let short : is_short facts.row.meta ≡ true = ap (is_ok_and is_short) (sym facts.is_data) ∙ few in
    in_size place facts.row.meta (filter (stands_at place) s.rows) short (rows_fit s valid place facts)
