-- The rows of a valid state are at stored places.
use Rattle.std.proofs.Common.{◌≡◌, ◌∙◌, ◌&&◌, refl, true, List, [], ◌∷◌, Result, Ok, Err}
use Rattle.std.proofs.lemmas.Bool.{and_from, and_parts}
use Rattle.std.specs.Prelude.{is_ok}
use Rattle.std.specs.List.{list_all}
use Rattle.mt_model.specs.rows.Stored.{is_stored_place}
use Rattle.mt_model.specs.declared.messages.status.Status.{Status}
use Rattle.mt_model.specs.declared.rows.place.Place.{Place}
use Rattle.mt_model.specs.declared.rows.place.Row.{Row}
use Rattle.mt_model.specs.declared.tables.fabric.Fabric.{Fabric}
use Rattle.mt_meta.specs.Finding.{find_data_of}
use Rattle.mt_meta.specs.Stored.{is_stored}
use Rattle.mt_meta.specs.declared.meta.Meta.{Meta}
use Rattle.mt_machine.specs.State.{is_row, is_row_at}

found : (fabrics : List Fabric) (row : Row) (meta : Result Meta Status) → is_row_at fabrics row meta ≡ true → is_ok meta ≡ true
found fabrics row (Ok meta) is = refl
found fabrics row (Err status) is = absurd (cc)

pub stored_rows : ((place : Place) → is_stored_place place ≡ (is_stored place && is_ok (find_data_of place))) → (fabrics : List Fabric) (rows : List Row)
    → list_all (is_row fabrics) rows ≡ true → list_all (λ (row : Row). is_stored_place row.place) rows ≡ true
stored_rows law fabrics [] are = refl
stored_rows law fabrics (row ∷ rows) are =
    let both = and_parts (is_row fabrics row) (list_all (is_row fabrics) rows) are in
    let parts = and_parts (is_stored row.place) (is_row_at fabrics row (find_data_of row.place)) both.0 in
    and_from _ _ (law row.place ∙ and_from _ _ parts.0 (found fabrics row (find_data_of row.place) parts.1)) (stored_rows law fabrics rows both.1)
