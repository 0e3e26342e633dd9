-- The rows of a new node, by computation.
use Rattle.std.proofs.Common.{refl}
use Rattle.std.specs.Prelude.{IsTrue}
use Rattle.std.specs.List.{list_all}
use Rattle.mt_model.specs.rows.Order.{are_ascending}
use Rattle.mt_model.specs.rows.Stored.{is_stored_place}
use Rattle.mt_model.specs.declared.rows.place.Row.{Row}
use Rattle.mt_meta.specs.Places.{all_places}
use Rattle.mt_meta.specs.Stored.{begins_rightly, first_rows, is_stored}
use Rattle.mt_meta.specs.Table.{attributes_of, clusters_of, endpoints, extensions_of, globals}

pub all-begin : IsTrue (list_all begins_rightly all_places)
unfolding endpoints clusters_of attributes_of globals extensions_of is_stored
all-begin = refl

-- each stands at a place under which rows are kept
pub first-stored : IsTrue (list_all (λ (row : Row). is_stored_place row.place) first_rows)
unfolding endpoints clusters_of attributes_of globals extensions_of
first-stored = refl

pub first-ascend : IsTrue (are_ascending first_rows)
unfolding endpoints clusters_of attributes_of globals extensions_of
first-ascend = refl
