use Rattle.std.proofs.Common.{sym, subst, IsTrue, List}
use Rattle.std.specs.List.{list_all}
use Rattle.mt_model.specs.rows.Order.{are_ascending}
use Rattle.mt_model.specs.rows.Stored.{is_stored_place}
use Rattle.mt_model.specs.declared.rows.place.Row.{Row}
use Rattle.mt_meta.proofs.FirstFacts.{first-ascend, first-stored}
use Rattle.mt_meta.proofs.first.first_rows.Goals as goal

pub from_vec-requires-clause-ascending : goal.from_vec-requires-clause-ascending
from_vec-requires-clause-ascending c =
    let ascends : List Row → Type 0 = λ rows. IsTrue (are_ascending rows) in
    subst ascends (sym c.in_ok-rows.ensures) first-ascend

pub from_vec-requires-clause-stored : goal.from_vec-requires-clause-stored
from_vec-requires-clause-stored c =
    let stored : List Row → Type 0 = λ rows. IsTrue (list_all (λ (row : Row). is_stored_place row.place) rows) in
    subst stored (sym c.in_ok-rows.ensures) first-stored
