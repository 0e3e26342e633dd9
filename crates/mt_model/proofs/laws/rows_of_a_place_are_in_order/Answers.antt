use Rattle.mt_model.proofs.Fabrics.{place_in_order}
use Rattle.mt_model.proofs.laws.rows_of_a_place_are_in_order.Goals as goal

pub returns : goal.returns
returns c = place_in_order
