use Rattle.mt_marks.proofs.Placed.{standing-all, stored_rows}
use Rattle.mt_marks.proofs.laws.rows_stand_at_stored_places.Goals as goal

pub returns-clause-all : goal.returns-clause-all
returns-clause-all c = standing-all

pub returns-clause-stored : goal.returns-clause-stored
returns-clause-stored c = stored_rows c.stored_places_are_those_of_the_model.ensures
