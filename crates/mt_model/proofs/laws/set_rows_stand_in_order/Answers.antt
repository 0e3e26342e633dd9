use Rattle.mt_model.proofs.Setting.{other_rows, rows_ascending}
use Rattle.mt_model.proofs.laws.set_rows_stand_in_order.Goals as goal

pub returns-clause-ascending : goal.returns-clause-ascending
returns-clause-ascending c = λ rows place fabric values up. rows_ascending place fabric values rows up

pub returns-clause-others : goal.returns-clause-others
returns-clause-others c = λ rows place fabric up. other_rows place fabric rows up
