use Rattle.mt_model.proofs.Setting.{entries_ascending, other_entries_from}
use Rattle.mt_model.proofs.laws.set_entries_stand_in_order.Goals as goal

pub returns-clause-ascending : goal.returns-clause-ascending
returns-clause-ascending c = λ entries new least fabric le up own. entries_ascending fabric least new entries le up own

pub returns-clause-others : goal.returns-clause-others
returns-clause-others c = λ entries fabric up. other_entries_from fabric 0 entries up
