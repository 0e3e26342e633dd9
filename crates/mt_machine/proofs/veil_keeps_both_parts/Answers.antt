use Rattle.mt_machine.proofs.Again.{own-again, view-again}
use Rattle.mt_machine.proofs.veil_keeps_both_parts.Goals as goal

pub returns-clause-own : goal.returns-clause-own
returns-clause-own c = λ fabric s valid. own-again fabric s valid.fabrics_rise

pub returns-clause-view : goal.returns-clause-view
returns-clause-view c = λ fabric s valid. view-again fabric s valid.fabrics_rise
