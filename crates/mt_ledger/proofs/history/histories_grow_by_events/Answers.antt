use Rattle.mt_ledger.proofs.Valid.{left_still, one_more}
use Rattle.mt_ledger.proofs.history.histories_grow_by_events.Goals as goal

pub returns-clause-one : goal.returns-clause-one
returns-clause-one c = λ now place priority fabric value h low is. one_more c.rings_stay_rings.ensures.pushed place priority now fabric value h low is

pub returns-clause-left : goal.returns-clause-left
returns-clause-left c = λ gone h is. left_still c.rings_stay_rings.ensures.forgotten gone h is
