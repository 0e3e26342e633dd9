use Rattle.mt_worker.proofs.Seats.{ok_is}
use Rattle.mt_worker.proofs.seat.Seat.report.Goals as goal

pub returns-clause-stands : goal.returns-clause-stands
returns-clause-stands c a is = ok_is c.report.result _ _ (λ kept. record { session = is.session; talk = kept; subscriptions = is.subscriptions }) (c.report.ensures.stands a.row a.talk is.talk)
