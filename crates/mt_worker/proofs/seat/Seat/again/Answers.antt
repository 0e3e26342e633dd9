use Rattle.mt_model.specs.declared.texts.recording.Event.TheVariants.{Resend}
use Rattle.mt_worker.proofs.seat.Seat.again.Goals as goal

pub returns-clause-call : goal.returns-clause-call
returns-clause-call c a is = λ i. record { event = Resend c.args.now (is.session i); deed = c.in_ok-deed.ensures.deed a.row a.talk is.talk i }
