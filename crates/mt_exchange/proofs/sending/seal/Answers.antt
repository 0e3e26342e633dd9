-- What the session says is what the definition says.
use Rattle.mt_session.specs.Sessions.{next_datagram, refusal}
use Rattle.mt_exchange.proofs.Sealings.{refused_by, sent_by}
use Rattle.mt_exchange.proofs.sending.seal.Goals as goal

pub returns-in-Ok-clause-sent : goal.returns-in-Ok-clause-sent
returns-in-Ok-clause-sent c = λ row arrivals messages s.
    sent_by (refusal row messages c.args.header c.args.payload.now) (next_datagram row messages c.args.header c.args.payload.now) c.in-Ok.bytes
    (c.in-Ok.ensures.refused row arrivals messages s) (c.in-Ok.ensures.datagram row arrivals messages s)

pub returns-in-Err-clause-refused : goal.returns-in-Err-clause-refused
returns-in-Err-clause-refused c = λ row arrivals messages s other.
    refused_by _ (refusal row messages c.args.header c.args.payload.now) (next_datagram row messages c.args.header c.args.payload.now) c.in-Err.fault
    (c.in-Err.ensures.refused row arrivals messages s) (c.in-Err.ensures.memory row arrivals messages s) other
