-- The message is that of the header and the payload.
use Rattle.std.proofs.Common.{◌≡◌, ◌≢◌, Option, Ok, Err, IfOk, IfErr, subst}
use Rattle.mt_session.specs.declared.fault.SealFault.TheVariants.{Memory}
use Rattle.mt_session.specs.Sessions.{Message}
use Rattle.mt_exchange.specs.Sending.{sealing}
use Rattle.mt_exchange.proofs.Sealings.{message_is}
use Rattle.mt_exchange.proofs.sending.sealed.Goals as goal

pub returns-in-Some-clause-sent : goal.returns-in-Some-clause-sent
returns-in-Some-clause-sent c = λ row arrivals messages s.
    let P : Option Message → Type 0 = λ m. IfOk c.seal.result (λ sent. sealing row messages m ≡ Ok sent) in
    subst P (message_is _ c.in-Some.header _ _ c.in-Some.ensures c.payload_of.ensures) (c.seal.ensures.sent row arrivals messages s)

pub returns-in-Some-clause-refused : goal.returns-in-Some-clause-refused
returns-in-Some-clause-refused c = λ row arrivals messages s.
    let P : Option Message → Type 0 = λ m. IfErr c.seal.result (λ fault. fault ≢ Memory → sealing row messages m ≡ Err fault) in
    subst P (message_is _ c.in-Some.header _ _ c.in-Some.ensures c.payload_of.ensures) (c.seal.ensures.refused row arrivals messages s)
