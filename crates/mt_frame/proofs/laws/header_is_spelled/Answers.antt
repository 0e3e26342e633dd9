use Rattle.mt_frame.proofs.Messages as messages
use Rattle.mt_frame.proofs.Protocols as protocols
use Rattle.mt_frame.proofs.laws.header_is_spelled.Goals as goal

pub returns-clause-message : goal.returns-clause-message
returns-clause-message c = λ bytes header len fits e. let s = messages.stands bytes header len fits e in (s.within, s.spelled)

pub returns-clause-protocol : goal.returns-clause-protocol
returns-clause-protocol c = λ bytes header len fits e. let s = protocols.stands bytes header len fits e in (s.within, s.spelled)
