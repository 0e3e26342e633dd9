use Rattle.mt_ctl.proofs.Tests.{is_sealed_in}
use Rattle.mt_ctl.proofs.laws.opened_messages_are_sealed.Goals as goal

pub returns : goal.returns
returns c = λ row accepted bytes arrival h.
    is_sealed_in row accepted bytes arrival (λ key mark aad plain sealed. (c.opened_is_what_is_sealed.ensures key mark aad plain sealed).0) h
