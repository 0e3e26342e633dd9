use Rattle.std.proofs.Common.{[]}
use Rattle.mt_ctl.specs.Showing.{datagrams_in}
use Rattle.mt_ctl.proofs.Tests.{told_of}
use Rattle.mt_ctl.proofs.laws.items_tell_of_their_datagrams.Goals as goal

pub returns : goal.returns
returns c = λ row sent.
    told_of row (λ key mark aad plain sealed. (c.opened_is_what_is_sealed.ensures key mark aad plain sealed).0) [] (datagrams_in sent)
